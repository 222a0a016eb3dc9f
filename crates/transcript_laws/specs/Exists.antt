-- What it can't be that there is none of.
use Rattle.std.specs.Prelude.{◌≡◌, ◌++◌, ℕ, List, false}
use Rattle.outside.specs.Shelf.{Files}
use Rattle.sigaudit.specs.Asked.{asked_of}
use Rattle.sigaudit.specs.declared.status.Ended.{Ended}
use Rattle.sigaudit.specs.Transcript.{IsBeginning, IsTranscript, asks_pairs}

-- it can't be that there is none
abbrev pub NotNone : Type 0 → Type 0
NotNone A = (A → ⊥) → ⊥

-- it can't be that the words, unless they ask for pairs, and the files have no transcript
abbrev pub TranscriptsExist : Type 0
TranscriptsExist =
    (words : List (List ℕ)) (files : Files) → asks_pairs (asked_of words) ≡ false
    → NotNone ((bytes : List ℕ) × (ended : Ended) × IsTranscript words files bytes ended)

-- it can't be, unless the words ask for pairs, that no transcript begins with what a script's first lines write
abbrev pub PrefixesAreOfTranscripts : Type 0
PrefixesAreOfTranscripts =
    (words : List (List ℕ)) (files : Files) (k : ℕ) (front : List ℕ) → asks_pairs (asked_of words) ≡ false
    → IsBeginning k words files front
    → NotNone ((bytes : List ℕ) × (ended : Ended) × (rest : List ℕ) × IsTranscript words files bytes ended
    × (bytes ≡ front ++ rest))
