-- What is added to the sets of the colours, and taken out.
use Rattle.std.specs.Prelude.{◌≡◌, ◌⊎◌, ◌↔◌, ℕ, ℤ, pos, ◌+ℤ◌, ◌<◌, ◌≤◌, ◌≤ℤ◌, ◌<ℤ◌, List, [], length, slice_index_or}
use Rattle.span_set.specs.declared.set.Span.{Span}
use Rattle.span_set.specs.Spans.{Member, AreRanges}
use Rattle.colour_machine.specs.Mask.{Has}

-- the tenth of a colour in a table
abbrev pub at : List ℤ → ℕ → ℤ
at a d = slice_index_or a d (pos 0)

-- the set of a colour
abbrev pub set_of : List (List Span) → ℕ → List Span
set_of sets c = slice_index_or sets c []

-- no set has an entry after its colour's start
abbrev pub AreBefore : List (List Span) → List ℤ → Type 0
AreBefore sets starts = (c : ℕ) → c < 16 → (e : ℤ) → Member (set_of sets c) e → e ≤ℤ at starts c

-- the first tenth from the start on that the set doesn't have
pub record IsFree (set : List Span) (start first : ℤ) : Type 0 where
  pub ordered : AreRanges set
  pub late : start ≤ℤ first
  pub after : (e : ℤ) → Member set e → e <ℤ first
  pub taken : (e : ℤ) → start ≤ℤ e → e <ℤ first → Member set e

-- those of the first n colours, in a table of sixteen
abbrev pub AreFree : List (List Span) → List ℤ → List ℤ → ℕ → Type 0
AreFree sets starts firsts n = (length firsts ≡ 16) × ((c : ℕ) → c < n → IsFree (set_of sets c) (at starts c) (at firsts c))

-- each of the first n sets with the tenths from its start up to t
abbrev pub AreAdded : List (List Span) → List ℤ → ℤ → List (List Span) → ℕ → Type 0
AreAdded old starts t new n = (length new ≡ length old) × ((c : ℕ) → c < n → (e : ℤ) → Member (set_of new c) e ↔ (Member (set_of old c) e ⊎ ((at starts c ≤ℤ e) × (e <ℤ t))))

-- each of the first n sets without what it had from its tenth on, and the others as they were
abbrev pub AreTakenBack : List (List Span) → List ℤ → List (List Span) → ℕ → Type 0
AreTakenBack old firsts new n = (length new ≡ length old) × ((c : ℕ) → c < n → (ss : List Span) → AreRanges ss → ((e : ℤ) → Member ss e ↔ (Member (set_of old c) e × (e <ℤ at firsts c))) → set_of new c ≡ ss) × ((c : ℕ) → n ≤ c → set_of new c ≡ set_of old c)

-- the tenth where the mask has the colour, else the one after it
abbrev pub IsStart : ℕ → ℤ → ℕ → ℤ → Type 0
IsStart enter t c x = (t ≤ℤ x) × (x ≤ℤ (t +ℤ pos 1)) × ((x ≤ℤ t) ↔ Has enter c)

-- so for each of the first n colours
abbrev pub AreStarts : ℕ → ℤ → List ℤ → ℕ → Type 0
AreStarts enter t starts n = (length starts ≡ 16) × ((c : ℕ) → c < n → IsStart enter t c (at starts c))

-- what is kept of each of the first n sets, and one entry that may be new
abbrev pub IsRebuilt : List (List Span) → ℕ → ℕ → ℤ → List (List Span) → ℕ → Type 0
IsRebuilt old keep entered t new n = (length new ≡ length old) × ((c : ℕ) → c < n → (e : ℤ) → Member (set_of new c) e ↔ ((Has keep c × Member (set_of old c) e) ⊎ (Has entered c × (e ≡ t))))
