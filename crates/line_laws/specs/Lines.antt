-- What a line of a script says, by its words.
use Rattle.std.specs.Prelude.{◌≡◌, ◌≢◌, ◌≤◌, ◌⊎◌, ◌↔◌, ℕ, ℤ, List, [], ◌∷◌, ◌++◌, All, length, codes, Some}
use Rattle.sig_base.specs.Window.{Span}
use Rattle.row_reader.specs.Number.{number_of}
use Rattle.row_reader.specs.Stamp.{stamp_in}
use Rattle.script_lines.specs.Words.{Said, skip, bad, load, replace, withdraw, blank, unblank, audit, verdicts, measures, measures_of, points, offsets, said}

-- spaces (0x20) and nothing else, or nothing at all
abbrev pub AreSpaces : List ℕ → Type 0
AreSpaces bytes = All (λ b. b ≡ 32) bytes

-- one byte or more, none of them a space
abbrev pub IsWord : List ℕ → Type 0
IsWord bytes = (bytes ≢ []) × All (λ b. b ≢ 32) bytes

-- a word ends before these bytes: there are none, or the first is a space
abbrev pub EndsWord : List ℕ → Type 0
EndsWord bytes = (bytes ≡ []) ⊎ ((more : List ℕ) × (bytes ≡ 32 ∷ more))

-- the line has these words, in order: without any it's spaces; else spaces come first, then the first word as far as it goes, then a rest with the others
abbrev pub HasWords : List ℕ → List (List ℕ) → Type 0
HasWords line [] = AreSpaces line
HasWords line (word ∷ words) = (spaces rest : List ℕ) × (line ≡ spaces ++ (word ++ rest)) × AreSpaces spaces × IsWord word × EndsWord rest × HasWords rest words

-- each line has one list of words
abbrev pub LinesHaveWords : Type 0
LinesHaveWords = (line : List ℕ) → (words : List (List ℕ)) × HasWords line words × ((others : List (List ℕ)) → HasWords line others → others ≡ words)

-- a line of these words is passed over: it has none, or the first begins with `#`
abbrev pub ArePassedOver : List (List ℕ) → Type 0
ArePassedOver words = (words ≡ []) ⊎ ((comment : List ℕ) × (others : List (List ℕ)) × (words ≡ (codes "#" ++ comment) ∷ others))

-- each byte is one of 0x20 to 0x7E
abbrev pub ArePrintable : List ℕ → Type 0
ArePrintable line = All (λ b. (32 ≤ b) × (b ≤ 126)) line

-- the word is a number of one to six digits, and this is the hour
abbrev pub IsHour : List ℕ → ℕ → Type 0
IsHour word hour = number_of 1 6 999999 word ≡ Some hour

-- the word is a number of one or two digits, and this is the phase
abbrev pub IsPhase : List ℕ → ℕ → Type 0
IsPhase word phase = number_of 1 2 99 word ≡ Some phase

-- the word is a stamp, and this is its tenth, counted from the window's start
abbrev pub IsStamp : Span → List ℕ → ℤ → Type 0
IsStamp w word tenth = stamp_in w word ≡ Some tenth

-- the word is a name: it has 1 to 255 bytes
abbrev pub IsName : List ℕ → Type 0
IsName word = (1 ≤ length word) × (length word ≤ 255)

-- the words are this edit or ask for this report
abbrev pub AreCommand : Span → List (List ℕ) → Said → Type 0
AreCommand w words (load hour name) = (h : List ℕ) × (words ≡ codes "load" ∷ h ∷ name ∷ []) × IsHour h hour × IsName name
AreCommand w words (replace hour name) = (h : List ℕ) × (words ≡ codes "replace" ∷ h ∷ name ∷ []) × IsHour h hour × IsName name
AreCommand w words (withdraw hour) = (h : List ℕ) × (words ≡ codes "withdraw" ∷ h ∷ []) × IsHour h hour
AreCommand w words (blank from to) = (f t : List ℕ) × (words ≡ codes "blank" ∷ f ∷ t ∷ []) × IsStamp w f from × IsStamp w t to
AreCommand w words (unblank from to) = (f t : List ℕ) × (words ≡ codes "unblank" ∷ f ∷ t ∷ []) × IsStamp w f from × IsStamp w t to
AreCommand w words audit = words ≡ codes "audit" ∷ []
AreCommand w words (verdicts hour) = (h : List ℕ) × (words ≡ codes "verdicts" ∷ h ∷ []) × IsHour h hour
AreCommand w words measures = words ≡ codes "measures" ∷ []
AreCommand w words (measures_of hour) = (h : List ℕ) × (words ≡ codes "measures" ∷ h ∷ []) × IsHour h hour
AreCommand w words (points phase) = (p : List ℕ) × (words ≡ codes "points" ∷ p ∷ []) × IsPhase p phase
AreCommand w words (offsets name) = (words ≡ codes "offsets" ∷ name ∷ []) × IsName name
AreCommand w words skip = ⊥
AreCommand w words bad = ⊥

-- the line says this, in this window: nothing, where it's passed over; else the command that its words are, where all its bytes are printable; else it's bad
abbrev pub Says : Span → List ℕ → Said → Type 0
Says w line x = (words : List (List ℕ)) × HasWords line words × (
    (ArePassedOver words × (x ≡ skip)) ⊎ (
    ((¬ ArePassedOver words) × AreCommand w words x × ArePrintable line) ⊎
    ((¬ ArePassedOver words) × (ArePrintable line → (y : Said) → ¬ AreCommand w words y) × (x ≡ bad))))

-- what a line says is what it says by its words
abbrev pub LinesAreSaid : Type 0
LinesAreSaid = (w : Span) (line : List ℕ) (x : Said) → (said w line ≡ x) ↔ Says w line x
