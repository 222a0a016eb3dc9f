-- What holds of the format as a whole.
use Rattle.std.specs.Prelude.{◌≡◌, ◌≢◌, ◌↔◌, ◌<◌, ◌≤◌, ◌^◌, ◌++◌, ℕ, List, [], ◌∷◌, length, take, Ok, Err}
use Rattle.sig_base.specs.declared.values.Row.{Row}
use Rattle.sig_base.specs.Window.{Span}
use Rattle.hour_pack.specs.declared.pack_error.PackError.{PackError}
use Rattle.hour_pack.specs.declared.pack_error.PackError.TheVariants.{NotPacked, Short, Extra}
use Rattle.hour_pack.specs.Faults.{HasCause}
use Rattle.hour_pack.specs.Grammar.{AreBytes, ArePackable, mark, packed}
use Rattle.hour_pack.specs.Reading.{reading}
use Rattle.hour_pack.specs.Number.{Spells, number_bytes}

-- two spellings of one number are one
abbrev pub OneSpelling : Type 0
OneSpelling = (a b : List ℕ) (n : ℕ) → Spells a n → Spells b n → a ≡ b

-- no spelling begins another: where two texts are the same, and each begins with a spelling, so are these and what follows them
abbrev pub NoneBeginsAnother : Type 0
NoneBeginsAnother = (a b x y : List ℕ) (m n : ℕ) → Spells a m → Spells b n → a ++ x ≡ b ++ y → (a ≡ b) × (x ≡ y)

-- each number below 2 ^ 21 has a spelling, by which a packed hour has it
abbrev pub EachIsSpelled : Type 0
EachIsSpelled = (n : ℕ) → n < 2 ^ 21 → Spells (number_bytes n) n

-- bytes are read as rows exactly where they are the packed hour of these rows, and these can be packed
abbrev pub ReadsWhatIsPacked : Type 0
ReadsWhatIsPacked =
    (signal : List ℕ) (window : Span) (hour : ℕ) (bytes : List ℕ) (rows : List Row) → hour < 744 → AreBytes bytes
    → (reading signal window hour bytes ≡ Ok rows) ↔ (ArePackable hour rows × (bytes ≡ packed signal window hour rows))

-- each fault comes exactly where it has its cause
abbrev pub FaultsHaveCauses : Type 0
FaultsHaveCauses =
    (signal : List ℕ) (window : Span) (hour : ℕ) (bytes : List ℕ) (e : PackError) → hour < 744 → AreBytes bytes
    → (reading signal window hour bytes ≡ Err e) ↔ HasCause signal window hour bytes e

-- bytes aren't packed exactly where the first four aren't the mark
abbrev pub OthersAreNotPacked : Type 0
OthersAreNotPacked =
    (signal : List ℕ) (window : Span) (hour : ℕ) (bytes : List ℕ) → hour < 744 → AreBytes bytes
    → (reading signal window hour bytes ≡ Err NotPacked) ↔ (take 4 bytes ≢ mark)

-- bytes go on exactly where they are a packed hour of this signal and this hour, and then more
abbrev pub LongerAreExtra : Type 0
LongerAreExtra =
    (signal : List ℕ) (window : Span) (hour : ℕ) (bytes : List ℕ) → hour < 744 → AreBytes bytes
    → (reading signal window hour bytes ≡ Err Extra)
    ↔ ((rows : List Row) × (byte : ℕ) × (more : List ℕ) × ArePackable hour rows × (bytes ≡ packed signal window hour rows ++ byte ∷ more))

-- behind a whole mark a fault other than the bytes' early end stays, whatever follows
abbrev pub FaultsStay : Type 0
FaultsStay =
    (signal : List ℕ) (window : Span) (hour : ℕ) (bytes more : List ℕ) (e : PackError) → hour < 744 → AreBytes bytes → 4 ≤ length bytes → e ≢ Short
    → reading signal window hour bytes ≡ Err e → reading signal window hour (bytes ++ more) ≡ Err e

-- a packed hour that is cut anywhere behind its mark ends early
abbrev pub CutsAreShort : Type 0
CutsAreShort =
    (signal : List ℕ) (window : Span) (hour : ℕ) (rows : List Row) (bytes : List ℕ) (byte : ℕ) (more : List ℕ) → ArePackable hour rows
    → packed signal window hour rows ≡ bytes ++ byte ∷ more → AreBytes bytes → 4 ≤ length bytes → reading signal window hour bytes ≡ Err Short

-- where a packed hour begins with one of whatever signal and hour, it is no longer than that
abbrev pub NoneIsCutFromAnother : Type 0
NoneIsCutFromAnother =
    (a b : List ℕ) (v w : Span) (g h : ℕ) (rows others : List Row) (more : List ℕ) → ArePackable g rows → ArePackable h others
    → packed a v g rows ++ more ≡ packed b w h others → more ≡ []
