-- What is answered for what was read.
use Rattle.std.proofs.Common.{◌≡◌, ◌<◌, ℕ, List, Ok, Err, Result, refl, sym, ap, ◌∙◌, inl, inr}
use Rattle.std.specs.Prelude.{◌⊎◌}
use Rattle.sig_base.specs.declared.values.Row.{Row}
use Rattle.sig_base.specs.HourRows.{Shown}
use Rattle.sig_base.specs.Window.{Span}
use Rattle.hour_pack.specs.declared.pack_error.PackError.{PackError}
use Rattle.hour_pack.specs.declared.pack_error.PackError.TheVariants.{NotPacked, Short, WrongSignal, WrongHour, TooManyRows, Extra, Memory}
use Rattle.hour_pack.specs.declared.pack_error.PackError.TheVariants.{Row as BadRow}
use Rattle.hour_pack.specs.Faults.{HasCause}
use Rattle.hour_pack.specs.Grammar.{AreBytes, ArePackable, packed}
use Rattle.hour_pack.specs.Reading.{IsFault, reading}
use Rattle.hour_pack.proofs.Bytes.{ok_is}
use Rattle.hour_pack.proofs.ReadingFacts.{reading-again}
use Rattle.hour_pack.proofs.ReadingFaults.{reading-fails}
use Rattle.hour_pack.proofs.CauseFacts.{cause-fault}
use Rattle.hour_pack.proofs.RowFaults.{failed}

not_read : {A : Type 0} (read : Result A PackError) (x : A) (e : PackError) → read ≡ Ok x → read ≡ Err e → e ≡ Memory
not_read read x e h k = let f : Ok x ≡ Err e = sym h ∙ k in absurd cc

-- where all is read, an error can only be that memory ran out
pub only_memory : {A : Type 0} (read : Result A PackError) (x : A) (e : PackError) → read ≡ Ok x → IsFault read e → e ≡ Memory
only_memory read x NotPacked h k = not_read read x NotPacked h k
only_memory read x Short h k = not_read read x Short h k
only_memory read x WrongSignal h k = not_read read x WrongSignal h k
only_memory read x WrongHour h k = not_read read x WrongHour h k
only_memory read x TooManyRows h k = not_read read x TooManyRows h k
only_memory read x (BadRow n) h k = not_read read x (BadRow n) h k
only_memory read x Extra h k = not_read read x Extra h k
only_memory read x Memory h k = refl

-- the rows that were read, as those of the hour
pub unpacked : (signal : List ℕ) (window : Span) (hour : ℕ) (bytes : List ℕ) (h : Shown) (rows : List Row)
    → h ≡ record { hour = hour; rows = rows; repeats = 0 } → ArePackable hour rows × (bytes ≡ packed signal window hour rows)
    → (h ≡ record { hour = hour; rows = h.rows; repeats = 0 }) × ArePackable hour h.rows × (bytes ≡ packed signal window hour h.rows)
unpacked signal window hour bytes h rows e p = rw e (refl, p.0, p.1)

-- the rows that are spelled so are those that were read
pub unpacked-only : (signal : List ℕ) (window : Span) (hour : ℕ) (bytes : List ℕ) (h : Shown) (rows others : List Row)
    → h ≡ record { hour = hour; rows = rows; repeats = 0 } → reading signal window hour bytes ≡ Ok rows
    → ArePackable hour others → bytes ≡ packed signal window hour others → h.rows ≡ others
unpacked-only signal window hour bytes h rows others e read fits k =
    let again : reading signal window hour bytes ≡ Ok others = ap (reading signal window hour) k ∙ reading-again signal window hour others fits in
    ap (λ (x : Shown). x.rows) e ∙ ok_is rows others (sym read ∙ again)

-- an error is that of the first fault, and so of its cause
pub fault-cause : (signal : List ℕ) (window : Span) (hour : ℕ) (bytes : List ℕ) (e : PackError) → hour < 744 → AreBytes bytes
    → IsFault (reading signal window hour bytes) e → (e ≡ Memory) ⊎ HasCause signal window hour bytes e
fault-cause signal window hour bytes NotPacked in_range fits h = inr (reading-fails signal window hour bytes NotPacked in_range fits h)
fault-cause signal window hour bytes Short in_range fits h = inr (reading-fails signal window hour bytes Short in_range fits h)
fault-cause signal window hour bytes WrongSignal in_range fits h = inr (reading-fails signal window hour bytes WrongSignal in_range fits h)
fault-cause signal window hour bytes WrongHour in_range fits h = inr (reading-fails signal window hour bytes WrongHour in_range fits h)
fault-cause signal window hour bytes TooManyRows in_range fits h = inr (reading-fails signal window hour bytes TooManyRows in_range fits h)
fault-cause signal window hour bytes (BadRow n) in_range fits h = inr (reading-fails signal window hour bytes (BadRow n) in_range fits h)
fault-cause signal window hour bytes Extra in_range fits h = inr (reading-fails signal window hour bytes Extra in_range fits h)
fault-cause signal window hour bytes Memory in_range fits h = inl refl

by-fault : {A : Type 0} (read : Result A PackError) (d e : PackError) → read ≡ Err d → IsFault read e → (e ≡ Memory) ⊎ (e ≡ d)
by-fault read d NotPacked h k = inr (failed read d NotPacked h k)
by-fault read d Short h k = inr (failed read d Short h k)
by-fault read d WrongSignal h k = inr (failed read d WrongSignal h k)
by-fault read d WrongHour h k = inr (failed read d WrongHour h k)
by-fault read d TooManyRows h k = inr (failed read d TooManyRows h k)
by-fault read d (BadRow n) h k = inr (failed read d (BadRow n) h k)
by-fault read d Extra h k = inr (failed read d Extra h k)
by-fault read d Memory h k = inl refl

pub cause-answered : (signal : List ℕ) (window : Span) (hour : ℕ) (bytes : List ℕ) (d e : PackError) → HasCause signal window hour bytes d
    → IsFault (reading signal window hour bytes) e → (e ≡ Memory) ⊎ (e ≡ d)
cause-answered signal window hour bytes d e h k = by-fault (reading signal window hour bytes) d e (cause-fault signal window hour bytes d h) k

-- where all is read there is no cause
pub no_cause : (signal : List ℕ) (window : Span) (hour : ℕ) (bytes : List ℕ) (rows : List Row) (d : PackError) → reading signal window hour bytes ≡ Ok rows
    → HasCause signal window hour bytes d → ⊥
no_cause signal window hour bytes rows d read h = let f : Ok rows ≡ Err d = sym read ∙ cause-fault signal window hour bytes d h in cc
