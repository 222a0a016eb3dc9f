-- A text up to and with the second colon of a stamp is the minute of all that goes on from it.
use Rattle.std.proofs.Common.{◌≡◌, ◌+◌, ◌*◌, ℕ, List, [], ◌∷◌, ◌++◌, length, take, refl, ap, arith, append_assoc, inl, inr}
use Rattle.std.specs.Prelude.{◌⊎◌, ℤ, Option, Some, option_map}
use Rattle.std.specs.Option.{option_or}
use Rattle.std.proofs.lemmas.List.{take_at, length-append}
use Rattle.sig_base.specs.Window.{Span, tenth_in}
use Rattle.row_reader.specs.Number.{number_of}
use Rattle.row_reader.specs.Stamp.{cut, date_of, seconds_of, stamp_in, stamp_of}
use Rattle.row_reader.specs.Forms.{IsTime}
use Rattle.row_reader.specs.Minute.{IsMinute}
use Rattle.row_reader.proofs.CutFacts.{cut-splits}
use Rattle.row_reader.proofs.FormFacts.{date-from, or-from, seconds-from, stamp-to}

-- the parts of a text that begins with a minute
pub record HasMinute (text date hour minute seconds : List ℕ) (day : ℤ) (h m : ℕ) : Type 0 where
  pub time : List ℕ
  pub rest : List ℕ
  pub at_gap : option_or (cut 32 text) (cut 84 text) ≡ Some (date, time)
  pub at_hour : cut 58 time ≡ Some (hour, rest)
  pub at_minute : cut 58 rest ≡ Some (minute, seconds)
  pub day_is : date_of date ≡ Some day
  pub hour_is : number_of 1 2 23 hour ≡ Some h
  pub minute_is : number_of 2 2 59 minute ≡ Some m

-- the text of a minute, and then this
abbrev with_seconds : ℕ → List ℕ → List ℕ → List ℕ → List ℕ → List ℕ
with_seconds gap date hour minute seconds = date ++ gap ∷ (hour ++ 58 ∷ (minute ++ 58 ∷ seconds))

stamp-of-minute : (gap : ℕ) (date hour minute rest : List ℕ) (day : ℤ) (h m s : ℕ) → (gap ≡ 32) ⊎ (gap ≡ 84)
    → date_of date ≡ Some day → number_of 1 2 23 hour ≡ Some h → number_of 2 2 59 minute ≡ Some m → seconds_of (cut 46 rest) rest ≡ Some s
    → stamp_of (with_seconds gap date hour minute rest) ≡ Some (day, 36000 * h + 600 * m + s)
stamp-of-minute gap date hour minute rest day h m s g ed eh em es =
    let time : IsTime (hour ++ 58 ∷ (minute ++ 58 ∷ rest)) (36000 * h + 600 * m + s) = record {
      hour = hour;
      minute = minute;
      seconds = rest;
      form = refl;
      of_minute = s;
      seconds_are = seconds-from rest s (cut 46 rest) refl es;
      is = rw (eh, em) refl;
    } in
    stamp-to (with_seconds gap date hour minute rest) day (36000 * h + 600 * m + s)
    (record { date = date; gap = gap; time = hour ++ 58 ∷ (minute ++ 58 ∷ rest); form = refl; gap_is = g; date_is = date-from date day ed; time_is = time })

-- a text that is cut at a space or at a `T`
gap-cases : (text date time : List ℕ) → (cut 32 text ≡ Some (date, time)) ⊎ (cut 84 text ≡ Some (date, time))
    → (gap : ℕ) × ((gap ≡ 32) ⊎ (gap ≡ 84)) × (text ≡ date ++ gap ∷ time)
gap-cases text date time (inl e) = (32, inl refl, cut-splits 32 text date time e)
gap-cases text date time (inr e) = (84, inr refl, cut-splits 84 text date time e)

whole-of : (gap : ℕ) (text date time hour rest minute seconds : List ℕ) → text ≡ date ++ gap ∷ time → time ≡ hour ++ 58 ∷ rest → rest ≡ minute ++ 58 ∷ seconds
    → text ≡ with_seconds gap date hour minute [] ++ seconds
whole-of gap text date time hour rest minute seconds a b c = rw (a, b, c) (simp append_assoc)

front-minute : (gap : ℕ) (text date hour minute seconds : List ℕ) (day : ℤ) (h m n : ℕ) → (gap ≡ 32) ⊎ (gap ≡ 84)
    → text ≡ with_seconds gap date hour minute [] ++ seconds → date_of date ≡ Some day → number_of 1 2 23 hour ≡ Some h → number_of 2 2 59 minute ≡ Some m
    → n ≡ length date + length hour + length minute + 3 → IsMinute (take n text) day (36000 * h + 600 * m)
front-minute gap text date hour minute seconds day h m n g whole ed eh em e =
    let front = with_seconds gap date hour minute [] in
    let len : length front ≡ n = simp length-append (omega (arith, e)) in
    let t : take n text ≡ front = rw whole (take_at front seconds n len) in
    rw t (λ rest s es. (simp append_assoc (stamp-of-minute gap date hour minute rest day h m s g ed eh em es)))

pub is-minute : (text date hour minute seconds : List ℕ) (day : ℤ) (h m n : ℕ) → HasMinute text date hour minute seconds day h m
    → n ≡ length date + length hour + length minute + 3 → IsMinute (take n text) day (36000 * h + 600 * m)
is-minute text date hour minute seconds day h m n p e =
    let g = gap-cases text date p.time (or-from (cut 32 text) (cut 84 text) (date, p.time) p.at_gap) in
    front-minute g.0 text date hour minute seconds day h m n g.1
    (whole-of g.0 text date p.time hour p.rest minute seconds g.2 (cut-splits 58 p.time hour p.rest p.at_hour) (cut-splits 58 p.rest minute seconds p.at_minute))
    p.day_is p.hour_is p.minute_is e

-- the tenth that a minute's text and these seconds name
pub minute-tenth : (window : Span) (text seconds : List ℕ) (day : ℤ) (start s : ℕ) → IsMinute text day start → seconds_of (cut 46 seconds) seconds ≡ Some s
    → stamp_in window (text ++ seconds) ≡ Some (tenth_in window day (start + s))
minute-tenth window text seconds day start s h e = ap (λ (o : Option (ℤ × ℕ)). option_map (λ p. tenth_in window p.0 p.1) o) (h seconds s e)
