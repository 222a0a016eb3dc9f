-- A text is read as a stamp exactly where it is one.
use Rattle.std.proofs.Common.{inl, inr, ◌≡◌, ◌*◌, ℕ, List, ◌∷◌, ◌++◌, refl, sym, ap, ◌∙◌, arith}
use Rattle.std.specs.Prelude.{◌⊎◌, ℤ, pos, ◌+ℤ◌, ◌-ℤ◌, ◌*ℤ◌, codes}
use Rattle.std.proofs.lemmas.Int.{ints}
use Rattle.row_reader.specs.Forms as forms
use Rattle.row_reader.proofs.FormFacts.{hour-stamp, names-tenth, stamp-from, stamp-to}
use Rattle.stamp_laws.specs.Stamps.{HoursAreRead, IsStamp, StampsAreRead, TenthsAreRead}
use Rattle.stamp_laws.proofs.Numbers.{number_gives, number_is}
use Rattle.stamp_laws.proofs.Texts.{one_mark}
use Rattle.stamp_laws.proofs.Dates.{dashed_gives, dashed_is, date_gives, date_is}
use Rattle.stamp_laws.proofs.Times.{time_gives, time_is}

form_is : (text date time : List ℕ) (gap : ℕ) → text ≡ date ++ gap ∷ time → (gap ≡ 32) ⊎ (gap ≡ 84) → (text ≡ date ++ codes " " ++ time) ⊎ (text ≡ date ++ codes "T" ++ time)
form_is text date time gap e (inl g) = inl (e ∙ ap (λ (b : ℕ). date ++ b ∷ time) g ∙ sym (one_mark 32 date time))
form_is text date time gap e (inr g) = inr (e ∙ ap (λ (b : ℕ). date ++ b ∷ time) g ∙ sym (one_mark 84 date time))

stamp_is : (text : List ℕ) (day : ℤ) (tenths : ℕ) → forms.IsStamp text day tenths → IsStamp text day tenths
stamp_is text day tenths f = record {
  date = f.date;
  time = f.time;
  form = form_is text f.date f.time f.gap f.form f.gap_is;
  date_is = date_is f.date day f.date_is;
  time_is = time_is f.time tenths f.time_is;
}

stamp_at : (text date time : List ℕ) (day : ℤ) (tenths : ℕ) → (text ≡ date ++ codes " " ++ time) ⊎ (text ≡ date ++ codes "T" ++ time)
    → forms.IsDashed date day ⊎ forms.IsSlashed date day → forms.IsTime time tenths → forms.IsStamp text day tenths
stamp_at text date time day tenths (inl e) d t = record { date = date; gap = 32; time = time; form = e ∙ one_mark 32 date time; gap_is = inl refl; date_is = d; time_is = t }
stamp_at text date time day tenths (inr e) d t = record { date = date; gap = 84; time = time; form = e ∙ one_mark 84 date time; gap_is = inr refl; date_is = d; time_is = t }

stamp_gives : (text : List ℕ) (day : ℤ) (tenths : ℕ) → IsStamp text day tenths → forms.IsStamp text day tenths
stamp_gives text day tenths h = stamp_at text h.date h.time day tenths h.form (date_gives h.date day h.date_is) (time_gives h.time tenths h.time_is)

pub stamps_read : StampsAreRead
stamps_read text day tenths = (λ e. stamp_is text day tenths (stamp-from text day tenths e), λ h. stamp-to text day tenths (stamp_gives text day tenths h))

-- a tenth of a window by what lies before it
to_sum : (at x start : ℤ) → at ≡ x -ℤ start → (start +ℤ at) ≡ x
to_sum at x start e = omega (arith, ints)

from_sum : (at x start : ℤ) → (start +ℤ at) ≡ x → at ≡ x -ℤ start
from_sum at x start e = omega (arith, ints)

pub tenths_read : TenthsAreRead
tenths_read window text at = (
  λ e.
      let f = (names-tenth window text at).0 e in
      record { day = f.day; tenths = f.tenth; stamp = stamp_is text f.day f.tenth f.stamp; is = to_sum at (((f.day -ℤ window.day) *ℤ pos 864000) +ℤ pos f.tenth) (pos (36000 * window.hour)) f.is },
  λ h.
      (names-tenth window text at).1 (record { day = h.day; tenth = h.tenths; stamp = stamp_gives text h.day h.tenths h.stamp; is = from_sum at (((h.day -ℤ window.day) *ℤ pos 864000) +ℤ pos h.tenths) (pos (36000 * window.hour)) h.is }),
)

pub hours_read : HoursAreRead
hours_read text day hour = (
  λ e.
      let f = (hour-stamp text day hour).0 e in
      let n = number_is 2 2 23 f.hour_text hour (omega arith) (omega arith) f.hour_is in
      record { date = f.date; hour_text = f.hour_text; form = f.form ∙ sym (one_mark 84 f.date f.hour_text); date_is = dashed_is f.date day f.date_is; hour_is = n.0; hours = n.1 },
  λ h.
      (hour-stamp text day hour).1 (record { date = h.date; hour_text = h.hour_text; form = h.form ∙ one_mark 84 h.date h.hour_text; date_is = dashed_gives h.date day h.date_is; hour_is = number_gives 2 2 23 h.hour_text hour (omega arith) h.hour_is h.hours }),
)
