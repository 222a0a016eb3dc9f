-- A date in one of its forms is read as its day.
use Rattle.std.proofs.Common.{inl, inr, ◌≡◌, ◌<◌, ◌≤◌, ◌^◌, ℕ, true, List, Option, Some, None, refl, sym, ap, ◌∙◌, arith}
use Rattle.std.specs.Prelude.{◌&&◌, ◌⊎◌, nat_le, ℤ, pos}
use Rattle.std.proofs.lemmas.Bool.{le-leb, leb-true}
use Rattle.jiff_core.specs.Calendar.{days_from_civil, days_in_month}
use Rattle.sig_base.proofs.Common.{and_first, and_last}
use Rattle.row_reader.specs.Number.{number_of}
use Rattle.row_reader.specs.Stamp.{civil_day, day_of}
use Rattle.row_reader.specs.Forms as forms
use Rattle.stamp_laws.specs.Numbers.{IsNumber}
use Rattle.stamp_laws.specs.Dates.{IsDayOf, IsDashed, IsSlashed, IsDate}
use Rattle.stamp_laws.proofs.Numbers.{chosen, number_below, number_gives, number_is}
use Rattle.stamp_laws.proofs.Texts.{two_marks}

-- the three numbers of a date that has a day
record AreThere (y m d : Option ℕ) (day : ℤ) : Type 0 where
  pub year : ℕ
  pub month : ℕ
  pub date : ℕ
  pub year_is : y ≡ Some year
  pub month_is : m ≡ Some month
  pub date_is : d ≡ Some date
  pub day_is : civil_day year month date ≡ Some day

are_there : (y m d : Option ℕ) (day : ℤ) → day_of y m d ≡ Some day → AreThere y m d day
are_there None m d day e = cc
are_there (Some y) None d day e = cc
are_there (Some y) (Some m) None day e = cc
are_there (Some y) (Some m) (Some d) day e = record { year = y; month = m; date = d; year_is = refl; month_is = refl; date_is = refl; day_is = e }

-- a number of two digits is below 100, and one of four below 10,000
two_digits : (least : ℕ) (text : List ℕ) (n : ℕ) → IsNumber least 2 text n → number_of least 2 99 text ≡ Some n
two_digits least text n h =
    let low : n < 10 ^ 2 = number_below least 2 text n (omega arith) h in
    number_gives least 2 99 text n (omega arith) h (omega arith)

four_digits : (text : List ℕ) (n : ℕ) → IsNumber 4 4 text n → number_of 4 4 9999 text ≡ Some n
four_digits text n h =
    let low : n < 10 ^ 4 = number_below 4 4 text n (omega arith) h in
    number_gives 4 4 9999 text n (omega arith) h (omega arith)

module _ (least : ℕ) (y m d : List ℕ) (day : ℤ) where
  day_is : 1 ≤ least → day_of (number_of 4 4 9999 y) (number_of least 2 99 m) (number_of least 2 99 d) ≡ Some day → IsDayOf least y m d day
  day_is some e =
      let r = are_there (number_of 4 4 9999 y) (number_of least 2 99 m) (number_of least 2 99 d) day e in
      let january = nat_le 1 r.month in
      let december = nat_le r.month 12 in
      let first = nat_le 1 r.date in
      let last = nat_le r.date (days_in_month (pos r.year) r.month) in
      let t = chosen (january && december && first && last) (days_from_civil (pos r.year) r.month r.date) day r.day_is in
      let begun : (january && december && first) ≡ true = and_first (january && december && first) last t.0 in
      let in_year : (january && december) ≡ true = and_first (january && december) first begun in
      record {
        year = r.year;
        month = r.month;
        date = r.date;
        year_is = (number_is 4 4 9999 y r.year (omega arith) (omega arith) r.year_is).0;
        month_is = (number_is least 2 99 m r.month some (omega arith) r.month_is).0;
        date_is = (number_is least 2 99 d r.date some (omega arith) r.date_is).0;
        january = leb-true 1 r.month (and_first january december in_year);
        december = leb-true r.month 12 (and_last january december in_year);
        first = leb-true 1 r.date (and_last (january && december) first begun);
        last = leb-true r.date (days_in_month (pos r.year) r.month) (and_last (january && december && first) last t.0);
        counted = sym t.1;
      }

  day_gives : IsDayOf least y m d day → day_of (number_of 4 4 9999 y) (number_of least 2 99 m) (number_of least 2 99 d) ≡ Some day
  day_gives h =
      let year = four_digits y h.year h.year_is in
      let month = two_digits least m h.month h.month_is in
      let date = two_digits least d h.date h.date_is in
      let last = le-leb h.date (days_in_month (pos h.year) h.month) h.last in
      rw (year, month, date, le-leb 1 h.month h.january, le-leb h.month 12 h.december, le-leb 1 h.date h.first, last) (ap Some (sym h.counted))

pub dashed_is : (text : List ℕ) (day : ℤ) → forms.IsDashed text day → IsDashed text day
dashed_is text day f = record {
  year = f.year;
  month = f.month;
  date = f.date;
  form = f.form ∙ sym (two_marks 45 f.year f.month f.date);
  day_is = day_is 2 f.year f.month f.date day (omega arith) f.is;
}

pub dashed_gives : (text : List ℕ) (day : ℤ) → IsDashed text day → forms.IsDashed text day
dashed_gives text day h = record {
  year = h.year;
  month = h.month;
  date = h.date;
  form = h.form ∙ two_marks 45 h.year h.month h.date;
  is = day_gives 2 h.year h.month h.date day h.day_is;
}

slashed_is : (text : List ℕ) (day : ℤ) → forms.IsSlashed text day → IsSlashed text day
slashed_is text day f = record {
  month = f.month;
  date = f.date;
  year = f.year;
  form = f.form ∙ sym (two_marks 47 f.month f.date f.year);
  day_is = day_is 1 f.year f.month f.date day (omega arith) f.is;
}

slashed_gives : (text : List ℕ) (day : ℤ) → IsSlashed text day → forms.IsSlashed text day
slashed_gives text day h = record {
  month = h.month;
  date = h.date;
  year = h.year;
  form = h.form ∙ two_marks 47 h.month h.date h.year;
  is = day_gives 1 h.year h.month h.date day h.day_is;
}

pub date_is : (text : List ℕ) (day : ℤ) → forms.IsDashed text day ⊎ forms.IsSlashed text day → IsDate text day
date_is text day (inl f) = inl (dashed_is text day f)
date_is text day (inr f) = inr (slashed_is text day f)

pub date_gives : (text : List ℕ) (day : ℤ) → IsDate text day → forms.IsDashed text day ⊎ forms.IsSlashed text day
date_gives text day (inl h) = inl (dashed_gives text day h)
date_gives text day (inr h) = inr (slashed_gives text day h)
