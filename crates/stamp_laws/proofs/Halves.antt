-- A date is read as that of a stamp, and so is a time.
use Rattle.std.proofs.Common.{inl, inr, ◌≡◌, ◌+◌, ◌*◌, ℕ, List, ◌∷◌, ◌++◌, Option, Some, None, refl, sym, ap, ◌∙◌, arith}
use Rattle.std.specs.Prelude.{◌⊎◌, ℤ, pos, codes, option_map}
use Rattle.std.specs.Option.{option_or}
use Rattle.jiff_core.specs.Calendar.{days_from_civil}
use Rattle.row_reader.specs.Number.{number_of}
use Rattle.row_reader.specs.Stamp.{at_cut, both, cut, date_of, minutes_of, seconds_of, stamp_of, tenth_of_day, tenths, time_of}
use Rattle.row_reader.specs.Forms as forms
use Rattle.row_reader.proofs.CutFacts.{Lacks, cut-found, cut-splits}
use Rattle.row_reader.proofs.FormFacts.{date-from, date-lacks, stamp-to}
use Rattle.stamp_laws.specs.Dates.{DatesAreRead}
use Rattle.stamp_laws.specs.Times.{TimesAreRead}
use Rattle.stamp_laws.proofs.Dates.{date_gives, date_is}
use Rattle.stamp_laws.proofs.Times.{time_gives, time_is}

-- a stamp with a space is read by its halves
halves : (date time : List ℕ) → Lacks 32 date → stamp_of (date ++ 32 ∷ time) ≡ both (date_of date) (time_of time)
halves date time h = ap (λ (o : Option (List ℕ × List ℕ)). at_cut (λ d t. both (date_of d) (time_of t)) (option_or o (cut 84 (date ++ 32 ∷ time)))) (cut-found 32 date time h)

first_there : (o : Option ℤ) (p : Option ℕ) (day : ℤ) (tenth : ℕ) → both o p ≡ Some (day, tenth) → o ≡ Some day
first_there None p day tenth e = cc
first_there (Some x) None day tenth e = cc
first_there (Some x) (Some y) day tenth e = ap (λ (o : Option (ℤ × ℕ)). option_map (λ p. p.0) o) e

second_there : (o : Option ℤ) (p : Option ℕ) (day : ℤ) (tenth : ℕ) → both o p ≡ Some (day, tenth) → p ≡ Some tenth
second_there None p day tenth e = cc
second_there (Some x) None day tenth e = cc
second_there (Some x) (Some y) day tenth e = ap (λ (o : Option (ℤ × ℕ)). option_map (λ p. p.1) o) e

midnight : forms.IsTime (codes "0:00:00") 0
midnight = record { hour = codes "0"; minute = codes "00"; seconds = codes "00"; form = refl; of_minute = 0; seconds_are = inl (record { second = 0; form = refl; is = refl }); is = refl }

-- a date is read as that of its midnight
date_reads : (text : List ℕ) (day : ℤ) → forms.IsDashed text day ⊎ forms.IsSlashed text day → date_of text ≡ Some day
date_reads text day h =
    let f : forms.IsStamp (text ++ 32 ∷ codes "0:00:00") day 0 = record { date = text; gap = 32; time = codes "0:00:00"; form = refl; gap_is = inl refl; date_is = h; time_is = midnight } in
    let l = date-lacks 32 text day refl (λ q. omega arith) (λ q. omega arith) h in
    first_there (date_of text) (time_of (codes "0:00:00")) day 0 (sym (halves text (codes "0:00:00") l) ∙ stamp-to _ day 0 f)

pub dates_read : DatesAreRead
dates_read text day = (λ e. date_is text day (date-from text day e), λ h. date_reads text day (date_gives text day h))

-- ---- times

first_day : ℤ
first_day = days_from_civil (pos 1970) 1 1

epoch : forms.IsDashed (codes "1970-01-01") first_day
unfolding first_day
epoch = record { year = codes "1970"; month = codes "01"; date = codes "01"; form = refl; is = refl }

-- a time is read as that of a day
time_reads : (text : List ℕ) (tenth : ℕ) → forms.IsTime text tenth → time_of text ≡ Some tenth
time_reads text tenth h =
    let f : forms.IsStamp (codes "1970-01-01" ++ 32 ∷ text) first_day tenth = record { date = codes "1970-01-01"; gap = 32; time = text; form = refl; gap_is = inl refl; date_is = inl epoch; time_is = h } in
    let l = date-lacks 32 (codes "1970-01-01") first_day refl (λ q. omega arith) (λ q. omega arith) (inl epoch) in
    second_there (date_of (codes "1970-01-01")) (time_of text) first_day tenth (sym (halves (codes "1970-01-01") text l) ∙ stamp-to _ first_day tenth f)

-- what a text that is read was cut into
was_cut : {A : Type 0} (f : List ℕ → List ℕ → Option A) (o : Option (List ℕ × List ℕ)) (v : A) → at_cut f o ≡ Some v → (a : List ℕ) × (b : List ℕ) × (o ≡ Some (a, b)) × (f a b ≡ Some v)
was_cut f None v e = cc
was_cut f (Some p) v e = (p.0, p.1, refl, e)

second_known : (h m s : Option ℕ) (v : ℕ) → tenth_of_day h m s ≡ Some v → (x : ℕ) × (s ≡ Some x)
second_known None m s v e = cc
second_known (Some h) None s v e = cc
second_known (Some h) (Some m) None v e = cc
second_known (Some h) (Some m) (Some s) v e = (s, refl)

whole_is : (text : List ℕ) (s : ℕ) (o : Option ℕ) → number_of 2 2 59 text ≡ o → tenths o (Some 0) ≡ Some s → forms.IsWhole text s
whole_is text s None e f = cc
whole_is text s (Some k) e f = record { second = k; form = e; is = let q : 10 * k + 0 ≡ s = cc in omega arith }

seconds_are : (text : List ℕ) (s : ℕ) (o : Option (List ℕ × List ℕ)) → cut 46 text ≡ o → seconds_of o text ≡ Some s → forms.IsWhole text s ⊎ forms.IsBroken text s
seconds_are text s None e f = inl (whole_is text s (number_of 2 2 59 text) refl f)
seconds_are text s (Some p) e f = inr (record { whole = p.0; fraction = p.1; form = cut-splits 46 text p.0 p.1 e; is = f })

time_form : (text : List ℕ) (tenth : ℕ) → time_of text ≡ Some tenth → forms.IsTime text tenth
time_form text tenth e =
    let p = was_cut minutes_of (cut 58 text) tenth e in
    let q = was_cut (λ (minute second : List ℕ). tenth_of_day (number_of 1 2 23 p.0) (number_of 2 2 59 minute) (seconds_of (cut 46 second) second)) (cut 58 p.1) tenth p.3 in
    let s = second_known (number_of 1 2 23 p.0) (number_of 2 2 59 q.0) (seconds_of (cut 46 q.1) q.1) tenth q.3 in
    record {
      hour = p.0;
      minute = q.0;
      seconds = q.1;
      form = cut-splits 58 text p.0 p.1 p.2 ∙ ap (λ (r : List ℕ). p.0 ++ 58 ∷ r) (cut-splits 58 p.1 q.0 q.1 q.2);
      of_minute = s.0;
      seconds_are = seconds_are q.1 s.0 (cut 46 q.1) refl s.1;
      is = ap (λ (o : Option ℕ). tenth_of_day (number_of 1 2 23 p.0) (number_of 2 2 59 q.0) o) (sym s.1) ∙ q.3;
    }

pub times_read : TimesAreRead
times_read text tenths = (λ e. time_is text tenths (time_form text tenths e), λ h. time_reads text tenths (time_gives text tenths h))
