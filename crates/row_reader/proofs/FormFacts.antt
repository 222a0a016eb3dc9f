-- A text is read as a stamp exactly where it has one of the written forms.
use Rattle.std.proofs.Common.{◌≡◌, ◌+◌, ◌*◌, ℕ, false, List, ◌∷◌, ◌++◌, refl, sym, ap, ◌∙◌, arith, inl, inr}
use Rattle.std.specs.Prelude.{◌≢◌, ◌⊎◌, ◌↔◌, ℤ, Option, Some, None, option_map, slice_index}
use Rattle.std.specs.Option.{option_or}
use Rattle.sig_base.specs.Window.{Span, tenth_in}
use Rattle.row_reader.specs.Number.{is_digit, digit, number_of}
use Rattle.row_reader.specs.Stamp.{cut, at_cut, day_of, dashed_month, dashed_date, slashed_day, slashed_date, date_of, first_digit, tenths, seconds_of, tenth_of_day, minutes_of, time_of, both, stamp_of, stamp_in, hour_stamp_of}
use Rattle.row_reader.specs.Forms.{IsDashed, IsSlashed, IsWhole, IsBroken, IsTime, IsStamp, NamesTenth, IsHourStamp}
use Rattle.row_reader.proofs.CutFacts.{Lacks, lacks-append, cut-found, cut-none, cut-splits, number-lacks}

at_cut-some : {A : Type 0} (f : List ℕ → List ℕ → Option A) (o : Option (List ℕ × List ℕ)) (v : A) → at_cut f o ≡ Some v
    → (a : List ℕ) × (b : List ℕ) × (o ≡ Some (a, b)) × (f a b ≡ Some v)
at_cut-some f None v e = cc
at_cut-some f (Some p) v e = (p.0, p.1, refl, e)

pub or-from : {A : Type 0} (a b : Option A) (v : A) → option_or a b ≡ Some v → (a ≡ Some v) ⊎ (b ≡ Some v)
or-from None b v e = inr e
or-from (Some x) b v e = inl e

-- three values that are all there
record Three (x y z : Option ℕ) : Type 0 where
  pub a : ℕ
  pub b : ℕ
  pub c : ℕ
  pub x_is : x ≡ Some a
  pub y_is : y ≡ Some b
  pub z_is : z ≡ Some c

day_of-three : (y m d : Option ℕ) (v : ℤ) → day_of y m d ≡ Some v → Three y m d
day_of-three None m d v e = cc
day_of-three (Some y) None d v e = cc
day_of-three (Some y) (Some m) None v e = cc
day_of-three (Some y) (Some m) (Some d) v e = record { a = y; b = m; c = d; x_is = refl; y_is = refl; z_is = refl }

tenth_of_day-three : (h m s : Option ℕ) (v : ℕ) → tenth_of_day h m s ≡ Some v → Three h m s
tenth_of_day-three None m s v e = cc
tenth_of_day-three (Some h) None s v e = cc
tenth_of_day-three (Some h) (Some m) None v e = cc
tenth_of_day-three (Some h) (Some m) (Some s) v e = record { a = h; b = m; c = s; x_is = refl; y_is = refl; z_is = refl }

-- ---- dates

dashed-from : (text : List ℕ) (day : ℤ) → dashed_date text ≡ Some day → IsDashed text day
dashed-from text day e =
    let p = at_cut-some dashed_month (cut 45 text) day e in
    let q = at_cut-some (λ (month date : List ℕ). day_of (number_of 4 4 9999 p.0) (number_of 2 2 99 month) (number_of 2 2 99 date)) (cut 45 p.1) day p.3 in
    record {
      year = p.0;
      month = q.0;
      date = q.1;
      form = cut-splits 45 text p.0 p.1 p.2 ∙ ap (λ (r : List ℕ). p.0 ++ 45 ∷ r) (cut-splits 45 p.1 q.0 q.1 q.2);
      is = q.3;
    }

dashed-to : (text : List ℕ) (day : ℤ) → IsDashed text day → dashed_date text ≡ Some day
dashed-to text day h =
    let t = day_of-three _ _ _ day h.is in
    ap dashed_date h.form
    ∙ ap (at_cut dashed_month) (cut-found 45 h.year (h.month ++ 45 ∷ h.date) (number-lacks 45 4 4 9999 t.a h.year refl t.x_is))
    ∙ ap (at_cut (λ (month date : List ℕ). day_of (number_of 4 4 9999 h.year) (number_of 2 2 99 month) (number_of 2 2 99 date)))
    (cut-found 45 h.month h.date (number-lacks 45 2 2 99 t.b h.month refl t.y_is))
    ∙ h.is

slashed-from : (text : List ℕ) (day : ℤ) → slashed_date text ≡ Some day → IsSlashed text day
slashed-from text day e =
    let p = at_cut-some slashed_day (cut 47 text) day e in
    let q = at_cut-some (λ (date year : List ℕ). day_of (number_of 4 4 9999 year) (number_of 1 2 99 p.0) (number_of 1 2 99 date)) (cut 47 p.1) day p.3 in
    record {
      month = p.0;
      date = q.0;
      year = q.1;
      form = cut-splits 47 text p.0 p.1 p.2 ∙ ap (λ (r : List ℕ). p.0 ++ 47 ∷ r) (cut-splits 47 p.1 q.0 q.1 q.2);
      is = q.3;
    }

slashed-to : (text : List ℕ) (day : ℤ) → IsSlashed text day → slashed_date text ≡ Some day
slashed-to text day h =
    let t = day_of-three _ _ _ day h.is in
    ap slashed_date h.form
    ∙ ap (at_cut slashed_day) (cut-found 47 h.month (h.date ++ 47 ∷ h.year) (number-lacks 47 1 2 99 t.b h.month refl t.y_is))
    ∙ ap (at_cut (λ (date year : List ℕ). day_of (number_of 4 4 9999 year) (number_of 1 2 99 h.month) (number_of 1 2 99 date)))
    (cut-found 47 h.date h.year (number-lacks 47 1 2 99 t.c h.date refl t.z_is))
    ∙ h.is

dashed-lacks : (mark : ℕ) (text : List ℕ) (day : ℤ) → is_digit mark ≡ false → 45 ≢ mark → IsDashed text day → Lacks mark text
dashed-lacks mark text day f n h =
    let t = day_of-three _ _ _ day h.is in
    let all : Lacks mark (h.year ++ 45 ∷ (h.month ++ 45 ∷ h.date)) =
    lacks-append mark h.year _ (number-lacks mark 4 4 9999 t.a h.year f t.x_is)
    (n, lacks-append mark h.month _ (number-lacks mark 2 2 99 t.b h.month f t.y_is) (n, number-lacks mark 2 2 99 t.c h.date f t.z_is)) in
    rw h.form all

slashed-lacks : (mark : ℕ) (text : List ℕ) (day : ℤ) → is_digit mark ≡ false → 47 ≢ mark → IsSlashed text day → Lacks mark text
slashed-lacks mark text day f n h =
    let t = day_of-three _ _ _ day h.is in
    let all : Lacks mark (h.month ++ 47 ∷ (h.date ++ 47 ∷ h.year)) =
    lacks-append mark h.month _ (number-lacks mark 1 2 99 t.b h.month f t.y_is)
    (n, lacks-append mark h.date _ (number-lacks mark 1 2 99 t.c h.date f t.z_is) (n, number-lacks mark 4 4 9999 t.a h.year f t.x_is)) in
    rw h.form all

pub date-lacks : (mark : ℕ) (text : List ℕ) (day : ℤ) → is_digit mark ≡ false → 45 ≢ mark → 47 ≢ mark → IsDashed text day ⊎ IsSlashed text day → Lacks mark text
date-lacks mark text day f n m (inl h) = dashed-lacks mark text day f n h
date-lacks mark text day f n m (inr h) = slashed-lacks mark text day f m h

date-from-cases : (text : List ℕ) (day : ℤ) → (dashed_date text ≡ Some day) ⊎ (slashed_date text ≡ Some day) → IsDashed text day ⊎ IsSlashed text day
date-from-cases text day (inl e) = inl (dashed-from text day e)
date-from-cases text day (inr e) = inr (slashed-from text day e)

pub date-from : (text : List ℕ) (day : ℤ) → date_of text ≡ Some day → IsDashed text day ⊎ IsSlashed text day
date-from text day e = date-from-cases text day (or-from (dashed_date text) (slashed_date text) day e)

date-to : (text : List ℕ) (day : ℤ) → IsDashed text day ⊎ IsSlashed text day → date_of text ≡ Some day
date-to text day (inl h) = ap (λ (o : Option ℤ). option_or o (slashed_date text)) (dashed-to text day h)
date-to text day (inr h) =
    let none : dashed_date text ≡ None = ap (at_cut dashed_month) (cut-none 45 text (slashed-lacks 45 text day refl (λ e. omega arith) h)) in
    ap (λ (o : Option ℤ). option_or o (slashed_date text)) none ∙ slashed-to text day h

-- ---- times

whole-from : (text : List ℕ) (s : ℕ) (o : Option ℕ) → number_of 2 2 59 text ≡ o → tenths o (Some 0) ≡ Some s → IsWhole text s
whole-from text s None e f = cc
whole-from text s (Some k) e f = record { second = k; form = e; is = let q : 10 * k + 0 ≡ s = cc in omega arith }

pub seconds-from : (text : List ℕ) (s : ℕ) (o : Option (List ℕ × List ℕ)) → cut 46 text ≡ o → seconds_of o text ≡ Some s → IsWhole text s ⊎ IsBroken text s
seconds-from text s None e f = inl (whole-from text s (number_of 2 2 59 text) refl f)
seconds-from text s (Some p) e f = inr (record { whole = p.0; fraction = p.1; form = cut-splits 46 text p.0 p.1 e; is = f })

first_digit-some : (text : List ℕ) (d : ℕ) → first_digit text ≡ Some d → (n : ℕ) × (number_of 1 9 999999999 text ≡ Some n)
first_digit-some text d e = go (number_of 1 9 999999999 text) refl e
  where
    go : (o : Option ℕ) → number_of 1 9 999999999 text ≡ o → option_map (λ n. digit (slice_index text 0)) o ≡ Some d → (n : ℕ) × (number_of 1 9 999999999 text ≡ Some n)
    go None q k = cc
    go (Some n) q k = (n, q)

tenths-both : (a b : Option ℕ) (s : ℕ) → tenths a b ≡ Some s → (x : ℕ) × (y : ℕ) × (a ≡ Some x) × (b ≡ Some y)
tenths-both None b s e = cc
tenths-both (Some x) None s e = cc
tenths-both (Some x) (Some y) s e = (x, y, refl, refl)

broken-lacks : (mark : ℕ) (text : List ℕ) (s : ℕ) → is_digit mark ≡ false → 46 ≢ mark → IsBroken text s → Lacks mark text
broken-lacks mark text s f n h =
    let t = tenths-both _ _ s h.is in
    let d = first_digit-some h.fraction t.1 t.3 in
    let all : Lacks mark (h.whole ++ 46 ∷ h.fraction) =
    lacks-append mark h.whole _ (number-lacks mark 2 2 59 t.0 h.whole f t.2) (n, number-lacks mark 1 9 999999999 d.0 h.fraction f d.1) in
    rw h.form all

seconds-lacks : (mark : ℕ) (text : List ℕ) (s : ℕ) → is_digit mark ≡ false → 46 ≢ mark → IsWhole text s ⊎ IsBroken text s → Lacks mark text
seconds-lacks mark text s f n (inl h) = number-lacks mark 2 2 59 h.second text f h.form
seconds-lacks mark text s f n (inr h) = broken-lacks mark text s f n h

seconds-to : (text : List ℕ) (s : ℕ) → IsWhole text s ⊎ IsBroken text s → seconds_of (cut 46 text) text ≡ Some s
seconds-to text s (inl h) =
    let sum : 10 * h.second + 0 ≡ s = omega (arith, h.is) in
    ap (λ (o : Option (List ℕ × List ℕ)). seconds_of o text) (cut-none 46 text (number-lacks 46 2 2 59 h.second text refl h.form))
    ∙ ap (λ (o : Option ℕ). tenths o (Some 0)) h.form ∙ ap (λ (n : ℕ). Some n) sum
seconds-to text s (inr h) =
    let t = tenths-both _ _ s h.is in
    let c : cut 46 text ≡ Some (h.whole, h.fraction) = ap (cut 46) h.form ∙ cut-found 46 h.whole h.fraction (number-lacks 46 2 2 59 t.0 h.whole refl t.2) in
    ap (λ (o : Option (List ℕ × List ℕ)). seconds_of o text) c ∙ h.is

time-from : (text : List ℕ) (tenth : ℕ) → time_of text ≡ Some tenth → IsTime text tenth
time-from text tenth e =
    let p = at_cut-some minutes_of (cut 58 text) tenth e in
    let q = at_cut-some (λ (minute second : List ℕ). tenth_of_day (number_of 1 2 23 p.0) (number_of 2 2 59 minute) (seconds_of (cut 46 second) second)) (cut 58 p.1) tenth p.3 in
    let t = tenth_of_day-three _ _ _ tenth q.3 in
    record {
      hour = p.0;
      minute = q.0;
      seconds = q.1;
      form = cut-splits 58 text p.0 p.1 p.2 ∙ ap (λ (r : List ℕ). p.0 ++ 58 ∷ r) (cut-splits 58 p.1 q.0 q.1 q.2);
      of_minute = t.c;
      seconds_are = seconds-from q.1 t.c (cut 46 q.1) refl t.z_is;
      is = ap (λ (o : Option ℕ). tenth_of_day (number_of 1 2 23 p.0) (number_of 2 2 59 q.0) o) (sym t.z_is) ∙ q.3;
    }

time-to : (text : List ℕ) (tenth : ℕ) → IsTime text tenth → time_of text ≡ Some tenth
time-to text tenth h =
    let t = tenth_of_day-three _ _ (Some h.of_minute) tenth h.is in
    ap time_of h.form
    ∙ ap (at_cut minutes_of) (cut-found 58 h.hour (h.minute ++ 58 ∷ h.seconds) (number-lacks 58 1 2 23 t.a h.hour refl t.x_is))
    ∙ ap (at_cut (λ (minute second : List ℕ). tenth_of_day (number_of 1 2 23 h.hour) (number_of 2 2 59 minute) (seconds_of (cut 46 second) second)))
    (cut-found 58 h.minute h.seconds (number-lacks 58 2 2 59 t.b h.minute refl t.y_is))
    ∙ ap (λ (o : Option ℕ). tenth_of_day (number_of 1 2 23 h.hour) (number_of 2 2 59 h.minute) o) (seconds-to h.seconds h.of_minute h.seconds_are)
    ∙ h.is

time-lacks : (mark : ℕ) (text : List ℕ) (tenth : ℕ) → is_digit mark ≡ false → 58 ≢ mark → 46 ≢ mark → IsTime text tenth → Lacks mark text
time-lacks mark text tenth f n m h =
    let t = tenth_of_day-three _ _ (Some h.of_minute) tenth h.is in
    let all : Lacks mark (h.hour ++ 58 ∷ (h.minute ++ 58 ∷ h.seconds)) =
    lacks-append mark h.hour _ (number-lacks mark 1 2 23 t.a h.hour f t.x_is)
    (n, lacks-append mark h.minute _ (number-lacks mark 2 2 59 t.b h.minute f t.y_is) (n, seconds-lacks mark h.seconds h.of_minute f m h.seconds_are)) in
    rw h.form all

-- ---- stamps

both-from : {A B : Type 0} (x : Option A) (y : Option B) (a : A) (b : B) → both x y ≡ Some (a, b) → (x ≡ Some a) × (y ≡ Some b)
both-from None y a b e = cc
both-from (Some x) None a b e = cc
both-from {A = A} {B = B} (Some x) (Some y) a b e = (ap (λ (o : Option (A × B)). option_map (λ p. p.0) o) e, ap (λ (o : Option (A × B)). option_map (λ p. p.1) o) e)

stamp-parts : (text date time : List ℕ) (day : ℤ) (tenth : ℕ) → (cut 32 text ≡ Some (date, time)) ⊎ (cut 84 text ≡ Some (date, time))
    → (date_of date ≡ Some day) × (time_of time ≡ Some tenth) → IsStamp text day tenth
stamp-parts text date time day tenth (inl e) h = record {
  date = date;
  gap = 32;
  time = time;
  form = cut-splits 32 text date time e;
  gap_is = inl refl;
  date_is = date-from date day h.0;
  time_is = time-from time tenth h.1;
}
stamp-parts text date time day tenth (inr e) h = record {
  date = date;
  gap = 84;
  time = time;
  form = cut-splits 84 text date time e;
  gap_is = inr refl;
  date_is = date-from date day h.0;
  time_is = time-from time tenth h.1;
}

pub stamp-from : (text : List ℕ) (day : ℤ) (tenth : ℕ) → stamp_of text ≡ Some (day, tenth) → IsStamp text day tenth
stamp-from text day tenth e =
    let p = at_cut-some (λ (date time : List ℕ). both (date_of date) (time_of time)) (option_or (cut 32 text) (cut 84 text)) (day, tenth) e in
    stamp-parts text p.0 p.1 day tenth (or-from (cut 32 text) (cut 84 text) (p.0, p.1) p.2) (both-from (date_of p.0) (time_of p.1) day tenth p.3)

halves-to : (date time : List ℕ) (gap : ℕ) (day : ℤ) (tenth : ℕ) → (gap ≡ 32) ⊎ (gap ≡ 84) → IsDashed date day ⊎ IsSlashed date day → IsTime time tenth
    → option_or (cut 32 (date ++ gap ∷ time)) (cut 84 (date ++ gap ∷ time)) ≡ Some (date, time)
halves-to date time gap day tenth (inl e) d t =
    rw e (ap (λ (o : Option (List ℕ × List ℕ)). option_or o (cut 84 (date ++ 32 ∷ time)))
    (cut-found 32 date time (date-lacks 32 date day refl (λ q. omega arith) (λ q. omega arith) d)))
halves-to date time gap day tenth (inr e) d t =
    let none : cut 32 (date ++ 84 ∷ time) ≡ None =
    cut-none 32 (date ++ 84 ∷ time) (lacks-append 32 date _ (date-lacks 32 date day refl (λ q. omega arith) (λ q. omega arith) d)
    ((λ q. omega arith), time-lacks 32 time tenth refl (λ q. omega arith) (λ q. omega arith) t)) in
    rw e (ap (λ (o : Option (List ℕ × List ℕ)). option_or o (cut 84 (date ++ 84 ∷ time))) none
    ∙ cut-found 84 date time (date-lacks 84 date day refl (λ q. omega arith) (λ q. omega arith) d))

both-to : {A B : Type 0} (x : Option A) (y : Option B) (a : A) (b : B) → x ≡ Some a → y ≡ Some b → both x y ≡ Some (a, b)
both-to x y a b e f = rw (e, f) refl

pub stamp-to : (text : List ℕ) (day : ℤ) (tenth : ℕ) → IsStamp text day tenth → stamp_of text ≡ Some (day, tenth)
stamp-to text day tenth h =
    ap stamp_of h.form
    ∙ ap (at_cut (λ (date time : List ℕ). both (date_of date) (time_of time))) (halves-to h.date h.time h.gap day tenth h.gap_is h.date_is h.time_is)
    ∙ both-to (date_of h.date) (time_of h.time) day tenth (date-to h.date day h.date_is) (time-to h.time tenth h.time_is)

names-from : (window : Span) (text : List ℕ) (at : ℤ) (o : Option (ℤ × ℕ)) → stamp_of text ≡ o → option_map (λ s. tenth_in window s.0 s.1) o ≡ Some at → NamesTenth window text at
names-from window text at None e f = cc
names-from window text at (Some s) e f = record { day = s.0; tenth = s.1; stamp = stamp-from text s.0 s.1 e; is = cc }

pub names-tenth : (window : Span) (text : List ℕ) (at : ℤ) → (stamp_in window text ≡ Some at) ↔ NamesTenth window text at
names-tenth window text at = (
  names-from window text at (stamp_of text) refl,
  λ h. ap (λ (o : Option (ℤ × ℕ)). option_map (λ s. tenth_in window s.0 s.1) o) (stamp-to text h.day h.tenth h.stamp) ∙ ap (λ (z : ℤ). Some z) (sym h.is),
)

pub hour-stamp : (text : List ℕ) (day : ℤ) (hour : ℕ) → (hour_stamp_of text ≡ Some (day, hour)) ↔ IsHourStamp text day hour
hour-stamp text day hour = (
  λ e.
      let p = at_cut-some (λ (date rest : List ℕ). both (dashed_date date) (number_of 2 2 23 rest)) (cut 84 text) (day, hour) e in
      let q = both-from (dashed_date p.0) (number_of 2 2 23 p.1) day hour p.3 in
      record { date = p.0; hour_text = p.1; form = cut-splits 84 text p.0 p.1 p.2; date_is = dashed-from p.0 day q.0; hour_is = q.1 },
  λ h.
      ap hour_stamp_of h.form
      ∙ ap (at_cut (λ (date rest : List ℕ). both (dashed_date date) (number_of 2 2 23 rest)))
      (cut-found 84 h.date h.hour_text (dashed-lacks 84 h.date day refl (λ q. omega arith) h.date_is))
      ∙ both-to (dashed_date h.date) (number_of 2 2 23 h.hour_text) day hour (dashed-to h.date day h.date_is) h.hour_is,
)

-- the same of an answer
pub forms_of_stamp : (window : Span) (text : List ℕ) (o : Option ℤ) → o ≡ stamp_in window text → (at : ℤ) → (o ≡ Some at) ↔ NamesTenth window text at
forms_of_stamp window text o e at = rw e (names-tenth window text at)

pub forms_of_hour : (text : List ℕ) (o : Option (ℤ × ℕ)) → o ≡ hour_stamp_of text → (day : ℤ) → (hour : ℕ) → (o ≡ Some (day, hour)) ↔ IsHourStamp text day hour
forms_of_hour text o e day hour = rw e (hour-stamp text day hour)
