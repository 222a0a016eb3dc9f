-- A time is read as its tenths.
use Rattle.std.proofs.Common.{inl, inr, ◌≡◌, ◌<◌, ◌≤◌, ◌^◌, ℕ, suc, ◌+◌, ◌-◌, ◌*◌, true, List, [], ◌∷◌, ◌++◌, length, Option, Some, None, All, decimal, min, refl, sym, ap, ◌∙◌, arith, append-nil, append_assoc}
use Rattle.std.specs.Prelude.{◌⊎◌, nat_le, option_map, slice_index}
use Rattle.std.proofs.lemmas.Bool.{le-leb, leb-true}
use Rattle.std.proofs.lemmas.Fmt.{decimal_digit}
use Rattle.std.proofs.lemmas.List.Elements.{All-head, All-tail, All-cons, All-nil}
use Rattle.std.proofs.lemmas.Str.Parse.{digits_value_short}
use Rattle.sig_base.proofs.Common.{and_first, and_last}
use Rattle.row_reader.specs.Number.{all_digits, digit, is_digit, number_from, number_of}
use Rattle.row_reader.specs.Stamp.{first_digit, tenth_of_day, tenths}
use Rattle.row_reader.specs.Forms as forms
use Rattle.stamp_laws.specs.Numbers.{IsNumber}
use Rattle.stamp_laws.specs.Times.{IsDigit, IsFraction, IsTime}
use Rattle.stamp_laws.proofs.Numbers.{IsRead, number_gives, number_is, own, read, reads}
use Rattle.stamp_laws.proofs.Texts.{two_marks}

-- ---- digits

digit_is : (b : ℕ) → is_digit b ≡ true → IsDigit b
digit_is b e = (leb-true 48 b (and_first (nat_le 48 b) (nat_le b 57) e), leb-true b 57 (and_last (nat_le 48 b) (nat_le b 57) e))

digit_gives : (b : ℕ) → IsDigit b → is_digit b ≡ true
digit_gives b h = rw (le-leb 48 b h.0, le-leb b 57 h.1) refl

digits_are : (text : List ℕ) → all_digits text ≡ true → All IsDigit text
digits_are [] e = All-nil IsDigit
digits_are (b ∷ bs) e = All-cons IsDigit b bs (digit_is b (and_first (is_digit b) (all_digits bs) e)) (digits_are bs (and_last (is_digit b) (all_digits bs) e))

digits_give : (text : List ℕ) → All IsDigit text → all_digits text ≡ true
digits_give [] h = refl
digits_give (b ∷ bs) h = rw (digit_gives b (All-head IsDigit b bs h), digits_give bs (All-tail IsDigit b bs h)) refl

-- ---- fractions

-- what a fraction without its dot says
record IsTenth (text : List ℕ) (tenth : ℕ) : Type 0 where
  pub more : List ℕ
  pub form : text ≡ decimal tenth ++ more
  pub one : tenth ≤ 9
  pub digits : All IsDigit more
  pub few : length more ≤ 8

tenth_from : (text : List ℕ) (n tenth : ℕ) → IsRead 1 9 999999999 text n → digit (slice_index text 0) ≡ tenth → IsTenth text tenth
tenth_from [] n tenth h e = let some : 1 ≤ 0 = h.enough in absurd (omega arith)
tenth_from (b ∷ bs) n tenth h e =
    let own : IsDigit b = digit_is b (and_first (is_digit b) (all_digits bs) h.digits_are) in
    let low : 48 ≤ b = own.0 in
    let high : b ≤ 57 = own.1 in
    let t : min (b - 48) 9 ≡ tenth = e in
    let few : suc (length bs) ≤ 9 = h.few in
    let same : 48 + tenth ≡ b = omega arith in
    record {
      more = bs;
      form = ap (λ (x : ℕ). x ∷ bs) (sym same) ∙ ap (λ (l : List ℕ). l ++ bs) (sym (decimal_digit tenth (omega arith)));
      one = omega arith;
      digits = digits_are bs (and_last (is_digit b) (all_digits bs) h.digits_are);
      few = omega arith;
    }

tenth_is : (text : List ℕ) (tenth : ℕ) → first_digit text ≡ Some tenth → IsTenth text tenth
tenth_is text tenth e = go (number_of 1 9 999999999 text) refl e
  where
    go : (o : Option ℕ) → number_of 1 9 999999999 text ≡ o → option_map (λ n. digit (slice_index text 0)) o ≡ Some tenth → IsTenth text tenth
    go None q k = cc
    go (Some n) q k = tenth_from text n tenth (read 1 9 999999999 text n q) cc

digits_read : (text : List ℕ) → 1 ≤ length text → length text ≤ 9 → all_digits text ≡ true → number_of 1 9 999999999 text ≡ Some (number_from 0 text)
digits_read text some few d =
    let low : number_from 0 text < 10 ^ 9 = digits_value_short own text 9 d few in
    reads 1 9 999999999 text (number_from 0 text) (record { enough = some; few = few; digits_are = d; value = refl; within = omega arith })

tenth_gives : (text : List ℕ) (tenth : ℕ) → IsTenth text tenth → first_digit text ≡ Some tenth
tenth_gives text tenth h =
    let one : tenth ≤ 9 = h.one in
    let few : length h.more ≤ 8 = h.few in
    let form : text ≡ (48 + tenth) ∷ h.more = h.form ∙ ap (λ (l : List ℕ). l ++ h.more) (decimal_digit tenth (omega arith)) in
    let d : all_digits ((48 + tenth) ∷ h.more) ≡ true = rw (digit_gives (48 + tenth) (omega arith, omega arith), digits_give h.more h.digits) refl in
    let r = digits_read ((48 + tenth) ∷ h.more) (omega arith) (omega arith) d in
    let same : min ((48 + tenth) - 48) 9 ≡ tenth = omega arith in
    ap first_digit form ∙ (rw r (ap Some same))

-- ---- seconds

-- a second of two digits and what stands after it, in tenths
record IsSecond (text : List ℕ) (s : ℕ) : Type 0 where
  pub second_text : List ℕ
  pub fraction : List ℕ
  pub form : text ≡ second_text ++ fraction
  pub second : ℕ
  pub tenth : ℕ
  pub second_is : IsNumber 2 2 second_text second
  pub seconds : second ≤ 59
  pub fraction_is : IsFraction fraction tenth
  pub is : 10 * second + tenth ≡ s

-- both numbers of tenths, and their sum
record AreTenths (a b : Option ℕ) (s : ℕ) : Type 0 where
  pub second : ℕ
  pub tenth : ℕ
  pub second_is : a ≡ Some second
  pub tenth_is : b ≡ Some tenth
  pub sum : 10 * second + tenth ≡ s

tenths_are : (a b : Option ℕ) (s : ℕ) → tenths a b ≡ Some s → AreTenths a b s
tenths_are None b s e = cc
tenths_are (Some x) None s e = cc
tenths_are (Some x) (Some y) s e = record { second = x; tenth = y; second_is = refl; tenth_is = refl; sum = cc }

second_is : (text : List ℕ) (s : ℕ) → forms.IsWhole text s ⊎ forms.IsBroken text s → IsSecond text s
second_is text s (inl f) =
    let n = number_is 2 2 59 text f.second (omega arith) (omega arith) f.form in
    record {
      second_text = text;
      fraction = [];
      form = sym (append-nil text);
      second = f.second;
      tenth = 0;
      second_is = n.0;
      seconds = n.1;
      fraction_is = inr (refl, refl);
      is = omega (arith, f.is);
    }
second_is text s (inr f) =
    let t = tenths_are (number_of 2 2 59 f.whole) (first_digit f.fraction) s f.is in
    let n = number_is 2 2 59 f.whole t.second (omega arith) (omega arith) t.second_is in
    let d = tenth_is f.fraction t.tenth t.tenth_is in
    record {
      second_text = f.whole;
      fraction = 46 ∷ f.fraction;
      form = f.form;
      second = t.second;
      tenth = t.tenth;
      second_is = n.0;
      seconds = n.1;
      fraction_is = inl (record { more = d.more; form = ap (λ (l : List ℕ). 46 ∷ l) d.form; one = d.one; digits = d.digits; few = d.few });
      is = t.sum;
    }

second_gives : (text whole fraction : List ℕ) (s second tenth : ℕ) → text ≡ whole ++ fraction → IsNumber 2 2 whole second → second ≤ 59 → IsFraction fraction tenth → 10 * second + tenth ≡ s
    → forms.IsWhole text s ⊎ forms.IsBroken text s
second_gives text whole fraction s second tenth form n most (inl b) sum =
    let is_tenth : IsTenth (decimal tenth ++ b.more) tenth = record { more = b.more; form = refl; one = b.one; digits = b.digits; few = b.few } in
    let e = number_gives 2 2 59 whole second (omega arith) n most in
    let d = tenth_gives (decimal tenth ++ b.more) tenth is_tenth in
    inr (record { whole = whole; fraction = decimal tenth ++ b.more; form = form ∙ ap (λ (l : List ℕ). whole ++ l) b.form; is = rw (e, d) (ap Some sum) })
second_gives text whole fraction s second tenth form n most (inr none) sum =
    let same : text ≡ whole = form ∙ ap (λ (l : List ℕ). whole ++ l) none.0 ∙ append-nil whole in
    inl (record { second = second; form = ap (number_of 2 2 59) same ∙ number_gives 2 2 59 whole second (omega arith) n most; is = omega (arith, none.1) })

-- ---- times

-- the hour and the minute of a time of day, and its tenths
record AreParts (h m : Option ℕ) (s tenth : ℕ) : Type 0 where
  pub hour : ℕ
  pub minute : ℕ
  pub hour_is : h ≡ Some hour
  pub minute_is : m ≡ Some minute
  pub sum : 36000 * hour + 600 * minute + s ≡ tenth

parts_are : (h m : Option ℕ) (s tenth : ℕ) → tenth_of_day h m (Some s) ≡ Some tenth → AreParts h m s tenth
parts_are None m s tenth e = cc
parts_are (Some h) None s tenth e = cc
parts_are (Some h) (Some m) s tenth e = record { hour = h; minute = m; hour_is = refl; minute_is = refl; sum = cc }

form_is : (text hour minute seconds second fraction : List ℕ) → text ≡ hour ++ 58 ∷ (minute ++ 58 ∷ seconds) → seconds ≡ second ++ fraction
    → text ≡ hour ++ (58 ∷ []) ++ minute ++ (58 ∷ []) ++ second ++ fraction
form_is text hour minute seconds second fraction e f = e ∙ sym (two_marks 58 hour minute seconds) ∙ ap (λ (l : List ℕ). hour ++ (58 ∷ []) ++ minute ++ (58 ∷ []) ++ l) f
    ∙ sym (append_assoc (hour ++ (58 ∷ []) ++ minute ++ (58 ∷ [])) second fraction)

form_gives : (text hour minute second fraction : List ℕ) → text ≡ hour ++ (58 ∷ []) ++ minute ++ (58 ∷ []) ++ second ++ fraction
    → text ≡ hour ++ 58 ∷ (minute ++ 58 ∷ (second ++ fraction))
form_gives text hour minute second fraction e = e ∙ append_assoc (hour ++ (58 ∷ []) ++ minute ++ (58 ∷ [])) second fraction ∙ two_marks 58 hour minute (second ++ fraction)

pub time_is : (text : List ℕ) (tenth : ℕ) → forms.IsTime text tenth → IsTime text tenth
time_is text tenth f =
    let s = second_is f.seconds f.of_minute f.seconds_are in
    let p = parts_are (number_of 1 2 23 f.hour) (number_of 2 2 59 f.minute) f.of_minute tenth f.is in
    let h = number_is 1 2 23 f.hour p.hour (omega arith) (omega arith) p.hour_is in
    let m = number_is 2 2 59 f.minute p.minute (omega arith) (omega arith) p.minute_is in
    record {
      hour_text = f.hour;
      minute_text = f.minute;
      second_text = s.second_text;
      fraction = s.fraction;
      form = form_is text f.hour f.minute f.seconds s.second_text s.fraction f.form s.form;
      hour = p.hour;
      minute = p.minute;
      second = s.second;
      tenth = s.tenth;
      hour_is = h.0;
      minute_is = m.0;
      second_is = s.second_is;
      fraction_is = s.fraction_is;
      hours = h.1;
      minutes = m.1;
      seconds = s.seconds;
      is = omega (arith, p.sum, s.is);
    }

pub time_gives : (text : List ℕ) (tenth : ℕ) → IsTime text tenth → forms.IsTime text tenth
time_gives text tenth t =
    let s = 10 * t.second + t.tenth in
    let h = number_gives 1 2 23 t.hour_text t.hour (omega arith) t.hour_is t.hours in
    let m = number_gives 2 2 59 t.minute_text t.minute (omega arith) t.minute_is t.minutes in
    let sum : 36000 * t.hour + 600 * t.minute + (10 * t.second + t.tenth) ≡ tenth = omega (arith, t.is) in
    record {
      hour = t.hour_text;
      minute = t.minute_text;
      seconds = t.second_text ++ t.fraction;
      form = form_gives text t.hour_text t.minute_text t.second_text t.fraction t.form;
      of_minute = s;
      seconds_are = second_gives (t.second_text ++ t.fraction) t.second_text t.fraction s t.second t.tenth refl t.second_is t.seconds t.fraction_is refl;
      is = rw (h, m) (ap Some sum);
    }
