-- A text of digits is its number in decimal, after zeros.
use Rattle.std.proofs.Common.{if◌then◌else◌, inl, inr, ◌≡◌, ◌<◌, ◌≤◌, ◌^◌, ◌/◌, ◌%◌, ℕ, zero, suc, ◌+◌, Bool, true, false, List, [], ◌∷◌, ◌++◌, length, get_or, replicate, decimal, Some, None, refl, sym, ap, ◌∙◌, arith, rules}
use Rattle.std.specs.Prelude.{◌&&◌, ◌==◌, nat_le}
use Rattle.std.specs.Fmt.{digits, digits_onto, digit_glyph}
use Rattle.std.proofs.lemmas.Bool.{cases_Bool, le-leb, leb-true}
use Rattle.std.proofs.lemmas.Bool.Decides.{nat_tests}
use Rattle.std.proofs.lemmas.Fmt.{digits_decimal, digits_value-decimal, decimal-digits_value}
use Rattle.std.proofs.lemmas.List.{length-append}
use Rattle.std.proofs.lemmas.Str.Parse.{IsNumeralModel, numerals_by_fold}
use Rattle.std.proofs.Math.Nat.{one-le-pow, pow-succ'}
use Rattle.sig_base.proofs.Common.{and_first, and_last}
use Rattle.row_reader.specs.Number.{all_digits, is_digit, number_from, number_of}
use Rattle.stamp_laws.specs.Numbers.{IsNumber, NumbersAreRead}

-- the digits and their number, in the terms of std
pub own : IsNumeralModel (λ ds. all_digits ds ≡ true) (number_from 0)
own = numerals_by_fold _ (search rules) number_from (search rules)

pub chosen : {A : Type 0} (b : Bool) (x y : A) → (if b then Some x else None) ≡ Some y → (b ≡ true) × (x ≡ y)
chosen true x y e = (refl, cc)
chosen false x y e = cc

-- ---- zeros

zeros_digits : (zeros : ℕ) (text : List ℕ) → all_digits text ≡ true → all_digits (replicate zeros 48 ++ text) ≡ true
zeros_digits zero text h = h
zeros_digits (suc k) text h = zeros_digits k text h

zeros_value : (zeros : ℕ) (text : List ℕ) → number_from 0 (replicate zeros 48 ++ text) ≡ number_from 0 text
zeros_value zero text = refl
zeros_value (suc k) text = zeros_value k text

abbrev Written : List ℕ → ℕ → Type 0
Written text n = (zeros : ℕ) × (text ≡ replicate zeros 48 ++ decimal n)

one_more : (b n : ℕ) (text : List ℕ) → b ≡ 48 → Written text n → Written (b ∷ text) n
one_more b n text e w = (suc w.0, ap (λ (x : ℕ). x ∷ text) e ∙ ap (λ (l : List ℕ). 48 ∷ l) w.1)

no_zero : (text : List ℕ) (n : ℕ) → all_digits text ≡ true → 0 < length text → (get_or text 0 0 ≡ 48 → length text ≡ 1) → number_from 0 text ≡ n → n < 2 ^ 64 → Written text n
no_zero text n d some lead v small =
    let e : decimal (number_from 0 text) ≡ text = decimal-digits_value own text d some lead (omega arith) in
    (0, sym e ∙ ap decimal v)

-- digits are their number in decimal, after zeros
written : (text : List ℕ) (n : ℕ) → all_digits text ≡ true → 0 < length text → number_from 0 text ≡ n → n < 2 ^ 64 → Written text n
written [] n d some v small = absurd (omega arith)
written (b ∷ []) n d some v small = no_zero (b ∷ []) n d some (λ e. refl) v small
written (b ∷ c ∷ cs) n d some v small =
    elim (cases_Bool (b == 48)) [
      | inl t ↦
          let e : b ≡ 48 = grind (arith, nat_tests) in
          one_more b n (c ∷ cs) e (written (c ∷ cs) n (and_last (is_digit b) (all_digits (c ∷ cs)) d) (omega arith) (rw e at v) small)
      | inr f ↦ no_zero (b ∷ c ∷ cs) n d some (λ (e : b ≡ 48). absurd (grind (arith, nat_tests))) v small
    ]

-- ---- how long

at_least : (j n : ℕ) (acc : List ℕ) → length acc ≤ length (digits_onto j 10 false n acc)
at_least zero n acc = omega arith
at_least (suc j) n acc =
    elim (cases_Bool (n / 10 == 0)) [
      | inl t ↦ rw t (omega arith)
      | inr f ↦ let h = at_least j (n / 10) (digit_glyph false (n % 10) ∷ acc) in rw f (omega arith)
    ]

short : (j k n : ℕ) (acc : List ℕ) → k < j → length (digits_onto j 10 false n acc) ≤ k + length acc → n < 10 ^ k
short zero k n acc lt h = absurd (omega arith)
short (suc j) k n acc lt h =
    elim (cases_Bool (n / 10 == 0)) [
      | inl t ↦
          let a : suc (length acc) ≤ k + length acc = rw t at h in
          let e : n / 10 ≡ 0 = grind (arith, nat_tests) in
          one_digit k n (omega arith) (omega arith)
      | inr f ↦
          let a : length (digits_onto j 10 false (n / 10) (digit_glyph false (n % 10) ∷ acc)) ≤ k + length acc = rw f at h in
          step j k n acc (at_least j (n / 10) (digit_glyph false (n % 10) ∷ acc)) a (short j) lt
    ]
  where
    one_digit : (k n : ℕ) → 0 < k → n < 10 → n < 10 ^ k
    one_digit zero n some small = absurd (omega arith)
    one_digit (suc k) n some small = let p : 0 < 10 ^ k = one-le-pow k 10 (omega arith) in rw pow-succ' (omega arith)

    step : (j k n : ℕ) (acc : List ℕ) → suc (length acc) ≤ length (digits_onto j 10 false (n / 10) (digit_glyph false (n % 10) ∷ acc))
        → length (digits_onto j 10 false (n / 10) (digit_glyph false (n % 10) ∷ acc)) ≤ k + length acc
        → ((k n : ℕ) (acc : List ℕ) → k < j → length (digits_onto j 10 false n acc) ≤ k + length acc → n < 10 ^ k) → k < suc j → n < 10 ^ k
    step j zero n acc a h more lt = absurd (omega arith)
    step j (suc k) n acc a h more lt =
        let below : n / 10 < 10 ^ k = more k (n / 10) (digit_glyph false (n % 10) ∷ acc) (omega arith) (omega arith) in
        rw pow-succ' (omega arith)

-- a number with at most k digits is below that power of ten
decimal_below : (k n : ℕ) → k < 64 → length (decimal n) ≤ k → n < 10 ^ k
unfolding digits
decimal_below k n lt h = short 64 k n [] lt (omega arith)

-- ---- numbers of a field

-- what the test of a number says
pub record IsRead (least most limit : ℕ) (text : List ℕ) (n : ℕ) : Type 0 where
  pub enough : least ≤ length text
  pub few : length text ≤ most
  pub digits_are : all_digits text ≡ true
  pub value : number_from 0 text ≡ n
  pub within : n ≤ limit

pub read : (least most limit : ℕ) (text : List ℕ) (n : ℕ) → number_of least most limit text ≡ Some n → IsRead least most limit text n
read least most limit text n e =
    let a = nat_le least (length text) in
    let b = nat_le (length text) most in
    let c = all_digits text in
    let d = nat_le (number_from 0 text) limit in
    let t = chosen (a && b && c && d) (number_from 0 text) n e in
    let abc : (a && b && c) ≡ true = and_first (a && b && c) d t.0 in
    let ab : (a && b) ≡ true = and_first (a && b) c abc in
    record {
      enough = leb-true least (length text) (and_first a b ab);
      few = leb-true (length text) most (and_last a b ab);
      digits_are = and_last (a && b) c abc;
      value = t.1;
      within = let l : number_from 0 text ≤ limit = leb-true (number_from 0 text) limit (and_last (a && b && c) d t.0) in omega (arith, t.1);
    }

pub reads : (least most limit : ℕ) (text : List ℕ) (n : ℕ) → IsRead least most limit text n → number_of least most limit text ≡ Some n
reads least most limit text n h =
    rw (h.value, le-leb least (length text) h.enough, le-leb (length text) most h.few, h.digits_are, le-leb n limit h.within) refl

-- as it is read, so it is written
pub number_is : (least most limit : ℕ) (text : List ℕ) (n : ℕ) → 1 ≤ least → limit < 2 ^ 32 → number_of least most limit text ≡ Some n → IsNumber least most text n × (n ≤ limit)
number_is least most limit text n some small e =
    let r = read least most limit text n e in
    let enough : least ≤ length text = r.enough in
    let within : n ≤ limit = r.within in
    let w = written text n r.digits_are (omega arith) r.value (omega arith) in
    (record { zeros = w.0; form = w.1; enough = r.enough; few = r.few }, r.within)

pub number_gives : (least most limit : ℕ) (text : List ℕ) (n : ℕ) → limit < 2 ^ 32 → IsNumber least most text n → n ≤ limit → number_of least most limit text ≡ Some n
number_gives least most limit text n small h within =
    let low : n < 2 ^ 64 = omega arith in
    reads least most limit text n (record {
      enough = h.enough;
      few = h.few;
      digits_are = ap all_digits h.form ∙ zeros_digits h.zeros (decimal n) (digits_decimal own n low);
      value = ap (number_from 0) h.form ∙ zeros_value h.zeros (decimal n) ∙ digits_value-decimal own n low;
      within = within;
    })

pub number_below : (least most : ℕ) (text : List ℕ) (n : ℕ) → most < 64 → IsNumber least most text n → n < 10 ^ most
number_below least most text n lt h =
    let few : length text ≤ most = h.few in
    decimal_below most n lt (omega (arith, ap length h.form, length-append (replicate h.zeros 48) (decimal n)))

pub numbers_read : NumbersAreRead
numbers_read least most limit text n some small = (number_is least most limit text n some small, λ h. number_gives least most limit text n small h.0 h.1)
