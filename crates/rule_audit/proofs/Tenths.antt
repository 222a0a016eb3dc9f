-- Obligations tenth by tenth, and the rows of a tenth.
use Rattle.std.proofs.Common.{suc, zero, ◌≡◌, ◌≢◌, refl, ap, sym, ◌∙◌, inl, inr, ℕ, ◌+◌, ◌-◌, ◌<◌, ◌≤◌, Bool, true, false, ◌&&◌, nat_eq, if◌then◌else◌, List, [], ◌∷◌, ◌++◌, length, get_or, drop, length-drop, get_or-drop, arith}
use Rattle.std.proofs.lemmas.Bool.{cases_Bool, cases_lt, eq-eqb, eqb-true, ne_eqb}
use Rattle.std.proofs.lemmas.List.{drop_more}
use Rattle.sig_base.specs.declared.values.Row.{Row}
use Rattle.sig_base.proofs.Common.{and_false}
use Rattle.event_codes.specs.Channels.{channel_in_table}
use Rattle.channel_tables.specs.declared.spec.Spec.{Spec}
use Rattle.board.specs.Logs.{no_row}
use Rattle.rule_audit.specs.declared.rules.Rule.{Rule}
use Rattle.rule_audit.specs.Obligations.{Obligation, has_row_at, is_due, is_clause, is_row_of_some, terms_of, row_obligations, rows_obligations, end_obligations, tenth_obligations, obligations_from}
use Rattle.rule_audit.specs.Index.{no_rule, HasNoRule}
use Rattle.rule_audit.specs.Pass.{IsCutAt, IsStart, Rises}
use Rattle.rule_audit.proofs.Adding.{end_rules_over}
use Rattle.rule_audit.proofs.Indexing.{any_none, clause_by, end_skip, off_by, row_none, timed_by}

-- ---- cuts

pub cut_le : (rows : List Row) (x y i j : ℕ) → x ≤ y → IsCutAt rows x i → IsCutAt rows y j → i ≤ j
cut_le rows x y i j le a b = elim (cases_lt j i) [
  | inl lt ↦ absurd (let p = a.1 j lt in let top = a.0 in let q = b.2 j (omega arith) (omega arith) in omega arith)
  | inr ge ↦ ge
]

-- the same rows are before tenth y, where none is from x up to y
pub cut_further : (rows : List Row) (x y i : ℕ) → Rises rows → x ≤ y → (i < length rows → y ≤ (get_or rows i no_row).at) → IsCutAt rows x i → IsCutAt rows y i
cut_further rows x y i rises le next cut = (cut.0, (λ k lt. let p = cut.1 k lt in omega arith), λ k le2 lt. let p = next (omega arith) in let q = rises i k le2 lt in omega arith)

-- ---- the rows of a tenth

-- the rows are at other tenths
abbrev Elsewhere : ℕ → List Row → Type 0
Elsewhere t rows = (k : ℕ) → k < length rows → (get_or rows k no_row).at ≢ t

abbrev Here : ℕ → List Row → Type 0
Here t rows = (k : ℕ) → k < length rows → (get_or rows k no_row).at ≡ t

module _ (specs : List Spec) (rules : List Rule) (t : ℕ) where
  pub rows_none : (i : ℕ) (rows : List Row) → Elsewhere t rows → rows_obligations specs rules t i rows ≡ []
  unfolding rows_obligations
  rows_none i [] h = refl
  rows_none i (r ∷ rs) h =
      let other : nat_eq r.at t ≡ false = ne_eqb r.at t (h 0 (omega arith)) in
      rw other (rows_none (i + 1) rs (λ k lt. h (suc k) (omega arith)))

  pub rows_skip : (n i : ℕ) (rows : List Row) → n ≤ length rows → ((k : ℕ) → k < n → (get_or rows k no_row).at ≢ t) → rows_obligations specs rules t i rows ≡ rows_obligations specs rules t (i + n) (drop n rows)
  unfolding rows_obligations
  rows_skip zero i rows le h = ap (λ (m : ℕ). rows_obligations specs rules t m rows) (let e : i ≡ i + 0 = omega arith in e)
  rows_skip (suc n) i [] le h = absurd (omega arith)
  rows_skip (suc n) i (r ∷ rs) le h =
      let other : nat_eq r.at t ≡ false = ne_eqb r.at t (h 0 (omega arith)) in
      let e : i + 1 + n ≡ i + suc n = omega arith in
      rw other (rows_skip n (i + 1) rs (omega arith) (λ k lt. h (suc k) (omega arith)) ∙ ap (λ (m : ℕ). rows_obligations specs rules t m (drop n rs)) e)

  pub rows_from : (rows : List Row) (i : ℕ) → IsCutAt rows t i → rows_obligations specs rules t 0 rows ≡ rows_obligations specs rules t i (drop i rows)
  rows_from rows i cut =
      let e : 0 + i ≡ i = omega arith in
      rows_skip i 0 rows cut.0 (λ k lt same. let p = cut.1 k lt in absurd (omega arith)) ∙ ap (λ (m : ℕ). rows_obligations specs rules t m (drop i rows)) e

  pub rows_more : (rows : List Row) (i : ℕ) → i < length rows → (get_or rows i no_row).at ≡ t → rows_obligations specs rules t i (drop i rows) ≡ row_obligations specs i (get_or rows i no_row) 1 rules ++ rows_obligations specs rules t (i + 1) (drop (i + 1) rows)
  unfolding rows_obligations
  rows_more rows i lt here =
      let same : nat_eq (get_or rows i no_row).at t ≡ true = eq-eqb (get_or rows i no_row).at t here in
      ap (λ (rs : List Row). rows_obligations specs rules t i rs) (drop_more rows i no_row lt) ∙ rw same refl

  pub rows_over : (rows : List Row) (j : ℕ) → IsCutAt rows (t + 1) j → rows_obligations specs rules t j (drop j rows) ≡ []
  rows_over rows j cut = rows_none j (drop j rows) (λ k lt same.
      let size = length-drop j rows in
      let at : get_or (drop j rows) k no_row ≡ get_or rows (j + k) no_row = get_or-drop j rows k no_row in
      let p = cut.2 (j + k) (omega arith) (omega arith) in
      let q : (get_or rows (j + k) no_row).at ≡ t = sym (ap (λ (r : Row). r.at) at) ∙ same in
      absurd (omega arith))

-- ---- where rows begin a tenth

-- the row that begins its tenth, from which on rows may be before tenth t
module _ (rows : List Row) (rises : Rises rows) (y t i : ℕ) (le : y ≤ t) (cut : IsCutAt rows y i) where
  early : (j k : ℕ) → ((n : ℕ) → i ≤ n → n < j → (get_or rows n no_row).at < t) → k < j → (get_or rows k no_row).at < t
  early j k before lt = elim (cases_lt k i) [
    | inl less ↦ let p = cut.1 k less in omega arith
    | inr ge ↦ before k ge lt
  ]

  pub start_cut : (n j : ℕ) → n < length rows → i ≤ n → ((k : ℕ) → i ≤ k → k < n → (get_or rows k no_row).at < t) → IsStart rows i n j → (z : ℕ) × (y ≤ z) × (z ≤ t) × IsCutAt rows z j
  start_cut n j lt ge before start =
      let at = (get_or rows n no_row).at in
      let from = start.from in
      let within = start.within in
      let same = start.same in
      let high : y ≤ at = cut.2 n ge lt in
      let later : (k : ℕ) → j ≤ k → k < length rows → at ≤ (get_or rows k no_row).at = λ k le2 less. let p = rises j k le2 less in omega arith in
      elim (cases_lt at t) [
        | inl less ↦ (at, high, omega arith, (omega arith, (λ k low. elim (cases_lt k i) [ inl first ↦ let p = cut.1 k first in omega arith | inr ge2 ↦ start.before k ge2 low ]), later))
        | inr over ↦ (t, le, omega arith, (omega arith, (λ k low. early j k (λ m a b. before m a (omega arith)) low), λ k le2 less. let p = later k le2 less in omega arith))
      ]

  pub over_cut : ((k : ℕ) → i ≤ k → k < length rows → (get_or rows k no_row).at < t) → (z : ℕ) × (y ≤ z) × (z ≤ t) × IsCutAt rows z (length rows)
  over_cut before = (t, le, omega arith, (omega arith, (λ k low. early (length rows) k before low), λ k le2 less. absurd (omega arith)))

-- ---- tenths in which no row has a rule

-- no rule is of the row's channel
abbrev IsUnruled : List Spec → List Rule → Row → Type 0
IsUnruled specs rules r = HasNoRule specs rules (channel_in_table r.code r.param)

-- no row of the tenth has a rule
abbrev IsQuiet : List Spec → List Rule → ℕ → List Row → Type 0
IsQuiet specs rules t rows = (k : ℕ) → k < length rows → (get_or rows k no_row).at ≡ t → IsUnruled specs rules (get_or rows k no_row)

module _ (specs : List Spec) (rules : List Rule) (t : ℕ) where
  row_quiet : (i : ℕ) (r : Row) → IsUnruled specs rules r → row_obligations specs i r 1 rules ≡ []
  row_quiet i r none = row_none specs i r rules (λ x lt. timed_by specs r (get_or rules x no_rule) ∙ (none x lt).0)

  rows_quiet : (i : ℕ) (rows : List Row) → IsQuiet specs rules t rows → rows_obligations specs rules t i rows ≡ []
  unfolding rows_obligations
  rows_quiet i [] h = refl
  rows_quiet i (r ∷ rs) h =
      let rest = rows_quiet (i + 1) rs (λ k lt same. h (suc k) (omega arith) same) in
      elim (cases_Bool (nat_eq r.at t)) [
        | inl is ↦ rw (is, row_quiet i r (h 0 (omega arith) (eqb-true r.at t is))) rest
        | inr off ↦ rw off rest
      ]

  due_quiet : (rows : List Row) (x : ℕ) → x < length rules → IsQuiet specs rules t rows → is_due specs rows true t (get_or rules x no_rule) ≡ false
  due_quiet rows x lt h =
      let rule = get_or rules x no_rule in
      elim (cases_Bool (is_clause rule)) [
        | inr off ↦ rw off refl
        | inl is ↦
            let none : has_row_at specs rows t (terms_of rule) ≡ false = any_none (λ (r : Row). nat_eq r.at t && is_row_of_some specs r (terms_of rule)) rows no_row (λ k less. elim (cases_Bool (nat_eq (get_or rows k no_row).at t)) [
              | inr off ↦ rw off refl
              | inl here ↦ rw here (off_by (is_clause rule) (is_row_of_some specs (get_or rows k no_row) (terms_of rule)) (clause_by specs (get_or rows k no_row) rule ∙ (h k less (eqb-true (get_or rows k no_row).at t here) x lt).1) is)
            ]) in
            ap (λ (b : Bool). is_clause rule && b) none ∙ and_false (is_clause rule)
      ]

  end_quiet : (rows : List Row) → IsQuiet specs rules t rows → end_obligations specs rows true t 1 rules ≡ []
  end_quiet rows h = end_skip specs rows true t rules 0 (length rules) (omega arith) (omega arith) (λ x a b. due_quiet rows x b h) ∙ end_rules_over specs rows true t rules (length rules) (length rules + 1) (omega arith)

-- ---- tenths

module _ (known : ℕ → Bool) (specs : List Spec) (rules : List Rule) (rows : List Row) where
  -- the obligations of the tenths from x up to t
  abbrev pub obligations_up : Bool → ℕ → ℕ → List Obligation
  obligations_up before x t = obligations_from known specs rules rows before x (t - x)

  first_of : (before : Bool) (x n : ℕ) (b : Bool) → known x ≡ b → obligations_from known specs rules rows before x (suc n) ≡ (if b then tenth_obligations specs rules rows before x else []) ++ obligations_from known specs rules rows b (x + 1) n
  unfolding obligations_from
  first_of before x n b e = rw e refl

  up_first : (before : Bool) (x t : ℕ) (b : Bool) → x < t → known x ≡ b → obligations_up before x t ≡ (if b then tenth_obligations specs rules rows before x else []) ++ obligations_up b (x + 1) t
  up_first before x t b lt e =
      let more : t - x ≡ suc (t - (x + 1)) = omega arith in
      ap (λ (n : ℕ). obligations_from known specs rules rows before x n) more ∙ first_of before x (t - (x + 1)) b e

  pub up_tenth : (before : Bool) (x t : ℕ) → x < t → known x ≡ true → obligations_up before x t ≡ tenth_obligations specs rules rows before x ++ obligations_up true (x + 1) t
  up_tenth before x t lt e = up_first before x t true lt e

  none_of : (before : Bool) (x n : ℕ) → n ≡ 0 → obligations_from known specs rules rows before x n ≡ []
  unfolding obligations_from
  none_of before x n e = rw e refl

  pub up_over : (before : Bool) (t : ℕ) → obligations_up before t t ≡ []
  up_over before t = none_of before t (t - t) (omega arith)

  up_quiet : (x t : ℕ) → x < t → known x ≡ true → IsQuiet specs rules x rows → obligations_up true x t ≡ obligations_up true (x + 1) t
  up_quiet x t lt e h = up_tenth true x t lt e ∙ rw (rows_quiet specs rules x 0 rows h, end_quiet specs rules x rows h) refl

  quiet_by : (n x t : ℕ) → x + n ≤ t → ((y : ℕ) → x ≤ y → y < x + n → known y ≡ true) → ((y : ℕ) → x ≤ y → y < x + n → IsQuiet specs rules y rows) → obligations_up true x t ≡ obligations_up true (x + n) t
  quiet_by zero x t le k h = ap (λ (y : ℕ). obligations_up true y t) (let e : x ≡ x + 0 = omega arith in e)
  quiet_by (suc n) x t le k h =
      let e : x + 1 + n ≡ x + suc n = omega arith in
      up_quiet x t (omega arith) (k x (omega arith) (omega arith)) (h x (omega arith) (omega arith))
      ∙ (quiet_by n (x + 1) t (omega arith) (λ y a b. k y (omega arith) (omega arith)) (λ y a b. h y (omega arith) (omega arith)) ∙ ap (λ (y : ℕ). obligations_up true y t) e)

  -- known tenths whose rows have no rule, of which the one before is known
  pub up_to_next : (x y t i j : ℕ) → x ≤ y → y ≤ t → ((z : ℕ) → x ≤ z → z < y → known z ≡ true) → IsCutAt rows x i → IsCutAt rows y j → ((k : ℕ) → i ≤ k → k < j → IsUnruled specs rules (get_or rows k no_row)) → obligations_up true x t ≡ obligations_up true y t
  up_to_next x y t i j le le2 k a b none =
      let e : x + (y - x) ≡ y = omega arith in
      quiet_by (y - x) x t (omega arith) (λ z p q. k z p (omega arith))
      (λ z p q n lt same. elim (cases_lt n i) [
        | inl l ↦ let u = a.1 n l in absurd (omega arith)
        | inr g ↦ elim (cases_lt n j) [ inl l ↦ none n g l | inr g2 ↦ let u = b.2 n g2 lt in absurd (omega arith) ]
      ])
      ∙ ap (λ (z : ℕ). obligations_up true z t) e

  unknown_by : (n : ℕ) (before : Bool) (x t : ℕ) → x + suc n ≤ t → ((y : ℕ) → x ≤ y → y < x + suc n → known y ≡ false) → obligations_up before x t ≡ obligations_up false (x + suc n) t
  unknown_by zero before x t le k =
      let e : x + 1 ≡ x + suc zero = omega arith in
      up_first before x t false (omega arith) (k x (omega arith) (omega arith)) ∙ ap (λ (y : ℕ). obligations_up false y t) e
  unknown_by (suc n) before x t le k =
      let e : x + 1 + suc n ≡ x + suc (suc n) = omega arith in
      up_first before x t false (omega arith) (k x (omega arith) (omega arith))
      ∙ (unknown_by n false (x + 1) t (omega arith) (λ y a b. k y (omega arith) (omega arith)) ∙ ap (λ (y : ℕ). obligations_up false y t) e)

  pub up_unknown : (before : Bool) (x y t : ℕ) → x < y → y ≤ t → ((z : ℕ) → x ≤ z → z < y → known z ≡ false) → obligations_up before x t ≡ obligations_up false y t
  up_unknown before x y t lt le k =
      let e : x + suc (y - (x + 1)) ≡ y = omega arith in
      unknown_by (y - (x + 1)) before x t (omega arith) (λ z p q. k z p (omega arith)) ∙ ap (λ (z : ℕ). obligations_up false z t) e
