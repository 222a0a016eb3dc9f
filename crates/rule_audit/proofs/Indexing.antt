-- Which rule comes next, and which are passed over.
use Rattle.std.proofs.Common.{suc, zero, ◌⊎◌, ◌≡◌, refl, ap, sym, ◌∙◌, subst, inl, inr, ℕ, ◌+◌, ◌-◌, ◌<◌, ◌≤◌, Bool, true, false, ◌&&◌, nat_eq, Option, Some, List, [], ◌∷◌, ◌++◌, length, get_or, drop, arith}
use Rattle.std.specs.List.{list_any, All}
use Rattle.std.proofs.lemmas.Bool.{cases_lt, cases_Bool, eq-eqb, ne_eqb}
use Rattle.std.proofs.lemmas.List.{get_or_append_left, get_or-append_right, length-append}
use Rattle.std.proofs.lemmas.List.Elements.{All-get_or}
use Rattle.std.proofs.lemmas.List.Folds.{list_any_at}
use Rattle.sig_base.specs.declared.values.Row.{Row}
use Rattle.sig_base.proofs.Common.{and_first, and_last, and_false}
use Rattle.event_codes.specs.declared.channels.Channel.{Channel}
use Rattle.event_codes.specs.Channels.{channel_in_table}
use Rattle.channel_tables.specs.declared.spec.Spec.{Spec}
use Rattle.board.specs.declared.clause.Term.{Term}
use Rattle.board.specs.Channels.{is_channel}
use Rattle.board.specs.Logs.{no_row, no_spec}
use Rattle.board.specs.Verdicts.{AreWithin}
use Rattle.rule_audit.specs.declared.rules.Rule.{Rule}
use Rattle.rule_audit.specs.declared.rules.Rule.TheVariants.{Interval, Conflict, Companion, Parents}
use Rattle.rule_audit.specs.Obligations.{has_row_at, is_clause, is_due, is_row_of_some, is_timed_by, terms_of, row_obligations, end_obligations}
use Rattle.rule_audit.specs.Index.{is_clause_on, is_due_by, is_picked, is_timed_on, no_rule, AreChannels, AreSkips, HasNoRule, IsNext, IsNextDue, IsOwn, IsSkips}
use Rattle.rule_audit.specs.Pass.{FitsRule, IsCutAt}
use Rattle.rule_audit.proofs.Adding.{row_rules, row_rules_over, end_rules}

-- ---- skipping

module _ (specs : List Spec) (i : ℕ) (r : Row) (rules : List Rule) where
  row_pass : (n k : ℕ) → k + n ≤ length rules → ((x : ℕ) → k ≤ x → x < k + n → is_timed_by specs r (get_or rules x no_rule) ≡ false) → row_obligations specs i r (k + 1) (drop k rules) ≡ row_obligations specs i r (k + n + 1) (drop (k + n) rules)
  row_pass zero k le none = ap (λ (m : ℕ). row_obligations specs i r (m + 1) (drop m rules)) (let e : k ≡ k + 0 = omega arith in e)
  row_pass (suc n) k le none =
      let e : k + 1 + n ≡ k + suc n = omega arith in
      row_rules specs i r rules k no_rule (omega arith)
      ∙ (rw (none k (omega arith) (omega arith)) (row_pass n (k + 1) (omega arith) (λ x a b. none x (omega arith) (omega arith))) ∙ ap (λ (m : ℕ). row_obligations specs i r (m + 1) (drop m rules)) e)

  pub row_skip : (k m : ℕ) → k ≤ m → m ≤ length rules → ((x : ℕ) → k ≤ x → x < m → is_timed_by specs r (get_or rules x no_rule) ≡ false) → row_obligations specs i r (k + 1) (drop k rules) ≡ row_obligations specs i r (m + 1) (drop m rules)
  row_skip k m le top none =
      let e : k + (m - k) ≡ m = omega arith in
      row_pass (m - k) k (omega arith) (λ x a b. none x a (omega arith)) ∙ ap (λ (y : ℕ). row_obligations specs i r (y + 1) (drop y rules)) e

module _ (specs : List Spec) (rows : List Row) (before : Bool) (t : ℕ) (rules : List Rule) where
  end_pass : (n k : ℕ) → k + n ≤ length rules → ((x : ℕ) → k ≤ x → x < k + n → is_due specs rows before t (get_or rules x no_rule) ≡ false) → end_obligations specs rows before t (k + 1) (drop k rules) ≡ end_obligations specs rows before t (k + n + 1) (drop (k + n) rules)
  end_pass zero k le none = ap (λ (m : ℕ). end_obligations specs rows before t (m + 1) (drop m rules)) (let e : k ≡ k + 0 = omega arith in e)
  end_pass (suc n) k le none =
      let e : k + 1 + n ≡ k + suc n = omega arith in
      end_rules specs rows before t rules k no_rule (omega arith)
      ∙ (rw (none k (omega arith) (omega arith)) (end_pass n (k + 1) (omega arith) (λ x a b. none x (omega arith) (omega arith))) ∙ ap (λ (m : ℕ). end_obligations specs rows before t (m + 1) (drop m rules)) e)

  pub end_skip : (k m : ℕ) → k ≤ m → m ≤ length rules → ((x : ℕ) → k ≤ x → x < m → is_due specs rows before t (get_or rules x no_rule) ≡ false) → end_obligations specs rows before t (k + 1) (drop k rules) ≡ end_obligations specs rows before t (m + 1) (drop m rules)
  end_skip k m le top none =
      let e : k + (m - k) ≡ m = omega arith in
      end_pass (m - k) k (omega arith) (λ x a b. none x a (omega arith)) ∙ ap (λ (y : ℕ). end_obligations specs rows before t (y + 1) (drop y rules)) e

-- ---- lists of skips

module _ (p : ℕ → Bool) (n : ℕ) where
  pub next_none : (k m : ℕ) → k < n → p k ≡ false → IsNext p n (k + 1) m → IsNext p n k m
  next_none k m lt is next = record {
    from = let a = next.from in omega arith;
    within = next.within;
    none = λ x a b. elim (cases_lt k x) [ inl more ↦ next.none x (omega arith) b | inr same ↦ ap p (let e : x ≡ k = omega arith in e) ∙ is ];
    passes = next.passes;
  }

  pub next_here : (k : ℕ) → k < n → p k ≡ true → IsNext p n k k
  next_here k lt is = record { from = omega arith; within = omega arith; none = λ x a b. absurd (omega arith); passes = λ _. is }

  -- none passes where the first is the one after the last
  pub none_from : (m : ℕ) → IsNext p n 0 m → m ≡ n → (x : ℕ) → x < n → p x ≡ false
  none_from m next same x lt = next.none x (omega arith) (omega arith)

  pub over_from : (m : ℕ) → IsNext p n 0 m → ((x : ℕ) → x < n → p x ≡ false) → m ≡ n
  over_from m next none = elim (cases_lt m n) [
    | inl lt ↦ absurd (let bad : true ≡ false = sym (next.passes lt) ∙ none m lt in cc)
    | inr ge ↦ let top = next.within in omega arith
  ]

-- ---- rows and their channels

pub timed_by : (specs : List Spec) (r : Row) (x : Rule) → is_timed_by specs r x ≡ is_timed_on specs (channel_in_table r.code r.param) x
timed_by specs r (Interval item) = refl
timed_by specs r (Conflict a b terms) = refl
timed_by specs r (Companion p terms) = refl
timed_by specs r (Parents p terms) = refl

pub clause_by : (specs : List Spec) (r : Row) (x : Rule) → (is_clause x && is_row_of_some specs r (terms_of x)) ≡ is_clause_on specs (channel_in_table r.code r.param) x
clause_by specs r (Interval item) = refl
clause_by specs r (Conflict a b terms) = refl
clause_by specs r (Companion p terms) = refl
clause_by specs r (Parents p terms) = refl

-- no channel is this one
module _ (specs : List Spec) (o : Option Channel) (none : (i : ℕ) → i < length specs → is_channel (get_or specs i no_spec).channel o ≡ false) where
  no_term : (terms : List Term) → AreWithin (length specs) terms → list_any (λ c. is_channel (get_or specs c.spec no_spec).channel o) terms ≡ false
  no_term [] w = refl
  no_term (c ∷ cs) (lt, w) = rw (none c.spec lt) (no_term cs w)

  none_timed : (x : Rule) → FitsRule specs x → is_timed_on specs o x ≡ false
  none_timed (Interval item) fit = none item.spec fit.within
  none_timed (Conflict a b terms) fit = refl
  none_timed (Companion p terms) fit = refl
  none_timed (Parents p terms) fit = refl

  none_clause : (x : Rule) → FitsRule specs x → is_clause_on specs o x ≡ false
  none_clause (Interval item) fit = refl
  none_clause (Conflict a b terms) fit = no_term terms fit
  none_clause (Companion p terms) fit = no_term terms fit
  none_clause (Parents p terms) fit = no_term terms fit

  pub none_ruled : (rules : List Rule) → All (FitsRule specs) rules → HasNoRule specs rules o
  none_ruled rules fit x lt =
      let fits = All-get_or (FitsRule specs) rules x no_rule lt fit in
      (none_timed (get_or rules x no_rule) fits, none_clause (get_or rules x no_rule) fits)

-- the same places pass
pub skips_same : (p q : ℕ → Bool) (n : ℕ) (xs : List ℕ) → ((x : ℕ) → p x ≡ q x) → IsSkips p n xs → IsSkips q n xs
skips_same p q n xs same (size, each) = (
  size,
  λ k le.
      let next = each k le in
      record { from = next.from; within = next.within; none = λ x a b. sym (same x) ∙ next.none x a b; passes = λ lt. sym (same (get_or xs (n - k) 0)) ∙ next.passes lt },
)

module _ (specs : List Spec) (rules : List Rule) (r : Row) (s : ℕ) (own : IsOwn specs rules r s) where
  own_channel : s < length specs → channel_in_table r.code r.param ≡ Some (get_or specs s no_spec).channel
  own_channel lt = elim own [ inl (_, e) ↦ e | inr (same, _) ↦ absurd (omega arith) ]

  -- the skips of the row's channel are those of the row
  pub timed_skips : (n : ℕ) (lists : List (List ℕ)) → AreSkips specs rules false n lists → s < n → n ≡ length specs → IsSkips (λ x. is_timed_by specs r (get_or rules x no_rule)) (length rules) (get_or lists s [])
  timed_skips n lists are lt all = skips_same (is_picked specs rules false (get_or specs s no_spec).channel) (λ x. is_timed_by specs r (get_or rules x no_rule)) (length rules) (get_or lists s []) (λ x. sym (timed_by specs r (get_or rules x no_rule) ∙ ap (λ (o : Option Channel). is_timed_on specs o (get_or rules x no_rule)) (own_channel (omega arith)))) (are.1 s lt)

  -- a row whose place is the number of specs has no rule
  module _ (ge : length specs ≤ s) where
    pub own_none : HasNoRule specs rules (channel_in_table r.code r.param)
    own_none = elim own [ inl (lt, _) ↦ absurd (omega arith) | inr (_, none) ↦ none ]

    pub none_timed_by : (x : ℕ) → x < length rules → is_timed_by specs r (get_or rules x no_rule) ≡ false
    none_timed_by x lt = timed_by specs r (get_or rules x no_rule) ∙ (own_none x lt).0

-- ---- what is due at a tenth

pub any_none : {X : Type 0} → (p : X → Bool) (xs : List X) (d : X) → ((k : ℕ) → k < length xs → p (get_or xs k d) ≡ false) → list_any p xs ≡ false
any_none p [] d none = refl
any_none p (x ∷ xs) d none = rw (none 0 (omega arith)) (any_none p xs d (λ k lt. none (suc k) (omega arith)))

pub off_by : (a b : Bool) → (a && b) ≡ false → a ≡ true → b ≡ false
off_by true b e is = e
off_by false b e is = absurd (let bad : false ≡ true = is in cc)

module _ (specs : List Spec) (rules : List Rule) (rows : List Row) (t f e : ℕ) (low : IsCutAt rows t f) (high : IsCutAt rows (t + 1) e) where
  here : (j : ℕ) → f ≤ j → j < e → nat_eq (get_or rows j no_row).at t ≡ true
  here j a b = eq-eqb (get_or rows j no_row).at t (let top = high.0 in let p = low.2 j a (omega arith) in let q = high.1 j b in omega arith)

  away : (j : ℕ) → j < length rows → (f ≤ j → j < e → ⊥) → nat_eq (get_or rows j no_row).at t ≡ false
  away j lt out = ne_eqb (get_or rows j no_row).at t (λ same. elim (cases_lt j f) [
    | inl less ↦ let p = low.1 j less in absurd (omega arith)
    | inr ge ↦ elim (cases_lt j e) [
      | inl less ↦ out ge less
      | inr ge2 ↦ let p = high.2 j ge2 lt in absurd (omega arith)
    ]
  ])

  none_due : (x : Rule) → ((j : ℕ) → f ≤ j → j < e → is_clause_on specs (channel_in_table (get_or rows j no_row).code (get_or rows j no_row).param) x ≡ false) → is_due specs rows true t x ≡ false
  none_due x none = elim (cases_Bool (is_clause x)) [
    | inr off ↦ rw off refl
    | inl is ↦
        let off : has_row_at specs rows t (terms_of x) ≡ false = any_none (λ (r : Row). nat_eq r.at t && is_row_of_some specs r (terms_of x)) rows no_row (λ j lt. elim (cases_lt j f) [
          | inl less ↦ rw (away j lt (λ a b. absurd (omega arith))) refl
          | inr ge ↦ elim (cases_lt j e) [
            | inr ge2 ↦ rw (away j lt (λ a b. absurd (omega arith))) refl
            | inl less ↦ rw (here j ge less) (off_by (is_clause x) (is_row_of_some specs (get_or rows j no_row) (terms_of x)) (clause_by specs (get_or rows j no_row) x ∙ none j ge less) is)
          ]
        ]) in
        ap (λ (b : Bool). is_clause x && b) off ∙ and_false (is_clause x)
  ]

  some_due : (x : Rule) (j : ℕ) → f ≤ j → j < e → is_clause_on specs (channel_in_table (get_or rows j no_row).code (get_or rows j no_row).param) x ≡ true → is_due specs rows true t x ≡ true
  some_due x j a b on =
      let both = clause_by specs (get_or rows j no_row) x ∙ on in
      let row : is_row_of_some specs (get_or rows j no_row) (terms_of x) ≡ true = and_last (is_clause x) (is_row_of_some specs (get_or rows j no_row) (terms_of x)) both in
      let top = high.0 in
      let has : has_row_at specs rows t (terms_of x) ≡ true = list_any_at (λ (r : Row). nat_eq r.at t && is_row_of_some specs r (terms_of x)) rows j no_row (omega arith) (rw (here j a b) row) in
      rw (and_first (is_clause x) (is_row_of_some specs (get_or rows j no_row) (terms_of x)) both) has

  -- up to the next due place none is, and it is
  pub due_none : (k m : ℕ) → IsNextDue specs rules rows f e k m → (x : ℕ) → k ≤ x → x < m → is_due specs rows true t (get_or rules x no_rule) ≡ false
  due_none k m next x a b = none_due (get_or rules x no_rule) (λ j c d. next.none x j a b c d)

  pub due_there : (k m : ℕ) → IsNextDue specs rules rows f e k m → m < length rules → is_due specs rows true t (get_or rules m no_rule) ≡ true
  due_there k m next lt = let (j, a, b, on) = next.passes lt in some_due (get_or rules m no_rule) j a b on

-- ---- the next due place of several channels

one_more : (t j : ℕ) → j < t + 1 → (j < t) ⊎ (j ≡ t)
one_more t j lt = elim (cases_lt j t) [ inl less ↦ inl less | inr ge ↦ inr (omega arith) ]

-- m is the first place from k on, of the n places, that passes for one of the first i channels of the list, or n where none does
pub record IsNextOver (p : ℕ → ℕ → Bool) (n : ℕ) (xs : List ℕ) (i k m : ℕ) : Type 0 where
  pub from : k ≤ m
  pub within : m ≤ n
  pub none : (x j : ℕ) → k ≤ x → x < m → j < i → p (get_or xs j 0) x ≡ false
  pub passes : m < n → (j : ℕ) × (j < i) × (p (get_or xs j 0) m ≡ true)

module _ (p : ℕ → ℕ → Bool) (n : ℕ) (xs : List ℕ) (k : ℕ) where
  pub over_start : k ≤ n → IsNextOver p n xs 0 k n
  over_start le = record { from = le; within = omega arith; none = λ x j a b c. absurd (omega arith); passes = λ lt. absurd (omega arith) }

  -- none can come before the first that is asked for
  pub over_here : (i j m : ℕ) → j < i → m ≡ k → IsNext (p (get_or xs j 0)) n k m → IsNextOver p n xs i k k
  over_here i j m lt same next =
      let top = next.within in
      record {
        from = omega arith;
        within = omega arith;
        none = λ x j a b. absurd (omega arith);
        passes = λ few. (j, lt, subst (λ (x : ℕ). p (get_or xs j 0) x ≡ true) same (next.passes (omega arith)));
      }

  pub over_keep : (i m q : ℕ) → m ≤ q → IsNextOver p n xs i k m → IsNext (p (get_or xs i 0)) n k q → IsNextOver p n xs (i + 1) k m
  over_keep i m q le over next = record {
    from = over.from;
    within = over.within;
    none = λ x j a b c. elim (one_more i j c) [ inl less ↦ over.none x j a b less | inr same ↦ ap (λ (t : ℕ). p (get_or xs t 0) x) same ∙ next.none x a (omega arith) ];
    passes = λ lt. let (j, b, on) = over.passes lt in (j, omega arith, on);
  }

  pub over_less : (i m q : ℕ) → q < m → IsNextOver p n xs i k m → IsNext (p (get_or xs i 0)) n k q → IsNextOver p n xs (i + 1) k q
  over_less i m q lt over next = record {
    from = next.from;
    within = next.within;
    none = λ x j a b c. elim (one_more i j c) [ inl less ↦ over.none x j a (omega arith) less | inr same ↦ ap (λ (t : ℕ). p (get_or xs t 0) x) same ∙ next.none x a b ];
    passes = λ few. (i, omega arith, next.passes few);
  }

-- whether the clause with a place is of the channel with this one
abbrev pub is_of_channel : List Spec → List Rule → ℕ → ℕ → Bool
is_of_channel specs rules s = is_picked specs rules true (get_or specs s no_spec).channel

-- what is next for the channels of the rows is next for the rows
module _ (specs : List Spec) (rules : List Rule) (rows : List Row) (own : List ℕ) (f t : ℕ) (are : (j : ℕ) → f ≤ j → j < t → IsOwn specs rules (get_or rows j no_row) (get_or own j 0)) (top : t ≤ length rows) (channels : List ℕ) (is : AreChannels own (length specs) f t channels) where
  row_picked : (j x : ℕ) → f ≤ j → j < t → get_or own j 0 < length specs → is_due_by specs rules (get_or rows j no_row) x ≡ is_of_channel specs rules (get_or own j 0) x
  row_picked j x a b few = ap (λ (o : Option Channel). is_clause_on specs o (get_or rules x no_rule)) (own_channel specs rules (get_or rows j no_row) (get_or own j 0) (are j a b) few)

  pub due_next : (k m : ℕ) → IsNextOver (is_of_channel specs rules) (length rules) channels (length channels) k m → IsNextDue specs rules rows f t k m
  due_next k m over =
      let high = over.within in
      record {
        from = over.from;
        within = over.within;
        none = λ x j a b c d.
            elim (cases_lt (get_or own j 0) (length specs)) [
              | inl few ↦ let (i, li, e) = is.all j c d few in row_picked j x c d few ∙ (ap (λ (s : ℕ). is_of_channel specs rules s x) (sym e) ∙ over.none x i a b li)
              | inr ge ↦ (own_none specs rules (get_or rows j no_row) (get_or own j 0) (are j c d) ge x (omega arith)).1
            ];
        passes = λ lt.
            let (i, li, on) = over.passes lt in
            let (j, a, b, e) = is.rows i li in
            let less = is.within i li in
            let few : get_or own j 0 < length specs = omega arith in
            (j, a, b, row_picked j m a b few ∙ (ap (λ (s : ℕ). is_of_channel specs rules s m) e ∙ on));
      }

-- ---- the channels of rows

module _ (own : List ℕ) (n f : ℕ) where
  -- a row without a rule, or of a channel that is there already
  pub channels_keep : (t : ℕ) (xs : List ℕ) → (get_or own t 0 < n → (k : ℕ) × (k < length xs) × (get_or xs k 0 ≡ get_or own t 0)) → AreChannels own n f t xs → AreChannels own n f (t + 1) xs
  channels_keep t xs there are = record {
    within = are.within;
    rows = λ k lt. let (j, a, b, e) = are.rows k lt in (j, a, omega arith, e);
    all = λ j a b few. elim (one_more t j b) [ inl less ↦ are.all j a less few | inr same ↦ let few2 : get_or own t 0 < n = rw (← same) few in let (k, lt, e) = there few2 in (k, lt, rw same e) ];
  }

  -- a channel more
  pub channels_more : (t c : ℕ) (xs : List ℕ) → get_or own t 0 ≡ c → f ≤ t → c < n → AreChannels own n f t xs → AreChannels own n f (t + 1) (xs ++ c ∷ [])
  channels_more t c xs at ft few are =
      let size : length (xs ++ c ∷ []) ≡ length xs + 1 = length-append xs (c ∷ []) in
      let last : get_or (xs ++ c ∷ []) (length xs) 0 ≡ c = get_or-append_right xs (c ∷ []) (length xs) (length xs) 0 refl (omega arith) ∙ ap (λ (k : ℕ). get_or (c ∷ []) k 0) (let zero : length xs - length xs ≡ 0 = omega arith in zero) in
      let old : (k : ℕ) → k < length xs → get_or (xs ++ c ∷ []) k 0 ≡ get_or xs k 0 = λ k lt. get_or_append_left xs (c ∷ []) 0 k lt in
      record {
        within = λ k lt. elim (one_more (length xs) k (omega arith)) [ inl less ↦ rw (old k less) (are.within k less) | inr same ↦ rw (same, last) few ];
        rows = λ k lt. elim (one_more (length xs) k (omega arith)) [
          | inl less ↦ let (j, a, b, e) = are.rows k less in (j, a, omega arith, rw (old k less) e)
          | inr same ↦ (t, ft, omega arith, rw (same, last) at)
        ];
        all = λ j a b few2. elim (one_more t j b) [
          | inl less ↦ let (k, lt, e) = are.all j a less few2 in (k, omega arith, rw (old k lt) e)
          | inr same ↦ (length xs, omega arith, rw (same, last) (sym at))
        ];
      }

-- ---- one element more

pub each_more : {X : Type 0} → (P : ℕ → X → Type 0) (xs : List X) (n : ℕ) (x d : X) → length xs ≡ n → ((i : ℕ) → i < n → P i (get_or xs i d)) → P n x → (i : ℕ) → i < n + 1 → P i (get_or (xs ++ x ∷ []) i d)
each_more {X} P xs n x d size each last i lt = elim (cases_lt i n) [
  | inl less ↦ subst (λ (y : X). P i y) (sym (get_or_append_left xs (x ∷ []) d i (omega arith))) (each i less)
  | inr ge ↦
      let same : i ≡ n = omega arith in
      let zero : i - n ≡ 0 = omega arith in
      let at : get_or (xs ++ x ∷ []) i d ≡ x = get_or-append_right xs (x ∷ []) n i d size ge ∙ ap (λ (k : ℕ). get_or (x ∷ []) k d) zero in
      subst (λ (y : X). P i y) (sym at) (subst (λ (k : ℕ). P k x) (sym same) last)
]

pub length_more : {X : Type 0} → (xs : List X) (n : ℕ) (x : X) → length xs ≡ n → length (xs ++ x ∷ []) ≡ n + 1
length_more xs n x size = length-append xs (x ∷ []) ∙ ap (λ (k : ℕ). k + 1) size

-- no rule of the row
pub row_none : (specs : List Spec) (i : ℕ) (r : Row) (rules : List Rule) → ((x : ℕ) → x < length rules → is_timed_by specs r (get_or rules x no_rule) ≡ false) → row_obligations specs i r 1 rules ≡ []
row_none specs i r rules none = row_skip specs i r rules 0 (length rules) (omega arith) (omega arith) (λ x a b. none x b) ∙ row_rules_over specs i r rules (length rules) (length rules + 1) (omega arith)
