-- What is to be judged stands at a known tenth, before a row of that tenth or at its end.
use Rattle.std.proofs.Common.{◌≡◌, ℕ, zero, suc, ◌+◌, ◌<◌, ◌≤◌, Bool, true, false, ◌==◌, if◌then◌else◌, nat_eq, List, [], ◌∷◌, ◌++◌, length, get_or, map, flat_map, refl, sym, ap, subst, arith}
use Rattle.std.specs.List.{All, range_with_len}
use Rattle.std.proofs.lemmas.Bool.Decides.{nat_tests}
use Rattle.sig_base.specs.declared.values.Row.{Row}
use Rattle.sig_base.specs.Numbers.{has_number}
use Rattle.sig_base.proofs.Each.{each_join, each_if, each_where, Each}
use Rattle.channel_tables.specs.declared.spec.Spec.{Spec}
use Rattle.board.specs.Logs.{no_row}
use Rattle.ring_config.specs.declared.items.IntervalItem.{IntervalItem}
use Rattle.ring_config.specs.Settings.{Settings}
use Rattle.ring_config.specs.Sound.{IsIntervalOf, IsSound}
use Rattle.rule_audit.specs.declared.rules.Rule.{Rule}
use Rattle.rule_audit.specs.declared.rules.Rule.TheVariants.{Interval, Conflict, Companion, Parents}
use Rattle.rule_audit.specs.declared.lines.Place.{Place}
use Rattle.rule_audit.specs.declared.lines.Place.TheVariants.{BeforeRow, EndOfTenth}
use Rattle.rule_audit.specs.Rules.{companion_rule, companion_rules, companion_terms, conflict_rule, conflict_rules, conflict_terms, each_number, is_conflict, parents_rule, parents_rule_of, parents_rules, parents_terms, rules_for}
use Rattle.rule_audit.specs.Obligations.{Obligation, end_obligations, is_due, is_timed_by, obligation, obligations_from, row_obligations, rows_obligations, tenth_obligations}

each_flat : {X Y : Type 0} (P : Y → Type 0) (f : X → List Y) (xs : List X) → ((x : X) → Each P (f x)) → Each P (flat_map f xs)
each_flat P f [] p = tt
each_flat P f (x ∷ xs) p = each_join P (f x) (flat_map f xs) (p x) (each_flat P f xs p)

pub each_weaker : {X : Type 0} (P Q : X → Type 0) (xs : List X) → ((x : X) → P x → Q x) → Each P xs → Each Q xs
each_weaker P Q [] h p = tt
each_weaker P Q (x ∷ xs) h p = (h x p.0, each_weaker P Q xs h p.1)

pub each_all : {X : Type 0} (P : X → Type 0) (xs : List X) → Each P xs → All P xs
each_all P [] p k d lt = absurd (omega arith)
each_all P (x ∷ xs) p zero d lt = p.0
each_all P (x ∷ xs) p (suc k) d lt = each_all P xs p.1 k d (omega arith)

all_each : {X : Type 0} (P : X → Type 0) (xs : List X) → All P xs → Each P xs
all_each P [] p = tt
all_each P (x ∷ xs) p = (p 0 x (omega arith), all_each P xs (λ k d lt. p (suc k) d (omega arith)))

-- ---- rules

-- an interval rule is about a colour of a channel, with a bound
abbrev pub FitRule : List Spec → Rule → Type 0
FitRule specs (Interval item) = IsIntervalOf specs item
FitRule specs (Conflict a b terms) = Unit {0}
FitRule specs (Companion p terms) = Unit {0}
FitRule specs (Parents o terms) = Unit {0}

interval_rules : (specs : List Spec) (items : List IntervalItem) → Each (IsIntervalOf specs) items → Each (FitRule specs) (map Interval items)
interval_rules specs [] p = tt
interval_rules specs (x ∷ xs) p = (p.0, interval_rules specs xs p.1)

numbers_fit : {X : Type 0} (P : X → Type 0) (f : ℕ → List X) → ((n : ℕ) → Each P (f n)) → Each P (each_number f)
unfolding each_number
numbers_fit P f p = each_flat P f (range_with_len 1 16) p

conflict_fits : (c : Settings) (a b : ℕ) → Each (FitRule c.specs) (conflict_rule c a b)
conflict_fits c a b = each_if (FitRule c.specs) (is_conflict c a b) (Conflict a b (conflict_terms c.specs a b)) tt

companion_fits : (c : Settings) (p : ℕ) → Each (FitRule c.specs) (companion_rule c p)
companion_fits c p = each_if (FitRule c.specs) (has_number c.peds p) (Companion p (companion_terms c.specs p)) tt

parents_fit : (c : Settings) (n : ℕ) → Each (FitRule c.specs) (parents_rule c n)
parents_fit c n = each_flat (FitRule c.specs) (parents_rule_of c n) c.overlaps (λ o. each_if (FitRule c.specs) (o.number == n) (Parents n (parents_terms c.specs o)) tt)

pub rules_fit : (c : Settings) → IsSound c → Each (FitRule c.specs) (rules_for c)
unfolding rules_for
rules_fit c sound =
    let F = FitRule c.specs in
    each_join F ((map Interval c.intervals ++ conflict_rules c) ++ companion_rules c) (parents_rules c)
    (each_join F (map Interval c.intervals ++ conflict_rules c) (companion_rules c)
    (each_join F (map Interval c.intervals) (conflict_rules c)
    (interval_rules c.specs c.intervals (all_each (IsIntervalOf c.specs) c.intervals sound.intervals))
    (numbers_fit F (λ a. each_number (conflict_rule c a)) (λ a. numbers_fit F (conflict_rule c a) (conflict_fits c a))))
    (numbers_fit F (companion_rule c) (companion_fits c)))
    (numbers_fit F (parents_rule c) (parents_fit c))

-- ---- obligations

-- the place is before a row of the tenth, or at its end
abbrev pub FitPlace : List Row → ℕ → Place → Type 0
FitPlace rows t (BeforeRow i) = (i < length rows) × ((get_or rows i no_row).at ≡ t)
FitPlace rows t EndOfTenth = Unit {0}

-- the obligation is one of these rules, at a known tenth
pub record IsPlaced (known : ℕ → Bool) (specs : List Spec) (rules : List Rule) (rows : List Row) (first end : ℕ) (o : Obligation) : Type 0 where
  pub is_known : known o.at ≡ true
  pub low : first ≤ o.at
  pub high : o.at < end
  pub place : FitPlace rows o.at o.place
  pub rule : FitRule specs o.rule
  pub from_one : 1 ≤ o.number
  pub number : o.number ≤ length rules

module _ (P : Obligation → Type 0) (Q : Rule → Type 0) (specs : List Spec) where
  each_row : (i : ℕ) (r : Row) (n : ℕ) (xs : List Rule) → Each Q xs → ((m : ℕ) (x : Rule) → n ≤ m → m < n + length xs → Q x → P (obligation m x r.at (BeforeRow i))) → Each P (row_obligations specs i r n xs)
  unfolding row_obligations
  each_row i r n [] q p = tt
  each_row i r n (x ∷ xs) q p =
      each_join P _ (row_obligations specs i r (n + 1) xs)
      (each_if P (is_timed_by specs r x) (obligation n x r.at (BeforeRow i)) (p n x (omega arith) (omega arith) q.0))
      (each_row i r (n + 1) xs q.1 (λ m y low high h. p m y (omega arith) (omega arith) h))

  each_end : (rows : List Row) (before : Bool) (t n : ℕ) (xs : List Rule) → Each Q xs → ((m : ℕ) (x : Rule) → n ≤ m → m < n + length xs → Q x → P (obligation m x t EndOfTenth)) → Each P (end_obligations specs rows before t n xs)
  unfolding end_obligations
  each_end rows before t n [] q p = tt
  each_end rows before t n (x ∷ xs) q p =
      each_join P _ (end_obligations specs rows before t (n + 1) xs)
      (each_if P (is_due specs rows before t x) (obligation n x t EndOfTenth) (p n x (omega arith) (omega arith) q.0))
      (each_end rows before t (n + 1) xs q.1 (λ m y low high h. p m y (omega arith) (omega arith) h))

  each_rows : (rules : List Rule) (t i : ℕ) (rs : List Row) → Each Q rules → ((j m : ℕ) (x : Rule) → j < length rs → (get_or rs j no_row).at ≡ t → 1 ≤ m → m < 1 + length rules → Q x → P (obligation m x (get_or rs j no_row).at (BeforeRow (i + j)))) → Each P (rows_obligations specs rules t i rs)
  unfolding rows_obligations
  each_rows rules t i [] q p = tt
  each_rows rules t i (r ∷ rs) q p =
      each_join P _ (rows_obligations specs rules t (i + 1) rs)
      (each_where P (nat_eq r.at t) (row_obligations specs i r 1 rules) (λ e.
      let at : r.at ≡ t = grind (arith, nat_tests) in
      let here : i + 0 ≡ i = omega arith in
      each_row i r 1 rules q (λ m x low high h. subst (λ (k : ℕ). P (obligation m x r.at (BeforeRow k))) here (p 0 m x (omega arith) at low high h))))
      (each_rows rules t (i + 1) rs q (λ j m x lt at low high h.
      let next : i + suc j ≡ (i + 1) + j = omega arith in
      subst (λ (k : ℕ). P (obligation m x (get_or rs j no_row).at (BeforeRow k))) next (p (suc j) m x (omega arith) at low high h)))

-- all obligations of an hour are placed
pub all_placed : (known : ℕ → Bool) (specs : List Spec) (rules : List Rule) (rows : List Row) (before : Bool) (t n first end : ℕ) → Each (FitRule specs) rules → first ≤ t → t + n ≤ end → Each (IsPlaced known specs rules rows first end) (obligations_from known specs rules rows before t n)
unfolding obligations_from
all_placed known specs rules rows before t zero first end q low high = tt
all_placed known specs rules rows before t (suc n) first end q low high =
    let P = IsPlaced known specs rules rows first end in
    each_join P _ (obligations_from known specs rules rows (known t) (t + 1) n)
    (each_where P (known t) (tenth_obligations specs rules rows before t) (λ is.
    each_join P (rows_obligations specs rules t 0 rows) (end_obligations specs rows before t 1 rules)
    (each_rows P (FitRule specs) specs rules t 0 rows q (λ j m x lt at one few fit. record {
      is_known = subst (λ (k : ℕ). known k ≡ true) (sym at) is;
      low = omega arith;
      high = omega arith;
      place = (let same : 0 + j ≡ j = omega arith in subst (λ (k : ℕ). (k < length rows) × ((get_or rows k no_row).at ≡ (get_or rows j no_row).at)) (sym same) (lt, refl));
      rule = fit;
      from_one = one;
      number = omega arith;
    }))
    (each_end P (FitRule specs) specs rows before t 1 rules q (λ m x one few fit. record {
      is_known = is;
      low = low;
      high = omega arith;
      place = tt;
      rule = fit;
      from_one = one;
      number = omega arith;
    }))))
    (all_placed known specs rules rows (known t) (t + 1) n first end q (omega arith) (omega arith))

units : {X : Type 0} (xs : List X) → Each (λ x. Unit {0}) xs
units [] = tt
units (x ∷ xs) = (tt, units xs)

-- each is of a rule by its number
pub all_numbered : (known : ℕ → Bool) (specs : List Spec) (rules : List Rule) (rows : List Row) (before : Bool) (t n : ℕ) → Each (λ o. (1 ≤ o.number) × (o.number ≤ length rules)) (obligations_from known specs rules rows before t n)
unfolding obligations_from
all_numbered known specs rules rows before t zero = tt
all_numbered known specs rules rows before t (suc n) =
    let P : Obligation → Type 0 = λ o. (1 ≤ o.number) × (o.number ≤ length rules) in
    each_join P _ (obligations_from known specs rules rows (known t) (t + 1) n)
    (each_where P (known t) (tenth_obligations specs rules rows before t) (λ is.
    each_join P (rows_obligations specs rules t 0 rows) (end_obligations specs rows before t 1 rules)
    (each_rows P (λ x. Unit {0}) specs rules t 0 rows (units rules) (λ j m x lt at one few u. (one, omega arith)))
    (each_end P (λ x. Unit {0}) specs rows before t 1 rules (units rules) (λ m x one few u. (one, omega arith)))))
    (all_numbered known specs rules rows (known t) (t + 1) n)

-- what is known decides the obligations
pub known_same : (k1 k2 : ℕ → Bool) (specs : List Spec) (rules : List Rule) (rows : List Row) (before : Bool) (t n : ℕ) → ((x : ℕ) → t ≤ x → x < t + n → k1 x ≡ k2 x) → obligations_from k1 specs rules rows before t n ≡ obligations_from k2 specs rules rows before t n
unfolding obligations_from
known_same k1 k2 specs rules rows before t zero e = refl
known_same k1 k2 specs rules rows before t (suc n) e =
    let here : k1 t ≡ k2 t = e t (omega arith) (omega arith) in
    rw here (ap (λ os. (if k2 t then tenth_obligations specs rules rows before t else []) ++ os) (known_same k1 k2 specs rules rows (k2 t) (t + 1) n (λ x low high. e x (omega arith) (omega arith))))

-- where nothing is known, nothing is to be judged
pub none_known : (known : ℕ → Bool) (specs : List Spec) (rules : List Rule) (rows : List Row) (before : Bool) (t n : ℕ) → ((x : ℕ) → t ≤ x → x < t + n → known x ≡ false) → obligations_from known specs rules rows before t n ≡ []
unfolding obligations_from
none_known known specs rules rows before t zero e = refl
none_known known specs rules rows before t (suc n) e =
    let here : known t ≡ false = e t (omega arith) (omega arith) in
    rw here (none_known known specs rules rows false (t + 1) n (λ x low high. e x (omega arith) (omega arith)))
