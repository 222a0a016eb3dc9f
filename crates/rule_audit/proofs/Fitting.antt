-- The rules of a configuration are of its channels, and they are few.
use Rattle.std.proofs.Common.{suc, ◌≡◌, ◌≢◌, refl, sym, ◌∙◌, inl, inr, ℕ, ◌*◌, ◌<◌, ◌≤◌, ◌==◌, List, [], ◌∷◌, ◌++◌, length, get_or, map, flat_map, length-append, arith}
use Rattle.std.specs.List.{All, AllPairs}
use Rattle.std.proofs.lemmas.Bool.{cases_Bool, eqb-true}
use Rattle.std.proofs.lemmas.Option.{slice_get_within}
use Rattle.std.proofs.lemmas.List.{length-map}
use Rattle.std.proofs.lemmas.List.Elements.{All-append, All-map, All-weaker}
use Rattle.board.specs.Logs.{no_spec}
use Rattle.ring_config.specs.declared.items.IntervalItem.{IntervalItem}
use Rattle.ring_config.specs.declared.items.OverlapItem.{OverlapItem}
use Rattle.ring_config.specs.Settings.{Settings}
use Rattle.ring_config.specs.Sound.{IsIntervalOf, IsSound}
use Rattle.sig_base.specs.Numbers.{has_number}
use Rattle.rule_audit.specs.declared.rules.Rule.{Rule}
use Rattle.rule_audit.specs.declared.rules.Rule.TheVariants.{Interval, Conflict, Companion, Parents}
use Rattle.rule_audit.specs.Channels.{companion_channels, conflict_channels, parents_channels}
use Rattle.rule_audit.specs.Pass.{FitsRule}
use Rattle.rule_audit.specs.Rules.{each_number, is_conflict, conflict_rule, conflict_rules, companion_rule, companion_rules, parents_rule_of, parents_rule, parents_rules, rules_for}
use Rattle.rule_audit.proofs.Lists.{few_if, few_numbers, got}
use Rattle.rule_audit.proofs.Placing.{IsOwnClause, all_parents_own, companions_own, conflicts_own, within_of}

fits_of : (c : Settings) (r : Rule) → IsOwnClause c r → FitsRule c.specs r
fits_of c (Interval item) h = absurd h
fits_of c (Conflict a b terms) h = within_of c.specs (conflict_channels a b) terms h
fits_of c (Companion p terms) h = within_of c.specs (companion_channels p) terms h
fits_of c (Parents n terms) (o, there, same, h) = within_of c.specs (parents_channels o) terms h

module _ (c : Settings) (sound : IsSound c) where
  item_fits : (item : IntervalItem) → IsIntervalOf c.specs item → FitsRule c.specs (Interval item)
  item_fits item is =
      let within : item.spec < length c.specs = slice_get_within c.specs item.spec is.spec is.there in
      let same : get_or c.specs item.spec no_spec ≡ is.spec = got c.specs item.spec no_spec is.spec is.there in
      record { within = within; colour = rw same is.colour; bound = is.bound }

  all_fit : (rules : List Rule) → All (IsOwnClause c) rules → All (FitsRule c.specs) rules
  all_fit rules h = All-weaker (IsOwnClause c) (FitsRule c.specs) (fits_of c) rules h

  intervals_fit : All (FitsRule c.specs) (map Interval c.intervals)
  intervals_fit = All-map (FitsRule c.specs) Interval c.intervals (All-weaker (IsIntervalOf c.specs) (λ (item : IntervalItem). FitsRule c.specs (Interval item)) item_fits c.intervals sound.intervals)

  pub rules_fit : All (FitsRule c.specs) (rules_for c)
  unfolding rules_for
  rules_fit = All-append (FitsRule c.specs) _ (parents_rules c) (All-append (FitsRule c.specs) _ (companion_rules c) (All-append (FitsRule c.specs) (map Interval c.intervals) (conflict_rules c) intervals_fit (all_fit (conflict_rules c) (conflicts_own c sound))) (all_fit (companion_rules c) (companions_own c sound))) (all_fit (parents_rules c) (all_parents_own c sound))

  -- ---- how many

  no_rules : (n : ℕ) (os : List OverlapItem) → ((k : ℕ) (d : OverlapItem) → k < length os → (get_or os k d).number ≡ n → ⊥) → flat_map (parents_rule_of c n) os ≡ []
  no_rules n [] h = refl
  no_rules n (o ∷ os) h = elim (cases_Bool (o.number == n)) [
    | inl is ↦ absurd (h 0 o (omega arith) (eqb-true o.number n is))
    | inr other ↦ rw other (no_rules n os (λ k d lt. h (suc k) d (omega arith)))
  ]

  numbered_rules : (n : ℕ) (os : List OverlapItem) → AllPairs (λ o q. o.number ≢ q.number) os → length (flat_map (parents_rule_of c n) os) ≤ 1
  numbered_rules n [] h = omega arith
  numbered_rules n (o ∷ os) h = elim (cases_Bool (o.number == n)) [
    | inl is ↦
        let none : flat_map (parents_rule_of c n) os ≡ [] = no_rules n os (λ k d lt e. h 0 (suc k) d (omega arith) (omega arith) (eqb-true o.number n is ∙ sym e)) in
        rw (is, none) (omega arith)
    | inr other ↦ rw other (numbered_rules n os (λ i j d lt lt2. h (suc i) (suc j) d (omega arith) (omega arith)))
  ]

  pub few_rules : length (rules_for c) ≤ 1000
  unfolding rules_for
  few_rules =
      let intervals = sound.few_intervals in
      let one : length (map Interval c.intervals) ≡ length c.intervals = length-map c.intervals Interval in
      let two : length (conflict_rules c) ≤ 16 * 16 = few_numbers 16 (λ a. each_number (conflict_rule c a)) (λ a. let few : length (each_number (conflict_rule c a)) ≤ 16 * 1 = few_numbers 1 (conflict_rule c a) (λ b. few_if (is_conflict c a b) _) in omega arith) in
      let three : length (companion_rules c) ≤ 16 * 1 = few_numbers 1 (companion_rule c) (λ p. few_if (has_number c.peds p) _) in
      let four : length (parents_rules c) ≤ 16 * 1 = few_numbers 1 (parents_rule c) (λ n. numbered_rules n c.overlaps sound.distinct_overlaps) in
      let sum1 = length-append (map Interval c.intervals) (conflict_rules c) in
      let sum2 = length-append (map Interval c.intervals ++ conflict_rules c) (companion_rules c) in
      let sum3 = length-append ((map Interval c.intervals ++ conflict_rules c) ++ companion_rules c) (parents_rules c) in
      omega arith
