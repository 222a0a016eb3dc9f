-- Each rule of a configuration is of the channels that it names, and its terms are a clause.
use Rattle.std.proofs.Common.{suc, zero, ◌≡◌, ◌≢◌, refl, ap, sym, ◌∙◌, subst, inl, inr, ℕ, ◌+◌, ◌-◌, ◌<◌, ◌≤◌, Bool, true, false, ◌&&◌, ◌==◌, nat_lt, List, [], ◌∷◌, length, get_or, map, flat_map, filter, Option, Some, None, is_some, unwrap_or, arith}
use Rattle.std.specs.List.{All, Contains, range_with_len}
use Rattle.std.specs.Int.{bit_at}
use Rattle.std.proofs.lemmas.Bool.{cases_Bool, cases_lt, and_parts, eqb-true, eq-eqb, ltb-true}
use Rattle.std.proofs.lemmas.Bool.Decides.{eqb_tells}
use Rattle.std.proofs.lemmas.Option.{slice_get_within}
use Rattle.std.proofs.lemmas.List.{length-map}
use Rattle.std.proofs.lemmas.List.Elements.{All-append, All-contains_itself, All-map, All-weaker}
use Rattle.std.proofs.lemmas.List.Quantifiers.{position-Some}
use Rattle.event_codes.specs.declared.channels.Channel.{Channel}
use Rattle.event_codes.specs.declared.channels.Kind.{Kind}
use Rattle.event_codes.specs.declared.channels.Kind.TheVariants as kinds
use Rattle.channel_tables.specs.declared.spec.Spec.{Spec}
use Rattle.board.specs.declared.clause.Term.{Term}
use Rattle.board.specs.Logs.{no_spec}
use Rattle.board.specs.Verdicts.{AreApart, AreClause, AreWithin, NotOf}
use Rattle.ring_config.specs.declared.items.IntervalItem.{IntervalItem}
use Rattle.ring_config.specs.declared.items.OverlapItem.{OverlapItem}
use Rattle.ring_config.specs.Settings.{Settings, in_conflict, is_same_channel, is_tracked_as, kind_rank, spec_place, spec_rank}
use Rattle.ring_config.specs.Sound.{IsBefore, IsConfigured, IsIntervalOf, IsOverlap, IsSound}
use Rattle.sig_base.specs.Numbers.{has_number, has_phase}
use Rattle.sig_base.proofs.Common.{clash}
use Rattle.ring_config.proofs.TrackLaws.{same_kind}
use Rattle.ring_config.specs.Values.{phases_in}
use Rattle.rule_audit.specs.declared.rules.Rule.{Rule}
use Rattle.rule_audit.specs.declared.rules.Rule.TheVariants.{Interval, Conflict, Companion, Parents}
use Rattle.rule_audit.specs.Channels.{AreOf, AreOfOwn, IsOfOwn, IsPlace, channel_of, companion_channels, conflict_channels, parents_channels}
use Rattle.rule_audit.specs.Rules.{each_number, is_in, is_parent, is_conflict, conflict_rule, conflict_rules, conflict_terms, companion_rule, companion_rules, companion_terms, parent_term, parents_terms, parents_rule_of, parents_rule, parents_rules, rules_for, served}
use Rattle.rule_audit.proofs.Lists.{all_numbers, all_flat, all_if, among, any_here}
use Rattle.rule_audit.proofs.Tracked.{place_there, same_self}

-- ---- places of channels

some_or : (o : Option ℕ) → is_some o ≡ true → o ≡ Some (unwrap_or o 0)
some_or None h = absurd (let bad : false ≡ true = h in cc)
some_or (Some i) h = refl

same_both : (x a b : Channel) → is_same_channel x a ≡ true → is_same_channel x b ≡ true → is_same_channel a b ≡ true
same_both x a b e f =
    let p = and_parts (kind_rank x.kind == kind_rank a.kind) (x.number == a.number) e in
    let q = and_parts (kind_rank x.kind == kind_rank b.kind) (x.number == b.number) f in
    let rank : kind_rank a.kind ≡ kind_rank b.kind = sym (eqb-true (kind_rank x.kind) (kind_rank a.kind) p.0) ∙ eqb-true (kind_rank x.kind) (kind_rank b.kind) q.0 in
    let number : a.number ≡ b.number = sym (eqb-true x.number a.number p.1) ∙ eqb-true x.number b.number q.1 in
    rw (eq-eqb (kind_rank a.kind) (kind_rank b.kind) rank, eq-eqb a.number b.number number) refl

some_is : (o : Option ℕ) (i : ℕ) → is_some o ≡ true → ((j : ℕ) → o ≡ Some j → j ≡ i) → o ≡ Some i
some_is None i h k = absurd (let bad : false ≡ true = h in cc)
some_is (Some j) i h k = ap Some (k j refl)

not_before : (a b : Channel) → is_same_channel a b ≡ true → IsBefore a b → ⊥
not_before a b e h =
    let p = and_parts (kind_rank a.kind == kind_rank b.kind) (a.number == b.number) e in
    let rank : spec_rank a.kind ≡ spec_rank b.kind = ap spec_rank (same_kind a.kind b.kind p.0) in
    let number = eqb-true a.number b.number p.1 in
    elim h [ inl lt ↦ absurd (omega arith) | inr (same, lt) ↦ absurd (omega arith) ]

-- no channel of the list is this one
abbrev NotAmong : Channel → List Channel → Type 0
NotAmong a [] = Unit {0}
NotAmong a (c ∷ cs) = (is_same_channel a c ≡ false) × NotAmong a cs

abbrev AreDistinct : List Channel → Type 0
AreDistinct [] = Unit {0}
AreDistinct (c ∷ cs) = NotAmong c cs × AreDistinct cs

module _ (specs : List Spec) where
  -- two channels have two places
  places_differ : (a b : Channel) (i j : ℕ) → spec_place specs a ≡ Some i → spec_place specs b ≡ Some j → is_same_channel a b ≡ false → j ≢ i
  places_differ a b i j e f apart same =
      let at_a = (position-Some (λ s. is_same_channel s.channel a) specs i no_spec e).1 in
      let at_j = (position-Some (λ s. is_same_channel s.channel b) specs j no_spec f).1 in
      let at_b : is_same_channel (get_or specs i no_spec).channel b ≡ true = subst (λ (k : ℕ). is_same_channel (get_or specs k no_spec).channel b ≡ true) same at_j in
      clash (is_same_channel a b) (same_both (get_or specs i no_spec).channel a b at_a at_b) apart

  -- ---- terms of channels

  not_of : (a : Channel) (i : ℕ) (cs : List Channel) (ts : List Term) → spec_place specs a ≡ Some i → AreOf specs cs ts → NotAmong a cs → NotOf i ts
  not_of a i [] [] e of apart = tt
  not_of a i [] (t ∷ ts) e of apart = absurd of
  not_of a i (c ∷ cs) [] e of apart = absurd of
  not_of a i (c ∷ cs) (t ∷ ts) e of apart = (places_differ a c i t.spec e of.0 apart.0, not_of a i cs ts e of.1 apart.1)

  apart_of : (cs : List Channel) (ts : List Term) → AreOf specs cs ts → AreDistinct cs → AreApart ts
  apart_of [] [] of apart = tt
  apart_of [] (t ∷ ts) of apart = absurd of
  apart_of (c ∷ cs) [] of apart = absurd of
  apart_of (c ∷ cs) (t ∷ ts) of apart = (not_of c t.spec cs ts of.0 of.1 apart.0, apart_of cs ts of.1 apart.1)

  as_many : (cs : List Channel) (ts : List Term) → AreOf specs cs ts → length ts ≡ length cs
  as_many [] [] of = refl
  as_many [] (t ∷ ts) of = absurd of
  as_many (c ∷ cs) [] of = absurd of
  as_many (c ∷ cs) (t ∷ ts) of = ap suc (as_many cs ts of.1)

  pub within_of : (cs : List Channel) (ts : List Term) → AreOf specs cs ts → AreWithin (length specs) ts
  within_of [] [] of = tt
  within_of [] (t ∷ ts) of = absurd of
  within_of (c ∷ cs) [] of = absurd of
  within_of (c ∷ cs) (t ∷ ts) of = ((position-Some (λ s. is_same_channel s.channel c) specs t.spec no_spec of.0).0, within_of cs ts of.1)

  clause_is : (cs : List Channel) (ts : List Term) → AreOf specs cs ts → AreDistinct cs → 1 ≤ length cs → length cs ≤ 9 → AreClause ts
  clause_is cs ts of apart some few = let n = as_many cs ts of in (omega arith, omega arith, apart_of cs ts of apart)

-- ---- distinct channels

less_differ : (m n : ℕ) → m < n → (m == n) ≡ false
less_differ m n lt = elim (eqb_tells m n) [
  | inl t ↦ let same : m ≡ n = t.1 in absurd (omega arith)
  | inr t ↦ t.0
]

phase_not : (p : ℕ → Bool) (m a k : ℕ) → m < a → NotAmong (channel_of kinds.Phase m) (map (channel_of kinds.Phase) (filter p (range_with_len a k)))
phase_not p m a zero lt = tt
phase_not p m a (suc k) lt =
    let rest = phase_not p m (a + 1) k (omega arith) in
    elim (cases_Bool (p a)) [
      | inl is ↦ rw is (less_differ m a lt, rest)
      | inr other ↦ rw other rest
    ]

phases_distinct : (p : ℕ → Bool) (a k : ℕ) → AreDistinct (map (channel_of kinds.Phase) (filter p (range_with_len a k)))
phases_distinct p a zero = tt
phases_distinct p a (suc k) =
    let rest = phases_distinct p (a + 1) k in
    elim (cases_Bool (p a)) [
      | inl is ↦ rw is (phase_not p a (a + 1) k (omega arith), rest)
      | inr other ↦ rw other rest
    ]

overlap_not : (n : ℕ) (ps : List ℕ) → NotAmong (channel_of kinds.Overlap n) (map (channel_of kinds.Phase) ps)
overlap_not n [] = tt
overlap_not n (p ∷ ps) = (refl, overlap_not n ps)

-- a rule that is a clause of the channels that it names
abbrev pub IsOwnClause : Settings → Rule → Type 0
IsOwnClause c (Interval item) = ⊥
IsOwnClause c (Conflict a b terms) = IsOfOwn c (Conflict a b terms)
IsOwnClause c (Companion p terms) = IsOfOwn c (Companion p terms)
IsOwnClause c (Parents n terms) = IsOfOwn c (Parents n terms)

of_own : (c : Settings) (r : Rule) → IsOwnClause c r → IsOfOwn c r
of_own c (Interval item) h = absurd h
of_own c (Conflict a b terms) h = h
of_own c (Companion p terms) h = h
of_own c (Parents n terms) h = h

module _ (c : Settings) (sound : IsSound c) where
  is_place : (kind : Kind) (n : ℕ) (cs : List ℕ) → is_tracked_as c kind n ≡ true → IsPlace c.specs kind n (is_in c.specs kind n cs).spec
  unfolding is_in
  is_place kind n cs h = some_or (spec_place c.specs (channel_of kind n)) (sound.tracked (channel_of kind n) ∙ h)

  -- ---- conflicts

  pub conflict_phases : (a b : ℕ) → is_conflict c a b ≡ true → (a < b) × (has_phase c.phases a ≡ true) × (has_phase c.phases b ≡ true)
  conflict_phases a b e =
      let parts = and_parts (nat_lt a b && has_phase c.phases a) (has_phase c.phases b && in_conflict c a b) e in
      let one = and_parts (nat_lt a b) (has_phase c.phases a) parts.0 in
      let two = and_parts (has_phase c.phases b) (in_conflict c a b) parts.1 in
      (ltb-true a b one.0, one.1, two.0)

  conflict_own : (a b : ℕ) → is_conflict c a b ≡ true → AreOf c.specs (conflict_channels a b) (conflict_terms c.specs a b)
  conflict_own a b e = let is = conflict_phases a b e in (is_place kinds.Phase a _ is.1, (is_place kinds.Phase b _ is.2, tt))

  pub conflict_clause : (a b : ℕ) → is_conflict c a b ≡ true → AreClause (conflict_terms c.specs a b)
  conflict_clause a b e =
      clause_is c.specs (conflict_channels a b) (conflict_terms c.specs a b) (conflict_own a b e)
      ((less_differ a b (conflict_phases a b e).0, tt), (tt, tt)) (omega arith) (omega arith)

  pub conflicts_own : All (IsOwnClause c) (conflict_rules c)
  conflicts_own = all_numbers (IsOwnClause c) (λ a. each_number (conflict_rule c a)) (λ a _. all_numbers (IsOwnClause c) (conflict_rule c a) (λ b _. all_if (IsOwnClause c) (is_conflict c a b) (Conflict a b (conflict_terms c.specs a b)) (conflict_own a b)))

  -- ---- companions

  pub ped_phase : (p : ℕ) → has_number c.peds p ≡ true → has_phase c.phases p ≡ true
  ped_phase p e = among (IsConfigured c.phases) p c.peds sound.peds e

  companion_own : (p : ℕ) → has_number c.peds p ≡ true → AreOf c.specs (companion_channels p) (companion_terms c.specs p)
  companion_own p e = (is_place kinds.Ped p _ e, (is_place kinds.Phase p _ (ped_phase p e), tt))

  pub companion_clause : (p : ℕ) → has_number c.peds p ≡ true → AreClause (companion_terms c.specs p)
  companion_clause p e = clause_is c.specs (companion_channels p) (companion_terms c.specs p) (companion_own p e) ((refl, tt), (tt, tt)) (omega arith) (omega arith)

  pub companions_own : All (IsOwnClause c) (companion_rules c)
  companions_own = all_numbers (IsOwnClause c) (companion_rule c) (λ p _. all_if (IsOwnClause c) (has_number c.peds p) (Companion p (companion_terms c.specs p)) (companion_own p))

  -- ---- parents

  pub overlap_among : (o : OverlapItem) → Contains c.overlaps o → IsOverlap c.phases o
  overlap_among o (k, lt, e) = subst (λ (q : OverlapItem). IsOverlap c.phases q) e (sound.overlaps k o lt)

  pub overlap_tracked : (o : OverlapItem) → Contains c.overlaps o → is_tracked_as c kinds.Overlap o.number ≡ true
  overlap_tracked o (k, lt, e) = any_here (λ (q : OverlapItem). q.number == o.number) c.overlaps k o lt (rw e (eq-eqb o.number o.number refl))

  pub parent_phase : (o : OverlapItem) → IsOverlap c.phases o → (p : ℕ) → 1 ≤ p → is_parent o p ≡ true → has_phase c.phases p ≡ true
  parent_phase o is p some h =
      let has : bit_at o.parents (p - 1) ≡ 1 = eqb-true (bit_at o.parents (p - 1)) 1 h in
      let same : p - 1 + 1 ≡ p = omega arith in
      subst (λ (n : ℕ). IsConfigured c.phases n) same (is.parents (p - 1) has)

  parents_from : (o : OverlapItem) → IsOverlap c.phases o → (a k : ℕ) → 1 ≤ a → AreOf c.specs (map (channel_of kinds.Phase) (filter (is_parent o) (range_with_len a k))) (flat_map (parent_term c.specs o) (range_with_len a k))
  parents_from o is a zero some = tt
  parents_from o is a (suc k) some =
      let rest = parents_from o is (a + 1) k (omega arith) in
      elim (cases_Bool (is_parent o a)) [
        | inl has ↦ rw has (is_place kinds.Phase a served (parent_phase o is a some has), rest)
        | inr other ↦ rw other rest
      ]

  parents_own : (o : OverlapItem) → Contains c.overlaps o → AreOf c.specs (parents_channels o) (parents_terms c.specs o)
  unfolding each_number
  parents_own o there = (is_place kinds.Overlap o.number _ (overlap_tracked o there), parents_from o (overlap_among o there) 1 16 (omega arith))

  pub parents_clause : (o : OverlapItem) → Contains c.overlaps o → AreClause (parents_terms c.specs o)
  parents_clause o there =
      let few = (overlap_among o there).few in
      let size = length-map (phases_in o.parents) (channel_of kinds.Phase) in
      clause_is c.specs (parents_channels o) (parents_terms c.specs o) (parents_own o there)
      (overlap_not o.number (phases_in o.parents), phases_distinct (λ p. bit_at o.parents (p - 1) == 1) 1 16) (omega arith) (omega arith)

  pub all_parents_own : All (IsOwnClause c) (parents_rules c)
  all_parents_own = all_numbers (IsOwnClause c) (parents_rule c) (λ n _.
      all_flat (IsOwnClause c) (Contains c.overlaps) (parents_rule_of c n) c.overlaps (All-contains_itself c.overlaps)
      (λ o there. all_if (IsOwnClause c) (o.number == n) (Parents n (parents_terms c.specs o)) (λ e. (o, there, eqb-true o.number n e, parents_own o there))))

  -- ---- intervals

  own_first : (i j : ℕ) → i < length c.specs → spec_place c.specs (get_or c.specs i no_spec).channel ≡ Some j → j ≡ i
  own_first i j lt e =
      let ch = (get_or c.specs i no_spec).channel in
      let at = position-Some (λ (s : Spec). is_same_channel s.channel ch) c.specs j no_spec e in
      elim (cases_lt j i) [
        | inl less ↦ absurd (not_before (get_or c.specs j no_spec).channel ch at.1 (sound.ordered j i no_spec less lt))
        | inr ge ↦ elim (eqb_tells i j) [
          | inl t ↦ sym t.1
          | inr t ↦ let other : i ≢ j = t.1 in absurd (clash (is_same_channel ch ch) (same_self ch) (at.2 i (omega arith)))
        ]
      ]

  -- a channel has the place of its spec
  own_place : (i : ℕ) → i < length c.specs → spec_place c.specs (get_or c.specs i no_spec).channel ≡ Some i
  own_place i lt =
      let ch = (get_or c.specs i no_spec).channel in
      some_is (spec_place c.specs ch) i (place_there (λ (s : Spec). is_same_channel s.channel ch) c.specs i no_spec lt (same_self ch)) (λ j e. own_first i j lt e)

  interval_own : (item : IntervalItem) → IsIntervalOf c.specs item → IsOfOwn c (Interval item)
  interval_own item is = own_place item.spec (slice_get_within c.specs item.spec is.spec is.there)

  all_own : (rules : List Rule) → All (IsOwnClause c) rules → All (IsOfOwn c) rules
  all_own rules h = All-weaker (IsOwnClause c) (IsOfOwn c) (of_own c) rules h

  rules_own : All (IsOfOwn c) (rules_for c)
  unfolding rules_for
  rules_own =
      let intervals = All-map (IsOfOwn c) Interval c.intervals (All-weaker (IsIntervalOf c.specs) (λ (item : IntervalItem). IsOfOwn c (Interval item)) interval_own c.intervals sound.intervals) in
      All-append (IsOfOwn c) _ (parents_rules c) (All-append (IsOfOwn c) _ (companion_rules c) (All-append (IsOfOwn c) (map Interval c.intervals) (conflict_rules c) intervals (all_own (conflict_rules c) conflicts_own)) (all_own (companion_rules c) companions_own)) (all_own (parents_rules c) all_parents_own)

pub own_channels : AreOfOwn
own_channels c sound = rules_own c sound
