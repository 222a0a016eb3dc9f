-- What all tables say together is sound.
use Rattle.std.proofs.Common.{◌≡◌, ◌≢◌, ℕ, ◌+◌, ◌<◌, ◌≤◌, true, false, ◌==◌, List, [], length, Some, Ok, slice_get, refl, ap, sym, subst, ◌∙◌, arith}
use Rattle.std.specs.List.{AllByRecursion}
use Rattle.std.specs.Str.{bytes_eq}
use Rattle.std.proofs.lemmas.Bool.{eq-eqb}
use Rattle.std.proofs.lemmas.Slice.Eq.{bytes_eq-Decides}
use Rattle.toml.specs.Data.{as_str}
use Rattle.event_codes.specs.declared.channels.Channel.{Channel}
use Rattle.channel_tables.specs.Tables.{table_of}
use Rattle.channel_tables.specs.Spec.{HasNoFloor, IsSpec}
use Rattle.row_reader.specs.Signal.{is_signal}
use Rattle.ring_config.specs.declared.error.KeyName.TheVariants as keys
use Rattle.ring_config.specs.declared.items.FloorItem.{FloorItem}
use Rattle.ring_config.specs.declared.items.IntervalItem.{IntervalItem}
use Rattle.ring_config.specs.Reading.{◌>>=◌, EntryData, required, defaulted, only}
use Rattle.ring_config.specs.Values as values
use Rattle.ring_config.specs.Values.{has_pair}
use Rattle.ring_config.specs.Walk.{NoneRepeats, entries_of}
use Rattle.ring_config.specs.Tables.{Top, LayoutArrays, DetailArrays, top_keys, top_of, layout_arrays_of, detail_arrays_of, phase_rules, ped_rules, overlap_rules, preempt_rules, conflict_rules, allow_rules, floor_rules, interval_rules, approach_rules}
use Rattle.ring_config.specs.Settings.{Layout, Details, Parts, layout_of, details_of, parts_of, settings_of, specs_of, signal_channels, all_channels}
use Rattle.ring_config.specs.Sound.{IsBetween, IsConfigured, IsPhase, IsOverlap, IsPairOf, IsIntervalOf, IsApproach, IsBefore, IsSound, IsTimed}
use Rattle.ring_config.proofs.DoLaws.{ok_is, bound, required_means, required_between, passing_is}
use Rattle.ring_config.proofs.ListLaws.{all_weaker, all_at, pairs_at, pairs_weaker}
use Rattle.ring_config.proofs.EntryLaws.{AreEntries, entries_are}
use Rattle.ring_config.proofs.TableLaws.{phase_is, required_configured, overlap_is, IsUnbarred, pair_is, IsFloorOf, floor_is, IsRuleOf, interval_is, approach_is}
use Rattle.ring_config.proofs.SpecLaws.{few_channels}
use Rattle.ring_config.proofs.TrackLaws.{tracked_is}
use Rattle.ring_config.proofs.OrderLaws.{channels_ordered, specs_ordered, length_specs, spec_there, specs_are, still_there, other_spec}

-- ---- the document's own keys

pub top_is : (e : EntryData) (t : Top) → top_of e ≡ Ok t → is_signal t.signal ≡ true
unfolding top_of values.signal
top_is e t h =
    let a = bound (required values.signal keys.Signal e) (λ s. required values.start keys.Start e >>= λ f. required (values.window f) keys.Hours e >>= λ w. defaulted false values.yes_or_no keys.Coordination e >>= λ c. Ok (record { signal = s; window = w; coordination = c })) t h in
    let b = bound (required values.start keys.Start e) (λ f. required (values.window f) keys.Hours e >>= λ w. defaulted false values.yes_or_no keys.Coordination e >>= λ c. Ok (record { signal = a.0; window = w; coordination = c })) t a.2 in
    let c = bound (required (values.window b.0) keys.Hours e) (λ w. defaulted false values.yes_or_no keys.Coordination e >>= λ c. Ok (record { signal = a.0; window = w; coordination = c })) t b.2 in
    let d = bound (defaulted false values.yes_or_no keys.Coordination e) (λ x. Ok (record { signal = a.0; window = c.0; coordination = x })) t c.2 in
    let r = required_means values.signal keys.Signal e a.0 a.1 in
    ok_is (λ (x : Top). is_signal x.signal ≡ true) (record { signal = a.0; window = c.0; coordination = d.0 }) t d.2 (passing_is is_signal (as_str r.0) a.0 r.1).1

-- ---- the layout

pub record IsLayout (l : Layout) : Type 0 where
  pub phases : AreEntries phase_rules IsPhase phase_is l.phases
  pub peds : AreEntries (ped_rules l.phases) (IsConfigured l.phases) (required_configured l.phases) l.peds
  pub overlaps : AreEntries (overlap_rules l.phases) (IsOverlap l.phases) (overlap_is l.phases) l.overlaps
  pub preempts : AreEntries preempt_rules (IsBetween 1 16) (required_between 1 16 keys.Number) l.preempts

pub layout_is : (x : LayoutArrays) (l : Layout) → layout_of x ≡ Ok l → IsLayout l
unfolding layout_of
layout_is x l h =
    let a = bound (entries_of phase_rules x.phase) (λ p. entries_of (ped_rules p) x.ped >>= λ q. entries_of (overlap_rules p) x.overlap >>= λ o. entries_of preempt_rules x.preempt >>= λ r. Ok (record { phases = p; peds = q; overlaps = o; preempts = r })) l h in
    let b = bound (entries_of (ped_rules a.0) x.ped) (λ q. entries_of (overlap_rules a.0) x.overlap >>= λ o. entries_of preempt_rules x.preempt >>= λ r. Ok (record { phases = a.0; peds = q; overlaps = o; preempts = r })) l a.2 in
    let c = bound (entries_of (overlap_rules a.0) x.overlap) (λ o. entries_of preempt_rules x.preempt >>= λ r. Ok (record { phases = a.0; peds = b.0; overlaps = o; preempts = r })) l b.2 in
    let d = bound (entries_of preempt_rules x.preempt) (λ r. Ok (record { phases = a.0; peds = b.0; overlaps = c.0; preempts = r })) l c.2 in
    ok_is IsLayout (record { phases = a.0; peds = b.0; overlaps = c.0; preempts = d.0 }) l d.2 (record {
      phases = entries_are phase_rules IsPhase phase_is x.phase a.0 a.1;
      peds = entries_are (ped_rules a.0) (IsConfigured a.0) (required_configured a.0) x.ped b.0 b.1;
      overlaps = entries_are (overlap_rules a.0) (IsOverlap a.0) (overlap_is a.0) x.overlap c.0 c.1;
      preempts = entries_are preempt_rules (IsBetween 1 16) (required_between 1 16 keys.Number) x.preempt d.0 d.1;
    })

-- ---- the details

pub record AreDetails (l : Layout) (d : Details) : Type 0 where
  pub conflicts : AreEntries (conflict_rules l.phases) (IsUnbarred l.phases []) (pair_is l.phases []) d.conflicts
  pub allows : AreEntries (allow_rules l.phases d.conflicts) (IsUnbarred l.phases d.conflicts) (pair_is l.phases d.conflicts) d.allows
  pub floors : AreEntries (floor_rules (signal_channels l)) (IsFloorOf (signal_channels l)) (floor_is (signal_channels l)) d.floors
  pub intervals : AreEntries (interval_rules (signal_channels l)) (IsRuleOf (signal_channels l)) (interval_is (signal_channels l)) d.intervals
  pub approaches : AreEntries (approach_rules l.phases) (IsApproach l.phases) (approach_is l.phases) d.approaches

pub details_are : (l : Layout) (x : DetailArrays) (d : Details) → details_of l x ≡ Ok d → AreDetails l d
unfolding details_of
details_are l x d h =
    let a = bound (entries_of (conflict_rules l.phases) x.conflict) (λ c. entries_of (allow_rules l.phases c) x.allow >>= λ w. entries_of (floor_rules (signal_channels l)) x.floor >>= λ f. entries_of (interval_rules (signal_channels l)) x.interval >>= λ i. entries_of (approach_rules l.phases) x.approach >>= λ p. Ok (record { conflicts = c; allows = w; floors = f; intervals = i; approaches = p })) d h in
    let b = bound (entries_of (allow_rules l.phases a.0) x.allow) (λ w. entries_of (floor_rules (signal_channels l)) x.floor >>= λ f. entries_of (interval_rules (signal_channels l)) x.interval >>= λ i. entries_of (approach_rules l.phases) x.approach >>= λ p. Ok (record { conflicts = a.0; allows = w; floors = f; intervals = i; approaches = p })) d a.2 in
    let c = bound (entries_of (floor_rules (signal_channels l)) x.floor) (λ f. entries_of (interval_rules (signal_channels l)) x.interval >>= λ i. entries_of (approach_rules l.phases) x.approach >>= λ p. Ok (record { conflicts = a.0; allows = b.0; floors = f; intervals = i; approaches = p })) d b.2 in
    let e = bound (entries_of (interval_rules (signal_channels l)) x.interval) (λ i. entries_of (approach_rules l.phases) x.approach >>= λ p. Ok (record { conflicts = a.0; allows = b.0; floors = c.0; intervals = i; approaches = p })) d c.2 in
    let f = bound (entries_of (approach_rules l.phases) x.approach) (λ p. Ok (record { conflicts = a.0; allows = b.0; floors = c.0; intervals = e.0; approaches = p })) d e.2 in
    ok_is (AreDetails l) (record { conflicts = a.0; allows = b.0; floors = c.0; intervals = e.0; approaches = f.0 }) d f.2 (record {
      conflicts = entries_are (conflict_rules l.phases) (IsUnbarred l.phases []) (pair_is l.phases []) x.conflict a.0 a.1;
      allows = entries_are (allow_rules l.phases a.0) (IsUnbarred l.phases a.0) (pair_is l.phases a.0) x.allow b.0 b.1;
      floors = entries_are (floor_rules (signal_channels l)) (IsFloorOf (signal_channels l)) (floor_is (signal_channels l)) x.floor c.0 c.1;
      intervals = entries_are (interval_rules (signal_channels l)) (IsRuleOf (signal_channels l)) (interval_is (signal_channels l)) x.interval e.0 e.1;
      approaches = entries_are (approach_rules l.phases) (IsApproach l.phases) (approach_is l.phases) x.approach f.0 f.1;
    })

-- ---- distinct

differ : (a b : ℕ) → (a == b) ≡ false → a ≢ b
differ a b f same = let t : (a == b) ≡ true = eq-eqb a b same in absurd (let c : true ≡ false = sym t ∙ f in cc)

names_differ : (a b : List ℕ) → bytes_eq a b ≡ false → a ≢ b
names_differ a b f same = let t : bytes_eq a b ≡ true = (bytes_eq-Decides a b).1 same in absurd (let c : true ≡ false = sym t ∙ f in cc)

-- ---- the specs

module _ (t : Top) (l : Layout) (d : Details) (are : AreDetails l d) where
  no_floor_there : (k : ℕ) (c : Channel) → slice_get (all_channels l d.approaches t.coordination) k ≡ Some c → HasNoFloor c.kind → AllByRecursion (λ f. f.spec ≢ 0 + k) d.floors
  no_floor_there k c there bare =
      subst (λ (n : ℕ). AllByRecursion (λ (f : FloorItem). f.spec ≢ n) d.floors) (let e : k ≡ 0 + k = omega arith in e)
      (all_weaker (IsFloorOf (signal_channels l)) (λ f. f.spec ≢ k) (other_spec l d.approaches t.coordination k c there bare) d.floors are.floors.all)

  good_specs : AllByRecursion IsSpec (specs_of t l d)
  good_specs = specs_are d.floors 0 (all_channels l d.approaches t.coordination) (all_weaker (IsFloorOf (signal_channels l)) (λ f. f.tenths ≤ 36000) (λ f is. is.low) d.floors are.floors.all) no_floor_there

  rule_is : (r : IntervalItem) → IsRuleOf (signal_channels l) r → IsIntervalOf (specs_of t l d) r
  rule_is r is =
      let x = is.named in
      let s = spec_there d.floors 0 (all_channels l d.approaches t.coordination) r.spec x.channel (still_there l d.approaches t.coordination r.spec x.channel x.there) in
      let kind : is.kind ≡ s.0.channel.kind = sym (ap (λ (c : Channel). c.kind) s.2 ∙ x.same) in
      record {
        spec = s.0;
        there = s.1;
        timed = subst IsTimed kind x.timed;
        colour = subst (λ k. r.colour < length (table_of k).names) kind is.colour;
        bound = is.bound;
      }

  few_specs : length (specs_of t l d) ≤ 225
  few_specs = rw (length_specs d.floors 0 (all_channels l d.approaches t.coordination)) (few_channels l d.approaches t.coordination)

-- ---- all of it

sound : (t : Top) (l : Layout) (d : Details) → is_signal t.signal ≡ true → IsLayout l → AreDetails l d → IsSound (settings_of t l d)
sound t l d signal has are = record {
  signal = signal;
  phases = all_at IsPhase l.phases has.phases.all;
  distinct_phases = pairs_at (λ p q. p.number ≢ q.number) l.phases (pairs_weaker (λ p q. (p.number == q.number) ≡ false) (λ p q. p.number ≢ q.number) (λ p q f. differ p.number q.number f) l.phases has.phases.distinct);
  few_phases = has.phases.few;
  peds = all_at (IsConfigured l.phases) l.peds has.peds.all;
  distinct_peds = pairs_at (λ p q. p ≢ q) l.peds (pairs_weaker (λ p q. (p == q) ≡ false) (λ p q. p ≢ q) differ l.peds has.peds.distinct);
  overlaps = all_at (IsOverlap l.phases) l.overlaps has.overlaps.all;
  distinct_overlaps = pairs_at (λ o q. o.number ≢ q.number) l.overlaps (pairs_weaker (λ o q. (o.number == q.number) ≡ false) (λ o q. o.number ≢ q.number) (λ o q f. differ o.number q.number f) l.overlaps has.overlaps.distinct);
  preempts = all_at (IsBetween 1 16) l.preempts has.preempts.all;
  distinct_preempts = pairs_at (λ p q. p ≢ q) l.preempts (pairs_weaker (λ p q. (p == q) ≡ false) (λ p q. p ≢ q) differ l.preempts has.preempts.distinct);
  conflicts = all_at (IsPairOf l.phases) d.conflicts (all_weaker (IsUnbarred l.phases []) (IsPairOf l.phases) (λ p is. is.pair) d.conflicts are.conflicts.all);
  allows = all_at (IsPairOf l.phases) d.allows (all_weaker (IsUnbarred l.phases d.conflicts) (IsPairOf l.phases) (λ p is. is.pair) d.allows are.allows.all);
  apart = all_at (λ p. has_pair d.conflicts p.a p.b ≡ false) d.allows (all_weaker (IsUnbarred l.phases d.conflicts) (λ p. has_pair d.conflicts p.a p.b ≡ false) (λ p is. is.unbarred) d.allows are.allows.all);
  specs = all_at IsSpec (specs_of t l d) (good_specs t l d are);
  few_specs = few_specs t l d are;
  ordered = pairs_at (λ x y. IsBefore x.channel y.channel) (specs_of t l d) (specs_ordered d.floors 0 (all_channels l d.approaches t.coordination) (channels_ordered l d.approaches t.coordination));
  tracked = tracked_is (settings_of t l d) l d.floors (record { phases = has.phases.all; peds = has.peds.all; overlaps = has.overlaps.all; preempts = has.preempts.all; approaches_are = are.approaches.all }) refl refl refl refl;
  intervals = all_at (IsIntervalOf (specs_of t l d)) d.intervals (all_weaker (IsRuleOf (signal_channels l)) (IsIntervalOf (specs_of t l d)) (rule_is t l d are) d.intervals are.intervals.all);
  few_intervals = are.intervals.few;
  approaches = all_at (IsApproach l.phases) d.approaches are.approaches.all;
  distinct_names = pairs_at (λ a b. a.name ≢ b.name) d.approaches (pairs_weaker (λ a b. bytes_eq a.name b.name ≡ false) (λ a b. a.name ≢ b.name) (λ a b f. names_differ a.name b.name f) d.approaches are.approaches.distinct);
  few_approaches = are.approaches.few;
}

-- what is known of all tables that were read
pub record AreParts (p : Parts) : Type 0 where
  pub sound : IsSound (settings_of p.top p.layout p.details)
  pub names : NoneRepeats (λ a b. bytes_eq a.name b.name) p.details.approaches

pub parts_are : (e : EntryData) (p : Parts) → parts_of e ≡ Ok p → AreParts p
unfolding parts_of
parts_are e p h =
    let a = bound (only top_keys e) (λ _. top_of e >>= λ t. layout_arrays_of e >>= λ x. detail_arrays_of e >>= λ y. layout_of x >>= λ l. details_of l y >>= λ d. Ok (record { top = t; layout = l; details = d })) p h in
    let b = bound (top_of e) (λ t. layout_arrays_of e >>= λ x. detail_arrays_of e >>= λ y. layout_of x >>= λ l. details_of l y >>= λ d. Ok (record { top = t; layout = l; details = d })) p a.2 in
    let c = bound (layout_arrays_of e) (λ x. detail_arrays_of e >>= λ y. layout_of x >>= λ l. details_of l y >>= λ d. Ok (record { top = b.0; layout = l; details = d })) p b.2 in
    let f = bound (detail_arrays_of e) (λ y. layout_of c.0 >>= λ l. details_of l y >>= λ d. Ok (record { top = b.0; layout = l; details = d })) p c.2 in
    let g = bound (layout_of c.0) (λ l. details_of l f.0 >>= λ d. Ok (record { top = b.0; layout = l; details = d })) p f.2 in
    let k = bound (details_of g.0 f.0) (λ d. Ok (record { top = b.0; layout = g.0; details = d })) p g.2 in
    let are = details_are g.0 f.0 k.0 k.1 in
    ok_is AreParts (record { top = b.0; layout = g.0; details = k.0 }) p k.2 (record {
      sound = sound b.0 g.0 k.0 (top_is e b.0 b.1) (layout_is c.0 g.0 g.1) are;
      names = are.approaches.distinct;
    })
