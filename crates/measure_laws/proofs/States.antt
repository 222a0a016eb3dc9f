-- Tenths in states, over all hours.
use Rattle.std.proofs.Common.{◌≡◌, ◌∙◌, refl, sym, subst, ℕ, zero, suc, ◌+◌, ◌<◌, ◌≤◌, Some, get_or, arith}
use Rattle.event_codes.specs.declared.channels.Channel.{Channel}
use Rattle.hour_sweep.specs.Sums.{capped}
use Rattle.hour_sweep.specs.Hours.{point}
use Rattle.ring_config.specs.Settings.{Settings}
use Rattle.sig_base.specs.Numbers.{has_number}
use Rattle.hour_sweep.proofs.Adding.{capped_small}
use Rattle.detector_state.specs.declared.state_asked.Asked.{Asked}
use Rattle.detector_state.specs.declared.state_asked.Asked.TheVariants.{Colour, NoneOf}
use Rattle.detector_state.specs.Ranges.{Counts}
use Rattle.detector_state.proofs.StateCounting.{counts_empty, counts_join, counts_most}
use Rattle.other_measures.specs.declared.sums.CoordSum.{CoordSum}
use Rattle.other_measures.specs.declared.sums.PedSum.{PedSum}
use Rattle.other_measures.specs.declared.sums.PreemptSum.{PreemptSum}
use Rattle.other_measures.specs.Hours.{AreStates, OtherNumbers, no_coordination, no_numbers, others_added}
use Rattle.other_measures.specs.States.{HasCoordination, HasDetector, HasStates, HasTenths, coordination, input, ped_detector, service}
use Rattle.other_measures.specs.Sums.{coord_added, ped_added, preempt_added}
use Rattle.other_measures.proofs.Stores.{each_merged, each_as}
use Rattle.hour_work.specs.Measures.{MeetsIn}
use Rattle.hour_work.specs.Numbers.{Numbers, total_of}
use Rattle.measure_laws.specs.States.{AreStatesBetween, HasCoordinationBetween, HasDetectorBetween, HasStatesBetween, HasTenthsBetween, StateTotals}
use Rattle.measure_laws.proofs.Totals.{all_sums}

-- ---- the seven states of the coordination

none_at : (q : ℕ) → q < 7 → get_or no_coordination.tenths q 0 ≡ 0
none_at zero lt = refl
none_at (suc zero) lt = refl
none_at (suc (suc zero)) lt = refl
none_at (suc (suc (suc zero))) lt = refl
none_at (suc (suc (suc (suc zero)))) lt = refl
none_at (suc (suc (suc (suc (suc zero))))) lt = refl
none_at (suc (suc (suc (suc (suc (suc zero)))))) lt = refl
none_at (suc (suc (suc (suc (suc (suc (suc q))))))) lt = absurd (omega arith)

added_at : (x y : CoordSum) (q : ℕ) → q < 7 → get_or (coord_added x y).tenths q 0 ≡ capped (get_or x.tenths q 0 + get_or y.tenths q 0)
added_at x y zero lt = refl
added_at x y (suc zero) lt = refl
added_at x y (suc (suc zero)) lt = refl
added_at x y (suc (suc (suc zero))) lt = refl
added_at x y (suc (suc (suc (suc zero)))) lt = refl
added_at x y (suc (suc (suc (suc (suc zero))))) lt = refl
added_at x y (suc (suc (suc (suc (suc (suc zero)))))) lt = refl
added_at x y (suc (suc (suc (suc (suc (suc (suc q))))))) lt = absurd (omega arith)

-- ---- the tenths of one hour

module _ (At : ℕ → Asked → ℕ → Type 0) (c : Settings) (from to : ℕ) (long : from + 36000 ≡ to) where
  hour_tenths : (channel : Channel) (asked : Asked) (j : ℕ) → HasTenths At from c channel asked j → HasTenthsBetween At from to c channel asked j
  hour_tenths channel asked j (i, at, g) = (i, at, (36000, long, g))

  hour_detector : (p : ℕ) (y : PedSum) → HasDetector At from c p y → HasDetectorBetween At from to c p y
  hour_detector p y g = record { on = hour_tenths (ped_detector p) (Colour 1) y.detector_on g.on; undecided = hour_tenths (ped_detector p) (NoneOf 2) y.detector_undecided g.undecided }

  hour_served : (p : ℕ) (y : PreemptSum) → HasStates At from c p y → HasStatesBetween At from to c p y
  hour_served p y g = record {
    input_on = hour_tenths (input p) (Colour 1) y.input_on g.input_on;
    input_undecided = hour_tenths (input p) (NoneOf 2) y.input_undecided g.input_undecided;
    rest = hour_tenths (service p) (Colour 0) y.rest g.rest;
    entry = hour_tenths (service p) (Colour 1) y.entry g.entry;
    track = hour_tenths (service p) (Colour 2) y.track g.track;
    dwell = hour_tenths (service p) (Colour 3) y.dwell g.dwell;
    undecided = hour_tenths (service p) (NoneOf 4) y.undecided g.undecided;
  }

  hour_coordination : (y : CoordSum) → HasCoordination At from c y → HasCoordinationBetween At from to c y
  hour_coordination y g = record {
    size = g.size;
    tenths = λ q lt. hour_tenths coordination (Colour q) (get_or y.tenths q 0) (g.tenths q lt);
    undecided = hour_tenths coordination (NoneOf 7) y.undecided g.undecided;
  }

  pub hour_states : (y : OtherNumbers) → AreStates At from c y → AreStatesBetween At from to c y
  hour_states y g = record {
    peds = each_as (has_number c.peds) (HasDetector At from c) (HasDetectorBetween At from to c) 17 y.peds hour_detector g.peds;
    preempts = each_as (has_number c.preempts) (HasStates At from c) (HasStatesBetween At from to c) 17 y.preempts hour_served g.preempts;
    coordination = λ on. hour_coordination y.coordination (g.coordination on);
  }

-- ---- the tenths before one, and those from it on

module _ (At : ℕ → Asked → ℕ → Type 0) (c : Settings) (at to : ℕ) (few : to ≤ 26784000) where
  own_tenths : (P : ℕ → Type 0) (k j : ℕ) → Counts P 0 at k → Counts P at to j → Counts P 0 to (capped (k + j))
  own_tenths P k j h g =
      let both = counts_join P 0 at to k j h g in
      let most = counts_most P 0 to (k + j) both in
      subst (λ (m : ℕ). Counts P 0 to m) (sym (capped_small (k + j) (omega (arith, most, few)))) both

  tenths_both : (channel : Channel) (asked : Asked) (k j : ℕ) → HasTenthsBetween At 0 at c channel asked k → HasTenthsBetween At at to c channel asked j → HasTenthsBetween At 0 to c channel asked (capped (k + j))
  tenths_both channel asked k j (i, is, h) (l, also, g) =
      let same : l ≡ i = (let both : Some l ≡ Some i = sym also ∙ is in cc) in
      (i, is, own_tenths (At i asked) k j h (subst (λ (z : ℕ). Counts (At z asked) at to j) same g))

  detector_both : (p : ℕ) (x y : PedSum) → HasDetectorBetween At 0 at c p x → HasDetectorBetween At at to c p y → HasDetectorBetween At 0 to c p (ped_added x y)
  detector_both p x y h g = record {
    on = tenths_both (ped_detector p) (Colour 1) x.detector_on y.detector_on h.on g.on;
    undecided = tenths_both (ped_detector p) (NoneOf 2) x.detector_undecided y.detector_undecided h.undecided g.undecided;
  }

  served_both : (p : ℕ) (x y : PreemptSum) → HasStatesBetween At 0 at c p x → HasStatesBetween At at to c p y → HasStatesBetween At 0 to c p (preempt_added x y)
  served_both p x y h g = record {
    input_on = tenths_both (input p) (Colour 1) x.input_on y.input_on h.input_on g.input_on;
    input_undecided = tenths_both (input p) (NoneOf 2) x.input_undecided y.input_undecided h.input_undecided g.input_undecided;
    rest = tenths_both (service p) (Colour 0) x.rest y.rest h.rest g.rest;
    entry = tenths_both (service p) (Colour 1) x.entry y.entry h.entry g.entry;
    track = tenths_both (service p) (Colour 2) x.track y.track h.track g.track;
    dwell = tenths_both (service p) (Colour 3) x.dwell y.dwell h.dwell g.dwell;
    undecided = tenths_both (service p) (NoneOf 4) x.undecided y.undecided h.undecided g.undecided;
  }

  coordinated_both : (x y : CoordSum) → HasCoordinationBetween At 0 at c x → HasCoordinationBetween At at to c y → HasCoordinationBetween At 0 to c (coord_added x y)
  coordinated_both x y h g = record {
    size = refl;
    tenths = λ q lt. subst (λ (m : ℕ). HasTenthsBetween At 0 to c coordination (Colour q) m) (sym (added_at x y q lt)) (tenths_both coordination (Colour q) (get_or x.tenths q 0) (get_or y.tenths q 0) (h.tenths q lt) (g.tenths q lt));
    undecided = tenths_both coordination (NoneOf 7) x.undecided y.undecided h.undecided g.undecided;
  }

  states_both : (x y : OtherNumbers) → AreStatesBetween At 0 at c x → AreStatesBetween At at to c y → AreStatesBetween At 0 to c (others_added x y)
  states_both x y h g = record {
    peds = each_merged ped_added (has_number c.peds) (HasDetectorBetween At 0 at c) (HasDetectorBetween At at to c) (HasDetectorBetween At 0 to c) 17 x.peds y.peds detector_both h.peds g.peds;
    preempts = each_merged preempt_added (has_number c.preempts) (HasStatesBetween At 0 at c) (HasStatesBetween At at to c) (HasStatesBetween At 0 to c) 17 x.preempts y.preempts served_both h.preempts g.preempts;
    coordination = λ on. coordinated_both x.coordination y.coordination (h.coordination on) (g.coordination on);
  }

-- ---- the first hour

module _ (At : ℕ → Asked → ℕ → Type 0) (c : Settings) where
  -- of no tenth
  tenths_none : (channel : Channel) (asked : Asked) (j : ℕ) → HasTenths At 0 c channel asked j → HasTenthsBetween At 0 0 c channel asked 0
  tenths_none channel asked j (i, at, g) = (i, at, counts_empty (At i asked) 0)

  coordinated_none : (y : CoordSum) → HasCoordination At 0 c y → HasCoordinationBetween At 0 0 c no_coordination
  coordinated_none y g = record {
    size = refl;
    tenths = λ q lt. subst (λ (m : ℕ). HasTenthsBetween At 0 0 c coordination (Colour q) m) (sym (none_at q lt)) (tenths_none coordination (Colour q) (get_or y.tenths q 0) (g.tenths q lt));
    undecided = tenths_none coordination (NoneOf 7) y.undecided g.undecided;
  }

  states_first : (y : OtherNumbers) → AreStates At 0 c y → AreStatesBetween At 0 (point 1) c (others_added no_numbers y)
  states_first y g =
      let one = hour_states At c 0 (point 1) (omega arith) y g in
      record {
        peds = one.peds;
        preempts = one.preempts;
        coordination = λ on. coordinated_both At c 0 (point 1) (omega arith) no_coordination y.coordination (coordinated_none y.coordination (g.coordination on)) (one.coordination on);
      }

-- ---- hour by hour

pub state_totals : StateTotals
state_totals c s all store is =
    let At = MeetsIn c s in
    let size = is.size in
    let some = store.some in
    let most = store.few in
    let Total : ℕ → Numbers → Type 0 = λ n t. AreStatesBetween At 0 (point n) c t.others in
    let whole = all_sums Total all
    (λ d lt. states_first At c (get_or all 0 d).others (is.each 0 d (omega arith)).measures.states)
    (λ n d t lt so.
    let y = (get_or all n d).others in
    let own = hour_states At c (point n) (point (suc n)) (omega arith) y (is.each n d (omega arith)).measures.states in
    states_both At c (point n) (point (suc n)) (omega arith) t.others y so own)
    (omega arith) in
    subst (λ (n : ℕ). Total n (total_of all)) size whole
