-- Stop bars over an hour of a store.
use Rattle.std.proofs.Common.{Bool, ◌≡◌, refl, ap, ap₂, sym, ◌∙◌, subst, ℕ, ◌+◌, List, [], ◌++◌, arith}
use Rattle.sig_base.specs.declared.values.Row.{Row}
use Rattle.gap_map.specs.declared.stretch.Stretch.{Stretch}
use Rattle.board.specs.Logs.{end_tenth, first_tenth}
use Rattle.hour_store.specs.Store.{Store, is_known}
use Rattle.hour_sweep.specs.Hours.{AreOrdered, IsHour, point}
use Rattle.signal_log.proofs.Stored.{cut_known}
use Rattle.arrival_measures.specs.declared.sums.ArrivalSum.{ArrivalSum}
use Rattle.arrival_measures.specs.Crossing.{CarryParts, IsCarry as AreOpen}
use Rattle.arrival_measures.specs.Hours.{HaveCycles}
use Rattle.hour_sweep.specs.Rows.{known_rows}
use Rattle.hour_sweep.proofs.Orders.{filter_ordered, rise_ordered}
use Rattle.ring_config.specs.Settings.{Settings}
use Rattle.signal_log.specs.Log.{HasHistory, log_of}
use Rattle.rule_audit.proofs.Tracked.{channels_are}
use Rattle.service_cut.specs.declared.items.Served.{Served}
use Rattle.service_cut.specs.Cut.{CutLists, IsCut as IsCutOf, closing_at, cycles_from, served_from, services_from}
use Rattle.service_cut.proofs.Closings.{closing_later}
use Rattle.detector_state.specs.declared.part.Part.{Part}
use Rattle.stop_bar.proofs.Fitting.{known_all}
use Rattle.stop_bar.specs.Crossing.{Crossing as AtBar}
use Rattle.stop_bar.specs.All.{AreAtBars, AreTold, IsCutHour, IsHourHeld}
use Rattle.split_measures.specs.declared.failures.SplitSum.{SplitSum}
use Rattle.split_measures.specs.declared.sums.PhaseSum.{PhaseSum}
use Rattle.split_measures.specs.Phases.{phase_sums}
use Rattle.split_measures.specs.Hours.{AreHourSums, AreSplitSums, CrossesNext, IsLogUpto, IsSplitHour}
use Rattle.hour_work.specs.Measures.{cycles_in, services_in}
use Rattle.hour_work.specs.Points.{AreClosingAt, AreOpenAt, Carried}
use Rattle.hour_work.specs.Reports.{IsHourCut}
use Rattle.hour_work.specs.Rows.{earlier_rows, own_rows}
use Rattle.hour_work.proofs.MeasureLaws.{earlier_more, own_known}
use Rattle.hour_work.proofs.WholeLog.{earlier_ordered}

module _ (c : Settings) (s : Store) (hour : ℕ) (before : Carried) (rows : List Row) (ss : List Stretch) (lists : CutLists) (is : IsHourCut c s hour before rows ss lists) where
  pub held : IsHourHeld c s hour rows ss before.pasts
  held = record {
    specs = channels_are c is.sound;
    held = is.held;
    blanks = is.blanks;
    is_rows = is.is_rows;
    are_rows = is.are_rows;
    has = is.has_hour;
    cut = is.cut;
    states = is.is_before.pasts;
  }

  earlier : AreOrdered 0 (point hour) (earlier_rows s hour)
  earlier = let lt = is.has_hour.within in earlier_ordered s hour is.has_hour.is_store (omega arith)

  cut_hour : IsCutHour (log_of c.specs s) c hour (earlier_rows s hour) rows lists
  cut_hour = record {
    about = (earlier, rise_ordered (point hour) (point hour + 36000) rows (omega arith) is.are_rows.rise);
    cut = is.lists;
  }

  pub split_hour : (told : List (List Part)) (ats : List AtBar) → AreTold (log_of c.specs s) c hour told → ats ≡ before.splits → IsSplitHour (log_of c.specs s) c hour (earlier_rows s hour) rows lists told ats
  split_hour told ats tells e = record {
    cut = cut_hour;
    tells = tells;
    here = subst (λ (x : List AtBar). AreAtBars (log_of c.specs s) c (earlier_rows s hour) hour x) (sym e) is.is_before.splits;
  }

  pub own_is : known_rows (is_known s) rows ≡ own_rows s hour
  own_is = ap (λ (rs : List Row). known_rows (is_known s) rs) is.is_rows ∙ own_known s hour is.held is.has_hour.held

  upto_is : earlier_rows s hour ++ known_rows (is_known s) rows ≡ earlier_rows s (hour + 1)
  upto_is = ap (λ (rs : List Row). earlier_rows s hour ++ rs) own_is ∙ sym (earlier_more s hour is.has_hour.within)

  pub here : IsHour (is_known s) hour rows ss
  here = record { are_rows = is.are_rows; are_stretches = (cut_known s hour is.held is.blanks ss is.has_hour is.cut).stretches }

  pub open_there : (past : CarryParts) → past ≡ before.arrivals → AreOpen (is_known s) c (earlier_rows s hour) hour past
  open_there past e = subst (λ os. AreOpen (is_known s) c (earlier_rows s hour) hour os) (sym e) is.is_before.arrivals

  -- the numbers of the phases are those of the services and cycles that end in the hour
  pub phases_told : (splits : List PhaseSum) → splits ≡ phase_sums c.phases lists.services lists.cycles → splits ≡ phase_sums c.phases (services_in c s hour) (cycles_in c s hour)
  phases_told splits e = e ∙ ap₂ (λ zs ws. phase_sums c.phases zs ws)
      (is.lists.services_are ∙ ap (λ (rs : List Row). services_from (is_known s) c.phases (earlier_rows s hour) rs) own_is)
      (is.lists.cycles_are ∙ ap (λ (rs : List Row). cycles_from (is_known s) c.phases (earlier_rows s hour) rs) own_is)

  -- the services whose red window crosses the next point are those of the hour
  pub closing_next : (closing : List Served) (t : ℕ) → t ≡ end_tenth hour → closing ≡ closing_at t lists.served → AreClosingAt c s (hour + 1) closing
  closing_next closing t e now =
      let known = is_known s in
      let front = earlier_rows s hour in
      let ks = known_rows known rows in
      let order = filter_ordered known (point hour) (end_tenth hour) (point hour) rows (omega arith) (rise_ordered (point hour) (point hour + 36000) rows (omega arith) is.are_rows.rise) in
      let at : end_tenth hour ≡ first_tenth (hour + 1) = omega arith in
      now
      ∙ (ap₂ (λ x ws. closing_at x ws) e is.lists.served_are
      ∙ (sym (closing_later known c.phases (point hour) (end_tenth hour) front ks (omega arith) earlier order)
      ∙ ap₂ (λ x rs. closing_at x (served_from known c.phases [] rs)) at upto_is))

  -- the arrivals that cross the next point are those of the hour
  pub opens_next : (past new : CarryParts) → past ≡ before.arrivals → ((known : ℕ → Bool) (b : List Row) (h : ℕ) → IsHour known h rows ss → AreOpen known c b h past → IsCutOf known c.phases b h rows lists → AreOpen known c (b ++ known_rows known rows) (h + 1) new) → AreOpenAt c s (hour + 1) new
  opens_next past new e law = subst (λ rs. AreOpen (is_known s) c rs (hour + 1) new) upto_is (law (is_known s) (earlier_rows s hour) hour here (open_there past e) is.lists)

  -- the numbers of whole cycles are those of the cycles that end in the hour
  pub cycles_told : (past : CarryParts) (sums : List ArrivalSum) → past ≡ before.arrivals → ((known : ℕ → Bool) (b : List Row) (h : ℕ) → IsHour known h rows ss → AreOpen known c b h past → IsCutOf known c.phases b h rows lists → HaveCycles known c b (known_rows known rows) sums) → HaveCycles (is_known s) c (earlier_rows s hour) (own_rows s hour) sums
  cycles_told past sums e law = subst (λ (rs : List Row). HaveCycles (is_known s) c (earlier_rows s hour) rs sums) own_is (law (is_known s) (earlier_rows s hour) hour here (open_there past e) is.lists)

  log_upto : HasHistory (log_of c.specs s) → IsLogUpto (log_of c.specs s) c hour (earlier_rows s (hour + 1))
  log_upto some = let lt = is.has_hour.within in record {
    sound = is.sound;
    specs = refl;
    are_specs = channels_are c is.sound;
    history = some;
    within = omega arith;
    ordered = let at : point (hour + 1) ≡ end_tenth hour = omega arith in subst (λ (t : ℕ). AreOrdered 0 t (earlier_rows s (hour + 1))) at (earlier_ordered s (hour + 1) is.has_hour.is_store (omega arith));
    are_known = known_all (is_known s) _;
  }

  pub sums_told : (told : List (List Part)) (ats : List AtBar) (sums : List SplitSum) → AreTold (log_of c.specs s) c hour told → ats ≡ before.splits → HasHistory (log_of c.specs s) → AreHourSums c hour lists told ats sums → AreSplitSums (log_of c.specs s) c hour (earlier_rows s hour ++ own_rows s hour) sums
  sums_told told ats sums tells e some law =
      let one : IsLogUpto (log_of c.specs s) c hour (earlier_rows s hour ++ known_rows (is_known s) rows) = subst (λ (rs : List Row). IsLogUpto (log_of c.specs s) c hour rs) (sym upto_is) (log_upto some) in
      subst (λ (rs : List Row). AreSplitSums (log_of c.specs s) c hour (earlier_rows s hour ++ rs) sums) own_is (law (log_of c.specs s) (earlier_rows s hour) rows (split_hour told ats tells e) one)

  pub crosses_told : (told : List (List Part)) (ats after : List AtBar) → AreTold (log_of c.specs s) c hour told → ats ≡ before.splits → CrossesNext c hour lists told ats after → AreAtBars (log_of c.specs s) c (earlier_rows s (hour + 1)) (hour + 1) after
  crosses_told told ats after tells e law =
      subst (λ (rs : List Row). AreAtBars (log_of c.specs s) c rs (hour + 1) after) upto_is (law (log_of c.specs s) (earlier_rows s hour) rows (split_hour told ats tells e))
