-- The verdicts of an hour's services.
use Rattle.std.proofs.Common.{◌≡◌, inl, inr, ℕ, ◌+◌, ◌-◌, ◌<◌, ◌≤◌, nat_le, nat_lt, ◌&&◌, Option, Some, None, List, [], ◌∷◌, ◌++◌, length, get_or, arith, refl, subst}
use Rattle.std.proofs.lemmas.Bool.{and_parts, cases_Bool, leb-true}
use Rattle.sig_base.specs.declared.values.Frac.{Frac}
use Rattle.sig_base.specs.declared.values.Row.{Row}
use Rattle.event_codes.specs.declared.channels.Channel.{Channel}
use Rattle.event_codes.specs.declared.channels.Kind.TheVariants.{Detector}
use Rattle.board.specs.Channels.{AreSpecs}
use Rattle.board.specs.Logs.{end_tenth, first_tenth, no_spec}
use Rattle.hour_store.specs.Store.{IsStore, Store, is_known}
use Rattle.hour_sweep.specs.Hours.{AreOrdered, point}
use Rattle.signal_log.specs.Log.{HasHistory, Log, log_of, window_end}
use Rattle.detector_state.specs.Tells.{IsColourReached, IsSure}
use Rattle.ring_config.specs.Settings.{Settings}
use Rattle.ring_config.specs.Sound.{IsSound}
use Rattle.ring_config.specs.declared.items.Approach.{Approach}
use Rattle.rule_audit.proofs.Tracked.{channels_are}
use Rattle.detector_state.specs.Switches.{IsChannelOf, IsSwitch}
use Rattle.service_cut.specs.declared.items.Service.{Service}
use Rattle.stop_bar.specs.Going.{AreInOrder}
use Rattle.stop_bar.proofs.Fitting.{known_all}
use Rattle.stop_bar.specs.declared.bars.StopBar.{StopBar}
use Rattle.stop_bar.specs.Bars.{ending, services_upto}
use Rattle.stop_bar.proofs.Hours.{upto_in_order}
use Rattle.stop_bar.specs.All.{IsPlaceOf, bar_with}
use Rattle.stop_bar.specs.Lists.{Each}
use Rattle.stop_bar.proofs.ToldAt.{place_channel}
use Rattle.split_measures.specs.declared.failures.SplitSum.{SplitSum}
use Rattle.split_measures.specs.declared.verdict.SplitVerdict.{SplitVerdict}
use Rattle.split_measures.specs.declared.verdict.SplitVerdict.TheVariants.{Fault}
use Rattle.split_measures.specs.Failures.{split_sum_of}
use Rattle.split_measures.specs.Hours.{AreSplitSums, IsApproachSum, IsLogUpto, IsSplitSum, open_in, opens_of}
use Rattle.split_measures.specs.Verdicts.{HasFault, IsInLog, IsVerdict, verdict_of}
use Rattle.split_measures.proofs.Approaches.{place_there}
use Rattle.split_measures.proofs.Numbers.{numbers_tell}
use Rattle.hour_work.specs.Rows.{earlier_rows, own_rows}
use Rattle.hour_work.proofs.MeasureLaws.{earlier_more}
use Rattle.hour_work.proofs.WholeLog.{earlier_ordered}
use Rattle.transcript_laws.specs.Exists.{NotNone}
use Rattle.transcript_laws.proofs.Chance.{decided, some, then, with}
use Rattle.transcript_laws.proofs.Counted.{counted_to, each_listed}

module _ (log : Log) (i : ℕ) (channel : Channel) (high : Frac) (are : AreSpecs log.specs) (has : HasHistory log) (of : IsChannelOf log i channel) (switch : IsSwitch channel.kind) where
  -- a service whose windows lie in the log's has a verdict
  pub verdict_exists : (s : Service) → IsInLog log s → NotNone ((v : SplitVerdict) × IsVerdict log i high s v)
  verdict_exists s inside = then (decided (HasFault log i s)) (λ d. elim d [
    | inl fault ↦ some (Fault, fault)
    | inr good ↦
        let order = inside.green in
        then (counted_to (IsSure log i 1) s.b s.g order) (λ (gl, are_gl).
        then (counted_to (IsColourReached log i 1) s.b s.g order) (λ (gg, are_gg).
        then (counted_to (IsSure log i 1) s.r (s.r + 50) (omega arith)) (λ (rl, are_rl).
        with (counted_to (IsColourReached log i 1) s.r (s.r + 50) (omega arith)) (λ (rg, are_rg). (
          verdict_of high.num high.den (s.g - s.b) gl gg rl rg,
          numbers_tell log i channel high s gl gg rl rg are has of switch inside good (record { green_least = are_gl; green_greatest = are_gg; red_least = are_rl; red_greatest = are_rg }),
        )))))
  ])

  abbrev Verdicts : List Service → Type 0
  Verdicts ss = NotNone ((vs : List SplitVerdict) × Each (λ s v. IsVerdict log i high s v) ss vs)

  verdicts_exist : (a b : ℕ) (ss : List Service) → b ≤ window_end log → AreInOrder ss → Verdicts (ending a b ss)
  verdicts_exist a b [] le order = some ([], tt)
  verdicts_exist a b (s ∷ ss) le order = elim (cases_Bool (nat_lt a (s.r + 50) && nat_le (s.r + 50) b)) [
    | inl t ↦
        let last = leb-true (s.r + 50) b (and_parts (nat_lt a (s.r + 50)) (nat_le (s.r + 50) b) t).1 in
        let here : Verdicts (s ∷ ending a b ss) =
        then (verdict_exists s (record { green = order.0.0; yellow = order.0.1; red = omega arith })) (λ (v, is).
        with (verdicts_exist a b ss le order.1) (λ (vs, all). (v ∷ vs, (is, all)))) in
        rw t here
    | inr f ↦ rw f (verdicts_exist a b ss le order.1)
  ]

module _ (log : Log) (c : Settings) (hour : ℕ) (upto : List Row) (is : IsLogUpto log c hour upto) where
  channel_of : (b : StopBar) (i : ℕ) → IsPlaceOf c b i → IsChannelOf log i (record { kind = Detector; number = b.detector })
  channel_of b i at =
      let found = place_channel c.specs b.detector i at in
      let same = is.specs in
      let lt : i < length log.specs = rw same found.0 in
      record {
        within = lt;
        fits = is.are_specs.fit i no_spec lt;
        same = rw same found.1;
      }

  bar_exists : (b : StopBar) (i : ℕ) → IsPlaceOf c b i → NotNone ((sum : SplitSum) × IsSplitSum log c i b hour upto sum)
  bar_exists b i at =
      let services = services_upto log.known c.phases b.phase upto in
      let order = upto_in_order log.known c.phases b.phase (end_tenth hour) upto is.ordered is.are_known in
      let top = is.within in
      with (verdicts_exist log i (record { kind = Detector; number = b.detector }) b.high is.are_specs is.history (channel_of b i at) tt (first_tenth hour) (end_tenth hour) services (omega arith) order) (λ (vs, all). (
        split_sum_of (vs ++ opens_of (open_in c.window.hours hour services)),
        record { verdicts = vs; each = all; sums = refl },
      ))

  approach_exists : (k : ℕ) (d : Approach) (o : Option StopBar) → bar_with (get_or c.approaches k d) (get_or c.approaches k d).stop_bar ≡ o → k < length c.approaches → NotNone ((sum : SplitSum) × IsApproachSum log c hour upto sum o)
  approach_exists k d None e lt = some (split_sum_of [], refl)
  approach_exists k d (Some b) e lt =
      let (i, at) = place_there c k d (get_or c.approaches k d) b is.sound lt refl e in
      with (bar_exists b i at) (λ (sum, one). (sum, (i, at, one)))

  -- the sums of the approaches, over the known rows up to the end of an hour
  pub split_sums_exist : NotNone ((sums : List SplitSum) × AreSplitSums log c hour upto sums)
  split_sums_exist =
      each_listed (λ a sum. IsApproachSum log c hour upto sum (bar_with a a.stop_bar)) c.approaches (λ k d lt. approach_exists k d (bar_with (get_or c.approaches k d) (get_or c.approaches k d).stop_bar) refl lt)

-- the known rows of a store up to the end of one of its hours
pub log_upto : (c : Settings) (s : Store) (hour : ℕ) → IsSound c → IsStore s → HasHistory (log_of c.specs s) → hour < length s.hours → IsLogUpto (log_of c.specs s) c hour (earlier_rows s hour ++ own_rows s hour)
log_upto c s hour sound store has lt =
    let upto : IsLogUpto (log_of c.specs s) c hour (earlier_rows s (hour + 1)) = record {
      sound = sound;
      specs = refl;
      are_specs = channels_are c sound;
      history = has;
      within = omega arith;
      ordered = let at : point (hour + 1) ≡ end_tenth hour = omega arith in subst (λ (t : ℕ). AreOrdered 0 t (earlier_rows s (hour + 1))) at (earlier_ordered s (hour + 1) store (omega arith));
      are_known = known_all (is_known s) _;
    } in
    subst (λ (rs : List Row). IsLogUpto (log_of c.specs s) c hour rs) (earlier_more s hour lt) upto
