-- A part of a log has one value of its numbers.
use Rattle.std.proofs.Common.{◌≡◌, ◌∙◌, refl, ap, sym, subst, inl, inr, ℕ, zero, suc, ◌+◌, ◌-◌, ◌<◌, Bool, true, false, Option, Some, None, List, [], ◌∷◌, ◌++◌, length, arith}
use Rattle.std.proofs.lemmas.List.{ext_get_or, same_from_push}
use Rattle.sig_base.specs.declared.values.Frac.{Frac}
use Rattle.sig_base.specs.declared.values.Row.{Row}
use Rattle.sig_base.specs.Numbers.{has_number, has_phase}
use Rattle.event_codes.specs.declared.channels.Channel.{Channel}
use Rattle.reach.specs.Runs.{State}
use Rattle.board.specs.Logs.{first_tenth}
use Rattle.hour_store.specs.Store.{Store, is_known}
use Rattle.signal_log.specs.Log.{HasHistory, Log, log_of}
use Rattle.ring_config.specs.Settings.{Settings}
use Rattle.ring_config.specs.declared.items.Approach.{Approach}
use Rattle.rule_audit.specs.declared.lines.AuditLine.{AuditLine}
use Rattle.rule_audit.specs.Rules.{rules_for}
use Rattle.service_cut.specs.declared.items.Cycle.{Cycle}
use Rattle.service_cut.specs.declared.items.Service.{Service}
use Rattle.service_cut.specs.Cut.{cycles_from, services_from}
use Rattle.detector_state.specs.declared.state_asked.Asked.{Asked}
use Rattle.detector_state.specs.declared.state_asked.Asked.TheVariants.{Colour, NoneOf}
use Rattle.detector_state.specs.Ranges.{Counts}
use Rattle.detector_state.specs.States.{IsCount}
use Rattle.stop_bar.specs.declared.bars.StopBar.{StopBar}
use Rattle.stop_bar.specs.All.{bar_with}
use Rattle.stop_bar.specs.Bars.{ending, services_upto}
use Rattle.stop_bar.specs.Lists.{Each}
use Rattle.split_measures.specs.declared.failures.SplitSum.{SplitSum}
use Rattle.split_measures.specs.declared.sums.PhaseSum.{PhaseSum}
use Rattle.split_measures.specs.declared.verdict.SplitVerdict.{SplitVerdict}
use Rattle.split_measures.specs.declared.verdict.SplitVerdict.TheVariants.{Fail, Pass, Undecided, Open, Fault}
use Rattle.split_measures.specs.Verdicts.{IsVerdict}
use Rattle.other_measures.specs.declared.sums.CoordSum.{CoordSum}
use Rattle.other_measures.specs.declared.sums.PedSum.{PedSum}
use Rattle.other_measures.specs.declared.sums.PreemptSum.{PreemptSum}
use Rattle.other_measures.specs.Hours.{OtherNumbers}
use Rattle.other_measures.specs.States.{EachOf, coordination, input, ped_detector, service}
use Rattle.arrival_measures.specs.declared.sums.ArrivalSum.{ArrivalSum}
use Rattle.arrival_measures.specs.Judged.{AllPass, AreJudged, CountOf, NonePass, OnlySomePass, is_green, is_red}
use Rattle.arrival_measures.proofs.Counting.{count_one}
use Rattle.arrival_measures.proofs.OneSum.{IsOne}
use Rattle.hour_work.specs.Counts.{counts_of}
use Rattle.hour_work.specs.Measures.{MayBeIn, MeetsIn}
use Rattle.hour_work.specs.Numbers.{Numbers}
use Rattle.hour_work.proofs.OneLaws.{one_lines}
use Rattle.measure_laws.specs.Plain.{AreLinesFrom, ArePlainVerdicts, HasPlainRows, HavePlainVerdicts, IsApproachPart, IsPart, IsPlainPed, IsPlainPhase, IsPlainPreempt, PartsAreOne}
use Rattle.measure_laws.proofs.Said.{HavePlainActuations, HavePlainArrivals, HavePlainCycles, open_by}
use Rattle.measure_laws.specs.States.{HasCoordinationBetween, HasDetectorBetween, HasStatesBetween, HasTenthsBetween}
use Rattle.hour_sweep.specs.Sums.{own}
use Rattle.service_cut.specs.declared.items.Termination.TheVariants.{ForceOff, GapOut, MaxOut, Unlogged}

-- ---- lists of what is one

each_one : {A B : Type 0} (R : A → B → Type 0) (xs : List A) (ys zs : List B) → ((x : A) (y z : B) → R x y → R x z → y ≡ z) → Each R xs ys → Each R xs zs → ys ≡ zs
each_one R [] [] [] one h k = refl
each_one R [] [] (z ∷ zs) one h k = absurd k
each_one R [] (y ∷ ys) zs one h k = absurd h
each_one R (x ∷ xs) [] zs one h k = absurd h
each_one R (x ∷ xs) (y ∷ ys) [] one h k = absurd k
each_one R (x ∷ xs) (y ∷ ys) (z ∷ zs) one h k =
    let here = one x y z h.0 k.0 in
    let rest = each_one R xs ys zs one h.1 k.1 in
    cc

-- by number

numbers_one : {A : Type 0} (has : ℕ → Bool) (Is : ℕ → A → Type 0) (n : ℕ) (xs zs : List A) → ((p : ℕ) (x z : A) → Is p x → Is p z → x ≡ z) → EachOf has Is n xs → EachOf has Is n zs → xs ≡ zs
unfolding EachOf
numbers_one has Is zero xs zs one h g = h ∙ sym g
numbers_one has Is (suc n) xs zs one (inl (e, (us, u, rest, is, join))) (inl (f, (vs, v, more, also, joined))) =
    join ∙ (ap (λ ws. ws ++ u ∷ []) (numbers_one has Is n us vs one rest more) ∙ (ap (λ w. vs ++ w ∷ []) (one n u v is also) ∙ sym joined))
numbers_one has Is (suc n) xs zs one (inl (e, rest)) (inr (f, more)) = absurd (let bad : true ≡ false = sym e ∙ f in cc)
numbers_one has Is (suc n) xs zs one (inr (e, rest)) (inl (f, more)) = absurd (let bad : true ≡ false = sym f ∙ e in cc)
numbers_one has Is (suc n) xs zs one (inr (e, rest)) (inr (f, more)) = numbers_one has Is n xs zs one rest more

-- what two say of a list by number they say together
both_said : {A : Type 0} (has : ℕ → Bool) (Is As : ℕ → A → Type 0) (n : ℕ) (xs : List A) → EachOf has Is n xs → EachOf has As n xs → EachOf has (λ p x. Is p x × As p x) n xs
unfolding EachOf
both_said has Is As zero xs h g = h
both_said has Is As (suc n) xs (inl (e, (ys, y, rest, is, join))) (inl (f, (zs, z, more, also, joined))) =
    let same = same_from_push ys zs y z (sym join ∙ joined) in
    inl (e, (ys, y, both_said has Is As n ys rest (subst (λ (us : List _). EachOf has As n us) (sym same.0) more), (is, subst (λ u. As n u) (sym same.1) also), join))
both_said has Is As (suc n) xs (inl (e, rest)) (inr (f, more)) = absurd (let bad : true ≡ false = sym e ∙ f in cc)
both_said has Is As (suc n) xs (inr (e, rest)) (inl (f, more)) = absurd (let bad : true ≡ false = sym f ∙ e in cc)
both_said has Is As (suc n) xs (inr (e, rest)) (inr (f, more)) = inr (e, both_said has Is As n xs rest more)

-- ---- phases

phase_one : (ss : List Service) (cs : List Cycle) (p : ℕ) (x z : PhaseSum) → IsPlainPhase ss cs p x → IsPlainPhase ss cs p z → x ≡ z
phase_one ss cs p x z h g =
    let gap_out = count_one (λ (s : Service). s.end ≡ GapOut) (own (λ s. s.phase) p ss) x.gap_out z.gap_out h.gap_out g.gap_out in
    let max_out = count_one (λ (s : Service). s.end ≡ MaxOut) (own (λ s. s.phase) p ss) x.max_out z.max_out h.max_out g.max_out in
    let force_off = count_one (λ (s : Service). s.end ≡ ForceOff) (own (λ s. s.phase) p ss) x.force_off z.force_off h.force_off g.force_off in
    let unlogged = count_one (λ (s : Service). s.end ≡ Unlogged) (own (λ s. s.phase) p ss) x.unlogged z.unlogged h.unlogged g.unlogged in
    let one : PhaseSum = record { services = x.services; least = x.least; greatest = x.greatest; sum = x.sum; gap_out = x.gap_out; max_out = x.max_out; force_off = x.force_off; unlogged = x.unlogged; cycles = x.cycles; cycle_sum = x.cycle_sum } in
    let other : PhaseSum = record { services = z.services; least = z.least; greatest = z.greatest; sum = z.sum; gap_out = z.gap_out; max_out = z.max_out; force_off = z.force_off; unlogged = z.unlogged; cycles = z.cycles; cycle_sum = z.cycle_sum } in
    let same : one ≡ other = cc in
    same

-- ---- tenths in states

tenths_counted : (P : ℕ → Type 0) (a n j k : ℕ) → IsCount P a n j → IsCount P a n k → j ≡ k
unfolding IsCount
tenths_counted P a zero j k h g = h ∙ sym g
tenths_counted P a (suc n) j k (inl (p, (x, e, rest))) (inl (q, (y, f, more))) = e ∙ (ap suc (tenths_counted P (a + 1) n x y rest more) ∙ sym f)
tenths_counted P a (suc n) j k (inl (p, rest)) (inr (never, more)) = absurd (never p)
tenths_counted P a (suc n) j k (inr (never, rest)) (inl (q, more)) = absurd (never q)
tenths_counted P a (suc n) j k (inr (never, rest)) (inr (nor, more)) = tenths_counted P (a + 1) n j k rest more

range_counted : (P : ℕ → Type 0) (a b j k : ℕ) → Counts P a b j → Counts P a b k → j ≡ k
range_counted P a b j k (n, e, h) (m, f, g) =
    let same : m ≡ n = omega arith in
    tenths_counted P a n j k h (subst (λ (z : ℕ). IsCount P a z k) same g)

module _ (At : ℕ → Asked → ℕ → Type 0) (from to : ℕ) (c : Settings) where
  tenths_one : (channel : Channel) (asked : Asked) (j k : ℕ) → HasTenthsBetween At from to c channel asked j → HasTenthsBetween At from to c channel asked k → j ≡ k
  tenths_one channel asked j k (i, at, h) (l, bt, g) =
      let same : l ≡ i = (let both : Some l ≡ Some i = sym bt ∙ at in cc) in
      range_counted (At i asked) from to j k h (subst (λ (z : ℕ). Counts (At z asked) from to k) same g)

  ped_one : (known : ℕ → Bool) (before rows : List Row) (p : ℕ) (x z : PedSum) → IsPlainPed known c before rows p x × HasDetectorBetween At from to c p x → IsPlainPed known c before rows p z × HasDetectorBetween At from to c p z → x ≡ z
  ped_one known before rows p x z (h, s) (g, t) =
      let on = tenths_one (ped_detector p) (Colour 1) x.detector_on z.detector_on s.on t.on in
      let undecided = tenths_one (ped_detector p) (NoneOf 2) x.detector_undecided z.detector_undecided s.undecided t.undecided in
      let one : PedSum = record { walks = x.walks; delays = x.delays; sum = x.sum; greatest = x.greatest; uncalled = x.uncalled; partial = x.partial; detector_on = x.detector_on; detector_undecided = x.detector_undecided } in
      let other : PedSum = record { walks = z.walks; delays = z.delays; sum = z.sum; greatest = z.greatest; uncalled = z.uncalled; partial = z.partial; detector_on = z.detector_on; detector_undecided = z.detector_undecided } in
      let same : one ≡ other = cc in
      same

  preempt_one : (known : ℕ → Bool) (before rows : List Row) (p : ℕ) (x z : PreemptSum) → IsPlainPreempt known c before rows p x × HasStatesBetween At from to c p x → IsPlainPreempt known c before rows p z × HasStatesBetween At from to c p z → x ≡ z
  preempt_one known before rows p x z (h, s) (g, t) =
      let input_on = tenths_one (input p) (Colour 1) x.input_on z.input_on s.input_on t.input_on in
      let input_undecided = tenths_one (input p) (NoneOf 2) x.input_undecided z.input_undecided s.input_undecided t.input_undecided in
      let rest = tenths_one (service p) (Colour 0) x.rest z.rest s.rest t.rest in
      let entry = tenths_one (service p) (Colour 1) x.entry z.entry s.entry t.entry in
      let track = tenths_one (service p) (Colour 2) x.track z.track s.track t.track in
      let dwell = tenths_one (service p) (Colour 3) x.dwell z.dwell s.dwell t.dwell in
      let undecided = tenths_one (service p) (NoneOf 4) x.undecided z.undecided s.undecided t.undecided in
      let one : PreemptSum = record { entries = x.entries; delays = x.delays; sum = x.sum; partial = x.partial; dwells = x.dwells; dwell_sum = x.dwell_sum; dwell_partial = x.dwell_partial; input_on = x.input_on; input_undecided = x.input_undecided; rest = x.rest; entry = x.entry; track = x.track; dwell = x.dwell; undecided = x.undecided } in
      let other : PreemptSum = record { entries = z.entries; delays = z.delays; sum = z.sum; partial = z.partial; dwells = z.dwells; dwell_sum = z.dwell_sum; dwell_partial = z.dwell_partial; input_on = z.input_on; input_undecided = z.input_undecided; rest = z.rest; entry = z.entry; track = z.track; dwell = z.dwell; undecided = z.undecided } in
      let same : one ≡ other = cc in
      same

  coordinated_one : (rows : List Row) (x z : CoordSum) → HasPlainRows rows x → HasPlainRows rows z → HasCoordinationBetween At from to c x → HasCoordinationBetween At from to c z → x ≡ z
  coordinated_one rows x z h g s t =
      let tenths : x.tenths ≡ z.tenths = ext_get_or 0 x.tenths z.tenths (s.size ∙ sym t.size) (λ q lt. let low : q < 7 = subst (λ (n : ℕ). q < n) s.size lt in tenths_one coordination (Colour q) _ _ (s.tenths q low) (t.tenths q low)) in
      let undecided = tenths_one coordination (NoneOf 7) x.undecided z.undecided s.undecided t.undecided in
      let one : CoordSum = record { tenths = x.tenths; undecided = x.undecided; patterns = x.patterns; cycle_changes = x.cycle_changes; yields = x.yields; begins = x.begins } in
      let other : CoordSum = record { tenths = z.tenths; undecided = z.undecided; patterns = z.patterns; cycle_changes = z.cycle_changes; yields = z.yields; begins = z.begins } in
      let same : one ≡ other = cc in
      same

coordination_one : (c : Settings) (s : Store) (first last : ℕ) (before rows : List Row) (a b : Numbers) (v : Bool) → c.coordination ≡ v → IsPart c s first last before rows a → IsPart c s first last before rows b → a.others.coordination ≡ b.others.coordination
coordination_one c s first last before rows a b true on h g = coordinated_one (MeetsIn c s) (first_tenth first) (first_tenth last) c rows a.others.coordination b.others.coordination (h.coordination on) (g.coordination on) (h.states.coordination on) (g.states.coordination on)
coordination_one c s first last before rows a b false off h g = h.off off ∙ sym (g.off off)

others_one : (c : Settings) (s : Store) (first last : ℕ) (before rows : List Row) (a b : Numbers) → IsPart c s first last before rows a → IsPart c s first last before rows b → a.others ≡ b.others
others_one c s first last before rows a b h g =
    let known = is_known s in
    let At = MeetsIn c s in
    let from = first_tenth first in
    let to = first_tenth last in
    let Ped = IsPlainPed known c before rows in
    let Detector = HasDetectorBetween At from to c in
    let Preempt = IsPlainPreempt known c before rows in
    let States = HasStatesBetween At from to c in
    let peds = numbers_one (has_number c.peds) (λ p x. Ped p x × Detector p x) 17 a.others.peds b.others.peds (ped_one At from to c known before rows)
    (both_said (has_number c.peds) Ped Detector 17 a.others.peds h.peds h.states.peds)
    (both_said (has_number c.peds) Ped Detector 17 b.others.peds g.peds g.states.peds) in
    let preempts = numbers_one (has_number c.preempts) (λ p x. Preempt p x × States p x) 17 a.others.preempts b.others.preempts (preempt_one At from to c known before rows)
    (both_said (has_number c.preempts) Preempt States 17 a.others.preempts h.preempts h.states.preempts)
    (both_said (has_number c.preempts) Preempt States 17 b.others.preempts g.preempts g.states.preempts) in
    let coordinated = coordination_one c s first last before rows a b c.coordination refl h g in
    let one : OtherNumbers = record { peds = a.others.peds; preempts = a.others.preempts; coordination = a.others.coordination } in
    let other : OtherNumbers = record { peds = b.others.peds; preempts = b.others.preempts; coordination = b.others.coordination } in
    let same : one ≡ other = cc in
    same

-- ---- services at stop bars

module _ (log : Log) (has : HasHistory log) where
  verdict_one : (i : ℕ) (high : Frac) (s : Service) (v w : SplitVerdict) → IsVerdict log i high s v → IsVerdict log i high s w → v ≡ w
  verdict_one i high s Fail Fail x y = refl
  verdict_one i high s Fail Pass x y = let (h, a) = has in absurd (y.1 h a (x.1 h a))
  verdict_one i high s Fail Undecided x y = let (h, a, never) = y.1.1 in absurd (never (x.1 h a))
  verdict_one i high s Fail Open x y = absurd y
  verdict_one i high s Fail Fault x y = absurd (x.0 y)
  verdict_one i high s Pass Fail x y = let (h, a) = has in absurd (x.1 h a (y.1 h a))
  verdict_one i high s Pass Pass x y = refl
  verdict_one i high s Pass Undecided x y = let (h, a, fails) = y.1.0 in absurd (x.1 h a fails)
  verdict_one i high s Pass Open x y = absurd y
  verdict_one i high s Pass Fault x y = absurd (x.0 y)
  verdict_one i high s Undecided Fail x y = let (h, a, never) = x.1.1 in absurd (never (y.1 h a))
  verdict_one i high s Undecided Pass x y = let (h, a, fails) = x.1.0 in absurd (y.1 h a fails)
  verdict_one i high s Undecided Undecided x y = refl
  verdict_one i high s Undecided Open x y = absurd y
  verdict_one i high s Undecided Fault x y = absurd (x.0 y)
  verdict_one i high s Open w x y = absurd x
  verdict_one i high s Fault Fail x y = absurd (y.0 x)
  verdict_one i high s Fault Pass x y = absurd (y.0 x)
  verdict_one i high s Fault Undecided x y = absurd (y.0 x)
  verdict_one i high s Fault Open x y = absurd y
  verdict_one i high s Fault Fault x y = refl

  sum_one : (i : ℕ) (b : StopBar) (judged waiting : List Service) (x z : SplitSum) → ArePlainVerdicts log i b judged waiting x → ArePlainVerdicts log i b judged waiting z → x ≡ z
  sum_one i b judged waiting x z h g =
      let verdicts : h.verdicts ≡ g.verdicts = each_one (λ s v. IsVerdict log i b.high s v) judged h.verdicts g.verdicts (verdict_one i b.high) h.each g.each in
      let fail = count_one (λ (v : SplitVerdict). v ≡ Fail) h.verdicts x.fail z.fail h.fail (subst (λ (vs : List SplitVerdict). CountOf (λ v. v ≡ Fail) vs z.fail) (sym verdicts) g.fail) in
      let pass = count_one (λ (v : SplitVerdict). v ≡ Pass) h.verdicts x.pass z.pass h.pass (subst (λ (vs : List SplitVerdict). CountOf (λ v. v ≡ Pass) vs z.pass) (sym verdicts) g.pass) in
      let undecided = count_one (λ (v : SplitVerdict). v ≡ Undecided) h.verdicts x.undecided z.undecided h.undecided (subst (λ (vs : List SplitVerdict). CountOf (λ v. v ≡ Undecided) vs z.undecided) (sym verdicts) g.undecided) in
      let fault = count_one (λ (v : SplitVerdict). v ≡ Fault) h.verdicts x.fault z.fault h.fault (subst (λ (vs : List SplitVerdict). CountOf (λ v. v ≡ Fault) vs z.fault) (sym verdicts) g.fault) in
      let one : SplitSum = record { fail = x.fail; pass = x.pass; undecided = x.undecided; left_open = x.left_open; fault = x.fault } in
      let other : SplitSum = record { fail = z.fail; pass = z.pass; undecided = z.undecided; left_open = z.left_open; fault = z.fault } in
      let same : one ≡ other = cc in
      same

  bar_one : (c : Settings) (judged waiting : List Service → List Service) (rows : List Row) (o : Option StopBar) (x z : SplitSum) → HavePlainVerdicts log c judged waiting rows x o → HavePlainVerdicts log c judged waiting rows z o → x ≡ z
  bar_one c judged waiting rows None x z h g = h ∙ sym g
  bar_one c judged waiting rows (Some b) x z (i, at, h) (j, bt, g) =
      let same : j ≡ i = (let both : Some j ≡ Some i = sym bt ∙ at in cc) in
      let all = services_upto log.known c.phases b.phase rows in
      sum_one i b (judged all) (waiting all) x z h (subst (λ (k : ℕ). ArePlainVerdicts log k b (judged all) (waiting all) z) same g)

-- ---- approaches

judged_one : (May : ℕ → ℕ → State → Type 0) (c : Settings) (p : ℕ) (test : ℕ → Bool) (ons : List Row) (a b s d e t : ℕ) → AreJudged May c p test ons a b s → AreJudged May c p test ons d e t → IsOne a b s d e t
judged_one May c p test ons a b s d e t h g =
    let place : g.place ≡ h.place = (let both : Some g.place ≡ Some h.place = sym g.is_place ∙ h.is_place in cc) in
    record {
      all = count_one (λ x. AllPass test (May h.place x.at)) ons a d h.all_pass (subst (λ (q : ℕ). CountOf (λ x. AllPass test (May q x.at)) ons d) place g.all_pass);
      none = count_one (λ x. NonePass test (May h.place x.at)) ons b e h.none_pass (subst (λ (q : ℕ). CountOf (λ x. NonePass test (May q x.at)) ons e) place g.none_pass);
      some = count_one (λ x. OnlySomePass test (May h.place x.at)) ons s t h.some_pass (subst (λ (q : ℕ). CountOf (λ x. OnlySomePass test (May q x.at)) ons t) place g.some_pass);
    }

-- the numbers by the advance detector, and those at the stop bar, are one

record AreOneAhead (x z : ArrivalSum) : Type 0 where
  arrivals : x.arrivals ≡ z.arrivals
  judged : IsOne x.green x.not_green x.undecided z.green z.not_green z.undecided
  unseen : x.unseen ≡ z.unseen
  fault : x.fault ≡ z.fault

record AreOneAtBar (x z : ArrivalSum) : Type 0 where
  actuations : x.actuations ≡ z.actuations
  judged : IsOne x.red x.not_red x.red_undecided z.red z.not_red z.red_undecided
  fault : x.red_fault ≡ z.red_fault

module _ (c : Settings) (s : Store) (before rows : List Row) (a : Approach) (x z : ArrivalSum) where
  arrivals_one : (ons : ℕ → List Row) (seen : Row → Bool) (o : Option ℕ) → HavePlainArrivals c s ons seen before rows a x o → HavePlainArrivals c s ons seen before rows a z o → AreOneAhead x z
  arrivals_one ons seen None h g = record { arrivals = h.0 ∙ sym g.0; judged = record { all = h.1 ∙ sym g.1; none = h.2 ∙ sym g.2; some = h.3 ∙ sym g.3 }; unseen = h.4 ∙ sym g.4; fault = h.5 ∙ sym g.5 }
  arrivals_one ons seen (Some d) h g = record { arrivals = h.arrivals ∙ sym g.arrivals; judged = judged_one (MayBeIn c s) c a.phase is_green _ _ _ _ _ _ _ h.judged g.judged; unseen = h.unseen ∙ sym g.unseen; fault = h.fault ∙ sym g.fault }

  actuations_one : (o : Option ℕ) → HavePlainActuations c s before rows a x o → HavePlainActuations c s before rows a z o → AreOneAtBar x z
  actuations_one None h g = record { actuations = h.0 ∙ sym g.0; judged = record { all = h.1 ∙ sym g.1; none = h.2 ∙ sym g.2; some = h.3 ∙ sym g.3 }; fault = h.4 ∙ sym g.4 }
  actuations_one (Some d) h g = record { actuations = h.actuations ∙ sym g.actuations; judged = judged_one (MayBeIn c s) c a.phase is_red _ _ _ _ _ _ _ h.judged g.judged; fault = h.fault ∙ sym g.fault }

-- those of the cycles
record AreOneOver (x z : ArrivalSum) : Type 0 where
  arrivals : x.cycle_arrivals ≡ z.cycle_arrivals
  green : x.cycle_green ≡ z.cycle_green
  green_tenths : x.green_tenths ≡ z.green_tenths
  tenths : x.cycle_tenths ≡ z.cycle_tenths

cycles_one : (known : ℕ → Bool) (c : Settings) (before rows : List Row) (a : Approach) (x z : ArrivalSum) (o : Option ℕ) → HavePlainCycles known c before rows a x o → HavePlainCycles known c before rows a z o → AreOneOver x z
cycles_one known c before rows a x z None h g = record { arrivals = h.0 ∙ sym g.0; green = h.1 ∙ sym g.1; green_tenths = h.2 ∙ sym g.2; tenths = h.3 ∙ sym g.3 }
cycles_one known c before rows a x z (Some d) h g = record { arrivals = h.arrivals ∙ sym g.arrivals; green = h.green ∙ sym g.green; green_tenths = h.green_tenths ∙ sym g.green_tenths; tenths = h.tenths ∙ sym g.tenths }

approach_one : (c : Settings) (s : Store) (first last : ℕ) (before rows : List Row) (a : Approach) (x z : ArrivalSum) → IsApproachPart c s first last before rows a x → IsApproachPart c s first last before rows a z → x ≡ z
approach_one c s first last before rows a x z h g =
    let ahead = arrivals_one c s before rows a x z _ _ a.advance h.arrivals g.arrivals in
    let cycles = cycles_one (is_known s) c before rows a x z a.advance h.cycles g.cycles in
    let bar = actuations_one c s before rows a x z a.stop_bar h.actuations g.actuations in
    let one : ArrivalSum = record { arrivals = x.arrivals; green = x.green; not_green = x.not_green; undecided = x.undecided; unseen = x.unseen; fault = x.fault; cycle_arrivals = x.cycle_arrivals; cycle_green = x.cycle_green; green_tenths = x.green_tenths; cycle_tenths = x.cycle_tenths; actuations = x.actuations; red = x.red; not_red = x.not_red; red_undecided = x.red_undecided; red_fault = x.red_fault } in
    let other : ArrivalSum = record { arrivals = z.arrivals; green = z.green; not_green = z.not_green; undecided = z.undecided; unseen = z.unseen; fault = z.fault; cycle_arrivals = z.cycle_arrivals; cycle_green = z.cycle_green; green_tenths = z.green_tenths; cycle_tenths = z.cycle_tenths; actuations = z.actuations; red = z.red; not_red = z.not_red; red_undecided = z.red_undecided; red_fault = z.red_fault } in
    let same : one ≡ other = cc in
    same

-- ---- audit lines

lines_one : (c : Settings) (s : Store) → HasHistory (log_of c.specs s) → (hour n : ℕ) (a b : List AuditLine) → AreLinesFrom c s hour n a → AreLinesFrom c s hour n b → a ≡ b
unfolding AreLinesFrom
lines_one c s has hour zero a b h g = h ∙ sym g
lines_one c s has hour (suc n) a b (own, rest, are, more, e) (own', rest', are', more', e') =
    let here = one_lines c s hour own own' has are are' in
    let after = lines_one c s has (hour + 1) n rest rest' more more' in
    cc

-- ---- a part

pub one_part : PartsAreOne
one_part c s first last before rows a b has h g =
    let lines = lines_one c s has first (last - first) h.lines g.lines h.are_lines g.are_lines in
    let rules : a.rules ≡ b.rules = h.rules ∙ (ap (λ ls. counts_of (length (rules_for c)) ls) lines ∙ sym g.rules) in
    let splits : a.splits ≡ b.splits = numbers_one (has_phase c.phases) (IsPlainPhase (services_from (is_known s) c.phases before rows) (cycles_from (is_known s) c.phases before rows)) 17 a.splits b.splits (phase_one _ _) h.phases g.phases in
    let others = others_one c s first last before rows a b h g in
    let failures = each_one (λ x y. HavePlainVerdicts (log_of c.specs s) c (ending (first_tenth first) (first_tenth last)) (open_by c last) (before ++ rows) y (bar_with x x.stop_bar)) c.approaches a.failures b.failures (λ x y z. bar_one (log_of c.specs s) has c (ending (first_tenth first) (first_tenth last)) (open_by c last) (before ++ rows) (bar_with x x.stop_bar) y z) h.verdicts g.verdicts in
    let arrivals = each_one (IsApproachPart c s first last before rows) c.approaches a.arrivals b.arrivals (approach_one c s first last before rows) h.approaches g.approaches in
    let one : Numbers = record { held_hours = a.held_hours; held_rows = a.held_rows; known_tenths = a.known_tenths; rules = a.rules; splits = a.splits; failures = a.failures; others = a.others; arrivals = a.arrivals } in
    let other : Numbers = record { held_hours = b.held_hours; held_rows = b.held_rows; known_tenths = b.known_tenths; rules = b.rules; splits = b.splits; failures = b.failures; others = b.others; arrivals = b.arrivals } in
    let same : one ≡ other = cc in
    same
