-- The hour's numbers and the next point's carry.
use Rattle.std.proofs.Common.{◌≡◌, ℕ, ◌+◌, ◌<◌, Bool, true, false, List, [], ◌++◌, Option, get_or, refl, ap, subst, ◌∙◌, arith}
use Rattle.std.proofs.lemmas.List.Elements.{All-nil, All-append, All-weaker, All-filter}
use Rattle.sig_base.specs.declared.values.Row.{Row}
use Rattle.sig_base.specs.Numbers.{has_number}
use Rattle.gap_map.specs.declared.stretch.Stretch.{Stretch}
use Rattle.gap_map.specs.Stretches.{FollowOn}
use Rattle.hour_sweep.specs.Sums.{AreSums}
use Rattle.hour_sweep.specs.Rows.{known_rows}
use Rattle.hour_sweep.specs.Hours.{AreOrdered, IsHour, point}
use Rattle.hour_sweep.specs.Passes.{both_after, both_cleared, swept}
use Rattle.hour_sweep.specs.Numbers.{Tracking, tracking_after, tracking_cleared, IsTracked}
use Rattle.hour_sweep.proofs.Orders.{rise_ordered, below_end}
use Rattle.hour_sweep.proofs.Laws.{hour_tracked}
use Rattle.hour_sweep.proofs.Pairs.{swept_both}
use Rattle.hour_sweep.proofs.Counted.{outs_from-append}
use Rattle.board.specs.Logs.{HourLog, first_tenth, end_tenth}
use Rattle.hour_sweep.proofs.Common.{next_point}
use Rattle.ring_config.specs.Settings.{Settings}
use Rattle.other_measures.specs.declared.peds.Delay.{Delay}
use Rattle.other_measures.specs.declared.peds.PedPart.{PedPart}
use Rattle.other_measures.specs.declared.preempts.PreemptEvent.{PreemptEvent}
use Rattle.other_measures.specs.declared.preempts.PreemptPart.{PreemptPart}
use Rattle.other_measures.specs.declared.sums.PedSum.{PedSum}
use Rattle.other_measures.specs.declared.sums.PreemptSum.{PreemptSum}
use Rattle.other_measures.specs.declared.sums.CoordSum.{CoordSum}
use Rattle.other_measures.specs.declared.states.Seen.{Seen}
use Rattle.other_measures.specs.Peds.{ped_of, delay_at}
use Rattle.other_measures.specs.Preempts.{preempt_of, event_at}
use Rattle.other_measures.specs.Steps.{ped_after, ped_cleared, delay_by, preempt_after, preempt_cleared, event_by}
use Rattle.other_measures.specs.Crossing.{Crossing, IsCarry, peds_of, places, preempts_of}
use Rattle.other_measures.specs.Sums.{ped_sum_of, preempt_sum_of, no_ped_sum, no_preempt_sum}
use Rattle.other_measures.specs.Hours.{delays_from, events_from, HasDelays, HasEvents, with_detector, with_states, AreNumbers, HasRows, no_coordination}
use Rattle.other_measures.specs.States.{EachOf, IsSeen, IsSeenOf}
use Rattle.other_measures.proofs.PedLaws.{ped_tracks}
use Rattle.other_measures.proofs.PreemptLaws.{preempt_tracks}
use Rattle.other_measures.proofs.Starts.{number_low}

-- what an hour's rows give in pedestrian signals, and in preempts
abbrev PedsTracked : (ℕ → Bool) → Settings → List Row → ℕ → List Row → Tracking PedPart Delay → Type 0
PedsTracked known c before hour rows t = IsTracked known (ped_of known) (delay_at known) (has_number c.peds) (places c.peds) before rows (point hour + 36000) t.outs t.parts

abbrev PreemptsTracked : (ℕ → Bool) → Settings → List Row → ℕ → List Row → Tracking PreemptPart PreemptEvent → Type 0
PreemptsTracked known c before hour rows t = IsTracked known (preempt_of known) (event_at known) (has_number c.preempts) (places c.preempts) before rows (point hour + 36000) t.outs t.parts

-- both in one pass, from what crosses the point before the hour
pub others_tracked : (rows : List Row) (ss : List Stretch) (carry : Crossing) (s : Tracking PedPart Delay) (t : Tracking PreemptPart PreemptEvent) (start end : Tracking PedPart Delay × Tracking PreemptPart PreemptEvent) → s ≡ record { parts = carry.peds; outs = [] } → t ≡ record { parts = carry.preempts; outs = [] } → start ≡ (s, t)
    → end ≡ swept (both_after (tracking_after ped_after delay_by) (tracking_after preempt_after event_by)) (both_cleared (tracking_cleared ped_cleared) (tracking_cleared preempt_cleared)) ss rows start
    → (known : ℕ → Bool) (c : Settings) (before : List Row) (hour : ℕ) → IsHour known hour rows ss → IsCarry known c before hour carry → PedsTracked known c before hour rows end.0 × PreemptsTracked known c before hour rows end.1
others_tracked rows ss carry s t start end es et e passed known c before hour h is =
    let or = rise_ordered (point hour) (point hour + 36000) rows (omega arith) h.are_rows.rise in
    let apart = passed ∙ rw (e, es, et) (swept_both (tracking_after ped_after delay_by) (tracking_after preempt_after event_by) (tracking_cleared ped_cleared) (tracking_cleared preempt_cleared) ss rows (record { parts = carry.peds; outs = [] }) (record { parts = carry.preempts; outs = [] })) in (
      hour_tracked known (ped_of known) ped_after ped_cleared (delay_at known) delay_by (ped_tracks known) (has_number c.peds) (places c.peds) (number_low c.peds) before (point hour) (point hour + 36000) rows ss carry.peds end.0 (ap (λ p. p.0) apart) h.are_stretches or is.earlier is.peds_are,
      hour_tracked known (preempt_of known) preempt_after preempt_cleared (event_at known) event_by (preempt_tracks known) (has_number c.preempts) (places c.preempts) (number_low c.preempts) before (point hour) (point hour + 36000) rows ss carry.preempts end.1 (ap (λ p. p.1) apart) h.are_stretches or is.earlier is.preempts_are,
    )

pub carry_by : (known : ℕ → Bool) (c : Settings) (before : List Row) (hour : ℕ) (rows : List Row) (ss : List Stretch) (carry : Crossing) (s : Tracking PedPart Delay) (t : Tracking PreemptPart PreemptEvent) (ps : List (Option PedPart)) (qs : List (Option PreemptPart)) → IsHour known hour rows ss → IsCarry known c before hour carry → ps ≡ s.parts → qs ≡ t.parts
    → PedsTracked known c before hour rows s × PreemptsTracked known c before hour rows t → IsCarry known c (before ++ known_rows known rows) (hour + 1) (record { peds = ps; preempts = qs })
carry_by known c before hour rows ss carry s t ps qs h is e f (a, b) =
    let seen = known_rows known rows in
    let or = rise_ordered (point hour) (point hour + 36000) rows (omega arith) h.are_rows.rise in
    let lower = All-weaker (λ (x : Row). x.at < point hour) (λ x. x.at < point (hour + 1)) (λ x l. omega arith) before is.earlier in
    let below = All-weaker (λ (x : Row). x.at < point hour + 36000) (λ x. x.at < point (hour + 1)) (λ x l. omega arith) seen (All-filter (λ (x : Row). known x.at) (λ x. x.at < point hour + 36000) rows (below_end (point hour) (point hour + 36000) rows or)) in
    record {
      earlier = All-append (λ (x : Row). x.at < point (hour + 1)) before seen lower below;
      peds_are = e ∙ a.parts_are ∙ ap (λ u. peds_of known u c (before ++ seen)) (next_point hour);
      preempts_are = f ∙ b.parts_are ∙ ap (λ u. preempts_of known u c (before ++ seen)) (next_point hour);
    }

-- one number's sum, from the table

pub delays_at : (ds : List Delay) (table : List PedSum) (p : ℕ) (s : PedSum) → AreSums (λ d. d.ped) (λ q zs. ped_sum_of zs) 17 ds table → p < 17 → s ≡ with_detector (get_or table p no_ped_sum) s.detector_on s.detector_undecided → HasDelays ds p s
delays_at ds table p s (len, at) lt e = e ∙ ap (λ (z : PedSum). with_detector z s.detector_on s.detector_undecided) (at p no_ped_sum lt)

pub events_at : (es : List PreemptEvent) (table : List PreemptSum) (p : ℕ) (s : PreemptSum) → AreSums (λ e. e.preempt) (λ q zs. preempt_sum_of zs) 17 es table → p < 17 → s ≡ with_states (get_or table p no_preempt_sum) s → HasEvents es p s
events_at es table p s (len, at) lt e = e ∙ ap (λ (z : PreemptSum). with_states z s) (at p no_preempt_sum lt)

-- the hour's numbers, and the tenths of states

pub numbers_are : (known : ℕ → Bool) (c : Settings) (before : List Row) (rows : List Row) (ds : List Delay) (es : List PreemptEvent) (peds : List PedSum) (preempts : List PreemptSum) (coordination : CoordSum) → ds ≡ delays_from known c before (known_rows known rows) → es ≡ events_from known c before (known_rows known rows)
    → EachOf (has_number c.peds) (HasDelays ds) 17 peds → EachOf (has_number c.preempts) (HasEvents es) 17 preempts → (c.coordination ≡ true → HasRows (known_rows known rows) coordination) → (c.coordination ≡ false → coordination ≡ no_coordination)
    → AreNumbers known c before (known_rows known rows) (record { peds = peds; preempts = preempts; coordination = coordination })
numbers_are known c before rows ds es peds preempts coordination ed ee p q r off = record {
  peds = subst (λ (zs : List Delay). EachOf (has_number c.peds) (HasDelays zs) 17 peds) ed p;
  preempts = subst (λ (zs : List PreemptEvent). EachOf (has_number c.preempts) (HasEvents zs) 17 preempts) ee q;
  coordination = r;
  off = off;
}

-- the first tenth of the hour

pub first_is : (c : Settings) (view : HourLog) (rows : List Row) (ss : List Stretch) (log : HourLog) (from : ℕ) → IsSeen c view rows ss log → ((a b : ℕ) → FollowOn a b ss → a < b → from ≡ a) → from ≡ first_tenth log.hour
first_is c view rows ss log from is first =
    let follow = subst (λ (zs : List Stretch). FollowOn (first_tenth log.hour) (end_tenth log.hour) zs) is.same_stretches is.is_view.is_log.is_hour.follow in
    first (first_tenth log.hour) (end_tenth log.hour) follow (omega arith)

-- what is seen of the hour
pub hour_seen : (c : Settings) (s : Seen) (rows : List Row) (ss : List Stretch) (log : HourLog) → IsSeen c s.view.now rows ss log → s.from ≡ first_tenth log.hour → IsSeenOf c s log (first_tenth log.hour)
hour_seen c s rows ss log is from = record { is_view = is.is_view; same_specs = is.same_specs; from = from; is_first = refl }

-- the laws of several hours

delay_alike : (known : ℕ → Bool) (p : ℕ) (before : List Row) (x : Row) (rest more : List Row) → delay_at known p before x rest ≡ delay_at known p before x more
unfolding delay_at
delay_alike known p before x rest more = refl

event_alike : (known : ℕ → Bool) (p : ℕ) (before : List Row) (x : Row) (rest more : List Row) → event_at known p before x rest ≡ event_at known p before x more
unfolding event_at
event_alike known p before x rest more = refl

pub delays_add : (known : ℕ → Bool) (c : Settings) (t b : ℕ) (before rows : List Row) → AreOrdered 0 t before → AreOrdered t b rows → delays_from known c [] (before ++ rows) ≡ delays_from known c [] before ++ delays_from known c before rows
delays_add known c t b before rows ob or = outs_from-append (delay_at known) (has_number c.peds) t b [] before rows (λ earlier x rs ys t b low lt h. delay_alike known x.param earlier x (rs ++ ys) rs) (All-nil (λ z. z.at < t)) (below_end 0 t before ob) or

pub events_add : (known : ℕ → Bool) (c : Settings) (t b : ℕ) (before rows : List Row) → AreOrdered 0 t before → AreOrdered t b rows → events_from known c [] (before ++ rows) ≡ events_from known c [] before ++ events_from known c before rows
events_add known c t b before rows ob or = outs_from-append (event_at known) (has_number c.preempts) t b [] before rows (λ earlier x rs ys t b low lt h. event_alike known x.param earlier x (rs ++ ys) rs) (All-nil (λ z. z.at < t)) (below_end 0 t before ob) or
