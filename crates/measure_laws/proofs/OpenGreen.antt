-- In a cycle that has begun the rows say whether the phase is green.
use Rattle.std.proofs.Common.{◌≡◌, ◌∙◌, ap, sym, subst, inl, inr, ℕ, ◌+◌, ◌<◌, ◌≤◌, Bool, true, false, ◌&&◌, nat_le, nat_lt, Option, Some, None, List, [], ◌∷◌, ◌++◌, length, take, arith}
use Rattle.std.specs.List.{filter}
use Rattle.std.proofs.lemmas.Bool.{cases_Bool, cases_lt}
use Rattle.std.proofs.lemmas.List.{append-nil}
use Rattle.std.proofs.lemmas.List.Elements.{filter-append}
use Rattle.sig_base.specs.declared.values.Row.{Row}
use Rattle.sig_base.proofs.Each.{Each}
use Rattle.event_codes.specs.declared.channels.Channel.{Channel}
use Rattle.channel_tables.specs.Letters.{IsNumber}
use Rattle.board.specs.Channels.{AreSpecs}
use Rattle.board.specs.Logs.{first_tenth, no_spec}
use Rattle.hour_store.specs.Store.{IsStore, Store, is_known, known_rows, rows_of}
use Rattle.hour_sweep.specs.Hours.{AreOrdered, point}
use Rattle.hour_sweep.specs.Rows.{live}
use Rattle.hour_sweep.proofs.Known.{live_lost}
use Rattle.hour_sweep.proofs.Orders.{ordered-append}
use Rattle.reach.specs.Runs.{State}
use Rattle.ring_config.specs.Settings.{Settings, spec_place}
use Rattle.signal_log.specs.Log.{log_of, window_end}
use Rattle.service_cut.specs.declared.items.OpenCycle.{OpenCycle}
use Rattle.service_cut.specs.Cycles.{cycle_begun_in, cycle_begun_of, last_end_from}
use Rattle.service_cut.specs.Parts.{open_cycle_of}
use Rattle.service_cut.specs.Whole.{IsYellowEnd}
use Rattle.service_cut.proofs.WholeCycles.{EndIs, end_is}
use Rattle.service_cut.proofs.YellowEnds.{yellow_is}
use Rattle.arrival_measures.specs.Arrivals.{rows_within}
use Rattle.arrival_measures.specs.Green.{greens, shows_green}
use Rattle.arrival_measures.specs.Own.{turns_green}
use Rattle.arrival_measures.proofs.Own.{filter_less, filter_swap}
use Rattle.arrival_measures.proofs.Parts.{greens_turns}
use Rattle.arrival_measures.specs.Judged.{is_green, phase_channel}
use Rattle.arrival_measures.specs.Travel.{arrivals_at, told}
use Rattle.arrival_measures.proofs.Travels.{at_on, no_turns}
use Rattle.arrival_measures.proofs.Telling.{within-append}
use Rattle.hour_work.specs.Rows.{earlier_rows, own_rows}
use Rattle.hour_work.specs.Measures.{MayBeIn}
use Rattle.hour_work.proofs.ArrivalLaws.{each_known}
use Rattle.hour_work.proofs.ColourLaws.{none_within}
use Rattle.hour_work.proofs.GreenLaws.{IsBegun, each_at, place_channel, place_within, regroup, phase_told}
use Rattle.hour_work.proofs.WholeLog.{all_rows, earlier_ordered, hour_within, own_ordered}
use Rattle.measure_laws.specs.Green.{AreTold}

-- ---- rows that tell the same of a phase

told_turns : (known : ℕ → Bool) (p d v : ℕ) (rows : List Row) → filter (turns_green p) (told known p d v rows) ≡ filter (turns_green p) rows
unfolding told
told_turns known p d v rows =
    let F = turns_green p in
    let vs = arrivals_at known d v rows in
    filter-append F (filter F rows) vs
    ∙ (ap (λ zs. filter F (filter F rows) ++ zs) (no_turns p d vs (at_on known d v rows))
    ∙ (append-nil (filter F (filter F rows)) ∙ filter_less F F (λ x e. e) rows))

within_turns : (p a b : ℕ) (xs ys : List Row) → filter (turns_green p) xs ≡ filter (turns_green p) ys → greens p false (rows_within a b xs) ≡ greens p false (rows_within a b ys)
within_turns p a b xs ys e =
    let F = turns_green p in
    let W : Row → Bool = λ x. nat_le a x.at && nat_lt x.at b in
    sym (greens_turns p false (filter W xs))
    ∙ (ap (λ zs. greens p false zs) (filter_swap F W xs ∙ (ap (λ zs. filter W zs) e ∙ sym (filter_swap F W ys)))
    ∙ greens_turns p false (filter W ys))

pub told_shows : (known : ℕ → Bool) (p a t : ℕ) (rows ts : List Row) → AreTold known p rows ts → shows_green p a ts t ≡ shows_green p a rows t
unfolding shows_green
told_shows known p a t rows ts (inl e) = ap (λ zs. greens p false (rows_within a (t + 1) zs)) e
told_shows known p a t rows ts (inr (d, v, e)) = within_turns p a (t + 1) ts rows (ap (λ zs. filter (turns_green p) zs) e ∙ told_turns known p d v rows)

-- ---- in a history

-- ---- the rows before an hour point, and those after it

record IsUpto (s : Store) (k : ℕ) : Type 0 where
  later : List Row
  parts : known_rows s ≡ earlier_rows s k ++ later
  order : AreOrdered (point k) (point (length s.hours)) later

upto : (s : Store) (k : ℕ) → IsStore s → k ≤ length s.hours → IsUpto s k
upto s k store le = elim (cases_lt k (length s.hours)) [
  | inl lt ↦
      let w = hour_within s k store lt in
      record { later = own_rows s k ++ w.later; parts = w.parts; order = ordered-append (point k) (point (k + 1)) (point (length s.hours)) (own_rows s k) w.later (own_ordered s k store) w.order }
  | inr ge ↦
      let same : length s.hours ≡ k = omega arith in
      record { later = []; parts = sym (all_rows s) ∙ (ap (λ j. earlier_rows s j) same ∙ sym (append-nil (earlier_rows s k))); order = omega arith }
]

-- ---- the cycle that has begun

record IsOpen (known : ℕ → Bool) (p t : ℕ) (before : List Row) (a : ℕ) : Type 0 where
  f : Row
  to_f : List Row
  after : List Row
  joined : before ≡ to_f ++ f ∷ after
  begun : IsYellowEnd known p to_f f
  at : a ≡ f.at
  all_known : (u : ℕ) → f.at ≤ u → u < t → known u ≡ true

live_known : (known : ℕ → Bool) (a t u : ℕ) → live known a t ≡ true → a ≤ u → u < t → known u ≡ true
live_known known a t u l lo hi = elim (cases_Bool (known u)) [
  | inl e ↦ e
  | inr e ↦ absurd (let f : live known a t ≡ false = live_lost known a u t lo hi e in cc)
]

open_in : (known : ℕ → Bool) (p t : ℕ) (before : List Row) (x : OpenCycle) (o : Option (Row × List Row)) → Each (λ z. known z.at ≡ true) before → EndIs known p [] before o → open_cycle_of p (cycle_begun_in known t p o) ≡ Some x → IsOpen known p t before x.from
open_in known p t before x None kb h e = absurd (cc)
open_in known p t before x (Some f) kb h e = elim (cases_Bool (live known f.0.at t)) [
  | inl l ↦
      let e1 = rw l at e in
      let from : x.from ≡ f.0.at = cc in
      let here = each_at (λ (z : Row). known z.at ≡ true) h.0 f.0 f.1 (subst (λ (zs : List Row). Each (λ z. known z.at ≡ true) zs) h.1 kb) in
      record {
        f = f.0;
        to_f = h.0;
        after = f.1;
        joined = h.1;
        begun = yellow_is known p h.0 f.0 here h.2;
        at = from;
        all_known = λ u lo hi. live_known known f.0.at t u l lo hi;
      }
  | inr l ↦ absurd (let e1 : None ≡ Some x = rw l at e in cc)
]

open_is : (known : ℕ → Bool) (p t : ℕ) (before : List Row) (x : OpenCycle) → Each (λ z. known z.at ≡ true) before → open_cycle_of p (cycle_begun_of known t p before) ≡ Some x → IsOpen known p t before x.from
unfolding cycle_begun_of
open_is known p t before x kb e = open_in known p t before x (last_end_from known p [] before) kb (end_is known p [] before) e

-- what its rows say of its phase is so in each history
pub open_shows : (c : Settings) (s : Store) (k p i t : ℕ) (x : OpenCycle) → AreSpecs c.specs → IsStore s → k ≤ length s.hours → spec_place c.specs (phase_channel p) ≡ Some i → open_cycle_of p (cycle_begun_of (is_known s) (first_tenth k) p (earlier_rows s k)) ≡ Some x → x.from ≤ t → t < first_tenth k → (v : State) → MayBeIn c s i t v → is_green v.colour ≡ shows_green p x.from (earlier_rows s k) t
unfolding shows_green
open_shows c s k p i t x specs store le place is_open low high v (h, agrees, ends) =
    let known = is_known s in
    let before = earlier_rows s k in
    let log = log_of c.specs s in
    let end = point (length s.hours) in
    let w = upto s k store le in
    let is = open_is known p (first_tenth k) before x (each_known known (rows_of (take k s.hours))) is_open in
    let y = is.begun in
    let f = is.f in
    let at = is.at in
    let begun : IsBegun p (known_rows s) = record {
      y = y.y;
      f = f;
      to_y = y.to_y;
      from_y = y.from_y;
      later = is.after ++ w.later;
      joined = w.parts ∙ (ap (λ zs. zs ++ w.later) (is.joined ∙ ap (λ zs. zs ++ f ∷ is.after) y.joined) ∙ regroup y.to_y y.y y.from_y f is.after w.later);
      y_is = y.y_is;
      none = y.none;
    } in
    let order : AreOrdered 0 end (known_rows s) = subst (λ (zs : List Row). AreOrdered 0 end zs) (all_rows s) (earlier_ordered s (length s.hours) store (omega arith)) in
    let channel = place_channel c p i place in
    let number = subst (λ (z : Channel). IsNumber z.kind z.number) channel (specs.numbered i no_spec (place_within c p i place)) in
    let from : f.at ≤ t = omega arith in
    let within : t < window_end log = omega arith in
    let all_known : (u : ℕ) → y.y.at ≤ u → u ≤ t → known u ≡ true = λ u lo hi. elim (cases_lt u f.at) [ inl less ↦ y.all_known u lo (omega arith) | inr more ↦ is.all_known u more (omega arith) ] in
    let only : rows_within f.at (t + 1) (known_rows s) ≡ rows_within f.at (t + 1) before =
    ap (λ zs. rows_within f.at (t + 1) zs) w.parts
    ∙ (within-append f.at (t + 1) before w.later
    ∙ (ap (λ zs. rows_within f.at (t + 1) before ++ zs) (none_within f.at (t + 1) (point k) end w.later (omega arith) w.order)
    ∙ append-nil (rows_within f.at (t + 1) before))) in
    phase_told log h agrees i p 0 end channel number.0 number.1 order begun t v from within all_known ends
    ∙ (ap (λ zs. greens p false zs) only
    ∙ ap (λ (n : ℕ). greens p false (rows_within n (t + 1) before)) (sym at))
