-- Entries and exits of a preempt, and what is under way of it.
use Rattle.std.proofs.Common.{◌≡◌, ◌↔◌, ◌+◌, ◌-◌, ◌≤◌, ◌==◌, ℕ, Bool, true, false, ◌&&◌, ◌||◌, ◌⊎◌, List, ◌∷◌, ◌++◌, Option, Some, None, refl, ap, sym, subst, arith, inl, inr}
use Rattle.std.specs.Prelude.{All, MatchOption, option_map}
use Rattle.std.proofs.lemmas.Bool.{and_parts, and_right, both_ways, cases_Bool, eqb-true, ne_eqb, or_left}
use Rattle.std.proofs.lemmas.List.Elements.{All-same}
use Rattle.sig_base.specs.declared.values.Row.{Row}
use Rattle.hour_sweep.specs.Rows.{last_with, live}
use Rattle.hour_sweep.specs.Hours.{AreOrdered}
use Rattle.service_cut.proofs.WholeServices.{LastIs, last_is}
use Rattle.service_cut.proofs.WholeCycles.{front_ordered}
use Rattle.service_cut.proofs.Fitting.{earlier_low}
use Rattle.other_measures.specs.declared.preempts.PreemptPart.{PreemptPart}
use Rattle.other_measures.specs.LastRows.{last_row_of, lapse_of}
use Rattle.other_measures.specs.Preempts.{call_in, call_of, event_at, is_dwell, is_entry, is_exit, is_input, preempt_of}
use Rattle.other_measures.specs.Sums.{delay_in, dwell_in, is_entry_event, is_late_entry, is_late_exit, is_partial, ran}
use Rattle.delay_laws.specs.Standing.{says}
use Rattle.delay_laws.specs.Events.{IsCall, IsEvent, IsPreempt, IsWaiting, is_service}
use Rattle.delay_laws.proofs.Standing.{all_at, known_live, last_row_found, last_row_told, live_known, stands_last}
use Rattle.delay_laws.proofs.Lapses.{partial_is, ran_is}

-- a row has one code
not_entry : (p : ℕ) (r : Row) → says p 111 r ≡ true → says p 105 r ≡ false
not_entry p r e =
    let code : r.code ≡ 111 = eqb-true r.code 111 (and_parts (r.param == p) (r.code == 111) e).1 in
    and_right (r.param == p) (r.code == 105) (ne_eqb r.code 105 (λ f. omega arith))

module _ (known : ℕ → Bool) (p : ℕ) (before : List Row) where
  call_seen : (t : ℕ) (o : Option (Row × List Row)) (x : Row) → LastIs (λ z. says p 102 z || says p 105 z) before o → call_in known t p (option_map (λ f. f.0) o) ≡ Some x → IsCall known t before p x
  unfolding is_input
  call_seen t None x li e = cc
  call_seen t (Some f) x li e =
      elim (cases_Bool (live known f.0.at t && says p 102 f.0)) [
        | inl y ↦
            let both = and_parts (live known f.0.at t) (says p 102 f.0) y in
            let same : f.0 ≡ x = let g : Some f.0 ≡ Some x = rw y at e in cc in
            subst (λ (x : Row). IsCall known t before p x) same
            (f.1, record { to_x = li.0; joined = li.1.joined; passes = both.1; none = li.1.none; all_known = live_known known f.0.at t both.0 })
        | inr n ↦ absurd (let g : None ≡ Some x = rw n at e in cc)
      ]

  call_told : (t : ℕ) (x : Row) → call_of known t p before ≡ Some x → IsCall known t before p x
  unfolding call_of is_input is_entry
  call_told t x e = call_seen t (last_with (λ z. says p 102 z || says p 105 z) before) x (last_is (λ z. says p 102 z || says p 105 z) before) e

  call_found : (t : ℕ) (x : Row) → IsCall known t before p x → call_of known t p before ≡ Some x
  unfolding call_of is_input is_entry
  call_found t x h =
      rw (stands_last (says p 102) (λ z. says p 102 z || says p 105 z) known t before x h.0 (or_left (says p 102 x) (says p 105 x) h.1.passes) h.1, known_live known x.at t h.1.all_known, h.1.passes) refl

  waiting_told : (t : ℕ) (o : Option Row) → call_of known t p before ≡ o → IsWaiting known t before p o
  waiting_told t None e = λ x h. let f = call_found t x h in absurd (cc)
  waiting_told t (Some x) e = call_told t x e

  none_waits : (t : ℕ) (o : Option Row) → call_of known t p before ≡ o → IsWaiting known t before p None → o ≡ None
  none_waits t None e h = refl
  none_waits t (Some x) e h = absurd (h x (call_told t x e))

  waiting_found : (t : ℕ) (o : Option Row) → IsWaiting known t before p o → call_of known t p before ≡ o
  waiting_found t None h = none_waits t (call_of known t p before) refl h
  waiting_found t (Some x) h = call_found t x h

  -- the three kinds of event
  module _ (r : Row) where
    entry_alone : says p 105 r ≡ true → IsWaiting known r.at before p None → IsEvent known p before r p true None true None false
    entry_alone y h =
        let not_exit : says p 111 r ≡ true → ⊥ = λ x. both_ways (says p 105 r) (not_entry p r x) y in
        record {
          number = refl;
          entry = (λ e. y, λ e. refl);
          exit = (λ e. absurd (cc), λ e. absurd (not_exit e));
          delayed = λ n. (λ e. absurd (cc), λ d. absurd (h d.1.0 d.1.1));
          late_entry = (λ e. (y, h), λ e. refl);
          dwelt = λ n. (λ e. absurd (cc), λ d. absurd (not_exit d.0));
          late_exit = (λ e. absurd (cc), λ d. absurd (not_exit d.0));
        }

    entry_after : says p 105 r ≡ true → (x : Row) → x.at ≤ r.at → IsCall known r.at before p x → IsEvent known p before r p true (Some (r.at - x.at)) false None false
    entry_after y x le h =
        let not_exit : says p 111 r ≡ true → ⊥ = λ z. both_ways (says p 105 r) (not_entry p r z) y in
        record {
          number = refl;
          entry = (λ e. y, λ e. refl);
          exit = (λ e. absurd (cc), λ e. absurd (not_exit e));
          delayed = λ n. (
            λ e. let same : r.at - x.at ≡ n = cc in (y, (x, h, omega arith)),
            λ d. let one : d.1.0 ≡ x = let f = call_found r.at d.1.0 d.1.1 in let g = call_found r.at x h in cc in
                let begun : x.at + n ≡ r.at = subst (λ (z : Row). z.at + n ≡ r.at) one d.1.2 in
                let same : r.at - x.at ≡ n = omega arith in ap Some same,
          );
          late_entry = (λ e. absurd (cc), λ d. absurd (d.1 x h));
          dwelt = λ n. (λ e. absurd (cc), λ d. absurd (not_exit d.0));
          late_exit = (λ e. absurd (cc), λ d. absurd (not_exit d.0));
        }

    exited : (a b : ℕ) → says p 111 r ≡ true → AreOrdered a b before → All (λ z. z.at ≤ r.at) before
        → IsEvent known p before r p false None false (ran (lapse_of r.at (last_row_of (is_service p) (says p 107) known r.at before))) (is_partial (lapse_of r.at (last_row_of (is_service p) (says p 107) known r.at before)))
    exited a b y w low =
        let not_entered : says p 105 r ≡ true → ⊥ = λ e. both_ways (says p 105 r) (not_entry p r y) e in
        record {
          number = refl;
          entry = (λ e. absurd (cc), λ e. absurd (not_entered e));
          exit = (λ e. y, λ e. refl);
          delayed = λ n. (λ e. absurd (cc), λ d. absurd (not_entered d.0));
          late_entry = (λ e. absurd (cc), λ d. absurd (not_entered d.0));
          dwelt = λ n. let is = ran_is (is_service p) (says p 107) known r.at before a b w n low in (λ e. (y, is.0 e), λ d. is.1 d.1);
          late_exit = let is = partial_is (is_service p) (says p 107) known r.at before a b w in (λ e. (y, is.0 e), λ d. is.1 d.1);
        }

    call_cases : (o : Option Row) → call_of known r.at p before ≡ o → All (λ z. z.at ≤ r.at) before → ((call_of known r.at p before ≡ None) × IsWaiting known r.at before p None) ⊎ ((x : Row) × (call_of known r.at p before ≡ Some x) × (x.at ≤ r.at) × IsCall known r.at before p x)
    call_cases None e low = inl (e, waiting_told r.at None e)
    call_cases (Some x) e low =
        let P : Row → Type 0 = λ z. z.at ≤ r.at in
        let h = call_told r.at x e in
        inr (x, e, (all_at P h.1.to_x x h.0 (All-same P (h.1.to_x ++ x ∷ h.0) before (sym h.1.joined) low)).0, h)

    pub event_is : (a b : ℕ) (rest : List Row) → AreOrdered a b (before ++ r ∷ rest) → MatchOption (event_at known p before r rest) (is_service p r ≡ false) (λ e. IsEvent known p before r e.preempt (is_entry_event e.event) (delay_in e.event) (is_late_entry e.event) (dwell_in e.event) (is_late_exit e.event))
    unfolding event_at is_entry is_exit is_dwell
    event_is a b rest w =
        let low = earlier_low a b before r rest w in
        elim (cases_Bool (says p 105 r)) [
          | inl y ↦ elim (call_cases (call_of known r.at p before) refl low) [ inl c ↦ rw (y, c.0) (entry_alone y c.1) | inr c ↦ rw (y, c.1) (entry_after y c.0 c.2 c.3) ]
          | inr n ↦ elim (cases_Bool (says p 111 r)) [ inl y ↦ rw (n, y) (exited a b y (front_ordered a b before r rest w) low) | inr m ↦ rw (n, m) refl ]
        ]

  pub preempt_is : (a b t : ℕ) (part : PreemptPart) → AreOrdered a b before → (preempt_of known t before p ≡ part) ↔ IsPreempt known t before p part
  unfolding is_entry is_exit is_dwell
  preempt_is a b t part w = (
    λ e. record {
      number = sym (ap (λ (x : PreemptPart). x.number) e);
      call = waiting_told t part.call (ap (λ (x : PreemptPart). x.call) e);
      service = last_row_told (is_service p) (says p 107) known t before part.service a b w (ap (λ (x : PreemptPart). x.service) e);
    },
    λ h. rw (waiting_found t part.call h.call, last_row_found (is_service p) (says p 107) known t before part.service h.service) (ap (λ n. record { number = n; call = part.call; service = part.service }) (sym h.number)),
  )
