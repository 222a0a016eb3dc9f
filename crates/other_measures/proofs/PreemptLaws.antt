-- What the part of one preempt owes to the pass over an hour.
use Rattle.std.proofs.Common.{◌≡◌, ◌≢◌, ℕ, ◌<◌, ◌≤◌, Bool, true, false, ◌||◌, cond, List, [], ◌∷◌, ◌++◌, Option, Some, None, refl, ◌∙◌, arith}
use Rattle.std.specs.Prelude.{All, option_map}
use Rattle.std.proofs.lemmas.Bool.{ne_eqb, or_from}
use Rattle.sig_base.specs.declared.values.Row.{Row}
use Rattle.hour_sweep.specs.Rows.{last_with, last, since, live}
use Rattle.hour_sweep.specs.Numbers.{AreTracks}
use Rattle.hour_sweep.proofs.Places.{last-push, AllLast, last_with_all}
use Rattle.hour_sweep.proofs.Known.{live_here, live_same, live_lost}
use Rattle.other_measures.specs.declared.preempts.PreemptPart.{PreemptPart}
use Rattle.other_measures.specs.Preempts.{is_input, is_entry, is_dwell, is_exit, call_in, call_of, preempt_of, event_at}
use Rattle.other_measures.specs.Steps.{call_after, preempt_after, preempt_cleared, event_by}
use Rattle.other_measures.proofs.LastRows.{last_row_push, last_row_same, last_row_lost, row_passed}

other_input : (p : ℕ) (x : Row) → x.param ≢ p → is_input p x ≡ false
unfolding is_input
other_input p x ne = rw (ne_eqb x.param p ne) refl

other_entry : (p : ℕ) (x : Row) → x.param ≢ p → is_entry p x ≡ false
unfolding is_entry
other_entry p x ne = rw (ne_eqb x.param p ne) refl

other_dwell : (p : ℕ) (x : Row) → x.param ≢ p → is_dwell p x ≡ false
unfolding is_dwell
other_dwell p x ne = rw (ne_eqb x.param p ne) refl

other_exit : (p : ℕ) (x : Row) → x.param ≢ p → is_exit p x ≡ false
unfolding is_exit
other_exit p x ne = rw (ne_eqb x.param p ne) refl

call_passed : (a b : Bool) (x : Row) (o : Option Row) → a ≡ false → b ≡ false → call_after a b x o ≡ o
call_passed false false x o e f = refl
call_passed true b x o e f = absurd (cc)
call_passed false true x o e f = absurd (cc)

-- one more row

call_pushed : (known : ℕ → Bool) (t p : ℕ) (i e : Bool) (x : Row) (o : Option Row) → is_input p x ≡ i → live known x.at t ≡ true → call_in known t p (cond (i || e) (Some x) o) ≡ call_after i e x (call_in known t p o)
call_pushed known t p true e x o is l = rw (l, is) refl
call_pushed known t p false true x o is l = rw (l, is) refl
call_pushed known t p false false x o is l = refl

call_push : (known : ℕ → Bool) (p : ℕ) (before : List Row) (x : Row) → call_of known x.at p (before ++ x ∷ []) ≡ call_after (is_input p x) (is_entry p x) x (call_of known x.at p before)
unfolding call_of
call_push known p before x =
    rw (last-push (λ z. is_input p z || is_entry p z) before x) (call_pushed known x.at p (is_input p x) (is_entry p x) x (last (λ z. is_input p z || is_entry p z) before) refl (live_here known x.at x.at (omega arith)))

-- one more known tenth, and an unknown one

call_in_same : (known : ℕ → Bool) (t u p : ℕ) (o : Option Row) → since known t ≡ since known u → call_in known t p o ≡ call_in known u p o
call_in_same known t u p None e = refl
call_in_same known t u p (Some x) e = rw (live_same known x.at t u e) refl

call_same : (known : ℕ → Bool) (t u p : ℕ) (before : List Row) → since known t ≡ since known u → call_of known t p before ≡ call_of known u p before
unfolding call_of
call_same known t u p before e = call_in_same known t u p (last (λ z. is_input p z || is_entry p z) before) e

call_in_lost : (known : ℕ → Bool) (k t p : ℕ) (o : Option (Row × List Row)) → AllLast (λ x. x.at ≤ k) o → k < t → known k ≡ false → call_in known t p (option_map (λ f. f.0) o) ≡ None
call_in_lost known k t p None h lt u = refl
call_in_lost known k t p (Some f) h lt u = rw (live_lost known f.0.at k t h.0 lt u) refl

call_lost : (known : ℕ → Bool) (k t p : ℕ) (before : List Row) → All (λ x. x.at ≤ k) before → k < t → known k ≡ false → call_of known t p before ≡ None
unfolding call_of
call_lost known k t p before h lt u = call_in_lost known k t p (last_with (λ z. is_input p z || is_entry p z) before) (last_with_all (λ x. x.at ≤ k) (λ z. is_input p z || is_entry p z) before h) lt u

event_now : (known : ℕ → Bool) (p : ℕ) (before : List Row) (x : Row) (rest : List Row) → event_at known p before x rest ≡ event_by x (preempt_of known x.at before p)
unfolding event_at
event_now known p before x rest = refl

preempt_push : (known : ℕ → Bool) (p : ℕ) (before : List Row) (x : Row) → preempt_of known x.at (before ++ x ∷ []) p ≡ preempt_after x (preempt_of known x.at before p)
preempt_push known p before x = rw (call_push known p before x, last_row_push (λ z. is_entry p z || is_exit p z) (is_dwell p) known before x) refl

preempt_passed : (x : Row) (a : PreemptPart) → x.param ≢ a.number → preempt_after x a ≡ a
preempt_passed x a ne =
    rw (
      call_passed (is_input a.number x) (is_entry a.number x) x a.call (other_input a.number x ne) (other_entry a.number x ne),
      row_passed (is_entry a.number x || is_exit a.number x) (is_dwell a.number x) x a.service (or_from (is_entry a.number x) (is_exit a.number x) (other_entry a.number x ne) (other_exit a.number x ne)) (other_dwell a.number x ne),
    ) refl

pub preempt_tracks : (known : ℕ → Bool) → AreTracks known (preempt_of known) preempt_after preempt_cleared (event_at known) event_by
preempt_tracks known = record {
  push = λ before x low. preempt_push known x.param before x;
  other = λ p before x low ne. preempt_push known p before x ∙ preempt_passed x (preempt_of known x.at before p) ne;
  on = λ t u p before e. rw (call_same known t u p before e, last_row_same (λ z. is_entry p z || is_exit p z) (is_dwell p) known t u before e) refl;
  lost = λ k t u p before h lt e. rw (call_lost known k u p before h lt e, last_row_lost (λ z. is_entry p z || is_exit p z) (is_dwell p) known k u before h lt e) refl;
  now = λ before x rest low. event_now known x.param before x rest;
}
