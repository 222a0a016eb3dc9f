-- What is lost, and what isn't, where less of a log is known.
use Rattle.std.proofs.Common.{◌≡◌, inl, inr, ℕ, ◌+◌, ◌<◌, pos, Bool, true, List, length, get_or, arith}
use Rattle.std.proofs.lemmas.Bool.{cases_eq}
use Rattle.sig_base.specs.declared.values.Row.{Row}
use Rattle.sig_base.specs.declared.values.Verdict.TheVariants.{Broken, Idle, Kept}
use Rattle.channel_tables.specs.declared.spec.Spec.{Spec}
use Rattle.reach.specs.Runs.{State, state}
use Rattle.ring_config.specs.declared.items.IntervalItem.{IntervalItem}
use Rattle.board.specs.Channels.{AreSpecs}
use Rattle.board.specs.History.{Agreeing, events_at}
use Rattle.board.proofs.Bridge.{agreeing_join}
use Rattle.board.proofs.Product.{choose}
use Rattle.signal_log.specs.Log.{HasHistory, Log, track_at, window_end}
use Rattle.signal_log.specs.States.{IsCompleted, IsReached, MayBeAfter, MayBeAtEnd}
use Rattle.signal_log.proofs.Runs.{agreeing_known, from_place, from_same, place_join, upto_place, upto_same}
use Rattle.signal_log.proofs.Joined.{after_events, at_end, events_after, history_runs}
use Rattle.rule_audit.specs.Judged.{Closes, IsIntervalVerdict, KeepsInterval}

-- the log with other knowledge
abbrev pub part : Log → (ℕ → Bool) → List Row → Log
part log K R = record { specs = log.specs; hours = log.hours; known = K; rows = R }

-- some history that agrees is in some state before each row of a known tenth, and in some states at its end
pub some_after : (log : Log) (i x j : ℕ) → AreSpecs log.specs → HasHistory log → i < length log.specs → x < window_end log → log.known x ≡ true → (v : State) × MayBeAfter log i x j v
some_after log i x j are has lt small is =
    let k = track_at log i in
    let (u, (s, bw, g)) = (history_runs log are).0 has i lt in
    let (v, g1, g2) = (place_join k log.known (events_at log.rows) 0 x (window_end log) j s u (omega arith) small is).0 g in
    (v, events_after log i x j v are has lt small is (s, bw, g1) (u, g2))

pub some_end : (log : Log) (x : ℕ) → AreSpecs log.specs → HasHistory log → x < window_end log → (v : ℕ → State) × MayBeAtEnd log x v
some_end log x are has small =
    let (ws, _, all) = choose (state 0 (pos 0)) (length log.specs) (λ i z. IsReached log i (x + 1) z × IsCompleted log i (x + 1) z) (λ i lt.
    let k = track_at log i in
    let (u, (s, bw, g)) = (history_runs log are).0 has i lt in
    let (v, g1, g2) = (agreeing_join k log.known (events_at log.rows) 0 (x + 1) (window_end log) s u (omega arith) (omega arith)).0 g in
    (v, ((s, bw, g1), (u, g2)))) in
    let w : ℕ → State = λ i. get_or ws i (state 0 (pos 0)) in
    (w, (at_end log x w are small).1 all)

module _ (more : Log) (K : ℕ → Bool) (R : List Row) (are : AreSpecs more.specs) (known : (t : ℕ) → K t ≡ true → more.known t ≡ true) (rows : (t : ℕ) → K t ≡ true → events_at more.rows t ≡ events_at R t) where
  run_less : (i f t : ℕ) (s u : State) → Agreeing (track_at more i) more.known (events_at more.rows) f t s u → Agreeing (track_at more i) K (events_at R) f t s u
  run_less i f t s u = agreeing_known (track_at more i) more.known K (events_at more.rows) (events_at R) f t s u (λ y l1 l2 is. (known y is, rows y is))

  pub history_less : HasHistory more → HasHistory (part more K R)
  history_less has = (history_runs (part more K R) are).1 (λ i lt.
      let (u, (s, bw, g)) = (history_runs more are).0 has i lt in
      (u, (s, bw, run_less i 0 (window_end more) s u g)))

  pub after_less : (i x j : ℕ) (v : State) → i < length more.specs → x < window_end more → K x ≡ true → MayBeAfter more i x j v → MayBeAfter (part more K R) i x j v
  after_less i x j v lt small is m =
      let k = track_at more i in
      let ((s, bw, g), (u, g2)) = after_events more i x j v lt small (known x is) m in
      events_after (part more K R) i x j v are (history_less (m.0, m.1)) lt small is (
        s,
        bw,
        agreeing_known k more.known K (upto_place (events_at more.rows) x j) (upto_place (events_at R) x j) 0 (x + 1) s v (λ y l1 l2 e. (known y e, upto_same (events_at more.rows) (events_at R) x j y (rows y e))) g,
      ) (
        u,
        agreeing_known k more.known K (from_place (events_at more.rows) x j) (from_place (events_at R) x j) x (window_end more) v u (λ y l1 l2 e. (known y e, from_same (events_at more.rows) (events_at R) x j y (rows y e))) g2,
      )

  pub end_less : (x : ℕ) (v : ℕ → State) → x < window_end more → MayBeAtEnd more x v → MayBeAtEnd (part more K R) x v
  end_less x v small m = (at_end (part more K R) x v are small).1 (λ i lt.
      let ((s, bw, g), (u, g2)) = (at_end more x v are small).0 m i lt in
      ((s, bw, run_less i 0 (x + 1) s (v i) g), (u, run_less i (x + 1) (window_end more) (v i) u g2)))

-- an interval verdict by more states, and by fewer of them
module _ (P Q : State → Type 0) (s : Spec) (r : Row) (item : IntervalItem) (to : (v : State) → Q v → P v) where
  pub broken_fewer : (v : State) → Q v → IsIntervalVerdict Broken P (Closes s r item) (KeepsInterval s r item) → IsIntervalVerdict Broken Q (Closes s r item) (KeepsInterval s r item)
  broken_fewer v q ((w, p, c), none) = (
    (v, q, elim (cases_eq v.colour item.colour) [ inl e ↦ (e, c.1) | inr ne ↦ absurd (none v (to v q) (λ k. absurd (ne k.0))) ]),
    λ z h. none z (to z h),
  )

  pub idle_fewer : IsIntervalVerdict Idle P (Closes s r item) (KeepsInterval s r item) → IsIntervalVerdict Idle Q (Closes s r item) (KeepsInterval s r item)
  idle_fewer h = λ v q c. h v (to v q) c

  pub open_more : IsIntervalVerdict Broken Q (Closes s r item) (KeepsInterval s r item) → (IsIntervalVerdict Idle P (Closes s r item) (KeepsInterval s r item) → ⊥) × (IsIntervalVerdict Kept P (Closes s r item) (KeepsInterval s r item) → ⊥)
  open_more ((v, q, c), none) = ((λ h. h v (to v q) c), λ (_, all). none v q (all v (to v q)))
