-- A list of rows and stretches cut at a place in a known tenth.
use Rattle.std.proofs.Common.{◌≡◌, refl, ap, sym, ◌∙◌, subst, inl, inr, ℕ, ◌+◌, ◌<◌, ◌≤◌, Bool, true, List, [], ◌∷◌, ◌++◌, length, take, drop, take-append-drop, arith}
use Rattle.std.proofs.lemmas.Bool.{cases_eq}
use Rattle.std.proofs.lemmas.List.{drop_at}
use Rattle.sig_base.specs.declared.values.Row.{Row}
use Rattle.gap_map.specs.declared.stretch.Stretch.{Stretch}
use Rattle.gap_map.specs.Stretches.{AreStretches, FollowOn}
use Rattle.gap_map.proofs.Cutting.{nat_cases}
use Rattle.channel_path.specs.declared.moves.Move.{Move}
use Rattle.channel_path.specs.Walks.{InOrder}
use Rattle.channel_path.specs.Places.{limit_of}
use Rattle.board.specs.History.{Event, Track, events_at}
use Rattle.board.specs.Moves.{RowsIn, count_before, own}
use Rattle.board.specs.Places.{since, upto}
use Rattle.board.proofs.Bridge.{cut_rows, late_end}
use Rattle.board.proofs.Cutting.{events_join, known_moves, none_after}
use Rattle.board.proofs.Ordering.{order_join, own_order, rows_order}
use Rattle.board.proofs.Tracks.{Lettered}
use Rattle.signal_log.proofs.Runs.{from_here, from_other, from_place}

-- ---- stretches
pub upto_stretches : (known : ℕ → Bool) (f t x : ℕ) (ss : List Stretch) → AreStretches known f t ss → f ≤ x → x < t → AreStretches known f (x + 1) (upto x ss)
upto_stretches known f t x [] h low high = absurd (omega arith)
upto_stretches known f t x (s ∷ ss) (e, some, same, rest) low high = elim (nat_cases x s.to) [
  | inl (test, lt) ↦ rw test (e, omega arith, (λ y l1 l2. same y l1 (omega arith)), refl)
  | inr (test, ge) ↦ rw test (e, some, same, upto_stretches known s.to t x ss rest ge high)
]

pub since_stretches : (known : ℕ → Bool) (f t x : ℕ) (ss : List Stretch) → AreStretches known f t ss → f ≤ x → x < t → AreStretches known x t (since x ss)
since_stretches known f t x [] h low high = absurd (omega arith)
since_stretches known f t x (s ∷ ss) (e, some, same, rest) low high = elim (nat_cases x s.to) [
  | inl (test, lt) ↦ rw test (refl, lt, (λ y l1 l2. same y (omega arith) l2), rest)
  | inr (test, ge) ↦ rw test (since_stretches known s.to t x ss rest ge high)
]

-- ---- the moves after the place
head_known : (k : Track) (known : ℕ → Bool) (x t : ℕ) (rows : List Row) (ss : List Stretch) → Lettered k → known x ≡ true → x < t → AreStretches known x t ss → RowsIn x t rows → FollowOn x t ss → InOrder k.rules (x + 1) (own k 0 rows ss)
head_known k known x t rows [] lettered is lt h r follow = tt
head_known k known x t rows (s ∷ ss) lettered is lt (e, some, same, rest) r follow =
    let c = count_before s.to rows in
    let held : s.known ≡ true = sym (same x (omega arith) some) ∙ is in
    let (k1, k2, _, _) = cut_rows x s.to t rows (omega arith) (late_end s.to t ss follow.2) r in
    let first = rows_order k x s.to 0 (x + 1) (take c rows) lettered k1 (omega arith) (omega arith) in
    let last = own_order k s.to t (0 + c) (drop c rows) ss lettered follow.2 k2 in
    rw (known_moves k 0 (take c rows) s held) (order_join k.rules (x + 1) s.to _ _ first.0 first.1 last.0)

limit_next : (x t : ℕ) (ms : List Move) → x < t → limit_of x ms ≤ t → limit_of (x + 1) ms ≤ t
limit_next x t [] lt le = omega arith
limit_next x t (m ∷ ms) lt le = le

pub moves_after : (k : Track) (known : ℕ → Bool) (x t : ℕ) (rows : List Row) (ss : List Stretch) → Lettered k → known x ≡ true → x < t → AreStretches known x t ss → FollowOn x t ss → RowsIn x t rows → InOrder k.rules (x + 1) (own k 0 rows ss) × (limit_of (x + 1) (own k 0 rows ss) ≤ t)
moves_after k known x t rows ss lettered is lt h follow r = (
  head_known k known x t rows ss lettered is lt h r follow,
  limit_next x t (own k 0 rows ss) lt (own_order k x t 0 rows ss lettered follow r).1,
)

-- ---- rows
pub later_events : (rows : List Row) (n f x y : ℕ) → RowsIn f (x + 1) (take n rows) → x ≤ y → events_at (drop n rows) y ≡ from_place (events_at rows) x (length (events_at (take n rows) x)) y
later_events rows n f x y early le =
    let j = length (events_at (take n rows) x) in
    let parts : events_at rows y ≡ events_at (take n rows) y ++ events_at (drop n rows) y = ap (λ (zs : List Row). events_at zs y) (sym (take-append-drop n rows)) ∙ events_join (take n rows) (drop n rows) y in
    elim (cases_eq y x) [
      | inl e ↦
          let here : events_at rows x ≡ events_at (take n rows) x ++ events_at (drop n rows) x = subst (λ (z : ℕ). events_at rows z ≡ events_at (take n rows) z ++ events_at (drop n rows) z) e parts in
          rw e (sym (from_here (events_at rows) x j ∙ (ap (λ (es : List Event). drop j es) here ∙ drop_at (events_at (take n rows) x) (events_at (drop n rows) x) j refl)))
      | inr ne ↦ sym (from_other (events_at rows) x j y ne ∙ (parts ∙ ap (λ (es : List Event). es ++ events_at (drop n rows) y) (none_after (take n rows) f (x + 1) y early (omega arith))))
    ]
