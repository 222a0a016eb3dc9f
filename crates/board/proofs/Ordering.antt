-- The moves of a channel stand in order.
use Rattle.std.proofs.Common.{◌≡◌, refl, inl, inr, ℕ, ◌+◌, ◌<◌, ◌≤◌, List, [], ◌∷◌, ◌++◌, take, drop, arith, Option, Some, None}
use Rattle.std.proofs.lemmas.Bool.{cases_Bool}
use Rattle.colour_machine.specs.Rules.{Rules}
use Rattle.channel_path.specs.declared.moves.Move.{Move}
use Rattle.channel_path.specs.Walks.{limit_after, InOrder}
use Rattle.channel_path.specs.Places.{limit_of}
use Rattle.sig_base.specs.declared.values.Row.{Row}
use Rattle.gap_map.specs.declared.stretch.Stretch.{Stretch}
use Rattle.channel_path.proofs.Moving.{earlier_low}
use Rattle.board.proofs.Tracks.{Lettered}
use Rattle.board.proofs.Bridge.{cut_rows, late_end}
use Rattle.gap_map.specs.Stretches.{FollowOn}
use Rattle.board.specs.History.{Track}
use Rattle.board.specs.Moves.{RowsIn, count_before, letter_moves, own, stretch_moves, with_letter}

pub end_low : (a b t : ℕ) (xs : List Move) → a ≤ b → limit_of b xs ≤ t → limit_of a xs ≤ t
end_low a b t [] h e = omega arith
end_low a b t (x ∷ xs) h e = e

pub order_join : (m : Rules) (low t : ℕ) (xs ys : List Move) → InOrder m low xs → limit_of low xs ≤ t → InOrder m t ys → InOrder m low (xs ++ ys)
order_join m low t [] ys o e p = earlier_low m low t ys e p
order_join m low t (x ∷ xs) ys o e p = (o.0, o.1, order_join m (limit_after x) t xs ys o.2 e p)

pub end_join : (low t : ℕ) (xs ys : List Move) → limit_of low (xs ++ ys) ≡ limit_of (limit_of low xs) ys
end_join low t [] ys = refl
end_join low t (x ∷ xs) ys = end_join (limit_after x) t xs ys

with_order : (k : Track) (o : Option ℕ) (low at t i : ℕ) (ms : List Move) → ((l : ℕ) → o ≡ Some l → l < k.rules.letters) → low ≤ at + 1 → InOrder k.rules low ms × (limit_of low ms ≤ t) → InOrder k.rules (at + 1) ms × (limit_of (at + 1) ms ≤ t) → InOrder k.rules low (with_letter o at i ms) × (limit_of low (with_letter o at i ms) ≤ t)
with_order k None low at t i ms small h p q = p
with_order k (Some l) low at t i ms small h p q = ((h, small l refl, q.0), q.1)

-- the letters of rows are in order
pub rows_order : (k : Track) (f t i low : ℕ) (rs : List Row) → Lettered k → RowsIn f t rs → low ≤ f + 1 → low ≤ t → InOrder k.rules low (letter_moves k i rs) × (limit_of low (letter_moves k i rs) ≤ t)
rows_order k f t i low [] small h a b = (tt, b)
rows_order k f t i low (r ∷ rs) small h a b =
    let h0 = h.0 in let h1 = h.1 in
    with_order k (k.letter r.code r.param) low r.at t i (letter_moves k (i + 1) rs) (λ l e. small r.code r.param l e) (omega arith) (rows_order k r.at t (i + 1) low rs small h.2 (omega arith) b) (rows_order k r.at t (i + 1) (r.at + 1) rs small h.2 (omega arith) (omega arith))

pub part_order : (k : Track) (f i : ℕ) (rs : List Row) (s : Stretch) → Lettered k → s.from ≡ f → f < s.to → RowsIn f s.to rs → InOrder k.rules f (stretch_moves k i rs s) × (limit_of f (stretch_moves k i rs s) ≤ s.to)
part_order k f i rs s small e lt h = elim (cases_Bool s.known) [
  | inl is_known ↦ rw is_known (rows_order k f s.to i f rs small h (omega arith) (omega arith))
  | inr not_known ↦ rw not_known (((omega arith), (omega arith), tt), omega arith)
]

-- the moves of the channel are in order, and end with the stretches
pub own_order : (k : Track) (f t i : ℕ) (rows : List Row) (ss : List Stretch) → Lettered k → FollowOn f t ss → RowsIn f t rows → InOrder k.rules f (own k i rows ss) × (limit_of f (own k i rows ss) ≤ t)
own_order k f t i rows [] small e h = (tt, omega arith)
own_order k f t i rows (s ∷ ss) small h r =
    let c = count_before s.to rows in
    let lt = h.1 in
    let end = late_end s.to t ss h.2 in
    let (k1, k2, _, _) = cut_rows f s.to t rows (omega arith) end r in
    let one = part_order k f i (take c rows) s small h.0 lt k1 in
    let two = own_order k s.to t (i + c) (drop c rows) ss small h.2 k2 in
    (order_join k.rules f s.to (stretch_moves k i (take c rows) s) (own k (i + c) (drop c rows) ss) one.0 one.1 two.0, rw (end_join f t (stretch_moves k i (take c rows) s) (own k (i + c) (drop c rows) ss)) (end_low (limit_of f (stretch_moves k i (take c rows) s)) s.to t (own k (i + c) (drop c rows) ss) one.1 two.1))
