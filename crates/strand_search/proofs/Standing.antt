-- A state that stands alone, and where moves lead it.
use Rattle.std.proofs.Common.{◌≡◌, sym, ap, subst, ℕ, ◌+◌, ◌≤◌, ◌^◌, ℤ, pos, negsuc, ◌≤ℤ◌, List, [], ◌∷◌, ◌++◌, reverse, arith}
use Rattle.std.proofs.lemmas.Int.{ints}
use Rattle.std.proofs.lemmas.List.{reverse-append, reverse-reverse}
use Rattle.colour_machine.specs.Rules.{Rules}
use Rattle.reach.specs.Runs.{State}
use Rattle.channel_path.specs.declared.moves.Move.{Move}
use Rattle.channel_path.specs.declared.moves.Move.TheVariants.{Letter, Gap}
use Rattle.channel_path.specs.Walks.{AfterMoves, EnteredBefore, InOrder}
use Rattle.channel_path.specs.Places.{limit_of}
use Rattle.channel_path.proofs.Moving.{walk_early}
use Rattle.gap_ways.specs.declared.states.Fill.{Fill}
use Rattle.gap_ways.specs.declared.states.Entered.{Entered}
use Rattle.gap_ways.specs.Ways.{NoneOlder, Way, state_of}
use Rattle.channel_ways.specs.declared.passage.Passing.{Passing}
use Rattle.channel_ways.specs.Moves.{AddedMoves, Filled}
use Rattle.channel_ways.proofs.Running.{walk_late}
use Rattle.strand_search.specs.Events.{AreLettersOf}
use Rattle.strand_search.specs.Parts.{GoOn, StandsAlone}

alone_before : (m : Rules) (low : ℕ) (here : Passing) → StandsAlone m low here → EnteredBefore here.only low
alone_before m low here one s h = let e : s.entry ≡ here.state.entry = ap (λ (x : State). x.entry) ((one.alone s).0 h) in let lt = one.early in omega (arith, ints)

alone_older : (m : Rules) (low : ℕ) (here : Passing) → StandsAlone m low here → NoneOlder here.only
alone_older m low here one s h = let e : s.entry ≡ here.state.entry = ap (λ (x : State). x.entry) ((one.alone s).0 h) in let le = one.late in omega (arith, ints)

pub ends_late : (m : Rules) (low : ℕ) (here : Passing) (xs : List Move) (u : State) → StandsAlone m low here → AfterMoves m here.only xs u → negsuc (2 ^ 39) ≤ℤ u.entry
ends_late m low here xs u one (s, h, w) = walk_late m (negsuc (2 ^ 39)) xs s u w (omega (arith, ints)) (alone_older m low here one s h)

pub ends_soon : (m : Rules) (low : ℕ) (here : Passing) (xs : List Move) (u : State) → StandsAlone m low here → GoOn m low xs → AfterMoves m here.only xs u → u.entry ≤ℤ pos (2 ^ 39)
ends_soon m low here xs u one (order, end) (s, h, w) = let e = walk_early m low xs s u order w (alone_before m low here one s h) in omega (arith, ints)

-- ---- the letters of moves
limit_up : (m : Rules) (low : ℕ) (xs : List Move) → InOrder m low xs → low ≤ limit_of low xs
limit_up m low [] o = omega arith
limit_up m low (Letter at l r ∷ xs) (a, b, o) = let q = limit_up m (at + 1) xs o in omega arith
limit_up m low (Gap f t ∷ xs) (a, b, o) = let q = limit_up m t xs o in omega arith

fit_join : (m : Rules) (xs ys : List Fill) → AreLettersOf m xs → AreLettersOf m ys → AreLettersOf m (xs ++ ys)
fit_join m [] ys a b = b
fit_join m (x ∷ xs) ys (l, p, q, a) b = (l, p, q, fit_join m xs ys a b)

pub fit_reverse : (m : Rules) (xs : List Fill) → AreLettersOf m xs → AreLettersOf m (reverse xs)
fit_reverse m [] a = tt
fit_reverse m (x ∷ xs) (l, p, q, a) = subst (λ (z : List Fill). AreLettersOf m z) (sym (reverse-append (x ∷ []) xs)) (fit_join m (reverse xs) (x ∷ []) (fit_reverse m xs a) (l, p, q, tt))

way_fits : (m : Rules) (f : ℤ) (t : ℕ) (s u : State) (fs : List Fill) → pos 0 ≤ℤ f → t ≤ 2 ^ 32 → Way m f (pos t) s fs u → AreLettersOf m fs
way_fits m f t s u [] low high w = tt
way_fits m f t s u (x ∷ xs) low high (a, b, (v, ((c, l, n), step), w)) = (l, omega (arith, ints), omega (arith, ints), way_fits m x.at t v u xs (omega (arith, ints)) high w)

moves_fit : (m : Rules) (low : ℕ) (xs : List Move) (fs : List Fill) (s u : State) → InOrder m low xs → limit_of low xs ≤ 2 ^ 32 → Filled m xs fs s u → AreLettersOf m fs
moves_fit m low [] fs s u o le (e, w) = rw e tt
moves_fit m low (Letter at l r ∷ xs) fs s u (a, b, o) le (hs, bs, e, (v, (none, step), w)) = rw (e, none) (moves_fit m (at + 1) xs bs v u o le w)
moves_fit m low (Gap f t ∷ xs) fs s u (a, b, o) le (hs, bs, e, (v, (few, way), w)) = rw e (fit_join m hs bs (way_fits m (pos f) t s v hs (omega (arith, ints)) (let q = limit_up m t xs o in omega arith) way) (moves_fit m t xs bs v u o le w))

pub added_fit : (m : Rules) (low : ℕ) (xs : List Move) (letters : List Fill) (s u : Entered) → InOrder m low xs → limit_of low xs ≤ 2 ^ 32 → AddedMoves m xs [] letters s u → AreLettersOf m letters
added_fit m low xs letters s u o le (gs, e, w) =
    let there = fit_reverse m (reverse gs) (moves_fit m low xs (reverse gs) (state_of s) (state_of u) o le w) in
    rw e (subst (λ (z : List Fill). AreLettersOf m z) (reverse-reverse gs) there)
