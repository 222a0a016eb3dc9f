-- A way over a place between moves.
use Rattle.std.proofs.Common.{◌≡◌, ap, ◌∙◌, ◌↔◌, ℕ, ◌+◌, ◌≤◌, ◌^◌, ℤ, pos, negsuc, ◌<ℤ◌, List, [], ◌∷◌, ◌++◌, Option, Bool, arith}
use Rattle.std.proofs.lemmas.Int.{ints}
use Rattle.span_set.specs.declared.set.Span.{Span}
use Rattle.colour_machine.specs.Rules.{Rules}
use Rattle.gap_ways.specs.declared.states.Fill.{Fill}
use Rattle.gap_ways.specs.declared.states.Entered.{Entered}
use Rattle.reach.specs.Runs.{State}
use Rattle.channel_ways.specs.declared.passage.Passing.{Passing}
use Rattle.reach.specs.Past.{Holds}
use Rattle.reach.specs.Ahead.{Admits}
use Rattle.reach.specs.Tests.{IsPossible}
use Rattle.gap_ways.specs.Choices.{Answers, IsAnswer}
use Rattle.reach.specs.declared.seen.Test.{Test}
use Rattle.gap_ways.specs.Ways.{state_of, NoneOlder}
use Rattle.channel_path.specs.declared.moves.Move.{Move}
use Rattle.channel_path.specs.Walks.{InOrder, AfterMoves, BeforeMoves, EnteredBefore}
use Rattle.channel_path.specs.Places.{EntersBefore, Passes, TakesFrom, limit_of}
use Rattle.channel_ways.specs.Moves.{IsPassage, NonePasses, PassesAlone, AddedMoves, AddedThrough}
use Rattle.channel_path.proofs.Moving.{walk_early}
use Rattle.channel_ways.proofs.Running.{walk_late}

takes_order : (m : Rules) (low n : ℕ) (xs : List Move) → TakesFrom n xs → InOrder m low xs → InOrder m n xs
takes_order m low n [] t o = tt
takes_order m low n (x ∷ xs) t o = (t, o.1, o.2)

enters : (n : ℕ) (xs : List Move) (s : State) → TakesFrom n xs → s.entry <ℤ pos n → EntersBefore xs s
enters n [] s t e = tt
enters n (x ∷ xs) s t e = omega (arith, ints)

module _ (m : Rules) (before past : List (List Span)) (after ahead : List (Option ℤ)) (xs ys : List Move) (test : Test)
    (p : IsPassage m before xs ys test.at)
    (is : (u : State) → Holds past u ↔ AfterMoves m before xs u)
    (can : (s : State) → Admits ahead s ↔ (EntersBefore ys s × BeforeMoves m after ys s)) where
  place_early : (v : State) → AfterMoves m before xs v → v.entry <ℤ pos (p.tenth + 1)
  place_early v (s, h, w) = let e = walk_early m p.low xs s v p.order w (p.early s h) in let l = p.last in omega (arith, ints)

  pub is_possible : (v : State) → Passes m before after xs ys v → IsPossible past ahead test.at v
  is_possible v (a, b) = let e = place_early v a in let q = p.same in ((is v).1 a, omega (arith, ints), (can v).1 (enters (p.tenth + 1) ys v p.takes e, b))

  pub none_passes : (met : Bool) → ((s : State) → IsAnswer past ahead met test s → ⊥) → NonePasses m before after xs ys met test
  none_passes met none v q a = none v (is_possible v q, a)

  pub passes : (v : State) → IsPossible past ahead test.at v → Passes m before after xs ys v
  passes v (h, le, a) = ((is v).0 h, ((can v).0 a).1)

  pub past_older : NoneOlder past
  past_older v h = let (s, hs, w) = (is v).0 h in walk_late m (negsuc (2 ^ 39)) xs s v w (omega (arith, ints)) (p.none_older s hs)

-- the state that stands alone at the place, and what is known there
module _ (m : Rules) (before : List (List Span)) (after : List (Option ℤ)) (xs ys : List Move) (met : Bool) (test : Test)
    (p : IsPassage m before xs ys test.at)
    (one : Passing) (q : PassesAlone m before after xs ys met test one) where
  one_early : (s : State) → Holds one.only s → s.entry <ℤ pos (p.tenth + 1)
  one_early s h =
      let same : s.entry ≡ one.state.entry = ap (λ (x : State). x.entry) ((q.4 s).0 h) in
      let le = q.2 in let e = p.same in omega (arith, ints)

  pub one_order : (low : ℕ) × EnteredBefore one.only low × InOrder m low ys
  one_order = (p.tenth + 1, one_early, takes_order m 0 (p.tenth + 1) ys p.takes p.onward)

  pub one_soon : (low : ℕ) × EnteredBefore one.only low × InOrder m low ys × (limit_of low ys ≤ 2 ^ 38)
  one_soon = (p.tenth + 1, one_early, takes_order m 0 (p.tenth + 1) ys p.takes p.onward, p.end)

  pub one_older : NoneOlder one.only
  one_older s h =
      let (z, hz, w) = q.0.0 in
      let k = walk_late m (negsuc (2 ^ 39)) xs z (state_of one.state) w (omega (arith, ints)) (p.none_older z hz) in
      let same : s.entry ≡ one.state.entry = ap (λ (x : State). x.entry) ((q.4 s).0 h) in
      omega (arith, ints)

-- nothing passes where the moves stop
pub stop_passes : (m : Rules) (before : List (List Span)) (after : List (Option ℤ)) (xs ys : List Move) (met : Bool) (test : Test) → ((u : State) → AfterMoves m before xs u → ⊥) → NonePasses m before after xs ys met test
stop_passes m before after xs ys met test none = λ v (a, b) k. none v a

pub through : (m : Rules) (xs ys : List Move) (after : List (Option ℤ)) (met : Bool) (test : Test) (old mid new : List Fill) (s v u : Entered) → Answers met test (state_of v) → Admits after (state_of u) → AddedMoves m ys old mid v u → AddedMoves m xs mid new s v → AddedThrough m xs ys after met test old new s
through m xs ys after met test old mid new s v u a k (gs, e, w) (hs, q, r) = (v, u, a, k, (gs, hs, q ∙ ap (λ (z : List Fill). z ++ hs) e, r, w))
