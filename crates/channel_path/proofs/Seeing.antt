-- What is seen at a place between two moves.
use Rattle.std.proofs.Common.{◌≡◌, ap, ℕ, ◌+◌, ◌≤◌, ℤ, pos, ◌≤ℤ◌, List, [], ◌∷◌, take, drop, arith, Option}
use Rattle.std.proofs.lemmas.Int.{ints}
use Rattle.span_set.specs.declared.set.Span.{Span}
use Rattle.colour_machine.specs.Rules.{Rules}
use Rattle.reach.specs.Runs.{State}
use Rattle.reach.specs.Tests.{IsPossible, Sees}
use Rattle.reach.specs.declared.seen.Test.{Test}
use Rattle.reach.specs.declared.seen.Seen.{Seen}
use Rattle.reach.proofs.Later.{then_iff}
use Rattle.channel_path.specs.declared.moves.Move.{Move}
use Rattle.channel_path.specs.Walks.{InOrder, EnteredBefore}
use Rattle.channel_path.specs.Places.{EntersBefore, IsBetween, PathLog, limit_of, TakesFrom, Passes, SeesPassing}
use Rattle.channel_path.proofs.Moving.{walk_early, order_take}

begins_late : (at : ℕ) (t : ℤ) (xs : List Move) (s : State) → TakesFrom (at + 1) xs → t ≡ pos at → s.entry ≤ℤ t → EntersBefore xs s
begins_late at t [] s b e k = tt
begins_late at t (x ∷ xs) s b e k = omega (arith, ints)

-- where a Past and an Ahead have the states of the place together, they see what its runs say
pub sees_between : (m : Rules) (low at : ℕ) (before : List (List Span)) (after : List (Option ℤ)) (moves : List Move) (j : ℕ) (past : List (List Span)) (ahead : List (Option ℤ)) (test : Test) (seen : Seen) → IsBetween m before after (take j moves) (drop j moves) past ahead → EnteredBefore before low → InOrder m low moves → limit_of low (take j moves) ≤ at + 1 → TakesFrom (at + 1) (drop j moves) → test.at ≡ pos at → Sees past ahead test seen → SeesPassing m before after (take j moves) (drop j moves) test seen
sees_between m low at before after moves j past ahead test seen both early order e b same sees =
    let to = λ (v : State) (p : IsPossible past ahead test.at v). (both.1 v (begins_late at test.at (drop j moves) v b same p.1)).0 (p.0, p.2) in
    let from : (v : State) → Passes m before after (take j moves) (drop j moves) v → IsPossible past ahead test.at v = λ v p.
    let (s, hs, w) = p.0 in
    let k = walk_early m low (take j moves) s v (order_take m low j moves order) w (early s hs) in
    let le : v.entry ≤ℤ test.at = omega (arith, ints) in
    let held = (both.1 v (begins_late at test.at (drop j moves) v b same le)).1 p in
    (held.0, le, held.1) in
    record {
      some_true = then_iff sees.some_true ((λ (v, p, t). (v, to v p, t)), (λ (v, p, t). (v, from v p, t)));
      some_false = then_iff sees.some_false ((λ (v, p, t). (v, to v p, t)), (λ (v, p, t). (v, from v p, t)));
    }

-- equal paths have equal parts
pub same_moves : {M : Type 0} {a b : PathLog M} → a ≡ b → a.moves ≡ b.moves
same_moves e = ap (λ l. l.moves) e
