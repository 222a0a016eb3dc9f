use Rattle.std.proofs.Common.{◌↔◌, ◌<◌, ℕ, IsTrue, get_or, [], None}
use Rattle.reach.specs.Tests.{SeenTrue, SeenFalse}
use Rattle.reach.proofs.seen.seen_in.Given as goal

abbrev pub invariant-loop-colour : goal.invariant-loop-colour
invariant-loop-colour l =
    (IsTrue l.seen.some_true ↔ ((c : ℕ) × (c < l.colour) × SeenTrue (get_or l.sets c []) (get_or l.latest c None) c l.test))
    × (IsTrue l.seen.some_false ↔ ((c : ℕ) × (c < l.colour) × SeenFalse (get_or l.sets c []) (get_or l.latest c None) c l.test))
