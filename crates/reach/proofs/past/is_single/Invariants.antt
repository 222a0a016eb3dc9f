use Rattle.std.proofs.Common.{◌≡◌, ◌<◌, ℕ, [], get_or}
use Rattle.reach.specs.Single.{sets_of}
use Rattle.reach.proofs.past.is_single.Given as goal

abbrev pub invariant-loop-colour : goal.invariant-loop-colour
invariant-loop-colour l = (k : ℕ) → k < l.colour → get_or l.sets k [] ≡ get_or (sets_of l.one) k []
