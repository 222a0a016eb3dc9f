-- Walks over the moves of rows with other numbers.
use Rattle.std.proofs.Common.{ℕ, List}
use Rattle.colour_machine.specs.Rules.{Rules}
use Rattle.reach.specs.Runs.{State}
use Rattle.channel_path.specs.declared.moves.Move.{Move}
use Rattle.channel_path.specs.Walks.{Walk}
use Rattle.decisive.specs.Moves.{NoneKeepsFrom}

pub none_from : (m : Rules) (t : ℕ) (xs xs2 : List Move) (K : State → Type 0) (ys ys2 : List Move) → ((s u : State) → Walk m xs2 s u → Walk m xs s u) → ((s u : State) → Walk m ys2 s u → Walk m ys s u) → NoneKeepsFrom m t xs K ys → NoneKeepsFrom m t xs2 K ys2
none_from m t xs xs2 K ys ys2 one two none s v u f w k r = none s v u f (one s v w) k (two v u r)
