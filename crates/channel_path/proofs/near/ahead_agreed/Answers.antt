use Rattle.std.proofs.Common.{arith, rules, ◌≡◌, ◌-◌, pos, length, get_or, w64}
use Rattle.std.specs.Prelude.{FitsSigned}
use Rattle.std.proofs.lemmas.Int.{ints, to_z-of_z}
use Rattle.channel_path.specs.declared.moves.Move.TheVariants.{Letter}
use Rattle.channel_path.specs.Walks.{limit_after}
use Rattle.channel_path.proofs.Telling.{lets_through}
use Rattle.channel_path.proofs.near.ahead_agreed.Goals as goal

pub returns-then-same-clause-most : goal.returns-then-same-clause-most
returns-then-same-clause-most g c =
    let m = g.M.Machine.rules c.args.machine.now in
    let xs = c.args.moves.now in
    let k = length xs - 1 in
    let end : c.end_of.result ≡ pos (limit_after (get_or xs k (Letter 0 0 0))) = c.end_of.ensures.end in
    let early = c.end_of.ensures.early in
    let f : FitsSigned w64 c.end_of.result = search (rules, ints) in
    let n = c.colours.ensures in
    let all = simp to_z-of_z at c.end-most.ensures.states in
    lets_through m c.end-most.result c.walk_ahead.new.ahead xs k (Letter 0 0 0) (omega arith) c.requires.order (rw (end, n) at all) c.walk_ahead.ensures.before
