use Rattle.std.proofs.Common.{arith, ◌<◌, length}
use Rattle.reach.specs.Last.{IsLaterIn}
use Rattle.reach.proofs.Later.{length_set}
use Rattle.reach.proofs.Entering.{entry_more, none_more}
use Rattle.reach.proofs.before_holes.last_all.Goals as goal

pub loop-colour-preserved : goal.loop-colour-preserved
loop-colour-preserved g c =
    let m = g.M.Machine.rules c.args.machine.now in
    let few = (g.met.M.Machine.laws c.args.machine.now).few_colours in
    let i = c.loop-colour.invariant in
    let lt : c.loop-colour.colour < m.colours = (let e = c.colours-colour-end.ensures in omega arith) in
    let within : c.loop-colour.colour < length c.loop-colour.new = (let l = i.0 in let e = c.colours-colour-end.ensures in omega arith) in
    (length_set _ _ _ i.0, none_more c.loop-colour.new c.loop-colour.colour c.last_letters.result m.colours lt i.1, entry_more (λ k x. IsLaterIn m c.args.latest.now c.args.holes.now c.args.last.now k m.letters x) c.loop-colour.new c.loop-colour.colour c.last_letters.result within i.2 c.last_letters.ensures)
