use Rattle.std.proofs.Common.{arith, drop}
use Rattle.std.proofs.lemmas.Result.{on_ok_weaker}
use Rattle.reach.specs.Ahead.{Admits}
use Rattle.channel_path.specs.Walks.{BeforeMoves}
use Rattle.channel_path.proofs.Standing.{adds_same, before_none}
use Rattle.channel_path.proofs.ahead.back_over.Goals as goal

pub returns-then-leg-eq1-clause-places : goal.returns-then-leg-eq1-clause-places
returns-then-leg-eq1-clause-places g c =
    let m = g.M.Machine.rules c.args.machine.now in
    let ahead = c.args.ahead.now in
    let leg = c.args.leg.now in
    let one = c.if-leg-eq1.true in
    on_ok_weaker c.add_place.result
    (λ adds. rw one (adds_same m.colours c.args.past.now 0 1 (λ j. Admits ahead) (λ j. BeforeMoves m ahead (drop j leg)) c.args.places.now c.add_place.new.places (λ j some le s. before_none m ahead leg j (omega arith) s) adds))
    (rw c.requires.colours at c.add_place.ensures)
