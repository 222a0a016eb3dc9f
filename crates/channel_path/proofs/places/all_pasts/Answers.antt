use Rattle.std.proofs.Common.{arith, subst, List}
use Rattle.std.proofs.lemmas.List.{take_all}
use Rattle.channel_path.specs.declared.moves.Move.{Move}
use Rattle.channel_path.specs.Kept.{AreRuns, ArePasts}
use Rattle.channel_path.proofs.places.all_pasts.Goals as goal

pub returns-clause-runs : goal.returns-clause-runs
returns-clause-runs g c =
    let late = c.in_ok-pasts.ensures.late in
    subst (λ (zs : List Move). AreRuns zs c.in_ok-pasts.pasts.runs.items) (take_all c.in_ok-pasts._end c.args.moves.now (omega arith)) c.in_ok-pasts.ensures.runs

pub returns-clause-pasts : goal.returns-clause-pasts
returns-clause-pasts g c =
    let m = g.M.Machine.rules c.args.machine.now in
    let late = c.in_ok-pasts.ensures.late in
    subst (λ (zs : List Move). ArePasts m c.args.before.now zs c.in_ok-pasts.pasts) (take_all c.in_ok-pasts._end c.args.moves.now (omega arith)) c.in_ok-pasts.ensures.pasts
