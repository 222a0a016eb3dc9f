use Rattle.std.proofs.Common.{◌+◌, ◌≤◌, arith, length}
use Rattle.session.proofs.KeptLaws.{carry_is, future_is}
use Rattle.session.proofs.audit.lines_of.Goals as goal

pub lines_between-requires-clause-before : goal.lines_between-requires-clause-before
lines_between-requires-clause-before g c =
    let lt = c.requires.in_store in
    let le : c.args.hour ≤ length c.args.store.now.hours = omega arith in
    carry_is c.args.config.now c.args.store.now c.args.worked.now.carries.items c.args.hour c.index-before.result.now c.requires.store c.requires.kept.forth le c.index-before.ensures

pub lines_between-requires-clause-after : goal.lines_between-requires-clause-after
lines_between-requires-clause-after g c =
    let lt = c.requires.in_store in
    let le : c.args.hour + 1 ≤ length c.args.store.now.hours = omega arith in
    future_is c.args.config.now c.args.store.now c.args.worked.now.futures.items (c.args.hour + 1) c.index-after.result.now c.requires.store c.requires.kept.back le c.index-after.ensures
