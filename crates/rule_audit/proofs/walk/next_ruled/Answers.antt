use Rattle.std.proofs.Common.{◌<◌, ◌≤◌, length, get_or}
use Rattle.rule_audit.specs.Pass.{row_at}
use Rattle.rule_audit.proofs.Indexing.{own_none}
use Rattle.rule_audit.proofs.Walking.{before_more, unruled_more}
use Rattle.rule_audit.proofs.walk.next_ruled.Goals as goal

pub loop-index-preserved : goal.loop-index-preserved
loop-index-preserved c =
    let h = c.args.hour.now in
    let i = c.loop-index.index in
    let (none, before) = c.loop-index.invariant in
    let over : length h.specs.now ≤ get_or h.own.now i 0 = c.if-hour-index.false in
    let early : (row_at h i).at < c.args.to = c.if-hour-index-2.false in
    (unruled_more h c.args.first i none (own_none h.specs.now h.rules.now (row_at h i) (get_or h.own.now i 0) (c.requires.ready.own.1 i c.loop-index-test.true (c.requires.known i c.loop-index.auto.index c.loop-index-test.true early)) over), before_more h c.args.first i c.args.to before early)
