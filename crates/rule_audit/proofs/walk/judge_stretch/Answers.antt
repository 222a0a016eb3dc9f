use Rattle.std.proofs.Common.{◌∙◌}
use Rattle.rule_audit.proofs.Walking.{on_unknown}
use Rattle.rule_audit.proofs.walk.judge_stretch.Goals as goal

pub returns-clause-lines : goal.returns-clause-lines
returns-clause-lines c = λ e is.
    let h = c.args.hour.now in
    let s = c.args.stretch in
    rw c.if-stretch.false (on_unknown h e c.requires.ready.rises c.args.before s.from s.to c.args.lines.now.items c.requires.range (c.requires.within e is) (λ t le lt. c.requires.known t le lt ∙ c.if-stretch.false))
