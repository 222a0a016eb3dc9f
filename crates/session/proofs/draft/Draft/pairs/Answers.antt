use Rattle.std.proofs.Common.{◌<◌, ◌*◌, ◌/◌, arith, length}
use Rattle.std.specs.Prelude.{filter}
use Rattle.std.proofs.lemmas.Result.{IfOk-weaker}
use Rattle.hour_work.specs.Verdicts.{AreAuditLines}
use Rattle.session.specs.Pairs.{ArePairsAt, ArePairsOf, is_open_at}
use Rattle.session.proofs.GrowLaws.{grow_on}
use Rattle.session.proofs.WindowLaws.{lines_in}
use Rattle.session.proofs.draft.Draft.pairs.Goals as goal

pub pairs_of-requires-clause-lines : goal.pairs_of-requires-clause-lines
pairs_of-requires-clause-lines g c =
    let cfg = c.self.inside.config in
    let s = c.self.inside.store in
    let hour = c.args.at / 36000 in
    let at : c.args.at < 36000 * length s.hours = rw (← c.self.view_is) at c.requires.at in
    let lt : hour < length s.hours = omega arith in
    let are : AreAuditLines cfg s hour c.deref-3.result.now = rw c.deref-3.ensures.value c.in_ok-lines.ensures.lines in
    (hour, lines_in cfg s hour lt c.deref-3.result.now c.self.invariant.sound are)

pub returns-clause-pairs : goal.returns-clause-pairs
returns-clause-pairs g c =
    let cfg = c.self.inside.config in
    let s = c.self.inside.store in
    let lines = c.deref-3.result.now in
    let are : AreAuditLines cfg s (c.args.at / 36000) lines = rw c.deref-3.ensures.value c.in_ok-lines.ensures.lines in
    let whole = IfOk-weaker c.pairs_of.result
    (λ p. ArePairsOf cfg s (filter (is_open_at c.args.rule c.args.at) lines) p)
    (λ p. ArePairsAt cfg s c.args.rule c.args.at p)
    (λ p h. (lines, are, h)) c.pairs_of.ensures.pairs in
    rw (← c.self.view_is) whole

pub returns-clause-grow : goal.returns-clause-grow
returns-clause-grow g c = grow_on _ _ _ c.in_ok-lines.ensures.grow c.pairs_of.ensures.grow
