use Rattle.std.proofs.Common.{arith, subst, ◌≡◌, ℕ, length}
use Rattle.rule_audit.specs.Index.{AreChannels}
use Rattle.rule_audit.proofs.next.channels_of.Goals as goal

pub returns : goal.returns
returns c =
    let h = c.args.hour.now in
    let low = c.loop-index.auto.index-end c.requires.range in
    let high = c.loop-index-test.false in
    let same : c.loop-index.index ≡ c.args.end = omega arith in
    subst (λ (t : ℕ). AreChannels h.own.now (length h.specs.now) c.args.first t c.loop-index.channels.items) same c.loop-index.invariant
