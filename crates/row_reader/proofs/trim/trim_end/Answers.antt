use Rattle.std.proofs.Common.{sym, ◌∙◌, arith}
use Rattle.row_reader.proofs.TrimFacts.{trim_end-space, trim_end-stays}
use Rattle.row_reader.proofs.trim.trim_end.Goals as goal

pub loop-rest-preserved : goal.loop-rest-preserved
loop-rest-preserved c = c.loop-rest.invariant ∙ trim_end-space c.loop-rest.rest.now (omega arith) c.if-last-ne32.false

pub returns-then-last-ne32 : goal.returns-then-last-ne32
returns-then-last-ne32 c = sym (c.loop-rest.invariant ∙ trim_end-stays c.loop-rest.rest.now (omega arith) c.if-last-ne32.true)
