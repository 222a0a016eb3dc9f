use Rattle.std.proofs.Common.{length, sym, ◌∙◌, arith}
use Rattle.std.proofs.lemmas.List.{take_rest, drop_all}
use Rattle.script_lines.proofs.LineLaws.{spaces_end, spaces_go, spaces_over}
use Rattle.script_lines.proofs.words.without_spaces.Goals as goal

pub returns-then-byte-ne32 : goal.returns-then-byte-ne32
returns-then-byte-ne32 c = take_rest c.args.text.now c.loop-i.i ∙ sym (c.loop-i.invariant ∙ spaces_end c.args.text.now c.loop-i.i c.loop-i-test.true c.if-byte-ne32.true)

pub loop-i-preserved : goal.loop-i-preserved
loop-i-preserved c = c.loop-i.invariant ∙ spaces_go c.args.text.now c.loop-i.i c.loop-i-test.true c.if-byte-ne32.false

pub returns : goal.returns
returns c = take_rest c.args.text.now (length c.args.text.now) ∙ drop_all (length c.args.text.now) c.args.text.now (omega arith) ∙ sym (c.loop-i.invariant ∙ rw (drop_all c.loop-i.i c.args.text.now c.loop-i-test.false) spaces_over)
