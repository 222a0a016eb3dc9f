use Rattle.std.proofs.Common.{◌+◌, length, take, drop, sym, ◌∙◌, arith, refl}
use Rattle.std.proofs.lemmas.List.{append-nil, drop_all, take_all}
use Rattle.script_lines.specs.Words.{word}
use Rattle.script_lines.proofs.LineLaws.{word_ends, word_goes, word_over, further}
use Rattle.script_lines.proofs.words.split_word.Goals as goal

pub returns-then-byte-eq32-clause-word : goal.returns-then-byte-eq32-clause-word
returns-then-byte-eq32-clause-word c =
    let e = word_ends c.args.text.now c.loop-i.i c.loop-i-test.true c.if-byte-eq32.true in
    c.split_at.ensures.front ∙ sym (c.loop-i.invariant.word ∙ rw (e.0) (append-nil (take c.loop-i.i c.args.text.now)))

pub returns-then-byte-eq32-clause-rest : goal.returns-then-byte-eq32-clause-rest
returns-then-byte-eq32-clause-rest c =
    let e = word_ends c.args.text.now c.loop-i.i c.loop-i-test.true c.if-byte-eq32.true in
    c.split_at.ensures.back ∙ sym (c.loop-i.invariant.rest ∙ e.1)

pub loop-i-preserved : goal.loop-i-preserved
loop-i-preserved c =
    let e = word_goes c.args.text.now c.loop-i.i c.loop-i-test.true c.if-byte-eq32.false in
    record {
      word = further c.args.text.now (word c.args.text.now) c.loop-i.i (word (drop (c.loop-i.i + 1) c.args.text.now)) c.loop-i-test.true (c.loop-i.invariant.word ∙ rw (e.0) refl);
      rest = c.loop-i.invariant.rest ∙ e.1;
    }

pub returns-clause-word : goal.returns-clause-word
returns-clause-word c = c.split_at-2.ensures.front ∙ take_all (length c.args.text.now) c.args.text.now (omega arith) ∙ sym (c.loop-i.invariant.word ∙ rw (drop_all c.loop-i.i c.args.text.now c.loop-i-test.false, take_all c.loop-i.i c.args.text.now c.loop-i-test.false, word_over.0) (append-nil c.args.text.now))

pub returns-clause-rest : goal.returns-clause-rest
returns-clause-rest c = c.split_at-2.ensures.back ∙ drop_all (length c.args.text.now) c.args.text.now (omega arith) ∙ sym (c.loop-i.invariant.rest ∙ rw (drop_all c.loop-i.i c.args.text.now c.loop-i-test.false) word_over.1)
