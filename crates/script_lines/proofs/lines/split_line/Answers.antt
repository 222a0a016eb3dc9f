use Rattle.std.proofs.Common.{◌≡◌, ◌+◌, length, take, drop, sym, ap, ◌∙◌, arith, refl}
use Rattle.std.proofs.lemmas.List.{append-nil, take_rest, drop_all, take_all}
use Rattle.script_lines.specs.Lines.{end_length, first_line}
use Rattle.script_lines.proofs.LineLaws.{line_ends, line_goes, line_over, further}
use Rattle.script_lines.proofs.lines.split_line.Goals as goal

pub returns-then-end-ne0-clause-line : goal.returns-then-end-ne0-clause-line
returns-then-end-ne0-clause-line c =
    let v : c.end_of_line-end.result ≡ end_length (drop c.loop-i.i c.args.text.now) = c.end_of_line-end.ensures.value ∙ ap end_length (take_rest c.args.text.now c.loop-i.i) in
    let e = line_ends c.args.text.now c.loop-i.i c.end_of_line-end.result c.loop-i-test.true v c.if-end-ne0.true in
    sym (c.loop-i.invariant.line ∙ rw (e.0) (append-nil (take c.loop-i.i c.args.text.now)))

pub returns-then-end-ne0-clause-rest : goal.returns-then-end-ne0-clause-rest
returns-then-end-ne0-clause-rest c =
    let v : c.end_of_line-end.result ≡ end_length (drop c.loop-i.i c.args.text.now) = c.end_of_line-end.ensures.value ∙ ap end_length (take_rest c.args.text.now c.loop-i.i) in
    let e = line_ends c.args.text.now c.loop-i.i c.end_of_line-end.result c.loop-i-test.true v c.if-end-ne0.true in
    take_rest c.args.text.now (c.loop-i.i + c.end_of_line-end.result) ∙ sym (c.loop-i.invariant.rest ∙ e.1)

pub loop-i-preserved : goal.loop-i-preserved
loop-i-preserved c =
    let v : c.end_of_line-end.result ≡ end_length (drop c.loop-i.i c.args.text.now) = c.end_of_line-end.ensures.value ∙ ap end_length (take_rest c.args.text.now c.loop-i.i) in
    let e = line_goes c.args.text.now c.loop-i.i c.end_of_line-end.result c.loop-i-test.true v c.if-end-ne0.false in
    record {
      line = further c.args.text.now (first_line c.args.text.now) c.loop-i.i (first_line (drop (c.loop-i.i + 1) c.args.text.now)) c.loop-i-test.true (c.loop-i.invariant.line ∙ rw (e.0) refl);
      rest = c.loop-i.invariant.rest ∙ e.1;
    }

pub returns-clause-line : goal.returns-clause-line
returns-clause-line c = sym (c.loop-i.invariant.line ∙ rw (drop_all c.loop-i.i c.args.text.now c.loop-i-test.false, take_all c.loop-i.i c.args.text.now c.loop-i-test.false, line_over.0) (append-nil c.args.text.now))

pub returns-clause-rest : goal.returns-clause-rest
returns-clause-rest c = take_rest c.args.text.now (length c.args.text.now) ∙ drop_all (length c.args.text.now) c.args.text.now (omega arith) ∙ sym (c.loop-i.invariant.rest ∙ rw (drop_all c.loop-i.i c.args.text.now c.loop-i-test.false) line_over.1)
