use Rattle.std.proofs.Common.{rules, arith, ◌∙◌, sym, ap, ◌+◌, pos, w64, drop, get_or}
use Rattle.std.specs.Prelude.{FitsSigned}
use Rattle.std.proofs.lemmas.Int.{ints}
use Rattle.span_set.specs.declared.set.Span.{Span}
use Rattle.span_set.specs.Changes.{span, join}
use Rattle.span_set.proofs.Adding.{join_more}
use Rattle.span_set.proofs.change.joined.Goals as goal

pub loop-count-preserved : goal.loop-count-preserved
loop-count-preserved c =
    let f : FitsSigned w64 (get_or c.args.rest.now c.loop-count.count (span (pos 0) (pos 0))).from = search rules in
    let g : FitsSigned w64 c.loop-count.range.to = search rules in
    let more = join_more c.loop-count.range.from c.loop-count.range.to c.args.rest.now c.loop-count.count (span (pos 0) (pos 0)) c.loop-count-test.true (omega (arith, ints)) in
    c.loop-count.invariant ∙ (more ∙ ap (λ (s : Span). join s.from s.to (drop (c.loop-count.count + 1) c.args.rest.now)) (sym c.cover-range.ensures))
