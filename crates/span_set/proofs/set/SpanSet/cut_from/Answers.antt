use Rattle.std.proofs.lemmas.Int.{to_z-of_z}
use Rattle.span_set.proofs.Cutting.{keep_only}
use Rattle.span_set.proofs.set.SpanSet.cut_from.Goals as goal

pub returns-clause-only : goal.returns-clause-only
returns-clause-only c ss q h =
    let r = c.ranges.from in
    keep_only c.args.from c.self.inside.spans.items c.cut_from.new.spans.items ss c.self.invariant (simp to_z-of_z at c.cut_from.ensures) q (rw c.self.view_is h)
