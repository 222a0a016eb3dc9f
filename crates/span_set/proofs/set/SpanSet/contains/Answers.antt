use Rattle.std.proofs.lemmas.Int.{to_z-of_z}
use Rattle.span_set.proofs.Sets.{tested}
use Rattle.span_set.proofs.set.SpanSet.contains.Goals as goal

pub returns-clause-value : goal.returns-clause-value
returns-clause-value c =
    let r = c.ranges.at in
    rw (← c.self.view_is) (tested c.contains_in.result c.self.inside.spans.items c.args.at (simp (to_z-of_z, c.deref.ensures) at c.contains_in.ensures))
