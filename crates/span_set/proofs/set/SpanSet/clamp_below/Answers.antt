use Rattle.std.proofs.Common.{refl}
use Rattle.std.proofs.lemmas.Int.{to_z-of_z}
use Rattle.span_set.proofs.Clamping.{clamp_ranges, clamp_some, clamp_none, clamp_members}
use Rattle.span_set.proofs.set.SpanSet.clamp_below.Goals as goal

pub invariant_of-self : goal.invariant_of-self
invariant_of-self c = let r = c.ranges.limit in rw (simp to_z-of_z at c.clamp.ensures) (clamp_ranges c.args.limit c.self.inside.spans.items c.requires.low c.requires.high c.self.invariant)

pub returns-then-begins_below : goal.returns-then-begins_below
returns-then-begins_below c =
    let r = c.ranges.limit in
    let below = simp (to_z-of_z, c.deref.ensures) at (c.if-begins_below.ensures.0 refl) in
    rw (simp to_z-of_z at c.clamp.ensures, ← c.self.view_is) (clamp_members c.args.limit c.self.inside.spans.items _ c.self.invariant (clamp_some c.args.limit c.self.inside.spans.items c.self.invariant below))

pub returns-else-begins_below : goal.returns-else-begins_below
returns-else-begins_below c =
    let r = c.ranges.limit in
    let above = simp (to_z-of_z, c.deref.ensures) at c.if-begins_below.ensures.1 in
    rw (← c.self.view_is) (clamp_members c.args.limit c.self.inside.spans.items c.self.inside.spans.items c.self.invariant (λ e. clamp_none c.args.limit c.self.inside.spans.items c.self.invariant (λ b. let t = above b in absurd (cc)) e))
