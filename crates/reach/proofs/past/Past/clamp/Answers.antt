use Rattle.std.proofs.Common.{rules, ap, ◌≡◌, ◌∙◌, length, subst, pos, ◌-ℤ◌, List}
use Rattle.reach.proofs.Changing.{written_back}
use Rattle.std.proofs.lemmas.Int.{to_z-of_z}
use Rattle.span_set.specs.declared.set.Span.{Span}
use Rattle.reach.specs.Past.{AreClamped}
use Rattle.reach.specs.Single.{sets_of}
use Rattle.reach.proofs.Alone.{held_one, held_sets, held_new}
use Rattle.reach.proofs.past.Past.clamp.Goals as goal

pub returns-in-Some : goal.returns-in-Some
returns-in-Some c =
    let r = c.ranges.point in
    let clamped = simp to_z-of_z at c.clamp_single.ensures.clamped in
    let now = held_one c.self.inside.one c.in-Some.one c.self.inside.sets.items c.args.self.now c.in-Some.is c.self.view_is in
    subst (λ (x : List (List Span)). AreClamped (c.args.point -ℤ pos 36001) x (sets_of c.clamp_single.result)) now clamped

pub returns-in-None : goal.returns-in-None
returns-in-None c =
    let r = c.ranges.point in
    let clamped = simp to_z-of_z at c.clamp_all.ensures in
    let now = c.as_mut_slice.ensures.value ∙ held_sets c.self.inside.one c.self.inside.sets.items c.args.self.now c.in-None.is c.self.view_is in
    let size : c.self.inside.sets.len ≡ length c.self.inside.sets.items = search rules in
    let back = written_back c.self.inside.sets.len c.clamp_all.new.sets c.self.inside.sets.items size (clamped.0 ∙ ap (λ (x : List (List Span)). length x) c.as_mut_slice.ensures.value) in
    rw back (rw (held_new c.self.inside.one c.clamp_all.new.sets c.in-None.is) (subst (λ (x : List (List Span)). AreClamped (c.args.point -ℤ pos 36001) x c.clamp_all.new.sets) now clamped))
