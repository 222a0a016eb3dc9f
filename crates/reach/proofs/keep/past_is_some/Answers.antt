use Rattle.std.proofs.Common.{refl, subst, List}
use Rattle.span_set.specs.declared.set.Span.{Span}
use Rattle.reach.specs.Runs.{State}
use Rattle.reach.specs.Past.{Holds}
use Rattle.reach.proofs.Alone.{held_one, single_one, some_single}
use Rattle.reach.proofs.keep.past_is_some.Goals as goal

pub returns-in-Some : goal.returns-in-Some
returns-in-Some c =
    let o = c.in-Some.field-0 in
    let now = held_one c.past.inside.one o c.past.inside.sets.items c.args.past.now c.in-Some.is c.past.view_is in
    let is = single_one c.past.inside.one o c.in-Some.is c.past.invariant in
    (λ _. subst (λ (v : List (List Span)). (u : State) × Holds v u) now (some_single o is), λ _. refl)
