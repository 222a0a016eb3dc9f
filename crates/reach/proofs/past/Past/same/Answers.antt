use Rattle.std.proofs.Common.{◌≡◌, ◌↔◌, subst, IsTrue, List, length}
use Rattle.span_set.specs.declared.set.Span.{Span}
use Rattle.reach.specs.Runs.{State}
use Rattle.reach.specs.Past.{Holds}
use Rattle.reach.specs.Single.{sets_of}
use Rattle.reach.proofs.Alone.{held_one, same_held, same_value, single_one}
use Rattle.reach.proofs.past.Past.same.Goals as goal

pub returns-in-Some-Some-clause-value : goal.returns-in-Some-Some-clause-value
returns-in-Some-Some-clause-value c =
    let a = c.in-Some-Some.a in
    let b = c.in-Some-Some.b in
    let r = c.same_single.result in
    let x = held_one c.self.inside.one a c.self.inside.sets.items c.args.self.now c.in-Some-Some.is-0 c.self.view_is in
    let y = held_one c.other.inside.one b c.other.inside.sets.items c.args.other.now c.in-Some-Some.is-1 c.other.view_is in
    let one = single_one c.self.inside.one a c.in-Some-Some.is-0 c.self.invariant in
    let two = single_one c.other.inside.one b c.in-Some-Some.is-1 c.other.invariant in
    subst (λ (v : List (List Span)). IsTrue r ↔ (v ≡ c.args.other.now)) x (subst (λ (w : List (List Span)). IsTrue r ↔ (sets_of a ≡ w)) y (same_value a b r one two c.same_single.ensures))

pub returns-in-Some-Some-clause-states : goal.returns-in-Some-Some-clause-states
returns-in-Some-Some-clause-states c =
    let a = c.in-Some-Some.a in
    let b = c.in-Some-Some.b in
    let r = c.same_single.result in
    let x = held_one c.self.inside.one a c.self.inside.sets.items c.args.self.now c.in-Some-Some.is-0 c.self.view_is in
    let y = held_one c.other.inside.one b c.other.inside.sets.items c.args.other.now c.in-Some-Some.is-1 c.other.view_is in
    let one = single_one c.self.inside.one a c.in-Some-Some.is-0 c.self.invariant in
    let two = single_one c.other.inside.one b c.in-Some-Some.is-1 c.other.invariant in
    subst (λ (v : List (List Span)). IsTrue r ↔ ((length v ≡ length c.args.other.now) × ((s : State) → Holds v s ↔ Holds c.args.other.now s))) x (subst (λ (w : List (List Span)). IsTrue r ↔ ((length (sets_of a) ≡ length w) × ((s : State) → Holds (sets_of a) s ↔ Holds w s))) y (same_held a b r one two c.same_single.ensures))
