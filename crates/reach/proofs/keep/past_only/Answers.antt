use Rattle.std.proofs.Common.{rules, ap, subst, ◌≡◌, ◌∙◌, ◌↔◌, List, length}
use Rattle.span_set.specs.declared.set.Span.{Span}
use Rattle.colour_machine.specs.Mask.{Has}
use Rattle.reach.specs.Runs.{State}
use Rattle.reach.specs.Past.{Holds}
use Rattle.reach.proofs.Alone.{held_new, held_one, held_sets}
use Rattle.reach.proofs.Changing.{written_back}
use Rattle.reach.proofs.keep.past_only.Goals as goal

pub returns-in-None-clause-states : goal.returns-in-None-clause-states
returns-in-None-clause-states c =
    let new = c.only_sets.new.sets in
    let old = c.past.inside.sets.items in
    let n = c.past.inside.sets.len in
    let size : n ≡ length old = search rules in
    let same : length new ≡ length old = c.only_sets.ensures.colours ∙ ap (λ (x : List (List Span)). length x) c.as_mut_slice.ensures.value in
    let now = c.as_mut_slice.ensures.value ∙ held_sets c.past.inside.one old c.args.past.now c.in-None.is c.past.view_is in
    rw (written_back n new old size same) (rw (held_new c.past.inside.one new c.in-None.is) (subst (λ (w : List (List Span)). (s : State) → Holds new s ↔ (Holds w s × Has c.args.colours s.colour)) now c.only_sets.ensures.states))

pub returns-in_ok-spread-in-Some-clause-states : goal.returns-in_ok-spread-in-Some-clause-states
returns-in_ok-spread-in-Some-clause-states c =
    let o = c.in-Some.one in
    let new = c.only_sets-in-Some.new.sets in
    let old = c.spread.new.sets.items in
    let n = c.spread.new.sets.len in
    let size : n ≡ length old = search rules in
    let same : length new ≡ length old = c.only_sets-in-Some.ensures.colours ∙ ap (λ (x : List (List Span)). length x) c.as_mut_slice-in-Some.ensures.value in
    let now = c.as_mut_slice-in-Some.ensures.value ∙ (c.in_ok-spread-in-Some.ensures ∙ held_one c.past.inside.one o c.past.inside.sets.items c.args.past.now c.in-Some.is c.past.view_is) in
    rw (written_back n new old size same) (subst (λ (w : List (List Span)). (s : State) → Holds new s ↔ (Holds w s × Has c.args.colours s.colour)) now c.only_sets-in-Some.ensures.states)

pub returns-in-None-clause-colours : goal.returns-in-None-clause-colours
returns-in-None-clause-colours c =
    let new = c.only_sets.new.sets in
    let old = c.past.inside.sets.items in
    let n = c.past.inside.sets.len in
    let size : n ≡ length old = search rules in
    let same : length new ≡ length old = c.only_sets.ensures.colours ∙ ap (λ (x : List (List Span)). length x) c.as_mut_slice.ensures.value in
    let now = held_sets c.past.inside.one old c.args.past.now c.in-None.is c.past.view_is in
    rw (written_back n new old size same) (rw (held_new c.past.inside.one new c.in-None.is) (same ∙ ap (λ (x : List (List Span)). length x) now))

pub returns-in_ok-spread-in-Some-clause-colours : goal.returns-in_ok-spread-in-Some-clause-colours
returns-in_ok-spread-in-Some-clause-colours c =
    let o = c.in-Some.one in
    let new = c.only_sets-in-Some.new.sets in
    let old = c.spread.new.sets.items in
    let n = c.spread.new.sets.len in
    let size : n ≡ length old = search rules in
    let same : length new ≡ length old = c.only_sets-in-Some.ensures.colours ∙ ap (λ (x : List (List Span)). length x) c.as_mut_slice-in-Some.ensures.value in
    let now = c.in_ok-spread-in-Some.ensures ∙ held_one c.past.inside.one o c.past.inside.sets.items c.args.past.now c.in-Some.is c.past.view_is in
    rw (written_back n new old size same) (same ∙ ap (λ (x : List (List Span)). length x) now)
