use Rattle.std.proofs.Common.{arith, rules, ap, subst, ◌∙◌, ◌≡◌, List, length, OnOk}
use Rattle.std.proofs.lemmas.Int.{to_z-of_z}
use Rattle.span_set.specs.declared.set.Span.{Span}
use Rattle.reach.specs.Holes.{AreFilled}
use Rattle.reach.proofs.Alone.{held_new, held_one, held_sets, on_ok, single_one}
use Rattle.reach.proofs.Changing.{written_back}
use Rattle.reach.proofs.Filling.{filled_holds, none_filled}
use Rattle.reach.proofs.run.fill_past.Goals as goal

pub returns-then-none_arrives-clause-after : goal.returns-then-none_arrives-clause-after
returns-then-none_arrives-clause-after c =
    let rt = c.ranges.to in
    let none = simp to_z-of_z at (c.none_arrives.ensures c.if-none_arrives.true) in
    none_filled c.args.past.now c.args.holes.now c.args.from c.args.to c.args.arrival.now c.requires.few c.requires.arrival none

pub returns-in-None-clause-after : goal.returns-in-None-clause-after
returns-in-None-clause-after c =
    let new = c.fill_sets.new.sets in
    let old = c.past.inside.sets.items in
    let n = c.past.inside.sets.len in
    let size : n ≡ length old = search rules in
    let same : length new ≡ length old = c.fill_sets.ensures.colours ∙ ap (λ (x : List (List Span)). length x) c.as_mut_slice.ensures.value in
    let now = c.as_mut_slice.ensures.value ∙ held_sets c.past.inside.one old c.args.past.now c.in-None.is c.past.view_is in
    let fill = subst (λ (w : List (List Span)). OnOk c.fill_sets.result (AreFilled w c.args.arrival.now c.args.holes.now new (length w))) now c.fill_sets.ensures.ok in
    rw (written_back n new old size same) (rw (held_new c.past.inside.one new c.in-None.is) (on_ok c.fill_sets.result _ _ (λ f. filled_holds c.args.past.now new c.args.holes.now c.args.from c.args.to c.args.arrival.now c.requires.few c.requires.holes c.requires.arrival f) fill))

pub returns-in_ok-fill_sets-in-Some-clause-after : goal.returns-in_ok-fill_sets-in-Some-clause-after
returns-in_ok-fill_sets-in-Some-clause-after c =
    let o = c.in-Some.one in
    let new = c.fill_sets-in-Some.new.sets in
    let old = c.spread.new.sets.items in
    let n = c.spread.new.sets.len in
    let size : n ≡ length old = search rules in
    let same : length new ≡ length old = c.in_ok-fill_sets-in-Some.ensures.colours ∙ ap (λ (x : List (List Span)). length x) c.as_mut_slice-in-Some.ensures.value in
    let now = c.as_mut_slice-in-Some.ensures.value ∙ (c.in_ok-spread-in-Some.ensures ∙ held_one c.past.inside.one o c.past.inside.sets.items c.args.past.now c.in-Some.is c.past.view_is) in
    let fill = subst (λ (w : List (List Span)). AreFilled w c.args.arrival.now c.args.holes.now new (length w)) now c.in_ok-fill_sets-in-Some.ensures.ok in
    rw (written_back n new old size same) (filled_holds c.args.past.now new c.args.holes.now c.args.from c.args.to c.args.arrival.now c.requires.few c.requires.holes c.requires.arrival fill)

pub fill_sets-requires-clause-few : goal.fill_sets-requires-clause-few
fill_sets-requires-clause-few c =
    let e = ap (λ (x : List (List Span)). length x) (c.as_mut_slice.ensures.value ∙ held_sets c.past.inside.one c.past.inside.sets.items c.args.past.now c.in-None.is c.past.view_is) in
    let f = c.requires.few in
    omega arith

pub spread-requires : goal.spread-requires
spread-requires c = single_one c.past.inside.one c.in-Some.one c.in-Some.is c.past.invariant

pub returns-in-None-clause-colours : goal.returns-in-None-clause-colours
returns-in-None-clause-colours c =
    let new = c.fill_sets.new.sets in
    let old = c.past.inside.sets.items in
    let n = c.past.inside.sets.len in
    let size : n ≡ length old = search rules in
    let same : length new ≡ length old = c.fill_sets.ensures.colours ∙ ap (λ (x : List (List Span)). length x) c.as_mut_slice.ensures.value in
    let now = held_sets c.past.inside.one old c.args.past.now c.in-None.is c.past.view_is in
    rw (written_back n new old size same) (rw (held_new c.past.inside.one new c.in-None.is) (same ∙ ap (λ (x : List (List Span)). length x) now))

pub returns-in_ok-fill_sets-in-Some-clause-colours : goal.returns-in_ok-fill_sets-in-Some-clause-colours
returns-in_ok-fill_sets-in-Some-clause-colours c =
    let o = c.in-Some.one in
    let new = c.fill_sets-in-Some.new.sets in
    let old = c.spread.new.sets.items in
    let n = c.spread.new.sets.len in
    let size : n ≡ length old = search rules in
    let same : length new ≡ length old = c.in_ok-fill_sets-in-Some.ensures.colours ∙ ap (λ (x : List (List Span)). length x) c.as_mut_slice-in-Some.ensures.value in
    let now = c.in_ok-spread-in-Some.ensures ∙ held_one c.past.inside.one o c.past.inside.sets.items c.args.past.now c.in-Some.is c.past.view_is in
    rw (written_back n new old size same) (same ∙ ap (λ (x : List (List Span)). length x) now)
