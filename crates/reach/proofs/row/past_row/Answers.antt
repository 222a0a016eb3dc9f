use Rattle.std.proofs.Common.{rules, ap, sym, subst, refl, ◌≡◌, ◌∙◌, ◌↔◌, List, Option, None, Some, Result, Ok, Err, OnErr, length, IsTrue, take, drop, ◌++◌}
use Rattle.std.proofs.lemmas.Int.{to_z-of_z}
use Rattle.span_set.specs.declared.set.Span.{Span}
use Rattle.reach.specs.Runs.{State}
use Rattle.reach.specs.Past.{AfterRow, Holds, NoneLater}
use Rattle.reach.specs.declared.past.Single.{Single}
use Rattle.reach.specs.Single.{sets_of, AreSingle, IsSingle}
use Rattle.std.specs.Option.{IfSome}
use Rattle.reach.proofs.Alone.{entry_late, held_new, held_one, held_sets, late_single, only_length, single_one, some_single, view_alone}
use Rattle.reach.proofs.Changing.{written_back}
use Rattle.reach.proofs.row.past_row.Goals as goal

pub row_single-requires-clause-place : goal.row_single-requires-clause-place
row_single-requires-clause-place g c =
    let r = c.ranges.at in
    let o = c.in-Some.one in
    let now = held_one c.past.inside.one o c.past.inside.sets.items c.args.past.now c.in-Some.is c.past.view_is in
    let is = single_one c.past.inside.one o c.in-Some.is c.past.invariant in
    simp to_z-of_z (entry_late o c.args.at is (subst (λ (v : List (List Span)). NoneLater v c.args.at) (sym now) c.requires.place))

pub returns-in_ok-some-in-None-clause-after : goal.returns-in_ok-some-in-None-clause-after
returns-in_ok-some-in-None-clause-after g c =
    let m = g.M.Machine.rules c.args.machine.now in
    let r = c.ranges.at in
    let new = c.row_sets.new.sets in
    let old = c.past.inside.sets.items in
    let n = c.past.inside.sets.len in
    let size : n ≡ length old = search rules in
    let same : length new ≡ length old = c.in_ok-some-in-None.ensures.colours ∙ ap (λ (x : List (List Span)). length x) c.as_mut_slice.ensures.value in
    let all = view_alone c.alone-past-inside.result (take n (new ++ drop (length new) old)) c.deref.result.now new (written_back n new old size same) c.deref.ensures.value c.alone-past-inside.ensures.sets in
    let now = c.as_mut_slice.ensures.value ∙ held_sets c.past.inside.one old c.args.past.now c.in-None.is c.past.view_is in
    let after = simp to_z-of_z at c.in_ok-some-in-None.ensures.after in
    subst (λ (v : List (List Span)). (u : State) → Holds v u ↔ AfterRow m c.args.past.now c.args.at c.args.letter u) (sym all) (subst (λ (w : List (List Span)). (u : State) → Holds new u ↔ AfterRow m w c.args.at c.args.letter u) now after)

pub returns-in_ok-some-in-None-clause-some : goal.returns-in_ok-some-in-None-clause-some
returns-in_ok-some-in-None-clause-some g c =
    let new = c.row_sets.new.sets in
    let old = c.past.inside.sets.items in
    let n = c.past.inside.sets.len in
    let size : n ≡ length old = search rules in
    let same : length new ≡ length old = c.in_ok-some-in-None.ensures.colours ∙ ap (λ (x : List (List Span)). length x) c.as_mut_slice.ensures.value in
    let all = view_alone c.alone-past-inside.result (take n (new ++ drop (length new) old)) c.deref.result.now new (written_back n new old size same) c.deref.ensures.value c.alone-past-inside.ensures.sets in
    subst (λ (v : List (List Span)). IsTrue c.in_ok-some-in-None.some ↔ ((u : State) × Holds v u)) (sym all) c.in_ok-some-in-None.ensures.some

pub returns-in_ok-some-in-None-clause-late : goal.returns-in_ok-some-in-None-clause-late
returns-in_ok-some-in-None-clause-late g c =
    let r = c.ranges.at in
    let new = c.row_sets.new.sets in
    let old = c.past.inside.sets.items in
    let n = c.past.inside.sets.len in
    let size : n ≡ length old = search rules in
    let same : length new ≡ length old = c.in_ok-some-in-None.ensures.colours ∙ ap (λ (x : List (List Span)). length x) c.as_mut_slice.ensures.value in
    let all = view_alone c.alone-past-inside.result (take n (new ++ drop (length new) old)) c.deref.result.now new (written_back n new old size same) c.deref.ensures.value c.alone-past-inside.ensures.sets in
    let late = simp to_z-of_z at c.in_ok-some-in-None.ensures.late in
    subst (λ (v : List (List Span)). NoneLater v c.args.at) (sym all) late

pub returns-in-Some-row_single-clause-some : goal.returns-in-Some-row_single-clause-some
returns-in-Some-row_single-clause-some g c = (λ _. some_single c.in-Some-row_single.next c.in-Some-row_single.ensures.single, λ _. refl)

pub returns-in_ok-some-in-None-row_single-clause-after : goal.returns-in_ok-some-in-None-row_single-clause-after
returns-in_ok-some-in-None-row_single-clause-after g c =
    let m = g.M.Machine.rules c.args.machine.now in
    let r = c.ranges.at in
    let o = c.in-Some.one in
    let new = c.row_sets-in-None-row_single.new.sets in
    let old = c.in_ok-sets-in-None-row_single.sets.items in
    let n = c.in_ok-sets-in-None-row_single.sets.len in
    let size : n ≡ length old = search rules in
    let same : length new ≡ length old = c.in_ok-some-in-None-row_single.ensures.colours ∙ ap (λ (x : List (List Span)). length x) c.as_mut_slice-in-None-row_single.ensures.value in
    let now = c.as_mut_slice-in-None-row_single.ensures.value ∙ (c.in_ok-sets-in-None-row_single.ensures ∙ held_one c.past.inside.one o c.past.inside.sets.items c.args.past.now c.in-Some.is c.past.view_is) in
    let after = simp to_z-of_z at c.in_ok-some-in-None-row_single.ensures.after in
    rw (written_back n new old size same) (subst (λ (w : List (List Span)). (u : State) → Holds new u ↔ AfterRow m w c.args.at c.args.letter u) now after)

pub returns-in_ok-some-in-None-row_single-clause-some : goal.returns-in_ok-some-in-None-row_single-clause-some
returns-in_ok-some-in-None-row_single-clause-some g c =
    let new = c.row_sets-in-None-row_single.new.sets in
    let old = c.in_ok-sets-in-None-row_single.sets.items in
    let n = c.in_ok-sets-in-None-row_single.sets.len in
    let size : n ≡ length old = search rules in
    let same : length new ≡ length old = c.in_ok-some-in-None-row_single.ensures.colours ∙ ap (λ (x : List (List Span)). length x) c.as_mut_slice-in-None-row_single.ensures.value in
    rw (written_back n new old size same) c.in_ok-some-in-None-row_single.ensures.some

pub returns-in_ok-some-in-None-row_single-clause-late : goal.returns-in_ok-some-in-None-row_single-clause-late
returns-in_ok-some-in-None-row_single-clause-late g c =
    let r = c.ranges.at in
    let new = c.row_sets-in-None-row_single.new.sets in
    let old = c.in_ok-sets-in-None-row_single.sets.items in
    let n = c.in_ok-sets-in-None-row_single.sets.len in
    let size : n ≡ length old = search rules in
    let same : length new ≡ length old = c.in_ok-some-in-None-row_single.ensures.colours ∙ ap (λ (x : List (List Span)). length x) c.as_mut_slice-in-None-row_single.ensures.value in
    let late = simp to_z-of_z at c.in_ok-some-in-None-row_single.ensures.late in
    rw (written_back n new old size same) late

-- what is kept where one state alone is found
some_are : (x : Option Single) → IfSome x (λ o. IsSingle o) → AreSingle x
some_are None h = tt
some_are (Some o) h = h

on_err : {A E : Type 0} → (r : Result A E) (P : Type 0) → P → OnErr r P
on_err (Ok a) P h = tt
on_err (Err e) P h = h

pub row_sets-requires-clause-colours : goal.row_sets-requires-clause-colours
row_sets-requires-clause-colours g c = ap (λ (x : List (List Span)). length x) (c.as_mut_slice.ensures.value ∙ held_sets c.past.inside.one c.past.inside.sets.items c.args.past.now c.in-None.is c.past.view_is) ∙ c.requires.colours

pub row_sets-requires-clause-place : goal.row_sets-requires-clause-place
row_sets-requires-clause-place g c =
    let r = c.ranges.at in
    simp to_z-of_z (subst (λ (v : List (List Span)). NoneLater v c.args.at) (sym (c.as_mut_slice.ensures.value ∙ held_sets c.past.inside.one c.past.inside.sets.items c.args.past.now c.in-None.is c.past.view_is)) c.requires.place)

pub row_single-requires-clause-single : goal.row_single-requires-clause-single
row_single-requires-clause-single g c = single_one c.past.inside.one c.in-Some.one c.in-Some.is c.past.invariant

pub row_single-requires-clause-colours : goal.row_single-requires-clause-colours
row_single-requires-clause-colours g c =
    let o = c.in-Some.one in
    sym (only_length o.colours o.colour o.entry) ∙ (ap (λ (x : List (List Span)). length x) (held_one c.past.inside.one o c.past.inside.sets.items c.args.past.now c.in-Some.is c.past.view_is) ∙ c.requires.colours)

pub sets_of-requires : goal.sets_of-requires
sets_of-requires g c = single_one c.past.inside.one c.in-Some.one c.in-Some.is c.past.invariant

pub row_sets-requires-in-None-row_single-clause-colours : goal.row_sets-requires-in-None-row_single-clause-colours
row_sets-requires-in-None-row_single-clause-colours g c =
    let o = c.in-Some.one in
    ap (λ (x : List (List Span)). length x) (c.as_mut_slice-in-None-row_single.ensures.value ∙ (c.in_ok-sets-in-None-row_single.ensures ∙ held_one c.past.inside.one o c.past.inside.sets.items c.args.past.now c.in-Some.is c.past.view_is)) ∙ c.requires.colours

pub row_sets-requires-in-None-row_single-clause-place : goal.row_sets-requires-in-None-row_single-clause-place
row_sets-requires-in-None-row_single-clause-place g c =
    let r = c.ranges.at in
    let o = c.in-Some.one in
    simp to_z-of_z (subst (λ (v : List (List Span)). NoneLater v c.args.at) (sym (c.as_mut_slice-in-None-row_single.ensures.value ∙ (c.in_ok-sets-in-None-row_single.ensures ∙ held_one c.past.inside.one o c.past.inside.sets.items c.args.past.now c.in-Some.is c.past.view_is))) c.requires.place)

pub invariant_of-past-in-None : goal.invariant_of-past-in-None
invariant_of-past-in-None g c = some_are c.alone-past-inside.result c.alone-past-inside.ensures.single

pub returns-in_err-some-in-None-clause-err : goal.returns-in_err-some-in-None-clause-err
returns-in_err-some-in-None-clause-err g c =
    let new = c.row_sets.new.sets in
    let old = c.past.inside.sets.items in
    let n = c.past.inside.sets.len in
    let size : n ≡ length old = search rules in
    let back = c.in_err-some-in-None.ensures.err ∙ c.as_mut_slice.ensures.value in
    rw (written_back n new old size (ap (λ (x : List (List Span)). length x) back)) (rw (held_new c.past.inside.one new c.in-None.is) (on_err c.from_residual.result _ (back ∙ held_sets c.past.inside.one old c.args.past.now c.in-None.is c.past.view_is)))

pub returns-in_err-some-in-None-clause-colours : goal.returns-in_err-some-in-None-clause-colours
returns-in_err-some-in-None-clause-colours g c =
    let new = c.row_sets.new.sets in
    let old = c.past.inside.sets.items in
    let n = c.past.inside.sets.len in
    let size : n ≡ length old = search rules in
    let back = c.in_err-some-in-None.ensures.err ∙ c.as_mut_slice.ensures.value in
    rw (written_back n new old size (ap (λ (x : List (List Span)). length x) back)) (rw (held_new c.past.inside.one new c.in-None.is) (ap (λ (x : List (List Span)). length x) (back ∙ held_sets c.past.inside.one old c.args.past.now c.in-None.is c.past.view_is)))

pub returns-in_err-some-in-None-clause-late : goal.returns-in_err-some-in-None-clause-late
returns-in_err-some-in-None-clause-late g c =
    let new = c.row_sets.new.sets in
    let old = c.past.inside.sets.items in
    let n = c.past.inside.sets.len in
    let size : n ≡ length old = search rules in
    let back = c.in_err-some-in-None.ensures.err ∙ c.as_mut_slice.ensures.value in
    rw (written_back n new old size (ap (λ (x : List (List Span)). length x) back)) (rw (held_new c.past.inside.one new c.in-None.is) (subst (λ (v : List (List Span)). NoneLater v c.args.at) (sym (back ∙ held_sets c.past.inside.one old c.args.past.now c.in-None.is c.past.view_is)) c.requires.place))

pub returns-in_ok-some-in-None-clause-colours : goal.returns-in_ok-some-in-None-clause-colours
returns-in_ok-some-in-None-clause-colours g c =
    let new = c.row_sets.new.sets in
    let old = c.past.inside.sets.items in
    let n = c.past.inside.sets.len in
    let size : n ≡ length old = search rules in
    let same : length new ≡ length old = c.in_ok-some-in-None.ensures.colours ∙ ap (λ (x : List (List Span)). length x) c.as_mut_slice.ensures.value in
    let all = view_alone c.alone-past-inside.result (take n (new ++ drop (length new) old)) c.deref.result.now new (written_back n new old size same) c.deref.ensures.value c.alone-past-inside.ensures.sets in
    ap (λ (x : List (List Span)). length x) all ∙ (same ∙ ap (λ (x : List (List Span)). length x) (held_sets c.past.inside.one old c.args.past.now c.in-None.is c.past.view_is))

pub returns-in_ok-some-in-None-row_single-clause-colours : goal.returns-in_ok-some-in-None-row_single-clause-colours
returns-in_ok-some-in-None-row_single-clause-colours g c =
    let o = c.in-Some.one in
    let new = c.row_sets-in-None-row_single.new.sets in
    let old = c.in_ok-sets-in-None-row_single.sets.items in
    let n = c.in_ok-sets-in-None-row_single.sets.len in
    let size : n ≡ length old = search rules in
    let same : length new ≡ length old = c.in_ok-some-in-None-row_single.ensures.colours ∙ ap (λ (x : List (List Span)). length x) c.as_mut_slice-in-None-row_single.ensures.value in
    rw (written_back n new old size same) (c.in_ok-some-in-None-row_single.ensures.colours ∙ ap (λ (x : List (List Span)). length x) (c.as_mut_slice-in-None-row_single.ensures.value ∙ (c.in_ok-sets-in-None-row_single.ensures ∙ held_one c.past.inside.one o c.past.inside.sets.items c.args.past.now c.in-Some.is c.past.view_is)))

pub returns-in-Some-row_single-clause-after : goal.returns-in-Some-row_single-clause-after
returns-in-Some-row_single-clause-after g c =
    let m = g.M.Machine.rules c.args.machine.now in
    let r = c.ranges.at in
    let o = c.in-Some.one in
    let next = c.in-Some-row_single.next in
    subst (λ (w : List (List Span)). (u : State) → Holds (sets_of next) u ↔ AfterRow m w c.args.at c.args.letter u) (held_one c.past.inside.one o c.past.inside.sets.items c.args.past.now c.in-Some.is c.past.view_is) (simp to_z-of_z at c.in-Some-row_single.ensures.after)

pub returns-in-Some-row_single-clause-colours : goal.returns-in-Some-row_single-clause-colours
returns-in-Some-row_single-clause-colours g c =
    let o = c.in-Some.one in
    let next = c.in-Some-row_single.next in
    only_length next.colours next.colour next.entry ∙ (c.in-Some-row_single.ensures.colours ∙ (sym (only_length o.colours o.colour o.entry) ∙ ap (λ (x : List (List Span)). length x) (held_one c.past.inside.one o c.past.inside.sets.items c.args.past.now c.in-Some.is c.past.view_is)))

pub returns-in-Some-row_single-clause-late : goal.returns-in-Some-row_single-clause-late
returns-in-Some-row_single-clause-late g c =
    let r = c.ranges.at in
    late_single c.in-Some-row_single.next c.args.at c.in-Some-row_single.ensures.single (simp to_z-of_z at c.in-Some-row_single.ensures.place)
