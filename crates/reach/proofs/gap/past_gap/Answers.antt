use Rattle.std.proofs.Common.{rules, ap, sym, subst, ◌≡◌, ◌∙◌, ◌↔◌, List, length, OnOk}
use Rattle.std.proofs.lemmas.Int.{to_z-of_z}
use Rattle.span_set.specs.declared.set.Span.{Span}
use Rattle.reach.specs.Runs.{State}
use Rattle.reach.specs.Past.{AfterGap, Holds, NoneLater}
use Rattle.reach.proofs.Alone.{entry_late, held_new, held_one, held_sets, single_one}
use Rattle.reach.proofs.Changing.{written_back}
use Rattle.reach.proofs.gap.past_gap.Goals as goal

pub stays-requires-clause-place : goal.stays-requires-clause-place
stays-requires-clause-place g c =
    let r = c.ranges.from in
    let o = c.in-Some.one in
    let now = held_one c.past.inside.one o c.past.inside.sets.items c.args.past.now c.in-Some.is c.past.view_is in
    let is = single_one c.past.inside.one o c.in-Some.is c.past.invariant in
    simp to_z-of_z (entry_late o c.args.from is (subst (λ (v : List (List Span)). NoneLater v c.args.from) (sym now) c.requires.place))

pub returns-then-stays-clause-after : goal.returns-then-stays-clause-after
returns-then-stays-clause-after g c =
    let m = g.M.Machine.rules c.args.machine.now in
    let rf = c.ranges.from in let rt = c.ranges.to in
    let o = c.in-Some.one in
    let now = held_one c.past.inside.one o c.past.inside.sets.items c.args.past.now c.in-Some.is c.past.view_is in
    let stay = simp to_z-of_z at (c.stays.ensures c.if-stays.true) in
    subst (λ (v : List (List Span)). (u : State) → Holds v u ↔ AfterGap m v c.args.from c.args.to u) now stay

pub returns-in-None-clause-after : goal.returns-in-None-clause-after
returns-in-None-clause-after g c =
    let m = g.M.Machine.rules c.args.machine.now in
    let rf = c.ranges.from in let rt = c.ranges.to in
    let new = c.gap_sets.new.sets in
    let old = c.past.inside.sets.items in
    let n = c.past.inside.sets.len in
    let size : n ≡ length old = search rules in
    let same : length new ≡ length old = c.gap_sets.ensures.colours ∙ ap (λ (x : List (List Span)). length x) c.as_mut_slice.ensures.value in
    let now = c.as_mut_slice.ensures.value ∙ held_sets c.past.inside.one old c.args.past.now c.in-None.is c.past.view_is in
    let after = simp to_z-of_z at c.gap_sets.ensures.after in
    rw (written_back n new old size same) (rw (held_new c.past.inside.one new c.in-None.is) (subst (λ (w : List (List Span)). OnOk c.gap_sets.result ((u : State) → Holds new u ↔ AfterGap m w c.args.from c.args.to u)) now after))

pub returns-in_ok-gap_sets-in-Some-clause-after : goal.returns-in_ok-gap_sets-in-Some-clause-after
returns-in_ok-gap_sets-in-Some-clause-after g c =
    let m = g.M.Machine.rules c.args.machine.now in
    let rf = c.ranges.from in let rt = c.ranges.to in
    let o = c.in-Some.one in
    let new = c.gap_sets-in-Some.new.sets in
    let old = c.spread.new.sets.items in
    let n = c.spread.new.sets.len in
    let size : n ≡ length old = search rules in
    let same : length new ≡ length old = c.in_ok-gap_sets-in-Some.ensures.colours ∙ ap (λ (x : List (List Span)). length x) c.as_mut_slice-in-Some.ensures.value in
    let now = c.as_mut_slice-in-Some.ensures.value ∙ (c.in_ok-spread-in-Some.ensures ∙ held_one c.past.inside.one o c.past.inside.sets.items c.args.past.now c.in-Some.is c.past.view_is) in
    let after = simp to_z-of_z at c.in_ok-gap_sets-in-Some.ensures.after in
    rw (written_back n new old size same) (subst (λ (w : List (List Span)). (u : State) → Holds new u ↔ AfterGap m w c.args.from c.args.to u) now after)

pub returns-in_ok-gap_sets-in-Some-clause-late : goal.returns-in_ok-gap_sets-in-Some-clause-late
returns-in_ok-gap_sets-in-Some-clause-late g c =
    let rf = c.ranges.from in let rt = c.ranges.to in
    let new = c.gap_sets-in-Some.new.sets in
    let old = c.spread.new.sets.items in
    let n = c.spread.new.sets.len in
    let size : n ≡ length old = search rules in
    let same : length new ≡ length old = c.in_ok-gap_sets-in-Some.ensures.colours ∙ ap (λ (x : List (List Span)). length x) c.as_mut_slice-in-Some.ensures.value in
    let late = simp to_z-of_z at c.in_ok-gap_sets-in-Some.ensures.late in
    rw (written_back n new old size same) late
