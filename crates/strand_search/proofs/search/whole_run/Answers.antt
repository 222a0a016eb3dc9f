use Rattle.std.proofs.Common.{◌+◌, ◌++◌, ◌<◌, ◌^◌, ◌∙◌, ap, refl, List, reverse, arith, rules, w64}
use Rattle.std.specs.Prelude.{FitsSigned}
use Rattle.std.proofs.lemmas.Int.{to_z-of_z}
use Rattle.sig_base.specs.declared.values.Row.{Row}
use Rattle.gap_ways.specs.Ways.{state_of}
use Rattle.strand_search.proofs.Whole.{run_over}
use Rattle.strand_search.proofs.search.whole_run.Goals as goal

pub overflow_add-hour : goal.overflow_add-hour
overflow_add-hour g c =
    let few = c.requires.points.is_store.few in
    let lt = c.requires.hour in
    let small : c.args.hour + 1 < 2 ^ 32 = omega arith in
    search rules

pub on_to_end-requires-clause-aheads : goal.on_to_end-requires-clause-aheads
on_to_end-requires-clause-aheads g c =
    let (n, sum, are) = c.requires.points.aheads in
    rw c.deref-2.ensures.value (n, omega arith, are)

pub returns-clause-found : goal.returns-clause-found
returns-clause-found g c asked e ask crossed =
    let start = c.in_ok-start.start in
    let fits : FitsSigned w64 start.here.entry = search rules in
    let held = rw c.deref.ensures.value at c.in_ok-start.ensures.held in
    let rows = c.in_ok-joined.ensures ∙ ap (λ (z : List Row). reverse start.rows.items ++ z) c.deref-3.ensures.value in
    rw to_z-of_z (run_over c.args.spec.now c.args.store.now asked c.requires.points.is_store ask c.args.hour _ c.args.points.now.pasts.items c.args.crossing start.rows.items c.in_ok-end.end.rows.items (state_of start.here) (state_of c.in_ok-end.end.here.state) c.requires.spec e c.requires.points.pasts crossed held c.in_ok-start.ensures.way c.in_ok-end.ensures.way rows refl)
