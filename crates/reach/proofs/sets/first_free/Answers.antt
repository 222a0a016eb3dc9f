use Rattle.std.proofs.Common.{rules, sym, pos, w64, length, get_or, ◌-◌}
use Rattle.std.specs.Prelude.{FitsSigned}
use Rattle.std.proofs.lemmas.Int.{to_z-of_z}
use Rattle.span_set.specs.Changes.{span}
use Rattle.reach.proofs.Changing.{free_from}
use Rattle.reach.proofs.sets.first_free.Goals as goal

pub returns-in-len1-up : goal.returns-in-len1-up
returns-in-len1-up c =
    let r = c.ranges.start in
    let m : FitsSigned w64 c.max.result = search rules in
    let f : FitsSigned w64 (get_or c.ranges-2.result.now (length c.ranges-2.result.now - 1) (span (pos 0) (pos 0))).to = search rules in
    let most = simp to_z-of_z at c.max.ensures.value in
    simp to_z-of_z (rw (sym c.ranges-2.ensures.value) (free_from c.ranges-2.result.now c.args.start c.max.result (span (pos 0) (pos 0)) (rw c.ranges-2.ensures.value c.ranges-2.ensures.ordered) c.in-len1-up.len_at_least (rw c.ranges-2.ensures.value c.requires) most))
