use Rattle.std.proofs.Common.{◌≡◌, Some, sym, subst}
use Rattle.std.specs.Prelude.{slice_get}
use Rattle.std.proofs.lemmas.Option.{get_or_from_slice_get, slice_get_within}
use Rattle.ring_config.specs.declared.items.Approach.{Approach}
use Rattle.arrival_measures.specs.Steps.{IsOwnOf}
use Rattle.arrival_measures.proofs.RowPoints.{is_own_of}
use Rattle.arrival_measures.proofs.approach.approach_of.Goals as goal

pub returns-clause-own : goal.returns-clause-own
returns-clause-own c =
    let s = c.args.config.now in
    let a = c.in-Some.approach.now in
    let there : slice_get s.approaches c.args.place ≡ Some a = sym c.in-Some.ensures.value in
    let lt = slice_get_within s.approaches c.args.place a there in
    let at = get_or_from_slice_get s.approaches c.args.place a a there in
    subst (λ (z : Approach). IsOwnOf s z) at (is_own_of s c.args.place a lt (c.in-Some.ensures.approaches c.args.place a lt))
