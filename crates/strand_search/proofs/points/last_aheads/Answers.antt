use Rattle.std.proofs.Common.{rules, w64}
use Rattle.std.specs.Prelude.{FitsSigned}
use Rattle.std.proofs.lemmas.Int.{to_z-of_z}
use Rattle.signal_log.proofs.Calls.{ok_both}
use Rattle.signal_log.proofs.Lawful.{ends}
use Rattle.strand_search.specs.Points.{log_alone}
use Rattle.strand_search.proofs.points.last_aheads.Goals as goal

pub returns : goal.returns
returns g c =
    let fits : FitsSigned w64 c.from-end.result = search rules in
    let states = simp to_z-of_z at c.end.ensures.states in
    ok_both c.end.result _ _ _ (λ p shape are. ends (log_alone c.args.spec.now c.args.store.now) p shape are) (rw c.from_ref.ensures.value at c.end.ensures.shape) (rw (c.from_ref.ensures.value, c.from-end.ensures, c.hours.ensures.value) at states)
