use Rattle.std.proofs.Common.{rules, w64, ◌≡◌, ◌∙◌, true, ap, subst, refl, get_or, pos}
use Rattle.std.proofs.lemmas.Int.{ints, to_z-of_z}
use Rattle.std.specs.Prelude.{FitsSigned}
use Rattle.sig_base.specs.declared.values.Row.{Row}
use Rattle.reach.specs.declared.seen.Test.{Test}
use Rattle.reach.specs.declared.seen.AgeBound.TheVariants.{Any}
use Rattle.gap_map.specs.Stretches.{known_at}
use Rattle.board.specs.Logs.{no_row}
use Rattle.board.specs.Verdicts.{MayPassRow}
use Rattle.arrival_measures.specs.Points.{is_fault}
use Rattle.arrival_measures.proofs.Counting.{says}
use Rattle.arrival_measures.proofs.arrivals.is_sure.Goals as goal

pub returns : goal.returns
returns c = λ log is row.
    let n = c.args.index in
    let there = get_or log.rows n no_row in
    let from : c.from.result ≡ pos c.args.row.now.at = search (rules, ints) in
    let fits : FitsSigned w64 c.from.result = search (rules, ints) in
    let known : known_at log.stretches there.at ≡ true = subst (λ (x : Row). known_at log.stretches x.at ≡ true) row.is row.is_known in
    let at : c.from.result ≡ pos there.at = from ∙ ap (λ (x : Row). pos x.at) row.is in
    let asked : Test = record { colours = c.fault.result; bound = Any; at = c.from.result } in
    let sees = (simp to_z-of_z at ((rw is.same at c.seen_before_row.ensures) row.within known)) at in
    (says is_fault (MayPassRow log n c.args.spec) asked c.seen_before_row.result refl c.fault.ensures sees.some_true sees.some_false).all
