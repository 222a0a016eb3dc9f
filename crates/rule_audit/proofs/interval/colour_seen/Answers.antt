use Rattle.std.proofs.Common.{rules, w64, ◌≡◌, subst, get_or, ℤ, pos}
use Rattle.std.proofs.lemmas.Int.{ints, to_z-of_z}
use Rattle.std.specs.Prelude.{FitsSigned}
use Rattle.reach.specs.declared.seen.Test.{Test}
use Rattle.board.specs.Logs.{no_row}
use Rattle.board.specs.Verdicts.{MayPassRow}
use Rattle.rule_audit.specs.Pass.{SeesColour, log_of}
use Rattle.rule_audit.proofs.Judging.{colour_sees, one_colour}
use Rattle.rule_audit.proofs.interval.colour_seen.Goals as goal

pub returns : goal.returns
returns c = λ e is known.
    let row = get_or c.args.hour.now.rows.now c.args.index no_row in
    let log = log_of c.args.hour.now e in
    let item = c.args.item.now in
    let from : c.from.result ≡ pos row.at = search (rules, ints) in
    let fits : FitsSigned w64 c.from.result = search (rules, ints) in
    let there = rw is.is_view.same at c.requires.place in
    let told = simp to_z-of_z at ((rw is.is_view.same at c.seen_at_place.ensures) c.args.index c.requires.index known) in
    let test : Test = record { colours = c.with.result; bound = c.args.bound; at = c.from.result } in
    subst (λ (z : ℤ). SeesColour (MayPassRow log c.args.index item.spec) item.colour c.args.bound z c.seen_at_place.result) from
    (colour_sees log c.args.index item.spec item.colour test c.seen_at_place.result (one_colour c.none.result c.with.result item.colour c.none.ensures c.with.ensures) (told from (rw from there)))
