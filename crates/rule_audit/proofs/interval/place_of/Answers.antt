use Rattle.std.proofs.Common.{rules, w64, ◌≡◌, get_or, pos}
use Rattle.std.proofs.lemmas.Int.{ints, to_z-of_z}
use Rattle.std.specs.Prelude.{FitsSigned}
use Rattle.board.specs.Logs.{no_row}
use Rattle.rule_audit.proofs.interval.place_of.Goals as goal

pub returns : goal.returns
returns c =
    let row = get_or c.args.hour.now.rows.now c.args.index no_row in
    let from : c.from-at.result ≡ pos row.at = search (rules, ints) in
    let fits : FitsSigned w64 c.from-at.result = search (rules, ints) in
    let told = simp to_z-of_z at c.place_before_row.ensures in
    rw (← from) told
