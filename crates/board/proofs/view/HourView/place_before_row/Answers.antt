use Rattle.std.proofs.Common.{◌∙◌}
use Rattle.std.proofs.lemmas.Int.{to_z-of_z}
use Rattle.board.specs.Logs.{no_spec}
use Rattle.board.proofs.Viewing.{path_at}
use Rattle.board.proofs.view.HourView.place_before_row.Goals as goal

pub returns : goal.returns
returns c =
    let r = c.ranges.at in
    let is = rw c.self.view_is at c.self.invariant.0 in
    let own = path_at c.args.self.now c.self.inside.paths.items c.args.spec no_spec c.index-path.result.now is c.index-path.ensures c.requires.spec in
    let found = simp to_z-of_z at c.place_of.ensures.place in
    let within = c.place_of.ensures.within in
    let same = c.moves.ensures ∙ own.same_moves in
    record { within = rw same at within; before = rw same at found }
