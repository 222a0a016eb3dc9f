use Rattle.std.proofs.Common.{rules, arith, w64, sym, ◌∙◌, ◌≡◌, ◌+◌, [], None, get_or, pos}
use Rattle.std.proofs.lemmas.Int.{ints, to_z-of_z}
use Rattle.std.specs.Prelude.{FitsSigned}
use Rattle.board.specs.Channels.{track}
use Rattle.board.specs.Moves.{count_before}
use Rattle.board.specs.Logs.{HourLog, first_tenth, end_tenth, no_spec}
use Rattle.board.proofs.Tracks.{spec_lettered}
use Rattle.board.proofs.Splitting.{sees_at}
use Rattle.board.proofs.Verdicts.{sees_end}
use Rattle.board.proofs.Viewing.{path_at, path_sees}
use Rattle.board.proofs.Within.{end_is_place}
use Rattle.board.proofs.view.HourView.seen_from.Goals as goal

pub returns : goal.returns
returns c = λ known.
    let path = c.index-path.result.now in
    let log : HourLog = c.args.self.now in
    let spec = c.args.spec in
    let x = c.args.at in
    let f = first_tenth log.hour in
    let t = end_tenth log.hour in
    let k = track (get_or log.specs spec no_spec) in
    let before = get_or log.before spec [] in
    let after = get_or log.after spec [] in
    let i = count_before (x + 1) log.rows in
    let is = rw c.self.view_is at c.self.invariant.0 in
    let at : c.args.test.now.at ≡ pos x = c.requires.tenth in
    let place = end_is_place log.hour x log.rows log.stretches is.is_log.is_hour known in
    let own = path_at log c.self.inside.paths.items spec no_spec path is c.index-path.ensures c.requires.spec in
    let from : c.from.result ≡ pos x = search (rules, ints) in
    let fits : FitsSigned w64 c.from.result = search (rules, ints) in
    let same : c.from.result ≡ c.args.test.now.at = from ∙ sym at in
    let found = rw same at (rw c.moves.ensures at (simp to_z-of_z at c.place_from-place.ensures.place)) in
    sees_end log x spec c.args.test.now c.seen.result place.0 place.1 (sees_at k log.rows log.stretches f t before after x i (x + 1) None path.moves c.place_from-place.result c.args.test.now c.seen.result (spec_lettered (get_or log.specs spec no_spec)) place.0 own.same_moves (λ n e. absurd (cc)) (omega arith) place.1 (omega arith) (omega arith) at found
    (path_sees log spec path c.place_from-place.result x c.args.test.now c.seen.result is.is_log own c.seen.ensures at))
