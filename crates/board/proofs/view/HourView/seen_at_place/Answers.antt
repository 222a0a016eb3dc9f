use Rattle.std.proofs.Common.{arith, [], Some, get_or}
use Rattle.board.specs.Channels.{track}
use Rattle.board.specs.Logs.{HourLog, first_tenth, end_tenth, no_row, no_spec}
use Rattle.board.proofs.Tracks.{spec_lettered}
use Rattle.board.proofs.Splitting.{sees_at}
use Rattle.board.proofs.Viewing.{path_at, path_sees, some_le}
use Rattle.board.proofs.Within.{row_place}
use Rattle.board.proofs.view.HourView.seen_at_place.Goals as goal

pub seen-requires-clause-place : goal.seen-requires-clause-place
seen-requires-clause-place c =
    let is = rw c.self.view_is at c.self.invariant.0 in
    let own = path_at c.args.self.now c.self.inside.paths.items c.args.spec no_spec c.index.result.now is c.index.ensures c.requires.spec in
    rw own.same_moves c.requires.place

pub returns : goal.returns
returns c = λ n lt known at there.
    let path = c.index.result.now in
    let log : HourLog = c.args.self.now in
    let spec = c.args.spec in
    let x = (get_or log.rows n no_row).at in
    let f = first_tenth log.hour in
    let t = end_tenth log.hour in
    let k = track (get_or log.specs spec no_spec) in
    let before = get_or log.before spec [] in
    let after = get_or log.after spec [] in
    let is = rw c.self.view_is at c.self.invariant.0 in
    let place = row_place log.hour n log.rows log.stretches is.is_log.is_hour lt known in
    let own = path_at log c.self.inside.paths.items spec no_spec path is c.index.ensures c.requires.spec in
    let found = rw (← own.same_moves) at there.before in
    let sees = sees_at k log.rows log.stretches f t before after x n x (Some n) path.moves c.args.place c.args.test.now c.seen.result (spec_lettered (get_or log.specs spec no_spec)) place own.same_moves (λ i e. some_le n i e) (omega arith) place.after (omega arith) (omega arith) at found
    (path_sees log spec path c.args.place x c.args.test.now c.seen.result is.is_log own c.seen.ensures at) in
    record { some_true = sees.some_true; some_false = sees.some_false }
