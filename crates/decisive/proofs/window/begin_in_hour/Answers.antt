use Rattle.std.proofs.Common.{arith, ◌≡◌, ◌∙◌, ◌+◌, inl}
use Rattle.board.specs.Logs.{first_tenth}
use Rattle.signal_log.specs.Log.{log_of}
use Rattle.rule_audit.proofs.Walking.{if_ok}
use Rattle.decisive.specs.Lines.{IsHourBegin, place_in}
use Rattle.decisive.proofs.Finished.{place_is}
use Rattle.decisive.proofs.Growing.{begins_grow}
use Rattle.decisive.proofs.Handed.{hour_begin, told_of}
use Rattle.decisive.proofs.Judging.{some_of}
use Rattle.decisive.proofs.window.begin_in_hour.Goals as goal

pub nearest_begin-requires-clause-late : goal.nearest_begin-requires-clause-late
nearest_begin-requires-clause-late c = omega arith

pub nearest_begin-requires-clause-told : goal.nearest_begin-requires-clause-told
nearest_begin-requires-clause-told c =
    let (s, hour, are, has, known, low, high) = c.requires.moves in
    let q = c.args.question.now in
    let m = c.args.moves.now in
    let f = first_tenth hour in
    let t = first_tenth (hour + 1) in
    let tells = are.tells q.specs.now in
    let place = place_is (log_of q.specs.now s) m.rows.now m.stretches.items f t q.at c.args.place tells known low high c.requires.place in
    let within = are.within in
    let e1 = c.told-told.ensures.rows in
    let e2 = c.told-told.ensures.stretches in
    let e4 : c.told-told.result.place ≡ place_in m.rows.now q.at c.args.place = c.told-told.ensures.place ∙ c.place_in.ensures f t tells.rows_in in
    let grow = begins_grow (log_of q.specs.now s) q.parts.now f t q.at q.at (place_in m.rows.now q.at c.args.place) m.rows.now m.stretches.items c.requires.parts has tells place (omega arith) high (omega arith) in (
      f,
      t,
      told_of q c.told-told.result f t m.rows.now m.stretches.items m.courses.items (place_in m.rows.now q.at c.args.place) e1 e2 c.told-told.ensures.courses e4 c.requires.parts are.of_channels place,
      (high, inl (rw e2 place.is_known)),
      rw (e1, e2, e4) grow,
    )

pub returns : goal.returns
returns c =
    let (s, hour, are, has, known, low, high) = c.requires.moves in
    let q = c.args.question.now in
    let m = c.args.moves.now in
    let tells = are.tells q.specs.now in
    let e1 = c.told-told.ensures.rows in
    let e2 = c.told-told.ensures.stretches in
    let e4 : c.told-told.result.place ≡ place_in m.rows.now q.at c.args.place = c.told-told.ensures.place ∙ c.place_in.ensures (first_tenth hour) (first_tenth (hour + 1)) tells.rows_in in
    if_ok c.nearest_begin.result _ _ (λ r h. some_of r _ (IsHourBegin q m c.args.place) (hour_begin q m c.told-told.result c.args.place r _ e1 e2 e4 h)) c.nearest_begin.ensures
