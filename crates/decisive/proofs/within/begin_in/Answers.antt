use Rattle.std.proofs.Common.{◌∙◌}
use Rattle.std.specs.Prelude.{IfOk, MatchOption}
use Rattle.board.specs.Places.{upto}
use Rattle.decisive.specs.Laws.{rows_to}
use Rattle.decisive.specs.Searches.{IsBeginAt, NoBegin}
use Rattle.decisive.proofs.Handed.{said_of, told_of}
use Rattle.decisive.proofs.within.begin_in.Goals as goal

pub begin_within-requires-clause-told : goal.begin_within-requires-clause-told
begin_within-requires-clause-told c =
    let (t, place, cut, grow) = c.requires.place in
    let q = c.args.question.now in
    let p = c.args.placed.now in
    let told = c.told_with-told in
    let e1 = told.ensures.rows in
    let e2 = told.ensures.stretches in
    let e3 = told.ensures.courses ∙ c.deref.ensures.value in
    let e4 = told.ensures.place in (
      t,
      told_of q told.result c.args.first t p.told.rows.items p.told.stretches.items c.in_ok-courses.courses.items p.place e1 e2 e3 e4 c.requires.parts c.in_ok-courses.ensures place,
      rw e2 cut,
      rw (e1, e2, e4) grow,
    )

pub returns : goal.returns
returns c =
    let q = c.args.question.now in
    let p = c.args.placed.now in
    let v = c.args.last in
    let told = c.told_with-told in
    said_of told.result p.told.rows.items p.told.stretches.items p.place (λ rs ss n. IfOk c.begin_within.result (λ r. MatchOption r (NoBegin q.specs.now q.parts.now q.at (rows_to v rs) (upto v ss) n c.args.first) (IsBeginAt q.specs.now q.parts.now q.at (rows_to v rs) (upto v ss) n))) told.ensures.rows told.ensures.stretches told.ensures.place c.begin_within.ensures
