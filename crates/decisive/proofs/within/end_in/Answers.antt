use Rattle.std.proofs.Common.{◌∙◌, ◌+◌}
use Rattle.std.specs.Prelude.{IfOk, MatchOption}
use Rattle.decisive.specs.Searches.{IsEndAt, NoEnd}
use Rattle.decisive.proofs.Handed.{said_of, told_of}
use Rattle.decisive.proofs.within.end_in.Goals as goal

pub end_within-requires : goal.end_within-requires
end_within-requires c =
    let (f, fits, place, grow) = c.requires.place in
    let q = c.args.question.now in
    let p = c.args.placed.now in
    let told = c.told_with-told in
    let e1 = told.ensures.rows in
    let e2 = told.ensures.stretches in
    let e3 = told.ensures.courses ∙ c.deref.ensures.value in
    let e4 = told.ensures.place in
    record {
      told = (
        f,
        told_of q told.result f (c.args.last + 1) p.told.rows.items p.told.stretches.items c.in_ok-courses.courses.items p.place e1 e2 e3 e4 c.requires.parts c.in_ok-courses.ensures place,
        fits,
        rw (e1, e2, e4) grow,
      );
    }

pub returns : goal.returns
returns c =
    let q = c.args.question.now in
    let p = c.args.placed.now in
    let start = c.args.start.now in
    let last = c.args.last in
    let told = c.told_with-told in
    said_of told.result p.told.rows.items p.told.stretches.items p.place (λ rs ss n. IfOk c.end_within.result (λ r. MatchOption r (NoEnd start q.specs.now q.parts.now q.at rs ss n last) (IsEndAt start q.specs.now q.parts.now q.at rs ss n))) told.ensures.rows told.ensures.stretches told.ensures.place c.end_within.ensures
