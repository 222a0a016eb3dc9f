use Rattle.std.proofs.Common.{sym, ◌∙◌, ◌≡◌}
use Rattle.row_reader.specs.Last.{no_row}
use Rattle.row_reader.specs.Repeats.{without_repeats}
use Rattle.row_reader.proofs.RepeatFacts.{kept-start, kept-rise, kept-dropped, kept-added, kept-end, kept-part, kept-no_repeat}
use Rattle.row_reader.proofs.repeats.drop_repeats.Goals as goal

pub note_new-requires-clause-rise : goal.note_new-requires-clause-rise
note_new-requires-clause-rise c =
    rw c.deref.ensures.value (kept-rise _ _ c.args.rows.now c.loop-row.kept.items c.loop-row.row-index no_row c.loop-row-test.true c.loop-row.invariant.kept)

pub loop-row-preserved-then-repeats : goal.loop-row-preserved-then-repeats
loop-row-preserved-then-repeats c =
    let told = rw c.deref.ensures.value at c.in_ok-repeats.ensures in
    record {
      noted = told.dropped c.if-repeats.true;
      kept = kept-dropped _ _ c.args.rows.now c.loop-row.kept.items c.loop-row.row-index no_row c.loop-row-test.true c.loop-row.invariant.kept
          (sym told.repeat ∙ c.if-repeats.true);
    }

pub loop-row-preserved : goal.loop-row-preserved
loop-row-preserved c =
    let told = rw c.deref.ensures.value at c.in_ok-repeats.ensures in
    rw c.in_ok-push.ensures.items record {
      noted = told.kept c.if-repeats.false;
      kept = kept-added _ _ c.args.rows.now c.loop-row.kept.items c.loop-row.row-index no_row c.loop-row-test.true c.loop-row.invariant.kept
          (sym told.repeat ∙ c.if-repeats.false);
    }

pub loop-row-init : goal.loop-row-init
loop-row-init c =
    rw c.in_ok-kept.ensures.items record { noted = c.none-noted.ensures; kept = kept-start _ _ c.args.rows.now c.requires }

pub returns-clause-part : goal.returns-clause-part
returns-clause-part c =
    let e : c.loop-row.kept.items ≡ without_repeats c.args.rows.now =
    (kept-end _ _ c.args.rows.now c.loop-row.kept.items c.loop-row.row-index c.loop-row-test.false c.loop-row.invariant.kept).0 in
    rw e (kept-part c.args.rows.now)

pub returns-clause-no_repeat : goal.returns-clause-no_repeat
returns-clause-no_repeat c =
    let e : c.loop-row.kept.items ≡ without_repeats c.args.rows.now =
    (kept-end _ _ c.args.rows.now c.loop-row.kept.items c.loop-row.row-index c.loop-row-test.false c.loop-row.invariant.kept).0 in
    rw e (kept-no_repeat c.args.rows.now)
