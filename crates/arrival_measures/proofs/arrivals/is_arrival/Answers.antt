use Rattle.std.proofs.Common.{◌∙◌, ◌<◌, sym, ap, subst, List, length, get_or}
use Rattle.sig_base.specs.declared.values.Row.{Row}
use Rattle.board.specs.Logs.{no_row}
use Rattle.arrival_measures.proofs.Picking.{arrival_is, not_ahead, not_known, row_known}
use Rattle.arrival_measures.proofs.arrivals.is_arrival.Goals as goal

pub returns-then-not-is_ahead : goal.returns-then-not-is_ahead
returns-then-not-is_ahead c = λ log rows is lt at. not_ahead c.args.config.now log c.args.phase c.args.index c.args.row.now c.is_ahead.result c.is_ahead.ensures.ahead c.if-not-is_ahead.true

pub returns-then-not-is_known : goal.returns-then-not-is_known
returns-then-not-is_known c = λ log rows is lt at.
    let x = c.args.row.now in
    not_known c.args.config.now log c.args.phase c.args.index x c.is_known.result (row_known c.args.config.now c.args.view.now rows c.args.stretches.now log c.args.index x c.is_known.result is lt at c.is_known.ensures) c.if-not-is_known.true

pub returns : goal.returns
returns c = λ log rows is lt at.
    let x = c.args.row.now in
    let n = c.args.index in
    let known = sym (row_known c.args.config.now c.args.view.now rows c.args.stretches.now log n x c.is_known.result is lt at c.is_known.ensures) ∙ c.if-not-is_known.false in
    let ahead = sym c.is_ahead.ensures.ahead ∙ c.if-not-is_ahead.false in
    arrival_is c.args.config.now log c.args.phase n x c.may_work.result ahead known
    (c.may_work.ensures log is.is_view (record {
      within = subst (λ (zs : List Row). n < length zs) (sym is.same_rows) lt;
      is = at ∙ ap (λ (zs : List Row). get_or zs n no_row) (sym is.same_rows);
      is_known = known;
    }))
