use Rattle.std.proofs.Common.{pos, get_or}
use Rattle.sig_base.proofs.Common.{not_true}
use Rattle.reach.specs.declared.seen.AgeBound.TheVariants.{Any}
use Rattle.board.specs.Logs.{no_row}
use Rattle.board.specs.Verdicts.{MayPassRow}
use Rattle.board.proofs.Verdicts.{not_false}
use Rattle.rule_audit.specs.Pass.{log_of}
use Rattle.rule_audit.proofs.Judging.{idle_verdict, kept_verdict, other_colour_verdict, met_verdict, broken_verdict}
use Rattle.rule_audit.proofs.interval.closing_verdict.Goals as goal

pub returns-then-not-any : goal.returns-then-not-any
returns-then-not-any c = λ e is known.
    let at = pos (get_or c.args.hour.now.rows.now c.args.index no_row).at in
    idle_verdict (MayPassRow (log_of c.args.hour.now e) c.args.index c.args.item.now.spec) c.args.item.now.colour c.args.item.now.bound Any at c.colour_seen-any.result (c.colour_seen-any.ensures e is known) (not_true c.colour_seen-any.result.some_true c.if-not-any.true)

pub returns-then-not-missed : goal.returns-then-not-missed
returns-then-not-missed c = λ e is known.
    let at = pos (get_or c.args.hour.now.rows.now c.args.index no_row).at in
    kept_verdict (MayPassRow (log_of c.args.hour.now e) c.args.index c.args.item.now.spec) c.args.item.now.colour c.args.item.now.bound c.opposite.result at c.colour_seen-any.result c.colour_seen-missed.result (c.colour_seen-any.ensures e is known) (c.colour_seen-missed.ensures e is known) (c.opposite.ensures at) (not_false c.colour_seen-any.result.some_true c.if-not-any.false) (not_true c.colour_seen-missed.result.some_true c.if-not-missed.true)

pub returns-then-any : goal.returns-then-any
returns-then-any c = λ e is known.
    let at = pos (get_or c.args.hour.now.rows.now c.args.index no_row).at in
    other_colour_verdict (MayPassRow (log_of c.args.hour.now e) c.args.index c.args.item.now.spec) c.args.item.now.colour c.args.item.now.bound c.opposite.result at c.colour_seen-any.result c.colour_seen-missed.result (c.colour_seen-any.ensures e is known) (c.colour_seen-missed.ensures e is known) (c.opposite.ensures at) (not_false c.colour_seen-missed.result.some_true c.if-not-missed.false) c.if-any.true

pub returns-then-met : goal.returns-then-met
returns-then-met c = λ e is known.
    let at = pos (get_or c.args.hour.now.rows.now c.args.index no_row).at in
    met_verdict (MayPassRow (log_of c.args.hour.now e) c.args.index c.args.item.now.spec) c.args.item.now.colour c.args.item.now.bound c.opposite.result at c.colour_seen-missed.result c.colour_seen-met.result (c.colour_seen-missed.ensures e is known) (c.colour_seen-met.ensures e is known) (c.opposite.ensures at) (not_false c.colour_seen-missed.result.some_true c.if-not-missed.false) c.if-met.true

pub returns : goal.returns
returns c = λ e is known.
    let at = pos (get_or c.args.hour.now.rows.now c.args.index no_row).at in
    broken_verdict (MayPassRow (log_of c.args.hour.now e) c.args.index c.args.item.now.spec) c.args.item.now.colour c.args.item.now.bound c.opposite.result at c.colour_seen-any.result c.colour_seen-met.result (c.colour_seen-any.ensures e is known) (c.colour_seen-met.ensures e is known) (not_false c.colour_seen-any.result.some_true c.if-not-any.false) c.if-any.false c.if-met.false
