use Rattle.std.proofs.Common.{◌||◌}
use Rattle.sig_base.proofs.Common.{not_true}
use Rattle.reach.proofs.Seeing.{or_is}
use Rattle.board.proofs.Verdicts.{not_false}
use Rattle.signal_log.specs.Log.{log_of}
use Rattle.filling_pair.proofs.Judged.{each_stop, each_turn, kept_turn}
use Rattle.filling_pair.proofs.Growing.{grow_on}
use Rattle.filling_pair.proofs.check.check_each.Goals as goal

pub returns-then-not-checked-clause-strands : goal.returns-then-not-checked-clause-strands
returns-then-not-checked-clause-strands g c =
    each_stop (log_of c.args.specs.now c.args.store.now) c.args.rows.now c.args.line.now.at c.args.line.now.place c.args.rule.now c.check_one-checked.result.are_strands c.args.strands.now c.loop-strand.strand-index c.strand-item.result c.loop-strand-test.true c.strand-item.is c.check_one-checked.ensures.strand (not_true c.check_one-checked.result.are_strands c.if-not-checked.true) c.loop-strand.invariant.strands

pub loop-strand-preserved : goal.loop-strand-preserved
loop-strand-preserved g c =
    let log = log_of c.args.specs.now c.args.store.now in
    let one = c.check_one-checked in
    record {
      grow = grow_on _ _ _ c.loop-strand.invariant.grow one.ensures.grow;
      strands = each_turn log c.args.rows.now c.args.line.now.at c.args.line.now.place c.args.rule.now c.args.strands.now c.loop-strand.strand-index c.strand-item.result c.loop-strand-test.true c.strand-item.is (one.ensures.strand.0 (not_false one.result.are_strands c.if-not-checked.false)) c.loop-strand.invariant.strands;
      kept = kept_turn log c.args.rows.now c.args.line.now.at c.args.line.now.place c.args.rule.now c.loop-strand.is_kept one.result.is_kept (c.loop-strand.is_kept || one.result.is_kept) c.args.strands.now c.loop-strand.strand-index c.strand-item.result c.loop-strand-test.true c.strand-item.is (one.ensures.kept (not_false one.result.are_strands c.if-not-checked.false)) (or_is c.loop-strand.is_kept one.result.is_kept) c.loop-strand.invariant.kept;
    }
