use Rattle.std.proofs.Common.{◌≡◌, ◌∙◌, ◌+◌, ◌&&◌, ltb, List, ap, sym, subst, get_or, arith}
use Rattle.std.proofs.lemmas.List.{take_all}
use Rattle.sig_base.specs.declared.values.Row.{Row}
use Rattle.hour_sweep.specs.Hours.{point}
use Rattle.board.specs.Logs.{no_row}
use Rattle.board.specs.Verdicts.{MayPass}
use Rattle.arrival_measures.specs.Hours.{is_seen}
use Rattle.arrival_measures.specs.Steps.{AreJudgedRows}
use Rattle.arrival_measures.proofs.Counting.{judged_on, judged_off, judged_none}
use Rattle.arrival_measures.proofs.Knowing.{tenth_known}
use Rattle.arrival_measures.proofs.judged.judged_rows.Goals as goal
use Rattle.arrival_measures.proofs.judged.judged_rows.Goals.{then-knows, else-knows}

pub loop-row-init : goal.loop-row-init
loop-row-init c = λ known hour s all log test h view mask low. judged_none test _ _ _ c.nothing-judged.ensures

pub loop-row-preserved : goal.loop-row-preserved
loop-row-preserved c = λ known hour s all log test h view mask low.
    let rows = c.args.rows.now in
    let i = c.loop-row.row-index in
    let lt = c.loop-row-test.true in
    let x = get_or rows i no_row in
    let old = c.loop-row.invariant known hour s all log test h view mask low in
    let here = low i no_row lt in
    let is = c.knows.ensures ∙ c.place_near-place.ensures known (point hour) (point hour + 36000) h.are_stretches here in
    let end : point hour + 36000 ≡ point (hour + 1) = omega arith in
    let sees = is ∙ ap (λ t. known x.at && ltb x.at t) end in
    elim c.if-knows.branch [
      | then-knows w ↦
          let says = w.seen-before.ensures log test view.is_view (tenth_known known hour all c.args.stretches.now log.stretches x.at h view.same_stretches here (sym is ∙ w.if-knows.true)) mask in
          judged_on test (λ t v. MayPass log t c.args.spec v) (is_seen known hour) rows i lt (omega arith) c.loop-row.judged _ w.seen-before.result.0 (sym sees ∙ w.if-knows.true) says (w.judged-is ∙ w.with-judged.ensures) old
      | else-knows w ↦ judged_off test (λ t v. MayPass log t c.args.spec v) (is_seen known hour) rows i lt (omega arith) c.loop-row.judged _ (sym sees ∙ w.if-knows.false) (w.judged-is ∙ w.with_unseen-judged.ensures) old
    ]

pub returns : goal.returns
returns c = λ known hour s all log test h view mask low.
    subst (λ (zs : List Row). AreJudgedRows test (λ t v. MayPass log t c.args.spec v) (is_seen known hour) zs c.loop-row.judged)
    (take_all c.loop-row.row-index c.args.rows.now c.loop-row-test.false)
    (c.loop-row.invariant known hour s all log test h view mask low)
