use Rattle.std.proofs.Common.{◌++◌}
use Rattle.outside.proofs.PutsFacts.{front-stopped, middle-stopped, puts-then}
use Rattle.report_text.specs.Measures.{coordination_text, peds_text, preempts_text}
use Rattle.report_text.proofs.measures.put_others.Goals as goal

pub returns-in_err-put_lines : goal.returns-in_err-put_lines
returns-in_err-put_lines g c =
    let s = c.args.config.now in
    let n = c.args.part.now in
    front-stopped _ _ (peds_text s n) (preempts_text s n ++ coordination_text s.coordination n.others.coordination) _ c.from_residual.ensures.0
    (rw (c.peds.ensures, c.others-others.ensures) at c.in_err-put_lines.ensures)

pub returns-in_err-put_lines-2 : goal.returns-in_err-put_lines-2
returns-in_err-put_lines-2 g c =
    let s = c.args.config.now in
    let n = c.args.part.now in
    let rest = coordination_text s.coordination n.others.coordination in
    middle-stopped _ _ _ (peds_text s n) (preempts_text s n) rest _
    c.from_residual-in_err-put_lines-2.ensures.0 (rw (c.peds.ensures, c.others-others.ensures) at c.in_ok-put_lines.ensures)
    (rw (c.preempts.ensures, c.others-others.ensures) at c.in_err-put_lines-2.ensures)

pub returns : goal.returns
returns g c =
    let s = c.args.config.now in
    let n = c.args.part.now in
    let rest = coordination_text s.coordination n.others.coordination in
    puts-then _ _ _ (peds_text s n) (preempts_text s n ++ rest) c.put_coordination.result
    (rw (c.peds.ensures, c.others-others.ensures) at c.in_ok-put_lines.ensures)
    (puts-then _ _ _ (preempts_text s n) rest c.put_coordination.result
    (rw (c.preempts.ensures, c.others-others.ensures) at c.in_ok-put_lines-2.ensures)
    (rw (c.coordination.ensures, c.coordination-2.ensures, c.others-others.ensures) at c.put_coordination.ensures))
