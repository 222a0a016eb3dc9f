use Rattle.std.proofs.Common.{◌++◌}
use Rattle.outside.proofs.PutsFacts.{front-stopped, middle-stopped, puts-stopped, puts-then, stops-front, stops-then}
use Rattle.report_text.specs.Approaches.{approaches_text}
use Rattle.report_text.specs.Measures.{held_line, measures_text, others_text, phases_text}
use Rattle.report_text.proofs.measures.put_measures.Goals as goal

pub returns-in_err-put_held : goal.returns-in_err-put_held
returns-in_err-put_held g c =
    let s = c.args.config.now in
    let n = c.args.part.now in
    front-stopped _ _ (held_line n) (phases_text s n ++ (others_text s n ++ approaches_text s.approaches n.arrivals n.failures)) _ c.from_residual.ensures.0 c.in_err-put_held.ensures

pub returns-in_err-put_lines : goal.returns-in_err-put_lines
returns-in_err-put_lines g c =
    let s = c.args.config.now in
    let n = c.args.part.now in
    middle-stopped _ _ _ (held_line n) (phases_text s n) (others_text s n ++ approaches_text s.approaches n.arrivals n.failures) _
    c.from_residual-in_err-put_lines.ensures.0 c.in_ok-put_held.ensures (rw (c.phases.ensures, c.splits.ensures.phases) at c.in_err-put_lines.ensures)

pub returns-in_err-put_others : goal.returns-in_err-put_others
returns-in_err-put_others g c =
    let s = c.args.config.now in
    let n = c.args.part.now in
    let arrivals = approaches_text s.approaches n.arrivals n.failures in
    let phases = rw (c.phases.ensures, c.splits.ensures.phases) at c.in_ok-put_lines.ensures in
    puts-stopped _ _ (measures_text s n) _ c.from_residual-in_err-put_others.ensures.0
    (stops-then _ _ _ (held_line n) (phases_text s n ++ (others_text s n ++ arrivals)) c.in_ok-put_held.ensures
    (stops-then _ _ _ (phases_text s n) (others_text s n ++ arrivals) phases (stops-front _ _ (others_text s n) arrivals c.in_err-put_others.ensures)))

pub returns : goal.returns
returns g c =
    let s = c.args.config.now in
    let n = c.args.part.now in
    let arrivals = approaches_text s.approaches n.arrivals n.failures in
    puts-then _ _ _ (held_line n) (phases_text s n ++ (others_text s n ++ arrivals)) c.put_approaches.result c.in_ok-put_held.ensures
    (puts-then _ _ _ (phases_text s n) (others_text s n ++ arrivals) c.put_approaches.result (rw (c.phases.ensures, c.splits.ensures.phases) at c.in_ok-put_lines.ensures)
    (puts-then _ _ _ (others_text s n) arrivals c.put_approaches.result c.in_ok-put_others.ensures
    (rw (c.approaches.ensures, c.arrivals.ensures, c.approaches-splits.ensures, c.splits-2.ensures.approaches) at c.put_approaches.ensures)))
