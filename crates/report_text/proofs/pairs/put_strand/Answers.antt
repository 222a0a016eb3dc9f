use Rattle.std.proofs.Common.{flat_map}
use Rattle.std.specs.Prelude.{slice_get}
use Rattle.outside.proofs.PutsFacts.{front-stopped, puts-then}
use Rattle.report_text.specs.Pairs.{fill_line, start_line}
use Rattle.report_text.proofs.pairs.put_strand.Goals as goal

pub returns-in_err-put_start : goal.returns-in_err-put_start
returns-in_err-put_start g c =
    let s = c.args.config.now in
    let x = c.args.strand.now in
    front-stopped _ _ (start_line (slice_get s.specs x.spec) x) (flat_map (fill_line s.window) x.fills) _ c.from_residual.ensures.0 (rw c.spec_at.ensures at c.in_err-put_start.ensures)

pub returns : goal.returns
returns g c =
    let s = c.args.config.now in
    let x = c.args.strand.now in
    puts-then _ _ _ (start_line (slice_get s.specs x.spec) x) (flat_map (fill_line s.window) x.fills) c.put_fills.result (rw c.spec_at.ensures at c.in_ok-put_start.ensures) (rw (c.window.ensures, c.list.ensures) at c.put_fills.ensures)
