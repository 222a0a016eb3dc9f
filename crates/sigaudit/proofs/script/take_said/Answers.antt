use Rattle.std.proofs.Common.{◌≡◌, ◌∙◌, refl, ap, sym, arith, true, false, None, Ok, nat_lt}
use Rattle.script_lines.specs.Words as line
use Rattle.script_lines.specs.Seen.{seen, seen_edit}
use Rattle.report_text.specs.declared.refusal.Refusal.TheVariants.{BadLine}
use Rattle.session.specs.Edits.{change_of, hour_change}
use Rattle.sigaudit.specs.Run.{world}
use Rattle.sigaudit.specs.Turns.{Turn, refuses}
use Rattle.sigaudit.specs.Audit.{AreVerdicts, IsAudited}
use Rattle.sigaudit.specs.Points.{points_of_phase}
use Rattle.sigaudit.specs.Offsets.{offsets_of}
use Rattle.sigaudit.specs.Script.{edit_said, hour_bytes, IsEdited, IsFetched, IsMeasured, IsMeasuredOf}
use Rattle.sigaudit.proofs.CountFacts.{bad_still, hour_still, line_edited, line_loaded, line_replaced, line_settled, line_still, measures_still, offsets_counted, points_counted, skip_still}
use Rattle.sigaudit.proofs.TakeFacts.{caused_of_by, never_of_by}
use Rattle.sigaudit.proofs.LineFacts.{by_bad, line_as, line_by, line_skipped, turn_audit, turn_bad, turn_edit, turn_hour, turn_load, turn_measures, turn_offsets, turn_points, turn_replace, turn_verdicts}
use Rattle.sigaudit.proofs.script.take_said.Goals as goal

pub returns-in-Skip-clause-turn : goal.returns-in-Skip-clause-turn
returns-in-Skip-clause-turn g c = λ files told.
    line_skipped files c.args.session.now.config c.args.number (seen c.args.line) c.args.session.now.store (g.S.Shelf.counts c.args.shelf.now) (g.K.Sink.taken c.args.sink.now) (ap seen c.in-Skip.is)

pub returns-in-Bad-clause-turn : goal.returns-in-Bad-clause-turn
returns-in-Bad-clause-turn g c = λ files told.
    line_by files c.args.session.now.config c.args.number (seen c.args.line) line.bad c.args.session.now.store (λ (t : Turn). t ≡ refuses c.args.session.now.config c.args.number BadLine c.args.session.now.store) (g.S.Shelf.counts c.args.shelf.now) _ _ c.args.session.now.store c.refuse.result (ap seen c.in-Bad.is) (turn_bad files c.args.session.now.config c.args.number c.args.session.now.store) (by_bad c.args.session.now.config c.config.result.now c.args.number BadLine c.args.session.now.store _ _ c.refuse.result c.config.ensures.value c.refuse.ensures)

pub returns-in-Bad-clause-cause : goal.returns-in-Bad-clause-cause
returns-in-Bad-clause-cause g c = caused_of_by (λ (t : Turn). t ≡ refuses c.args.session.now.config c.args.number BadLine c.args.session.now.store) (g.S.Shelf.counts c.args.shelf.now) (g.S.Shelf.counts c.args.shelf.now) _ _ c.args.session.now.store c.refuse.result refl (by_bad c.args.session.now.config c.config.result.now c.args.number BadLine c.args.session.now.store _ _ c.refuse.result c.config.ensures.value c.refuse.ensures)

pub returns-in-Bad-clause-never_fall : goal.returns-in-Bad-clause-never_fall
returns-in-Bad-clause-never_fall g c = never_of_by (λ (t : Turn). t ≡ refuses c.args.session.now.config c.args.number BadLine c.args.session.now.store) (g.S.Shelf.counts c.args.shelf.now) (g.S.Shelf.counts c.args.shelf.now) _ _ c.args.session.now.store c.refuse.result (omega arith) (omega arith) (omega arith) (by_bad c.args.session.now.config c.config.result.now c.args.number BadLine c.args.session.now.store _ _ c.refuse.result c.config.ensures.value c.refuse.ensures)

pub returns-in-Edit-clause-turn : goal.returns-in-Edit-clause-turn
returns-in-Edit-clause-turn g c = λ files told.
    line_by files c.args.session.now.config c.args.number (seen c.args.line) (seen_edit c.in-Edit.edit) c.args.session.now.store (IsEdited c.args.session.now.config c.args.number None c.args.session.now.store (change_of c.plain_edit-edit.result)) (g.S.Shelf.counts c.args.shelf.now) _ _ c.edit_line.new.session.store c.edit_line.result (ap seen c.in-Edit.is) (turn_edit files c.args.session.now.config c.args.number (seen_edit c.in-Edit.edit) (change_of c.plain_edit-edit.result) c.args.session.now.store (sym c.plain_edit-edit.ensures)) (c.edit_line.ensures.turn)

pub returns-in-Edit-clause-cause : goal.returns-in-Edit-clause-cause
returns-in-Edit-clause-cause g c = caused_of_by (IsEdited c.args.session.now.config c.args.number None c.args.session.now.store (change_of c.plain_edit-edit.result)) (g.S.Shelf.counts c.args.shelf.now) (g.S.Shelf.counts c.args.shelf.now) _ _ c.edit_line.new.session.store c.edit_line.result refl (c.edit_line.ensures.turn)

pub returns-in-Edit-clause-never_fall : goal.returns-in-Edit-clause-never_fall
returns-in-Edit-clause-never_fall g c = never_of_by (IsEdited c.args.session.now.config c.args.number None c.args.session.now.store (change_of c.plain_edit-edit.result)) (g.S.Shelf.counts c.args.shelf.now) (g.S.Shelf.counts c.args.shelf.now) _ _ c.edit_line.new.session.store c.edit_line.result (omega arith) (omega arith) (omega arith) (c.edit_line.ensures.turn)

pub returns-in-Audit-clause-turn : goal.returns-in-Audit-clause-turn
returns-in-Audit-clause-turn g c = λ files told.
    line_by files c.args.session.now.config c.args.number (seen c.args.line) line.audit c.args.session.now.store (IsAudited c.args.session.now.config c.args.number c.args.session.now.store) (g.S.Shelf.counts c.args.shelf.now) _ _ c.audit_line.new.session.store c.audit_line.result (ap seen c.in-Audit.is) (turn_audit files c.args.session.now.config c.args.number c.args.session.now.store) (c.audit_line.ensures.turn)

pub returns-in-Audit-clause-cause : goal.returns-in-Audit-clause-cause
returns-in-Audit-clause-cause g c = caused_of_by (IsAudited c.args.session.now.config c.args.number c.args.session.now.store) (g.S.Shelf.counts c.args.shelf.now) (g.S.Shelf.counts c.args.shelf.now) _ _ c.audit_line.new.session.store c.audit_line.result refl (c.audit_line.ensures.turn)

pub returns-in-Audit-clause-never_fall : goal.returns-in-Audit-clause-never_fall
returns-in-Audit-clause-never_fall g c = never_of_by (IsAudited c.args.session.now.config c.args.number c.args.session.now.store) (g.S.Shelf.counts c.args.shelf.now) (g.S.Shelf.counts c.args.shelf.now) _ _ c.audit_line.new.session.store c.audit_line.result (omega arith) (omega arith) (omega arith) (c.audit_line.ensures.turn)

pub returns-in-Verdicts-clause-turn : goal.returns-in-Verdicts-clause-turn
returns-in-Verdicts-clause-turn g c = λ files told.
    line_by files c.args.session.now.config c.args.number (seen c.args.line) (line.verdicts c.in-Verdicts.hour) c.args.session.now.store (AreVerdicts c.args.session.now.config c.args.number c.in-Verdicts.hour c.args.session.now.store (nat_lt c.in-Verdicts.hour c.args.session.now.config.window.hours)) (g.S.Shelf.counts c.args.shelf.now) _ _ c.args.session.now.store c.verdicts_line.result (ap seen c.in-Verdicts.is) (turn_verdicts files c.args.session.now.config c.args.number c.in-Verdicts.hour c.args.session.now.store) (c.verdicts_line.ensures.turn)

pub returns-in-Verdicts-clause-cause : goal.returns-in-Verdicts-clause-cause
returns-in-Verdicts-clause-cause g c = caused_of_by (AreVerdicts c.args.session.now.config c.args.number c.in-Verdicts.hour c.args.session.now.store (nat_lt c.in-Verdicts.hour c.args.session.now.config.window.hours)) (g.S.Shelf.counts c.args.shelf.now) (g.S.Shelf.counts c.args.shelf.now) _ _ c.args.session.now.store c.verdicts_line.result refl (c.verdicts_line.ensures.turn)

pub returns-in-Verdicts-clause-never_fall : goal.returns-in-Verdicts-clause-never_fall
returns-in-Verdicts-clause-never_fall g c = never_of_by (AreVerdicts c.args.session.now.config c.args.number c.in-Verdicts.hour c.args.session.now.store (nat_lt c.in-Verdicts.hour c.args.session.now.config.window.hours)) (g.S.Shelf.counts c.args.shelf.now) (g.S.Shelf.counts c.args.shelf.now) _ _ c.args.session.now.store c.verdicts_line.result (omega arith) (omega arith) (omega arith) (c.verdicts_line.ensures.turn)

pub returns-in-Measures-clause-turn : goal.returns-in-Measures-clause-turn
returns-in-Measures-clause-turn g c = λ files told.
    line_by files c.args.session.now.config c.args.number (seen c.args.line) line.measures c.args.session.now.store (IsMeasured c.args.session.now.config c.args.number c.args.session.now.store) (g.S.Shelf.counts c.args.shelf.now) _ _ c.measures_line.new.session.store c.measures_line.result (ap seen c.in-Measures.is) (turn_measures files c.args.session.now.config c.args.number c.args.session.now.store) (c.measures_line.ensures.turn)

pub returns-in-Measures-clause-cause : goal.returns-in-Measures-clause-cause
returns-in-Measures-clause-cause g c = caused_of_by (IsMeasured c.args.session.now.config c.args.number c.args.session.now.store) (g.S.Shelf.counts c.args.shelf.now) (g.S.Shelf.counts c.args.shelf.now) _ _ c.measures_line.new.session.store c.measures_line.result refl (c.measures_line.ensures.turn)

pub returns-in-Measures-clause-never_fall : goal.returns-in-Measures-clause-never_fall
returns-in-Measures-clause-never_fall g c = never_of_by (IsMeasured c.args.session.now.config c.args.number c.args.session.now.store) (g.S.Shelf.counts c.args.shelf.now) (g.S.Shelf.counts c.args.shelf.now) _ _ c.measures_line.new.session.store c.measures_line.result (omega arith) (omega arith) (omega arith) (c.measures_line.ensures.turn)

pub returns-in-MeasuresOf-clause-turn : goal.returns-in-MeasuresOf-clause-turn
returns-in-MeasuresOf-clause-turn g c = λ files told.
    line_by files c.args.session.now.config c.args.number (seen c.args.line) (line.measures_of c.in-MeasuresOf.hour) c.args.session.now.store (IsMeasuredOf c.args.session.now.config c.args.number c.in-MeasuresOf.hour c.args.session.now.store (nat_lt c.in-MeasuresOf.hour c.args.session.now.config.window.hours)) (g.S.Shelf.counts c.args.shelf.now) _ _ c.hour_line.new.session.store c.hour_line.result (ap seen c.in-MeasuresOf.is) (turn_hour files c.args.session.now.config c.args.number c.in-MeasuresOf.hour c.args.session.now.store) (c.hour_line.ensures.turn)

pub returns-in-MeasuresOf-clause-cause : goal.returns-in-MeasuresOf-clause-cause
returns-in-MeasuresOf-clause-cause g c = caused_of_by (IsMeasuredOf c.args.session.now.config c.args.number c.in-MeasuresOf.hour c.args.session.now.store (nat_lt c.in-MeasuresOf.hour c.args.session.now.config.window.hours)) (g.S.Shelf.counts c.args.shelf.now) (g.S.Shelf.counts c.args.shelf.now) _ _ c.hour_line.new.session.store c.hour_line.result refl (c.hour_line.ensures.turn)

pub returns-in-MeasuresOf-clause-never_fall : goal.returns-in-MeasuresOf-clause-never_fall
returns-in-MeasuresOf-clause-never_fall g c = never_of_by (IsMeasuredOf c.args.session.now.config c.args.number c.in-MeasuresOf.hour c.args.session.now.store (nat_lt c.in-MeasuresOf.hour c.args.session.now.config.window.hours)) (g.S.Shelf.counts c.args.shelf.now) (g.S.Shelf.counts c.args.shelf.now) _ _ c.hour_line.new.session.store c.hour_line.result (omega arith) (omega arith) (omega arith) (c.hour_line.ensures.turn)

pub returns-in-Points-clause-turn : goal.returns-in-Points-clause-turn
returns-in-Points-clause-turn g c = λ files told.
    line_by files c.args.session.now.config c.args.number (seen c.args.line) (line.points c.in-Points.phase) c.args.session.now.store (λ (t : Turn). t ≡ points_of_phase c.args.session.now.config c.args.number c.in-Points.phase c.args.session.now.store) (g.S.Shelf.counts c.args.shelf.now) _ _ c.args.session.now.store c.points_line.result (ap seen c.in-Points.is) (turn_points files c.args.session.now.config c.args.number c.in-Points.phase c.args.session.now.store) (c.points_line.ensures.turn)

pub returns-in-Points-clause-cause : goal.returns-in-Points-clause-cause
returns-in-Points-clause-cause g c = caused_of_by (λ (t : Turn). t ≡ points_of_phase c.args.session.now.config c.args.number c.in-Points.phase c.args.session.now.store) (g.S.Shelf.counts c.args.shelf.now) (g.S.Shelf.counts c.args.shelf.now) _ _ c.args.session.now.store c.points_line.result refl (c.points_line.ensures.turn)

pub returns-in-Points-clause-never_fall : goal.returns-in-Points-clause-never_fall
returns-in-Points-clause-never_fall g c = never_of_by (λ (t : Turn). t ≡ points_of_phase c.args.session.now.config c.args.number c.in-Points.phase c.args.session.now.store) (g.S.Shelf.counts c.args.shelf.now) (g.S.Shelf.counts c.args.shelf.now) _ _ c.args.session.now.store c.points_line.result (omega arith) (omega arith) (omega arith) (c.points_line.ensures.turn)

pub returns-in-Offsets-clause-turn : goal.returns-in-Offsets-clause-turn
returns-in-Offsets-clause-turn g c = λ files told.
    line_by files c.args.session.now.config c.args.number (seen c.args.line) (line.offsets c.in-Offsets.name.now) c.args.session.now.store (λ (t : Turn). t ≡ offsets_of c.args.session.now.config c.args.number c.in-Offsets.name.now c.args.session.now.store) (g.S.Shelf.counts c.args.shelf.now) _ _ c.args.session.now.store c.offsets_line.result (ap seen c.in-Offsets.is) (turn_offsets files c.args.session.now.config c.args.number c.in-Offsets.name.now c.args.session.now.store) (c.offsets_line.ensures.turn)

pub returns-in-Offsets-clause-cause : goal.returns-in-Offsets-clause-cause
returns-in-Offsets-clause-cause g c = caused_of_by (λ (t : Turn). t ≡ offsets_of c.args.session.now.config c.args.number c.in-Offsets.name.now c.args.session.now.store) (g.S.Shelf.counts c.args.shelf.now) (g.S.Shelf.counts c.args.shelf.now) _ _ c.args.session.now.store c.offsets_line.result refl (c.offsets_line.ensures.turn)

pub returns-in-Offsets-clause-never_fall : goal.returns-in-Offsets-clause-never_fall
returns-in-Offsets-clause-never_fall g c = never_of_by (λ (t : Turn). t ≡ offsets_of c.args.session.now.config c.args.number c.in-Offsets.name.now c.args.session.now.store) (g.S.Shelf.counts c.args.shelf.now) (g.S.Shelf.counts c.args.shelf.now) _ _ c.args.session.now.store c.offsets_line.result (omega arith) (omega arith) (omega arith) (c.offsets_line.ensures.turn)

pub returns-in-Load-clause-turn : goal.returns-in-Load-clause-turn
returns-in-Load-clause-turn g c = λ files told.
    line_as files c.args.session.now.config c.args.number (seen c.args.line) (line.load c.in-Load.hour c.in-Load.name.now) c.args.session.now.store (IsFetched c.args.session.now.config c.args.number c.in-Load.hour (hour_change false) c.args.session.now.store (hour_bytes files c.args.session.now.config c.in-Load.hour c.in-Load.name.now)) (world (g.S.Shelf.counts c.args.shelf.now) (g.K.Sink.taken c.args.sink.now)) (world (g.S.Shelf.counts c.file_line.new.shelf) (g.K.Sink.taken c.file_line.new.sink)) c.file_line.new.session.store c.file_line.result
    (ap seen c.in-Load.is) (turn_load files c.args.session.now.config c.args.number c.in-Load.hour c.in-Load.name.now c.args.session.now.store) (c.file_line.ensures.turn files told)

pub returns-in-Replace-clause-turn : goal.returns-in-Replace-clause-turn
returns-in-Replace-clause-turn g c = λ files told.
    line_as files c.args.session.now.config c.args.number (seen c.args.line) (line.replace c.in-Replace.hour c.in-Replace.name.now) c.args.session.now.store (IsFetched c.args.session.now.config c.args.number c.in-Replace.hour (hour_change true) c.args.session.now.store (hour_bytes files c.args.session.now.config c.in-Replace.hour c.in-Replace.name.now)) (world (g.S.Shelf.counts c.args.shelf.now) (g.K.Sink.taken c.args.sink.now)) (world (g.S.Shelf.counts c.file_line-in-Replace.new.shelf) (g.K.Sink.taken c.file_line-in-Replace.new.sink)) c.file_line-in-Replace.new.session.store c.file_line-in-Replace.result
    (ap seen c.in-Replace.is) (turn_replace files c.args.session.now.config c.args.number c.in-Replace.hour c.in-Replace.name.now c.args.session.now.store) (c.file_line-in-Replace.ensures.turn files told)

pub returns-in-Edit-clause-opens : goal.returns-in-Edit-clause-opens
returns-in-Edit-clause-opens g c = λ files told plain.
    line_edited files c.args.session.now.config (seen c.args.line) (change_of c.plain_edit-edit.result) c.args.session.now.store c.args.session.now.waiting c.edit_line.new.session.waiting c.args.reads.now c.edit_line.new.reads c.edit_line.result (sym c.plain_edit-edit.ensures ∙ ap (λ x. edit_said (seen x)) (sym c.in-Edit.is)) c.edit_line.ensures.opens

pub returns-in-Load-clause-opens : goal.returns-in-Load-clause-opens
returns-in-Load-clause-opens g c = λ files told plain.
    line_loaded files c.args.session.now.config (seen c.args.line) c.in-Load.hour c.in-Load.name.now c.args.session.now.store c.args.session.now.waiting c.file_line.new.session.waiting c.args.reads.now c.file_line.new.reads c.file_line.result (ap seen c.in-Load.is) (c.file_line.ensures.opens files told)

pub returns-in-Replace-clause-opens : goal.returns-in-Replace-clause-opens
returns-in-Replace-clause-opens g c = λ files told plain.
    line_replaced files c.args.session.now.config (seen c.args.line) c.in-Replace.hour c.in-Replace.name.now c.args.session.now.store c.args.session.now.waiting c.file_line-in-Replace.new.session.waiting c.args.reads.now c.file_line-in-Replace.new.reads c.file_line-in-Replace.result (ap seen c.in-Replace.is) (c.file_line-in-Replace.ensures.opens files told)

pub returns-in-Skip-clause-opens : goal.returns-in-Skip-clause-opens
returns-in-Skip-clause-opens g c = λ files told plain.
    line_still files c.args.session.now.config (seen c.args.line) line.skip c.args.session.now.store c.args.session.now.waiting c.args.reads.now (Ok false) (ap seen c.in-Skip.is) (λ h. skip_still files c.args.session.now.config c.args.session.now.store h)

pub returns-in-Bad-clause-opens : goal.returns-in-Bad-clause-opens
returns-in-Bad-clause-opens g c = λ files told plain.
    line_still files c.args.session.now.config (seen c.args.line) line.bad c.args.session.now.store c.args.session.now.waiting c.args.reads.now c.refuse.result (ap seen c.in-Bad.is) (λ h. bad_still files c.args.session.now.config c.args.session.now.store h)

pub returns-in-Measures-clause-opens : goal.returns-in-Measures-clause-opens
returns-in-Measures-clause-opens g c = λ files told plain.
    line_settled files c.args.session.now.config (seen c.args.line) line.measures c.args.session.now.store c.args.session.now.waiting c.measures_line.new.session.waiting c.args.reads.now c.measures_line.new.reads c.measures_line.result (ap seen c.in-Measures.is) (λ h. measures_still files c.args.session.now.config c.args.session.now.store h) c.measures_line.ensures.opens

pub returns-in-MeasuresOf-clause-opens : goal.returns-in-MeasuresOf-clause-opens
returns-in-MeasuresOf-clause-opens g c = λ files told plain.
    line_settled files c.args.session.now.config (seen c.args.line) (line.measures_of c.in-MeasuresOf.hour) c.args.session.now.store c.args.session.now.waiting c.hour_line.new.session.waiting c.args.reads.now c.hour_line.new.reads c.hour_line.result (ap seen c.in-MeasuresOf.is) (λ h. hour_still files c.args.session.now.config c.in-MeasuresOf.hour c.args.session.now.store h) c.hour_line.ensures.opens

pub returns-in-Points-clause-opens : goal.returns-in-Points-clause-opens
returns-in-Points-clause-opens g c = λ files told plain.
    points_counted files c.args.session.now.config (seen c.args.line) c.in-Points.phase c.args.session.now.store c.args.session.now.waiting c.args.reads.now c.points_line.new.reads c.points_line.result (ap seen c.in-Points.is) c.points_line.ensures.still plain

pub returns-in-Offsets-clause-opens : goal.returns-in-Offsets-clause-opens
returns-in-Offsets-clause-opens g c = λ files told plain.
    offsets_counted files c.args.session.now.config (seen c.args.line) c.in-Offsets.name.now c.args.session.now.store c.args.session.now.waiting c.args.reads.now c.offsets_line.new.reads c.offsets_line.result (ap seen c.in-Offsets.is) c.offsets_line.ensures.still plain
