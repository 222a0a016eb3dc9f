use Rattle.std.proofs.Common.{Ok, Err}
use Rattle.session.specs.Edits.{change_of, hour_change}
use Rattle.sigaudit.specs.declared.hour_file.Unread.TheVariants.{Records, Packed}
use Rattle.sigaudit.specs.HourFile.{hour_said}
use Rattle.sigaudit.specs.Script.{wanted_for}
use Rattle.sigaudit.proofs.CountFacts.{read_counted, said_as, unread_counted}
use Rattle.sigaudit.proofs.EditFacts.{bytes_refused}
use Rattle.sigaudit.proofs.script.bytes_line.Goals as goal

pub returns-in-Err-Records-clause-turn : goal.returns-in-Err-Records-clause-turn
returns-in-Err-Records-clause-turn g c =
    bytes_refused c.args.session.now.config c.config-config.result.now c.args.load.now.number c.args.load.now.hour (hour_change c.args.load.now.replaces) c.args.session.now.store c.signal.result.now c.window.result.now c.args.bytes.now (Records c.in-Err-Records.error) _ _ c.refuse.result c.config-config.ensures.value c.signal.ensures.value c.window.ensures (rw c.in-Err-Records.field-0-is at c.in-Err-Records.ensures.err) c.refuse.ensures

pub returns-in-Err-Packed-clause-turn : goal.returns-in-Err-Packed-clause-turn
returns-in-Err-Packed-clause-turn g c =
    bytes_refused c.args.session.now.config c.config-config.result.now c.args.load.now.number c.args.load.now.hour (hour_change c.args.load.now.replaces) c.args.session.now.store c.signal.result.now c.window.result.now c.args.bytes.now (Packed c.in-Err-Packed.error) _ _ c.refuse_packed.result c.config-config.ensures.value c.signal.ensures.value c.window.ensures (rw c.in-Err-Packed.field-0-is at c.in-Err-Packed.ensures.err) c.refuse_packed.ensures

pub returns-in-Ok-clause-opens : goal.returns-in-Ok-clause-opens
returns-in-Ok-clause-opens g c =
    let cfg = c.args.session.now.config in
    let read = said_as cfg c.config-config.result.now c.args.load.now.hour c.signal.result.now c.window.result.now c.args.bytes.now (Ok c.in-Ok.rows) c.config-config.ensures.value c.signal.ensures.value c.window.ensures c.in-Ok.ensures.ok in
    read_counted cfg (hour_change c.args.load.now.replaces) c.args.session.now.store (hour_said (wanted_for cfg c.args.load.now.hour) c.args.bytes.now) c.in-Ok.rows (change_of c.edit_of-edit.result) c.args.session.now.waiting c.edit_line.new.session.waiting c.args.reads.now c.edit_line.new.reads c.edit_line.result read c.edit_of-edit.ensures c.edit_line.ensures.opens

pub returns-in-Err-Records-clause-opens : goal.returns-in-Err-Records-clause-opens
returns-in-Err-Records-clause-opens g c =
    let cfg = c.args.session.now.config in
    let read = said_as cfg c.config-config.result.now c.args.load.now.hour c.signal.result.now c.window.result.now c.args.bytes.now (Err (Records c.in-Err-Records.error)) c.config-config.ensures.value c.signal.ensures.value c.window.ensures (rw c.in-Err-Records.field-0-is at c.in-Err-Records.ensures.err) in
    unread_counted cfg (hour_change c.args.load.now.replaces) c.args.session.now.store (hour_said (wanted_for cfg c.args.load.now.hour) c.args.bytes.now) (Records c.in-Err-Records.error) c.args.session.now.waiting c.args.reads.now c.refuse.result read

pub returns-in-Err-Packed-clause-opens : goal.returns-in-Err-Packed-clause-opens
returns-in-Err-Packed-clause-opens g c =
    let cfg = c.args.session.now.config in
    let read = said_as cfg c.config-config.result.now c.args.load.now.hour c.signal.result.now c.window.result.now c.args.bytes.now (Err (Packed c.in-Err-Packed.error)) c.config-config.ensures.value c.signal.ensures.value c.window.ensures (rw c.in-Err-Packed.field-0-is at c.in-Err-Packed.ensures.err) in
    unread_counted cfg (hour_change c.args.load.now.replaces) c.args.session.now.store (hour_said (wanted_for cfg c.args.load.now.hour) c.args.bytes.now) (Packed c.in-Err-Packed.error) c.args.session.now.waiting c.args.reads.now c.refuse_packed.result read
