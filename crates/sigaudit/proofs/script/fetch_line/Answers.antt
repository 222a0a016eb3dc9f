use Rattle.std.proofs.Common.{◌≡◌, arith}
use Rattle.session.specs.Edits.{hour_change}
use Rattle.sigaudit.specs.Turns.{Turn, refuses}
use Rattle.sigaudit.specs.Script.{hour_file, IsFetched}
use Rattle.sigaudit.proofs.CountFacts.{fetched_counted, missed_counted}
use Rattle.sigaudit.proofs.TakeFacts.{caused_of_by, never_of_by, takes_of_by}
use Rattle.sigaudit.proofs.LineFacts.{by_bad, fetch_refused}
use Rattle.sigaudit.proofs.script.fetch_line.Goals as goal

pub refuse-requires : goal.refuse-requires
refuse-requires g c = c.in-Missed.ensures.plain c.config.result.now.window

pub returns-in-Missed-clause-turn : goal.returns-in-Missed-clause-turn
returns-in-Missed-clause-turn g c = λ files told.
    takes_of_by (IsFetched c.args.session.now.config c.args.load.now.number c.args.load.now.hour (hour_change c.args.load.now.replaces) c.args.session.now.store (hour_file (files c.args.load.now.name.now))) (g.S.Shelf.counts c.args.shelf.now) (g.S.Shelf.counts c.fetch_hour.new.shelf) _ _ c.args.session.now.store c.refuse.result c.in-Missed.ensures.counts.1 (fetch_refused c.args.session.now.config c.config.result.now c.args.load.now.number c.args.load.now.hour (hour_change c.args.load.now.replaces) c.args.session.now.store (hour_file (files c.args.load.now.name.now)) c.in-Missed.refusal _ _ c.refuse.result c.config.ensures.value (c.in-Missed.ensures.told files told) c.refuse.ensures)

pub returns-in-Missed-clause-cause : goal.returns-in-Missed-clause-cause
returns-in-Missed-clause-cause g c = caused_of_by (λ (t : Turn). t ≡ refuses c.args.session.now.config c.args.load.now.number c.in-Missed.refusal c.args.session.now.store) (g.S.Shelf.counts c.args.shelf.now) (g.S.Shelf.counts c.fetch_hour.new.shelf) _ _ c.args.session.now.store c.refuse.result c.in-Missed.ensures.counts.1 (by_bad c.args.session.now.config c.config.result.now c.args.load.now.number c.in-Missed.refusal c.args.session.now.store _ _ c.refuse.result c.config.ensures.value c.refuse.ensures)

pub returns-in-Missed-clause-never_fall : goal.returns-in-Missed-clause-never_fall
returns-in-Missed-clause-never_fall g c =
    never_of_by (λ (t : Turn). t ≡ refuses c.args.session.now.config c.args.load.now.number c.in-Missed.refusal c.args.session.now.store) (g.S.Shelf.counts c.args.shelf.now) (g.S.Shelf.counts c.fetch_hour.new.shelf) _ _ c.args.session.now.store c.refuse.result c.in-Missed.ensures.counts.0 (let e = c.in-Missed.ensures.counts.1 in omega arith) c.in-Missed.ensures.counts.2 (by_bad c.args.session.now.config c.config.result.now c.args.load.now.number c.in-Missed.refusal c.args.session.now.store _ _ c.refuse.result c.config.ensures.value c.refuse.ensures)

pub returns-in-There-clause-opens : goal.returns-in-There-clause-opens
returns-in-There-clause-opens g c = λ files told.
    fetched_counted c.args.session.now.config c.args.load.now.hour (hour_change c.args.load.now.replaces) c.args.session.now.store (hour_file (files c.args.load.now.name.now)) c.fetch_hour.new.bytes.items c.deref.result.now c.args.session.now.waiting c.bytes_line.new.session.waiting c.args.reads.now c.bytes_line.new.reads c.bytes_line.result (c.in-There.ensures.told files told) c.deref.ensures.value c.bytes_line.ensures.opens

pub returns-in-Missed-clause-opens : goal.returns-in-Missed-clause-opens
returns-in-Missed-clause-opens g c = λ files told.
    missed_counted c.args.session.now.config c.args.load.now.hour (hour_change c.args.load.now.replaces) c.args.session.now.store (hour_file (files c.args.load.now.name.now)) c.in-Missed.refusal c.args.session.now.waiting c.args.reads.now c.refuse.result (c.in-Missed.ensures.told files told)
