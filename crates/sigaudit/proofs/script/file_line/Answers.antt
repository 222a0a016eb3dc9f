use Rattle.std.proofs.Common.{◌≡◌, ◌∙◌, refl, arith, ◌<◌, ◌≤◌, ap}
use Rattle.sig_base.specs.Window.{Span}
use Rattle.sig_base.specs.declared.values.EditError.TheVariants.{OutOfWindow}
use Rattle.session.specs.Edits.{hour_change}
use Rattle.report_text.specs.declared.refusal.Refusal.TheVariants.{Edit}
use Rattle.ring_config.specs.Settings.{Settings}
use Rattle.sigaudit.specs.Turns.{Turn, refuses}
use Rattle.sigaudit.specs.Script.{hour_bytes, IsFetched}
use Rattle.sigaudit.specs.Run.{world}
use Rattle.sigaudit.proofs.CountFacts.{inside_counted, outside_counted}
use Rattle.sigaudit.proofs.TakeFacts.{caused_of_by, never_of_by, takes_of_by}
use Rattle.sigaudit.proofs.LineFacts.{by_bad, inside_line, outside_line}
use Rattle.sigaudit.proofs.script.file_line.Goals as goal

pub fetch_line-requires : goal.fetch_line-requires
fetch_line-requires g c =
    let same : c.hours.result ≡ c.args.session.now.config.window.hours = c.hours.ensures.value ∙ ap (λ (w : Span). w.hours) c.window.ensures ∙ ap (λ (k : Settings). k.window.hours) c.config.ensures.value in
    let within = c.if-load-hours.false in
    omega arith

pub returns-then-load-hours-clause-turn : goal.returns-then-load-hours-clause-turn
returns-then-load-hours-clause-turn g c = λ files told.
    let same : c.hours.result ≡ c.args.session.now.config.window.hours = c.hours.ensures.value ∙ ap (λ (w : Span). w.hours) c.window.ensures ∙ ap (λ (k : Settings). k.window.hours) c.config.ensures.value in
    let past : c.args.session.now.config.window.hours ≤ c.args.load.now.hour = let t = c.if-load-hours.true in omega arith in
    takes_of_by (IsFetched c.args.session.now.config c.args.load.now.number c.args.load.now.hour (hour_change c.args.load.now.replaces) c.args.session.now.store (hour_bytes files c.args.session.now.config c.args.load.now.hour c.args.load.now.name.now)) (g.S.Shelf.counts c.args.shelf.now) (g.S.Shelf.counts c.args.shelf.now) _ _ c.args.session.now.store c.refuse.result refl (outside_line files c.args.session.now.config c.config-then-load-hours.result.now c.args.load.now.number c.args.load.now.hour c.args.load.now.name.now (hour_change c.args.load.now.replaces) c.args.session.now.store _ _ c.refuse.result c.config-then-load-hours.ensures.value past c.refuse.ensures)

pub returns-then-load-hours-clause-cause : goal.returns-then-load-hours-clause-cause
returns-then-load-hours-clause-cause g c = caused_of_by (λ (t : Turn). t ≡ refuses c.args.session.now.config c.args.load.now.number (Edit OutOfWindow) c.args.session.now.store) (g.S.Shelf.counts c.args.shelf.now) (g.S.Shelf.counts c.args.shelf.now) _ _ c.args.session.now.store c.refuse.result refl (by_bad c.args.session.now.config c.config-then-load-hours.result.now c.args.load.now.number (Edit OutOfWindow) c.args.session.now.store _ _ c.refuse.result c.config-then-load-hours.ensures.value c.refuse.ensures)

pub returns-then-load-hours-clause-never_fall : goal.returns-then-load-hours-clause-never_fall
returns-then-load-hours-clause-never_fall g c = never_of_by (λ (t : Turn). t ≡ refuses c.args.session.now.config c.args.load.now.number (Edit OutOfWindow) c.args.session.now.store) (g.S.Shelf.counts c.args.shelf.now) (g.S.Shelf.counts c.args.shelf.now) _ _ c.args.session.now.store c.refuse.result (omega arith) (omega arith) (omega arith) (by_bad c.args.session.now.config c.config-then-load-hours.result.now c.args.load.now.number (Edit OutOfWindow) c.args.session.now.store _ _ c.refuse.result c.config-then-load-hours.ensures.value c.refuse.ensures)

pub returns-clause-turn : goal.returns-clause-turn
returns-clause-turn g c = λ files told.
    let same : c.hours.result ≡ c.args.session.now.config.window.hours = c.hours.ensures.value ∙ ap (λ (w : Span). w.hours) c.window.ensures ∙ ap (λ (k : Settings). k.window.hours) c.config.ensures.value in
    let within : c.args.load.now.hour < c.args.session.now.config.window.hours = let t = c.if-load-hours.false in omega arith in
    inside_line files c.args.session.now.config c.args.load.now.number c.args.load.now.hour c.args.load.now.name.now (hour_change c.args.load.now.replaces) c.args.session.now.store c.fetch_line.new.session.store
    (world (g.S.Shelf.counts c.args.shelf.now) (g.K.Sink.taken c.args.sink.now)) (world (g.S.Shelf.counts c.fetch_line.new.shelf) (g.K.Sink.taken c.fetch_line.new.sink)) c.fetch_line.result within (c.fetch_line.ensures.turn files told)

pub returns-then-load-hours-clause-opens : goal.returns-then-load-hours-clause-opens
returns-then-load-hours-clause-opens g c = λ files told.
    let same : c.hours.result ≡ c.args.session.now.config.window.hours = c.hours.ensures.value ∙ ap (λ (w : Span). w.hours) c.window.ensures ∙ ap (λ (k : Settings). k.window.hours) c.config.ensures.value in
    let past : c.args.session.now.config.window.hours ≤ c.args.load.now.hour = let t = c.if-load-hours.true in omega arith in
    outside_counted files c.args.session.now.config c.args.load.now.hour c.args.load.now.name.now (hour_change c.args.load.now.replaces) c.args.session.now.store c.args.session.now.waiting c.args.reads.now c.refuse.result past

pub returns-clause-opens : goal.returns-clause-opens
returns-clause-opens g c = λ files told.
    let same : c.hours.result ≡ c.args.session.now.config.window.hours = c.hours.ensures.value ∙ ap (λ (w : Span). w.hours) c.window.ensures ∙ ap (λ (k : Settings). k.window.hours) c.config.ensures.value in
    let inside : c.args.load.now.hour < c.args.session.now.config.window.hours = let t = c.if-load-hours.false in omega arith in
    inside_counted files c.args.session.now.config c.args.load.now.hour c.args.load.now.name.now (hour_change c.args.load.now.replaces) c.args.session.now.store c.args.session.now.waiting c.fetch_line.new.session.waiting c.args.reads.now c.fetch_line.new.reads c.fetch_line.result inside (c.fetch_line.ensures.opens files told)
