use Rattle.std.proofs.Common.{◌≡◌, ◌<◌, ◌≤◌, ◌∙◌, ap, arith}
use Rattle.sig_base.specs.Window.{Span}
use Rattle.ring_config.specs.Settings.{Settings}
use Rattle.sigaudit.proofs.AuditFacts.{verdicts_inside, verdicts_outside}
use Rattle.sigaudit.proofs.audit.verdicts_line.Goals as goal

pub returns-then-hour-hours-clause-turn : goal.returns-then-hour-hours-clause-turn
returns-then-hour-hours-clause-turn g c =
    let same : c.hours.result ≡ c.args.session.now.config.window.hours = c.hours.ensures.value ∙ ap (λ (w : Span). w.hours) c.window.ensures ∙ ap (λ (k : Settings). k.window.hours) c.config.ensures.value in
    let past : c.args.session.now.config.window.hours ≤ c.args.hour = let t = c.if-hour-hours.true in omega arith in
    verdicts_outside c.args.session.now.config c.config-then-hour-hours.result.now c.args.number c.args.hour c.args.session.now.store _ _ c.refuse.result c.config-then-hour-hours.ensures.value past c.refuse.ensures

pub hour_verdicts-requires : goal.hour_verdicts-requires
hour_verdicts-requires g c =
    let same : c.hours.result ≡ c.args.session.now.config.window.hours = c.hours.ensures.value ∙ ap (λ (w : Span). w.hours) c.window.ensures ∙ ap (λ (k : Settings). k.window.hours) c.config.ensures.value in
    let t = c.if-hour-hours.false in omega arith

pub returns-clause-turn : goal.returns-clause-turn
returns-clause-turn g c =
    let same : c.hours.result ≡ c.args.session.now.config.window.hours = c.hours.ensures.value ∙ ap (λ (w : Span). w.hours) c.window.ensures ∙ ap (λ (k : Settings). k.window.hours) c.config.ensures.value in
    let lt : c.args.hour < c.args.session.now.config.window.hours = let t = c.if-hour-hours.false in omega arith in
    verdicts_inside c.args.session.now.config c.args.number c.args.hour c.args.session.now.store _ _ c.hour_verdicts.result lt c.hour_verdicts.ensures.turn
