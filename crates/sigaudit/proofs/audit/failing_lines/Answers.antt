use Rattle.std.proofs.Common.{◌≡◌, ◌<◌, ◌≤◌, ◌∙◌, ap, arith}
use Rattle.sig_base.specs.Window.{Span}
use Rattle.ring_config.specs.Settings.{Settings}
use Rattle.sigaudit.proofs.GrowFacts.{grow_on}
use Rattle.sigaudit.proofs.AuditFacts.{failing_done, failing_on}
use Rattle.sigaudit.proofs.audit.failing_lines.Goals as goal

pub returns-in_err-add_hour-clause-grow : goal.returns-in_err-add_hour-clause-grow
returns-in_err-add_hour-clause-grow g c = grow_on _ _ _ c.loop-hour.invariant.grow c.add_hour.ensures.grow

pub loop-hour-preserved : goal.loop-hour-preserved
loop-hour-preserved g c =
    let same : c.hours-hours.result ≡ c.args.session.now.config.window.hours = c.hours-hours.ensures.value ∙ ap (λ (w : Span). w.hours) c.window.ensures ∙ ap (λ (k : Settings). k.window.hours) c.config.ensures.value in
    let lt : c.loop-hour.hour < c.args.session.now.config.window.hours = let t = c.loop-hour-test.true in omega arith in
    record {
      on = failing_on c.args.session.now.config c.args.session.now.store c.loop-hour.failing.items c.add_hour.new.failing.items c.loop-hour.hour lt c.loop-hour.invariant.on c.in_ok-add_hour.ensures.added;
      grow = grow_on _ _ _ c.loop-hour.invariant.grow c.in_ok-add_hour.ensures.grow;
    }

pub returns-clause-lines : goal.returns-clause-lines
returns-clause-lines g c =
    let same : c.hours-hours.result ≡ c.args.session.now.config.window.hours = c.hours-hours.ensures.value ∙ ap (λ (w : Span). w.hours) c.window.ensures ∙ ap (λ (k : Settings). k.window.hours) c.config.ensures.value in
    let past : c.args.session.now.config.window.hours ≤ c.loop-hour.hour = let t = c.loop-hour-test.false in omega arith in
    failing_done c.args.session.now.config c.args.session.now.store c.loop-hour.failing.items c.loop-hour.hour past c.loop-hour.invariant.on
