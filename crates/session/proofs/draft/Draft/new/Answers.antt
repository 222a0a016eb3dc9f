use Rattle.std.proofs.Common.{◌∙◌, Option, None}
use Rattle.std.proofs.lemmas.List.{length-replicate}
use Rattle.sig_base.specs.HourRows.{Shown}
use Rattle.hour_store.proofs.StoreLaws.{nothing_is_store}
use Rattle.signal_log.proofs.Lawful.{nothing}
use Rattle.rule_audit.proofs.Tracked.{channels_are}
use Rattle.session.proofs.draft.Draft.new.Goals as goal

abbrev no_rows : Option Shown
no_rows = None

pub invariant_of-result : goal.invariant_of-result
invariant_of-result g c =
    let cfg = c.args.config in
    let n = c.hours-hours.result in
    let made = c.in_ok-rules.ensures in
    rw made.store (record {
      sound = c.hours-hours.ensures.sound;
      is_store = nothing_is_store n c.hours-hours.ensures.some c.hours-hours.ensures.few;
      hours = length-replicate n (no_rows) ∙ c.hours-hours.ensures.value;
      rules = made.rules;
      history = nothing cfg.specs n (channels_are cfg c.hours-hours.ensures.sound);
      kept = made.kept;
    })
