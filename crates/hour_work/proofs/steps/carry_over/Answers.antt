use Rattle.signal_log.proofs.Calls.{over_leads}
use Rattle.rule_audit.proofs.Tracked.{channels_are}
use Rattle.hour_work.proofs.steps.carry_over.Goals as goal

pub returns-clause-fit : goal.returns-clause-fit
returns-clause-fit c =
    let same = c.kept.ensures.pasts in
    record { shape = rw same c.requires.shape; early = rw same c.requires.early }

pub returns-clause-carry : goal.returns-clause-carry
returns-clause-carry c = λ s has is.
    let cfg = c.args.config.now in
    let done = c.in_ok-way.ensures in
    let pasts = over_leads cfg.specs s c.args.place.now _ c.args.pasts (channels_are cfg done.sound) done.opened c.requires.over c.requires.shape c.requires.early has is.pasts in
    c.kept.ensures.carry cfg s has pasts (done.way s has is)
