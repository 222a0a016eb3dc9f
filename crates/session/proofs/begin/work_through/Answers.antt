use Rattle.std.proofs.Common.{◌-◌, arith, subst, sym}
use Rattle.hour_store.specs.Store.{Store}
use Rattle.signal_log.specs.Log.{HasHistory, log_of}
use Rattle.signal_log.proofs.Lawful.{no_history, nothing}
use Rattle.hour_work.specs.declared.steps.ForwardError.{ForwardError}
use Rattle.hour_work.specs.Points.{NamesRow}
use Rattle.rule_audit.proofs.Tracked.{channels_are}
use Rattle.session.specs.Links.{AreKeptBut}
use Rattle.session.proofs.RenewLaws.{none_at}
use Rattle.session.proofs.WaitLaws.{settled_patched}
use Rattle.session.proofs.begin.work_through.Goals as goal

pub renew-requires-clause-kept : goal.renew-requires-clause-kept
renew-requires-clause-kept c =
    let kept = c.args.worked.now in
    subst (λ (s : Store). AreKeptBut c.args.config.now s 0 (c.args.hours - 1) kept.waiting.items kept.carries.items kept.futures.items kept.report) (sym c.in_ok-store.ensures) c.requires.kept

pub renew-requires-clause-stays : goal.renew-requires-clause-stays
renew-requires-clause-stays c =
    let kept = c.args.worked.now in
    rw c.new-2.ensures.items (none_at c.args.config.now c.in_ok-store.store kept.waiting.items kept.carries.items kept.futures.items kept.report)

pub unreachable-requires : goal.unreachable-requires
unreachable-requires c =
    let cfg = c.args.config.now in
    let s = c.in_ok-store.store in
    let stop = subst (λ (e : ForwardError). NamesRow (log_of cfg.specs s) e) c.in-Err-Contradiction.field-0-is c.in-Err-Contradiction.ensures.stop in
    let some = subst (λ (t : Store). HasHistory (log_of cfg.specs t)) (sym c.in_ok-store.ensures) (nothing cfg.specs c.args.hours (channels_are cfg c.requires.sound)) in
    no_history cfg.specs s c.in-Err-Contradiction.field-0-0 (channels_are cfg c.requires.sound) c.in-Err-Contradiction.ensures.store stop some

pub returns-in-Ok-clause-kept : goal.returns-in-Ok-clause-kept
returns-in-Ok-clause-kept c =
    rw (c.adopt.ensures.carries, c.adopt.ensures.futures, c.adopt.ensures.report, c.adopt.ensures.waiting, ← c.in_ok-store.ensures) c.in-Ok.ensures.fresh.kept

pub returns-in-Ok-clause-settled : goal.returns-in-Ok-clause-settled
returns-in-Ok-clause-settled c =
    let fresh = c.in-Ok.ensures.fresh in
    let room = fresh.room in
    let count = fresh.marked in
    rw c.adopt.ensures.waiting (settled_patched c.in-Ok.fresh.start c.args.worked.now.waiting.items c.in-Ok.fresh.marks.items (omega arith) c.requires.settled (fresh.settled c.in-Ok.ensures.numbers))
