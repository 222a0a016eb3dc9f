use Rattle.std.proofs.Common.{subst, pos, ◌↔◌, List, IsTrue, IfOk}
use Rattle.colour_machine.specs.Rules.{Rules}
use Rattle.span_set.specs.declared.set.Span.{Span}
use Rattle.decisive.specs.Moves.{KeepsBy, NoneKeeps, NoneKeepsFrom}
use Rattle.decisive.specs.Breaks.{track_of}
use Rattle.decisive.proofs.judge.walk_breaks.Goals as goal

pub returns-in-Free : goal.returns-in-Free
returns-in-Free c =
    let p = c.args.part in
    let x = c.args.question.now.at in
    rw c.in-Free.is (subst (λ (m : Rules). IfOk c.is_broken_from.result (λ b. IsTrue b ↔ NoneKeepsFrom m c.in-Free.from c.args.to.now (KeepsBy p.keep (pos x)) c.args.on.now)) c.machine_of-machine.ensures c.is_broken_from.ensures)

pub returns-in-Kept : goal.returns-in-Kept
returns-in-Kept c =
    let p = c.args.part in
    let x = c.args.question.now.at in
    let one = subst (λ (m : Rules). IfOk c.is_broken_after.result (λ b. IsTrue b ↔ NoneKeeps m c.at-past.result.now c.args.to.now (KeepsBy p.keep (pos x)) c.args.on.now)) c.machine_of-machine.ensures c.is_broken_after.ensures in
    rw c.in-Kept.is (subst (λ (sets : List (List Span)). IfOk c.is_broken_after.result (λ b. IsTrue b ↔ NoneKeeps (track_of c.args.question.now.specs.now p.spec).rules sets c.args.to.now (KeepsBy p.keep (pos x)) c.args.on.now)) c.at-past.ensures one)
