use Rattle.std.proofs.Common.{◌≡◌, ◌∙◌, inl, inr, refl, arith, length}
use Rattle.std.proofs.lemmas.Bool.{cases_lt}
use Rattle.session.proofs.GrowLaws.{grow_on}
use Rattle.session.proofs.WaitLaws.{grow_once, once_join, once_none, settled_all}
use Rattle.session.proofs.settle.settle_all.Goals as goal

pub loop-hour-init : goal.loop-hour-init
loop-hour-init g c = record { carries = refl; futures = refl; kept = c.requires.kept; settled = λ h lt. absurd (omega arith); opens = once_none c.args.worked.now.waiting.items c.args.reads.now }

pub returns-in_err-settle_next-clause-grow : goal.returns-in_err-settle_next-clause-grow
returns-in_err-settle_next-clause-grow g c = grow_on _ _ _ (grow_once _ _ _ _ c.loop-hour.invariant.opens) c.settle_next.ensures.grow

pub loop-hour-preserved : goal.loop-hour-preserved
loop-hour-preserved g c = record {
  carries = c.settle_next.ensures.carries ∙ c.loop-hour.invariant.carries;
  futures = c.settle_next.ensures.futures ∙ c.loop-hour.invariant.futures;
  kept = c.settle_next.ensures.kept;
  settled = λ h lt. elim (cases_lt h c.loop-hour.hour) [
    | inl below ↦ c.in_ok-settle_next.ensures.marked.outside h (inl below) ∙ c.loop-hour.invariant.settled h below
    | inr last ↦ c.in_ok-settle_next.ensures.marked.within h (omega arith) (omega arith)
  ];
  opens = once_join _ _ _ _ _ _ c.loop-hour.invariant.opens c.in_ok-settle_next.ensures.opens;
}

pub returns-clause-settled : goal.returns-clause-settled
returns-clause-settled g c =
    let room = c.loop-hour.invariant.kept.room in
    let n = c.hours-hour-end.ensures.value in
    let high = c.loop-hour.auto.hour-end in
    let end : c.loop-hour.hour ≡ length c.args.store.now.hours = omega arith in
    settled_all c.loop-hour.worked.waiting.items (length c.args.store.now.hours) room (λ h lt. c.loop-hour.invariant.settled h (omega arith))

pub returns-clause-grow : goal.returns-clause-grow
returns-clause-grow g c = grow_once _ _ _ _ c.loop-hour.invariant.opens
