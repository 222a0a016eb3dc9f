use Rattle.std.proofs.Common.{◌∙◌, ◌+◌, ◌<◌, false, arith, length, sym}
use Rattle.std.proofs.lemmas.List.{get_or_default}
use Rattle.session.specs.Links.{AreMarked}
use Rattle.session.proofs.GrowLaws.{grow_same}
use Rattle.session.proofs.OpenLaws.{grow_opened}
use Rattle.session.proofs.StepLaws.{on_ok_to}
use Rattle.session.proofs.WaitLaws.{marked_still, once_none, once_on}
use Rattle.session.proofs.settle.settle_next.Goals as goal

pub index-requires : goal.index-requires
index-requires g c =
    let room = c.requires.kept.room in
    let lt = c.requires.in_store in
    omega arith

pub returns-then-not-index-clause-marked : goal.returns-then-not-index-clause-marked
returns-then-not-index-clause-marked g c =
    let room = c.requires.kept.room in
    let lt = c.requires.in_store in
    let within : c.args.hour < length c.args.worked.now.waiting.items = omega arith in
    let at = c.index.ensures ∙ get_or_default c.args.worked.now.waiting.items c.args.hour c.index.result.now false within in
    marked_still c.args.hour c.args.worked.now.waiting.items (sym at ∙ c.if-not-index.true)

pub returns-then-not-index-clause-opens : goal.returns-then-not-index-clause-opens
returns-then-not-index-clause-opens g c = once_none c.args.worked.now.waiting.items c.args.reads.now

pub returns-clause-opens : goal.returns-clause-opens
returns-clause-opens g c =
    let room = c.requires.kept.room in
    let lt = c.requires.in_store in
    let within : c.args.hour < length c.args.worked.now.waiting.items = omega arith in
    let at = c.index.ensures ∙ get_or_default c.args.worked.now.waiting.items c.args.hour c.index.result.now false within in
    on_ok_to c.settle_hour.result (AreMarked c.args.hour (c.args.hour + 1) false c.args.worked.now.waiting.items c.settle_hour.new.worked.waiting.items) _ (λ mark. once_on c.args.worked.now.waiting.items c.args.worked.now.waiting.items c.settle_hour.new.worked.waiting.items c.args.reads.now c.args.reads.now c.settle_hour.new.reads c.args.hour (sym at ∙ c.if-not-index.false) (once_none c.args.worked.now.waiting.items c.args.reads.now) mark c.settle_hour.ensures.once) c.settle_hour.ensures.marked

pub returns-clause-grow : goal.returns-clause-grow
returns-clause-grow g c = grow_opened _ _ _ _ _ _ c.settle_hour.ensures.once

pub returns-then-not-index-clause-grow : goal.returns-then-not-index-clause-grow
returns-then-not-index-clause-grow g c = grow_same _
