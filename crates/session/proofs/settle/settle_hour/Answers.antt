use Rattle.std.proofs.Common.{◌∙◌, ◌+◌, ◌<◌, ◌≤◌, ◌++◌, ◌∷◌, [], List, ap, arith, length}
use Rattle.std.proofs.lemmas.List.{get_or_default}
use Rattle.hour_work.specs.Numbers.{Numbers, patched}
use Rattle.hour_work.specs.Points.{Carried}
use Rattle.session.specs.Links.{Ahead}
use Rattle.session.proofs.KeptLaws.{carry_is, future_is}
use Rattle.session.proofs.RenewLaws.{kept_settled}
use Rattle.session.proofs.settle.settle_hour.Goals as goal

pub part_between-requires-clause-before : goal.part_between-requires-clause-before
part_between-requires-clause-before g c =
    let lt = c.requires.in_store in
    let le : c.args.hour ≤ length c.args.store.now.hours = omega arith in
    carry_is c.args.config.now c.args.store.now c.args.worked.now.carries.items c.args.hour c.index.result.now c.requires.store c.requires.kept.forth le c.index.ensures

pub part_between-requires-clause-after : goal.part_between-requires-clause-after
part_between-requires-clause-after g c =
    let lt = c.requires.in_store in
    let le : c.args.hour + 1 ≤ length c.args.store.now.hours = omega arith in
    future_is c.args.config.now c.args.store.now c.args.worked.now.futures.items (c.args.hour + 1) c.index-2.result.now c.requires.store c.requires.kept.back le c.index-2.ensures

pub returns-clause-kept : goal.returns-clause-kept
returns-clause-kept g c =
    let worked = c.args.worked.now in
    let lt = c.requires.in_store in
    let n = c.requires.kept.forth.size in
    let m = c.requires.kept.back.size in
    let room : c.args.hour < length worked.carries.items = omega arith in
    let room2 : c.args.hour + 1 < length worked.futures.items = omega arith in
    let items = c.in_ok-push.ensures.items ∙ ap (λ (v : List Numbers). v ++ c.in_ok-part.part ∷ []) c.new-parts.ensures.items in
    let parts = c.as_mut_slice.ensures.value ∙ items in
    let made = c.exchange.ensures ∙ ap (λ (v : List Numbers). patched worked.report c.args.hour v) parts in
    let kept = kept_settled c.args.config.now c.args.store.now worked.waiting.items worked.carries.items worked.futures.items worked.report c.args.hour c.index.result.now c.index-2.result.now c.in_ok-part.part lt c.requires.kept c.in_ok-part.ensures.counts
    (λ (d : Carried). c.index.ensures ∙ get_or_default worked.carries.items c.args.hour c.index.result.now d room) (λ (d : Ahead). c.index-2.ensures ∙ get_or_default worked.futures.items (c.args.hour + 1) c.index-2.result.now d room2) in
    rw made kept
