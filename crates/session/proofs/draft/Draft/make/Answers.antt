use Rattle.std.proofs.Common.{◌≡◌, ◌∙◌, ◌+◌, ◌<◌, ℕ, ap, arith, length}
use Rattle.session.specs.Puts.{put_into}
use Rattle.session.specs.Sessions.{Drafted}
use Rattle.session.proofs.EditLaws.{stops_at}
use Rattle.session.proofs.LineLaws.{keep_lines}
use Rattle.session.proofs.MovedLaws.{are_moved, keep_parts}
use Rattle.session.proofs.WaitLaws.{opened_for, opens_for, opens_not, settled_patched}
use Rattle.session.proofs.RenewLaws.{kept_at, kept_but, put_length}
use Rattle.session.proofs.draft.Draft.make.Goals as goal

pub invariant_of-self : goal.invariant_of-self
invariant_of-self g c =
    let size = put_length c.self.inside.store c.args.put in
    let hours : length c.exchange-before.new.store.hours ≡ c.self.inside.config.window.hours = rw c.exchange-before.ensures.store (size ∙ c.self.invariant.hours) in
    rw (c.adopt.ensures.carries, c.adopt.ensures.futures, c.adopt.ensures.report, c.adopt.ensures.waiting) (record {
      sound = c.self.invariant.sound;
      is_store = c.in-Ok.ensures.store;
      hours = hours;
      rules = c.self.invariant.rules;
      history = c.in-Ok.ensures.history;
      kept = c.in-Ok.ensures.fresh.kept;
    })

pub invariant_of-self-in-Err : goal.invariant_of-self-in-Err
invariant_of-self-in-Err g c =
    let back : c.exchange.new.store ≡ c.self.inside.store = c.exchange.ensures.store ∙ c.exchange-before.ensures.back in
    rw back c.self.invariant

pub returns-in-Err-clause-back : goal.returns-in-Err-clause-back
returns-in-Err-clause-back g c =
    let back : c.exchange.new.store ≡ c.self.inside.store = c.exchange.ensures.store ∙ c.exchange-before.ensures.back in
    back ∙ ap (λ (k : Drafted). k.store) c.self.view_is

pub returns-in-Err-clause-stop : goal.returns-in-Err-clause-stop
returns-in-Err-clause-stop g c =
    let s = c.self.inside.store in
    let stop = rw c.exchange-before.ensures.store at c.in-Err.ensures.stop in
    let is = rw c.exchange-before.ensures.store at c.in-Err.ensures.store in
    rw (← c.self.view_is) (stops_at c.self.inside.config (put_into s c.args.put) c.in-Err.error c.edit_error.result c.edit_error.ensures c.self.invariant.sound is stop)

pub renew-requires-clause-kept : goal.renew-requires-clause-kept
renew-requires-clause-kept g c =
    let s = c.self.inside.store in
    let lt = rw (← c.self.view_is) at c.requires.last in
    let same = rw (← c.self.view_is) at c.requires.same in
    rw c.exchange-before.ensures.store (kept_but c.self.inside.config s (put_into s c.args.put) c.args.touched.now.first c.args.touched.now.last c.self.inside.worked.waiting.items c.self.inside.worked.carries.items c.self.inside.worked.futures.items c.self.inside.worked.report c.requires.order lt (put_length s c.args.put) same c.self.invariant.is_store c.self.invariant.kept)

pub renew-requires-clause-stays : goal.renew-requires-clause-stays
renew-requires-clause-stays g c =
    let s = c.self.inside.store in
    let worked = c.self.inside.worked in
    let told = rw (← c.self.view_is) at c.requires.as_were in
    rw c.exchange-before.ensures.store (kept_at c.self.inside.config s (put_into s c.args.put) c.args.touched.now.same.items worked.waiting.items worked.carries.items worked.futures.items worked.report (put_length s c.args.put) told c.self.invariant.kept)

pub moved-hours-requires : goal.moved-hours-requires
moved-hours-requires g c =
    let few = c.self.invariant.is_store.few in
    let size = c.self.invariant.kept.forth.size in
    let room = c.in-Ok.ensures.fresh.carry_room in
    omega arith

pub returns-in-Ok-clause-moved : goal.returns-in-Ok-clause-moved
returns-in-Ok-clause-moved g c =
    let s = c.self.inside.store in
    let first = c.args.touched.now.first in
    let last = c.args.touched.now.last in
    let worked = c.self.inside.worked in
    let points = c.in-Ok.fresh.points in
    let lt : last < length s.hours = rw (← c.self.view_is) at c.requires.last in
    let is = rw c.exchange-before.ensures.store at c.in-Ok.ensures.store in
    let carries = rw c.exchange-before.ensures.store at c.in-Ok.ensures.carries in
    let futures = rw c.exchange-before.ensures.store at c.in-Ok.ensures.futures in
    let to = c.moved-hours.ensures.to ∙ ap (λ (n : ℕ). n + length points.carries.items) c.in-Ok.ensures.first in
    let moved = are_moved c.self.inside.config s (put_into s c.args.put) c.self.invariant.sound c.self.invariant.is_store is (put_length s c.args.put) first last worked.waiting.items worked.carries.items worked.futures.items worked.report points.carries.items points.from points.futures.items c.moved-hours.result
    c.requires.order lt c.self.invariant.kept carries futures c.moved-hours.ensures.from to in
    rw (← c.self.view_is) moved

pub returns-in-Ok-clause-stays : goal.returns-in-Ok-clause-stays
returns-in-Ok-clause-stays g c = λ plain.
    let s = c.self.inside.store in
    let worked = c.self.inside.worked in
    let fresh = c.in-Ok.fresh in
    let points = fresh.points in
    let settled = rw (← c.self.view_is) at plain.1 in
    let is = rw c.exchange-before.ensures.store at c.in-Ok.ensures.store in
    let has = rw c.exchange-before.ensures.store at c.in-Ok.ensures.history in
    let new = rw c.exchange-before.ensures.store at c.in-Ok.ensures.fresh in
    rw (← c.self.view_is) (keep_parts c.self.inside.config s (put_into s c.args.put) points.first worked.waiting.items worked.carries.items points.carries.items worked.futures.items points.from points.futures.items worked.report fresh.start fresh.marks.items fresh.numbers c.moved-hours.result
    c.self.invariant.is_store c.self.invariant.history c.self.invariant.kept is has settled new (c.in-Ok.ensures.numbers ∙ plain.0) c.moved-hours.ensures.from c.moved-hours.ensures.to)

pub returns-in-Ok-clause-settled : goal.returns-in-Ok-clause-settled
returns-in-Ok-clause-settled g c = λ plain.
    let settled = rw (← c.self.view_is) at plain.1 in
    let fresh = c.in-Ok.ensures.fresh in
    let room = fresh.room in
    let count = fresh.marked in
    rw c.adopt.ensures.waiting (settled_patched c.in-Ok.fresh.start c.self.inside.worked.waiting.items c.in-Ok.fresh.marks.items (omega arith) settled (fresh.settled (c.in-Ok.ensures.numbers ∙ plain.0)))

pub returns-in-Err-clause-settled : goal.returns-in-Err-clause-settled
returns-in-Err-clause-settled g c = λ plain. rw (← c.self.view_is) at plain.1

pub returns-in-Ok-clause-lines : goal.returns-in-Ok-clause-lines
returns-in-Ok-clause-lines g c =
    let s = c.self.inside.store in
    let worked = c.self.inside.worked in
    let points = c.in-Ok.fresh.points in
    let same = rw (← c.self.view_is) at c.requires.same in
    let is = rw c.exchange-before.ensures.store at c.in-Ok.ensures.store in
    let has = rw c.exchange-before.ensures.store at c.in-Ok.ensures.history in
    let carries = rw c.exchange-before.ensures.store at c.in-Ok.ensures.carries in
    let futures = rw c.exchange-before.ensures.store at c.in-Ok.ensures.futures in
    let to = c.moved-hours.ensures.to ∙ ap (λ (n : ℕ). n + length points.carries.items) c.in-Ok.ensures.first in
    rw (← c.self.view_is) (keep_lines c.self.inside.config s (put_into s c.args.put) c.args.touched.now.first c.args.touched.now.last worked.waiting.items worked.carries.items points.carries.items worked.futures.items points.from points.futures.items worked.report c.moved-hours.result
    c.self.invariant.sound same c.self.invariant.is_store c.self.invariant.history c.self.invariant.kept is has (put_length s c.args.put) carries futures c.moved-hours.ensures.from to)

pub returns-in-Ok-clause-opens : goal.returns-in-Ok-clause-opens
returns-in-Ok-clause-opens g c = λ change touched.
    let fresh = c.in-Ok.ensures.fresh in
    let opened = opened_for c.args.touched.now.may_wait _ _ _ _ _ _ _ fresh.low fresh.marked fresh.room (λ plain. fresh.settled (c.in-Ok.ensures.numbers ∙ plain)) c.in-Ok.ensures.opens in
    rw (← c.self.view_is, c.adopt.ensures.waiting) (opens_for change _ _ _ _ _ _ _ c.moved-hours.ensures.from c.moved-hours.ensures.to opened)

pub returns-in-Err-clause-opens : goal.returns-in-Err-clause-opens
returns-in-Err-clause-opens g c = λ change touched. rw (← c.self.view_is) (opens_not change c.args.touched.now.first c.args.touched.now.last _ _ _ c.in-Err.error _ c.edit_error.ensures touched c.in-Err.ensures.opens_to_row)
