use Rattle.std.proofs.Common.{arith, refl, ◌≡◌, ◌+◌, ◌-◌, ◌∙◌, ℕ, length, take, drop}
use Rattle.std.proofs.lemmas.Bool.{false≢true}
use Rattle.reach.specs.Ahead.{Admits}
use Rattle.channel_path.specs.Kept.{past_of}
use Rattle.reach.specs.Runs.{State}
use Rattle.channel_path.specs.Places.{limit_of}
use Rattle.channel_path.specs.Walks.{BeforeMoves}
use Rattle.channel_path.proofs.Moving.{order_take, order_drop}
use Rattle.channel_path.proofs.Serving.{all_serve}
use Rattle.channel_path.proofs.Standing.{adds_first, stand_leg, serve_leg, size_leg, size_one, stand_one}
use Rattle.channel_path.proofs.ahead.aheads_of.Goals as goal

pub back_over-requires-clause-order : goal.back_over-requires-clause-order
back_over-requires-clause-order g c =
    let m = g.M.Machine.rules c.args.machine.now in
    let xs = c.args.moves.now in
    let a = c.leg_begin-begin.result in
    let (runs, (before, (low, early, order), are)) = c.requires.pasts in
    (limit_of low (take a xs), order_take m (limit_of low (take a xs)) (c.loop-place.place - a) (drop a xs) (order_drop m low a xs order))

pub loop-place-preserved-then-certain-2 : goal.loop-place-preserved-then-certain-2
loop-place-preserved-then-certain-2 g c =
    let m = g.M.Machine.rules c.args.machine.now in
    let after = c.args.after.now in
    let xs = c.args.moves.now in
    let pasts = c.args.pasts.now in
    let a = c.leg_begin-begin.result in
    let b = c.loop-place.place in
    let i = c.loop-place.invariant in
    let begin = c.leg_begin-begin.ensures in
    let k = c.in_ok-back_over.ensures in
    let now = c.loop-place.ahead in
    let lt = begin.some in
    let within = i.within in
    let goes_on : ℕ → State → Type 0 = λ j. BeforeMoves m now (drop j (take (b - a) (drop a xs))) in
    let sure = c.is_certain-certain.ensures in
    let yes = c.if-certain-2.true in
    let there = c.past_at-in-loop-place.ensures in
    record {
      within = omega arith;
      serves = rw (c.copy-ahead-then-certain-2.ensures) (all_serve m after c.end-all.result xs pasts a c.requires.pasts (rw c.past_at.ensures at (c.goes_on-some.ensures (sure.some yes))) (omega arith) (c.end-all.ensures.colours ∙ c.colours.ensures) (rw there at (sure.admits yes)) (rw there at (sure.alone yes)));
      all = λ _. c.copy-ahead-then-certain-2.ensures;
      first = k.places.more.1 0 i.have.0 ∙ i.first;
      have = k.places.all;
      size = size_leg m.colours c.past_at-past.result.now xs a b goes_on c.loop-place.places c.back_over.new.places (omega arith) within i.size k.places;
      stand = stand_leg m after now xs pasts a b c.past_at-past.result.now c.loop-place.places c.back_over.new.places c.requires.pasts lt within begin.leg c.past_at-past.ensures i.serves i.size i.stand k.places;
    }

pub loop-place-preserved-then-begin-place : goal.loop-place-preserved-then-begin-place
loop-place-preserved-then-begin-place g c =
    let m = g.M.Machine.rules c.args.machine.now in
    let after = c.args.after.now in
    let xs = c.args.moves.now in
    let pasts = c.args.pasts.now in
    let a = c.leg_begin-begin.result in
    let b = c.loop-place.place in
    let i = c.loop-place.invariant in
    let old = c.loop-place.places in
    let new = c.add_first.new.places in
    let one : a + 1 ≡ b = c.if-begin-place.true in
    let sure = c.is_certain-certain.ensures in
    let yes = c.if-certain.true in
    let there = c.past_at-in-loop-place.ensures in
    let k = c.in_ok-add_first.ensures in
    let same = i.all c.if-is_all.true in
    let size = i.size in
    let within = i.within in
    let adds = adds_first c.loop-place.ahead c.end-all.result (past_of pasts b) old new same i.first (rw i.serves.0 i.have) k in
    record {
      within = omega arith;
      serves = rw same (all_serve m after c.end-all.result xs pasts a c.requires.pasts (rw c.past_at.ensures at (c.goes_on-some.ensures (sure.some yes))) (omega arith) (c.end-all.ensures.colours ∙ c.colours.ensures) (rw there at (sure.admits yes)) (rw there at (sure.alone yes)));
      all = λ _. same;
      first = rw k.0 i.first;
      have = rw k.0 i.have;
      size = size_one (length c.loop-place.ahead) (past_of pasts b) xs a (λ j. Admits c.loop-place.ahead) old new (omega arith) adds;
      stand = rw one (stand_one m after c.loop-place.ahead xs pasts b (past_of pasts b) old new refl i.serves size i.stand adds);
    }

pub loop-place-preserved : goal.loop-place-preserved
loop-place-preserved g c =
    let m = g.M.Machine.rules c.args.machine.now in
    let after = c.args.after.now in
    let xs = c.args.moves.now in
    let pasts = c.args.pasts.now in
    let a = c.leg_begin-begin.result in
    let b = c.loop-place.place in
    let i = c.loop-place.invariant in
    let begin = c.leg_begin-begin.ensures in
    let k = c.in_ok-back_over.ensures in
    let now = c.loop-place.ahead in
    let lt = begin.some in
    let within = i.within in
    let goes_on : ℕ → State → Type 0 = λ j. BeforeMoves m now (drop j (take (b - a) (drop a xs))) in
    record {
      within = omega arith;
      serves = serve_leg m after now c.back_over.new.ahead xs pasts a b c.requires.pasts (omega arith) within i.serves (k.before c.if-certain-2.false);
      all = λ yes. absurd (false≢true (rw c.if-certain-2.false at yes));
      first = k.places.more.1 0 i.have.0 ∙ i.first;
      have = k.places.all;
      size = size_leg m.colours c.past_at-past.result.now xs a b goes_on c.loop-place.places c.back_over.new.places (omega arith) within i.size k.places;
      stand = stand_leg m after now xs pasts a b c.past_at-past.result.now c.loop-place.places c.back_over.new.places c.requires.pasts lt within begin.leg c.past_at-past.ensures i.serves i.size i.stand k.places;
    }

pub returns-clause-aheads : goal.returns-clause-aheads
returns-clause-aheads g c =
    let m = g.M.Machine.rules c.args.machine.now in
    let xs = c.args.moves.now in
    let i = c.loop-place.invariant in
    let first : c.loop-place.place ≡ 0 = omega arith in
    let size = i.size in
    stand_one m c.args.after.now c.loop-place.ahead xs c.args.pasts.now 0 c.past_at-2.result.now c.loop-place.places c.add_place.new.places c.past_at-2.ensures (rw first at i.serves) (omega arith) (rw first at i.stand) c.in_ok-add_place.ensures
