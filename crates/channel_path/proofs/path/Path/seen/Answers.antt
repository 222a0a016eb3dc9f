use Rattle.std.proofs.Common.{arith, sym, subst, ◌-◌, ◌≤◌, length, take, drop}
use Rattle.reach.specs.declared.past.Single.{Single}
use Rattle.channel_path.specs.Certain.{IsCertain}
use Rattle.channel_path.proofs.Seeing.{sees_between, same_moves}
use Rattle.channel_path.proofs.Certain.{certain_between}
use Rattle.channel_path.proofs.path.Path.seen.Goals as goal

pub returns-then-place-self : goal.returns-then-place-self
returns-then-place-self g c =
    let i = c.self.inside in
    let m = g.M.Machine.rules i.machine.value in
    let both = (c.self.invariant.0.1 c.args.place c.if-place-self.true).2 in
    let here = rw (← c.past_at-past.ensures, ← c.ahead_at-ahead.ensures) at both in
    rw (← c.self.view_is) (λ low at early order e b same. sees_between m low at i.before.value i.after.value i.moves.items c.args.place c.past_at-past.result.now c.ahead_at-ahead.result.now c.args.test.now c.possible.result here early order e b same c.possible.ensures)

pub returns : goal.returns
returns g c =
    let i = c.self.inside in
    let m = g.M.Machine.rules i.machine.value in
    let o = c.index.result.now in
    let place = c.args.place in
    let le : c.args.place ≤ length i.moves.items = rw (same_moves c.self.view_is) c.requires.place in
    let is = c.self.invariant.1.1 place (place - i.places.first) o (omega arith) le in
    let certain = subst (λ (x : Single). IsCertain m i.before.value i.after.value (take place i.moves.items) (drop place i.moves.items) x) (sym c.index.ensures) is in
    let (admits, both) = certain_between m i.before.value i.after.value (take place i.moves.items) (drop place i.moves.items) o certain in
    rw (← c.self.view_is) (λ low at early order e b same. sees_between m low at i.before.value i.after.value i.moves.items place _ _ c.args.test.now c.seen_alone.result both early order e b same (c.seen_alone.ensures _ admits))
