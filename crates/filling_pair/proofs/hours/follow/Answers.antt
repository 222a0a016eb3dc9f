use Rattle.std.proofs.Common.{◌≡◌, ◌↔◌, subst, arith, ℕ, ◌+◌, ◌-◌, ◌*◌, ◌/◌, ◌++◌, length, take}
use Rattle.reach.proofs.Later.{then_iff}
use Rattle.filling_pair.specs.Strands.{start_of}
use Rattle.signal_log.specs.Rows.{hour_rows}
use Rattle.filling_pair.specs.Walking.{In, Remains, Walks, count_to, merged, own_hours, own_of, track_of}
use Rattle.filling_pair.proofs.Overall.{all_passed, hours_around, over_join, over_same, some_end}
use Rattle.filling_pair.proofs.hours.follow.Goals as goal

pub returns-clause-there : goal.returns-clause-there
returns-clause-there g c = λ u.
    let k = track_of c.args.follower.now in
    let s = c.args.store.now in
    let at = c.args.line.now.at in
    let hour = at / 36000 in
    let rows = hour_rows s hour in
    let own = own_of k s.blanks (take (count_to rows at c.args.line.now.place) rows) in
    let e : hour - 0 ≡ hour = omega arith in
    let both = then_iff (c.pass_hours-before.ensures.passed at own u) (c.pass_place-noted.ensures.there u) in
    let now = subst (λ (h : ℕ). Remains k at (own_hours k s 0 h ++ own) c.start_of-start.result.here c.start_of-start.result.fills.now u ↔ In c.pass_place-noted.result.there (λ z. u ≡ z)) e both in
    rw (c.start_of-start.ensures.here, c.start_of-start.ensures.fills) at now

pub returns-clause-legal : goal.returns-clause-legal
returns-clause-legal g c =
    let k = track_of c.args.follower.now in
    let s = c.args.store.now in
    let n = length s.hours in
    let within = c.requires.line.within in
    let hour = c.args.line.now.at / 36000 in
    let a = c.start_of-start.result in
    let b = c.pass_hours-before.result in
    let d = c.pass_place-noted.result.cursor in
    let e = c.pass_hours-after.result in
    let own = own_of k s.blanks (hour_rows s hour) in
    let later = own_hours k s (hour + 1) (n - (hour + 1)) in
    let after = rw c.hours-hours.ensures.value at c.pass_hours-after.ensures.passed in
    let over = over_join k (own_hours k s 0 (hour - 0)) (own ++ later) a.here b.here e.here a.fills.now b.fills.now e.fills.now c.pass_hours-before.ensures.passed
    (over_join k own later b.here d.here e.here b.fills.now d.fills.now e.fills.now c.pass_place-noted.ensures.passed after) in
    let whole = over_same k (own_hours k s 0 (hour - 0) ++ (own ++ later)) (own_hours k s 0 n) a.here e.here a.fills.now e.fills.now (hours_around k s hour n (omega arith)) over in
    let ends = rw c.hours-hours.ensures.value at c.pass_fills-end.ensures.walked in
    let all = all_passed k (own_hours k s 0 n) (36000 * n) a.here e.here c.pass_fills-end.result.here a.fills.now e.fills.now whole ends in
    let now = rw (c.start_of-start.ensures.here, c.start_of-start.ensures.fills) at all in
    rw c.is_some.ensures (some_end c.pass_fills-end.result.here (Walks k (merged (36000 * n) (own_hours k s 0 n) c.args.strand.now.fills) (start_of c.args.strand.now)) now)
