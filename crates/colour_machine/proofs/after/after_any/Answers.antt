use Rattle.std.proofs.Common.{sym, subst, arith, ◌≡◌, ◌<◌, ◌≢◌, ℕ, inl, inr}
use Rattle.std.proofs.lemmas.Bool.{eqb-true, eqb-false}
use Rattle.colour_machine.specs.Mask.{Has}
use Rattle.colour_machine.proofs.Ways.{round_sound, closed_reached, through_stays, through_all}
use Rattle.colour_machine.proofs.Bits.{has_more, has_small}
use Rattle.colour_machine.proofs.after.after_any.Goals as goal

pub rounds-preserved : goal.rounds-preserved
rounds-preserved g c = round_sound (g.M.Machine.rules c.args.machine.now) c.args.from c.rounds.reached c.after_one-next.result c.rounds.invariant c.after_one-next.ensures

pub rounds-smaller : goal.rounds-smaller
rounds-smaller g c =
    let m = g.M.Machine.rules c.args.machine.now in
    let laws = g.met.M.Machine.laws c.args.machine.now in
    let sound = round_sound m c.args.from c.rounds.reached c.after_one-next.result c.rounds.invariant c.after_one-next.ensures in
    let small : c.after_one-next.result < 65536 = has_small c.after_one-next.result (λ d h. let s = through_stays m c.args.from d laws (sound d h) in let few = laws.few_colours in omega arith) in
    let differ : c.rounds.reached ≢ c.after_one-next.result = λ e. eqb-false c.after_one-next.result c.rounds.reached (sym c.if-eq.ensures) (sym e) in
    let a : c.rounds.reached < c.after_one-next.result = has_more c.rounds.reached c.after_one-next.result (λ d h. (c.after_one-next.ensures d).1 (inl h)) differ in
    omega arith

pub returns-then-eq-clause-reached : goal.returns-then-eq-clause-reached
returns-then-eq-clause-reached g c =
    let m = g.M.Machine.rules c.args.machine.now in
    let same : c.after_one-next.result ≡ c.rounds.reached = eqb-true c.after_one-next.result c.rounds.reached (sym c.if-eq.ensures) in
    λ d.
    let all = through_all m c.args.from d in
    let closed = closed_reached m c.args.from c.rounds.reached (λ e a. subst (λ (n : ℕ). Has n e) same ((c.after_one-next.ensures e).1 (inr a))) d in
    (λ h. all.0 (c.rounds.invariant d h), λ h. closed (all.1 h))

pub returns-then-eq-clause-colours : goal.returns-then-eq-clause-colours
returns-then-eq-clause-colours g c = λ d h. through_stays (g.M.Machine.rules c.args.machine.now) c.args.from d (g.met.M.Machine.laws c.args.machine.now) (c.rounds.invariant d h)
