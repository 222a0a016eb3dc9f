use Rattle.std.proofs.Common.{◌≡◌, ◌∙◌, ◌&&◌, eqb, true, false, ap, sym, drop, [], arith}
use Rattle.std.proofs.lemmas.List.{drop_all}
use Rattle.ring_config.specs.declared.items.Approach.{Approach}
use Rattle.arrival_measures.specs.Points.{is_ahead, is_on_at}
use Rattle.arrival_measures.proofs.Starts.{no_approach}
use Rattle.arrival_measures.proofs.Picking.{ahead_here, ahead_later, ahead_low}
use Rattle.arrival_measures.proofs.arrivals.is_ahead.Goals as goal

pub returns-then-arrives : goal.returns-then-arrives
returns-then-arrives c =
    let all = c.args.config.now.approaches in
    let p = c.args.phase in
    let x = c.args.row.now in
    let own = c.approach_of.ensures.own in
    let is = ap (λ (a : Approach). eqb a.phase p && is_on_at a.advance x) (c.approach_of.ensures.approach no_approach) in
    let on = sym c.arrives.ensures ∙ c.if-arrives.true in
    record {
      ahead = ahead_here p all x c.loop-place.place no_approach (omega arith) (sym is ∙ on) c.loop-place.invariant;
      number = λ on_here. ahead_low c.args.config.now c.approach_of.result.now p x own.advance on;
    }

pub loop-place-preserved : goal.loop-place-preserved
loop-place-preserved c =
    let all = c.args.config.now.approaches in
    let p = c.args.phase in
    let x = c.args.row.now in
    let is = ap (λ (a : Approach). eqb a.phase p && is_on_at a.advance x) (c.approach_of.ensures.approach no_approach) in
    ahead_later p all x c.loop-place.place no_approach (omega arith) (sym is ∙ (sym c.arrives.ensures ∙ c.if-arrives.false)) c.loop-place.invariant

pub returns : goal.returns
returns c =
    let all = c.args.config.now.approaches in
    let none : drop c.loop-place.place all ≡ [] = drop_all c.loop-place.place all (omega arith) in
    record {
      ahead = sym (c.loop-place.invariant ∙ ap (λ zs. is_ahead c.args.phase zs c.args.row.now) none);
      number = λ is. absurd (let bad : false ≡ true = is in cc);
    }
