use Rattle.std.proofs.Common.{arith, rules, refl, ap, ◌≡◌, ◌∙◌, ◌-◌, ◌+◌, ◌^◌, pos, length, drop, get_or, w64, FitsSigned}
use Rattle.std.proofs.lemmas.Int.{to_z-of_z}
use Rattle.span_set.specs.declared.set.Span.{Span}
use Rattle.reach.specs.Ahead.{Admits}
use Rattle.reach.specs.Last.{BeforeGaps}
use Rattle.channel_path.proofs.Holes.{hole_ahead, gaps_none}
use Rattle.channel_path.proofs.Standing.{adds_none, adds_more}
use Rattle.channel_path.proofs.ahead.holes_ahead.Goals as goal

pub loop-turn-init : goal.loop-turn-init
loop-turn-init g c =
    let m = g.M.Machine.rules c.args.machine.now in
    let ahead = c.args.ahead.now in
    let hs = c.args.holes.now in
    let end : length hs - 0 ≡ length hs = omega arith in
    record {
      colours = ap length c.copy-here.ensures ∙ c.requires.colours;
      exact = λ s. rw c.copy-here.ensures (gaps_none m ahead hs (length hs - 0) (omega arith) s);
      adds = rw end (adds_none m.colours c.args.past.now (length hs) (λ j. BeforeGaps m ahead (drop j hs)) c.args.places.now c.requires.aheads);
    }

pub loop-turn-preserved : goal.loop-turn-preserved
loop-turn-preserved g c =
    let m = g.M.Machine.rules c.args.machine.now in
    let ahead = c.args.ahead.now in
    let hs = c.args.holes.now in
    let i = c.loop-turn.invariant in
    let a = length hs - (c.loop-turn.turn + 1) in
    let at : length hs - c.loop-turn.turn ≡ a + 1 = omega arith in
    let here = c.loop-turn.here in
    let none : Span = record { from = pos 0; to = pos 0 } in
    let fits : FitsSigned w64 (get_or hs (length hs - 1 - c.loop-turn.turn) none).from = search rules in
    let place : length hs - 1 - c.loop-turn.turn ≡ a = omega arith in
    record {
      colours = c.ahead_in-here.ensures.colours ∙ c.requires.colours;
      exact = hole_ahead m ahead c.ahead_in-here.result c.ahead_holes-last.result hs (pos 0) (pos (2 ^ 32)) a none (get_or hs a none).from c.requires.holes (omega arith) refl c.ahead_holes-last.ensures.last (rw place at (simp to_z-of_z at c.ahead_in-here.ensures.states));
      adds = adds_more m.colours c.args.past.now a (length hs) (λ j. Admits here) (λ j. BeforeGaps m ahead (drop j hs)) c.args.places.now c.loop-turn.places c.add_place.new.places (omega arith) (rw at at i.exact) (rw at at i.adds) (rw i.colours at c.in_ok-add_place.ensures);
    }

pub returns-clause-places : goal.returns-clause-places
returns-clause-places g c =
    let hs = c.args.holes.now in
    let first : length hs - c.loop-turn.turn ≡ 0 = omega arith in
    rw first at c.loop-turn.invariant.adds
