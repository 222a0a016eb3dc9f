use Rattle.std.proofs.Common.{◌∙◌, arith}
use Rattle.std.proofs.lemmas.List.Elements.{All-nil}
use Rattle.arrival_measures.proofs.Each.{listed_all, listed_more}
use Rattle.arrival_measures.proofs.Starts.{no_approach, no_flags_are, none_cross, nothing_crosses}
use Rattle.arrival_measures.proofs.carry.ArrivalCarry.start.Goals as goal

pub loop-place-preserved : goal.loop-place-preserved
loop-place-preserved c = listed_more nothing_crosses c.args.config.now.approaches c.loop-place._place no_approach c.loop-place.crossings.items _ c.none.result (omega arith) c.loop-place.invariant c.none.ensures c.in_ok-push.ensures.items

pub returns : goal.returns
returns c known = record {
  earlier = All-nil _;
  ordered = omega arith;
  crossings_are = listed_all nothing_crosses c.args.config.now.approaches c.loop-place._place c.loop-place.crossings.items (omega arith) c.loop-place.invariant ∙ none_cross known c.args.config.now.approaches;
  flags_are = c.in_ok-flags.ensures ∙ no_flags_are known c.args.config.now;
}
