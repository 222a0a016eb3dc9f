use Rattle.std.proofs.Common.{◌∙◌, ap, map}
use Rattle.std.specs.List.{range_with_len}
use Rattle.std.proofs.lemmas.List.Elements.{All-nil}
use Rattle.other_measures.specs.Crossing.{no_ped, no_preempt, places}
use Rattle.other_measures.proofs.Starts.{peds_at_start, preempts_at_start}
use Rattle.other_measures.proofs.carry.OtherCarry.start.Goals as goal

pub returns : goal.returns
returns c known = record {
  earlier = All-nil _;
  peds_are = c.in_ok-peds.ensures ∙ ap (λ ps. map (no_ped ps) (range_with_len 0 (places ps))) c.peds.ensures.value ∙ peds_at_start known c.args.config.now;
  preempts_are = c.in_ok-preempts.ensures ∙ ap (λ ps. map (no_preempt ps) (range_with_len 0 (places ps))) c.preempts.ensures.value ∙ preempts_at_start known c.args.config.now;
}
