use Rattle.std.proofs.Common.{◌∙◌, ap, arith, map, [], ◌∷◌, ◌++◌, sym}
use Rattle.std.specs.List.{range_with_len}
use Rattle.std.proofs.lemmas.List.FromFn.{map-range_with_len_more}
use Rattle.other_measures.specs.Crossing.{no_preempt}
use Rattle.other_measures.proofs.carry.empty_preempts.Goals as goal

pub loop-number-preserved : goal.loop-number-preserved
loop-number-preserved c = rw c.in_ok-push.ensures.items (ap (λ zs. zs ++ c.empty_preempt.result ∷ []) c.loop-number.invariant ∙ ap (λ z. map (no_preempt c.args.preempts.now) (range_with_len 0 c.loop-number.number) ++ z ∷ []) c.empty_preempt.ensures ∙ sym (map-range_with_len_more (no_preempt c.args.preempts.now) 0 c.loop-number.number c.loop-number.number (omega arith)))
