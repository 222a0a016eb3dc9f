use Rattle.std.proofs.Common.{◌∙◌, ap, arith, map, [], ◌∷◌, ◌++◌, sym}
use Rattle.std.specs.List.{range_with_len}
use Rattle.std.proofs.lemmas.List.FromFn.{map-range_with_len_more}
use Rattle.other_measures.specs.Crossing.{no_ped}
use Rattle.other_measures.proofs.carry.empty_peds.Goals as goal

pub loop-number-preserved : goal.loop-number-preserved
loop-number-preserved c = rw c.in_ok-push.ensures.items (ap (λ zs. zs ++ c.empty_ped.result ∷ []) c.loop-number.invariant ∙ ap (λ z. map (no_ped c.args.peds.now) (range_with_len 0 c.loop-number.number) ++ z ∷ []) c.empty_ped.ensures ∙ sym (map-range_with_len_more (no_ped c.args.peds.now) 0 c.loop-number.number c.loop-number.number (omega arith)))
