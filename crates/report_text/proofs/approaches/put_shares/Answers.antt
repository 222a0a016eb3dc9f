use Rattle.std.proofs.Common.{◌++◌, ◌*◌, ◌-◌, ◌∷◌, [], ℕ, List, codes}
use Rattle.outside.proofs.PutsFacts.{front-stopped, middle-stopped, puts-then}
use Rattle.arrival_measures.specs.declared.sums.ArrivalSum.{ArrivalSum}
use Rattle.report_text.specs.Approaches.{fraction}
use Rattle.report_text.proofs.approaches.put_shares.Goals as goal

abbrev share : ArrivalSum → List ℕ
share s = codes " share " ++ fraction s.green (s.arrivals - s.unseen)

abbrev platoon : ArrivalSum → List ℕ
platoon s = codes " platoon " ++ fraction (s.cycle_green * s.cycle_tenths) (s.cycle_arrivals * s.green_tenths)

pub returns-in_err-put_share : goal.returns-in_err-put_share
returns-in_err-put_share g c =
    let s = c.args.sums.now in
    front-stopped _ _ (share s) (platoon s ++ 10 ∷ []) _ c.from_residual.ensures.0 c.in_err-put_share.ensures

pub returns-in_err-put_platoon : goal.returns-in_err-put_platoon
returns-in_err-put_platoon g c =
    let s = c.args.sums.now in
    middle-stopped _ _ _ (share s) (platoon s) (10 ∷ []) _ c.from_residual-in_err-put_platoon.ensures.0 c.in_ok-put_share.ensures c.in_err-put_platoon.ensures

pub returns : goal.returns
returns g c =
    let s = c.args.sums.now in
    puts-then _ _ _ (share s) (platoon s ++ 10 ∷ []) c.put.result c.in_ok-put_share.ensures (puts-then _ _ _ (platoon s) (10 ∷ []) c.put.result c.in_ok-put_platoon.ensures c.put.ensures)
