-- What explains a line, by the states before it and behind it.
use Rattle.std.proofs.Common.{◌≡◌, subst, ◌↔◌, ℕ, ◌+◌, ◌≤◌, ℤ, pos, ◌<ℤ◌, ◌-◌, List, [], ◌∷◌, length, take, drop, length-drop, Option, arith}
use Rattle.std.proofs.lemmas.List.{take_all}
use Rattle.channel_path.proofs.Moving.{earlier_low, order_drop, order_take}
use Rattle.std.proofs.lemmas.Int.{ints}
use Rattle.span_set.specs.declared.set.Span.{Span}
use Rattle.colour_machine.specs.Rules.{Rules}
use Rattle.reach.specs.Runs.{State}
use Rattle.reach.proofs.Later.{then_iff}
use Rattle.channel_path.specs.declared.moves.Move.{Move}
use Rattle.channel_path.specs.Walks.{InOrder}
use Rattle.channel_path.specs.Places.{limit_of, EntersBefore, TakesFrom}
use Rattle.lost_rows.specs.declared.asked.Asked.{Asked}
use Rattle.lost_rows.specs.declared.aheads.LostAheads.{LostAheads}
use Rattle.lost_rows.specs.declared.pasts.LostPasts.{LostPasts}
use Rattle.lost_rows.specs.Credits.{AdmitsLost, AllBefore, HoldsLost}
use Rattle.lost_rows.specs.Cuts.{ExplainedFrom, NoneAfter, NoneBefore}
use Rattle.lost_rows.specs.Decisions.{Passed}
use Rattle.lost_rows.specs.Walks.{ExplainedBy, WalkedFrom, WalkedTo}
use Rattle.lost_rows.proofs.Cutting.{lost_early}
use Rattle.lost_rows.proofs.Starting.{walked_first, walked_last}

pub enters : (at : ℕ) (ys : List Move) (v : State) → TakesFrom at ys → v.entry <ℤ pos at → EntersBefore ys v
enters at [] v t e = tt
enters at (y ∷ ys) v t e = omega (arith, ints)

-- the states of a walk are entered before its end
pub walked_before : (m : Rules) (r : Asked) (low a : ℕ) (xs : List Move) (b : ℕ) (old new : LostPasts) → InOrder m low xs → limit_of low xs ≤ b → AllBefore old low → ((j : ℕ) (u : State) → j ≤ 3 → HoldsLost new j u ↔ WalkedFrom m r (HoldsLost old) a xs b j u) → AllBefore new b
walked_before m r low a xs b old new o le early walked j few u h =
    let (i, k, e, (s, p, walk)) = (walked j u few).0 h in
    lost_early m r low a xs b k s u o le (early i (omega arith) s p) walk

-- the states that pass a place, in code's values and in walks
pub passed_is : (m : Rules) (r : Asked) (P Q : ℕ → State → Type 0) (pasts : LostPasts) (aheads : LostAheads) (low : ℕ) (xs : List Move) (at : ℕ) (ys : List Move) (high : ℕ) (Keeps : State → Type 0) → AllBefore pasts (at + 1) → ((j : ℕ) (u : State) → j ≤ 3 → HoldsLost pasts j u ↔ WalkedFrom m r P low xs (at + 1) j u) → ((j : ℕ) (s : State) → j ≤ 3 → s.entry <ℤ pos (at + 1) → AdmitsLost aheads j s ↔ WalkedTo m Q (at + 1) ys high j s) → (n : ℕ) → n ≤ 3 → Passed (HoldsLost pasts) (AdmitsLost aheads) Keeps n ↔ ExplainedFrom m r P Q low xs at ys high Keeps n
passed_is m r P Q pasts aheads low xs at ys high Keeps early before behind n few = (
  λ (i, k, e, (v, h, keeps, ad)).
      let le : i ≤ 3 = omega arith in
      let less : k ≤ 3 = omega arith in
      (i, k, e, (v, (before i v le).0 h, keeps, (behind k v less (early i le v h)).0 ad)),
  λ (i, k, e, (v, w, keeps, b)).
      let le : i ≤ 3 = omega arith in
      let less : k ≤ 3 = omega arith in
      let h = (before i v le).1 w in
      (i, k, e, (v, h, keeps, (behind k v less (early i le v h)).1 b)),
)

-- where no row was lost before the moves or is lost behind them
pub explained_is : (m : Rules) (r : Asked) (before : List (List Span)) (after : List (Option ℤ)) (low : ℕ) (xs : List Move) (at : ℕ) (ys : List Move) (high : ℕ) (Keeps : State → Type 0) (n : ℕ) → ExplainedFrom m r (NoneBefore before) (NoneAfter after) low xs at ys high Keeps n ↔ ExplainedBy m r before after low xs at ys high Keeps n
explained_is m r before after low xs at ys high Keeps n = (
  λ (i, k, e, (v, p, keeps, q)). (i, k, e, (v, (walked_first m r before low xs (at + 1) i v).0 p, keeps, (walked_last m after (at + 1) ys high k v).0 q)),
  λ (i, k, e, (v, p, keeps, q)). (i, k, e, (v, (walked_first m r before low xs (at + 1) i v).1 p, keeps, (walked_last m after (at + 1) ys high k v).1 q)),
)

pub explained_all : (m : Rules) (r asked : Asked) (before : List (List Span)) (after : List (Option ℤ)) (pasts : LostPasts) (aheads : LostAheads) (low : ℕ) (xs : List Move) (at : ℕ) (ys zs : List Move) (high : ℕ) (Keeps : State → Type 0) → asked ≡ r → zs ≡ ys → AllBefore pasts (at + 1) → TakesFrom (at + 1) ys → ((j : ℕ) (u : State) → j ≤ 3 → HoldsLost pasts j u ↔ WalkedFrom m asked (NoneBefore before) low xs (at + 1) j u) → ((j : ℕ) (s : State) → j ≤ 3 → EntersBefore zs s → AdmitsLost aheads j s ↔ WalkedTo m (NoneAfter after) (at + 1) zs high j s) → (n : ℕ) → n ≤ 3 → Passed (HoldsLost pasts) (AdmitsLost aheads) Keeps n ↔ ExplainedBy m r before after low xs at ys high Keeps n
explained_all m r asked before after pasts aheads low xs at ys zs high Keeps same all early takes walked behind n few =
    let from = subst (λ (a : Asked). (j : ℕ) (u : State) → j ≤ 3 → HoldsLost pasts j u ↔ WalkedFrom m a (NoneBefore before) low xs (at + 1) j u) same walked in
    let to = subst (λ (l : List Move). (j : ℕ) (s : State) → j ≤ 3 → EntersBefore l s → AdmitsLost aheads j s ↔ WalkedTo m (NoneAfter after) (at + 1) l high j s) all behind in
    then_iff (passed_is m r (NoneBefore before) (NoneAfter after) pasts aheads low xs at ys high Keeps early from (λ j s less in_time. to j s less (enters (at + 1) ys s takes in_time)) n few) (explained_is m r before after low xs at ys high Keeps n)

-- the moves from a place on, as the code cuts them off
pub rest_all : (n : ℕ) (xs : List Move) → take (length xs - n) (drop n xs) ≡ drop n xs
rest_all n xs = take_all (length xs - n) (drop n xs) (omega (arith, length-drop n xs))

pub rest_order : (m : Rules) (low n : ℕ) (xs : List Move) → InOrder m low xs → InOrder m 0 (take (length xs - n) (drop n xs))
rest_order m low n xs o = order_take m 0 (length xs - n) (drop n xs) (earlier_low m 0 (limit_of low (take n xs)) (drop n xs) (omega arith) (order_drop m low n xs o))

-- a walk back to what is the same
pub walked_to_all : (m : Rules) (P Q : ℕ → State → Type 0) (a : ℕ) (xs : List Move) (b : ℕ) → ((j : ℕ) (u : State) → P j u ↔ Q j u) → (j : ℕ) (s : State) → WalkedTo m P a xs b j s ↔ WalkedTo m Q a xs b j s
walked_to_all m P Q a xs b same j s = (
  λ (i, k, e, (u, p, walk)). (i, k, e, (u, (same i u).0 p, walk)),
  λ (i, k, e, (u, q, walk)). (i, k, e, (u, (same i u).1 q, walk)),
)
