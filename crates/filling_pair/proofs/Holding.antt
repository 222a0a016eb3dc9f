-- Asks of the terms of a clause.
use Rattle.std.proofs.Common.{◌≡◌, subst, ℕ, ◌+◌, ◌<◌, List, [], ◌∷◌, ◌++◌, length, take, get_or}
use Rattle.std.proofs.lemmas.List.{take_more}
use Rattle.board.specs.declared.clause.Term.{Term}
use Rattle.filling_pair.specs.declared.asks.Ask.{Ask}
use Rattle.filling_pair.specs.Asks.{AreHolding}

holding_push : (i : ℕ) (terms : List Term) (asks : List Ask) (c : Term) (a : Ask) → AreHolding i (c ∷ []) (a ∷ []) → AreHolding i terms asks → AreHolding i (terms ++ c ∷ []) (asks ++ a ∷ [])
holding_push i [] [] c a one h = one
holding_push i [] (y ∷ ys) c a one h = absurd h
holding_push i (x ∷ xs) [] c a one h = absurd h
holding_push i (x ∷ xs) (y ∷ ys) c a one (first, h) = (first, holding_push i xs ys c a one h)

pub holding_more : (i : ℕ) (terms : List Term) (k : ℕ) (d c : Term) (old new : List Ask) (a : Ask) → k < length terms → c ≡ get_or terms k d → new ≡ old ++ a ∷ [] → AreHolding i (c ∷ []) (a ∷ []) → AreHolding i (take k terms) old → AreHolding i (take (k + 1) terms) new
holding_more i terms k d c old new a lt is e one so_far =
    rw (e, take_more terms k d lt) (holding_push i (take k terms) old (get_or terms k d) a (subst (λ (x : Term). AreHolding i (x ∷ []) (a ∷ [])) is one) so_far)
