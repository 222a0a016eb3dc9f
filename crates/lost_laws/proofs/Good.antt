-- The states to which a channel comes have one of its machine's colours, entered before the tenth.
use Rattle.std.proofs.Common.{suc, zero, ◌≡◌, sym, subst, inl, inr, ℕ, ◌+◌, ◌<◌, ℤ, pos, ◌<ℤ◌, Bool, List, [], ◌∷◌, arith}
use Rattle.std.proofs.lemmas.Int.{ints}
use Rattle.colour_machine.specs.Rules.{Rules, IsMachine}
use Rattle.reach.specs.Runs.{State, Step, Steps}
use Rattle.board.specs.History.{Event, Track, letters}
use Rattle.lost_rows.specs.declared.asked.Asked.{Asked}
use Rattle.lost_rows.specs.Stills.{LostRow, LostRows}
use Rattle.lost_rows.specs.Walks.{LostWalk}
use Rattle.lost_laws.specs.Tenths.{Loses, LosesOver, letters_in}

-- the state has one of the machine's colours, entered before the tenth
abbrev pub IsGood : Rules → ℕ → State → Type 0
IsGood m x s = (s.colour < m.colours) × (s.entry <ℤ pos x)

step_good : (m : Rules) (x : ℕ) (l : ℕ) (s u : State) → IsMachine m → Step m (pos x) s l u → IsGood m (x + 1) s → IsGood m (x + 1) u
step_good m x l s u laws ((few, small, goes), c) (_, early) = (laws.stays s.colour l u.colour few small goes, elim c [ inl same ↦ subst (λ (z : State). z.entry <ℤ pos (x + 1)) (sym same) early | inr (_, at, _) ↦ subst (λ (e : ℤ). e <ℤ pos (x + 1)) (sym at) (omega (arith, ints)) ])

row_good : (m : Rules) (r : Asked) (t : ℤ) (b : ℕ) (s u : State) → IsMachine m → t <ℤ pos b → LostRow m r t s u → IsGood m b s → IsGood m b u
row_good m r t b s u laws lt (l, ((few, small, goes), c), ne, _) (_, early) = (laws.stays s.colour l u.colour few small goes, elim c [ inl same ↦ subst (λ (z : State). z.entry <ℤ pos b) (sym same) early | inr (_, at, _) ↦ subst (λ (e : ℤ). e <ℤ pos b) (sym at) lt ])

rows_good : (m : Rules) (r : Asked) (a : ℤ) (b j : ℕ) (s u : State) → IsMachine m → LostRows m r a (pos b) j s u → IsGood m b s → IsGood m b u
rows_good m r a b zero s u laws same good = subst (λ (z : State). IsGood m b z) (sym same) good
rows_good m r a b (suc j) s u laws (t, ge, lt, (v, row, rest)) good = rows_good m r t b j v u laws rest (row_good m r t b s v laws lt row good)

pub letters_good : (m : Rules) (r : Asked) (a x : ℕ) (ls : List ℕ) (j : ℕ) (s u : State) → IsMachine m → LostWalk m r a (letters_in x ls) (x + 1) j s u → IsGood m (x + 1) s → IsGood m (x + 1) u
letters_good m r a x [] j s u laws rows good = rows_good m r (pos a) (x + 1) j s u laws rows good
letters_good m r a x (l ∷ ls) j s u laws (i, k, e, (v, w, rows, step, rest)) good = letters_good m r x x ls k w u laws rest (step_good m x l v w laws step (rows_good m r (pos a) (x + 1) i s v laws rows good))

steps_good : (m : Rules) (x : ℕ) (ls : List ℕ) (s u : State) → IsMachine m → Steps m (pos x) s ls u → IsGood m (x + 1) s → IsGood m (x + 1) u
steps_good m x [] s u laws same good = subst (λ (z : State). IsGood m (x + 1) z) (sym same) good
steps_good m x (l ∷ ls) s u laws (v, step, rest) good = steps_good m x ls v u laws rest (step_good m x l s v laws step good)

pub over_good : (k : Track) (known : ℕ → Bool) (given : ℕ → List Event) (r : Asked) (x n t j : ℕ) (s u : State) → IsMachine k.rules → x + n ≡ t → LosesOver k known given r x n j s u → IsGood k.rules x s → IsGood k.rules t u
over_good k known given r x zero t j s u laws e (_, same) good = let now : x ≡ t = omega arith in subst (λ (y : ℕ). IsGood k.rules y u) now (subst (λ (z : State). IsGood k.rules x z) (sym same) good)
over_good k known given r x (suc n) t j s u laws e (i, g, sum, (v, one, rest)) (few, early) =
    let good : IsGood k.rules (x + 1) s = (few, omega (arith, ints)) in
    over_good k known given r (x + 1) n t g v u laws (omega arith) rest (elim one [
      | inl (_, walk) ↦ letters_good k.rules r x x (letters k (given x)) i s v laws walk good
      | inr (_, _, (ls, steps)) ↦ steps_good k.rules x ls s v laws steps good
    ])

pub loses_good : (k : Track) (known : ℕ → Bool) (given : ℕ → List Event) (r : Asked) (f t j : ℕ) (s u : State) → IsMachine k.rules → Loses k known given r f t j s u → IsGood k.rules f s → IsGood k.rules t u
loses_good k known given r f t j s u laws (n, e, w) good = over_good k known given r f n t j s u laws e w good

pub later_good : (m : Rules) (x : ℕ) (s : State) → IsGood m x s → IsGood m (x + 1) s
later_good m x s (few, early) = (few, omega (arith, ints))
