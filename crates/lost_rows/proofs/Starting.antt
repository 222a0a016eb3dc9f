-- Where no row was lost before a walk, or is lost after it.
use Rattle.std.proofs.Common.{suc, zero, ◌≡◌, refl, subst, inl, inr, ◌↔◌, ℕ, ℤ, List, get_or, replicate, Option, None, arith}
use Rattle.std.proofs.lemmas.Bool.{cases_lt}
use Rattle.std.proofs.lemmas.List.{get_or-replicate, length-replicate, get_or_past}
use Rattle.span_set.specs.declared.set.Span.{Span}
use Rattle.colour_machine.specs.Rules.{Rules}
use Rattle.reach.specs.Runs.{State}
use Rattle.reach.specs.Past.{Holds}
use Rattle.reach.specs.Ahead.{Admits, NotLater}
use Rattle.channel_path.specs.declared.moves.Move.{Move}
use Rattle.channel_path.specs.Walks.{EnteredBefore}
use Rattle.lost_rows.specs.declared.asked.Asked.{Asked}
use Rattle.lost_rows.specs.declared.aheads.LostAheads.{LostAheads}
use Rattle.lost_rows.specs.declared.pasts.LostPasts.{LostPasts}
use Rattle.lost_rows.specs.Credits.{AdmitsLost, AllBefore, HoldsLost}
use Rattle.lost_rows.specs.Cuts.{NoneAfter, NoneBefore}
use Rattle.lost_rows.specs.Walks.{nothing_asked, AfterLostMoves, BeforeLostMoves, LostWalk, WalkedFrom, WalkedTo}

pub first_holds : (p : LostPasts) → ((s : State) → Holds p.one s → ⊥) → ((s : State) → Holds p.two s → ⊥) → ((s : State) → Holds p.three s → ⊥) → (j : ℕ) (u : State) → HoldsLost p j u ↔ NoneBefore p.none j u
first_holds p h1 h2 h3 zero u = (λ h. (refl, h), λ (e, h). h)
first_holds p h1 h2 h3 (suc zero) u = (λ h. absurd (h1 u h), λ (e, h). absurd (omega arith))
first_holds p h1 h2 h3 (suc (suc zero)) u = (λ h. absurd (h2 u h), λ (e, h). absurd (omega arith))
first_holds p h1 h2 h3 (suc (suc (suc zero))) u = (λ h. absurd (h3 u h), λ (e, h). absurd (omega arith))
first_holds p h1 h2 h3 (suc (suc (suc (suc j)))) u = (λ h. absurd h, λ (e, h). absurd (omega arith))

pub last_admits : (p : LostAheads) → ((s : State) → Admits p.one s → ⊥) → ((s : State) → Admits p.two s → ⊥) → ((s : State) → Admits p.three s → ⊥) → (j : ℕ) (s : State) → AdmitsLost p j s ↔ NoneAfter p.none j s
last_admits p h1 h2 h3 zero u = (λ h. (refl, h), λ (e, h). h)
last_admits p h1 h2 h3 (suc zero) u = (λ h. absurd (h1 u h), λ (e, h). absurd (omega arith))
last_admits p h1 h2 h3 (suc (suc zero)) u = (λ h. absurd (h2 u h), λ (e, h). absurd (omega arith))
last_admits p h1 h2 h3 (suc (suc (suc zero))) u = (λ h. absurd (h3 u h), λ (e, h). absurd (omega arith))
last_admits p h1 h2 h3 (suc (suc (suc (suc j)))) u = (λ h. absurd h, λ (e, h). absurd (omega arith))

-- a table of no latest entries admits no state
none_at : (n c : ℕ) → get_or (replicate {A = Option ℤ} n None) c None ≡ None
none_at n c = elim (cases_lt c n) [
  | inl lt ↦ get_or-replicate {A = Option ℤ} n c None None lt
  | inr ge ↦ get_or_past (replicate {A = Option ℤ} n None) c None (let e = length-replicate {A = Option ℤ} n None in omega arith)
]

pub none_admitted : (n : ℕ) (s : State) → Admits (replicate {A = Option ℤ} n None) s → ⊥
none_admitted n s a = subst (λ (o : Option ℤ). NotLater o s.entry) (none_at n s.colour) a

-- a walk from states before which no row was lost
pub walked_first : (m : Rules) (r : Asked) (sets : List (List Span)) (a : ℕ) (xs : List Move) (b j : ℕ) (u : State) → WalkedFrom m r (NoneBefore sets) a xs b j u ↔ AfterLostMoves m r a xs b j sets u
walked_first m r sets a xs b j u = (
  λ (i, k, e, (s, (z, h), walk)). let same : k ≡ j = omega arith in (s, h, subst (λ (n : ℕ). LostWalk m r a xs b n s u) same walk),
  λ (s, h, walk). (0, j, omega arith, (s, (refl, h), walk)),
)

pub walked_last : (m : Rules) (latest : List (Option ℤ)) (a : ℕ) (xs : List Move) (b j : ℕ) (s : State) → WalkedTo m (NoneAfter latest) a xs b j s ↔ BeforeLostMoves m nothing_asked a xs b j latest s
walked_last m latest a xs b j s = (
  λ (i, k, e, (u, (z, h), walk)). let same : k ≡ j = omega arith in (u, h, subst (λ (n : ℕ). LostWalk m nothing_asked a xs b n s u) same walk),
  λ (u, h, walk). (0, j, omega arith, (u, (refl, h), walk)),
)

pub first_before : (p : LostPasts) (sets : List (List Span)) (low : ℕ) → ((j : ℕ) (u : State) → HoldsLost p j u ↔ NoneBefore sets j u) → EnteredBefore sets low → AllBefore p low
first_before p sets low is early j few u h = early u ((is j u).0 h).1
