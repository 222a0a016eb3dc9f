-- A clause, term by term.
use Rattle.std.proofs.Common.{◌≡◌, refl, sym, subst, inl, inr, ℕ, ◌<◌, nat_eq, if◌then◌else◌, List, [], ◌∷◌, length}
use Rattle.std.proofs.lemmas.Bool.{eq-eqb}
use Rattle.std.proofs.lemmas.Bool.Decides.{eqb_tells}
use Rattle.colour_machine.specs.Mask.{Has}
use Rattle.reach.specs.Runs.{State}
use Rattle.board.specs.declared.clause.Term.{Term}
use Rattle.board.specs.Channels.{AreSpecs}
use Rattle.board.specs.Verdicts.{AreWithin, Keeps}
use Rattle.signal_log.specs.Log.{HasHistory, Log, window_end}
use Rattle.signal_log.specs.States.{MayBeAtEnd, MayBeAtEndOf}
use Rattle.signal_log.proofs.Lawful.{combine}
use Rattle.decisive.specs.Laws.{ClauseByTerms, NoTermHolds}
use Rattle.decisive.proofs.Less.{some_end}

module _ (log : Log) (x : ℕ) (are : AreSpecs log.specs) (has : HasHistory log) (lt : x < window_end log) where
  -- with one channel's state in the place of its own
  with_one : (ℕ → State) → ℕ → State → ℕ → State
  with_one w i z n = if nat_eq n i then z else w n

  one_is : (w : ℕ → State) (i : ℕ) (z : State) → with_one w i z i ≡ z
  unfolding with_one
  one_is w i z = rw (eq-eqb i i refl) refl

  swapped : (w : ℕ → State) (i : ℕ) (z : State) → MayBeAtEnd log x w → MayBeAtEndOf log i x z → MayBeAtEnd log x (with_one w i z)
  unfolding with_one
  swapped w i z m one = (combine log x (with_one w i z) are has lt).1 (λ n small. elim (eqb_tells n i) [
    | inl (test, e) ↦ rw test (subst (λ (y : ℕ). MayBeAtEndOf log y x z) (sym e) one)
    | inr (test, ne) ↦ rw test ((combine log x w are has lt).0 m n small)
  ])

  some_broken : (terms : List Term) → ((w : ℕ → State) → MayBeAtEnd log x w → Keeps terms w → ⊥) → NoTermHolds log x terms
  some_broken [] none = tt
  some_broken (c ∷ cs) none = (
    (λ z m h. let (w, all) = some_end log x are has lt in none (with_one w c.spec z) (swapped w c.spec z all m) (inl (subst (λ (y : State). Has c.colours y.colour) (sym (one_is w c.spec z)) h))),
    some_broken cs (λ w m k. none w m (inr k)),
  )

  all_broken : (terms : List Term) → AreWithin (length log.specs) terms → NoTermHolds log x terms → (w : ℕ → State) → MayBeAtEnd log x w → Keeps terms w → ⊥
  all_broken [] within each w m k = k
  all_broken (c ∷ cs) (small, within) (one, rest) w m k = elim k [
    | inl h ↦ one (w c.spec) ((combine log x w are has lt).0 m c.spec small) h
    | inr q ↦ all_broken cs within rest w m q
  ]

pub by_terms : ClauseByTerms
by_terms log x terms are has within lt = (some_broken log x are has lt terms, all_broken log x are has lt terms within)
