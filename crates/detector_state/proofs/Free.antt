-- Runs of a free channel.
use Rattle.std.proofs.Common.{◌≡◌, refl, ap, sym, ◌∙◌, inl, inr, ℕ, ◌<◌, ℤ, pos, ◌+ℤ◌, ◌≤ℤ◌, Some, List, [], ◌∷◌, arith}
use Rattle.std.proofs.lemmas.Int.{ints}
use Rattle.std.proofs.lemmas.Bool.{cases_eq}
use Rattle.colour_machine.specs.Rules.{Rules, Goes}
use Rattle.reach.specs.Runs.{State, state, Step, Steps, Run}
use Rattle.board.proofs.Joining.{Small, AllSmall}
use Rattle.detector_state.specs.Free.{IsFree}

module _ (m : Rules) (is : IsFree m) where
  -- a letter may come at once
  pub step_goes : (t : ℤ) (s : State) (l d : ℕ) → s.entry ≤ℤ t → Goes m s.colour l d → (u : State) × Step m t s l u × (u.colour ≡ d) × (u.entry ≤ℤ t)
  step_goes t s l d early (few, lt, go) = elim (cases_eq d s.colour) [
    | inl same ↦ (s, ((few, lt, go ∙ ap (λ n. Some n) same), inl refl), sym same, early)
    | inr ne ↦
        let zero_floor = is.floor s.colour few in
        let old : (s.entry +ℤ pos (m.floor s.colour)) ≤ℤ t = rw zero_floor (omega (arith, ints)) in
        (state d t, ((few, lt, go), inr (ne, refl, old)), refl, omega (arith, ints))
  ]

  pub step_is : (t : ℤ) (s : State) (l : ℕ) → s.colour < m.colours → s.entry ≤ℤ t → l < m.letters → (u : State) × Step m t s l u × (u.colour < m.colours) × (u.entry ≤ℤ t)
  step_is t s l few early lt =
      let (d, go, small) = is.legal s.colour l few lt in
      let (u, st, c, e) = step_goes t s l d early go in
      (u, st, rw c small, e)

  pub steps_are : (t : ℤ) (ls : List ℕ) (s : State) → s.colour < m.colours → s.entry ≤ℤ t → Small m.letters ls → (u : State) × Steps m t s ls u × (u.colour < m.colours) × (u.entry ≤ℤ t)
  steps_are t [] s few early small = (s, refl, few, early)
  steps_are t (l ∷ ls) s few early (lt, small) =
      let (v, st, few1, e) = step_is t s l few early lt in
      let (u, more, few2, early2) = steps_are t ls v few1 e small in
      (u, (v, st, more), few2, early2)

  pub run_is : (t : ℤ) (lists : List (List ℕ)) (s : State) → s.colour < m.colours → s.entry ≤ℤ t → AllSmall m.letters lists → (u : State) × Run m t s lists u
  run_is t [] s few early small = (s, refl)
  run_is t (ls ∷ rest) s few early (sm, small) =
      let (v, st, few2, early2) = steps_are t ls s few early sm in
      let (u, more) = run_is (t +ℤ pos 1) rest v few2 (omega (arith, ints)) small in
      (u, (v, st, more))
