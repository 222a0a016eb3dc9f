-- What the parts of one phase owe to the pass over an hour.
use Rattle.std.proofs.Common.{◌≡◌, ◌≢◌, ℕ, ◌≤◌, Bool, List, [], ◌∷◌, ◌++◌, Option, refl, ◌∙◌, arith}
use Rattle.std.specs.Prelude.{All}
use Rattle.std.proofs.lemmas.Bool.{ne_eqb}
use Rattle.sig_base.specs.declared.values.Row.{Row}
use Rattle.hour_sweep.specs.Numbers.{AreTracks}
use Rattle.hour_sweep.proofs.Known.{live_here}
use Rattle.service_cut.specs.declared.parts.Part.{Part}
use Rattle.service_cut.specs.declared.parts.Told.{Told}
use Rattle.service_cut.specs.declared.signs.Sign.TheVariants.{Other}
use Rattle.service_cut.specs.Signs.{sign}
use Rattle.service_cut.specs.Parts.{part_of}
use Rattle.service_cut.specs.Steps.{part_after, part_cleared, told_by}
use Rattle.service_cut.proofs.Push.{service_begun_push, yellow_push, cycle_begun_push, service_begun_same, service_begun_lost, yellow_same, yellow_lost, cycle_begun_same, cycle_begun_lost}

-- what a row tells of a phase
abbrev pub told_at : (ℕ → Bool) → ℕ → List Row → Row → List Row → Option Told
told_at known p before x rest = told_by x (part_of known x.at before p)

part_push : (known : ℕ → Bool) (p : ℕ) (before : List Row) (x : Row) → All (λ z. z.at ≤ x.at) before → part_of known x.at (before ++ x ∷ []) p ≡ part_after x (part_of known x.at before p)
part_push known p before x low =
    let l = live_here known x.at x.at (omega arith) in
    rw (service_begun_push known x.at p before x low l, yellow_push known x.at p before x l, cycle_begun_push known p before x l) refl

pub other_sign : (p : ℕ) (x : Row) → x.param ≢ p → sign p x ≡ Other
unfolding sign
other_sign p x ne = rw (ne_eqb x.param p ne) refl

part_passed : (x : Row) (a : Part) → sign a.phase x ≡ Other → part_after x a ≡ a
part_passed x a e = rw e refl

pub part_tracks : (known : ℕ → Bool) → AreTracks known (part_of known) part_after part_cleared (told_at known) told_by
part_tracks known = record {
  push = λ before x low. part_push known x.param before x low;
  other = λ p before x low ne. part_push known p before x low ∙ part_passed x (part_of known x.at before p) (other_sign p x ne);
  on = λ t u p before e. rw (service_begun_same known t u p before e, yellow_same known t u p before e, cycle_begun_same known t u p before e) refl;
  lost = λ k t u p before h lt e. rw (service_begun_lost known k u p before h lt e, yellow_lost known k u p before h lt e, cycle_begun_lost known k u p before h lt e) refl;
  now = λ before x rest low. refl;
}
