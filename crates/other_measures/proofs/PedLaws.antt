-- What the part of one pedestrian signal owes to the pass over an hour.
use Rattle.std.proofs.Common.{◌≡◌, ◌≢◌, ℕ, Bool, false, List, [], ◌∷◌, ◌++◌, refl}
use Rattle.std.proofs.lemmas.Bool.{ne_eqb}
use Rattle.sig_base.specs.declared.values.Row.{Row}
use Rattle.hour_sweep.specs.Numbers.{AreTracks}
use Rattle.other_measures.specs.LastRows.{last_row_of}
use Rattle.other_measures.specs.Peds.{is_walk, is_call, ped_of, delay_at}
use Rattle.other_measures.specs.Steps.{ped_after, ped_cleared, delay_by}
use Rattle.other_measures.proofs.LastRows.{last_row_push, last_row_same, last_row_lost, row_passed}

other_walk : (p : ℕ) (x : Row) → x.param ≢ p → is_walk p x ≡ false
unfolding is_walk
other_walk p x ne = rw (ne_eqb x.param p ne) refl

other_call : (p : ℕ) (x : Row) → x.param ≢ p → is_call p x ≡ false
unfolding is_call
other_call p x ne = rw (ne_eqb x.param p ne) refl

delay_now : (known : ℕ → Bool) (p : ℕ) (before : List Row) (x : Row) (rest : List Row) → delay_at known p before x rest ≡ delay_by x (ped_of known x.at before p)
unfolding delay_at
delay_now known p before x rest = refl

ped_push : (known : ℕ → Bool) (p : ℕ) (before : List Row) (x : Row) → ped_of known x.at (before ++ x ∷ []) p ≡ ped_after x (ped_of known x.at before p)
ped_push known p before x = rw (last_row_push (is_walk p) (is_call p) known before x) refl

pub ped_tracks : (known : ℕ → Bool) → AreTracks known (ped_of known) ped_after ped_cleared (delay_at known) delay_by
ped_tracks known = record {
  push = λ before x low. ped_push known x.param before x;
  other = λ p before x low ne. rw (last_row_push (is_walk p) (is_call p) known before x, row_passed (is_walk p x) (is_call p x) x (last_row_of (is_walk p) (is_call p) known x.at before) (other_walk p x ne) (other_call p x ne)) refl;
  on = λ t u p before e. rw (last_row_same (is_walk p) (is_call p) known t u before e) refl;
  lost = λ k t u p before h lt e. rw (last_row_lost (is_walk p) (is_call p) known k u before h lt e) refl;
  now = λ before x rest low. delay_now known x.param before x rest;
}
