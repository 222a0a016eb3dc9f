-- What a cycle gives, by the rows of its own tenths alone.
use Rattle.std.proofs.Common.{◌≡◌, ℕ, ◌+◌, ◌-◌, ◌<◌, ◌≤◌, false, ◌&&◌, List, length, refl, ap, sym, ◌∙◌, arith}
use Rattle.std.specs.Prelude.{count_by}
use Rattle.sig_base.specs.declared.values.Row.{Row}
use Rattle.arrival_measures.specs.Arrivals.{is_on, ons_of, rows_within}
use Rattle.arrival_measures.specs.Green.{greens, shows_green, arrivals_in, green_arrivals_in, green_tenths_in}
use Rattle.arrival_measures.specs.Opens.{open_at}
use Rattle.arrival_measures.proofs.Within.{within_below}
use Rattle.arrival_measures.proofs.Counts.{count_same}
use Rattle.arrival_measures.proofs.Tenths.{tenths_same}
use Rattle.arrival_measures.proofs.Parts.{within_part}

pub from_is : (p d a t : ℕ) (rows : List Row) → (open_at p d a t rows).from ≡ a
unfolding open_at
from_is p d a t rows = refl

-- of two lists with the same rows in the cycle
module _ (p d a b : ℕ) (xs ys : List Row) (same : rows_within a b xs ≡ rows_within a b ys) where
  same_part : (t : ℕ) → t ≤ b → rows_within a t xs ≡ rows_within a t ys
  same_part t le = sym (within_part a t b xs le) ∙ ap (λ zs. rows_within a t zs) same ∙ within_part a t b ys le

  same_shows : (t : ℕ) → t < b → shows_green p a xs t ≡ shows_green p a ys t
  unfolding shows_green
  same_shows t lt = ap (λ zs. greens p false zs) (same_part (t + 1) (omega arith))

  same_greens : green_arrivals_in p d a b xs ≡ green_arrivals_in p d a b ys
  same_greens =
      count_same (λ x. x.at < b) (λ x. is_on d x && shows_green p a xs x.at) (λ x. is_on d x && shows_green p a ys x.at) (rows_within a b xs) (λ x lt. ap (λ v. is_on d x && v) (same_shows x.at lt)) (within_below a b xs)
      ∙ ap (λ zs. count_by (λ x. is_on d x && shows_green p a ys x.at) zs) same

  same_tenths : a ≤ b → green_tenths_in p a b xs ≡ green_tenths_in p a b ys
  same_tenths le = tenths_same (shows_green p a xs) (shows_green p a ys) a (b - a) (λ t lo hi. same_shows t (omega arith))

  pub open_same : a ≤ b → open_at p d a b xs ≡ open_at p d a b ys
  unfolding open_at
  open_same le =
      let arrivals : arrivals_in d a b xs ≡ arrivals_in d a b ys = ap (λ zs. length (ons_of d zs)) same in
      let green = same_greens in
      let tenths = same_tenths le in
      let now : greens p false (rows_within a b xs) ≡ greens p false (rows_within a b ys) = ap (λ zs. greens p false zs) same in
      rw (arrivals, green, tenths, now) refl
