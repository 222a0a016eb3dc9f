-- A cycle is the same over lists that have the same begins and ends of green in it and the same arrivals.
use Rattle.std.proofs.Common.{◌≡◌, ℕ, ◌+◌, ◌-◌, ◌<◌, ◌≤◌, Bool, true, false, ◌&&◌, ◌||◌, leb, ltb, cond, List, [], ◌∷◌, length, filter, refl, ap, sym, ◌∙◌, arith, inl, inr}
use Rattle.std.proofs.lemmas.Bool.{cases_Bool, ltb-true, lt-ltb}
use Rattle.std.proofs.lemmas.List.Elements.{All-filter, filter_agree}
use Rattle.std.proofs.lemmas.List.Sums.{length-filter}
use Rattle.sig_base.specs.declared.values.Row.{Row}
use Rattle.arrival_measures.specs.Arrivals.{is_on, ons_of, rows_within}
use Rattle.arrival_measures.specs.Green.{greens, green_after, shows_green, arrivals_in, green_arrivals_in, green_tenths_in}
use Rattle.arrival_measures.specs.Own.{turns_green}
use Rattle.arrival_measures.specs.Opens.{open_at}
use Rattle.arrival_measures.proofs.Own.{filter_filter, filter_swap}
use Rattle.arrival_measures.proofs.Tenths.{tenths_same}
use Rattle.arrival_measures.proofs.Within.{filter_same, within_below}

pub quiet : (b e g : Bool) → (b || e) ≡ false → cond b true (cond e false g) ≡ g
quiet true e g h = absurd (cc)
quiet false true g h = absurd (cc)
quiet false false g h = refl

other_green : (p : ℕ) (x : Row) (g : Bool) → turns_green p x ≡ false → green_after p x g ≡ g
other_green p x g e = quiet _ _ g e

-- the rows that turn green say what the phase shows
pub greens_turns : (p : ℕ) (g : Bool) (xs : List Row) → greens p g (filter (turns_green p) xs) ≡ greens p g xs
greens_turns p g [] = refl
greens_turns p g (x ∷ xs) = elim (cases_Bool (turns_green p x)) [
  | inl e ↦ ap (λ v. greens p g (cond v (x ∷ filter (turns_green p) xs) (filter (turns_green p) xs))) e ∙ greens_turns p (green_after p x g) xs
  | inr e ↦
      ap (λ v. greens p g (cond v (x ∷ filter (turns_green p) xs) (filter (turns_green p) xs))) e
      ∙ greens_turns p g xs
      ∙ ap (λ v. greens p v xs) (sym (other_green p x g e))
]

pub part_of_test : (l s t : Bool) → (t ≡ true → s ≡ true) → ((l && s) && (l && t)) ≡ (l && t)
part_of_test true true t h = refl
part_of_test true false true h = h refl
part_of_test true false false h = refl
part_of_test false s t h = refl

pub within_part : (a t b : ℕ) (xs : List Row) → t ≤ b → rows_within a t (rows_within a b xs) ≡ rows_within a t xs
within_part a t b xs le =
    filter_filter (λ x. leb a x.at && ltb x.at t) (λ x. leb a x.at && ltb x.at b) xs
    ∙ filter_agree (λ x. (leb a x.at && ltb x.at b) && (leb a x.at && ltb x.at t)) (λ x. leb a x.at && ltb x.at t) (λ x. part_of_test (leb a x.at) (ltb x.at b) (ltb x.at t) (λ e. let lt = ltb-true x.at t e in lt-ltb x.at b (omega arith))) xs

turns_part : (p a t b : ℕ) (xs : List Row) → t ≤ b → greens p false (rows_within a t xs) ≡ greens p false (rows_within a t (filter (turns_green p) (rows_within a b xs)))
turns_part p a t b xs le =
    sym (greens_turns p false (rows_within a t xs))
    ∙ ap (λ zs. greens p false (filter (turns_green p) zs)) (sym (within_part a t b xs le))
    ∙ ap (λ zs. greens p false zs) (filter_swap (turns_green p) (λ x. leb a x.at && ltb x.at t) (rows_within a b xs))

green_count : (p d a b : ℕ) (xs : List Row) → green_arrivals_in p d a b xs ≡ length (filter (λ x. shows_green p a xs x.at) (ons_of d (rows_within a b xs)))
green_count p d a b xs =
    sym (length-filter (λ x. is_on d x && shows_green p a xs x.at) (rows_within a b xs))
    ∙ ap (λ zs. length zs) (sym (filter_filter (λ x. shows_green p a xs x.at) (is_on d) (rows_within a b xs)))

module _ (p d a b : ℕ) (xs ys : List Row) (turns : filter (turns_green p) (rows_within a b xs) ≡ filter (turns_green p) (rows_within a b ys)) (ons : ons_of d (rows_within a b xs) ≡ ons_of d (rows_within a b ys)) where
  part_greens : (t : ℕ) → t ≤ b → greens p false (rows_within a t xs) ≡ greens p false (rows_within a t ys)
  part_greens t le = turns_part p a t b xs le ∙ ap (λ zs. greens p false (rows_within a t zs)) turns ∙ sym (turns_part p a t b ys le)

  part_shows : (t : ℕ) → t < b → shows_green p a xs t ≡ shows_green p a ys t
  unfolding shows_green
  part_shows t lt = part_greens (t + 1) (omega arith)

  part_count : green_arrivals_in p d a b xs ≡ green_arrivals_in p d a b ys
  part_count =
      let low = All-filter (is_on d) (λ (x : Row). x.at < b) (rows_within a b ys) (within_below a b ys) in
      green_count p d a b xs
      ∙ ap (λ zs. length (filter (λ x. shows_green p a xs x.at) zs)) ons
      ∙ ap (λ zs. length zs) (filter_same (λ x. x.at < b) (λ x. shows_green p a xs x.at) (λ x. shows_green p a ys x.at) (ons_of d (rows_within a b ys)) (λ x lt. part_shows x.at lt) low)
      ∙ sym (green_count p d a b ys)

  part_tenths : a ≤ b → green_tenths_in p a b xs ≡ green_tenths_in p a b ys
  part_tenths le = tenths_same (shows_green p a xs) (shows_green p a ys) a (b - a) (λ t lo hi. part_shows t (omega arith))

  pub open_by_parts : a ≤ b → open_at p d a b xs ≡ open_at p d a b ys
  unfolding open_at
  open_by_parts le =
      let arrivals : arrivals_in d a b xs ≡ arrivals_in d a b ys = ap (λ zs. length zs) ons in
      let green = part_count in
      let tenths = part_tenths le in
      let now = part_greens b (omega arith) in
      rw (arrivals, green, tenths, now) refl
