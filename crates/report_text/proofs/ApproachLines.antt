-- How the lines of approaches, and those of points, follow from one another.
use Rattle.std.proofs.Common.{◌≡◌, ◌<◌, ◌≤◌, ◌+◌, ◌++◌, ◌∷◌, [], ℕ, List, zero, suc, length, drop, get_or, Some, None, refl, sym, ap, ◌∙◌, add-one}
use Rattle.std.specs.Prelude.{flat_map, slice_get}
use Rattle.std.proofs.Math.Seq.{drop-cons}
use Rattle.std.proofs.lemmas.List.{drop_all}
use Rattle.std.proofs.lemmas.List.Concat.{flat_map-cons}
use Rattle.std.proofs.lemmas.Option.{slice_get_within, slice_get_read, get_or_from_slice_get}
use Rattle.ring_config.specs.declared.items.Approach.{Approach}
use Rattle.split_measures.specs.declared.failures.SplitSum.{SplitSum}
use Rattle.arrival_measures.specs.declared.sums.ArrivalSum.{ArrivalSum}
use Rattle.report_text.specs.Approaches.{approach_text, approaches_text}

-- the item at a place, and those after it
drop_next : {A : Type 0} (xs : List A) (i : ℕ) (x : A) → slice_get xs i ≡ Some x → drop i xs ≡ x ∷ drop (i + 1) xs
drop_next xs i x e =
    let within : i < length xs = slice_get_within xs i x e in
    let here : drop i xs ≡ get_or xs i x ∷ drop (i + 1) xs = rw add-one (drop-cons xs i x within) in
    rw (get_or_from_slice_get xs i x x e) at here

-- there is no item at a place, so none after it
drop_none : {A : Type 0} (xs : List A) (i : ℕ) → slice_get xs i ≡ None → drop i xs ≡ []
drop_none [] zero e = refl
drop_none [] (suc i) e = refl
drop_none (x ∷ xs) zero e = cc
drop_none (x ∷ xs) (suc i) e = drop_none xs i e

-- the lines of this approach, and those of the approaches after it
pub approaches_next : (all : List Approach) (sums : List ArrivalSum) (splits : List SplitSum) (i : ℕ) (a : Approach) (s : ArrivalSum) (f : SplitSum) → Some a ≡ slice_get all i → i < length sums → s ≡ get_or sums i s → i < length splits → f ≡ get_or splits i f
    → approaches_text (drop i all) (drop i sums) (drop i splits) ≡ approach_text a s f ++ approaches_text (drop (i + 1) all) (drop (i + 1) sums) (drop (i + 1) splits)
approaches_next all sums splits i a s f e within h within_f hf =
    rw (drop_next all i a (sym e), drop_next sums i s (slice_get_read sums (length sums) i s refl within h), drop_next splits i f (slice_get_read splits (length splits) i f refl within_f hf)) refl

no_sums : (all : List Approach) (splits : List SplitSum) → approaches_text all [] splits ≡ []
no_sums [] splits = refl
no_sums (a ∷ more) splits = refl

no_splits : (all : List Approach) (sums : List ArrivalSum) → approaches_text all sums [] ≡ []
no_splits [] sums = refl
no_splits (a ∷ more) [] = refl
no_splits (a ∷ more) (s ∷ ss) = refl

-- no sums are left
pub approaches_out : (all : List Approach) (sums : List ArrivalSum) (splits : List SplitSum) (i : ℕ) → length sums ≤ i → approaches_text (drop i all) (drop i sums) (drop i splits) ≡ []
approaches_out all sums splits i h = rw (drop_all i sums h) (no_sums (drop i all) (drop i splits))

pub splits_out : (all : List Approach) (sums : List ArrivalSum) (splits : List SplitSum) (i : ℕ) → length splits ≤ i → approaches_text (drop i all) (drop i sums) (drop i splits) ≡ []
splits_out all sums splits i h = rw (drop_all i splits h) (no_splits (drop i all) (drop i sums))

-- no approaches are left
pub approaches_past : (all : List Approach) (sums : List ArrivalSum) (splits : List SplitSum) (i : ℕ) → None ≡ slice_get all i → approaches_text (drop i all) (drop i sums) (drop i splits) ≡ []
approaches_past all sums splits i e = rw (drop_none all i (sym e)) refl

pub approaches_end : (all : List Approach) (sums : List ArrivalSum) (splits : List SplitSum) (i : ℕ) → length all ≤ i → approaches_text (drop i all) (drop i sums) (drop i splits) ≡ []
approaches_end all sums splits i h = rw (drop_all i all h) refl

-- the line of this point, and those of the points after it
pub points_next : {A : Type 0} (line : A → List ℕ) (points : List A) (i : ℕ) (d : A) → i < length points
    → flat_map line (drop i points) ≡ line (get_or points i d) ++ flat_map line (drop (i + 1) points)
points_next line points i d h =
    let here : drop i points ≡ get_or points i d ∷ drop (i + 1) points = rw add-one (drop-cons points i d h) in
    rw here (flat_map-cons line (get_or points i d) (drop (i + 1) points))

-- the same where the point is at hand
pub point_here : {A : Type 0} (line : A → List ℕ) (points : List A) (i : ℕ) (x : A) → i < length points → x ≡ get_or points i x
    → flat_map line (drop i points) ≡ line x ++ flat_map line (drop (i + 1) points)
point_here line points i x h e = points_next line points i x h ∙ ap (λ y. line y ++ flat_map line (drop (i + 1) points)) (sym e)

pub points_end : {A : Type 0} (line : A → List ℕ) (points : List A) (i : ℕ) → length points ≤ i → flat_map line (drop i points) ≡ []
points_end line points i h = rw (drop_all i points h) refl
