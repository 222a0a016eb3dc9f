-- The colour of a name, as the place of the name.
use Rattle.std.proofs.Common.{◌≡◌, ℕ, zero, suc, nat_lt, arith, ◌<◌, Bool, true, false, List, [], ◌∷◌, length, get_or, Option, Some, None, IfSome, slice_get, position, refl, sym, ap, ◌∙◌}
use Rattle.std.specs.Str.{bytes_eq}
use Rattle.std.specs.List.{position_or_len}
use Rattle.std.proofs.lemmas.Bool.{lt-ltb}
use Rattle.std.proofs.lemmas.List.Quantifiers.{position-Some}
use Rattle.std.proofs.lemmas.Option.{slice_get-get_or, slice_get_within, get_or_from_slice_get}
use Rattle.std.proofs.lemmas.Slice.Eq.{bytes_eq-Decides}
use Rattle.event_codes.specs.declared.channels.Kind.{Kind}
use Rattle.channel_tables.specs.Tables.{table_of, HasName}
use Rattle.ring_config.specs.Values.{colour_of}

-- a list with an element that passes has a first one
passed : (p : List ℕ → Bool) (xs : List (List ℕ)) (c : ℕ) (d : List ℕ) → c < length xs → p (get_or xs c d) ≡ true → position_or_len p xs < length xs
passed p [] c d lt t = absurd (omega arith)
passed p (x ∷ xs) zero d lt t = rw t (omega arith)
passed p (x ∷ xs) (suc c) d lt t =
    let here : c < length xs = omega arith in
    one_more p x xs (p x) refl (passed p xs c d here t)
  where
    one_more : (q : List ℕ → Bool) (y : List ℕ) (ys : List (List ℕ)) (b : Bool) → q y ≡ b → position_or_len q ys < length ys → position_or_len q (y ∷ ys) < length (y ∷ ys)
    one_more q y ys true e le = rw e (omega arith)
    one_more q y ys false e le = rw e (omega arith)

found_some : (p : List ℕ → Bool) (xs : List (List ℕ)) (c : ℕ) (d : List ℕ) → c < length xs → p (get_or xs c d) ≡ true → position p xs ≡ None → ⊥
found_some p xs c d lt t none =
    let within : nat_lt (position_or_len p xs) (length xs) ≡ true = lt-ltb (position_or_len p xs) (length xs) (passed p xs c d lt t) in
    let some : Some (position_or_len p xs) ≡ None = rw within at none in
    cc

place_in : (names : List (List ℕ)) (text : List ℕ) (r o : Option ℕ) → position (λ name. bytes_eq text name) names ≡ o → IfSome r (λ c. slice_get names c ≡ Some text) → ((c : ℕ) → slice_get names c ≡ Some text → r ≡ Some c) → r ≡ o
place_in names text r (Some i) e named every =
    let found = position-Some (λ name. bytes_eq text name) names i [] e in
    let same : text ≡ get_or names i [] = (bytes_eq-Decides text (get_or names i [])).0 found.1 in
    every i (slice_get-get_or names i [] found.0 ∙ ap Some (sym same))
place_in names text None None e named every = refl
place_in names text (Some c) None e named every =
    let lt : c < length names = slice_get_within names c text named in
    let here : get_or names c [] ≡ text = get_or_from_slice_get names c text [] named in
    absurd (found_some (λ name. bytes_eq text name) names c [] lt ((bytes_eq-Decides text (get_or names c [])).1 (sym here)) e)

pub named_place : (kind : Kind) (text : List ℕ) (r : Option ℕ) → IfSome r (λ c. HasName kind c text) → ((c : ℕ) → HasName kind c text → r ≡ Some c) → r ≡ colour_of kind text
named_place kind text r named every = place_in (table_of kind).names text r (position (λ name. bytes_eq text name) (table_of kind).names) refl named every
