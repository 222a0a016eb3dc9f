-- Approaches under their names.
use Rattle.std.proofs.Common.{◌≡◌, ℕ, Bool, false, not, List, [], ◌∷◌, ◌++◌, map, position, append_assoc, refl, ap, sym, ◌∙◌}
use Rattle.std.specs.Str.{bytes_eq}
use Rattle.std.specs.List.{AllByRecursion, prefix_len}
use Rattle.std.proofs.lemmas.List.{length-map, map_push}
use Rattle.std.proofs.lemmas.Bool.Decides.{same_from_decides}
use Rattle.std.proofs.lemmas.Slice.Eq.{bytes_eq-Decides}
use Rattle.indexmap.specs.IndexMap.{insert_entry}
use Rattle.ring_config.specs.declared.items.Approach.{Approach}
use Rattle.ring_config.specs.Walk.{NoneRepeats}
use Rattle.ring_config.specs.Settings.{approach_place}

prefix_map : {A B : Type 0} (f : A → B) (p : B → Bool) (xs : List A) → prefix_len p (map f xs) ≡ prefix_len (λ x. p (f x)) xs
prefix_map f p [] = refl
prefix_map f p (x ∷ xs) = rw (prefix_map f p xs) refl

position_map : {A B : Type 0} (f : A → B) (p : B → Bool) (xs : List A) → position p (map f xs) ≡ position (λ x. p (f x)) xs
position_map f p xs = rw (prefix_map f (λ x. not (p x)) xs, length-map) refl

bytes_comm : (xs ys : List ℕ) → bytes_eq xs ys ≡ bytes_eq ys xs
bytes_comm xs ys = same_from_decides (bytes_eq xs ys) (bytes_eq ys xs) (bytes_eq-Decides xs ys) (λ t. sym ((bytes_eq-Decides ys xs).0 t), λ e. (bytes_eq-Decides ys xs).1 (sym e))

in_middle : {X : Type 0} (P : X → Type 0) (xs : List X) (a : X) (rest : List X) → AllByRecursion P (xs ++ a ∷ rest) → P a
in_middle P [] a rest h = h.0
in_middle P (x ∷ xs) a rest h = in_middle P xs a rest h.1

module _ {K : Type 0} (name : K → List ℕ) where
  -- the place of a name, by the keys
  pub place_by_keys : (es : List (K × Approach)) (text : List ℕ) → map (λ e. name e.0) es ≡ map (λ e. e.1.name) es → position (λ k. bytes_eq text (name k)) (map (λ e. e.0) es) ≡ approach_place (map (λ e. e.1) es) text
  place_by_keys es text named =
      position_map (λ (e : K × Approach). e.0) (λ k. bytes_eq text (name k)) es
      ∙ sym (position_map (λ (e : K × Approach). name e.0) (bytes_eq text) es)
      ∙ ap (λ (xs : List (List ℕ)). position (bytes_eq text) xs) named
      ∙ position_map (λ (e : K × Approach). e.1.name) (bytes_eq text) es
      ∙ sym (position_map (λ (e : K × Approach). e.1) (λ a. bytes_eq text a.name) es)

  pub fresh : (es : List (K × Approach)) (a : Approach) (rest : List Approach) → NoneRepeats (λ (x y : Approach). bytes_eq x.name y.name) (map (λ e. e.1) es ++ a ∷ rest) → map (λ e. name e.0) es ≡ map (λ e. e.1.name) es
      → AllByRecursion (λ (e : K × Approach). bytes_eq a.name (name e.0) ≡ false) es
  fresh [] a rest distinct named = tt
  fresh (e ∷ es) a rest distinct named =
      let apart : bytes_eq e.1.name a.name ≡ false = in_middle (λ (y : Approach). bytes_eq e.1.name y.name ≡ false) (map (λ e. e.1) es) a rest distinct.0 in
      let here : name e.0 ≡ e.1.name = cc in
      let tail : map (λ (e : K × Approach). name e.0) es ≡ map (λ (e : K × Approach). e.1.name) es = cc in
      (rw here (bytes_comm a.name e.1.name ∙ apart), fresh es a rest distinct.1 tail)

  pub inserted : (eq : K → K → Bool) → ((k l : K) → eq k l ≡ bytes_eq (name k) (name l)) → (es : List (K × Approach)) (k : K) (a : Approach) → AllByRecursion (λ (e : K × Approach). bytes_eq (name k) (name e.0) ≡ false) es → insert_entry eq es k a ≡ es ++ (k, a) ∷ []
  inserted eq same [] k a apart = refl
  inserted eq same (e ∷ es) k a apart = rw (same k e.0, apart.0) (ap (λ (xs : List (K × Approach)). e ∷ xs) (inserted eq same es k a apart.1))

  -- one approach more under its name
  pub next_named : (eq : K → K → Bool) → ((k l : K) → eq k l ≡ bytes_eq (name k) (name l)) → (es new : List (K × Approach)) (k : K) (a : Approach) (left rest all : List Approach)
      → NoneRepeats (λ (x y : Approach). bytes_eq x.name y.name) all → map (λ e. name e.0) es ≡ map (λ e. e.1.name) es → map (λ e. e.1) es ++ left ≡ all → left ≡ a ∷ rest → name k ≡ a.name → new ≡ insert_entry eq es k a
      → (map (λ e. e.1) new ++ rest ≡ all) × (map (λ e. name e.0) new ≡ map (λ e. e.1.name) new)
  next_named eq same es new k a left rest all distinct named whole here key entries =
      let there : map (λ (e : K × Approach). e.1) es ++ a ∷ rest ≡ all = ap (λ (xs : List Approach). map (λ (e : K × Approach). e.1) es ++ xs) (sym here) ∙ whole in
      let apart = fresh es a rest (rw (← there) at distinct) named in
      let last : new ≡ es ++ (k, a) ∷ [] = entries ∙ inserted eq same es k a (rw (← key) at apart) in (
        rw (last, map_push (λ (e : K × Approach). e.1) es (k, a), append_assoc) there,
        rw (last, map_push (λ (e : K × Approach). name e.0) es (k, a), map_push (λ (e : K × Approach). e.1.name) es (k, a), named, key) refl,
      )
