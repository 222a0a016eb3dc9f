-- Lists of which each element belongs to an approach.
use Rattle.std.proofs.Common.{◌≡◌, inl, inr, ℕ, zero, suc, ◌+◌, ◌<◌, ◌≤◌, List, [], ◌∷◌, ◌++◌, length, get_or, map, take, refl, ap, sym, ◌∙◌, arith}
use Rattle.std.proofs.lemmas.Bool.{cases_eq}
use Rattle.std.proofs.lemmas.List.{get_or_append_left, map_more, map-append, take_all}
use Rattle.std.proofs.Math.Seq.{get_or-append_seam}

-- so many of the second list belong to those of the first
pub record AreEach {A S : Type 0} (P : A → S → Type 0) (all : List A) (n : ℕ) (ss : List S) : Type 0 where
  pub size : length ss ≡ n
  pub each : (i : ℕ) (a : A) (s : S) → i < n → P (get_or all i a) (get_or ss i s)

pub each_none : {A S : Type 0} (P : A → S → Type 0) (all : List A) (ss : List S) → ss ≡ [] → AreEach P all 0 ss
each_none P all ss e = record { size = ap (λ zs. length zs) e; each = λ i a s lt. absurd (omega arith) }

pub length_push : {S : Type 0} (ss : List S) (s : S) → length (ss ++ s ∷ []) ≡ length ss + 1
length_push [] s = refl
length_push (x ∷ ss) s = let r = length_push ss s in omega arith

pub each_more : {A S : Type 0} (P : A → S → Type 0) (all : List A) (n : ℕ) (ss new : List S) (s : S) → AreEach P all n ss → ((d : A) → P (get_or all n d) s) → new ≡ ss ++ s ∷ [] → AreEach P all (n + 1) new
each_more P all n ss new s h p e = rw e (record {
  size = length_push ss s ∙ ap (λ k. k + 1) h.size;
  each = λ i a z lt. elim (cases_eq i n) [
    | inl same ↦
        let at : get_or (ss ++ s ∷ []) i z ≡ s = ap (λ k. get_or (ss ++ s ∷ []) k z) (same ∙ sym h.size) ∙ get_or-append_seam ss s [] z in
        rw (at, same) (p a)
    | inr ne ↦ rw (get_or_append_left ss (s ∷ []) z i (let l = h.size in omega arith)) (h.each i a z (omega arith))
  ];
})

-- a list that stands for what f gives of each
pub mapped_more : {A S T : Type 0} (g : S → T) (f : A → T) (all : List A) (i : ℕ) (d : A) (ss new : List S) (s : S) → i < length all → map g ss ≡ map f (take i all) → g s ≡ f (get_or all i d) → new ≡ ss ++ s ∷ [] → map g new ≡ map f (take (i + 1) all)
mapped_more g f all i d ss new s lt h e n = ap (λ zs. map g zs) n ∙ map-append g ss (s ∷ []) ∙ ap (λ zs. zs ++ g s ∷ []) h ∙ ap (λ z. map f (take i all) ++ z ∷ []) e ∙ sym (map_more f all i d lt)

pub mapped_all : {A S T : Type 0} (g : S → T) (f : A → T) (all : List A) (i : ℕ) (ss : List S) → length all ≤ i → map g ss ≡ map f (take i all) → map g ss ≡ map f all
mapped_all g f all i ss le h = h ∙ ap (λ zs. map f zs) (take_all i all le)

pub got_map : {A T : Type 0} (f : A → T) (all : List A) (i : ℕ) (d : A) (e : T) → i < length all → get_or (map f all) i e ≡ f (get_or all i d)
got_map f [] i d e lt = absurd (omega arith)
got_map f (x ∷ xs) zero d e lt = refl
got_map f (x ∷ xs) (suc i) d e lt = got_map f xs i d e (omega arith)

pub listed_more : {A T : Type 0} (f : A → T) (all : List A) (i : ℕ) (d : A) (os new : List T) (o : T) → i < length all → os ≡ map f (take i all) → o ≡ f (get_or all i d) → new ≡ os ++ o ∷ [] → new ≡ map f (take (i + 1) all)
listed_more f all i d os new o lt h e n = n ∙ ap (λ zs. zs ++ o ∷ []) h ∙ ap (λ z. map f (take i all) ++ z ∷ []) e ∙ sym (map_more f all i d lt)

pub listed_all : {A T : Type 0} (f : A → T) (all : List A) (i : ℕ) (os : List T) → length all ≤ i → os ≡ map f (take i all) → os ≡ map f all
listed_all f all i os le h = h ∙ ap (λ zs. map f zs) (take_all i all le)
