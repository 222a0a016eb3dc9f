-- Tables to which one element more is added.
use Rattle.std.proofs.Common.{◌≡◌, ◌≢◌, ℕ, ◌+◌, ◌<◌, eqb, List, [], ◌∷◌, ◌++◌, length, take, get_or, set, refl, ap, sym, ◌∙◌, arith, inl, inr}
use Rattle.std.proofs.lemmas.List.{take_more, append-nil, get_or-set_same, get_or-set_other, length-set}
use Rattle.std.proofs.lemmas.List.Elements.{filter-append}
use Rattle.std.proofs.lemmas.Bool.{cases_eq, eq-eqb, ne_eqb}
use Rattle.hour_sweep.specs.Sums.{own, AreSums}

own_one : {I : Type 0} (number : I → ℕ) (p : ℕ) (x : I) → number x ≡ p → own number p (x ∷ []) ≡ x ∷ []
own_one number p x e = rw (eq-eqb (number x) p e) refl

own_none : {I : Type 0} (number : I → ℕ) (p : ℕ) (x : I) → number x ≢ p → own number p (x ∷ []) ≡ []
own_none number p x ne = rw (ne_eqb (number x) p ne) refl

pub own-append : {I : Type 0} (number : I → ℕ) (p : ℕ) (xs ys : List I) → own number p (xs ++ ys) ≡ own number p xs ++ own number p ys
own-append number p xs ys = filter-append (λ x. eqb (number x) p) xs ys

pub sums_more : {I S : Type 0} (number : I → ℕ) (of : ℕ → List I → S) (with : S → I → S) (n : ℕ) (items : List I) (i : ℕ) (x : I) (d : S) (table new : List S)
    → ((p : ℕ) (xs : List I) → of p (xs ++ x ∷ []) ≡ with (of p xs) x) → i < length items → x ≡ get_or items i x → new ≡ set table (number x) (with (get_or table (number x) d) x) → AreSums number of n (take i items) table → AreSums number of n (take (i + 1) items) new
sums_more number of with n items i x d table new law lt is e (len, at) =
    let front = take i items in
    let y = with (get_or table (number x) d) x in
    let more : take (i + 1) items ≡ front ++ x ∷ [] = take_more items i x lt ∙ ap (λ z. front ++ z ∷ []) (sym is) in
    rw (e, more) (
      length-set table (number x) y ∙ len,
      λ p z within. elim (cases_eq (number x) p) [
        | inl same ↦
            let grown : own number p (front ++ x ∷ []) ≡ own number p front ++ x ∷ [] = own-append number p front (x ∷ []) ∙ ap (λ zs. own number p front ++ zs) (own_one number p x same) in
            let old : get_or table (number x) d ≡ of p (own number p front) = ap (λ q. get_or table q d) same ∙ at p d within in
            ap (λ q. get_or (set table q y) p z) same ∙ get_or-set_same table p y z (omega arith) ∙ ap (λ s. with s x) old ∙ sym (ap (λ zs. of p zs) grown ∙ law p (own number p front))
        | inr ne ↦
            let kept : own number p (front ++ x ∷ []) ≡ own number p front = own-append number p front (x ∷ []) ∙ ap (λ zs. own number p front ++ zs) (own_none number p x ne) ∙ append-nil (own number p front) in
            get_or-set_other table (number x) p y z (λ q. ne (sym q)) ∙ at p z within ∙ sym (ap (λ zs. of p zs) kept)
      ],
    )
