-- Rows in chains, and those that a chain passes over.
use Rattle.std.proofs.Common.{◌≡◌, ◌≢◌, ℕ, zero, suc, ◌+◌, ◌-◌, ◌<◌, ◌≤◌, Bool, true, false, cond, List, [], ◌∷◌, ◌++◌, length, get_or, set, take, ap, sym, subst, ◌∙◌, arith, inl, inr}
use Rattle.std.specs.List.{filter}
use Rattle.std.proofs.Math.ListN.{replicate}
use Rattle.std.proofs.lemmas.Bool.{cases_Bool, cases_eq}
use Rattle.std.proofs.lemmas.List.{append-nil, get_or-set_same, get_or-set_other, length-set, length-replicate, take_all}
use Rattle.std.proofs.lemmas.List.Elements.{filter_more}
use Rattle.sig_base.specs.declared.values.Row.{Row}
use Rattle.sig_base.proofs.Common.{clash}
use Rattle.board.specs.Logs.{no_row}
use Rattle.arrival_measures.specs.declared.chains.Chain.{Chain}
use Rattle.arrival_measures.specs.declared.chains.Chain.TheVariants.{Green, On}
use Rattle.arrival_measures.proofs.Padding.{get_or-padded}
use Rattle.arrival_measures.specs.Chains.{AreChains, IsNext, IsOnlyIn, cell_of, is_in, number_of}

-- ---- the next row of a chain

module _ (test : Row → Bool) (rows : List Row) where
  next_end : (n : ℕ) → n ≡ length rows → IsNext test rows n n
  next_end n e = record { from = omega arith; within = omega arith; none = λ j a b. absurd (omega arith); passes = λ lt. absurd (omega arith) }

  next_none : (k m : ℕ) → test (get_or rows k no_row) ≡ false → IsNext test rows (k + 1) m → IsNext test rows k m
  next_none k m e next = record {
    from = let a = next.from in omega arith;
    within = next.within;
    none = λ j a b. elim (cases_eq j k) [ inl same ↦ ap (λ i. test (get_or rows i no_row)) same ∙ e | inr ne ↦ next.none j (omega arith) b ];
    passes = next.passes;
  }

  next_here : (k : ℕ) → k < length rows → test (get_or rows k no_row) ≡ true → IsNext test rows k k
  next_here k lt e = record { from = omega arith; within = omega arith; none = λ j a b. absurd (omega arith); passes = λ _. e }

-- ---- the chains, row by row from the last

cell_same : (a b : Chain) → cell_of a ≡ cell_of b → a ≡ b
cell_same (Green p) (Green q) e = ap (λ (n : ℕ). Green n) (let same : p ≡ q = omega arith in same)
cell_same (Green p) (On d) e = absurd (omega arith)
cell_same (On d) (Green p) e = absurd (omega arith)
cell_same (On c) (On d) e = ap (λ (n : ℕ). On n) (let same : c ≡ d = omega arith in same)

-- new cells that have what stands where there is no cell change nothing
pub cells_made : (heads new : List ℕ) (n none : ℕ) → length heads ≤ n → new ≡ take n heads ++ replicate (n - length heads) none → (i : ℕ) → get_or new i none ≡ get_or heads i none
cells_made heads new n none le e i =
    ap (λ (xs : List ℕ). get_or xs i none) (e ∙ ap (λ (xs : List ℕ). xs ++ replicate (n - length heads) none) (take_all n heads le))
    ∙ get_or-padded none heads (n - length heads) i

pub chains_none : (rows : List Row) (n : ℕ) (heads next : List ℕ) → n ≡ length rows → heads ≡ [] → next ≡ replicate n n → AreChains rows n heads next
chains_none rows n heads next e h k = record {
  size = ap (λ xs. length xs) k ∙ length-replicate n n ∙ e;
  first = λ c fits. subst (λ (m : ℕ). IsNext (is_in c) rows n m) (e ∙ sym (ap (λ (xs : List ℕ). get_or xs (cell_of c) (length rows)) h)) (next_end (is_in c) rows n e);
  later = λ c j fits lo hi is. absurd (omega arith);
}

-- another table that gives the same does as well
pub chains_made : (rows : List Row) (k : ℕ) (heads made next : List ℕ) → ((i : ℕ) → get_or made i (length rows) ≡ get_or heads i (length rows)) → AreChains rows k heads next → AreChains rows k made next
chains_made rows k heads made next same old = record {
  size = old.size;
  first = λ c fits. subst (λ (m : ℕ). IsNext (is_in c) rows k m) (sym (same (cell_of c))) (old.first c fits);
  later = old.later;
}

pub chains_skip : (rows : List Row) (k : ℕ) (heads next : List ℕ) → ((c : Chain) → number_of c < 256 → is_in c (get_or rows k no_row) ≡ false) → AreChains rows (k + 1) heads next → AreChains rows k heads next
chains_skip rows k heads next none old = record {
  size = old.size;
  first = λ c fits. next_none (is_in c) rows k _ (none c fits) (old.first c fits);
  later = λ c j fits lo hi is. elim (cases_eq j k) [
    | inl same ↦ absurd (clash (is_in c (get_or rows j no_row)) is (ap (λ i. is_in c (get_or rows i no_row)) same ∙ none c fits))
    | inr ne ↦ old.later c j fits (omega arith) hi is
  ];
}

-- the row with this place comes in front of its chain
module _ (rows : List Row) (k : ℕ) (heads next : List ℕ) (own : Chain) (lt : k < length rows) (low : cell_of own < length heads) (small : number_of own < 256) (is_only : IsOnlyIn (get_or rows k no_row) own) (old : AreChains rows (k + 1) heads next) where
  abbrev heads_put : List ℕ
  heads_put = set heads (cell_of own) k

  abbrev next_put : List ℕ
  next_put = set next k (get_or heads (cell_of own) (length rows))

  own_first : IsNext (is_in own) rows k (get_or heads_put (cell_of own) (length rows))
  own_first =
      let at : get_or heads_put (cell_of own) (length rows) ≡ k = get_or-set_same heads (cell_of own) k (length rows) low in
      subst (λ (m : ℕ). IsNext (is_in own) rows k m) (sym at) (next_here (is_in own) rows k lt is_only.has)

  other_first : (c : Chain) → number_of c < 256 → is_in c (get_or rows k no_row) ≡ false → IsNext (is_in c) rows k (get_or heads_put (cell_of c) (length rows))
  other_first c fits e =
      let ne : cell_of c ≢ cell_of own = λ same. clash (is_in own (get_or rows k no_row)) is_only.has (subst (λ (a : Chain). is_in a (get_or rows k no_row) ≡ false) (cell_same c own same) e) in
      let at : get_or heads_put (cell_of c) (length rows) ≡ get_or heads (cell_of c) (length rows) = get_or-set_other heads (cell_of own) (cell_of c) k (length rows) ne in
      subst (λ (m : ℕ). IsNext (is_in c) rows k m) (sym at) (next_none (is_in c) rows k _ e (old.first c fits))

  put_first : (c : Chain) → number_of c < 256 → IsNext (is_in c) rows k (get_or heads_put (cell_of c) (length rows))
  put_first c fits = elim (cases_Bool (is_in c (get_or rows k no_row))) [
    | inl e ↦ subst (λ (a : Chain). IsNext (is_in a) rows k (get_or heads_put (cell_of a) (length rows))) (sym (is_only.only c e)) own_first
    | inr e ↦ other_first c fits e
  ]

  own_later : IsNext (is_in own) rows (k + 1) (get_or next_put k 0)
  own_later =
      let size = old.size in
      let at : get_or next_put k 0 ≡ get_or heads (cell_of own) (length rows) = get_or-set_same next k (get_or heads (cell_of own) (length rows)) 0 (omega arith) in
      subst (λ (m : ℕ). IsNext (is_in own) rows (k + 1) m) (sym at) (old.first own small)

  put_later : (c : Chain) (j : ℕ) → number_of c < 256 → k ≤ j → j < length rows → is_in c (get_or rows j no_row) ≡ true → IsNext (is_in c) rows (j + 1) (get_or next_put j 0)
  put_later c j fits lo hi is = elim (cases_eq j k) [
    | inl same ↦
        let here : is_in c (get_or rows k no_row) ≡ true = subst (λ (i : ℕ). is_in c (get_or rows i no_row) ≡ true) same is in
        subst (λ (i : ℕ). IsNext (is_in c) rows (i + 1) (get_or next_put i 0)) (sym same) (subst (λ (a : Chain). IsNext (is_in a) rows (k + 1) (get_or next_put k 0)) (sym (is_only.only c here)) own_later)
    | inr ne ↦
        let at : get_or next_put j 0 ≡ get_or next j 0 = get_or-set_other next k j (get_or heads (cell_of own) (length rows)) 0 ne in
        subst (λ (m : ℕ). IsNext (is_in c) rows (j + 1) m) (sym at) (old.later c j fits (omega arith) hi is)
  ]

  pub chains_put : AreChains rows k heads_put next_put
  chains_put = record {
    size = length-set next k (get_or heads (cell_of own) (length rows)) ∙ old.size;
    first = put_first;
    later = put_later;
  }

-- ---- the rows that are passed over

pass : (test : Row → Bool) (rows : List Row) (n k : ℕ) → k + n ≤ length rows → ((j : ℕ) → k ≤ j → j < k + n → test (get_or rows j no_row) ≡ false) → filter test (take (k + n) rows) ≡ filter test (take k rows)
pass test rows zero k le none = ap (λ i. filter test (take i rows)) (let e : k + 0 ≡ k = omega arith in e)
pass test rows (suc n) k le none =
    let e : k + suc n ≡ k + n + 1 = omega arith in
    ap (λ i. filter test (take i rows)) e
    ∙ filter_more test rows (k + n) no_row (omega arith)
    ∙ ap (λ v. filter test (take (k + n) rows) ++ cond v (get_or rows (k + n) no_row ∷ []) []) (none (k + n) (omega arith) (omega arith))
    ∙ append-nil (filter test (take (k + n) rows))
    ∙ pass test rows n k (omega arith) (λ j a b. none j a (omega arith))

-- up to place m as up to place k, where no row between them passes
pub passed_over : (test : Row → Bool) (rows : List Row) (k m : ℕ) → k ≤ m → m ≤ length rows → ((j : ℕ) → k ≤ j → j < m → test (get_or rows j no_row) ≡ false) → filter test (take m rows) ≡ filter test (take k rows)
passed_over test rows k m le top none =
    let e : k + (m - k) ≡ m = omega arith in
    ap (λ i. filter test (take i rows)) (sym e) ∙ pass test rows (m - k) k (omega arith) (λ j a b. none j a (omega arith))

-- one row more, which passes
pub one_kept : (test : Row → Bool) (rows : List Row) (i : ℕ) → i < length rows → test (get_or rows i no_row) ≡ true → filter test (take (i + 1) rows) ≡ filter test (take i rows) ++ get_or rows i no_row ∷ []
one_kept test rows i lt e = filter_more test rows i no_row lt ∙ ap (λ v. filter test (take i rows) ++ cond v (get_or rows i no_row ∷ []) []) e

-- and one that doesn't
pub one_left : (test : Row → Bool) (rows : List Row) (i : ℕ) → i < length rows → test (get_or rows i no_row) ≡ false → filter test (take (i + 1) rows) ≡ filter test (take i rows)
one_left test rows i lt e = filter_more test rows i no_row lt ∙ ap (λ v. filter test (take i rows) ++ cond v (get_or rows i no_row ∷ []) []) e ∙ append-nil (filter test (take i rows))
