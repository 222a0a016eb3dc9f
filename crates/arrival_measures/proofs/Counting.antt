-- Rows of a detector, judged one by one.
use Rattle.std.proofs.Common.{◌≡◌, ◌↔◌, inl, inr, ℕ, suc, ◌+◌, ◌^◌, ◌<◌, ◌≤◌, Bool, true, false, not, IsTrue, List, [], ◌∷◌, ◌++◌, length, get_or, take, refl, ap, sym, subst, ◌∙◌, arith}
use Rattle.std.specs.List.{filter}
use Rattle.std.proofs.lemmas.Bool.{cases_Bool, and_parts, not-true, not_from_false, not_from_true}
use Rattle.std.proofs.lemmas.List.{length-take-le}
use Rattle.std.proofs.lemmas.List.Sums.{length-filter, count_by-le-length}
use Rattle.sig_base.specs.declared.values.Row.{Row}
use Rattle.sig_base.proofs.Common.{clash}
use Rattle.reach.specs.Runs.{State}
use Rattle.reach.specs.Tests.{Meets}
use Rattle.reach.specs.declared.seen.Test.{Test}
use Rattle.reach.specs.declared.seen.AgeBound.TheVariants.{Any}
use Rattle.reach.specs.declared.seen.Seen.{Seen}
use Rattle.hour_sweep.specs.Sums.{capped, one_if}
use Rattle.board.specs.Logs.{no_row}
use Rattle.hour_sweep.proofs.SumCommon.{capped_zero}
use Rattle.arrival_measures.specs.declared.judged.Judged.{Judged}
use Rattle.arrival_measures.specs.Judged.{AllPass, NonePass, CountOf}
use Rattle.arrival_measures.specs.Steps.{IsMaskOf, Says, AreJudgedRows, judged_unseen, judged_with, no_judged}
use Rattle.arrival_measures.proofs.Chaining.{one_kept, one_left}

-- counts

pub count_more : {X : Type 0} (P : X → Type 0) (xs : List X) (x : X) (n : ℕ) (b : Bool) → CountOf P xs n → (IsTrue b ↔ P x) → CountOf P (xs ++ x ∷ []) (n + one_if b)
unfolding CountOf
count_more P [] x n true h d = inl (d.0 refl, (0, omega arith, refl))
count_more P [] x n false h d = inr ((λ p. clash false (d.1 p) refl), omega arith)
count_more P (y ∷ ys) x n b (inl (p, (m, e, r))) d = inl (p, (m + one_if b, ap (λ k. k + one_if b) e ∙ omega arith, count_more P ys x m b r d))
count_more P (y ∷ ys) x n b (inr (q, r)) d = inr (q, count_more P ys x n b r d)

pub count_low : {X : Type 0} (P : X → Type 0) (xs : List X) (n : ℕ) → CountOf P xs n → n ≤ length xs
unfolding CountOf
count_low P [] n h = omega arith
count_low P (y ∷ ys) n (inl (p, (m, e, r))) = let l = count_low P ys m r in omega arith
count_low P (y ∷ ys) n (inr (q, r)) = let l = count_low P ys n r in omega arith

-- there is one count
pub count_one : {X : Type 0} (P : X → Type 0) (xs : List X) (n m : ℕ) → CountOf P xs n → CountOf P xs m → n ≡ m
unfolding CountOf
count_one P [] n m h k = h ∙ sym k
count_one P (y ∷ ys) n m (inl (p, (i, e, r))) (inl (q, (j, f, s))) = e ∙ ap (λ z. suc z) (count_one P ys i j r s) ∙ sym f
count_one P (y ∷ ys) n m (inl (p, (i, e, r))) (inr (q, s)) = absurd (q p)
count_one P (y ∷ ys) n m (inr (p, r)) (inl (q, (j, f, s))) = absurd (p q)
count_one P (y ∷ ys) n m (inr (p, r)) (inr (q, s)) = count_one P ys n m r s

capped_few : (n k l : ℕ) → n ≤ l → l + 1 < 2 ^ 64 → k ≤ 1 → capped (n + k) ≡ n + k
unfolding capped
capped_few n k l a b c = omega arith

pub one_low : (b : Bool) → one_if b ≤ 1
one_low true = omega arith
one_low false = omega arith

count_next : (P : Row → Type 0) (xs : List Row) (x : Row) (n : ℕ) (b : Bool) → length xs + 1 < 2 ^ 64 → (IsTrue b ↔ P x) → CountOf P xs n → CountOf P (xs ++ x ∷ []) (capped (n + one_if b))
count_next P xs x n b few d h = subst (λ (k : ℕ). CountOf P (xs ++ x ∷ []) k) (sym (capped_few n (one_if b) (length xs) (count_low P xs n h) few (one_low b))) (count_more P xs x n b h d)

capped_next : (n m : ℕ) → n ≡ capped m → capped (n + 1) ≡ capped (m + 1)
unfolding capped
capped_next n m e = omega arith

-- rows one by one, with a test of which of them are seen

few_pass : (T : Row → Bool) (rows : List Row) (i : ℕ) → i ≤ length rows → length (filter T (take i rows)) ≤ i
few_pass T rows i le = let a = length-filter T (take i rows) in let b = count_by-le-length T (take i rows) in let e = length-take-le i rows le in omega arith

-- one row more
taken : (rows : List Row) (i : ℕ) → i < length rows → length (take i rows) + 1 ≡ length (take (i + 1) rows)
taken rows i lt = let a = length-take-le i rows (omega arith) in let b = length-take-le (i + 1) rows (omega arith) in omega arith

pushed_length : (T : Row → Bool) (rows : List Row) (i : ℕ) → i < length rows → T (get_or rows i no_row) ≡ true → length (filter T (take i rows)) + 1 ≡ length (filter T (take (i + 1) rows))
pushed_length T rows i lt e = sym (ap (λ zs. length zs) (one_kept T rows i lt e) ∙ one_longer (filter T (take i rows)) (get_or rows i no_row))
  where
    one_longer : (xs : List Row) (x : Row) → length (xs ++ x ∷ []) ≡ length xs + 1
    one_longer [] x = refl
    one_longer (y ∷ ys) x = let r = one_longer ys x in omega arith

module _ (test : ℕ → Bool) (May : ℕ → State → Type 0) (sees : Row → Bool) (rows : List Row) (i : ℕ) (lt : i < length rows) (few : length rows < 2 ^ 64) where
  count_on : (P : Row → Type 0) (n : ℕ) (b : Bool) → sees (get_or rows i no_row) ≡ true → (IsTrue b ↔ P (get_or rows i no_row)) → CountOf P (filter sees (take i rows)) n → CountOf P (filter sees (take (i + 1) rows)) (capped (n + one_if b))
  count_on P n b on d h =
      let le = few_pass sees rows i (omega arith) in
      subst (λ (zs : List Row). CountOf P zs (capped (n + one_if b))) (sym (one_kept sees rows i lt on)) (count_next P (filter sees (take i rows)) (get_or rows i no_row) n b (omega arith) d h)

  pub judged_on : (j new : Judged) (seen : Seen) → sees (get_or rows i no_row) ≡ true → Says test (May (get_or rows i no_row).at) seen → new ≡ judged_with j seen → AreJudgedRows test May sees (take i rows) j → AreJudgedRows test May sees (take (i + 1) rows) new
  judged_on j new seen on s n h = rw n (record {
    count = capped_next j.rows (length (take i rows)) h.count ∙ ap (λ k. capped k) (taken rows i lt);
    all = count_on _ j.all _ on s.all h.all;
    none = count_on _ j.none _ on s.none h.none;
    some = count_on _ j.some _ on s.some h.some;
    unseen = h.unseen ∙ ap (λ zs. capped (length zs)) (sym (one_left (λ x. not (sees x)) rows i lt (not_from_true (sees (get_or rows i no_row)) on)));
  })

  count_off : (P : Row → Type 0) (n : ℕ) → sees (get_or rows i no_row) ≡ false → CountOf P (filter sees (take i rows)) n → CountOf P (filter sees (take (i + 1) rows)) n
  count_off P n off h = subst (λ (zs : List Row). CountOf P zs n) (sym (one_left sees rows i lt off)) h

  pub judged_off : (j new : Judged) → sees (get_or rows i no_row) ≡ false → new ≡ judged_unseen j → AreJudgedRows test May sees (take i rows) j → AreJudgedRows test May sees (take (i + 1) rows) new
  judged_off j new off n h = rw n (record {
    count = capped_next j.rows (length (take i rows)) h.count ∙ ap (λ k. capped k) (taken rows i lt);
    all = count_off _ j.all off h.all;
    none = count_off _ j.none off h.none;
    some = count_off _ j.some off h.some;
    unseen = capped_next j.unseen (length (filter (λ x. not (sees x)) (take i rows))) h.unseen ∙ ap (λ k. capped k) (pushed_length (λ x. not (sees x)) rows i lt (not_from_false (sees (get_or rows i no_row)) off));
  })

-- what is seen at one tenth

pub says : (test : ℕ → Bool) (May : State → Type 0) (t : Test) (seen : Seen) → t.bound ≡ Any → IsMaskOf test t.colours → (IsTrue seen.some_true ↔ ((v : State) × May v × Meets t v)) → (IsTrue seen.some_false ↔ ((v : State) × May v × (Meets t v → ⊥))) → Says test May seen
says test May t seen any mask st sf =
    let all : IsTrue (not seen.some_false) ↔ AllPass test May = (
      λ h v may. elim (cases_Bool (test v.colour)) [
        | inl e ↦ e
        | inr e ↦ absurd (clash seen.some_false (sf.1 (v, may, λ m. clash (test v.colour) ((mask v.colour).0 m.0) e)) (not-true seen.some_false h))
      ],
      λ passes. elim (cases_Bool seen.some_false) [
        | inl e ↦ let (v, may, fails) = sf.0 e in absurd (fails ((mask v.colour).1 (passes v may), rw any tt))
        | inr e ↦ rw e refl
      ],
    ) in
    let none : IsTrue (not seen.some_true) ↔ NonePass test May = (
      λ h v may. elim (cases_Bool (test v.colour)) [
        | inl e ↦ absurd (clash seen.some_true (st.1 (v, may, ((mask v.colour).1 e, rw any tt))) (not-true seen.some_true h))
        | inr e ↦ e
      ],
      λ fails. elim (cases_Bool seen.some_true) [
        | inl e ↦ let (v, may, m) = st.0 e in absurd (clash (test v.colour) ((mask v.colour).0 m.0) (fails v may))
        | inr e ↦ rw e refl
      ],
    ) in
    record {
      all = all;
      none = none;
      some = (
        λ h. let both = and_parts seen.some_true seen.some_false h in (
          (λ passes. clash seen.some_false both.1 (not-true seen.some_false (all.1 passes))),
          (λ fails. clash seen.some_true both.0 (not-true seen.some_true (none.1 fails))),
        ),
        λ (a, n). elim (cases_Bool seen.some_true) [
          | inr e ↦ absurd (n (none.0 (rw e refl)))
          | inl e ↦ elim (cases_Bool seen.some_false) [
            | inr f ↦ absurd (a (all.0 (rw f refl)))
            | inl f ↦ rw (e, f) refl
          ]
        ],
      );
    }

pub kept_count : (n : ℕ) → n < 2 ^ 64 → n ≡ capped (n + 0)
unfolding capped
kept_count n lt = omega arith

none_counted : (P : Row → Type 0) → CountOf P [] 0
unfolding CountOf
none_counted P = refl

pub judged_none : (test : ℕ → Bool) (May : ℕ → State → Type 0) (sees : Row → Bool) (j : Judged) → j ≡ no_judged → AreJudgedRows test May sees [] j
judged_none test May sees j e = rw e (record { count = capped_zero; all = none_counted _; none = none_counted _; some = none_counted _; unseen = capped_zero })

-- of no row nothing is judged
pub none_of : (test : ℕ → Bool) (May : ℕ → State → Type 0) (sees : Row → Bool) (j : Judged) → AreJudgedRows test May sees [] j → j ≡ no_judged
unfolding CountOf
none_of test May sees j h =
    let a : j.rows ≡ 0 = h.count ∙ sym capped_zero in
    let b : j.all ≡ 0 = h.all in
    let d : j.none ≡ 0 = h.none in
    let e : j.some ≡ 0 = h.some in
    let f : j.unseen ≡ 0 = h.unseen ∙ sym capped_zero in
    same_judged j.rows j.all j.none j.some j.unseen a b d e f
  where
    same_judged : (a b d e f : ℕ) → a ≡ 0 → b ≡ 0 → d ≡ 0 → e ≡ 0 → f ≡ 0 → let x : Judged = record { rows = a; all = b; none = d; some = e; unseen = f } in x ≡ no_judged
    same_judged a b d e f p q r s t = cc
