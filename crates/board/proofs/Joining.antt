-- The lists of letters of several channels, joined in one list of events.
use Rattle.std.proofs.Common.{suc, zero, ◌≡◌, ◌≢◌, refl, ap, sym, ◌∙◌, subst, inl, inr, ℕ, ◌+◌, ◌<◌, ◌≤◌, ℤ, pos, ◌+ℤ◌, Bool, true, false, IsTrue, List, [], ◌∷◌, ◌++◌, length, map, arith, Option, Some, None}
use Rattle.std.proofs.lemmas.Bool.{cases_eq, cases_Bool}
use Rattle.std.proofs.lemmas.List.{append-nil}
use Rattle.colour_machine.specs.Rules.{Rules}
use Rattle.reach.specs.Runs.{State, Steps, Run}
use Rattle.board.specs.History.{Agree, AreEvents, AreTracks, Bounded, Event, Track, letters, put}

put_join : (o : Option ℕ) (xs ys zs : List ℕ) → zs ≡ xs ++ ys → put o zs ≡ put o xs ++ ys
put_join None xs ys zs e = e
put_join (Some l) xs ys zs e = ap (λ ws. l ∷ ws) e

-- the letters of two lists of events
pub letters_join : (k : Track) (acts bs : List Event) → letters k (acts ++ bs) ≡ letters k acts ++ letters k bs
letters_join k [] bs = refl
letters_join k (a ∷ acts) bs = put_join (k.letter a.code a.param) (letters k acts) (letters k bs) (letters k (acts ++ bs)) (letters_join k acts bs)

-- each letter is one of the machine's
abbrev pub Small : ℕ → List ℕ → Type 0
Small n [] = Unit {0}
Small n (l ∷ ls) = (l < n) × Small n ls

abbrev pub AllSmall : ℕ → List (List ℕ) → Type 0
AllSmall n [] = Unit {0}
AllSmall n (x ∷ xs) = Small n x × AllSmall n xs

steps_small : (m : Rules) (t : ℤ) (ls : List ℕ) (s u : State) → Steps m t s ls u → Small m.letters ls
steps_small m t [] s u e = tt
steps_small m t (l ∷ ls) s u (v, (g, k), r) = (g.1, steps_small m t ls v u r)

pub run_small : (m : Rules) (t : ℤ) (lists : List (List ℕ)) (s u : State) → Run m t s lists u → AllSmall m.letters lists
run_small m t [] s u r = tt
run_small m t (ls ∷ rest) s u (v, e, r) = (steps_small m t ls s v e, run_small m (t +ℤ pos 1) rest v u r)

abbrev first : {A : Type 0} → A → List A → A
first d [] = d
first d (x ∷ xs) = x

abbrev rest_of : {A : Type 0} → List A → List A
rest_of [] = []
rest_of (x ∷ xs) = xs

cut_first : {A : Type 0} → (d : A) (xs : List A) (n : ℕ) → length xs ≡ suc n → xs ≡ first d xs ∷ rest_of xs
cut_first d [] n e = absurd (omega arith)
cut_first d (x ∷ xs) n e = refl

nil_of : {A : Type 0} → (xs : List A) → length xs ≡ 0 → xs ≡ []
nil_of [] e = refl
nil_of (x ∷ xs) e = absurd (omega arith)

pub are_events_join : (acts bs : List Event) → AreEvents acts → AreEvents bs → AreEvents (acts ++ bs)
are_events_join [] bs h g = g
are_events_join (a ∷ acts) bs (x, h) g = (x, are_events_join acts bs h g)

module _ (n : ℕ) (tracks : ℕ → Track) (are : AreTracks n tracks) where
  -- events for letters of one channel
  pub encode : (i : ℕ) → i < n → (ls : List ℕ) → Small (tracks i).rules.letters ls → (acts : List Event) × AreEvents acts × (letters (tracks i) acts ≡ ls) × ((j : ℕ) → j < n → i ≢ j → letters (tracks j) acts ≡ [])
  encode i lt [] s = ([], tt, refl, λ j h ne. refl)
  encode i lt (l ∷ ls) s =
      let (a, byte, e) = are.event i l lt s.0 in
      let (acts, bytes, es, others) = encode i lt ls s.1 in (
        a ∷ acts,
        (byte, bytes),
        ap (λ (o : Option ℕ). put o (letters (tracks i) acts)) e ∙ ap (λ ws. l ∷ ws) es,
        λ j h ne. ap (λ (o : Option ℕ). put o (letters (tracks j) acts)) (are.apart i j a l lt h ne e) ∙ others j h ne,
      )

  -- events for letters of each of the first k channels
  encode_all : (k : ℕ) → k ≤ n → (ls : ℕ → List ℕ) → ((i : ℕ) → i < k → Small (tracks i).rules.letters (ls i)) → (acts : List Event) × AreEvents acts × ((i : ℕ) → i < k → letters (tracks i) acts ≡ ls i) × ((i : ℕ) → k ≤ i → i < n → letters (tracks i) acts ≡ [])
  encode_all zero h ls s = ([], tt, (λ i lt. absurd (omega arith)), λ i le lt. refl)
  encode_all (suc k) h ls s =
      let (acts, bytes, own, others) = encode_all k (omega arith) ls (λ i lt. s i (omega arith)) in
      let (bs, more, mine, not_mine) = encode k (omega arith) (ls k) (s k (omega arith)) in (
        acts ++ bs,
        are_events_join acts bs bytes more,
        λ i lt. letters_join (tracks i) acts bs ∙ elim (cases_eq i k) [
          | inl e ↦ subst (λ (x : ℕ). letters (tracks x) acts ++ letters (tracks x) bs ≡ ls x) (sym e) (ap (λ ws. ws ++ letters (tracks k) bs) (others k (omega arith) (omega arith)) ∙ mine)
          | inr ne ↦ ap (λ ws. letters (tracks i) acts ++ ws) (not_mine i (omega arith) (λ x. ne (sym x))) ∙ (append-nil (letters (tracks i) acts) ∙ own i (omega arith))
        ],
        λ i le lt. letters_join (tracks i) acts bs ∙ (ap (λ ws. letters (tracks i) acts ++ ws) (not_mine i lt (λ x. absurd (omega arith))) ∙ (append-nil (letters (tracks i) acts) ∙ others i (omega arith) lt)),
      )

  -- one tenth
  tenth_joined : (known : Bool) (given : List Event) (ls : ℕ → List ℕ) → ((i : ℕ) → i < n → Small (tracks i).rules.letters (ls i)) → ((i : ℕ) → i < n → IsTrue known → ls i ≡ letters (tracks i) given) → (acts : List Event) × (IsTrue known → acts ≡ given) × (known ≡ false → AreEvents acts) × ((i : ℕ) → i < n → letters (tracks i) acts ≡ ls i)
  tenth_joined known given ls s g = elim (cases_Bool known) [
    | inl is_known ↦ (given, (λ _. refl), (λ not_known. absurd (let bad : true ≡ false = sym is_known ∙ not_known in cc)), λ i lt. sym (g i lt is_known))
    | inr not_known ↦ let (acts, bytes, own, _) = encode_all n (omega arith) ls s in (acts, (λ is_known. absurd (cc)), (λ _. bytes), own)
  ]

  -- lists of letters of each channel that agree are the letters of lists of events that agree
  pub lists_joined : (known : ℕ → Bool) (given : ℕ → List Event) (len t : ℕ) (lists : ℕ → List (List ℕ)) → ((i : ℕ) → i < n → length (lists i) ≡ len) → ((i : ℕ) → i < n → AllSmall (tracks i).rules.letters (lists i)) → ((i : ℕ) → i < n → Agree known (λ x. letters (tracks i) (given x)) t (lists i)) → (events : List (List Event)) × (length events ≡ len) × Agree known given t events × Bounded known t events × ((i : ℕ) → i < n → map (letters (tracks i)) events ≡ lists i)
  lists_joined known given zero t lists l s g = ([], refl, tt, tt, λ i lt. sym (nil_of (lists i) (l i lt)))
  lists_joined known given (suc len) t lists l s g =
      let parts : (i : ℕ) → i < n → lists i ≡ first [] (lists i) ∷ rest_of (lists i) = λ i lt. cut_first [] (lists i) len (l i lt) in
      let s2 : (i : ℕ) → i < n → AllSmall (tracks i).rules.letters (first [] (lists i) ∷ rest_of (lists i)) = λ i lt. subst (λ (xs : List (List ℕ)). AllSmall (tracks i).rules.letters xs) (parts i lt) (s i lt) in
      let g2 : (i : ℕ) → i < n → Agree known (λ x. letters (tracks i) (given x)) t (first [] (lists i) ∷ rest_of (lists i)) = λ i lt. subst (λ (xs : List (List ℕ)). Agree known (λ x. letters (tracks i) (given x)) t xs) (parts i lt) (g i lt) in
      let l2 : (i : ℕ) → i < n → length (rest_of (lists i)) ≡ len = λ i lt. (let p = l i lt in let q = ap length (parts i lt) in omega arith) in
      let (acts, is, byte, own) = tenth_joined (known t) (given t) (λ i. first [] (lists i)) (λ i lt. (s2 i lt).0) (λ i lt. (g2 i lt).0) in
      let (events, len2, agree, bytes, owns) = lists_joined known given len (t + 1) (λ i. rest_of (lists i)) l2 (λ i lt. (s2 i lt).1) (λ i lt. (g2 i lt).1) in
      (acts ∷ events, ap suc len2, (is, agree), (byte, bytes), λ i lt. ap (λ x. x ∷ map (letters (tracks i)) events) (own i lt) ∙ (ap (λ xs. first [] (lists i) ∷ xs) (owns i lt) ∙ sym (parts i lt)))
