-- A field without the spaces at its ends.
use Rattle.std.proofs.Common.{inl, inr, ◌≡◌, ◌≢◌, ◌⊎◌, ℕ, zero, suc, Bool, true, false, List, [], ◌∷◌, ◌++◌, replicate, refl, sym, ap, subst, ◌∙◌, arith, append-nil, append_assoc}
use Rattle.std.specs.Prelude.{◌==◌}
use Rattle.std.proofs.lemmas.Bool.{eqb-true}
use Rattle.std.proofs.lemmas.Bool.Decides.{nat_tests}
use Rattle.row_reader.specs.Trim.{before_end, trim_end, trim_front, trimmed}
use Rattle.record_laws.specs.Fields.{FieldsAreTrimmed, IsTrimmed}

-- a text begins with no space, and ends with none
abbrev Begins : List ℕ → Type 0
Begins text = (rest : List ℕ) → text ≢ 32 ∷ rest

abbrev Ends : List ℕ → Type 0
Ends text = (rest : List ℕ) → text ≢ rest ++ 32 ∷ []

is_space : (b : ℕ) → ((b ≡ 32) × ((b == 32) ≡ true)) ⊎ ((b ≢ 32) × ((b == 32) ≡ false))
is_space b = go (b == 32) refl
  where
    go : (t : Bool) → (b == 32) ≡ t → ((b ≡ 32) × ((b == 32) ≡ true)) ⊎ ((b ≢ 32) × ((b == 32) ≡ false))
    go true e = inl (eqb-true _ _ e, e)
    go false e = inr (grind (arith, nat_tests), e)

no_begin : Begins []
no_begin rest e = cc

no_end : Ends []
no_end [] e = cc
no_end (x ∷ xs) e = cc

-- ---- the front

front_is : (text : List ℕ) → (n : ℕ) × (text ≡ replicate n 32 ++ trim_front text) × Begins (trim_front text)
front_is [] = (0, refl, no_begin)
front_is (b ∷ bs) = elim (is_space b) [
  | inl q ↦
      let f = front_is bs in
      rw q.1 (suc f.0, (let e = f.1 in let s = q.0 in cc), f.2)
  | inr q ↦ rw q.1 (0, refl, λ rest e. let s = q.0 in absurd (s cc))
]

front_of : (n : ℕ) (text : List ℕ) → trim_front (replicate n 32 ++ text) ≡ trim_front text
front_of zero text = refl
front_of (suc n) text = front_of n text

front_stays : (text : List ℕ) → Begins text → trim_front text ≡ text
front_stays [] h = refl
front_stays (b ∷ bs) h = elim (is_space b) [
  | inl q ↦ absurd (h bs (ap (λ (x : ℕ). x ∷ bs) q.0))
  | inr q ↦ rw q.1 refl
]

-- ---- the end

end_of_spaces : (n : ℕ) → trim_end (replicate n 32) ≡ []
end_of_spaces zero = refl
end_of_spaces (suc n) = rw (end_of_spaces n) refl

end_of : (text : List ℕ) (n : ℕ) → trim_end (text ++ replicate n 32) ≡ trim_end text
end_of [] n = end_of_spaces n
end_of (b ∷ bs) n = ap (before_end b) (end_of bs n)

end_stays : (text : List ℕ) → Ends text → trim_end text ≡ text
end_stays [] h = refl
end_stays (b ∷ []) h = elim (is_space b) [
  | inl q ↦ absurd (h [] (ap (λ (x : ℕ). x ∷ []) q.0))
  | inr q ↦ rw q.1 refl
]
end_stays (b ∷ c ∷ cs) h = ap (before_end b) (end_stays (c ∷ cs) (λ rest e. h (b ∷ rest) (ap (λ (x : List ℕ). b ∷ x) e)))

-- a byte in front of a text that ends with no space
record IsEnd (b : ℕ) (t : List ℕ) (n : ℕ) : Type 0 where
  pub more : ℕ
  pub form : b ∷ (t ++ replicate n 32) ≡ before_end b t ++ replicate more 32
  pub ends : Ends (before_end b t)

one_end : (b : ℕ) → b ≢ 32 → Ends (b ∷ [])
one_end b h [] e = h cc
one_end b h (x ∷ []) e = cc
one_end b h (x ∷ y ∷ ys) e = cc

longer_end : (b x : ℕ) (xs : List ℕ) → Ends (x ∷ xs) → Ends (b ∷ x ∷ xs)
longer_end b x xs h [] e = cc
longer_end b x xs h (y ∷ ys) e = h ys cc

before_is : (b : ℕ) (t : List ℕ) (n : ℕ) → Ends t → IsEnd b t n
before_is b [] n h = elim (is_space b) [
  | inl q ↦ record { more = suc n; form = rw q.1 (ap (λ (x : ℕ). x ∷ replicate n 32) q.0); ends = rw q.1 no_end }
  | inr q ↦ record { more = n; form = rw q.1 refl; ends = rw q.1 (one_end b q.0) }
]
before_is b (x ∷ xs) n h = record { more = n; form = refl; ends = longer_end b x xs h }

end_is : (text : List ℕ) → (n : ℕ) × (text ≡ trim_end text ++ replicate n 32) × Ends (trim_end text)
end_is [] = (0, refl, no_end)
end_is (b ∷ bs) =
    let e = end_is bs in
    let a = before_is b (trim_end bs) e.0 e.2 in
    (a.more, ap (λ (x : List ℕ). b ∷ x) e.1 ∙ a.form, a.ends)

begin_before : (b : ℕ) (t : List ℕ) → b ≢ 32 → Begins (before_end b t)
begin_before b [] h = elim (is_space b) [
  | inl q ↦ absurd (h q.0)
  | inr q ↦ rw q.1 (λ rest e. h cc)
]
begin_before b (x ∷ xs) h = λ rest e. h cc

end_begins : (text : List ℕ) → Begins text → Begins (trim_end text)
end_begins [] h = no_begin
end_begins (b ∷ bs) h = begin_before b (trim_end bs) (λ e. h bs (ap (λ (x : ℕ). x ∷ bs) e))

-- ---- both

trims : (text : List ℕ) → IsTrimmed text (trimmed text)
trims text =
    let f = front_is text in
    let e = end_is (trim_front text) in
    record {
      before = f.0;
      after = e.0;
      form = f.1 ∙ ap (λ (x : List ℕ). replicate f.0 32 ++ x) e.1 ∙ sym (append_assoc (replicate f.0 32) (trimmed text) (replicate e.0 32));
      begins = end_begins (trim_front text) f.2;
      ends = e.2;
    }

-- a field in front of spaces begins with one only where it's empty
spaced : (field : List ℕ) (n : ℕ) → Begins field → trim_end (trim_front (field ++ replicate n 32)) ≡ trim_end field
spaced [] n h = ap trim_end (ap trim_front (sym (append-nil (replicate n 32))) ∙ front_of n [])
spaced (b ∷ bs) n h =
    let stays = front_stays ((b ∷ bs) ++ replicate n 32) (λ rest e. h bs cc) in
    ap trim_end stays ∙ end_of (b ∷ bs) n

trimmed_is : (text field : List ℕ) → IsTrimmed text field → trimmed text ≡ field
trimmed_is text field h =
    let form : text ≡ replicate h.before 32 ++ (field ++ replicate h.after 32) = h.form ∙ append_assoc (replicate h.before 32) field (replicate h.after 32) in
    ap (λ (x : List ℕ). trim_end (trim_front x)) form ∙ ap trim_end (front_of h.before (field ++ replicate h.after 32)) ∙ spaced field h.after h.begins ∙ end_stays field h.ends

pub fields_trimmed : FieldsAreTrimmed
fields_trimmed text field = (λ e. subst (λ (x : List ℕ). IsTrimmed text x) e (trims text), trimmed_is text field)
