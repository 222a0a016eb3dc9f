-- Where bytes end within a part, or differ from it.
use Rattle.std.proofs.Common.{◌≡◌, ◌≢◌, ℕ, zero, suc, Bool, true, false, List, [], ◌∷◌, ◌++◌, length, drop, Result, Ok, Err, refl, sym, ap, ◌∙◌, arith, inl, inr, nat_eq, if◌then◌else◌, append_assoc}
use Rattle.std.specs.Prelude.{◌⊎◌}
use Rattle.std.specs.List.{starts_with}
use Rattle.std.proofs.lemmas.List.{length-append, append_cancel_left}
use Rattle.hour_pack.specs.declared.pack_error.PackError.{PackError}
use Rattle.hour_pack.specs.declared.pack_error.PackError.TheVariants.{NotPacked, Short}
use Rattle.hour_pack.specs.Faults.{Differs, EndsWithin}
use Rattle.hour_pack.specs.Reading.{after_part}
use Rattle.hour_pack.proofs.Bytes.{fault}
use Rattle.hour_pack.proofs.PartFacts.{starts, starts-again, part-again}

-- with the same byte in front of both
differs-cons : (b : ℕ) (part bytes : List ℕ) → Differs part bytes → Differs (b ∷ part) (b ∷ bytes)
differs-cons b part bytes d = record {
  front = b ∷ d.front;
  wanted = d.wanted;
  wanted_rest = d.wanted_rest;
  found = d.found;
  found_rest = d.found_rest;
  of_part = ap (λ (xs : List ℕ). b ∷ xs) d.of_part;
  of_bytes = ap (λ (xs : List ℕ). b ∷ xs) d.of_bytes;
  other = d.other;
}

ends-cons : (b : ℕ) (part bytes : List ℕ) → EndsWithin part bytes → EndsWithin (b ∷ part) (b ∷ bytes)
ends-cons b part bytes h = record { next = h.next; more = h.more; of_part = ap (λ (xs : List ℕ). b ∷ xs) h.of_part }

-- the bytes begin with the part, or end within it, or differ from it
pub data Meets (part bytes : List ℕ) : Type 0 where
  begins : (rest : List ℕ) → bytes ≡ part ++ rest → Meets part bytes
  ends : EndsWithin part bytes → Meets part bytes
  differs : Differs part bytes → Meets part bytes

meets-cons : (p b : ℕ) (part bytes : List ℕ) → p ≡ b → Meets part bytes → Meets (p ∷ part) (b ∷ bytes)
meets-cons p b part bytes e (begins rest h) = begins rest (rw e (ap (λ (xs : List ℕ). b ∷ xs) h))
meets-cons p b part bytes e (ends h) = rw e (ends (ends-cons b part bytes h))
meets-cons p b part bytes e (differs d) = rw e (differs (differs-cons b part bytes d))

meets-head : (p b : ℕ) (part bytes : List ℕ) → (p ≡ b) ⊎ (p ≢ b) → Meets part bytes → Meets (p ∷ part) (b ∷ bytes)
meets-head p b part bytes (inl e) m = meets-cons p b part bytes e m
meets-head p b part bytes (inr n) m = differs (record {
  front = [];
  wanted = p;
  wanted_rest = part;
  found = b;
  found_rest = bytes;
  of_part = refl;
  of_bytes = refl;
  other = n;
})

same-or-not : (m n : ℕ) → (m ≡ n) ⊎ (m ≢ n)
same-or-not zero zero = inl refl
same-or-not zero (suc n) = inr (λ e. cc)
same-or-not (suc m) zero = inr (λ e. cc)
same-or-not (suc m) (suc n) = next m n (same-or-not m n)
  where
    next : (m n : ℕ) → (m ≡ n) ⊎ (m ≢ n) → (suc m ≡ suc n) ⊎ (suc m ≢ suc n)
    next m n (inl e) = inl (ap suc e)
    next m n (inr k) = inr (λ e. k (omega (arith, e)))

pub meets : (part bytes : List ℕ) → Meets part bytes
meets [] bytes = begins bytes refl
meets (p ∷ part) [] = ends (record { next = p; more = part; of_part = refl })
meets (p ∷ part) (b ∷ bytes) = meets-head p b part bytes (same-or-not p b) (meets part bytes)

-- ---- what is read there

if-no : (b : Bool) (x y : Result (List ℕ) PackError) → (b ≡ true → ⊥) → (if b then x else y) ≡ y
if-no true x y h = absurd (h refl)
if-no false x y h = refl

if-yes : (b : Bool) (x y : Result (List ℕ) PackError) → b ≡ true → (if b then x else y) ≡ x
if-yes true x y h = refl
if-yes false x y h = cc

not_started : (part bytes : List ℕ) → EndsWithin part bytes → starts_with nat_eq bytes part ≡ true → ⊥
not_started part bytes h t =
    let again : bytes ≡ part ++ drop (length part) bytes = starts bytes part t in
    let long : length part ≡ length (bytes ++ h.next ∷ h.more) = ap (λ (xs : List ℕ). length xs) h.of_part in
    let short : length bytes ≡ length (part ++ drop (length part) bytes) = ap (λ (xs : List ℕ). length xs) again in
    omega (arith, length-append bytes (h.next ∷ h.more), length-append part (drop (length part) bytes))

pub part-short : (wrong : PackError) (part bytes : List ℕ) → EndsWithin part bytes → after_part wrong part bytes ≡ Err Short
part-short wrong part bytes h =
    let begun : starts_with nat_eq part bytes ≡ true = rw h.of_part (starts-again bytes (h.next ∷ h.more)) in
    if-no (starts_with nat_eq bytes part) _ _ (not_started part bytes h) ∙ if-yes (starts_with nat_eq part bytes) (Err Short) (Err wrong) begun

-- two texts that begin alike and then differ aren't front and whole
apart : (front : List ℕ) (a b : ℕ) (xs ys more : List ℕ) → a ≢ b → front ++ a ∷ xs ≡ (front ++ b ∷ ys) ++ more → ⊥
apart front a b xs ys more n e =
    let regrouped : front ++ a ∷ xs ≡ front ++ (b ∷ (ys ++ more)) = e ∙ append_assoc front (b ∷ ys) more in
    let tails : a ∷ xs ≡ b ∷ (ys ++ more) = append_cancel_left front (a ∷ xs) (b ∷ (ys ++ more)) regrouped in
    n (heads a b xs (ys ++ more) tails)
  where
    heads : (a b : ℕ) (xs ys : List ℕ) → a ∷ xs ≡ b ∷ ys → a ≡ b
    heads a b xs ys e = cc

pub part-wrong : (wrong : PackError) (part bytes : List ℕ) → Differs part bytes → after_part wrong part bytes ≡ Err wrong
part-wrong wrong part bytes d =
    if-no (starts_with nat_eq bytes part) _ _ (λ t.
    let e : bytes ≡ part ++ drop (length part) bytes = starts bytes part t in
    apart d.front d.found d.wanted d.found_rest d.wanted_rest (drop (length part) bytes) (λ k. d.other (sym k))
    (sym d.of_bytes ∙ e ∙ ap (λ (xs : List ℕ). xs ++ drop (length part) bytes) d.of_part))
    ∙ if-no (starts_with nat_eq part bytes) (Err Short) (Err wrong) (λ t.
    let e : part ≡ bytes ++ drop (length bytes) part = starts part bytes t in
    apart d.front d.wanted d.found d.wanted_rest d.found_rest (drop (length bytes) part) d.other
    (sym d.of_part ∙ e ∙ ap (λ (xs : List ℕ). xs ++ drop (length bytes) part) d.of_bytes))

-- a part failed, as it may
abbrev pub PartFails : PackError → List ℕ → List ℕ → PackError → Type 0
PartFails wrong part bytes e = ((e ≡ Short) × EndsWithin part bytes) ⊎ ((e ≡ wrong) × Differs part bytes)

failed : (d e : PackError) → fault (List ℕ) d ≡ Err e → e ≡ d
failed d e h = cc

not_failed : (x : List ℕ) (e : PackError) → Ok x ≡ Err e → ⊥
not_failed x e h = cc

fails-by : (wrong : PackError) (part bytes : List ℕ) (e : PackError) → Meets part bytes → after_part wrong part bytes ≡ Err e → PartFails wrong part bytes e
fails-by wrong part bytes e (begins rest k) h =
    absurd (not_failed rest e (sym (part-again wrong part rest) ∙ ap (after_part wrong part) (sym k) ∙ h))
fails-by wrong part bytes e (ends k) h = inl (failed Short e (sym (part-short wrong part bytes k) ∙ h), k)
fails-by wrong part bytes e (differs d) h = inr (failed wrong e (sym (part-wrong wrong part bytes d) ∙ h), d)

pub part-fails : (wrong : PackError) (part bytes : List ℕ) (e : PackError) → after_part wrong part bytes ≡ Err e → PartFails wrong part bytes e
part-fails wrong part bytes e h = fails-by wrong part bytes e (meets part bytes) h

-- ---- two parts, one after the other

pub differs-front : (part more bytes : List ℕ) → Differs part bytes → Differs (part ++ more) bytes
differs-front part more bytes d = record {
  front = d.front;
  wanted = d.wanted;
  wanted_rest = d.wanted_rest ++ more;
  found = d.found;
  found_rest = d.found_rest;
  of_part = ap (λ (xs : List ℕ). xs ++ more) d.of_part ∙ append_assoc d.front (d.wanted ∷ d.wanted_rest) more;
  of_bytes = d.of_bytes;
  other = d.other;
}

pub differs-behind : (front part bytes : List ℕ) → Differs part bytes → Differs (front ++ part) (front ++ bytes)
differs-behind [] part bytes d = d
differs-behind (b ∷ front) part bytes d = differs-cons b (front ++ part) (front ++ bytes) (differs-behind front part bytes d)

pub ends-front : (part more bytes : List ℕ) → EndsWithin part bytes → EndsWithin (part ++ more) bytes
ends-front part more bytes h = record {
  next = h.next;
  more = h.more ++ more;
  of_part = ap (λ (xs : List ℕ). xs ++ more) h.of_part ∙ append_assoc bytes (h.next ∷ h.more) more;
}

pub ends-behind : (front part bytes : List ℕ) → EndsWithin part bytes → EndsWithin (front ++ part) (front ++ bytes)
ends-behind [] part bytes h = h
ends-behind (b ∷ front) part bytes h = ends-cons b (front ++ part) (front ++ bytes) (ends-behind front part bytes h)

-- whatever follows
pub differs-more : (part bytes more : List ℕ) → Differs part bytes → Differs part (bytes ++ more)
differs-more part bytes more d = record {
  front = d.front;
  wanted = d.wanted;
  wanted_rest = d.wanted_rest;
  found = d.found;
  found_rest = d.found_rest ++ more;
  of_part = d.of_part;
  of_bytes = ap (λ (xs : List ℕ). xs ++ more) d.of_bytes ∙ append_assoc d.front (d.found ∷ d.found_rest) more;
  other = d.other;
}

-- the three ways are apart
not_begun : (part bytes rest : List ℕ) → Differs part bytes → bytes ≡ part ++ rest → ⊥
not_begun part bytes rest d k =
    not_failed rest Short (sym (part-again Short part rest) ∙ ap (after_part Short part) (sym k) ∙ part-wrong Short part bytes d)

not_ended : (part bytes : List ℕ) → Differs part bytes → EndsWithin part bytes → ⊥
not_ended part bytes d h =
    let e : NotPacked ≡ Short = failed Short NotPacked (sym (part-short NotPacked part bytes h) ∙ part-wrong NotPacked part bytes d) in
    cc

ended_not_begun : (part bytes rest : List ℕ) → EndsWithin part bytes → bytes ≡ part ++ rest → ⊥
ended_not_begun part bytes rest h k =
    not_failed rest Short (sym (part-again Short part rest) ∙ ap (after_part Short part) (sym k) ∙ part-short Short part bytes h)

-- ---- one of two parts

-- the bytes differ from the first part, or begin with it and then differ from the second one
pub differs-split : (a b bytes : List ℕ) → Differs (a ++ b) bytes → Differs a bytes ⊎ ((rest : List ℕ) × (bytes ≡ a ++ rest) × Differs b rest)
differs-split a b bytes d = first (meets a bytes)
  where
    second : (rest : List ℕ) → bytes ≡ a ++ rest → Meets b rest → Differs a bytes ⊎ ((rest : List ℕ) × (bytes ≡ a ++ rest) × Differs b rest)
    second rest k (begins more j) = absurd (not_begun (a ++ b) bytes more d (k ∙ ap (λ (xs : List ℕ). a ++ xs) j ∙ sym (append_assoc a b more)))
    second rest k (ends h) = absurd (not_ended (a ++ b) bytes d (rw k (ends-behind a b rest h)))
    second rest k (differs c) = inr (rest, k, c)

    first : Meets a bytes → Differs a bytes ⊎ ((rest : List ℕ) × (bytes ≡ a ++ rest) × Differs b rest)
    first (begins rest k) = second rest k (meets b rest)
    first (ends h) = absurd (not_ended (a ++ b) bytes d (ends-front a b bytes h))
    first (differs c) = inl c

-- the bytes end within the first part, or begin with it and end within the second one
pub ends-split : (a b bytes : List ℕ) → EndsWithin (a ++ b) bytes → EndsWithin a bytes ⊎ ((rest : List ℕ) × (bytes ≡ a ++ rest) × EndsWithin b rest)
ends-split a b bytes h = first (meets a bytes)
  where
    second : (rest : List ℕ) → bytes ≡ a ++ rest → Meets b rest → EndsWithin a bytes ⊎ ((rest : List ℕ) × (bytes ≡ a ++ rest) × EndsWithin b rest)
    second rest k (begins more j) = absurd (ended_not_begun (a ++ b) bytes more h (k ∙ ap (λ (xs : List ℕ). a ++ xs) j ∙ sym (append_assoc a b more)))
    second rest k (ends g) = inr (rest, k, g)
    second rest k (differs c) = absurd (not_ended (a ++ b) bytes (rw k (differs-behind a b rest c)) h)

    first : Meets a bytes → EndsWithin a bytes ⊎ ((rest : List ℕ) × (bytes ≡ a ++ rest) × EndsWithin b rest)
    first (begins rest k) = second rest k (meets b rest)
    first (ends g) = inl g
    first (differs c) = absurd (not_ended (a ++ b) bytes (differs-front a b bytes c) h)
