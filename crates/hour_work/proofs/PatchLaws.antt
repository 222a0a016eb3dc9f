-- Lists with other elements from a place on.
use Rattle.std.proofs.Common.{◌≡◌, ◌∙◌, ℕ, suc, ◌+◌, ◌-◌, ◌<◌, ◌≤◌, List, [], ◌∷◌, ◌++◌, length, get_or, take, drop, refl, sym, ap, arith, inl, inr, length-append, length-drop, length-take}
use Rattle.std.specs.List.{All}
use Rattle.std.proofs.lemmas.Bool.{cases_lt}
use Rattle.std.proofs.lemmas.List.{get_or-drop, get_or-take, get_or_append_left, get_or-append_right}
use Rattle.std.proofs.lemmas.List.Elements.{All-append, All-drop, All-take}
use Rattle.std.proofs.Math.Seq.{get_or-append_seam}
use Rattle.hour_work.specs.Numbers.{patched}

pub length-patched : {T : Type 0} (xs : List T) (at : ℕ) (ys : List T) → at + length ys ≤ length xs → length (patched xs at ys) ≡ length xs
length-patched xs at ys le = rw (length-append, length-take, length-append, length-drop) (omega arith)

-- what each element has, it has still
pub all_patched : {T : Type 0} (P : T → Type 0) (xs : List T) (from : ℕ) (ys : List T) → All P xs → All P ys → All P (patched xs from ys)
all_patched P xs from ys p q = All-append P (take from xs) (ys ++ drop (from + length ys) xs) (All-take P from xs p) (All-append P ys (drop (from + length ys) xs) q (All-drop P (from + length ys) xs p))

size-take : {T : Type 0} (xs : List T) (at : ℕ) → at ≤ length xs → length (take at xs) ≡ at
size-take xs at le = rw length-take (omega arith)

-- before the place, the list's own
pub patched-below : {T : Type 0} (xs : List T) (at : ℕ) (ys : List T) (k : ℕ) (d : T) → at ≤ length xs → k < at → get_or (patched xs at ys) k d ≡ get_or xs k d
patched-below xs at ys k d le lt =
    let n = size-take xs at le in
    let l : k < length (take at xs) = omega arith in
    get_or_append_left (take at xs) (ys ++ drop (at + length ys) xs) d k l ∙ get_or-take at xs k d lt

-- from the place on, the new elements
pub patched-at : {T : Type 0} (xs : List T) (at : ℕ) (ys : List T) (k i : ℕ) (d : T) → at ≤ length xs → k ≡ at + i → i < length ys → get_or (patched xs at ys) k d ≡ get_or ys i d
patched-at xs at ys k i d le e lt =
    let ge : at ≤ k = omega arith in
    let m : k - at ≡ i = omega arith in
    get_or-append_right (take at xs) (ys ++ drop (at + length ys) xs) at k d (size-take xs at le) ge
    ∙ ap (λ (j : ℕ). get_or (ys ++ drop (at + length ys) xs) j d) m
    ∙ get_or_append_left ys (drop (at + length ys) xs) d i lt

-- after the new elements, the list's own
pub patched-past : {T : Type 0} (xs : List T) (at : ℕ) (ys : List T) (k : ℕ) (d : T) → at ≤ length xs → at + length ys ≤ k → get_or (patched xs at ys) k d ≡ get_or xs k d
patched-past xs at ys k d le ge =
    let g : at ≤ k = omega arith in
    let g2 : length ys ≤ k - at = omega arith in
    let m : (at + length ys) + ((k - at) - length ys) ≡ k = omega arith in
    get_or-append_right (take at xs) (ys ++ drop (at + length ys) xs) at k d (size-take xs at le) g
    ∙ get_or-append_right ys (drop (at + length ys) xs) (length ys) (k - at) d refl g2
    ∙ get_or-drop (at + length ys) xs ((k - at) - length ys) d
    ∙ ap (λ (j : ℕ). get_or xs j d) m

-- nothing new
pub patched-none : {T : Type 0} (xs : List T) (at k : ℕ) (d : T) → at ≤ length xs → get_or (patched xs at []) k d ≡ get_or xs k d
patched-none xs at k d le = elim (cases_lt k at) [
  | inl below ↦ patched-below xs at [] k d le below
  | inr from ↦ let ge : at + 0 ≤ k = omega arith in patched-past xs at [] k d le ge
]

-- one more new element at their end
pub patched-more : {T : Type 0} (xs : List T) (at : ℕ) (ys : List T) (y : T) (k : ℕ) (d : T) → at ≤ length xs → k < at + length ys → get_or (patched xs at (ys ++ y ∷ [])) k d ≡ get_or (patched xs at ys) k d
patched-more xs at ys y k d le lt = elim (cases_lt k at) [
  | inl below ↦ patched-below xs at (ys ++ y ∷ []) k d le below ∙ sym (patched-below xs at ys k d le below)
  | inr from ↦
      let i : k ≡ at + (k - at) = omega arith in
      let l : k - at < length ys = omega arith in
      let m : k - at < length (ys ++ y ∷ []) = rw length-append (omega arith) in
      patched-at xs at (ys ++ y ∷ []) k (k - at) d le i m ∙ get_or_append_left ys (y ∷ []) d (k - at) l ∙ sym (patched-at xs at ys k (k - at) d le i l)
]

pub patched-last : {T : Type 0} (xs : List T) (at : ℕ) (ys : List T) (y : T) (k : ℕ) (d : T) → at ≤ length xs → k ≡ at + length ys → get_or (patched xs at (ys ++ y ∷ [])) k d ≡ y
patched-last xs at ys y k d le e =
    let l : length ys < length (ys ++ y ∷ []) = rw length-append (omega arith) in
    patched-at xs at (ys ++ y ∷ []) k (length ys) d le e l ∙ get_or-append_seam ys y [] d

-- one more new element in front of them
pub patched-front : {T : Type 0} (xs : List T) (at : ℕ) (ys : List T) (y : T) (k : ℕ) (d : T) → at + 1 ≤ length xs → at < k → get_or (patched xs at (y ∷ ys)) k d ≡ get_or (patched xs (at + 1) ys) k d
patched-front xs at ys y k d le lt =
    let le0 : at ≤ length xs = omega arith in
    elim (cases_lt k ((at + 1) + length ys)) [
      | inl in_it ↦
          let i : k ≡ (at + 1) + (k - (at + 1)) = omega arith in
          let j : k ≡ at + suc (k - (at + 1)) = omega arith in
          let l : k - (at + 1) < length ys = omega arith in
          let m : suc (k - (at + 1)) < length (y ∷ ys) = omega arith in
          patched-at xs at (y ∷ ys) k (suc (k - (at + 1))) d le0 j m ∙ sym (patched-at xs (at + 1) ys k (k - (at + 1)) d le i l)
      | inr past ↦
          let m : at + length (y ∷ ys) ≤ k = omega arith in
          patched-past xs at (y ∷ ys) k d le0 m ∙ sym (patched-past xs (at + 1) ys k d le past)
    ]

pub patched-first : {T : Type 0} (xs : List T) (at : ℕ) (ys : List T) (y : T) (d : T) → at ≤ length xs → get_or (patched xs at (y ∷ ys)) at d ≡ y
patched-first xs at ys y d le =
    let e : at ≡ at + 0 = omega arith in
    let l : 0 < length (y ∷ ys) = omega arith in
    patched-at xs at (y ∷ ys) at 0 d le e l
