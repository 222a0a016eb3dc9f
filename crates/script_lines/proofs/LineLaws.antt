-- A byte at a time through a line.
use Rattle.std.proofs.Common.{◌≡◌, ℕ, ◌+◌, ◌<◌, ◌≤◌, Bool, false, eqb, ◌&&◌, List, [], ◌∷◌, ◌++◌, length, get_or, take, drop, refl, ap, sym, ◌∙◌, append_assoc, arith, inl, inr}
use Rattle.std.proofs.lemmas.Bool.{ne_eqb, cases_eq, cases_Bool, and_parts, eqb-false}
use Rattle.std.proofs.lemmas.List.{drop_more, take_more, length-drop, drop-drop}
use Rattle.script_lines.specs.Lines.{end_length, first_line, after_line, onto, lines_of}
use Rattle.script_lines.specs.Words.{skip_spaces, word, after_word}

ends_here : (b : ℕ) (bs : List ℕ) (n : ℕ) → n ≡ end_length (b ∷ bs) → (n ≡ 0 → ⊥) → (first_line (b ∷ bs) ≡ []) × (after_line (b ∷ bs) ≡ drop n (b ∷ bs))
unfolding first_line after_line
ends_here b bs n e ne =
    let t : eqb (end_length (b ∷ bs)) 0 ≡ false = ne_eqb (end_length (b ∷ bs)) 0 (λ z. ne (e ∙ z)) in
    rw (t, e) (refl, refl)

pub line_ends : (text : List ℕ) (i n : ℕ) → i < length text → n ≡ end_length (drop i text) → (n ≡ 0 → ⊥) → (first_line (drop i text) ≡ []) × (after_line (drop i text) ≡ drop (i + n) text)
line_ends text i n lt e ne =
    let d = drop_more text i 0 lt in
    let h = ends_here (get_or text i 0) (drop (i + 1) text) n (rw d at e) ne in
    let back : drop n (get_or text i 0 ∷ drop (i + 1) text) ≡ drop (i + n) text = ap (drop n) (sym d) ∙ drop-drop n i text in
    rw d (h.0, h.1 ∙ back)

goes_on : (b : ℕ) (bs : List ℕ) → end_length (b ∷ bs) ≡ 0 → (first_line (b ∷ bs) ≡ b ∷ first_line bs) × (after_line (b ∷ bs) ≡ after_line bs)
unfolding first_line after_line
goes_on b bs z = rw z (refl, refl)

pub line_goes : (text : List ℕ) (i n : ℕ) → i < length text → n ≡ end_length (drop i text) → n ≡ 0 → (first_line (drop i text) ≡ get_or text i 0 ∷ first_line (drop (i + 1) text)) × (after_line (drop i text) ≡ after_line (drop (i + 1) text))
line_goes text i n lt e z =
    let d = drop_more text i 0 lt in
    rw d (goes_on (get_or text i 0) (drop (i + 1) text) (sym (rw d at e) ∙ z))

pub line_over : (first_line [] ≡ []) × (after_line [] ≡ [])
unfolding first_line after_line
line_over = (refl, refl)

pub word_ends : (text : List ℕ) (i : ℕ) → i < length text → get_or text i 0 ≡ 32 → (word (drop i text) ≡ []) × (after_word (drop i text) ≡ drop i text)
unfolding word after_word
word_ends text i lt e = rw (drop_more text i 0 lt, e) (refl, refl)

pub word_goes : (text : List ℕ) (i : ℕ) → i < length text → (get_or text i 0 ≡ 32 → ⊥) → (word (drop i text) ≡ get_or text i 0 ∷ word (drop (i + 1) text)) × (after_word (drop i text) ≡ after_word (drop (i + 1) text))
unfolding word after_word
word_goes text i lt ne = rw (drop_more text i 0 lt, ne_eqb (get_or text i 0) 32 ne) (refl, refl)

pub word_over : (word [] ≡ []) × (after_word [] ≡ [])
unfolding word after_word
word_over = (refl, refl)

pub spaces_end : (text : List ℕ) (i : ℕ) → i < length text → (get_or text i 0 ≡ 32 → ⊥) → skip_spaces (drop i text) ≡ drop i text
spaces_end text i lt ne = rw (drop_more text i 0 lt, ne_eqb (get_or text i 0) 32 ne) refl

pub spaces_go : (text : List ℕ) (i : ℕ) → i < length text → get_or text i 0 ≡ 32 → skip_spaces (drop i text) ≡ skip_spaces (drop (i + 1) text)
spaces_go text i lt e = rw (drop_more text i 0 lt, e) refl

pub spaces_over : skip_spaces [] ≡ []
spaces_over = refl

-- one item further, a function that gives its first items
pub further : (text done : List ℕ) (i : ℕ) (rest : List ℕ) → i < length text → done ≡ take i text ++ get_or text i 0 ∷ rest → done ≡ take (i + 1) text ++ rest
further text done i rest lt e = e ∙ rw (take_more text i 0 lt, append_assoc) refl

some_end : (n : ℕ) → eqb n 0 ≡ false → 0 < n
some_end n f = let ne = eqb-false n 0 f in omega (arith, ne)

dropped : (n b : ℕ) (bs : List ℕ) → 0 < n → length (drop n (b ∷ bs)) ≤ length bs
dropped n b bs h = let e = length-drop n (b ∷ bs) in omega arith

onto_line : (b : ℕ) (bs : List ℕ) → lines_of bs ≡ first_line bs ∷ lines_of (after_line bs) → onto b (lines_of bs) ≡ (b ∷ first_line bs) ∷ lines_of (after_line bs)
onto_line b bs e = rw e refl

pub lines_step : (b : ℕ) (bs : List ℕ) → lines_of (b ∷ bs) ≡ first_line (b ∷ bs) ∷ lines_of (after_line (b ∷ bs))
unfolding lines_of first_line after_line
lines_step b [] = elim (cases_eq b 10) as (λ _. lines_of (b ∷ []) ≡ first_line (b ∷ []) ∷ lines_of (after_line (b ∷ []))) [
  | inl h ↦ rw h refl
  | inr h ↦ elim (cases_Bool (eqb b 13)) as (λ _. lines_of (b ∷ []) ≡ first_line (b ∷ []) ∷ lines_of (after_line (b ∷ []))) [ inl t ↦ rw (ne_eqb b 10 h, t) refl | inr f ↦ rw (ne_eqb b 10 h, f) refl ]
]
lines_step b (c ∷ cs) = elim (cases_eq b 10) as (λ _. lines_of (b ∷ c ∷ cs) ≡ first_line (b ∷ c ∷ cs) ∷ lines_of (after_line (b ∷ c ∷ cs))) [
  | inl h ↦ rw h refl
  | inr h ↦ elim (cases_Bool (eqb b 13 && eqb c 10)) as (λ _. lines_of (b ∷ c ∷ cs) ≡ first_line (b ∷ c ∷ cs) ∷ lines_of (after_line (b ∷ c ∷ cs))) [
    | inl t ↦ rw (ne_eqb b 10 h, t, (and_parts (eqb b 13) (eqb c 10) t).1) refl
    | inr f ↦ rw (ne_eqb b 10 h, f) (onto_line b (c ∷ cs) (lines_step c cs))
  ]
]

-- what follows the first line is shorter
pub after_is_shorter : (bs : List ℕ) (b : ℕ) → length (after_line (b ∷ bs)) ≤ length bs
unfolding after_line
after_is_shorter [] b = elim (cases_Bool (eqb (end_length (b ∷ [])) 0)) as (λ _. length (after_line (b ∷ [])) ≤ 0) [
  | inl t ↦ rw t (omega arith)
  | inr f ↦ rw f (dropped (end_length (b ∷ [])) b [] (some_end (end_length (b ∷ [])) f))
]
after_is_shorter (c ∷ cs) b = elim (cases_Bool (eqb (end_length (b ∷ c ∷ cs)) 0)) as (λ _. length (after_line (b ∷ c ∷ cs)) ≤ length (c ∷ cs)) [
  | inl t ↦ rw t (let ih = after_is_shorter cs c in omega (arith, ih))
  | inr f ↦ rw f (dropped (end_length (b ∷ c ∷ cs)) b (c ∷ cs) (some_end (end_length (b ∷ c ∷ cs)) f))
]

pub after_shorter : (text : List ℕ) → 0 < length text → length (after_line text) < length text
after_shorter [] lt = absurd (omega arith)
after_shorter (b ∷ bs) lt = let h = after_is_shorter bs b in omega (arith, h)

pub nonempty : (text : List ℕ) (b : Bool) → b ≡ eqb (length text) 0 → b ≡ false → 0 < length text
nonempty text b e f = let ne = eqb-false (length text) 0 (sym e ∙ f) in omega (arith, ne)
