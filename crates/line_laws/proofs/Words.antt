-- The words of a line, and how the code comes from one to the next.
use Rattle.std.proofs.Common.{◌≡◌, ◌≢◌, ◌∙◌, ℕ, List, [], ◌∷◌, ◌++◌, All, inl, inr, refl, sym, ap, subst}
use Rattle.std.proofs.lemmas.Bool.{ne_eqb, cases_eq}
use Rattle.std.proofs.lemmas.List.Elements.{All-head, All-tail, All-cons, All-nil}
use Rattle.script_lines.specs.Words.{skip_spaces, word, after_word}
use Rattle.line_laws.specs.Lines.{AreSpaces, EndsWord, HasWords, IsWord, LinesHaveWords}

-- spaces are skipped, and a word isn't
skip_past : (spaces rest : List ℕ) → AreSpaces spaces → skip_spaces (spaces ++ rest) ≡ skip_spaces rest
skip_past [] rest h = refl
skip_past (b ∷ bs) rest h = rw (All-head (λ x. x ≡ 32) b bs h) (skip_past bs rest (All-tail (λ x. x ≡ 32) b bs h))

skip_word : (v rest : List ℕ) → IsWord v → skip_spaces (v ++ rest) ≡ v ++ rest
skip_word [] rest h = absurd (h.0 refl)
skip_word (b ∷ bs) rest h = rw (ne_eqb b 32 (All-head (λ x. x ≢ 32) b bs h.1)) refl

-- before a space, and at the end, there is no word
pub word_none : (word [] ≡ []) × (after_word [] ≡ [])
unfolding word after_word
word_none = (refl, refl)

word_at_space : (more : List ℕ) → (word (32 ∷ more) ≡ []) × (after_word (32 ∷ more) ≡ 32 ∷ more)
unfolding word after_word
word_at_space more = (refl, refl)

word_ends : (rest : List ℕ) → EndsWord rest → (word rest ≡ []) × (after_word rest ≡ rest)
word_ends rest (inl e) = rw e word_none
word_ends rest (inr h) = rw h.1 (word_at_space h.0)

-- where a word ends it is cut
word_goes : (v rest : List ℕ) → All (λ b. b ≢ 32) v → EndsWord rest → (word (v ++ rest) ≡ v) × (after_word (v ++ rest) ≡ rest)
unfolding word after_word
word_goes [] rest h e = word_ends rest e
word_goes (b ∷ bs) rest h e =
    let ih = word_goes bs rest (All-tail (λ x. x ≢ 32) b bs h) e in
    rw (ne_eqb b 32 (All-head (λ x. x ≢ 32) b bs h)) (ap (λ (t : List ℕ). b ∷ t) ih.0, ih.1)

-- the first word of a line, and the rest behind it
pub record IsFirst (line v rest : List ℕ) : Type 0 where
  pub starts : skip_spaces line ≡ v ++ rest
  pub first : word (skip_spaces line) ≡ v
  pub after : after_word (skip_spaces line) ≡ rest

pub is_first : (line v : List ℕ) (ws : List (List ℕ)) → (h : HasWords line (v ∷ ws)) → IsFirst line v h.1
is_first line v ws h =
    let starts : skip_spaces line ≡ v ++ h.1 = ap skip_spaces h.2 ∙ skip_past h.0 (v ++ h.1) h.3 ∙ skip_word v h.1 h.4 in
    let goes = word_goes v h.1 (h.4).1 h.5 in
    record { starts = starts; first = ap word starts ∙ goes.0; after = ap after_word starts ∙ goes.1 }

pub spaces_skipped : (line : List ℕ) → AreSpaces line → skip_spaces line ≡ []
spaces_skipped [] h = refl
spaces_skipped (b ∷ bs) h = rw (All-head (λ x. x ≡ 32) b bs h) (spaces_skipped bs (All-tail (λ x. x ≡ 32) b bs h))

-- there is something where a word is, so a line of spaces has none
pub not_nothing : (v rest : List ℕ) → IsWord v → v ++ rest ≡ [] → ⊥
not_nothing [] rest h e = h.0 refl
not_nothing (b ∷ bs) rest h e = cc

not_both : (line v : List ℕ) (ws : List (List ℕ)) → AreSpaces line → HasWords line (v ∷ ws) → ⊥
not_both line v ws h k = not_nothing v k.1 k.4 (sym (is_first line v ws k).starts ∙ spaces_skipped line h)

-- a line has one list of words
words_are_one : (line : List ℕ) (ws us : List (List ℕ)) → HasWords line ws → HasWords line us → ws ≡ us
words_are_one line [] [] h k = refl
words_are_one line [] (u ∷ us) h k = absurd (not_both line u us h k)
words_are_one line (v ∷ ws) [] h k = absurd (not_both line v ws k h)
words_are_one line (v ∷ ws) (u ∷ us) h k =
    let f = is_first line v ws h in
    let g = is_first line u us k in
    let same : v ≡ u = sym f.first ∙ g.first in
    let rest : h.1 ≡ k.1 = sym f.after ∙ g.after in
    let others : ws ≡ us = words_are_one k.1 ws us (subst (λ (t : List ℕ). HasWords t ws) rest h.6) k.6 in
    cc

-- a byte in front of a line that has words
space_before : (line : List ℕ) (ws : List (List ℕ)) → HasWords line ws → HasWords (32 ∷ line) ws
space_before line [] h = All-cons (λ x. x ≡ 32) 32 line refl h
space_before line (v ∷ ws) h =
    (32 ∷ h.0, h.1, ap (λ (t : List ℕ). 32 ∷ t) h.2, All-cons (λ x. x ≡ 32) 32 h.0 refl h.3, h.4, h.5, h.6)

-- a word of one byte, in front of what ends it
alone : (b : ℕ) (rest : List ℕ) (ws : List (List ℕ)) → b ≢ 32 → EndsWord rest → HasWords rest ws → HasWords (b ∷ rest) ((b ∷ []) ∷ ws)
alone b rest ws ne e h =
    ([], rest, refl, All-nil (λ x. x ≡ 32), (λ z. cc, All-cons (λ x. x ≢ 32) b [] ne (All-nil (λ x. x ≢ 32))), e, h)

-- a byte of the first word, in front of its others
joined : (b c : ℕ) (cs : List ℕ) (ws : List (List ℕ)) → b ≢ 32 → c ≢ 32 → HasWords (c ∷ cs) ws → (us : List (List ℕ)) × HasWords (b ∷ c ∷ cs) us
joined b c cs [] ne other h = absurd (other (All-head (λ x. x ≡ 32) c cs h))
joined b c cs (v ∷ ws) ne other ([], rest, is, spaces, w, e, more) =
    ((b ∷ v) ∷ ws, ([], rest, ap (λ (t : List ℕ). b ∷ t) is, spaces, (λ z. cc, All-cons (λ x. x ≢ 32) b v ne w.1), e, more))
joined b c cs (v ∷ ws) ne other (s ∷ ss, rest, is, spaces, w, e, more) =
    absurd (other (let same : c ≡ s = cc in same ∙ All-head (λ x. x ≡ 32) s ss spaces))

-- a line has a list of words
pub words_there : (line : List ℕ) → (ws : List (List ℕ)) × HasWords line ws
words_there [] = ([], All-nil (λ x. x ≡ 32))
words_there (b ∷ []) = elim (cases_eq b 32) [
  | inl e ↦ ([], All-cons (λ x. x ≡ 32) b [] e (All-nil (λ x. x ≡ 32)))
  | inr ne ↦ ((b ∷ []) ∷ [], alone b [] [] ne (inl refl) (All-nil (λ x. x ≡ 32)))
]
words_there (b ∷ c ∷ cs) =
    let later = words_there (c ∷ cs) in
    elim (cases_eq b 32) [
      | inl e ↦ (later.0, rw e (space_before (c ∷ cs) later.0 later.1))
      | inr ne ↦ elim (cases_eq c 32) [
        | inl e ↦ ((b ∷ []) ∷ later.0, alone b (c ∷ cs) later.0 ne (inr (cs, ap (λ (x : ℕ). x ∷ cs) e)) later.1)
        | inr other ↦ joined b c cs later.0 ne other later.1
      ]
    ]

pub lines_have_words : LinesHaveWords
lines_have_words line = let is = words_there line in (is.0, is.1, λ us h. words_are_one line us is.0 h is.1)
