-- Printable bytes, and the parts of a line of them.
use Rattle.std.proofs.Common.{◌≡◌, ◌<◌, ℕ, zero, suc, true, eqb, List, [], ◌∷◌, refl, arith, inl, inr}
use Rattle.std.specs.List.{list_all}
use Rattle.std.specs.Str.{IsAscii, IsUtf8}
use Rattle.std.proofs.lemmas.Bool.{cases_Bool, and_parts}
use Rattle.std.proofs.lemmas.Bool.Decides.{nat_tests}
use Rattle.std.proofs.lemmas.Str.{IsUtf8-from_ascii}
use Rattle.script_lines.specs.Words.{is_printable, skip_spaces, word, after_word}

abbrev pub ArePrintable : List ℕ → Type 0
ArePrintable text = list_all is_printable text ≡ true

printable_small : (b : ℕ) → is_printable b ≡ true → b < 128
printable_small b h = grind (arith, nat_tests)

ascii : (text : List ℕ) → ArePrintable text → IsAscii text
ascii [] h i = omega arith
ascii (b ∷ bs) h zero = printable_small b (and_parts (is_printable b) (list_all is_printable bs) h).0
ascii (b ∷ bs) h (suc i) = ascii bs (and_parts (is_printable b) (list_all is_printable bs) h).1 i

pub printable_utf8 : (text : List ℕ) → ArePrintable text → IsUtf8 text
printable_utf8 text h = IsUtf8-from_ascii text (ascii text h)

pub printable_skip : (text : List ℕ) → ArePrintable text → ArePrintable (skip_spaces text)
printable_skip [] h = h
printable_skip (b ∷ bs) h = elim (cases_Bool (eqb b 32)) as (λ _. ArePrintable (skip_spaces (b ∷ bs))) [
  | inl t ↦ rw t (printable_skip bs (and_parts (is_printable b) (list_all is_printable bs) h).1)
  | inr f ↦ rw f h
]

pub printable_word : (text : List ℕ) → ArePrintable text → ArePrintable (word text)
unfolding word
printable_word [] h = h
printable_word (b ∷ bs) h = elim (cases_Bool (eqb b 32)) as (λ _. ArePrintable (word (b ∷ bs))) [
  | inl t ↦ rw t refl
  | inr f ↦ rw f (rw ((and_parts (is_printable b) (list_all is_printable bs) h).0) (printable_word bs (and_parts (is_printable b) (list_all is_printable bs) h).1))
]

pub printable_after : (text : List ℕ) → ArePrintable text → ArePrintable (after_word text)
unfolding after_word
printable_after [] h = h
printable_after (b ∷ bs) h = elim (cases_Bool (eqb b 32)) as (λ _. ArePrintable (after_word (b ∷ bs))) [
  | inl t ↦ rw t h
  | inr f ↦ rw f (printable_after bs (and_parts (is_printable b) (list_all is_printable bs) h).1)
]

-- the second word of a printable line, and the third
pub printable_second : (line : List ℕ) → ArePrintable line → ArePrintable (word (skip_spaces (after_word (skip_spaces line))))
printable_second line h =
    let one = skip_spaces line in
    printable_word (skip_spaces (after_word one)) (printable_skip (after_word one) (printable_after one (printable_skip line h)))

pub printable_third : (line : List ℕ) → ArePrintable line → ArePrintable (word (skip_spaces (after_word (skip_spaces (after_word (skip_spaces line))))))
printable_third line h =
    let one = skip_spaces line in
    let two = skip_spaces (after_word one) in
    printable_word (skip_spaces (after_word two)) (printable_skip (after_word two)
    (printable_after two (printable_skip (after_word one) (printable_after one (printable_skip line h)))))
