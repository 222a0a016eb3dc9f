-- What a line says, by its words.
use Rattle.std.proofs.Common.{◌≡◌, ◌∙◌, ◌⊎◌, ◌≤◌, nat_le, ℕ, eqb, true, false, List, [], ◌∷◌, inl, inr, refl, sym, ap, subst, arith}
use Rattle.std.specs.Bool.{Decides}
use Rattle.std.specs.List.{list_all}
use Rattle.std.proofs.lemmas.Bool.{and_parts, cases_Bool, cases_eq, false≢true, ne_eqb}
use Rattle.std.proofs.lemmas.Bool.Decides.{Decides-by_and, nat_tests}
use Rattle.sig_base.specs.Window.{Span}
use Rattle.script_lines.specs.Words.{Said, skip, bad, is_comment, is_printable, said, skip_spaces, worded}
use Rattle.line_laws.specs.Lines.{AreCommand, ArePassedOver, ArePrintable, HasWords, LinesAreSaid, Says}
use Rattle.line_laws.proofs.Words.{is_first, spaces_skipped, words_there}
use Rattle.line_laws.proofs.Commands.{command_made, makes_command}

printable_byte : (b : ℕ) → Decides (is_printable b) ((32 ≤ b) × (b ≤ 126))
printable_byte b = (λ e. let p = and_parts (nat_le 32 b) (nat_le b 126) e in grind (arith, nat_tests), λ p. grind (arith, nat_tests))

printable : (line : List ℕ) → Decides (list_all is_printable line) (ArePrintable line)
printable line = Decides-by_and is_printable (λ b. (32 ≤ b) × (b ≤ 126)) (list_all is_printable) printable_byte refl (λ x xs. refl) line

-- the test of a line that is passed over, and what it says of its words
comment : (line : List ℕ) (ws : List (List ℕ)) → HasWords line ws → ((is_comment (skip_spaces line) ≡ true) × ArePassedOver ws) ⊎ ((is_comment (skip_spaces line) ≡ false) × ¬ ArePassedOver ws)
comment line [] h = inl (ap is_comment (spaces_skipped line h), inl refl)
comment line ([] ∷ us) h = absurd ((h.4).0 refl)
comment line ((b ∷ bs) ∷ us) h =
    let starts : is_comment (skip_spaces line) ≡ eqb b 35 = ap is_comment (is_first line (b ∷ bs) us h).starts in
    elim (cases_eq b 35) [
      | inl e ↦ inl (starts ∙ rw e refl, inr (bs, us, rw e refl))
      | inr ne ↦ inr (starts ∙ ne_eqb b 35 ne, λ p. elim p [ inl z ↦ absurd (cc) | inr q ↦ ne (let is = q.2 in cc) ])
    ]

module _ (w : Span) (line : List ℕ) where
  passed : is_comment (skip_spaces line) ≡ true → said w line ≡ skip
  unfolding said
  passed e = rw e refl

  refused : is_comment (skip_spaces line) ≡ false → list_all is_printable line ≡ false → said w line ≡ bad
  unfolding said
  refused e f = rw (e, f) refl

  read : is_comment (skip_spaces line) ≡ false → list_all is_printable line ≡ true → said w line ≡ worded w line
  unfolding said
  read e f = rw (e, f) refl

  commands : (ws : List (List ℕ)) → HasWords line ws → (¬ ArePassedOver ws) → (worded w line ≡ bad) ⊎ AreCommand w ws (worded w line)
  commands [] h not = absurd (not (inl refl))
  commands (v ∷ us) h not = makes_command w line v us h

  no_command : (ws : List (List ℕ)) → HasWords line ws → worded w line ≡ bad → (y : Said) → ¬ AreCommand w ws y
  no_command ws h e y k = subst (λ (x : Said). AreCommand w ws x) (sym (command_made w line ws y h k) ∙ e) k

  says : Says w line (said w line)
  says = let is = words_there line in (
    is.0,
    is.1,
    elim (comment line is.0 is.1) [
      | inl c ↦ inl (c.1, passed c.0)
      | inr c ↦ inr (elim (cases_Bool (list_all is_printable line)) [
        | inl t ↦ elim (commands is.0 is.1 c.1) [
          | inl e ↦ inr (c.1, λ p. no_command is.0 is.1 e, read c.0 t ∙ e)
          | inr k ↦ inl (c.1, subst (λ (x : Said). AreCommand w is.0 x) (sym (read c.0 t)) k, (printable line).0 t)
        ]
        | inr f ↦ inr (c.1, λ p. absurd (false≢true (sym f ∙ (printable line).1 p)), refused c.0 f)
      ])
    ],
  )

  -- a line that is neither passed over nor a command
  is_bad : (ws : List (List ℕ)) → HasWords line ws → is_comment (skip_spaces line) ≡ false → (¬ ArePassedOver ws) → (ArePrintable line → (y : Said) → ¬ AreCommand w ws y) → said w line ≡ bad
  is_bad ws h e not none = elim (cases_Bool (list_all is_printable line)) [
    | inl t ↦ elim (commands ws h not) [
      | inl b ↦ read e t ∙ b
      | inr k ↦ absurd (none ((printable line).0 t) (worded w line) k)
    ]
    | inr f ↦ refused e f
  ]

  said_is : (x : Said) → Says w line x → said w line ≡ x
  said_is x (ws, h, s) = elim (comment line ws h) [
    | inl c ↦ elim s [ inl p ↦ passed c.0 ∙ sym p.1 | inr p ↦ elim p [ inl q ↦ absurd (q.0 c.1) | inr q ↦ absurd (q.0 c.1) ] ]
    | inr c ↦ elim s [
      | inl p ↦ absurd (c.1 p.0)
      | inr p ↦ elim p [
        | inl q ↦ read c.0 ((printable line).1 q.2) ∙ command_made w line ws x h q.1
        | inr q ↦ is_bad ws h c.0 c.1 q.1 ∙ sym q.2
      ]
    ]
  ]

pub lines_said : LinesAreSaid
lines_said w line x = (λ e. subst (λ (y : Said). Says w line y) e (says w line), said_is w line x)
