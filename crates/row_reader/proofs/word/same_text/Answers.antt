use Rattle.std.proofs.Common.{◌≡◌, ◌∙◌, sym, arith, refl, rules}
use Rattle.std.proofs.lemmas.Bool.Decides.{nat_tests}
use Rattle.row_reader.proofs.WordFacts.{same-short}
use Rattle.row_reader.proofs.word.same_text.Goals as goal

pub returns : goal.returns
returns c = λ e.
    let at_last : c.half_word-3.result ≡ c.half_word-4.result = grind (arith, nat_tests) in
    same-short c.args.a.now c.args.b.now _ c.if-a-b.false c.if-b-lt4.false c.if-b-gt8.false (λ i. search rules) (λ i. search rules) refl
    (sym c.half_word.ensures ∙ c.if-half_word.false ∙ c.half_word-2.ensures)
    (sym c.half_word-3.ensures ∙ at_last ∙ c.half_word-4.ensures)
