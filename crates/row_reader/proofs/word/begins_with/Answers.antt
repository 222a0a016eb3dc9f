use Rattle.std.proofs.Common.{◌≡◌, ◌∙◌, sym, arith, refl, rules}
use Rattle.std.proofs.lemmas.Bool.Decides.{nat_tests}
use Rattle.row_reader.proofs.WordFacts.{same-front}
use Rattle.row_reader.proofs.word.begins_with.Goals as goal

pub returns : goal.returns
returns c = λ e.
    let at_last : c.word-3.result ≡ c.word-4.result = grind (arith, nat_tests) in
    same-front c.args.text.now c.args.front.now _ c.min-middle.result c.requires.least c.requires.most c.requires.room (λ i. search rules) (λ i. search rules) refl c.min-middle.ensures
    (sym c.word.ensures ∙ c.if-word.false ∙ c.word-2.ensures)
    (sym c.word-else-word.ensures ∙ c.if-word-2.false ∙ c.word-else-word-2.ensures)
    (sym c.word-3.ensures ∙ at_last ∙ c.word-4.ensures)
