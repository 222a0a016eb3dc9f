use Rattle.std.proofs.Common.{◌∙◌, ap, sym, ◌≡◌, subst}
use Rattle.std.specs.Prelude.{List, ℕ}
use Rattle.script_lines.specs.Words.{skip_spaces, word, after_word}
use Rattle.script_lines.proofs.PrintableLaws.{ArePrintable, printable_second, printable_third}
use Rattle.script_lines.proofs.words.read_worded.Goals as goal

pub read_words-requires-clause-second : goal.read_words-requires-clause-second
read_words-requires-clause-second c =
    let second : c.without_spaces-2.result.now ≡ skip_spaces (after_word (skip_spaces c.args.line.now)) = c.without_spaces-2.ensures ∙ ap skip_spaces (c.split_word.ensures.rest ∙ ap after_word c.without_spaces.ensures) in
    let w : c.split_word-2.result.0.now ≡ word (skip_spaces (after_word (skip_spaces c.args.line.now))) = c.split_word-2.ensures.word ∙ ap word second in
    subst (λ (t : List ℕ). ArePrintable t) (sym w) (printable_second c.args.line.now c.requires)

pub read_words-requires-clause-third : goal.read_words-requires-clause-third
read_words-requires-clause-third c =
    let second : c.without_spaces-2.result.now ≡ skip_spaces (after_word (skip_spaces c.args.line.now)) = c.without_spaces-2.ensures ∙ ap skip_spaces (c.split_word.ensures.rest ∙ ap after_word c.without_spaces.ensures) in
    let third : c.without_spaces-3.result.now ≡ skip_spaces (after_word (skip_spaces (after_word (skip_spaces c.args.line.now)))) = c.without_spaces-3.ensures ∙ ap skip_spaces (c.split_word-2.ensures.rest ∙ ap after_word second) in
    let w : c.split_word-3.result.0.now ≡ word (skip_spaces (after_word (skip_spaces (after_word (skip_spaces c.args.line.now))))) = c.split_word-3.ensures.word ∙ ap word third in
    subst (λ (t : List ℕ). ArePrintable t) (sym w) (printable_third c.args.line.now c.requires)
