use Rattle.std.proofs.Common.{◌≡◌, ◌++◌, take, drop}
use Rattle.script_lines.specs.Words.{word, after_word}
use Rattle.script_lines.proofs.words.split_word.Given as goal

abbrev pub invariant-loop-i : goal.invariant-loop-i
invariant-loop-i l = record {
  word : word l.text ≡ take l.i l.text ++ word (drop l.i l.text);
  rest : after_word l.text ≡ after_word (drop l.i l.text);
}
