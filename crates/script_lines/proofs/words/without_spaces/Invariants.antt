use Rattle.std.proofs.Common.{◌≡◌, drop}
use Rattle.script_lines.specs.Words.{skip_spaces}
use Rattle.script_lines.proofs.words.without_spaces.Given as goal

abbrev pub invariant-loop-i : goal.invariant-loop-i
invariant-loop-i l = skip_spaces l.text ≡ skip_spaces (drop l.i l.text)
