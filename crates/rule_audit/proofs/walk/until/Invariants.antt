use Rattle.std.proofs.Common.{ℕ, ◌<◌, get_or}
use Rattle.board.specs.Logs.{no_row}
use Rattle.rule_audit.proofs.walk.until.Given as goal

abbrev pub invariant-loop-i : goal.invariant-loop-i
invariant-loop-i l = (k : ℕ) → k < l.i → (get_or l.rows k no_row).at < l.tenth
