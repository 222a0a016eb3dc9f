use Rattle.std.proofs.Common.{◌≡◌, ◌-◌, get_or}
use Rattle.board.specs.Logs.{no_row}
use Rattle.rule_audit.proofs.walk.start_of.Given as goal

abbrev pub invariant-loop-turn : goal.invariant-loop-turn
invariant-loop-turn l = (get_or l.rows (l.index - l.turn) no_row).at ≡ (get_or l.rows l.index no_row).at
