use Rattle.std.proofs.Common.{◌≡◌, ◌<◌, ◌≤◌, ◌+◌, ◌-◌, ℕ, length, get_or}
use Rattle.rule_audit.specs.Index.{is_picked, IsNext}
use Rattle.rule_audit.proofs.index.skips_of.Given as goal

abbrev pub invariant-loop-turn : goal.invariant-loop-turn
invariant-loop-turn l = (length l.next.items ≡ l.turn + 1) × (l.turn ≤ length l.rules) × IsNext (is_picked l.specs l.rules l.clauses l.channel) (length l.rules) (length l.rules - l.turn) l.last × ((j : ℕ) → j < l.turn + 1 → IsNext (is_picked l.specs l.rules l.clauses l.channel) (length l.rules) (length l.rules - j) (get_or l.next.items j 0))
