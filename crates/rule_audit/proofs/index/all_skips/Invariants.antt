use Rattle.rule_audit.specs.Index.{AreSkips}
use Rattle.rule_audit.proofs.index.all_skips.Given as goal

abbrev pub invariant-loop-i : goal.invariant-loop-i
invariant-loop-i l = AreSkips l.specs l.rules l.clauses l.i l.lists.items
