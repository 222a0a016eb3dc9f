use Rattle.std.proofs.Common.{◌≡◌, ◌++◌, flat_map, take}
use Rattle.rule_audit.specs.Rules.{parents_rule_of}
use Rattle.rule_audit.proofs.rules.push_parents_of.Given as goal

abbrev pub invariant-loop-overlap : goal.invariant-loop-overlap
invariant-loop-overlap l = l.rules.items ≡ l.fn.rules.items ++ flat_map (parents_rule_of l.config l.number) (take l.overlap-index l.overlaps)
