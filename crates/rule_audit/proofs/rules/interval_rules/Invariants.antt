use Rattle.std.proofs.Common.{◌≡◌, map, take}
use Rattle.rule_audit.specs.declared.rules.Rule.TheVariants.{Interval}
use Rattle.rule_audit.proofs.rules.interval_rules.Given as goal

abbrev pub invariant-loop-item : goal.invariant-loop-item
invariant-loop-item l = l.rules.items ≡ map Interval (take l.item-index l.items)
