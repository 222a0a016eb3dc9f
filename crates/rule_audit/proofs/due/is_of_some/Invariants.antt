use Rattle.std.proofs.Common.{◌≡◌, drop, get_or}
use Rattle.std.specs.List.{list_any}
use Rattle.board.specs.Channels.{is_channel}
use Rattle.board.specs.Logs.{no_spec}
use Rattle.rule_audit.proofs.due.is_of_some.Given as goal

abbrev pub invariant-loop-term : goal.invariant-loop-term
invariant-loop-term l = list_any (λ c. is_channel (get_or l.specs c.spec no_spec).channel l.channel) (drop l.term-index l.terms) ≡ list_any (λ c. is_channel (get_or l.specs c.spec no_spec).channel l.channel) l.terms
