use Rattle.std.proofs.Common.{take}
use Rattle.std.specs.Prelude.{filter}
use Rattle.session.specs.Pairs.{ArePairsOf, is_open_at}
use Rattle.sig_base.specs.Reads.{Grow}
use Rattle.session.proofs.pairs.pairs_of.Given as goal

-- the lines so far have their pairs
abbrev pub invariant-loop-line : goal.invariant-loop-line
invariant-loop-line g l = record {
  pairs : ArePairsOf l.config l.store (filter (is_open_at l.asked.rule l.asked.at) (take l.line-index l.lines)) l.pairs;
  grow : Grow l.fn.reads l.reads;
}
