use Rattle.std.proofs.Common.{ℕ, Option}
use Rattle.std.specs.Prelude.{option_copied}
use Rattle.board.specs.Logs.{HourLog}
use Rattle.sig_base.specs.Numbers.{has_number}
use Rattle.other_measures.specs.Hours.{HasEvents}
use Rattle.other_measures.specs.States.{EachOf, HasStates, IsWhatIsSeen, MetBy}
use Rattle.other_measures.proofs.hour.preempt_sums.Given as goal

abbrev pub invariant-loop-preempt : goal.invariant-loop-preempt
invariant-loop-preempt l = record {
  events : EachOf (has_number l.config.preempts) (HasEvents l.events) l.preempt l.sums.items;
  states : (log : Option HourLog) (first : ℕ) → IsWhatIsSeen l.config (option_copied l.seen) log first → EachOf (has_number l.config.preempts) (HasStates (MetBy log) first l.config) l.preempt l.sums.items;
}
