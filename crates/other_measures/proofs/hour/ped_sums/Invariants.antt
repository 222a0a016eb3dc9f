use Rattle.std.proofs.Common.{ℕ, Option}
use Rattle.std.specs.Prelude.{option_copied}
use Rattle.board.specs.Logs.{HourLog}
use Rattle.sig_base.specs.Numbers.{has_number}
use Rattle.other_measures.specs.Hours.{HasDelays}
use Rattle.other_measures.specs.States.{EachOf, HasDetector, IsWhatIsSeen, MetBy}
use Rattle.other_measures.proofs.hour.ped_sums.Given as goal

abbrev pub invariant-loop-ped : goal.invariant-loop-ped
invariant-loop-ped l = record {
  delays : EachOf (has_number l.config.peds) (HasDelays l.delays) l.ped l.sums.items;
  states : (log : Option HourLog) (first : ℕ) → IsWhatIsSeen l.config (option_copied l.seen) log first → EachOf (has_number l.config.peds) (HasDetector (MetBy log) first l.config) l.ped l.sums.items;
}
