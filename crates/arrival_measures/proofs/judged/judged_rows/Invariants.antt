use Rattle.std.proofs.Common.{◌≤◌, ℕ, Bool, List, take}
use Rattle.std.specs.Prelude.{All}
use Rattle.sig_base.specs.declared.values.Row.{Row}
use Rattle.hour_sweep.specs.Hours.{IsHour, point}
use Rattle.board.specs.Logs.{HourLog}
use Rattle.board.specs.Verdicts.{MayPass}
use Rattle.ring_config.specs.Settings.{Settings}
use Rattle.arrival_measures.specs.Hours.{is_seen}
use Rattle.arrival_measures.specs.Steps.{AreJudgedRows, IsMaskOf}
use Rattle.arrival_measures.specs.Views.{IsSeen}
use Rattle.arrival_measures.proofs.judged.judged_rows.Given as goal

abbrev pub invariant-loop-row : goal.invariant-loop-row
invariant-loop-row l = (known : ℕ → Bool) (hour : ℕ) (c : Settings) (all : List Row) (log : HourLog) (test : ℕ → Bool) → IsHour known hour all l.stretches → IsSeen c l.view all l.stretches log → IsMaskOf test l.colours → All (λ x. point hour ≤ x.at) l.rows → AreJudgedRows test (λ t v. MayPass log t l.spec v) (is_seen known hour) (take l.row-index l.rows) l.judged
