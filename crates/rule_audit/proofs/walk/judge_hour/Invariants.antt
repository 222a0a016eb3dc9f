use Rattle.std.proofs.Common.{ℕ, ◌≡◌, ◌≤◌, drop, []}
use Rattle.gap_map.specs.Stretches.{FollowOn, known_at}
use Rattle.board.specs.Logs.{end_tenth, first_tenth}
use Rattle.rule_audit.specs.Judged.{HasVerdict}
use Rattle.rule_audit.specs.Pass.{AddsUpTo, Ends, IsCutAt, IsLogOf, log_of, obligations_in}
use Rattle.rule_audit.proofs.walk.judge_hour.Given as goal

abbrev pub invariant-loop-stretch : goal.invariant-loop-stretch
invariant-loop-stretch l = (e : Ends) → IsLogOf l.hour e → (x : ℕ) × FollowOn x (end_tenth e.hour) (drop l.stretch-index l.stretches) × ((t : ℕ) → x ≤ t → known_at l.hour.stretches.now t ≡ known_at (drop l.stretch-index l.stretches) t) × IsCutAt l.hour.rows.now x l.next × AddsUpTo (HasVerdict (log_of l.hour e)) (obligations_in l.hour l.known_before (first_tenth e.hour) (end_tenth e.hour)) (obligations_in l.hour l.before x (end_tenth e.hour)) [] l.lines.items
