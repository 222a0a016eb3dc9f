use Rattle.std.proofs.Common.{◌≡◌, ◌<◌, ℕ, length, get_or, [], None}
use Rattle.channel_tables.specs.declared.spec.Spec.{Spec}
use Rattle.board.specs.Stops.{IsFirstStop, rules_at}
use Rattle.board.proofs.Keeping.{AreClampedTo, HaveStates}
use Rattle.board.proofs.pasts.pasts_walked.Given as goal

abbrev pub invariant-loop-i : goal.invariant-loop-i
invariant-loop-i l = record {
  count : length l.pasts.items ≡ l.i;
  stop : IsFirstStop l.specs l.courses.rows l.stretches l.before l.i l.stop;
  colours : (i : ℕ) (d : Spec) → i < l.i → length (get_or l.pasts.items i []) ≡ (rules_at l.specs i d).colours;
  some : (l.stop ≡ None) → HaveStates l.i l.pasts.items;
  after : (l.stop ≡ None) → AreClampedTo l.specs l.courses.rows l.stretches l.before l.i l.pasts.items;
}
