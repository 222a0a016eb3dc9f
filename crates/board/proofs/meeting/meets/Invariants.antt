use Rattle.std.proofs.Common.{◌≡◌, ◌≤◌, length, drop}
use Rattle.channel_tables.specs.Spec.{rules_of}
use Rattle.board.proofs.Back.{IsBack}
use Rattle.board.proofs.meeting.meets.Given as goal

abbrev pub invariant-loop-place : goal.invariant-loop-place
invariant-loop-place l = record {
  within : l.place ≤ length l.moves;
  colours : length l.now ≡ (rules_of l.spec).colours;
  was_colours : length l.was ≡ (rules_of l.spec).colours;
  back : IsBack (rules_of l.spec) l.after (drop l.place l.moves) l.now;
  was_back : IsBack (rules_of l.spec) l.was_after (drop l.place l.moves) l.was;
}

abbrev pub decreases-loop-place : goal.decreases-loop-place
decreases-loop-place l = l.place
