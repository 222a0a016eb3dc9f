use Rattle.std.proofs.Common.{◌≡◌, ℕ, length, true}
use Rattle.session.specs.Links.{is_as_was}
use Rattle.session.specs.Ranges.{NoneBlanked}
use Rattle.session.proofs.blanks.clear_hours.Given as goal

abbrev pub invariant-loop-hour : goal.invariant-loop-hour
invariant-loop-hour l = record {
  size : length l.clear.items ≡ l.hour;
  told : (k : ℕ) → is_as_was l.clear.items k ≡ true → NoneBlanked l.blanks k;
}
