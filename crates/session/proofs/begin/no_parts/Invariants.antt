use Rattle.std.proofs.Common.{◌≡◌, ◌<◌, ℕ, get_or, length}
use Rattle.hour_work.specs.Numbers.{FitHours, Numbers}
use Rattle.session.proofs.begin.no_parts.Given as goal

abbrev pub invariant-loop : goal.invariant-loop
invariant-loop l = record {
  size : length l.parts.items ≡ l.counter;
  small : (k : ℕ) (d : Numbers) → k < length l.parts.items → FitHours 1 (get_or l.parts.items k d);
}
