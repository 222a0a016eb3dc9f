use Rattle.std.proofs.Common.{◌≡◌, ℕ, ◌+◌, ◌%◌, ◌^◌, ◌<◌, ◌≤◌, get_or, take, sum}
use Rattle.offset_search.proofs.steps.sum_up.Given as goal

abbrev pub invariant-loop-step : goal.invariant-loop-step
invariant-loop-step l = record {
  so_far : l.count ≡ sum (take l.step-index l.initial.steps) % 2 ^ 64;
  done : (k : ℕ) → k < l.step-index → get_or l.steps k 0 ≡ sum (take (k + 1) l.initial.steps) % 2 ^ 64;
  rest : (k : ℕ) → l.step-index ≤ k → get_or l.steps k 0 ≡ get_or l.initial.steps k 0;
}
