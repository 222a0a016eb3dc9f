use Rattle.std.proofs.Common.{ℕ, ◌<◌, ◌≤◌, ◌↔◌, IsTrue, nat_lt}
use Rattle.std.proofs.lemmas.Bool.{lt-ltb, ltb-true}
use Rattle.detector_state.specs.Tells.{IsSure}
use Rattle.detector_state.proofs.Counting.{counts_found}
use Rattle.detector_state.proofs.count.fault_among.Goals as goal

found : (P : ℕ → Type 0) (from to n : ℕ) → ((0 < n) ↔ ((x : ℕ) × (from ≤ x) × (x < to) × P x)) → IsTrue (nat_lt 0 n) ↔ ((x : ℕ) × (from ≤ x) × (x < to) × P x)
found P from to n both = ((λ t. both.0 (ltb-true 0 n t)), λ x. lt-ltb 0 n (both.1 x))

pub returns : goal.returns
returns c = λ log i a b tells lies.
    found (IsSure log i 2) c.args.from c.args.to c.tenths.result (counts_found (IsSure log i 2) c.args.from c.args.to c.tenths.result (c.tenths.ensures log i a b tells lies))
