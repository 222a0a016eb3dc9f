-- Counts of faults, which end at the last value of a u64.
use Rattle.std.specs.Prelude.{◌≤◌, ℕ}
use Rattle.sig_base.specs.Reads.{one_more}

-- the count rose, or it stands at the last value of a u64 and can't show it
abbrev pub Rose : ℕ → ℕ → Type 0
Rose before now = one_more before ≤ now
