-- What a shelf with the files of a demonstration is.
use Rattle.std.specs.Prelude.{ℕ}
use Rattle.outside.specs.Shelf.{Counts}

-- the hours of the demonstration, and how often a file was missing or too long
pub record DemoFiles : Type 0 where
  pub hours : ℕ
  pub missing : ℕ
  pub long : ℕ

-- no fetch fails
abbrev pub demo_counts : ℕ → ℕ → Counts
demo_counts missing long = record { missing = missing; failed = 0; long = long }
