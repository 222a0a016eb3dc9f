use Rattle.std.specs.Prelude.{◌==◌, ℕ, List, count_by}
use Rattle.sig_base.specs.declared.values.Row.{Row}

-- how many rows have this code
abbrev pub count_of : List Row → ℕ → ℕ
count_of rows code = count_by (λ r. r.code == code) rows
