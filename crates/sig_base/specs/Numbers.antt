-- The numbers of channels and of phases.
use Rattle.std.specs.Prelude.{ℕ, ◌==◌, Bool, List}
use Rattle.std.specs.List.{list_any}
use Rattle.sig_base.specs.declared.values.PhaseItem.{PhaseItem}

-- the number is one of these numbers
abbrev pub has_number : List ℕ → ℕ → Bool
has_number numbers n = list_any (λ m. m == n) numbers

-- one of the phases has this number
abbrev pub has_phase : List PhaseItem → ℕ → Bool
has_phase phases n = list_any (λ p. p.number == n) phases
