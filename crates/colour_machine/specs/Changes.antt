-- One round of a search over changes of colour.
use Rattle.std.specs.Prelude.{◌≢◌, ◌⊎◌, ℕ, ◌<◌}
use Rattle.colour_machine.specs.Mask.{Has}
use Rattle.colour_machine.specs.Rules.{Rules, Goes, Change}

-- some letter below k changes colour c to colour d
abbrev pub ChangeBelow : Rules → ℕ → ℕ → ℕ → Type 0
ChangeBelow m k c d = (l : ℕ) × (l < k) × Goes m c l d × (d ≢ c)

-- one change leads to colour d from a colour of from or reached
abbrev pub ReachedOne : Rules → ℕ → ℕ → ℕ → Type 0
ReachedOne m from reached d = (c : ℕ) × (Has from c ⊎ Has reached c) × Change m c d
