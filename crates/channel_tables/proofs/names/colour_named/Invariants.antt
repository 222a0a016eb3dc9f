use Rattle.std.proofs.Common.{ℕ, ◌<◌}
use Rattle.channel_tables.specs.Tables.{HasName}
use Rattle.channel_tables.proofs.names.colour_named.Given as goal

abbrev pub invariant-loop-colour : goal.invariant-loop-colour
invariant-loop-colour l = (c : ℕ) → c < l.colour → HasName l.kind c l.name → ⊥
