-- What a script is carried out for.
use Rattle.std.specs.Prelude.{ℕ, List}
use Rattle.sigaudit.specs.declared.purpose.Purpose.{Purpose}
use Rattle.sigaudit.specs.declared.purpose.Purpose.TheVariants as code

-- what a script is carried out for: the texts of its lines; or what the rule of this number leaves undecided at this stamp, once all lines are taken
pub data Aim : Type 0 where
  for_lines : Aim
  for_rule : ℕ → List ℕ → Aim

abbrev pub aim_of : Purpose → Aim
aim_of code.Lines = for_lines
aim_of (code.Undecided rule at) = for_rule rule at.now
