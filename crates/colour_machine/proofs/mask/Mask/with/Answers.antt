use Rattle.std.proofs.Common.{◌≡◌, ◌⊎◌, ◌↔◌, subst, ℕ, ◌*◌, ◌%◌, ◌^◌, bit_or}
use Rattle.colour_machine.specs.Mask.{Has}
use Rattle.colour_machine.proofs.Bits.{has_set}
use Rattle.colour_machine.proofs.mask.Mask.with.Goals as goal

pub returns : goal.returns
returns c = subst (λ (n : ℕ). (d : ℕ) → Has (bit_or c.self.inside.bits (1 * 2 ^ c.args.colour % 65536)) d ↔ (Has n d ⊎ (d ≡ c.args.colour))) c.self.view_is (λ d. has_set c.self.inside.bits c.args.colour d c.requires)
