-- Three colours in a ring, each entered from the one before it by the letter of its number.
use Rattle.std.specs.Prelude.{◌≡◌, ℕ, ◌+◌, Bool, true, false, cond, nat_lt, ◌==◌, Some, None}
use Rattle.std.proofs.Common.{arith}
use Rattle.colour_machine.specs.Rules.{Rules, IsMachine}

abbrev pub after : ℕ → ℕ
after c = cond (nat_lt c 2) (c + 1) 0

abbrev pub ring : Rules
ring = record { colours = 3; letters = 3; next = λ c l. cond (l == after c) (Some l) None; floor = λ c. 5 }

same_letter : (b : Bool) (l d : ℕ) → cond b (Some l) None ≡ Some d → l ≡ d
same_letter true l d e = cc
same_letter false l d e = absurd (cc)

pub ring_laws : IsMachine ring
ring_laws = record {
  some_colour = omega arith;
  few_colours = omega arith;
  few_letters = omega arith;
  stays = λ c l d lt ll e. let same = same_letter (l == after c) l d e in omega arith;
  low_floor = λ c lt. omega arith;
}
