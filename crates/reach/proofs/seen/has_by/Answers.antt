use Rattle.std.proofs.Common.{refl, arith}
use Rattle.std.proofs.lemmas.Int.{ints}
use Rattle.reach.proofs.seen.has_by.Goals as goal

pub returns-then-least-limit : goal.returns-then-least-limit
returns-then-least-limit c = (λ _. (c.in-Some.least, c.in-Some.ensures.0, omega (arith, ints)), λ _. refl)

pub returns : goal.returns
returns c = (λ h. absurd (cc), λ (e, m, o). let l = c.in-Some.ensures.1 e m in absurd (omega (arith, ints)))
