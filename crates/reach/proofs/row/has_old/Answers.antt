use Rattle.std.proofs.Common.{refl, arith}
use Rattle.std.proofs.lemmas.Int.{ints}
use Rattle.reach.proofs.row.has_old.Goals as goal

pub returns-then-least-limit : goal.returns-then-least-limit
returns-then-least-limit c = let k = c.from.ensures in (λ _. (c.in-Some.least, c.in-Some.ensures.0, omega (arith, ints)), λ _. refl)

pub returns : goal.returns
returns c = let k = c.from.ensures in (λ h. absurd (cc), λ (e, m, o). let l = c.in-Some.ensures.1 e m in absurd (omega (arith, ints)))
