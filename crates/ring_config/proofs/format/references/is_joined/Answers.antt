use Rattle.std.proofs.Common.{refl}
use Rattle.ring_config.proofs.TextLaws.{bytes_eq-append}
use Rattle.ring_config.proofs.format.references.is_joined.Goals as goal

pub returns-in-Some : goal.returns-in-Some
returns-in-Some c =
    let here = c.in-Some.ensures.cases in
    rw (bytes_eq-append c.args.front.now c.args.text.now c.args.back.now, here.0, ← here.1) c.eq.ensures

pub returns-in-None : goal.returns-in-None
returns-in-None c = rw (bytes_eq-append c.args.front.now c.args.text.now c.args.back.now, c.in-None.ensures.cases) refl
