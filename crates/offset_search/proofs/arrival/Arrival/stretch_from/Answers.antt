use Rattle.std.proofs.Common.{◌≡◌, ap, ◌∙◌, sym, arith}
use Rattle.offset_search.proofs.Stretches.{before_green, on_green, after_green}
use Rattle.offset_search.proofs.arrival.Arrival.stretch_from.Goals as goal
use Rattle.offset_search.proofs.arrival.Arrival.stretch_from.Goals.{then-tenth-self, else-tenth-self+then-tenth-self-2, else-tenth-self+else-tenth-self-2}

pub returns-clause-same : goal.returns-clause-same
returns-clause-same c = λ j le lt.
    let a = c.args.self.now in
    let s = c.args.shift in
    elim c.if-tenth-self.branch [
      | then-tenth-self w ↦
          let edge : c.if-tenth-self.is_green.1 ≡ a.green = ap (λ p. p.1) w.is_green-is in
          before_green a s j (omega arith) le (omega arith) ∙ sym (ap (λ p. p.0) w.is_green-is)
      | else-tenth-self+then-tenth-self-2 w ↦
          let edge : c.if-tenth-self.is_green.1 ≡ a.yellow = ap (λ p. p.1) w.is_green-is in
          on_green a s j (omega arith) le (omega arith) (omega arith) ∙ sym (ap (λ p. p.0) w.is_green-is)
      | else-tenth-self+else-tenth-self-2 w ↦
          let edge : c.if-tenth-self.is_green.1 ≡ a.length = ap (λ p. p.1) w.is_green-is in
          after_green a s j le (omega arith) (omega arith) ∙ sym (ap (λ p. p.0) w.is_green-is)
    ]
