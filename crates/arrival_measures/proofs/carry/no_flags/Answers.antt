use Rattle.std.proofs.Common.{rules, ◌≡◌, ◌∙◌, ◌-◌, ◌++◌, ◌∷◌, [], None, Some, ap, sym, length, take, arith}
use Rattle.std.specs.Prelude.{replicate}
use Rattle.arrival_measures.specs.Steps.{no_flag}
use Rattle.arrival_measures.proofs.Padding.{next_size, none_next, one_next}
use Rattle.arrival_measures.proofs.carry.no_flags.Goals as goal
use Rattle.arrival_measures.proofs.carry.no_flags.Goals.{in-Some+in_ok-resize+in_ok-push, in_default}

pub loop-number-preserved : goal.loop-number-preserved
loop-number-preserved c =
    let f = no_flag c.args.config.now in
    let n = c.loop-number.number in
    let flags = c.loop-number.flags.items in
    let few = c.loop-number.invariant.few in
    let told = c.loop-number.invariant.told in
    elim c.match-no_flag.branch [
      | in-Some+in_ok-resize+in_ok-push w ↦
          let new = w.push.new.self.items in
          let v = Some w.in-Some.flag in
          let long : w.resize.new.self.items ≡ take n flags ++ replicate (n - length flags) None = search rules in
          let put : new ≡ (take n flags ++ replicate (n - length flags) None) ++ v ∷ [] = w.in_ok-push.ensures.items ∙ ap (λ zs. zs ++ v ∷ []) long in
          let is : v ≡ f n = sym w.in-Some.is ∙ c.no_flag.ensures in
          let size = next_size f n flags few told new v put is in
          rw w.flags-is (record { few = omega arith; told = one_next f n flags few told new v put is })
      | in_default w ↦
          rw w.flags-is (record { few = omega arith; told = none_next f n flags few told (sym c.no_flag.ensures ∙ w.in_default.is) })
    ]
