use Rattle.std.proofs.Common.{arith, ◌≡◌, ◌∙◌, ap, sym, pos, ℕ, Some, ◌≤ℤ◌, ◌+ℤ◌, subst}
use Rattle.channel_tables.specs.Any.{any_rules}
use Rattle.channel_tables.specs.AnyLaws.{any_laws}
use Rattle.filling_pair.proofs.Stepping.{changed_step}
use Rattle.filling_pair.proofs.step.step_at.Goals as goal

pub returns : goal.returns
returns c =
    let m = any_rules c.args.machine.now in
    let r = c.entered.result in
    let goes : Some r.colour ≡ m.next c.args.here.colour c.args.letter = ap (λ (x : ℕ). Some x) c.entered.ensures.colour ∙ c.in-Some.ensures in
    let old : (c.args.here.entry +ℤ pos c.floor.result) ≤ℤ pos c.args.at = c.is_old.ensures.0 c.if-not-is_old.false in
    changed_step m (pos c.args.at) c.args.here r c.args.letter (any_laws c.args.machine.now) c.requires (omega arith) goes (λ e. c.if-next-here.false (sym c.entered.ensures.colour ∙ e)) (subst (λ (n : ℕ). (c.args.here.entry +ℤ pos n) ≤ℤ pos c.args.at) c.floor.ensures old) c.entered.ensures.entry
