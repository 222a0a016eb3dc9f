use Rattle.std.proofs.Common.{arith, rules, ◌≡◌, refl, sym, subst, inl, inr, ◌↔◌, ℕ, ◌<◌, ◌≤◌, ℤ, pos, ◌-ℤ◌, ◌<ℤ◌, List, length, take, Option, Some, None, w64}
use Rattle.std.specs.Prelude.{FitsSigned}
use Rattle.std.proofs.lemmas.Bool.{cases_lt}
use Rattle.std.proofs.lemmas.Int.{ints, to_z-of_z}
use Rattle.reach.specs.Runs.{State}
use Rattle.reach.specs.Ahead.{NotLater, Admits}
use Rattle.reach.specs.Latest.{entry_of}
use Rattle.reach.proofs.Later.{length_set, none_after, none_left, take_admits}
use Rattle.reach.proofs.Entering.{entry_more}
use Rattle.reach.proofs.ahead.Ahead.end.Goals as goal

end_admits : (n : ℕ) (latest : List (Option ℤ)) (point : ℤ) → ((c : ℕ) → c < n → entry_of latest c ≡ Some (point -ℤ pos 1)) → ((c : ℕ) → n ≤ c → entry_of latest c ≡ None) → (s : State) → Admits (take n latest) s ↔ ((s.colour < n) × (s.entry <ℤ point))
end_admits n latest point some none s =
    let t = take_admits n latest s none in
    elim (cases_lt s.colour n) [
      | inl lt ↦ let e = some s.colour lt in (
        λ a. (lt, let b = subst (λ (o : Option ℤ). NotLater o s.entry) e (t.0 a) in omega (arith, ints)),
        λ (l, h). t.1 (subst (λ (o : Option ℤ). NotLater o s.entry) (sym e) (omega (arith, ints))),
      )
      | inr ge ↦ (λ a. absurd (none_left latest s (none s.colour ge) (t.0 a)), λ (l, h). absurd (omega arith))
    ]

pub loop-colour-preserved : goal.loop-colour-preserved
loop-colour-preserved c =
    let r = c.ranges.point in
    let f : FitsSigned w64 (c.args.point -ℤ pos 1) = search (rules, ints) in
    let i = simp to_z-of_z at c.loop-colour.invariant in
    let x = Some (c.args.point -ℤ pos 1) in
    let within : c.loop-colour.colour < length c.loop-colour.latest = (let l = i.0 in let b = c.loop-colour-test.true in let k = c.requires.few in omega arith) in
    simp to_z-of_z (length_set c.loop-colour.latest c.loop-colour.colour x i.0, entry_more (λ _ y. y ≡ x) c.loop-colour.latest c.loop-colour.colour x within i.1 refl, none_after c.loop-colour.latest c.loop-colour.colour x i.2)

pub invariant_of-result : goal.invariant_of-result
invariant_of-result c = (c.requires.few, λ k ge. c.loop-colour.invariant.2 k (let a = c.loop-colour.auto.colour-end in omega arith))

pub returns-clause-states : goal.returns-clause-states
returns-clause-states c =
    let r = c.ranges.point in
    let i = simp to_z-of_z at c.loop-colour.invariant in
    end_admits c.args.colours c.loop-colour.latest c.args.point (λ k lt. i.1 k (let b = c.loop-colour-test.false in omega arith)) (λ k ge. i.2 k (let a = c.loop-colour.auto.colour-end in omega arith))
