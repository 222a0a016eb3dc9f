use Rattle.std.proofs.Common.{arith, ◌≡◌, ◌∙◌, ◌+◌, ◌<◌, ◌≤◌, ℕ, ℤ, List, Option, None, length, set, get_or-set_other}
use Rattle.std.proofs.lemmas.Int.{to_z-of_z}
use Rattle.reach.specs.Latest.{entry_of}
use Rattle.reach.specs.Last.{IsEntryAt}
use Rattle.reach.proofs.Later.{length_set}
use Rattle.reach.proofs.Entering.{entry_more}
use Rattle.reach.proofs.before_holes.entries_at.Goals as goal

same_after : (new old : List (Option ℤ)) (k : ℕ) (one : Option ℤ) → ((c : ℕ) → k ≤ c → entry_of new c ≡ entry_of old c) → (c : ℕ) → k + 1 ≤ c → entry_of (set new k one) c ≡ entry_of old c
same_after new old k one h c le = let ne : c ≡ k → ⊥ = λ e. omega arith in get_or-set_other new k c one None ne ∙ h c (omega arith)

pub loop-colour-preserved : goal.loop-colour-preserved
loop-colour-preserved g c =
    let m = g.M.Machine.rules c.args.machine.now in
    let r = c.ranges.place in
    let few = (g.met.M.Machine.laws c.args.machine.now).few_colours in
    let i = simp to_z-of_z at c.loop-colour.invariant in
    let within : c.loop-colour.colour < length c.loop-colour.new = (let l = i.0 in let e = c.colours-colour-end.ensures in omega arith) in
    let one = rw c.floor.ensures at (simp to_z-of_z at c.entry_at.ensures) in
    (length_set _ _ _ i.0, simp to_z-of_z (entry_more (λ k x. IsEntryAt (m.floor k) (entry_of c.args.latest.now k) (entry_of c.args.last.now k) c.args.place x) c.loop-colour.new c.loop-colour.colour c.entry_at.result within i.1 one), same_after c.loop-colour.new c.args.latest.now c.loop-colour.colour c.entry_at.result i.2)
