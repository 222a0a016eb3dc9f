use Rattle.std.proofs.Common.{arith, ◌≡◌, inl, inr, ◌↔◌, ◌⊎◌, ℕ, ◌<◌, ◌≤◌, ℤ, ◌<ℤ◌, ◌≤ℤ◌, List, [], length, get_or}
use Rattle.std.proofs.lemmas.Bool.{cases_lt}
use Rattle.std.proofs.lemmas.Int.{to_z-of_z}
use Rattle.std.proofs.lemmas.List.{get_or_default, get_or_past}
use Rattle.span_set.specs.declared.set.Span.{Span}
use Rattle.span_set.specs.Spans.{Member}
use Rattle.reach.specs.Past.{AreClamped}
use Rattle.reach.specs.Sets.{set_of}
use Rattle.reach.proofs.Each.{each_more, above_more}
use Rattle.reach.proofs.past.clamp_sets.Goals as goal

abbrev Clamped : ℤ → List Span → ℤ → Type 0
Clamped limit ss e = (Member ss e × (limit ≤ℤ e)) ⊎ ((e ≡ limit) × ((x : ℤ) × Member ss x × (x <ℤ limit)))

all_clamped : (limit : ℤ) (old new : List (List Span)) (k : ℕ) → length new ≡ length old → length old ≤ k → ((c : ℕ) → c < k → (e : ℤ) → Member (set_of new c) e ↔ Clamped limit (set_of old c) e) → AreClamped limit old new
all_clamped limit old new k len over below = (
  len,
  λ c e. elim (cases_lt c k) [
    | inl lt ↦ below c lt e
    | inr ge ↦
        let a : get_or new c [] ≡ [] = get_or_past new c [] (omega arith) in
        let b : get_or old c [] ≡ [] = get_or_past old c [] (omega arith) in
        rw (a, b) (λ m. absurd m, λ h. elim h [ inl x ↦ absurd x.0 | inr (q, (x, m, l)) ↦ absurd m ])
  ],
)

pub loop-set-preserved : goal.loop-set-preserved
loop-set-preserved c =
    let r = c.ranges.limit in
    let k = c.loop-set.set-index in
    let i = simp to_z-of_z at c.loop-set.invariant in
    let lt : k < length c.loop-set.sets = (let b = c.loop-set-test.true in let l = c.loop-set.auto.sets in omega arith) in
    let one = rw (get_or_default c.loop-set.sets k c.set-item.result [] lt) at (simp to_z-of_z at c.clamp_below.ensures) in
    simp to_z-of_z (each_more (λ _ ss e. Clamped c.args.limit ss e) c.args.sets.now c.loop-set.sets k c.clamp_below.new.self lt i.0 i.1 one, above_more c.args.sets.now c.loop-set.sets k c.clamp_below.new.self i.1)

pub returns : goal.returns
returns c =
    let r = c.ranges.limit in
    let i = simp to_z-of_z at c.loop-set.invariant in
    all_clamped c.args.limit c.args.sets.now c.loop-set.sets c.loop-set.set-index c.loop-set.auto.sets (let b = c.loop-set-test.false in let l = c.loop-set.auto.sets in omega arith) i.0
