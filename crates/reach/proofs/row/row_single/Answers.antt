use Rattle.std.proofs.Common.{arith, ap, sym, subst, refl, ◌∙◌, ◌≡◌, ◌↔◌, ◌<◌, ℕ, ℤ, Some, inl, inr}
use Rattle.std.proofs.lemmas.Int.{ints, to_z-of_z}
use Rattle.colour_machine.specs.Rules.{Rules, Goes}
use Rattle.reach.specs.declared.past.Single.{Single}
use Rattle.reach.specs.Past.{AfterRow, Holds}
use Rattle.reach.specs.Runs.{State}
use Rattle.reach.specs.Single.{sets_of, IsSingle}
use Rattle.reach.proofs.Alone.{goes_once, holds_single, row_next}
use Rattle.reach.proofs.row.row_single.Goals as goal

-- a letter that keeps the colour
row_kept : (m : Rules) (o : Single) (t : ℤ) (l : ℕ) → IsSingle o → Goes m o.colour l o.colour → (u : State) → Holds (sets_of o) u ↔ AfterRow m (sets_of o) t l u
row_kept m o t l is goes u = (
  λ h. let a = (holds_single o is u).0 h in (u, h, (subst (λ (k : ℕ). Goes m k l k) (sym a.0) goes, inl refl)),
  λ (s, h, (g, k)). elim k [
    | inl same ↦ subst (λ (v : State). Holds (sets_of o) v) (sym same) h
    | inr (ne, at, old) ↦
        let a = (holds_single o is s).0 h in
        let g2 : Goes m o.colour l u.colour = subst (λ (j : ℕ). Goes m j l u.colour) a.0 g in
        absurd (ne (goes_once m o.colour l u.colour o.colour g2 goes ∙ sym a.0))
  ],
)

pub returns-in-Some-clause-after : goal.returns-in-Some-clause-after
returns-in-Some-clause-after g c =
    let m = g.M.Machine.rules c.args.machine.now in
    let lt : c.args.one.colour < m.colours = (let a = c.requires.single.colour in let b = c.requires.colours in omega arith) in
    let next : m.next c.args.one.colour c.args.letter ≡ Some c.args.one.colour = cc in
    row_kept m c.args.one c.args.at c.args.letter c.requires.single (lt, c.requires.letter, next)

pub returns-in-Some-2-clause-after : goal.returns-in-Some-2-clause-after
returns-in-Some-2-clause-after g c =
    let m = g.M.Machine.rules c.args.machine.now in
    let laws = g.met.M.Machine.laws c.args.machine.now in
    let r = c.ranges.at in
    let next : m.next c.args.one.colour c.args.letter ≡ Some c.in-Some.next = sym c.in-Some-2.ensures ∙ ap (λ (k : ℕ). Some k) (sym c.in-Some-2.next-is) in
    let lt : c.args.one.colour < m.colours = (let a = c.requires.single.colour in let b = c.requires.colours in omega arith) in
    let stay = laws.stays c.args.one.colour c.args.letter c.in-Some.next lt c.requires.letter next in
    let left = rw c.floor.ensures at (simp to_z-of_z at c.left_single.ensures) in
    row_next m c.args.one c.left_single.result c.args.at c.args.letter c.in-Some.next c.requires.single (let b = c.requires.colours in omega arith) (let a = c.requires.low in omega (arith, ints)) (let a = c.requires.high in omega (arith, ints)) (lt, c.requires.letter, next) (λ e. c.if-next-one.false e) left
