use Rattle.std.proofs.Common.{arith, rules, ◌≡◌, ◌∙◌, sym, subst, inl, inr, ◌↔◌, ℕ, ◌<◌, ◌≤◌, ℤ, ◌≤ℤ◌, take, set, get_or-set_same, get_or-set_other, replicate, Option, Some, None, w64}
use Rattle.std.specs.Prelude.{FitsSigned}
use Rattle.std.proofs.lemmas.Bool.{cases_eq, cases_lt}
use Rattle.std.proofs.lemmas.Int.{ints, to_z-of_z}
use Rattle.std.proofs.lemmas.List.{get_or-replicate, get_or_past, length-replicate}
use Rattle.reach.specs.Runs.{State}
use Rattle.reach.specs.Ahead.{NotLater, Admits}
use Rattle.reach.specs.Latest.{entry_of, IsTable}
use Rattle.reach.proofs.Later.{none_left, take_admits}
use Rattle.reach.proofs.ahead.Ahead.only.Goals as goal

none_in : (n k : ℕ) → entry_of (replicate {A = Option ℤ} n None) k ≡ None
none_in n k = elim (cases_lt k n) [
  | inl lt ↦ get_or-replicate {A = Option ℤ} n k None None lt
  | inr ge ↦ get_or_past (replicate {A = Option ℤ} n None) k None (let e = length-replicate {A = Option ℤ} n None in omega arith)
]

one_other : (n c k : ℕ) (x : Option ℤ) → (k ≡ c → ⊥) → entry_of (set (replicate {A = Option ℤ} n None) c x) k ≡ None
one_other n c k x ne = get_or-set_other (replicate {A = Option ℤ} n None) c k x None ne ∙ none_in n k

one_here : (n c : ℕ) (x : Option ℤ) → c < n → entry_of (set (replicate {A = Option ℤ} n None) c x) c ≡ x
one_here n c x lt = get_or-set_same (replicate {A = Option ℤ} n None) c x None (let e = length-replicate {A = Option ℤ} n None in omega arith)

one_table : (n k c : ℕ) (x : Option ℤ) → k ≤ 16 → c < k → IsTable k (set (replicate {A = Option ℤ} n None) c x)
one_table n k c x few lt = (few, λ j ge. one_other n c j x (λ e. omega arith))

one_admits : (n k c : ℕ) (e : ℤ) → k ≤ n → c < k → (s : State) → Admits (take k (set (replicate {A = Option ℤ} n None) c (Some e))) s ↔ ((s.colour ≡ c) × (s.entry ≤ℤ e))
one_admits n k c e few lt s =
    let table = set (replicate {A = Option ℤ} n None) c (Some e) in
    let t = take_admits k table s (λ j ge. one_other n c j (Some e) (λ same. omega arith)) in
    elim (cases_eq s.colour c) [
      | inl same ↦
          let at : entry_of table s.colour ≡ Some e = rw same (one_here n c (Some e) (omega arith)) in (
            λ a. (same, subst (λ (o : Option ℤ). NotLater o s.entry) at (t.0 a)),
            λ (_, le). t.1 (subst (λ (o : Option ℤ). NotLater o s.entry) (sym at) le),
          )
      | inr ne ↦ (λ a. absurd (none_left table s (one_other n c s.colour (Some e) ne) (t.0 a)), λ (same, le). absurd (ne same))
    ]

pub invariant_of-result : goal.invariant_of-result
invariant_of-result c = one_table 16 c.args.one.colours c.args.one.colour _ c.requires.few c.requires.colour

pub returns-clause-states : goal.returns-clause-states
returns-clause-states c =
    let low = c.requires.low in
    let high = c.requires.high in
    let f : FitsSigned w64 c.args.one.entry = search (rules, ints) in
    simp to_z-of_z (one_admits 16 c.args.one.colours c.args.one.colour c.args.one.entry c.requires.few c.requires.colour)
