-- States of one machine, backward.
use Rattle.std.proofs.Common.{◌≡◌, ◌≢◌, refl, ap, sym, ◌∙◌, subst, inl, inr, ◌↔◌, ℕ, suc, ◌+◌, ◌<◌, ◌≤◌, ℤ, pos, ◌+ℤ◌, ◌≤ℤ◌, List, [], ◌∷◌, length, length-take, get_or, get_or-take, set, take, get_or-set_same, get_or-set_other, arith, Option, Some, None}
use Rattle.std.proofs.lemmas.Int.{ints}
use Rattle.std.proofs.lemmas.Bool.{cases_eq, cases_lt}
use Rattle.std.proofs.lemmas.List.{get_or_past}
use Rattle.std.proofs.lemmas.Grind.{common_steps}
use Rattle.sig_base.proofs.Common.{some_same}
use Rattle.colour_machine.specs.Rules.{Rules, Goes}
use Rattle.reach.specs.Runs.{State, state}
use Rattle.reach.specs.Ahead.{NotLater, Admits, BeforeRow}
use Rattle.reach.specs.Latest.{entry_of, IsTable, IsLower, IsMeet}
use Rattle.reach.proofs.States.{state_same}

pub then_iff : {A B C : Type 0} → (A ↔ B) → (B ↔ C) → A ↔ C
then_iff a b = (λ x. b.0 (a.0 x), λ z. a.1 (b.1 z))

-- a letter that keeps the colour
pub row_same : (m : Rules) (old : List (Option ℤ)) (t : ℤ) (l c : ℕ) (e : ℤ) → Goes m c l c → NotLater (entry_of old c) e ↔ BeforeRow m old t l (state c e)
row_same m old t l c e n = (
  λ a. (state c e, (n, inl refl), a),
  λ (u, (g, k), a). elim k [ inl same ↦ subst (λ (v : State). Admits old v) same a | inr new ↦ absurd (new.0 (some_same u.colour c (sym g.2 ∙ n.2))) ],
)

-- one that changes it
pub row_other : (m : Rules) (old : List (Option ℤ)) (t : ℤ) (l c d : ℕ) (e : ℤ) → Goes m c l d → d ≢ c → (NotLater (entry_of old d) t × ((e +ℤ pos (m.floor c)) ≤ℤ t)) ↔ BeforeRow m old t l (state c e)
row_other m old t l c d e n ne = (
  λ (a, o). (state d t, (n, inr (ne, refl, o)), a),
  λ (u, (g, k), a). let same : u.colour ≡ d = some_same u.colour d (sym g.2 ∙ n.2) in elim k [ inl kept ↦ absurd (ne (sym same ∙ ap (λ (v : State). v.colour) kept)) | inr new ↦ (subst (λ (x : ℤ). NotLater (entry_of old d) x) new.1 (subst (λ (x : ℕ). NotLater (entry_of old x) u.entry) same a), new.2) ],
)

-- a state in the tables of latest entries: one more colour is right, and none comes after it
pub set_more : (P : State → Type 0) (new : List (Option ℤ)) (k : ℕ) (one : Option ℤ) → k < length new → ((s : State) → s.colour < k → Admits new s ↔ P s) → ((e : ℤ) → NotLater one e ↔ P (state k e)) → (s : State) → s.colour < k + 1 → Admits (set new k one) s ↔ P s
set_more P new k one h below here s lt = elim (cases_eq s.colour k) [
  | inl e ↦ let at : get_or (set new k one) s.colour None ≡ one = rw e (get_or-set_same new k one None h) in
      let same : s ≡ state k s.entry = state_same s (state k s.entry) e refl in
      rw at (subst (λ (v : State). NotLater one s.entry ↔ P v) (sym same) (here s.entry))
  | inr ne ↦ let at : get_or (set new k one) s.colour None ≡ get_or new s.colour None = get_or-set_other new k s.colour one None ne in
      let b : s.colour < k = omega arith in
      rw at (below s b)
]

pub none_after : (new : List (Option ℤ)) (k : ℕ) (one : Option ℤ) → ((c : ℕ) → k ≤ c → entry_of new c ≡ None) → (c : ℕ) → k + 1 ≤ c → entry_of (set new k one) c ≡ None
none_after new k one h c le = let ne : c ≡ k → ⊥ = λ e. omega arith in get_or-set_other new k c one None ne ∙ h c (omega arith)

pub length_set : (new : List (Option ℤ)) (k : ℕ) (one : Option ℤ) → length new ≡ 16 → length (set new k one) ≡ 16
length_set new k one h = grind (arith, common_steps)

pub none_left : (latest : List (Option ℤ)) (s : State) → entry_of latest s.colour ≡ None → Admits latest s → ⊥
none_left latest s e a = subst (λ (o : Option ℤ). NotLater o s.entry) e a

-- the first n of a table
pub take_admits : (n : ℕ) (latest : List (Option ℤ)) (s : State) → ((c : ℕ) → n ≤ c → entry_of latest c ≡ None) → Admits (take n latest) s ↔ Admits latest s
take_admits n latest s none = elim (cases_lt s.colour n) [
  | inl lt ↦ let at : get_or (take n latest) s.colour None ≡ get_or latest s.colour None = get_or-take n latest s.colour None lt in rw at (λ x. x, λ x. x)
  | inr ge ↦
      let past : get_or (take n latest) s.colour None ≡ None = get_or_past (take n latest) s.colour None (let l = length-take n latest in omega arith) in
      (λ a. absurd (subst (λ (o : Option ℤ). NotLater o s.entry) past a), λ a. absurd (none_left latest s (none s.colour ge) a))
]

pub take_length : (n : ℕ) (latest : List (Option ℤ)) → length latest ≡ 16 → n ≤ 16 → length (take n latest) ≡ n
take_length n latest a b = let l = length-take n latest in omega arith

pub same_colours : (n k : ℕ) (latest now : List (Option ℤ)) → length latest ≡ 16 → n ≤ 16 → take n latest ≡ now → length now ≡ k → n ≡ k
same_colours n k latest now a b view len = sym (take_length n latest a b) ∙ (ap length view ∙ len)

-- what a row leaves, seen through the first colours of the tables
pub row_clause : (m : Rules) (n : ℕ) (latest new now : List (Option ℤ)) (t : ℤ) (l : ℕ) → IsTable n latest → IsTable n new → take n latest ≡ now → ((s : State) → Admits new s ↔ ((s.entry ≤ℤ t) × BeforeRow m latest t l s)) → (s : State) → Admits (take n new) s ↔ ((s.entry ≤ℤ t) × BeforeRow m now t l s)
row_clause m n latest new now t l old table view h s =
    let a = take_admits n new s table.1 in
    let b = h s in
    rw (← view) (
      λ x. let (le, (u, st, y)) = b.0 (a.0 x) in (le, (u, st, (take_admits n latest u old.1).1 y)),
      λ (le, (u, st, y)). a.1 (b.1 (le, (u, st, (take_admits n latest u old.1).0 y))),
    )

none_lowered : (limit : ℤ) (x y : Option ℤ) → ((e : ℤ) → NotLater y e ↔ (NotLater x e × (e ≤ℤ limit))) → x ≡ None → y ≡ None
none_lowered limit x None h q = refl
none_lowered limit x (Some y) h q = absurd (subst (λ (o : Option ℤ). NotLater o y) q ((h y).0 (omega (arith, ints))).0)

-- a lowered table has no more latest entries than the old one
pub lower_table : (limit : ℤ) (n : ℕ) (old new : List (Option ℤ)) → IsLower limit old new 16 → IsTable n old → IsTable n new
lower_table limit n old new w (few, none) = (
  few,
  λ c ge. elim (cases_lt c 16) [
    | inl lt ↦ none_lowered limit (entry_of old c) (entry_of new c) (w.1 c lt) (none c ge)
    | inr out ↦ get_or_past new c None (let l = w.0 in omega arith)
  ],
)

-- latest entries that admit the same states are the same
entry_same : (x y : Option ℤ) → ((e : ℤ) → NotLater x e ↔ NotLater y e) → x ≡ y
entry_same None None h = refl
entry_same None (Some y) h = absurd ((h y).1 (omega (arith, ints)))
entry_same (Some x) None h = absurd ((h x).0 (omega (arith, ints)))
entry_same (Some x) (Some y) h = let a = (h x).0 (omega (arith, ints)) in let b = (h y).1 (omega (arith, ints)) in let e : x ≡ y = omega (arith, ints) in ap Some e

entries_same : (a b : List (Option ℤ)) → length a ≡ length b → ((c : ℕ) → c < length a → entry_of a c ≡ entry_of b c) → a ≡ b
entries_same [] [] l h = refl
entries_same [] (y ∷ ys) l h = absurd (omega arith)
entries_same (x ∷ xs) [] l h = absurd (omega arith)
entries_same (x ∷ xs) (y ∷ ys) l h = let head : x ≡ y = h 0 (omega arith) in let tail : xs ≡ ys = entries_same xs ys (omega arith) (λ k lt. h (suc k) (omega arith)) in cc

pub same_admits : (a b : List (Option ℤ)) → (a ≡ b) ↔ ((length a ≡ length b) × ((s : State) → Admits a s ↔ Admits b s))
same_admits a b = (
  λ e. (ap length e, λ s. rw e (λ x. x, λ x. x)),
  λ (l, h). entries_same a b l (λ c lt. entry_same (entry_of a c) (entry_of b c) (λ e. h (state c e))),
)

-- tables that are lowered to others
none_met : (limit x y : Option ℤ) → ((e : ℤ) → NotLater y e ↔ (NotLater x e × NotLater limit e)) → x ≡ None → y ≡ None
none_met limit x None h q = refl
none_met limit x (Some y) h q = absurd (subst (λ (o : Option ℤ). NotLater o y) q ((h y).0 (omega (arith, ints))).0)

pub meet_table : (n : ℕ) (old limits new : List (Option ℤ)) → IsMeet old limits new 16 → IsTable n old → IsTable n new
meet_table n old limits new w (few, none) = (
  few,
  λ c ge. elim (cases_lt c 16) [
    | inl lt ↦ none_met (entry_of limits c) (entry_of old c) (entry_of new c) (w.1 c lt) (none c ge)
    | inr out ↦ get_or_past new c None (let l = w.0 in omega arith)
  ],
)

pub meet_states : (n : ℕ) (old limits new now : List (Option ℤ)) → IsMeet old limits new 16 → IsTable n old → take n old ≡ now → (s : State) → Admits (take n new) s ↔ (Admits now s × Admits limits s)
meet_states n old limits new now w table view s =
    let made = meet_table n old limits new w table in
    let a = take_admits n new s made.1 in
    let b = take_admits n old s table.1 in
    elim (cases_lt s.colour 16) [
      | inl lt ↦
          let h = w.1 s.colour lt s.entry in
          rw (← view) ((λ x. let (p, q) = h.0 (a.0 x) in (b.1 p, q)), λ (p, q). a.1 (h.1 (b.0 p, q)))
      | inr ge ↦
          let few = table.0 in
          rw (← view) (
            (λ x. absurd (none_left new s (made.1 s.colour (omega arith)) (a.0 x))),
            λ (p, q). absurd (none_left old s (table.1 s.colour (omega arith)) (b.0 p)),
          )
    ]
