-- States that keep a line's rule, and the least number of lost rows.
use Rattle.std.proofs.Common.{suc, zero, ◌≡◌, refl, sym, ◌∙◌, subst, ◌⊎◌, inl, inr, ◌↔◌, ℕ, ◌+◌, ◌-◌, ◌<◌, ◌≤◌, ℤ, pos, Bool, true, false, IsTrue, List, length, Option, arith}
use Rattle.std.proofs.lemmas.Int.{ints}
use Rattle.std.proofs.lemmas.Bool.{cases_eq}
use Rattle.span_set.specs.declared.set.Span.{Span}
use Rattle.colour_machine.specs.Mask.{Has}
use Rattle.reach.specs.Runs.{State}
use Rattle.reach.specs.Past.{Holds}
use Rattle.reach.specs.Ahead.{Admits}
use Rattle.reach.specs.Tests.{Meets, Sees}
use Rattle.reach.specs.declared.seen.AgeBound.TheVariants.{Any}
use Rattle.reach.specs.declared.seen.Seen.{Seen}
use Rattle.reach.specs.declared.seen.Test.{Test}
use Rattle.channel_path.specs.Walks.{EnteredBefore}
use Rattle.lost_rows.specs.declared.asked.Asked.{Asked}
use Rattle.lost_rows.specs.declared.aheads.LostAheads.{LostAheads}
use Rattle.lost_rows.specs.declared.line.Lost.{Lost}
use Rattle.lost_rows.specs.declared.line.Lost.TheVariants.{Needs, Sturdy}
use Rattle.lost_rows.specs.declared.pasts.LostPasts.{LostPasts}
use Rattle.lost_rows.specs.Credits.{latest_with, sets_with, AdmitsLost, AllAheads, AllOf, HoldsLost}
use Rattle.lost_rows.specs.Decisions.{IsLost, MeetsAt}
use Rattle.lost_rows.specs.Stills.{Spares}

-- what is seen of the possible states, where all that are held are entered by the tenth
pub seen_some : (sets : List (List Span)) (latest : List (Option ℤ)) (at : ℕ) (test : Test) (seen : Seen) → EnteredBefore sets (at + 1) → test.at ≡ pos at → Sees sets latest test seen → IsTrue seen.some_true ↔ ((v : State) × Holds sets v × Meets test v × Admits latest v)
seen_some sets latest at test seen early same sees = (
  λ x. let (v, (h, le, ad), k) = sees.some_true.0 x in (v, h, k, ad),
  λ (v, h, k, ad). let e = early v h in sees.some_true.1 (v, (h, omega (arith, ints), ad), k),
)

pub seen_other : (sets : List (List Span)) (latest : List (Option ℤ)) (at : ℕ) (test : Test) (seen : Seen) → EnteredBefore sets (at + 1) → test.at ≡ pos at → Sees sets latest test seen → IsTrue seen.some_false ↔ ((v : State) × Holds sets v × (Meets test v → ⊥) × Admits latest v)
seen_other sets latest at test seen early same sees = (
  λ x. let (v, (h, le, ad), k) = sees.some_false.0 x in (v, h, k, ad),
  λ (v, h, k, ad). let e = early v h in sees.some_false.1 (v, (h, omega (arith, ints), ad), k),
)

-- an interval's rule is kept by other colours, and by its own at a good age
pub interval_kept : (r : Asked) (t : ℤ) (mask : ℕ) (sets : List (List Span)) (latest : List (Option ℤ)) (other own res : Bool) → ((c : ℕ) → Has mask c ↔ (c ≡ r.colour)) → (IsTrue other ↔ ((v : State) × Holds sets v × (MeetsAt mask Any t v → ⊥) × Admits latest v)) → (IsTrue own ↔ ((v : State) × Holds sets v × MeetsAt mask r.bound t v × Admits latest v)) → (IsTrue res ↔ (IsTrue other ⊎ IsTrue own)) → IsTrue res ↔ ((v : State) × Holds sets v × Spares r t v × Admits latest v)
interval_kept r t mask sets latest other own res only a b either = (
  λ x. elim (either.0 x) [
    | inl y ↦ let (v, h, fails, ad) = a.0 y in (v, h, (λ q. absurd (fails ((only v.colour).1 q, tt))), ad)
    | inr y ↦ let (v, h, (has, bd), ad) = b.0 y in (v, h, (λ q. bd), ad)
  ],
  λ (v, h, sp, ad). either.1 (elim (cases_eq v.colour r.colour) [
    | inl q ↦ inr (b.1 (v, h, ((only v.colour).1 q, sp q), ad))
    | inr ne ↦ inl (a.1 (v, h, (λ (has, x). ne ((only v.colour).0 has)), ad))
  ]),
)

pub term_kept : (t : ℤ) (mask : ℕ) (sets : List (List Span)) (latest : List (Option ℤ)) (res : Bool) → (IsTrue res ↔ ((v : State) × Holds sets v × MeetsAt mask Any t v × Admits latest v)) → IsTrue res ↔ ((v : State) × Holds sets v × Has mask v.colour × Admits latest v)
term_kept t mask sets latest res a = (
  λ x. let (v, h, (has, bd), ad) = a.0 x in (v, h, has, ad),
  λ (v, h, has, ad). a.1 (v, h, (has, tt), ad),
)

-- credits by a number
pub sets_at : (p : LostPasts) (i n : ℕ) → i ≡ n → sets_with p n ≡ sets_with p i
sets_at p i n e = subst (λ (k : ℕ). sets_with p k ≡ sets_with p i) e refl

pub latest_at : (p : LostAheads) (i n : ℕ) → i ≡ n → latest_with p n ≡ latest_with p i
latest_at p i n e = subst (λ (k : ℕ). latest_with p k ≡ latest_with p i) e refl

pub sets_count : (c : ℕ) (p : LostPasts) (i : ℕ) → AllOf c p → i ≤ 3 → length (sets_with p i) ≡ c
sets_count c p zero all le = all.0
sets_count c p (suc zero) all le = all.1
sets_count c p (suc (suc zero)) all le = all.2
sets_count c p (suc (suc (suc zero))) all le = all.3
sets_count c p (suc (suc (suc (suc i)))) all le = absurd (omega arith)

pub latest_count : (c : ℕ) (p : LostAheads) (i : ℕ) → AllAheads c p → i ≤ 3 → length (latest_with p i) ≡ c
latest_count c p zero all le = all.0
latest_count c p (suc zero) all le = all.1
latest_count c p (suc (suc zero)) all le = all.2
latest_count c p (suc (suc (suc zero))) all le = all.3
latest_count c p (suc (suc (suc (suc i)))) all le = absurd (omega arith)

pub same_count : (p : LostPasts) (a : LostAheads) (i k : ℕ) → ((n : ℕ) × AllOf n p × AllAheads n a) → i ≤ 3 → k ≤ 3 → length (sets_with p i) ≡ length (latest_with a k)
same_count p a i k (n, has, have) le few = sets_count n p i has le ∙ sym (latest_count n a k have few)

-- a test that fails says that there is no such state
pub not_there : (res : Bool) (A : Type 0) → (IsTrue res ↔ A) → res ≡ false → A → ⊥
not_there res A is none x =
    let yes : res ≡ true = is.1 x in
    let bad : true ≡ false = sym yes ∙ none in cc

-- one number more of rows before the place is tried
pub pass_more : (K : State → Type 0) (pasts : LostPasts) (aheads : LostAheads) (lost b : ℕ) (sets : List (List Span)) (latest : List (Option ℤ)) (res : Bool) → b ≤ lost → sets ≡ sets_with pasts b → latest ≡ latest_with aheads (lost - b) → (IsTrue res ↔ ((v : State) × Holds sets v × K v × Admits latest v)) → res ≡ false → ((i k : ℕ) → i + k ≡ lost → i < b → ((v : State) × HoldsLost pasts i v × K v × AdmitsLost aheads k v) → ⊥) → (i k : ℕ) → i + k ≡ lost → i < b + 1 → ((v : State) × HoldsLost pasts i v × K v × AdmitsLost aheads k v) → ⊥
pass_more K pasts aheads lost b sets latest res le same_sets same_latest is none was i k e lt (v, h, keeps, ad) = elim (cases_eq i b) [
  | inl q ↦
      let rest : k ≡ lost - b = omega arith in
      let held : HoldsLost pasts b v = subst (λ (n : ℕ). HoldsLost pasts n v) q h in
      let admitted : AdmitsLost aheads (lost - b) v = subst (λ (n : ℕ). AdmitsLost aheads n v) rest ad in
      not_there res ((w : State) × Holds sets w × K w × Admits latest w) is none (v, subst (λ (x : List (List Span)). Holds x v) (sym same_sets) held, keeps, subst (λ (x : List (Option ℤ)). Admits x v) (sym same_latest) admitted)
  | inr ne ↦ was i k e (omega arith) (v, h, keeps, ad)
]

-- what is the same up to three rows has the same answer
pub lost_same : (P Q : ℕ → Type 0) (x : Lost) → ((n : ℕ) → n ≤ 3 → P n ↔ Q n) → IsLost P x → IsLost Q x
lost_same P Q (Needs n) same (few, (p, least)) = (few, ((same n few).0 p, λ k lt q. least k lt ((same k (omega arith)).1 q)))
lost_same P Q Sturdy same none = λ k few q. none k few ((same k few).1 q)
