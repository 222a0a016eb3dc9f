-- Verdicts over the histories of an hour and over those of the whole window are the same.
use Rattle.std.proofs.Common.{◌≡◌, ◌∙◌, inl, inr, ℕ, ◌<◌, ℤ, pos, ◌+ℤ◌, ◌≤ℤ◌, true, false, if◌then◌else◌, nat_lt, List, [], ◌∷◌, refl, sym, subst, arith}
use Rattle.std.proofs.lemmas.Int.{ints}
use Rattle.std.proofs.lemmas.Bool.{cases_lt}
use Rattle.std.proofs.lemmas.Bool.Decides.{nat_tests}
use Rattle.colour_machine.specs.Rules.{Rules}
use Rattle.colour_machine.specs.Mask.{Has}
use Rattle.reach.specs.Runs.{State}
use Rattle.reach.specs.Tests.{InBound}
use Rattle.reach.specs.declared.seen.AgeBound.{AgeBound}
use Rattle.reach.specs.declared.seen.AgeBound.TheVariants.{Any, AtLeast, AtMost}
use Rattle.sig_base.specs.declared.values.Row.{Row}
use Rattle.sig_base.specs.declared.values.Verdict.{Verdict}
use Rattle.sig_base.specs.declared.values.Verdict.TheVariants.{Idle, Kept, Broken, Undecided}
use Rattle.channel_tables.specs.declared.spec.Spec.{Spec}
use Rattle.board.specs.declared.clause.Term.{Term}
use Rattle.board.specs.Verdicts.{IsVerdict, Keeps}
use Rattle.ring_config.specs.declared.items.IntervalItem.{IntervalItem}
use Rattle.ring_config.specs.Sound.{IsBound}
use Rattle.signal_log.specs.States.{AreAlike}
use Rattle.signal_log.specs.Views.{AreSameOrAlike}
use Rattle.rule_audit.specs.Judged.{Closes, IsIntervalVerdict, KeepsInterval}

-- what is said of a state is said of each that is alike
abbrev pub Respects : Rules → ℤ → (State → Type 0) → Type 0
Respects m p K = (v w : State) → AreAlike m p v w → K v → K w

alike_back : (m : Rules) (p : ℤ) (v w : State) → AreAlike m p v w → AreAlike m p w v
alike_back m p v w (few, same, k) = (
  subst (λ (c : ℕ). c < m.colours) (sym same) few,
  sym same,
  elim k [ inl e ↦ inl (sym e) | inr (a, b) ↦ inr (b, a) ],
)

pub closes_alike : (m : Rules) (p : ℤ) (s : Spec) (r : Row) (item : IntervalItem) → Respects m p (Closes s r item)
closes_alike m p s r item v w (few, same, k) (e, leaves) = (same ∙ e, leaves)

-- an age of more than an hour meets a bound or not, whatever it is
bound_alike : (b : AgeBound) (p t e f : ℤ) → IsBound b → p ≤ℤ t → (e +ℤ pos 36001) ≤ℤ p → (f +ℤ pos 36001) ≤ℤ p → InBound b t e → InBound b t f
bound_alike Any p t e f is le old1 old2 h = absurd is
bound_alike (AtLeast n) p t e f is le old1 old2 h = let most = is.1 in omega (arith, ints)
bound_alike (AtMost n) p t e f is le old1 old2 h = let most = is.1 in absurd (omega (arith, ints))

pub keeps_alike : (m : Rules) (p : ℤ) (s : Spec) (r : Row) (item : IntervalItem) → IsBound item.bound → p ≤ℤ pos r.at → Respects m p (KeepsInterval s r item)
keeps_alike m p s r item is le v w alike keeps closes =
    let back = alike_back m p v w alike in
    let in_bound = keeps ((closes_alike m p s r item) w v back closes) in
    elim alike.2 [
      | inl e ↦ subst (λ (x : State). InBound item.bound (pos r.at) x.entry) (sym e) in_bound
      | inr (old1, old2) ↦ bound_alike item.bound p (pos r.at) v.entry w.entry is le old1 old2 in_bound
    ]

-- a verdict on an interval is the same over states that are alike
pub interval_as : (m : Rules) (p : ℤ) (P Q C K : State → Type 0) → Respects m p C → Respects m p K → AreSameOrAlike m p P Q → (x : Verdict) → IsIntervalVerdict x P C K → IsIntervalVerdict x Q C K
interval_as m p P Q C K rc rk as_alike Idle h = λ w q c. let (v, pv, alike) = as_alike.back w q in h v pv (rc w v alike c)
interval_as m p P Q C K rc rk as_alike Kept ((v, pv, cv), all) =
    let (w, qw, alike) = as_alike.to v pv in
    ((w, qw, rc v w alike cv), λ y q. let (z, pz, near) = as_alike.back y q in rk z y (alike_back m p y z near) (all z pz))
interval_as m p P Q C K rc rk as_alike Broken ((v, pv, cv), none) =
    let (w, qw, alike) = as_alike.to v pv in
    ((w, qw, rc v w alike cv), λ y q k. let (z, pz, near) = as_alike.back y q in none z pz (rk y z near k))
interval_as m p P Q C K rc rk as_alike Undecided ((v, pv, kv), (u, pu, not_ku)) =
    let (w, qw, alike) = as_alike.to v pv in
    let (y, qy, near) = as_alike.to u pu in
    ((w, qw, rk v w alike kv), (y, qy, λ ky. not_ku (rk y u (alike_back m p u y near) ky)))

-- ---- clauses

keeps_same : (terms : List Term) (v w : ℕ → State) → ((i : ℕ) → (w i).colour ≡ (v i).colour) → Keeps terms v → Keeps terms w
keeps_same [] v w e h = h
keeps_same (c ∷ cs) v w e h = elim h [
  | inl has ↦ inl (subst (λ (x : ℕ). Has c.colours x) (sym (e c.spec)) has)
  | inr more ↦ inr (keeps_same cs v w e more)
]

-- the states of the first n channels, and those of another for the rest
patched : ℕ → (ℕ → State) → (ℕ → State) → ℕ → State
patched n w v i = if nat_lt i n then w i else v i

patched_first : (n : ℕ) (w v : ℕ → State) (i : ℕ) → i < n → patched n w v i ≡ w i
unfolding patched
patched_first n w v i lt = let t : nat_lt i n ≡ true = grind (arith, nat_tests) in rw t refl

patched_colour : (n : ℕ) (w v : ℕ → State) → ((i : ℕ) → i < n → (w i).colour ≡ (v i).colour) → (i : ℕ) → (patched n w v i).colour ≡ (v i).colour
unfolding patched
patched_colour n w v e i = elim (cases_lt i n) [
  | inl lt ↦ let t : nat_lt i n ≡ true = grind (arith, nat_tests) in rw t (e i lt)
  | inr ge ↦ let t : nat_lt i n ≡ false = grind (arith, nat_tests) in rw t refl
]

-- the words speak of the first n channels alone
abbrev pub Local : ℕ → ((ℕ → State) → Type 0) → Type 0
Local n P = (v w : ℕ → State) → ((i : ℕ) → i < n → w i ≡ v i) → P v → P w

-- each way leads to states of the same colours
abbrev pub Leads : ℕ → ((ℕ → State) → Type 0) → ((ℕ → State) → Type 0) → Type 0
Leads n P Q = (v : ℕ → State) → P v → (w : ℕ → State) × Q w × ((i : ℕ) → i < n → (w i).colour ≡ (v i).colour)

matched : (n : ℕ) (P Q : (ℕ → State) → Type 0) (terms : List Term) → Local n Q → Leads n P Q → (v : ℕ → State) → P v → (w : ℕ → State) × Q w × ((i : ℕ) → (w i).colour ≡ (v i).colour)
matched n P Q terms local leads v p =
    let (w, q, e) = leads v p in
    (patched n w v, local w (patched n w v) (λ i lt. patched_first n w v i lt) q, patched_colour n w v e)

pub clause_as : (n : ℕ) (P Q : (ℕ → State) → Type 0) (terms : List Term) → Local n P → Local n Q → Leads n P Q → Leads n Q P → (x : Verdict) → IsVerdict x P (Keeps terms) → IsVerdict x Q (Keeps terms)
clause_as n P Q terms lp lq to back Idle h = h
clause_as n P Q terms lp lq to back Kept all = λ w q. let (v, p, e) = matched n Q P terms lp back w q in keeps_same terms v w (λ i. sym (e i)) (all v p)
clause_as n P Q terms lp lq to back Broken none = λ w q k. let (v, p, e) = matched n Q P terms lp back w q in none v p (keeps_same terms w v e k)
clause_as n P Q terms lp lq to back Undecided ((v, p, k), (u, pu, not_k)) =
    let (w, q, e) = matched n P Q terms lq to v p in
    let (y, qy, ey) = matched n P Q terms lq to u pu in
    ((w, q, keeps_same terms v w e k), (y, qy, λ ky. not_k (keeps_same terms y u (λ i. sym (ey i)) ky)))
