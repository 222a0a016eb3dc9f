-- Verdicts on interval rules.
use Rattle.std.proofs.Common.{◌≡◌, ◌≢◌, sym, ◌∙◌, subst, ◌⊎◌, inl, inr, ◌↔◌, ℕ, ◌+◌, ◌-◌, ◌≤◌, ℤ, pos, ◌+ℤ◌, Bool, true, false, IsTrue, Some, None, arith}
use Rattle.std.proofs.lemmas.Bool.{cases_eq}
use Rattle.std.proofs.lemmas.Int.{ints}
use Rattle.span_set.proofs.Sets.{int_cases}
use Rattle.sig_base.specs.declared.values.Verdict.{Verdict}
use Rattle.colour_machine.specs.Mask.{Has}
use Rattle.sig_base.specs.declared.values.Row.{Row}
use Rattle.sig_base.proofs.Common.{some_same}
use Rattle.sig_base.specs.declared.values.Verdict.TheVariants as verdicts
use Rattle.channel_tables.specs.declared.spec.Spec.{Spec}
use Rattle.channel_tables.specs.Spec.{rules_of}
use Rattle.channel_tables.specs.Letters.{letter_in_table}
use Rattle.reach.specs.Runs.{State}
use Rattle.reach.specs.Tests.{InBound, Meets}
use Rattle.reach.specs.declared.seen.AgeBound.{AgeBound}
use Rattle.reach.specs.declared.seen.AgeBound.TheVariants.{Any, AtLeast, AtMost}
use Rattle.reach.specs.declared.seen.Seen.{Seen}
use Rattle.reach.specs.declared.seen.Test.{Test}
use Rattle.reach.proofs.Later.{then_iff}
use Rattle.ring_config.specs.declared.items.IntervalItem.{IntervalItem}
use Rattle.board.specs.Logs.{HourLog}
use Rattle.board.specs.Verdicts.{MayPassRow, SeesRow}
use Rattle.board.proofs.Verdicts.{clash}
use Rattle.rule_audit.specs.Judged.{Closes, IsIntervalVerdict, KeepsInterval, Leaves}
use Rattle.rule_audit.specs.Pass.{SeesColour}

-- the opposites of bounds
pub least_opposite : (n : ℕ) → 1 ≤ n → (t e : ℤ) → InBound (AtMost (n - 1)) t e ↔ (InBound (AtLeast n) t e → ⊥)
least_opposite n le t e = ((λ h k. omega (arith, ints)), λ h. elim (int_cases t (e +ℤ pos n)) [ inl q ↦ let lt = q.1 in omega (arith, ints) | inr q ↦ absurd (h q.1) ])

pub most_opposite : (n : ℕ) → (t e : ℤ) → InBound (AtLeast (n + 1)) t e ↔ (InBound (AtMost n) t e → ⊥)
most_opposite n t e = ((λ h k. omega (arith, ints)), λ h. elim (int_cases (e +ℤ pos n) t) [ inl q ↦ let lt = q.1 in omega (arith, ints) | inr q ↦ absurd (h q.1) ])

-- a bound is met or not
pub in_or_out : (b : AgeBound) (t e : ℤ) → InBound b t e ⊎ (InBound b t e → ⊥)
in_or_out Any t e = inl tt
in_or_out (AtLeast n) t e = elim (int_cases t (e +ℤ pos n)) [ inl h ↦ inr (λ k. let lt = h.1 in omega (arith, ints)) | inr h ↦ inl h.1 ]
in_or_out (AtMost n) t e = elim (int_cases (e +ℤ pos n) t) [ inl h ↦ inr (λ k. let lt = h.1 in omega (arith, ints)) | inr h ↦ inl h.1 ]

pub one_colour : (none one c : ℕ) → ((x : ℕ) → Has none x → ⊥) → ((x : ℕ) → Has one x ↔ (Has none x ⊎ (x ≡ c))) → (x : ℕ) → Has one x ↔ (x ≡ c)
one_colour none one c nope with x = ((λ h. elim ((with x).0 h) [ inl y ↦ absurd (nope x y) | inr e ↦ e ]), λ e. (with x).1 (inr e))

-- what is seen of a test of one colour
pub colour_sees : (log : HourLog) (n i c : ℕ) (test : Test) (seen : Seen) → ((x : ℕ) → Has test.colours x ↔ (x ≡ c)) → SeesRow log n i test seen → SeesColour (MayPassRow log n i) c test.bound test.at seen
colour_sees log n i c test seen has sees =
    let m : (v : State) → Meets test v ↔ ((v.colour ≡ c) × InBound test.bound test.at v.entry) = λ v. ((λ x. ((has v.colour).0 x.0, x.1)), λ x. ((has v.colour).1 x.0, x.1)) in
    record {
      some_true = then_iff sees.some_true ((λ (v, a, t). (v, a, (m v).0 t)), (λ (v, a, t). (v, a, (m v).1 t)));
      some_false = then_iff sees.some_false ((λ (v, a, t). (v, a, λ h. t ((m v).1 h))), (λ (v, a, t). (v, a, λ h. t ((m v).0 h))));
    }

module _ (P : State → Type 0) (c : ℕ) (b o : AgeBound) (t : ℤ) where
  abbrev InColour : State → Type 0
  InColour v = v.colour ≡ c

  abbrev KeepsColour : State → Type 0
  KeepsColour v = v.colour ≡ c → InBound b t v.entry

  pub idle_verdict : (any : Seen) → SeesColour P c Any t any → any.some_true ≡ false → IsIntervalVerdict verdicts.Idle P InColour KeepsColour
  idle_verdict any sees nope = λ v p e. clash any.some_true (sees.some_true.1 (v, p, (e, tt))) nope

  some_colour : (any : Seen) → SeesColour P c Any t any → any.some_true ≡ true → (v : State) × P v × InColour v
  some_colour any sees is = let (v, p, e) = sees.some_true.0 is in (v, p, e.0)

  pub kept_verdict : (any missed : Seen) → SeesColour P c Any t any → SeesColour P c o t missed → ((e : ℤ) → InBound o t e ↔ (InBound b t e → ⊥)) → any.some_true ≡ true → missed.some_true ≡ false → IsIntervalVerdict verdicts.Kept P InColour KeepsColour
  kept_verdict any missed sees sees2 other is nope = (
    some_colour any sees is,
    λ v p e. elim (in_or_out b t v.entry) [ inl h ↦ h | inr h ↦ absurd (clash missed.some_true (sees2.some_true.1 (v, p, (e, (other v.entry).1 h))) nope) ],
  )

  missed_one : (missed : Seen) → SeesColour P c o t missed → ((e : ℤ) → InBound o t e ↔ (InBound b t e → ⊥)) → missed.some_true ≡ true → (v : State) × P v × (KeepsColour v → ⊥)
  missed_one missed sees other is = let (v, p, e) = sees.some_true.0 is in (v, p, λ k. (other v.entry).0 e.1 (k e.0))

  pub other_colour_verdict : (any missed : Seen) → SeesColour P c Any t any → SeesColour P c o t missed → ((e : ℤ) → InBound o t e ↔ (InBound b t e → ⊥)) → missed.some_true ≡ true → any.some_false ≡ true → IsIntervalVerdict verdicts.Undecided P InColour KeepsColour
  other_colour_verdict any missed sees sees2 other is some = (
    (let (v, p, nope) = sees.some_false.0 some in (v, p, λ e. absurd (nope (e, tt)))),
    missed_one missed sees2 other is,
  )

  pub met_verdict : (missed met : Seen) → SeesColour P c o t missed → SeesColour P c b t met → ((e : ℤ) → InBound o t e ↔ (InBound b t e → ⊥)) → missed.some_true ≡ true → met.some_true ≡ true → IsIntervalVerdict verdicts.Undecided P InColour KeepsColour
  met_verdict missed met sees sees2 other is some = (
    (let (v, p, e) = sees2.some_true.0 some in (v, p, λ _. e.1)),
    missed_one missed sees other is,
  )

  pub broken_verdict : (any met : Seen) → SeesColour P c Any t any → SeesColour P c b t met → any.some_true ≡ true → any.some_false ≡ false → met.some_true ≡ false → IsIntervalVerdict verdicts.Broken P InColour KeepsColour
  broken_verdict any met sees sees2 is none nope = (
    some_colour any sees is,
    λ v p k. elim (cases_eq v.colour c) [
      | inl e ↦ clash met.some_true (sees2.some_true.1 (v, p, (e, k e))) nope
      | inr ne ↦ clash any.some_false (sees.some_false.1 (v, p, λ h. ne h.0)) none
    ],
  )

-- a row that leaves the rule's colour closes the interval in each state of that colour
pub verdict_closes : (P : State → Type 0) (s : Spec) (r : Row) (item : IntervalItem) (x : Verdict) → Leaves s r item.colour → IsIntervalVerdict x P (λ v. v.colour ≡ item.colour) (λ v. v.colour ≡ item.colour → InBound item.bound (pos r.at) v.entry) → IsIntervalVerdict x P (Closes s r item) (KeepsInterval s r item)
verdict_closes P s r item verdicts.Idle l h = λ v p k. h v p k.0
verdict_closes P s r item verdicts.Kept l ((v, p, e), all) = ((v, p, (e, l)), λ w q k. all w q k.0)
verdict_closes P s r item verdicts.Broken l ((v, p, e), all) = ((v, p, (e, l)), λ w q k. all w q (λ f. k (f, l)))
verdict_closes P s r item verdicts.Undecided l ((v, p, k), (w, q, nope)) = ((v, p, λ f. k f.0), (w, q, λ f. nope (λ g. f (g, l))))

pub verdict_stays : (P : State → Type 0) (s : Spec) (r : Row) (item : IntervalItem) → (Leaves s r item.colour → ⊥) → IsIntervalVerdict verdicts.Idle P (Closes s r item) (KeepsInterval s r item)
verdict_stays P s r item nope = λ v p k. nope k.1

-- the letter of the row
pub leaves_by : (s : Spec) (r : Row) (colour l : ℕ) (b : Bool) → Some l ≡ letter_in_table r.code r.param → (IsTrue b ↔ ((d : ℕ) × ((rules_of s).next colour l ≡ Some d) × (d ≢ colour))) → IsTrue b ↔ Leaves s r colour
leaves_by s r colour l b e h = (
  (λ t. (l, sym e, h.0 t)),
  λ (k, f, q). h.1 (let same : k ≡ l = some_same k l (sym f ∙ sym e) in subst (λ (m : ℕ). (d : ℕ) × ((rules_of s).next colour m ≡ Some d) × (d ≢ colour)) same q),
)

pub no_letter : (s : Spec) (r : Row) (colour : ℕ) → None ≡ letter_in_table r.code r.param → Leaves s r colour → ⊥
no_letter s r colour e (l, f, q) = let bad : None ≡ Some l = e ∙ f in absurd (cc)
