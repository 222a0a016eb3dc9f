-- Specs that may be followed together are few, since each has a cell of its own.
use Rattle.std.proofs.Common.{suc, zero, ◌≡◌, ◌≢◌, sym, ◌∙◌, inl, inr, ℕ, ◌+◌, ◌<◌, ◌≤◌, ◌==◌, cond, List, get_or, length, arith}
use Rattle.std.proofs.lemmas.Bool.{cases_eq}
use Rattle.std.proofs.lemmas.Bool.Decides.{eqb_tells}
use Rattle.event_codes.specs.declared.channels.Kind.{Kind}
use Rattle.event_codes.specs.declared.channels.Kind.TheVariants.{Phase, Ped, Overlap, Detector, PedDetector, PreemptInput, PreemptService, Coordination}
use Rattle.channel_tables.specs.declared.spec.Spec.{Spec}
use Rattle.channel_tables.specs.Letters.{IsNumber}
use Rattle.board.specs.Channels.{AreSpecs}
use Rattle.board.specs.Logs.{no_spec}
use Rattle.event_codes.specs.Cells.{cell_of}
use Rattle.event_codes.proofs.Numbered.{cell_once, few_kinds}

-- in place of n the last number
abbrev moved : ℕ → ℕ → ℕ → ℕ
moved n last x = cond (x == n) last x

abbrev AreBelow : (ℕ → ℕ) → ℕ → ℕ → Type 0
AreBelow f k n = (i : ℕ) → i < k → f i < n

abbrev Differ : (ℕ → ℕ) → ℕ → Type 0
Differ f k = (i j : ℕ) → i < k → j < k → f i ≡ f j → i ≡ j

moved_below : (f : ℕ → ℕ) (n k : ℕ) → AreBelow f (k + 1) (n + 1) → Differ f (k + 1) → AreBelow (λ i. moved n (f k) (f i)) k n
moved_below f n k low once i lt = elim (eqb_tells (f i) n) [
  | inl t ↦
      let last = low k (omega arith) in
      let other : f k ≢ n = λ e. let same : i ≡ k = once i k (omega arith) (omega arith) (t.1 ∙ sym e) in absurd (omega arith) in
      rw t.0 (omega arith)
  | inr t ↦ let here = low i (omega arith) in let other : f i ≢ n = t.1 in rw t.0 (omega arith)
]

moved_differ : (f : ℕ → ℕ) (n k : ℕ) → Differ f (k + 1) → Differ (λ i. moved n (f k) (f i)) k
moved_differ f n k once i j li lj e = elim (eqb_tells (f i) n) [
  | inl t ↦ elim (eqb_tells (f j) n) [
    | inl u ↦ once i j (omega arith) (omega arith) (t.1 ∙ sym u.1)
    | inr u ↦ let same : k ≡ j = once k j (omega arith) (omega arith) (rw (t.0, u.0) at e) in absurd (omega arith)
  ]
  | inr t ↦ elim (eqb_tells (f j) n) [
    | inl u ↦ let same : i ≡ k = once i k (omega arith) (omega arith) (rw (t.0, u.0) at e) in absurd (omega arith)
    | inr u ↦ once i j (omega arith) (omega arith) (rw (t.0, u.0) at e)
  ]
]

-- so many different numbers below n are at most n
at_most : (n k : ℕ) (f : ℕ → ℕ) → AreBelow f k n → Differ f k → k ≤ n
at_most zero zero f low once = omega arith
at_most zero (suc k) f low once = let bad = low 0 (omega arith) in absurd (omega arith)
at_most (suc n) zero f low once = omega arith
at_most (suc n) (suc k) f low once =
    let rest = at_most n k (λ i. moved n (f k) (f i)) (moved_below f n k (λ i lt. let x = low i (omega arith) in omega arith) (λ i j li lj e. once i j (omega arith) (omega arith) e)) (moved_differ f n k (λ i j li lj e. once i j (omega arith) (omega arith) e)) in
    omega arith

low_number : (kind : Kind) (n : ℕ) → IsNumber kind n → n ≤ 128
low_number Phase n h = omega arith
low_number Ped n h = omega arith
low_number Overlap n h = omega arith
low_number Detector n h = omega arith
low_number PedDetector n h = omega arith
low_number PreemptInput n h = omega arith
low_number PreemptService n h = omega arith
low_number Coordination n h = omega arith

pub few_specs : (specs : List Spec) → AreSpecs specs → length specs ≤ 2048
few_specs specs are = at_most 2048 (length specs) (λ i. cell_of (get_or specs i no_spec).channel)
    (λ i lt.
    let c = (get_or specs i no_spec).channel in
    let number = low_number c.kind c.number (are.numbered i no_spec lt) in
    let kind = few_kinds c.kind in
    omega arith)
    (λ i j li lj e. elim (cases_eq i j) [
      | inl same ↦ same
      | inr other ↦ absurd (are.distinct i j no_spec li lj other (cell_once (get_or specs i no_spec).channel (get_or specs j no_spec).channel e))
    ])
