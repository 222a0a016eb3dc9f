-- Ranges of tenths, one after another.
use Rattle.std.proofs.Common.{◌≡◌, sym, ◌∙◌, ◌↔◌, inl, inr, ℕ, ◌+◌, ◌<◌, ◌≤◌, Bool, true, false, IsTrue, arith}
use Rattle.std.specs.Prelude.{min}
use Rattle.std.proofs.lemmas.Bool.{cases_lt}
use Rattle.detector_state.specs.Ranges.{Counts}
use Rattle.detector_state.proofs.StateCounting.{counts_empty, counts_join, counts_most}
use Rattle.signal_log.specs.Log.{Log}
use Rattle.detector_state.specs.Tells.{IsColourReached, IsSure}
use Rattle.detector_state.specs.declared.tenths.OnTenths.{OnTenths}
use Rattle.detector_state.specs.Hours.{AreTenths}

pub none_yet : (log : Log) (i a : ℕ) → AreTenths log i a a (record { least = 0; greatest = 0; fault = false })
none_yet log i a = record {
  least = counts_empty (IsSure log i 1) a;
  greatest = counts_empty (IsColourReached log i 1) a;
  fault = ((λ t. let bad : false ≡ true = t in absurd (cc)), λ (x, l, u, p). absurd (omega arith));
}

abbrev pub Found : Log → ℕ → ℕ → ℕ → Type 0
Found log i a b = (x : ℕ) × (a ≤ x) × (x < b) × IsSure log i 2 x

module _ (log : Log) (i a from to : ℕ) (t : OnTenths) (fit : to < 4294967296) (le : from ≤ to) (before : AreTenths log i a from t) where
  -- the sum fits, since it counts tenths
  sum_fits : (P : ℕ → Type 0) (k j n : ℕ) → Counts P a from k → Counts P from to j → n ≡ min (k + j) 4294967295 → Counts P a to n
  sum_fits P k j n c d e =
      let all = counts_join P a from to k j c d in
      let most = counts_most P a to (k + j) all in
      let same : n ≡ k + j = omega arith in
      rw same all

  pub and_on : (l g n m : ℕ) (f : Bool) → Counts (IsSure log i 1) from to l → Counts (IsColourReached log i 1) from to g → n ≡ min (t.least + l) 4294967295 → m ≡ min (t.greatest + g) 4294967295 → (IsTrue f ↔ Found log i a to) → AreTenths log i a to (record { least = n; greatest = m; fault = f })
  and_on l g n m f c d en em both = record { least = sum_fits (IsSure log i 1) t.least l n before.least c en; greatest = sum_fits (IsColourReached log i 1) t.greatest g m before.greatest d em; fault = both }

  pub found_before : t.fault ≡ true → IsTrue t.fault ↔ Found log i a to
  found_before e = ((λ h. let (x, l, u, p) = before.fault.0 h in (x, l, omega arith, p)), λ _. e)

  pub found_here : (f : Bool) → a ≤ from → t.fault ≡ false → (IsTrue f ↔ Found log i from to) → IsTrue f ↔ Found log i a to
  found_here f low e both = (
    (λ h. let (x, l, u, p) = both.0 h in (x, omega arith, u, p)),
    λ (x, l, u, p). elim (cases_lt x from) [
      | inl lt ↦ (let is = before.fault.1 (x, l, lt, p) in let bad : true ≡ false = sym is ∙ e in absurd (cc))
      | inr ge ↦ both.1 (x, ge, u, p)
    ],
  )

  pub low_from : a ≤ from
  low_from = let most = counts_most (IsSure log i 1) a from t.least before.least in omega arith
