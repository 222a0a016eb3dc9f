-- Entries and exits of a preempt, and what is under way of it.
use Rattle.std.specs.Prelude.{ℕ, ◌≡◌, ◌↔◌, ◌+◌, ◌||◌, Bool, true, false, List, Option, Some, None}
use Rattle.sig_base.specs.declared.values.Row.{Row}
use Rattle.other_measures.specs.declared.preempts.PreemptPart.{PreemptPart}
use Rattle.delay_laws.specs.Standing.{HasRun, IsLastRow, NoneStands, Stands, says}

-- row x turns the call input (102) of preempt p on and stands at tenth t: since then the input wasn't turned on again and no entry (105) came
abbrev pub IsCall : (ℕ → Bool) → ℕ → List Row → ℕ → Row → Type 0
IsCall known t before p x = (since : List Row) × Stands (says p 102) (λ z. says p 102 z || says p 105 z) known t before x since

-- the call of preempt p that stands at tenth t, or None where none does
abbrev pub IsWaiting : (ℕ → Bool) → ℕ → List Row → ℕ → Option Row → Type 0
IsWaiting known t before p None = (x : Row) → IsCall known t before p x → ⊥
IsWaiting known t before p (Some x) = IsCall known t before p x

-- the row is an entry (105) or an exit (111) of preempt p
abbrev pub is_service : ℕ → Row → Bool
is_service p x = says p 105 x || says p 111 x

-- row r is an entry of preempt p, n tenths after the call that stands, or while none stands; or an exit, where the dwell has run since the first begin of dwell (107) after the last entry or exit, or while none of these stands
pub record IsEvent (known : ℕ → Bool) (p : ℕ) (before : List Row) (r : Row) (preempt : ℕ) (is_entry : Bool) (delay : Option ℕ) (is_late_entry : Bool) (dwell : Option ℕ) (is_late_exit : Bool) : Type 0 where
  pub number : preempt ≡ p
  pub entry : (is_entry ≡ true) ↔ (says p 105 r ≡ true)
  pub exit : (is_entry ≡ false) ↔ (says p 111 r ≡ true)
  pub delayed : (n : ℕ) → (delay ≡ Some n) ↔ ((says p 105 r ≡ true) × ((x : Row) × IsCall known r.at before p x × (x.at + n ≡ r.at)))
  pub late_entry : (is_late_entry ≡ true) ↔ ((says p 105 r ≡ true) × IsWaiting known r.at before p None)
  pub dwelt : (n : ℕ) → (dwell ≡ Some n) ↔ ((says p 111 r ≡ true) × HasRun (is_service p) (says p 107) known r.at before n)
  pub late_exit : (is_late_exit ≡ true) ↔ ((says p 111 r ≡ true) × NoneStands (is_service p) known r.at before)

-- of preempt p at tenth t: the call that stands, and the last entry or exit, where it stands, with the first begin of dwell since
pub record IsPreempt (known : ℕ → Bool) (t : ℕ) (before : List Row) (p : ℕ) (part : PreemptPart) : Type 0 where
  pub number : part.number ≡ p
  pub call : IsWaiting known t before p part.call
  pub service : IsLastRow (is_service p) (says p 107) known t before part.service
