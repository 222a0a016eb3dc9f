-- Rows that stand at a tenth: none of their kind has come since, and each tenth since is known.
use Rattle.std.specs.Prelude.{ℕ, ◌≡◌, ◌+◌, ◌<◌, ◌≤◌, ◌==◌, ◌&&◌, Bool, true, false, List, ◌∷◌, ◌++◌, Option, Some, None, All}
use Rattle.sig_base.specs.declared.values.Row.{Row}
use Rattle.service_cut.specs.Whole.{IsFirst}
use Rattle.other_measures.specs.declared.last_rows.LastRow.{LastRow}

-- the row has this code, and the number p as its parameter
abbrev pub says : ℕ → ℕ → Row → Bool
says p code x = (x.param == p) && (x.code == code)

-- each tenth from a on and before t is known
abbrev pub AreKnown : (ℕ → Bool) → ℕ → ℕ → Type 0
AreKnown known a t = (tenth : ℕ) → a ≤ tenth → tenth < t → known tenth ≡ true

-- of the rows before tenth t row x passes the first test and none since it the second, and each tenth since it is known
pub record Stands (test over : Row → Bool) (known : ℕ → Bool) (t : ℕ) (before : List Row) (x : Row) (since : List Row) : Type 0 where
  pub to_x : List Row
  pub joined : before ≡ to_x ++ x ∷ since
  pub passes : test x ≡ true
  pub none : All (λ z. over z ≡ false) since
  pub all_known : AreKnown known x.at t

-- there is no row that passes the test and since which each tenth is known
abbrev pub NoneStands : (Row → Bool) → (ℕ → Bool) → ℕ → List Row → Type 0
NoneStands test known t before = All (λ z. test z ≡ true → AreKnown known z.at t → ⊥) before

-- the first of the rows that passes the test, or None where none does
abbrev pub IsStart : (Row → Bool) → List Row → Option Row → Type 0
IsStart test rows None = All (λ z. test z ≡ false) rows
IsStart test rows (Some y) = (to_y : List Row) × (from_y : List Row) × IsFirst test rows y to_y from_y

-- the last row that passes the first test, where it stands at tenth t, with the first row since that starts something, or None where none stands
abbrev pub IsLastRow : (Row → Bool) → (Row → Bool) → (ℕ → Bool) → ℕ → List Row → Option LastRow → Type 0
IsLastRow test starts known t before None = NoneStands test known t before
IsLastRow test starts known t before (Some l) = (since : List Row) × Stands test test known t before l.row since × IsStart starts since l.first

-- it has run n tenths at tenth t: since row y, the first that starts it after row x, the last that passes the first test, which stands
pub record HasRun (test starts : Row → Bool) (known : ℕ → Bool) (t : ℕ) (before : List Row) (n : ℕ) : Type 0 where
  pub x : Row
  pub since : List Row
  pub y : Row
  pub last : Stands test test known t before x since
  pub first : IsStart starts since (Some y)
  pub tenths : y.at + n ≡ t

-- no row has started it since row x, the last that passes the first test, which stands
pub record HasNotBegun (test starts : Row → Bool) (known : ℕ → Bool) (t : ℕ) (before : List Row) : Type 0 where
  pub x : Row
  pub since : List Row
  pub last : Stands test test known t before x since
  pub first : IsStart starts since None
