-- How long pedestrians waited, and what is under way of a pedestrian signal.
use Rattle.std.specs.Prelude.{ℕ, ◌≡◌, ◌↔◌, Bool, true, List, Option, Some}
use Rattle.sig_base.specs.declared.values.Row.{Row}
use Rattle.other_measures.specs.declared.peds.PedPart.{PedPart}
use Rattle.delay_laws.specs.Standing.{HasNotBegun, HasRun, IsLastRow, NoneStands, says}

-- row r begins a walk (21) of pedestrian signal p, and the wait for it has run since the first call (45) after the last begin of walk; or no call has come since that one; or no begin of walk stands
pub record IsDelay (known : ℕ → Bool) (p : ℕ) (before : List Row) (r : Row) (ped : ℕ) (wait : Option ℕ) (is_uncalled is_partial : Bool) : Type 0 where
  pub number : ped ≡ p
  pub walk : says p 21 r ≡ true
  pub ran : (n : ℕ) → (wait ≡ Some n) ↔ HasRun (says p 21) (says p 45) known r.at before n
  pub uncalled : (is_uncalled ≡ true) ↔ HasNotBegun (says p 21) (says p 45) known r.at before
  pub partial : (is_partial ≡ true) ↔ NoneStands (says p 21) known r.at before

-- of pedestrian signal p at tenth t: the last begin of walk, where it stands, with the first call since
pub record IsPed (known : ℕ → Bool) (t : ℕ) (before : List Row) (p : ℕ) (part : PedPart) : Type 0 where
  pub number : part.number ≡ p
  pub walk : IsLastRow (says p 21) (says p 45) known t before part.walk
