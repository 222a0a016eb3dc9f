-- An edit that brings rows of an hour, whether it replaces or loads it.
use Rattle.std.proofs.Common.{◌≡◌, ℕ, ◌<◌, ◌≤◌, Bool, true, false, length, Some, is_some, refl, Ok}
use Rattle.std.proofs.Math.Bool.{beq, not}
use Rattle.sig_base.specs.HourRows.{Shown}
use Rattle.hour_store.specs.Store.{Store, held_at, rows_held, with_hour}
use Rattle.session.specs.Edits.{hour_change, step_of}
use Rattle.session.specs.Moved.{Touches}
use Rattle.session.proofs.EditLaws.{load_step, replace_step}

-- what it makes of a store
pub hour_step : (replaces : Bool) (s : Store) (r : Shown) (h : ℕ) → h ≡ r.hour → h < length s.hours → is_some (held_at s h) ≡ replaces → rows_held (with_hour s h (Some r)) ≤ 20000000 → step_of s (hour_change replaces r) ≡ Ok (with_hour s h (Some r))
hour_step true s r h e lt held few = replace_step s r h e lt held few
hour_step false s r h e lt held few = load_step s r h e lt held few

-- the test of the code
pub held_alike : (held replaces : Bool) → not (beq held replaces) ≡ false → held ≡ replaces
held_alike true true same = refl
held_alike true false same = absurd (cc)
held_alike false true same = absurd (cc)
held_alike false false same = refl

-- both touch the hour alone
pub hour_touches : (replaces : Bool) (r : Shown) (h : ℕ) → h ≡ r.hour → Touches (hour_change replaces r) h h
hour_touches true r h e = (e, e)
hour_touches false r h e = (e, e)
