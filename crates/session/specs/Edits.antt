-- Edits of a store, and what each makes of it.
use Rattle.std.specs.Prelude.{◌*◌, ℕ, ℤ, pos, int_lt, nat_lt, nat_le, Bool, true, false, ◌&&◌, ◌||◌, not, if◌then◌else◌, is_some, length, Some, None, Result, Ok, Err}
use Rattle.sig_base.specs.HourRows.{Shown}
use Rattle.sig_base.specs.declared.values.EditError.{EditError}
use Rattle.sig_base.specs.declared.values.EditError.TheVariants.{OutOfWindow, AlreadyHeld, NotHeld, EmptyRange, TooManyRows, TooManyBlanks}
use Rattle.hour_store.specs.Store.{Store, held_at, rows_held, with_hour, with_blanks}
use Rattle.span_set.specs.Spans.{is_member}
use Rattle.session.specs.Ranges.{is_between, ranges_from}
use Rattle.session.specs.declared.edit.Edit.{Edit}
use Rattle.session.specs.declared.edit.Edit.TheVariants as code
use Rattle.session.specs.declared.blanks.RangeEdit.{RangeEdit}
use Rattle.session.specs.declared.blanks.RangeEdit.TheVariants as range

-- an edit of what is held and known; the tenth `to` of a range is left out
pub data Change : Type 0 where
  load : Shown → Change
  replace : Shown → Change
  withdraw : ℕ → Change
  blank : ℤ → ℤ → Change
  unblank : ℤ → ℤ → Change

-- the store after an edit, unless it holds more than 20,000,000 rows
abbrev pub unless_many_rows : Store → Result Store EditError
unless_many_rows s = if nat_lt 20000000 (rows_held s) then Err TooManyRows else Ok s

-- the store after an edit, unless it has more than 10,000 blanked ranges
abbrev pub unless_many_blanks : Store → Result Store EditError
unless_many_blanks s = if nat_lt 10000 (length s.blanks) then Err TooManyBlanks else Ok s

-- what is made of an hour, unless the window hasn't the hour
abbrev pub of_hour : Store → ℕ → Result Store EditError → Result Store EditError
of_hour s hour made = if nat_le (length s.hours) hour then Err OutOfWindow else made

-- the store in which the tenths that pass the test are blanked, by an edit of a range; unless that begins before the window or ends past it, has no tenth, or more than 10,000 blanked ranges come of it
abbrev pub of_range : Store → ℤ → ℤ → (ℕ → Bool) → Result Store EditError
of_range s from to blanked =
    if int_lt from (pos 0) || int_lt (pos (36000 * length s.hours)) to then Err OutOfWindow
    else (if int_lt from to then unless_many_blanks (with_blanks s (ranges_from blanked 0 (36000 * length s.hours))) else Err EmptyRange)

-- the store after an edit, or the first refusal of it
unfoldable pub step_of : Store → Change → Result Store EditError
step_of s (load r) = of_hour s r.hour (if is_some (held_at s r.hour) then Err AlreadyHeld else unless_many_rows (with_hour s r.hour (Some r)))
step_of s (replace r) = of_hour s r.hour (if is_some (held_at s r.hour) then unless_many_rows (with_hour s r.hour (Some r)) else Err NotHeld)
step_of s (withdraw hour) = of_hour s hour (if is_some (held_at s hour) then Ok (with_hour s hour None) else Err NotHeld)
step_of s (blank from to) = of_range s from to (λ t. is_member s.blanks (pos t) || is_between from to t)
step_of s (unblank from to) = of_range s from to (λ t. is_member s.blanks (pos t) && not (is_between from to t))

-- ---- For contracts alone

-- what the code's edit is
abbrev pub change_of : {L : Type 0} → Edit L → Change
change_of (code.Load rows) = load rows
change_of (code.Replace rows) = replace rows
change_of (code.Withdraw hour) = withdraw hour
change_of (code.Blank from to) = blank from to
change_of (code.Unblank from to) = unblank from to

-- a replacement or a load of an hour's rows
abbrev pub hour_change : Bool → Shown → Change
hour_change true = replace
hour_change false = load

-- a replacement wants that the hour is held, a load that it isn't
abbrev pub held_error : Bool → EditError
held_error true = NotHeld
held_error false = AlreadyHeld

-- the edit of a range
abbrev pub range_change : RangeEdit → ℤ → ℤ → Change
range_change range.Blank from to = blank from to
range_change range.Unblank from to = unblank from to

-- whether the tenths from `from` up to `to` begin before a window of so many hours, or end past it
abbrev pub reaches_out : ℕ → ℤ → ℤ → Bool
reaches_out hours from to = int_lt from (pos 0) || int_lt (pos (36000 * hours)) to
