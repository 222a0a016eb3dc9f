-- An edit of a range, whether it blanks the tenths or unblanks them.
use Rattle.std.proofs.Common.{◌≡◌, ◌*◌, ℕ, ℤ, pos, ◌-ℤ◌, ◌≤◌, ◌<ℤ◌, ◌≤ℤ◌, false, List, length, IfErr, Result, Ok, Err}
use Rattle.sig_base.specs.declared.values.Applied.{Applied}
use Rattle.sig_base.specs.declared.values.EditError.{EditError}
use Rattle.span_set.specs.declared.set.Span.{Span}
use Rattle.span_set.specs.Spans.{AreRanges}
use Rattle.hour_store.specs.Store.{IsStore, LieWithin, Store, with_blanks}
use Rattle.ring_config.specs.Settings.{Settings}
use Rattle.ring_config.specs.Sound.{IsSound}
use Rattle.signal_log.specs.Log.{HasHistory, log_of}
use Rattle.session.specs.declared.blanks.RangeEdit.{RangeEdit}
use Rattle.session.specs.declared.blanks.RangeEdit.TheVariants as range
use Rattle.session.specs.Edits.{range_change, reaches_out, step_of, unless_many_blanks}
use Rattle.session.specs.Moved.{IsIn, Touches}
use Rattle.session.specs.Puts.{SameHour}
use Rattle.session.specs.Ranges.{IsEdited, LeavesHour, SameApart}
use Rattle.session.specs.Sessions.{MayRefuse, StopsAt}
use Rattle.session.proofs.EditLaws.{blank_step, unblank_step}
use Rattle.session.proofs.LessLaws.{never_blanked}
use Rattle.session.proofs.MaskLaws.{clear_same, with_same, without_same}
use Rattle.session.proofs.RangeLaws.{with_within, without_within}

pub range_step : (edit : RangeEdit) (s : Store) (hours : ℕ) (f t : ℤ) (ns : List Span) → hours ≡ length s.hours → hours ≤ 744 → LieWithin (length s.hours) s.blanks → reaches_out hours f t ≡ false → f <ℤ t → AreRanges ns → IsEdited edit s.blanks f t ns
    → step_of s (range_change edit f t) ≡ unless_many_blanks (with_blanks s ns)
range_step range.Blank s hours f t ns n few l out some an w = blank_step s hours f t ns n few l out some an w
range_step range.Unblank s hours f t ns n few l out some an w = unblank_step s hours f t ns n few l out some an w

pub range_within : (edit : RangeEdit) (hours : ℕ) (old ns : List Span) (f t : ℤ) → LieWithin hours old → pos 0 ≤ℤ f → t ≤ℤ pos (36000 * hours) → IsEdited edit old f t ns → LieWithin hours ns
range_within range.Blank hours old ns f t l low high w = with_within hours old ns f t l low high w
range_within range.Unblank hours old ns f t l low high w = without_within hours old ns f t l w

pub range_same : (edit : RangeEdit) (old new : List Span) (f t : ℤ) → IsEdited edit old f t new → SameApart old f t new
range_same range.Blank old new f t w = with_same old new f t w
range_same range.Unblank old new f t w = without_same old new f t w

-- an hour that it leaves as it was
pub range_left : (edit : RangeEdit) (s : Store) (new : List Span) (f t : ℤ) (k : ℕ) → IsEdited edit s.blanks f t new → LeavesHour edit s.blanks k → SameHour s (with_blanks s new) k
range_left range.Blank s new f t k w left = absurd left
range_left range.Unblank s new f t k w none = clear_same s new f t k w none

-- both touch the hours of the range
pub range_touches : (edit : RangeEdit) (f t : ℤ) (first last : ℕ) → IsIn f first → IsIn (t -ℤ pos 1) last → Touches (range_change edit f t) first last
range_touches range.Blank f t first last begin end = (begin, end)
range_touches range.Unblank f t first last begin end = (begin, end)

-- a blanking contradicts nothing
pub never_edited : (edit : RangeEdit) (c : Settings) (s : Store) (ns : List Span) (f t : ℤ) (result : Result Applied EditError) → IsSound c → IsStore s → IsStore (with_blanks s ns) → HasHistory (log_of c.specs s) → IsEdited edit s.blanks f t ns → IfErr result (StopsAt c (with_blanks s ns)) → IfErr result (MayRefuse (range_change edit f t))
never_edited range.Blank c s ns f t result sound is less has made stop = never_blanked c s ns f t result sound is less has made stop
never_edited range.Unblank c s ns f t (Ok x) sound is less has made stop = tt
never_edited range.Unblank c s ns f t (Err e) sound is less has made stop = tt
