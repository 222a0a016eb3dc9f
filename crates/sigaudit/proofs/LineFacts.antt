-- What single lines of a script tell.
use Rattle.std.proofs.Common.{◌≡◌, ◌<◌, ◌≤◌, ℕ, List, Bool, true, false, Option, Some, None, Result, Ok, Err, refl, subst, nat_lt, IfSome}
use Rattle.std.proofs.lemmas.Bool.{lt-ltb, le-ltb}
use Rattle.std.specs.Prelude.{slice_get}
use Rattle.outside.specs.Shelf.{Counts, Files}
use Rattle.outside.specs.Sink.{Stops, Taken, Writes}
use Rattle.outside.proofs.PutsFacts.{appends-nothing}
use Rattle.sig_base.specs.HourRows.{Shown}
use Rattle.sig_base.specs.declared.values.EditError.TheVariants.{OutOfWindow}
use Rattle.hour_store.specs.Store.{Store}
use Rattle.hour_work.specs.Numbers.{Numbers, total_of}
use Rattle.report_text.specs.Measures.{hour_measures, window_measures}
use Rattle.report_text.specs.declared.refusal.Refusal.{Refusal}
use Rattle.report_text.specs.declared.refusal.Refusal.TheVariants.{BadLine, Edit}
use Rattle.ring_config.specs.Settings.{Settings}
use Rattle.session.specs.Edits.{Change, hour_change}
use Rattle.session.specs.Edits as change
use Rattle.script_lines.specs.Words.{Said}
use Rattle.script_lines.specs.Words as line
use Rattle.sigaudit.specs.Turns.{Turn, passes, refuses, writes}
use Rattle.sigaudit.specs.Audit.{AreVerdicts, IsAudited}
use Rattle.sigaudit.specs.Points.{points_of_phase}
use Rattle.sigaudit.specs.Offsets.{offsets_of}
use Rattle.sigaudit.specs.Script.{edit_said, hour_bytes, hour_file, IsEdited, IsFetched, IsMeasured, IsMeasuredOf, IsTurn}
use Rattle.sigaudit.specs.Run.{World, world, Takes, TakesBy, TakesPut}
use Rattle.sigaudit.specs.declared.status.Stopped.{Stopped}
use Rattle.sigaudit.specs.declared.status.Stopped.TheVariants as stopped
use Rattle.sigaudit.proofs.PartFacts.{IsTold, hour_past, hour_told, hour_within, window_told}
use Rattle.sigaudit.proofs.TakeFacts.{by_refusal, takes_as, takes_of_by}

-- ---- files of hours

-- the told files of a fetch
pub told_file : (P : Files → Type 0) (o : Option Files) (files : Files) → o ≡ Some files → IfSome o P → P files
told_file P None files e h = absurd (cc)
told_file P (Some x) files e h = let same : x ≡ files = cc in subst P same h

-- an hour file that can't be read
pub fetch_refused : (c c' : Settings) (n hour : ℕ) (make : Shown → Change) (s : Store) (want : Result (List ℕ) Refusal) (refusal : Refusal) (w w' : Taken) (r : Result Bool Stopped)
    → c' ≡ c → want ≡ Err refusal → ((x : Store) → TakesPut (refuses c' n refusal x) w w' x r) → TakesBy (IsFetched c n hour make s want) w w' s r
fetch_refused c c' n hour make s want refusal w w' r ec e h =
    rw e (by_refusal (IsFetched c n hour make s (Err refusal)) c c' n refusal s w w' r ec refl h)

-- an hour that the window hasn't, or has
pub outside_line : (files : Files) (c c' : Settings) (n hour : ℕ) (name : List ℕ) (make : Shown → Change) (s : Store) (w w' : Taken) (r : Result Bool Stopped)
    → c' ≡ c → c.window.hours ≤ hour → ((x : Store) → TakesPut (refuses c' n (Edit OutOfWindow) x) w w' x r) → TakesBy (IsFetched c n hour make s (hour_bytes files c hour name)) w w' s r
outside_line files c c' n hour name make s w w' r ec past h =
    let e : hour_bytes files c hour name ≡ Err (Edit OutOfWindow) = rw (le-ltb hour c.window.hours past) refl in
    fetch_refused c c' n hour make s (hour_bytes files c hour name) (Edit OutOfWindow) w w' r ec e h

pub inside_line : (files : Files) (c : Settings) (n hour : ℕ) (name : List ℕ) (make : Shown → Change) (s s' : Store) (old new : World) (r : Result Bool Stopped)
    → hour < c.window.hours → Takes (IsFetched c n hour make s (hour_file (files name))) old new s' r → Takes (IsFetched c n hour make s (hour_bytes files c hour name)) old new s' r
inside_line files c n hour name make s s' old new r lt h =
    let e : hour_bytes files c hour name ≡ hour_file (files name) = rw (lt-ltb hour c.window.hours lt) refl in
    rw e h

-- ---- measures

pub measures_done : (c c' : Settings) (n : ℕ) (s : Store) (all : List Numbers) (x : Numbers) (w w' : Taken) → c' ≡ c → IsTold c s all → x ≡ total_of all → Writes w w' (window_measures n c' x) → TakesBy (IsMeasured c n s) w w' s (Ok false)
measures_done c c' n s all x w w' ec h ex k =
    let k' = rw (ec, ex) at k in
    (writes (window_measures n c (total_of all)) s, (total_of all, h.history, window_told c s all h, refl), k', refl, refl)

pub measures_cut : (c c' : Settings) (n : ℕ) (s : Store) (all : List Numbers) (x : Numbers) (w w' : Taken) → c' ≡ c → IsTold c s all → x ≡ total_of all → Stops w w' (window_measures n c' x) → TakesBy (IsMeasured c n s) w w' s (Err stopped.Fault)
measures_cut c c' n s all x w w' ec h ex k =
    let k' = rw (ec, ex) at k in
    (writes (window_measures n c (total_of all)) s, (total_of all, h.history, window_told c s all h, refl), k')

-- the measures of an hour, which are there
hour_measured : (c : Settings) (n hour : ℕ) (s : Store) (all : List Numbers) (x : Numbers) → IsTold c s all → Some x ≡ slice_get all hour → IsMeasuredOf c n hour s (nat_lt hour c.window.hours) (writes (hour_measures n hour c x) s)
hour_measured c n hour s all x h e = rw (lt-ltb hour c.window.hours (hour_within c s all hour x h e)) (x, h.history, hour_told c s all hour x h e, refl)

pub hour_outside : (c c' : Settings) (n hour : ℕ) (s : Store) (all : List Numbers) (w w' : Taken) (r : Result Bool Stopped) → c' ≡ c → IsTold c s all → None ≡ slice_get all hour
    → ((x : Store) → TakesPut (refuses c' n (Edit OutOfWindow) x) w w' x r) → TakesBy (IsMeasuredOf c n hour s (nat_lt hour c.window.hours)) w w' s r
hour_outside c c' n hour s all w w' r ec h e k =
    let is : IsMeasuredOf c n hour s (nat_lt hour c.window.hours) (refuses c n (Edit OutOfWindow) s) = rw (le-ltb hour c.window.hours (hour_past c s all hour h e)) refl in
    by_refusal (IsMeasuredOf c n hour s (nat_lt hour c.window.hours)) c c' n (Edit OutOfWindow) s w w' r ec is k

pub hour_done : (c c' : Settings) (n hour : ℕ) (s : Store) (all : List Numbers) (x : Numbers) (w w' : Taken) → c' ≡ c → IsTold c s all → Some x ≡ slice_get all hour → Writes w w' (hour_measures n hour c' x)
    → TakesBy (IsMeasuredOf c n hour s (nat_lt hour c.window.hours)) w w' s (Ok false)
hour_done c c' n hour s all x w w' ec h e k =
    let k' = rw ec at k in
    (writes (hour_measures n hour c x) s, hour_measured c n hour s all x h e, k', refl, refl)

pub hour_cut : (c c' : Settings) (n hour : ℕ) (s : Store) (all : List Numbers) (x : Numbers) (w w' : Taken) → c' ≡ c → IsTold c s all → Some x ≡ slice_get all hour → Stops w w' (hour_measures n hour c' x)
    → TakesBy (IsMeasuredOf c n hour s (nat_lt hour c.window.hours)) w w' s (Err stopped.Fault)
hour_cut c c' n hour s all x w w' ec h e k =
    let k' = rw ec at k in
    (writes (hour_measures n hour c x) s, hour_measured c n hour s all x h e, k')

-- ---- what the lines do, by what they say

pub turn_skip : (files : Files) (c : Settings) (n : ℕ) (s : Store) (t : Turn) → t ≡ passes s → IsTurn files c n line.skip s t
unfolding IsTurn
turn_skip files c n s t h = h

pub turn_bad : (files : Files) (c : Settings) (n : ℕ) (s : Store) (t : Turn) → t ≡ refuses c n BadLine s → IsTurn files c n line.bad s t
unfolding IsTurn
turn_bad files c n s t h = h

pub turn_load : (files : Files) (c : Settings) (n hour : ℕ) (name : List ℕ) (s : Store) (t : Turn) → IsFetched c n hour (hour_change false) s (hour_bytes files c hour name) t → IsTurn files c n (line.load hour name) s t
unfolding IsTurn
turn_load files c n hour name s t h = h

pub turn_replace : (files : Files) (c : Settings) (n hour : ℕ) (name : List ℕ) (s : Store) (t : Turn) → IsFetched c n hour (hour_change true) s (hour_bytes files c hour name) t → IsTurn files c n (line.replace hour name) s t
unfolding IsTurn
turn_replace files c n hour name s t h = h

pub turn_audit : (files : Files) (c : Settings) (n : ℕ) (s : Store) (t : Turn) → IsAudited c n s t → IsTurn files c n line.audit s t
unfolding IsTurn
turn_audit files c n s t h = h

pub turn_verdicts : (files : Files) (c : Settings) (n hour : ℕ) (s : Store) (t : Turn) → AreVerdicts c n hour s (nat_lt hour c.window.hours) t → IsTurn files c n (line.verdicts hour) s t
unfolding IsTurn
turn_verdicts files c n hour s t h = h

pub turn_measures : (files : Files) (c : Settings) (n : ℕ) (s : Store) (t : Turn) → IsMeasured c n s t → IsTurn files c n line.measures s t
unfolding IsTurn
turn_measures files c n s t h = h

pub turn_hour : (files : Files) (c : Settings) (n hour : ℕ) (s : Store) (t : Turn) → IsMeasuredOf c n hour s (nat_lt hour c.window.hours) t → IsTurn files c n (line.measures_of hour) s t
unfolding IsTurn
turn_hour files c n hour s t h = h

pub turn_points : (files : Files) (c : Settings) (n p : ℕ) (s : Store) (t : Turn) → t ≡ points_of_phase c n p s → IsTurn files c n (line.points p) s t
unfolding IsTurn
turn_points files c n p s t h = h

pub turn_offsets : (files : Files) (c : Settings) (n : ℕ) (name : List ℕ) (s : Store) (t : Turn) → t ≡ offsets_of c n name s → IsTurn files c n (line.offsets name) s t
unfolding IsTurn
turn_offsets files c n name s t h = h

-- a line that is an edit and needs no file
pub turn_edit : (files : Files) (c : Settings) (n : ℕ) (x : Said) (ch : Change) (s : Store) → Some ch ≡ edit_said x → (t : Turn) → IsEdited c n None s ch t → IsTurn files c n x s t
unfolding IsTurn
turn_edit files c n line.skip ch s e t h = absurd (cc)
turn_edit files c n line.bad ch s e t h = absurd (cc)
turn_edit files c n (line.load hour name) ch s e t h = absurd (cc)
turn_edit files c n (line.replace hour name) ch s e t h = absurd (cc)
turn_edit files c n (line.withdraw hour) ch s e t h = let same : ch ≡ change.withdraw hour = cc in rw same at h
turn_edit files c n (line.blank from to) ch s e t h = let same : ch ≡ change.blank from to = cc in rw same at h
turn_edit files c n (line.unblank from to) ch s e t h = let same : ch ≡ change.unblank from to = cc in rw same at h
turn_edit files c n line.audit ch s e t h = absurd (cc)
turn_edit files c n (line.verdicts hour) ch s e t h = absurd (cc)
turn_edit files c n line.measures ch s e t h = absurd (cc)
turn_edit files c n (line.measures_of hour) ch s e t h = absurd (cc)
turn_edit files c n (line.points p) ch s e t h = absurd (cc)
turn_edit files c n (line.offsets name) ch s e t h = absurd (cc)

-- a line that used the sink alone
pub line_by : (files : Files) (c : Settings) (n : ℕ) (x y : Said) (s0 : Store) (Is : Turn → Type 0) (k : Counts) (w w' : Taken) (s : Store) (r : Result Bool Stopped) → x ≡ y
    → ((t : Turn) → Is t → IsTurn files c n y s0 t) → TakesBy Is w w' s r → Takes (IsTurn files c n x s0) (world k w) (world k w') s r
line_by files c n x y s0 Is k w w' s r e turn h =
    rw e (takes_as Is (IsTurn files c n y s0) (world k w) (world k w') s r turn (takes_of_by Is k k w w' s r refl h))

-- one that used the shelf too
pub line_as : (files : Files) (c : Settings) (n : ℕ) (x y : Said) (s0 : Store) (Is : Turn → Type 0) (old new : World) (s : Store) (r : Result Bool Stopped) → x ≡ y
    → ((t : Turn) → Is t → IsTurn files c n y s0 t) → Takes Is old new s r → Takes (IsTurn files c n x s0) old new s r
line_as files c n x y s0 Is old new s r e turn h = rw e (takes_as Is (IsTurn files c n y s0) old new s r turn h)

-- a line that is passed over
pub line_skipped : (files : Files) (c : Settings) (n : ℕ) (x : Said) (s : Store) (k : Counts) (w : Taken) → x ≡ line.skip → Takes (IsTurn files c n x s) (world k w) (world k w) s (Ok false)
line_skipped files c n x s k w e = rw e (passes s, turn_skip files c n s (passes s) refl, appends-nothing w.written, (refl, refl), refl, refl)

-- a bad line
pub by_bad : (c c' : Settings) (n : ℕ) (refusal : Refusal) (s : Store) (w w' : Taken) (r : Result Bool Stopped) → c' ≡ c → ((x : Store) → TakesPut (refuses c' n refusal x) w w' x r)
    → TakesBy (λ t. t ≡ refuses c n refusal s) w w' s r
by_bad c c' n refusal s w w' r ec h = by_refusal (λ t. t ≡ refuses c n refusal s) c c' n refusal s w w' r ec refl h
