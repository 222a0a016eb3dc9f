-- How the lines of a script open hours.
use Rattle.std.proofs.Common.{◌≡◌, ◌<◌, ◌≤◌, ◌+◌, ◌*◌, ◌/◌, ◌++◌, ◌∙◌, ◌⊎◌, ℕ, List, [], ◌∷◌, length, Bool, true, false, Option, Some, None, Result, Ok, Err, refl, sym, ap, subst, inl, inr, arith, append_assoc, append-nil, ◌^◌, IfSome}
use Rattle.std.specs.Prelude.{OnOk, slice_index}
use Rattle.std.proofs.lemmas.Bool.{cases_lt, lt-ltb, le-ltb}
use Rattle.std.proofs.lemmas.List.{length-append}
use Rattle.std.proofs.lemmas.List.Elements.{All-head, All-tail}
use Rattle.outside.specs.Shelf.{Files}
use Rattle.sig_base.specs.HourRows.{Shown}
use Rattle.sig_base.specs.Window.{Span}
use Rattle.sig_base.specs.Numbers.{has_phase}
use Rattle.sig_base.specs.declared.values.Row.{Row}
use Rattle.sig_base.specs.declared.values.Applied.{Applied}
use Rattle.sig_base.specs.declared.values.EditError.{EditError}
use Rattle.sig_base.specs.declared.values.EditError.TheVariants.{OutOfWindow, AlreadyHeld, NotHeld, EmptyRange, TooManyRows, TooManyBlanks, Contradiction, Memory}
use Rattle.hour_store.specs.Store.{Store, nothing_held}
use Rattle.ring_config.specs.Reading.{Read}
use Rattle.ring_config.specs.Settings.{Settings, config_of}
use Rattle.signal_log.specs.Log.{HasHistory, log_of}
use Rattle.session.specs.Edits.{Change, hour_change, step_of}
use Rattle.session.specs.Edits as change
use Rattle.session.specs.Moved.{Moves, Touches}
use Rattle.session.specs.Links.{AllSettled, waits}
use Rattle.session.specs.Opens.{AreOpened, AreOpenedFor, AreOpenedOnce, IsOpened, IsOpenedFor, OpensFor, count_after, still}
use Rattle.session.specs.Sessions.{Steps}
use Rattle.session.proofs.OpenLaws.{after_both, opened_not, opened_wider}
use Rattle.command_line.specs.Words.{Asked}
use Rattle.script_lines.specs.Lines.{after_line, first_line, lines_of}
use Rattle.script_lines.specs.Words.{Said, said}
use Rattle.script_lines.specs.Words as line
use Rattle.report_text.specs.declared.refusal.Refusal.{Refusal}
use Rattle.report_text.specs.declared.refusal.Refusal.TheVariants.{Edit}
use Rattle.sigaudit.specs.declared.hour_file.Unread.{Unread}
use Rattle.sigaudit.specs.declared.status.Status.{Status}
use Rattle.sigaudit.specs.declared.status.Status.TheVariants as outer
use Rattle.sigaudit.specs.declared.status.Stopped.{Stopped}
use Rattle.sigaudit.specs.declared.status.Stopped.TheVariants as stopped
use Rattle.sigaudit.specs.Counting.{AreCounted, AreCountedFor, ArePlain, AreTallied, OpensAnswer, OpensAsked, OpensConfig, OpensFile, OpensText, EditTally, FetchTally, IsPlain, LineTally, MadeTally, ReadTally, ScriptTally, WhereTaken, within}
use Rattle.sigaudit.specs.Aims.{for_lines}
use Rattle.sigaudit.specs.HourFile.{hour_said}
use Rattle.sigaudit.specs.Offsets.{advance_of}
use Rattle.sigaudit.specs.Run.{World, Takes}
use Rattle.sigaudit.specs.Script.{edit_said, hour_bytes, hour_file, is_edit_memory, wanted_for, IsTurn}
use Rattle.sigaudit.specs.Status.{status_of_run}
use Rattle.sigaudit.specs.Transcript.{ended_by, limited}
use Rattle.sigaudit.specs.Turns.{Turn}
use Rattle.sigaudit.proofs.RunFacts.{if_some-from}
use Rattle.sigaudit.proofs.ScriptFacts.{lines_next, lines_over}

-- ---- one edit

pub on_ok : {T E : Type 0} (r : Result T E) (P : Type 0) → P → OnOk r P
on_ok (Ok x) P p = p
on_ok (Err e) P p = tt

pub on_ok_by : {T E : Type 0} (r : Result T E) (P Q : Type 0) → (P → Q) → OnOk r P → OnOk r Q
on_ok_by (Ok x) P Q f p = f p
on_ok_by (Err e) P Q f p = tt

within_is : (from to h : ℕ) → from ≤ h → h < to → within from to h ≡ 1
within_is from to h low high = rw (le-ltb h from low, lt-ltb h to high) refl

within_not : (from to h : ℕ) → (h < from) ⊎ (to ≤ h) → within from to h ≡ 0
within_not from to h (inl before) = rw (lt-ltb h from before) refl
within_not from to h (inr past) = elim (cases_lt h from) [ inl before ↦ rw (lt-ltb h from before) refl | inr low ↦ rw (le-ltb h from low, le-ltb h to past) refl ]

-- ---- one hour whose numbers may wait

-- an hour whose numbers wait as before
for_opened : (low high s x y : ℕ) → IsOpened low high x y → IsOpenedFor low high s s x y
for_opened low high s x y o = let most = o.most in record { times = o.times; least = o.least; most = omega arith; count = o.count }

for_same : (w v : List Bool) (h x y : ℕ) → waits v h ≡ waits w h → y ≡ x → IsOpenedFor 0 0 (still w h) (still v h) x y
for_same w v h x y marked e =
    let same : still v h ≡ still w h = rw marked refl in
    let o = opened_not x y e in
    let most = o.most in
    record { times = o.times; least = o.least; most = omega arith; count = o.count }

for_wider : (low high high' s t x y : ℕ) → high ≤ high' → IsOpenedFor low high s t x y → IsOpenedFor low high' s t x y
for_wider low high high' s t x y le o = let most = o.most in record { times = o.times; least = o.least; most = omega arith; count = o.count }

-- openings one after another
for_on : (a b c d s t u x y z : ℕ) → IsOpenedFor a b s t x y → IsOpenedFor c d t u y z → IsOpenedFor (a + c) (b + d) s u x z
for_on a b c d s t u x y z p q =
    let low = p.least in
    let high = p.most in
    let low2 = q.least in
    let high2 = q.most in
    record {
      times = p.times + q.times;
      least = omega arith;
      most = omega arith;
      count = q.count ∙ (ap (λ (n : ℕ). count_after n q.times) p.count ∙ after_both x p.times q.times);
    }

-- where the numbers of the hour didn't wait before
for_none : (low high s t x y : ℕ) → s ≡ 0 → IsOpenedFor low high s t x y → IsOpened low high x y
for_none low high s t x y e o = let most = o.most in record { times = o.times; least = o.least; most = omega arith; count = o.count }

-- ---- an edit

-- nothing was opened
pub counted_still : (w : List Bool) (Tally : ℕ → ℕ → ℕ → Type 0) (a b : List ℕ) → b ≡ a → ((h : ℕ) → Tally h 0 0) → AreCountedFor w w Tally a b
counted_still w Tally a b e tally = (ap length e, λ h lt. (0, 0, tally h, for_same w w h (slice_index a h) (slice_index b h) refl (ap (λ (x : List ℕ). slice_index x h) e)))

pub same_tally : (w v : List Bool) (T U : ℕ → ℕ → ℕ → Type 0) (a b : List ℕ) → ((h m k : ℕ) → T h m k → U h m k) → AreCountedFor w v T a b → AreCountedFor w v U a b
same_tally w v T U a b f (size, each) = (size, λ h lt. let (m, k, tally, opened) = each h lt in (m, k, f h m k tally, opened))

made_counted : (c : Settings) (s new : Store) (ch : Change) (a : Applied) (w v : List Bool) (old now : List ℕ) → HasHistory (log_of c.specs new) → Moves c s new ch a → AreOpenedFor a.from a.to w v old now → AreCountedFor w v (MadeTally c s ch (Ok new)) old now
made_counted c s new ch a w v old now has moves opens = (
  opens.size,
  λ h lt. elim (cases_lt h a.from) [
    | inl before ↦
        let out = opens.outside h (inl before) in
        (0, 0, inl (has, a, moves, sym (within_not a.from a.to h (inl before)), refl), for_same w v h (slice_index old h) (slice_index now h) out.1 out.0)
    | inr low ↦ elim (cases_lt h a.to) [
      | inl high ↦ (1, 0, inl (has, a, moves, sym (within_is a.from a.to h low high), refl), opens.within h lt low high)
      | inr past ↦
          let out = opens.outside h (inr past) in
          (0, 0, inl (has, a, moves, sym (within_not a.from a.to h (inr past)), refl), for_same w v h (slice_index old h) (slice_index now h) out.1 out.0)
    ]
  ],
)

pub edit_counted : (c : Settings) (s new : Store) (ch : Change) (a : Applied) (w v : List Bool) (old now : List ℕ) → Steps c (step_of s ch) s new (Ok a) → Moves c s new ch a → OpensFor ch w v old now (Ok a) → AreCountedFor w v (EditTally c s ch) old now
unfolding OpensFor
edit_counted c s new ch a w v old now steps moves opens = rw steps.0 (made_counted c s new ch a w v old now steps.1 moves opens)

-- as many numbers wait as before
marked_still : (w v : List Bool) (Tally : ℕ → ℕ → ℕ → Type 0) (old now : List ℕ) → v ≡ w → AreCountedFor w w Tally old now → AreCountedFor w v Tally old now
marked_still w v Tally old now e h = subst (λ (x : List Bool). AreCountedFor w x Tally old now) (sym e) h

-- an edit that is refused before it is made
unmade : (c : Settings) (s : Store) (ch : Change) (to : Result Store EditError) (e : EditError) (w v : List Bool) (old now : List ℕ) → to ≡ Err e → (v ≡ w) × (now ≡ old) → AreCountedFor w v (MadeTally c s ch to) old now
unmade c s ch to e w v old now made same = rw made (marked_still w v (MadeTally c s ch (Err e)) old now same.0 (counted_still w (MadeTally c s ch (Err e)) old now same.1 (λ h. (refl, refl))))

stopped_counted : (c : Settings) (s new : Store) (ch : Change) (row : Row) (first last : ℕ) (w : List Bool) (old now : List ℕ) → Steps c (Ok new) s s (Err (Contradiction row)) → Touches ch first last → AreOpened first (row.at / 36000 + 1) 1 1 old now → AreCountedFor w w (MadeTally c s ch (Ok new)) old now
stopped_counted c s new ch row first last w old now steps touches opens =
    let to = row.at / 36000 + 1 in
    let (_, (t, is, contradicts, none)) = steps in
    let same : t ≡ new = cc in
    let at = rw same at contradicts in
    let not = rw same at none in (
      opens.size,
      λ h lt. elim (cases_lt h first) [
        | inl before ↦ (0, 0, inr (row, first, last, at, not, touches, refl, sym (within_not first to h (inl before))), for_same w w h (slice_index old h) (slice_index now h) refl (opens.outside h (inl before)))
        | inr low ↦ elim (cases_lt h to) [
          | inl high ↦ (0, 1, inr (row, first, last, at, not, touches, refl, sym (within_is first to h low high)), for_opened 0 3 (still w h) (slice_index old h) (slice_index now h) (opened_wider 1 1 0 3 (slice_index old h) (slice_index now h) (omega arith) (omega arith) (opens.within h lt low high)))
          | inr past ↦ (0, 0, inr (row, first, last, at, not, touches, refl, sym (within_not first to h (inr past))), for_same w w h (slice_index old h) (slice_index now h) refl (opens.outside h (inr past)))
        ]
      ],
    )

pub refusal_counted : (c : Settings) (s new : Store) (ch : Change) (to : Result Store EditError) (e : EditError) (w v : List Bool) (old now : List ℕ) → is_edit_memory e ≡ false → Steps c to s new (Err e) → OpensFor ch w v old now (Err e) → AreCountedFor w v (MadeTally c s ch to) old now
unfolding OpensFor
refusal_counted c s new ch to OutOfWindow w v old now ne steps opens = unmade c s ch to OutOfWindow w v old now steps.1 opens
refusal_counted c s new ch to AlreadyHeld w v old now ne steps opens = unmade c s ch to AlreadyHeld w v old now steps.1 opens
refusal_counted c s new ch to NotHeld w v old now ne steps opens = unmade c s ch to NotHeld w v old now steps.1 opens
refusal_counted c s new ch to EmptyRange w v old now ne steps opens = unmade c s ch to EmptyRange w v old now steps.1 opens
refusal_counted c s new ch to TooManyRows w v old now ne steps opens = unmade c s ch to TooManyRows w v old now steps.1 opens
refusal_counted c s new ch to TooManyBlanks w v old now ne steps opens = unmade c s ch to TooManyBlanks w v old now steps.1 opens
refusal_counted c s new ch to (Contradiction row) w v old now ne steps (marked, (first, last, touches, opens)) =
    let (_, (t, is, contradicts, none)) = steps in
    rw is (marked_still w v (MadeTally c s ch (Ok t)) old now marked (stopped_counted c s t ch row first last w old now (refl, (t, refl, contradicts, none)) touches opens))
refusal_counted c s new ch to Memory w v old now ne steps opens = absurd (cc)

-- ---- an hour file

-- what a file says, by the configuration
pub said_as : (c c' : Settings) (hour : ℕ) (signal : List ℕ) (window : Span) (bytes : List ℕ) (x : Result Shown Unread) → c' ≡ c → signal ≡ c'.signal → window ≡ c'.window → hour_said (record { signal = signal; hour = hour; window = window }) bytes ≡ x → hour_said (wanted_for c hour) bytes ≡ x
said_as c c' hour signal window bytes x ec es ew h =
    let sig : signal ≡ c.signal = es ∙ ap (λ (k : Settings). k.signal) ec in
    let win : window ≡ c.window = ew ∙ ap (λ (k : Settings). k.window) ec in
    let h' : hour_said (wanted_for c hour) bytes ≡ x = rw (sig, win) at h in
    h'

pub read_counted : (c : Settings) (make : Shown → Change) (s : Store) (read : Result Shown Unread) (shown : Shown) (ch : Change) (w v : List Bool) (old now : List ℕ) (r : Result Bool Stopped) → read ≡ Ok shown → ch ≡ make shown → OnOk r (AreCountedFor w v (EditTally c s ch) old now) → OnOk r (AreCountedFor w v (ReadTally c make s read) old now)
read_counted c make s read shown ch w v old now r e em h = rw e (subst (λ (x : Change). OnOk r (AreCountedFor w v (EditTally c s x) old now)) em h)

pub unread_counted : (c : Settings) (make : Shown → Change) (s : Store) (read : Result Shown Unread) (e : Unread) (w : List Bool) (old : List ℕ) (r : Result Bool Stopped) → read ≡ Err e → OnOk r (AreCountedFor w w (ReadTally c make s read) old old)
unread_counted c make s read e w old r is = rw is (on_ok r (AreCountedFor w w (ReadTally c make s (Err e)) old old) (counted_still w (ReadTally c make s (Err e)) old old refl (λ h. (refl, refl))))

pub fetched_counted : (c : Settings) (hour : ℕ) (make : Shown → Change) (s : Store) (want : Result (List ℕ) Refusal) (bytes bytes' : List ℕ) (w v : List Bool) (old now : List ℕ) (r : Result Bool Stopped) → want ≡ Ok bytes → bytes' ≡ bytes → OnOk r (AreCountedFor w v (ReadTally c make s (hour_said (wanted_for c hour) bytes')) old now) → OnOk r (AreCountedFor w v (FetchTally c hour make s want) old now)
fetched_counted c hour make s want bytes bytes' w v old now r e eb h = rw e (subst (λ (x : List ℕ). OnOk r (AreCountedFor w v (ReadTally c make s (hour_said (wanted_for c hour) x)) old now)) eb h)

pub missed_counted : (c : Settings) (hour : ℕ) (make : Shown → Change) (s : Store) (want : Result (List ℕ) Refusal) (refusal : Refusal) (w : List Bool) (old : List ℕ) (r : Result Bool Stopped) → want ≡ Err refusal → OnOk r (AreCountedFor w w (FetchTally c hour make s want) old old)
missed_counted c hour make s want refusal w old r is = rw is (on_ok r (AreCountedFor w w (FetchTally c hour make s (Err refusal)) old old) (counted_still w (FetchTally c hour make s (Err refusal)) old old refl (λ h. (refl, refl))))

-- an hour that the window hasn't, or has
pub outside_counted : (files : Files) (c : Settings) (hour : ℕ) (name : List ℕ) (make : Shown → Change) (s : Store) (w : List Bool) (old : List ℕ) (r : Result Bool Stopped) → c.window.hours ≤ hour → OnOk r (AreCountedFor w w (FetchTally c hour make s (hour_bytes files c hour name)) old old)
outside_counted files c hour name make s w old r past =
    let e : hour_bytes files c hour name ≡ Err (Edit OutOfWindow) = rw (le-ltb hour c.window.hours past) refl in
    missed_counted c hour make s (hour_bytes files c hour name) (Edit OutOfWindow) w old r e

pub inside_counted : (files : Files) (c : Settings) (hour : ℕ) (name : List ℕ) (make : Shown → Change) (s : Store) (w v : List Bool) (old now : List ℕ) (r : Result Bool Stopped) → hour < c.window.hours → OnOk r (AreCountedFor w v (FetchTally c hour make s (hour_file (files name))) old now) → OnOk r (AreCountedFor w v (FetchTally c hour make s (hour_bytes files c hour name)) old now)
inside_counted files c hour name make s w v old now r lt h =
    let e : hour_bytes files c hour name ≡ hour_file (files name) = rw (lt-ltb hour c.window.hours lt) refl in
    rw e h

-- ---- one line

pub line_edit : (files : Files) (c : Settings) (x : Said) (ch : Change) (s : Store) → Some ch ≡ edit_said x → (h m k : ℕ) → EditTally c s ch h m k → LineTally files c x s h m k
unfolding LineTally
line_edit files c line.skip ch s e h m k t = absurd (cc)
line_edit files c line.bad ch s e h m k t = absurd (cc)
line_edit files c (line.load hour name) ch s e h m k t = absurd (cc)
line_edit files c (line.replace hour name) ch s e h m k t = absurd (cc)
line_edit files c (line.withdraw hour) ch s e h m k t = let same : ch ≡ change.withdraw hour = cc in rw same at t
line_edit files c (line.blank from to) ch s e h m k t = let same : ch ≡ change.blank from to = cc in rw same at t
line_edit files c (line.unblank from to) ch s e h m k t = let same : ch ≡ change.unblank from to = cc in rw same at t
line_edit files c line.audit ch s e h m k t = absurd (cc)
line_edit files c (line.verdicts hour) ch s e h m k t = absurd (cc)
line_edit files c line.measures ch s e h m k t = absurd (cc)
line_edit files c (line.measures_of hour) ch s e h m k t = absurd (cc)
line_edit files c (line.points p) ch s e h m k t = absurd (cc)
line_edit files c (line.offsets name) ch s e h m k t = absurd (cc)

pub line_edited : (files : Files) (c : Settings) (x : Said) (ch : Change) (s : Store) (w v : List Bool) (old now : List ℕ) (r : Result Bool Stopped) → Some ch ≡ edit_said x → OnOk r (AreCountedFor w v (EditTally c s ch) old now) → OnOk r (AreCountedFor w v (LineTally files c x s) old now)
line_edited files c x ch s w v old now r e h = on_ok_by r (AreCountedFor w v (EditTally c s ch) old now) (AreCountedFor w v (LineTally files c x s) old now) (same_tally w v (EditTally c s ch) (LineTally files c x s) old now (line_edit files c x ch s e)) h

line_loads : (files : Files) (c : Settings) (hour : ℕ) (name : List ℕ) (s : Store) (h m k : ℕ) → FetchTally c hour (hour_change false) s (hour_bytes files c hour name) h m k → LineTally files c (line.load hour name) s h m k
unfolding LineTally
line_loads files c hour name s h m k t = t

line_replaces : (files : Files) (c : Settings) (hour : ℕ) (name : List ℕ) (s : Store) (h m k : ℕ) → FetchTally c hour (hour_change true) s (hour_bytes files c hour name) h m k → LineTally files c (line.replace hour name) s h m k
unfolding LineTally
line_replaces files c hour name s h m k t = t

pub line_loaded : (files : Files) (c : Settings) (x : Said) (hour : ℕ) (name : List ℕ) (s : Store) (w v : List Bool) (old now : List ℕ) (r : Result Bool Stopped) → x ≡ line.load hour name → OnOk r (AreCountedFor w v (FetchTally c hour (hour_change false) s (hour_bytes files c hour name)) old now) → OnOk r (AreCountedFor w v (LineTally files c x s) old now)
line_loaded files c x hour name s w v old now r e h =
    rw e (on_ok_by r (AreCountedFor w v (FetchTally c hour (hour_change false) s (hour_bytes files c hour name)) old now) (AreCountedFor w v (LineTally files c (line.load hour name) s) old now) (same_tally w v (FetchTally c hour (hour_change false) s (hour_bytes files c hour name)) (LineTally files c (line.load hour name) s) old now (line_loads files c hour name s)) h)

pub line_replaced : (files : Files) (c : Settings) (x : Said) (hour : ℕ) (name : List ℕ) (s : Store) (w v : List Bool) (old now : List ℕ) (r : Result Bool Stopped) → x ≡ line.replace hour name → OnOk r (AreCountedFor w v (FetchTally c hour (hour_change true) s (hour_bytes files c hour name)) old now) → OnOk r (AreCountedFor w v (LineTally files c x s) old now)
line_replaced files c x hour name s w v old now r e h =
    rw e (on_ok_by r (AreCountedFor w v (FetchTally c hour (hour_change true) s (hour_bytes files c hour name)) old now) (AreCountedFor w v (LineTally files c (line.replace hour name) s) old now) (same_tally w v (FetchTally c hour (hour_change true) s (hour_bytes files c hour name)) (LineTally files c (line.replace hour name) s) old now (line_replaces files c hour name s)) h)

-- a line that is no edit
pub skip_still : (files : Files) (c : Settings) (s : Store) (h : ℕ) → LineTally files c line.skip s h 0 0
unfolding LineTally
skip_still files c s h = (refl, refl)

pub bad_still : (files : Files) (c : Settings) (s : Store) (h : ℕ) → LineTally files c line.bad s h 0 0
unfolding LineTally
bad_still files c s h = (refl, refl)

pub measures_still : (files : Files) (c : Settings) (s : Store) (h : ℕ) → LineTally files c line.measures s h 0 0
unfolding LineTally
measures_still files c s h = (refl, refl)

pub hour_still : (files : Files) (c : Settings) (hour : ℕ) (s : Store) (h : ℕ) → LineTally files c (line.measures_of hour) s h 0 0
unfolding LineTally
hour_still files c hour s h = (refl, refl)

pub line_still : (files : Files) (c : Settings) (x y : Said) (s : Store) (w : List Bool) (old : List ℕ) (r : Result Bool Stopped) → x ≡ y → ((h : ℕ) → LineTally files c y s h 0 0) → OnOk r (AreCountedFor w w (LineTally files c x s) old old)
line_still files c x y s w old r e none = rw e (on_ok r (AreCountedFor w w (LineTally files c y s) old old) (counted_still w (LineTally files c y s) old old refl none))

-- a line that asks for numbers, which no longer wait
settled_counted : (w v : List Bool) (Tally : ℕ → ℕ → ℕ → Type 0) (old now : List ℕ) → ((h : ℕ) → Tally h 0 0) → AreOpenedOnce w v old now → AreCountedFor w v Tally old now
settled_counted w v Tally old now none once = (once.size, λ h lt. (0, 0, none h, let o = once.each h lt in let all = o.each in record { times = o.times; least = omega arith; most = omega arith; count = o.count }))

pub line_settled : (files : Files) (c : Settings) (x y : Said) (s : Store) (w v : List Bool) (old now : List ℕ) (r : Result Bool Stopped) → x ≡ y → ((h : ℕ) → LineTally files c y s h 0 0) → OnOk r (AreOpenedOnce w v old now) → OnOk r (AreCountedFor w v (LineTally files c x s) old now)
line_settled files c x y s w v old now r e none h = rw e (on_ok_by r (AreOpenedOnce w v old now) (AreCountedFor w v (LineTally files c y s) old now) (settled_counted w v (LineTally files c y s) old now none) h)

points_still : (files : Files) (c : Settings) (p : ℕ) (s : Store) (h : ℕ) → LineTally files c (line.points p) s h 0 0
unfolding LineTally
points_still files c p s h = (refl, refl)

offsets_still : (files : Files) (c : Settings) (name : List ℕ) (s : Store) (h : ℕ) → LineTally files c (line.offsets name) s h 0 0
unfolding LineTally
offsets_still files c name s h = (refl, refl)

-- a bad line, as it names no phase of the configuration, or no approach with an advance detector
pub points_counted : (files : Files) (c : Settings) (x : Said) (p : ℕ) (s : Store) (w : List Bool) (old now : List ℕ) (r : Result Bool Stopped) → x ≡ line.points p → (has_phase c.phases p ≡ false → now ≡ old) → IsPlain c x → OnOk r (AreCountedFor w w (LineTally files c x s) old now)
points_counted files c x p s w old now r e same plain =
    let absent : has_phase c.phases p ≡ false = subst (λ (z : Said). IsPlain c z) e plain in
    rw e (on_ok r (AreCountedFor w w (LineTally files c (line.points p) s) old now) (counted_still w (LineTally files c (line.points p) s) old now (same absent) (points_still files c p s)))

pub offsets_counted : (files : Files) (c : Settings) (x : Said) (name : List ℕ) (s : Store) (w : List Bool) (old now : List ℕ) (r : Result Bool Stopped) → x ≡ line.offsets name → (advance_of c name ≡ None → now ≡ old) → IsPlain c x → OnOk r (AreCountedFor w w (LineTally files c x s) old now)
offsets_counted files c x name s w old now r e same plain =
    let absent : advance_of c name ≡ None = subst (λ (z : Said). IsPlain c z) e plain in
    rw e (on_ok r (AreCountedFor w w (LineTally files c (line.offsets name) s) old now) (counted_still w (LineTally files c (line.offsets name) s) old now (same absent) (offsets_still files c name s)))

-- a line by what is read of it
pub line_read : (files : Files) (c : Settings) (x y : Said) (s : Store) (w v : List Bool) (old now : List ℕ) (r : Result Bool Stopped) → x ≡ y → (IsPlain c x → OnOk r (AreCountedFor w v (LineTally files c x s) old now)) → IsPlain c y → OnOk r (AreCountedFor w v (LineTally files c y s) old now)
line_read files c x y s w v old now r e h = subst (λ (z : Said). IsPlain c z → OnOk r (AreCountedFor w v (LineTally files c z s) old now)) e h

-- ---- lines one after another

pub tally_none : (files : Files) (c : Settings) (n : ℕ) (s : Store) (h : ℕ) → AreTallied files c n [] s s h 0 0
unfolding AreTallied
tally_none files c n s h = (refl, refl, refl)

tally_more : (files : Files) (c : Settings) (n at : ℕ) (ls : List (List ℕ)) (l : List ℕ) (s mid last : Store) (t : Turn) (h m1 k1 m2 k2 : ℕ) → at ≡ n + length ls
    → AreTallied files c n ls s mid h m1 k1 → IsTurn files c at (said c.window l) mid t → last ≡ t.store → LineTally files c (said c.window l) mid h m2 k2 → AreTallied files c n (ls ++ l ∷ []) s last h (m1 + m2) (k1 + k2)
unfolding AreTallied
tally_more files c n at [] l s mid last t h m1 k1 m2 k2 e (is, none, stops) turn store tally =
    let number : at ≡ n = omega arith in
    let turn' = rw (number, is) at turn in
    let tally' = rw is at tally in
    (t, turn', (m2, k2, 0, 0, tally', (store, refl, refl), omega arith, omega arith))
tally_more files c n at (x ∷ xs) l s mid last t h m1 k1 m2 k2 e (u, first, (a, b, a', b', one, rest, moves, stops)) turn store tally =
    (u, first, (a, b, a' + m2, b' + k2, one, tally_more files c (n + 1) at xs l u.store mid last t h a' b' m2 k2 (omega arith) rest turn store tally, omega arith, omega arith))

-- two openings one after another, by tallies that add up
counted_on : (w x v : List Bool) (T U V : ℕ → ℕ → ℕ → Type 0) (a b d : List ℕ) → ((h m k m' k' : ℕ) → T h m k → U h m' k' → V h (m + m') (k + k')) → AreCountedFor w x T a b → AreCountedFor x v U b d → AreCountedFor w v V a d
counted_on w x v T U V a b d join (size, each) (size', each') = (
  size' ∙ size,
  λ h lt.
      let (m, k, tally, opened) = each h lt in
      let (m', k', tally', opened') = each' h (rw size lt) in
      let both = for_on m (3 * (m + k)) m' (3 * (m' + k')) (still w h) (still x h) (still v h) (slice_index a h) (slice_index b h) (slice_index d h) opened opened' in
      (m + m', k + k', join h m k m' k' tally tally', for_wider (m + m') (3 * (m + k) + 3 * (m' + k')) (3 * ((m + m') + (k + k'))) (still w h) (still v h) (slice_index a h) (slice_index d h) (omega arith) both),
)

-- the lines before line n were taken, these are left, and hours were opened so
pub record IsCountedOn (files : Files) (c : Settings) (lines : List (List ℕ)) (s0 : Store) (n : ℕ) (rest : List (List ℕ)) (s : Store) (w v : List Bool) (old now : List ℕ) : Type 0 where
  pub done : List (List ℕ)
  pub all : lines ≡ done ++ rest
  pub number : n ≡ 1 + length done
  pub counted : AreCountedFor w v (AreTallied files c 1 done s0 s) old now

pub counted_start : (files : Files) (c : Settings) (lines : List (List ℕ)) (s : Store) (n : ℕ) (w : List Bool) (old : List ℕ) → n ≡ 1 → IsCountedOn files c lines s n lines s w w old old
counted_start files c lines s n w old e = record {
  done = [];
  all = refl;
  number = e;
  counted = counted_still w (AreTallied files c 1 [] s s) old old refl (λ h. tally_none files c 1 s h);
}

-- a line of plain ones is plain
plain_at : (c : Settings) (done : List (List ℕ)) (l : List ℕ) (rest : List (List ℕ)) → ArePlain c (done ++ l ∷ rest) → IsPlain c (said c.window l)
plain_at c [] l rest all = All-head (λ (y : List ℕ). IsPlain c (said c.window y)) l rest all
plain_at c (x ∷ xs) l rest all = plain_at c xs l rest (All-tail (λ (y : List ℕ). IsPlain c (said c.window y)) x (xs ++ l ∷ rest) all)

pub line_plain : (files : Files) (c : Settings) (lines : List (List ℕ)) (s0 s : Store) (n : ℕ) (text line : List ℕ) (w v : List Bool) (old now : List ℕ) → 0 < length text → line ≡ first_line text → ArePlain c lines
    → IsCountedOn files c lines s0 n (lines_of text) s w v old now → IsPlain c (said c.window line)
line_plain files c lines s0 s n text line w v old now some l plain on =
    let all : lines ≡ on.done ++ line ∷ lines_of (after_line text) = on.all ∙ (rw (lines_next text some, ← l) refl) in
    plain_at c on.done line (lines_of (after_line text)) (rw all at plain)

-- one more line was taken
pub line_counted : (files : Files) (c : Settings) (lines : List (List ℕ)) (s0 : Store) (n m : ℕ) (text line after : List ℕ) (mid new : World) (s s' : Store) (r : Bool) (w x v : List Bool) (old now later : List ℕ)
    → 0 < length text → line ≡ first_line text → after ≡ after_line text → m ≡ n + 1
    → IsCountedOn files c lines s0 n (lines_of text) s w x old now
    → Takes (IsTurn files c n (said c.window line) s) mid new s' (Ok r) → AreCountedFor x v (LineTally files c (said c.window line) s) now later
    → IsCountedOn files c lines s0 m (lines_of after) s' w v old later
line_counted files c lines s0 n m text line after mid new s s' r w x v old now later some l a em on takes counts =
    let (t, turn, _, _, store, _) = takes in
    record {
      done = on.done ++ line ∷ [];
      all = on.all ∙ (rw (lines_next text some, ← l, ← a, append_assoc) refl);
      number = let e = on.number in rw length-append (omega arith);
      counted = counted_on w x v (AreTallied files c 1 on.done s0 s) (LineTally files c (said c.window line) s) (AreTallied files c 1 (on.done ++ line ∷ []) s0 s') old now later
          (λ h a k a' k' tally tally'. tally_more files c 1 n on.done line s0 s s' t h a k a' k' on.number tally turn store tally') on.counted counts;
    }

-- no line is left
pub lines_counted : (files : Files) (c : Settings) (lines : List (List ℕ)) (s0 s : Store) (n : ℕ) (text : List ℕ) (w v : List Bool) (old now : List ℕ) → length text ≡ 0 → IsCountedOn files c lines s0 n (lines_of text) s w v old now → AreCountedFor w v (ScriptTally files c lines s0) old now
lines_counted files c lines s0 s n text w v old now none on =
    let all : lines ≡ on.done = on.all ∙ (rw (lines_over text none, append-nil) refl) in
    rw all (same_tally w v (AreTallied files c 1 on.done s0 s) (ScriptTally files c on.done s0) old now (λ h m k tally. (s, tally)) on.counted)

-- ---- a run

-- where no numbers waited before
counted_none : (w v : List Bool) (Tally : ℕ → ℕ → ℕ → Type 0) (old now : List ℕ) → AllSettled w → AreCountedFor w v Tally old now → AreCounted Tally old now
counted_none w v Tally old now settled (size, each) = (
  size,
  λ h lt.
      let (m, k, tally, opened) = each h lt in
      let none : still w h ≡ 0 = rw (settled h) refl in
      (m, k, tally, for_none m (3 * (m + k)) (still w h) (still v h) (slice_index old h) (slice_index now h) none opened),
)

script_opens : (files : Files) (c : Settings) (script : List ℕ) (first : Store) (w v : List Bool) (old now : List ℕ) → first ≡ nothing_held c.window.hours → AllSettled w
    → (ArePlain c (lines_of script) → AreCountedFor w v (ScriptTally files c (lines_of script) first) old now) → OpensText files c for_lines old now (Some script)
script_opens files c script first w v old now e settled h plain =
    subst (λ (s : Store). AreCounted (ScriptTally files c (lines_of script) s) old now) e (counted_none w v (ScriptTally files c (lines_of script) first) old now settled (h plain))

pub script_counted : (files : Files) (c : Settings) (script : List ℕ) (first : Store) (w v : List Bool) (old now : List ℕ) (refused : Bool) → first ≡ nothing_held c.window.hours → AllSettled w
    → (ArePlain c (lines_of script) → AreCountedFor w v (ScriptTally files c (lines_of script) first) old now) → WhereTaken (status_of_run (Ok (ended_by refused))) (OpensText files c for_lines old now (Some script))
script_counted files c script first w v old now true e settled h = script_opens files c script first w v old now e settled h
script_counted files c script first w v old now false e settled h = script_opens files c script first w v old now e settled h

pub opened_in : (files : Files) (c c' : Settings) (script old now : List ℕ) (s : Status) → c' ≡ c → WhereTaken s (OpensText files c' for_lines old now (Some script)) → WhereTaken s (OpensText files c for_lines old now (Some script))
opened_in files c c' script old now s e h = subst (λ (x : Settings). WhereTaken s (OpensText files x for_lines old now (Some script))) e h

pub taken_not : (s : Stopped) (P : Type 0) → WhereTaken (status_of_run (Err s)) P
taken_not stopped.Fault P = tt
taken_not stopped.Memory P = tt

-- where there is nothing to say
pub taken_any : (st : Status) (P : Type 0) → P → WhereTaken st P
taken_any outer.Done P p = p
taken_any outer.SomeRefused P p = p
taken_any outer.Usage P p = tt
taken_any outer.BadConfig P p = tt
taken_any outer.Fault P p = tt
taken_any outer.Memory P p = tt
taken_any outer.NoFile P p = tt

pub taken_by : (st : Status) (P Q : Type 0) → (P → Q) → WhereTaken st P → WhereTaken st Q
taken_by outer.Done P Q f p = f p
taken_by outer.SomeRefused P Q f p = f p
taken_by outer.Usage P Q f p = tt
taken_by outer.BadConfig P Q f p = tt
taken_by outer.Fault P Q f p = tt
taken_by outer.Memory P Q f p = tt
taken_by outer.NoFile P Q f p = tt

-- a text that is there
pub text_counted : (P : Option (List ℕ) → Type 0) (want : Option (List ℕ)) (bytes bytes' : List ℕ) (st : Status) → want ≡ Some bytes → bytes' ≡ bytes → WhereTaken st (P (Some bytes')) → WhereTaken st (P want)
text_counted P want bytes bytes' st e eb h = rw e (subst (λ (x : List ℕ). WhereTaken st (P (Some x))) eb h)

pub answer_counted : (asked o : Option Asked) (files : Files) (old now : List ℕ) (st : Status) → asked ≡ o → WhereTaken st (OpensAsked files old now o) → WhereTaken st (OpensAsked files old now asked)
answer_counted asked o files old now st e h = rw e h

-- step by step: the words, the configuration's file, what it says, and the script's file
asked_opens : (files : Files) (old now : List ℕ) (asked : Option Asked) → OpensAsked files old now asked → OpensAnswer files old now asked
asked_opens files old now asked h config script bytes text c asks there reads lines plain =
    let file : OpensFile files for_lines script old now (limited (2 ^ 20) (files config)) = subst (λ (a : Option Asked). OpensAsked files old now a) asks h in
    let said : OpensConfig files for_lines script old now (config_of bytes) = subst (λ (b : Option (List ℕ)). OpensFile files for_lines script old now b) there file in
    let found : OpensText files c for_lines old now (limited (4 * 2 ^ 20) (files script)) = subst (λ (r : Read Settings). OpensConfig files for_lines script old now r) reads said in
    subst (λ (o : Option (List ℕ)). OpensText files c for_lines old now o) lines found plain

pub opens-of_asked : (told : Option Files) (s t : Status) (asked : Option Asked) (old now : List ℕ) → s ≡ t → ((files : Files) → told ≡ Some files → WhereTaken t (OpensAsked files old now asked)) → IfSome told (λ files. WhereTaken s (OpensAnswer files old now asked))
opens-of_asked told s t asked old now e h =
    if_some-from told (λ files. WhereTaken s (OpensAnswer files old now asked))
    (λ files is. subst (λ (x : Status). WhereTaken x (OpensAnswer files old now asked)) (sym e) (taken_by t (OpensAsked files old now asked) (OpensAnswer files old now asked) (asked_opens files old now asked) (h files is)))
