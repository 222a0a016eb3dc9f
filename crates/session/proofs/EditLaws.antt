-- Stores before and after an edit, with their reports.
use Rattle.std.proofs.Common.{◌≡◌, ◌∙◌, ℕ, zero, suc, ℤ, pos, ◌+◌, ◌-◌, ◌*◌, ◌<◌, ◌≤◌, ◌<ℤ◌, ◌≤ℤ◌, true, false, nat_le, nat_lt, int_lt, List, [], ◌∷◌, length, set, Option, Some, None, is_some, refl, sym, ap, subst, arith, OnOk, OnErr, IfErr, Result, Ok, Err}
use Rattle.std.proofs.lemmas.Int.{ints}
use Rattle.std.proofs.lemmas.Bool.Decides.{nat_tests}
use Rattle.std.specs.Int.Signed.{le_z}
use Rattle.std.proofs.lemmas.List.{set-get_or}
use Rattle.std.proofs.lemmas.List.Sums.{sum_by-set}
use Rattle.sig_base.specs.HourRows.{Shown}
use Rattle.sig_base.specs.declared.values.Applied.{Applied}
use Rattle.sig_base.specs.declared.values.EditError.{EditError}
use Rattle.sig_base.specs.declared.values.EditError.TheVariants as edit
use Rattle.span_set.specs.declared.set.Span.{Span}
use Rattle.span_set.specs.Spans.{AreRanges}
use Rattle.hour_store.specs.Store.{IsStore, LieWithin, Store, count_in, held_at, rows_held, with_blanks, with_hour}
use Rattle.ring_config.specs.Settings.{Settings}
use Rattle.ring_config.specs.Sound.{IsSound}
use Rattle.signal_log.specs.Log.{HasHistory, log_of}
use Rattle.signal_log.proofs.Lawful.{no_history}
use Rattle.rule_audit.proofs.Tracked.{channels_are}
use Rattle.hour_work.specs.declared.steps.ForwardError.{ForwardError}
use Rattle.hour_work.specs.declared.steps.ForwardError.TheVariants as forward
use Rattle.hour_work.specs.Points.{NamesRow}
use Rattle.session.specs.Edits.{blank, load, reaches_out, replace, withdraw, step_of, unblank, unless_many_blanks}
use Rattle.session.specs.Ranges.{With, Without}
use Rattle.session.specs.Sessions.{MayWantMemory, Steps, StopsAt, refusal_for}
use Rattle.session.proofs.RangeLaws.{with_is, without_is}

set_set : {X : Type 0} (xs : List X) (i : ℕ) (x y : X) → set (set xs i x) i y ≡ set xs i y
set_set [] i x y = refl
set_set (z ∷ xs) zero x y = refl
set_set (z ∷ xs) (suc i) x y = ap (λ v. z ∷ v) (set_set xs i x y)

-- what was held of an hour is put back
pub hour_back : (s : Store) (h : ℕ) (x : Option Shown) → with_hour (with_hour s h x) h (held_at s h) ≡ s
hour_back s h x = ap (λ v. record s { hours = v }) (set_set s.hours h x (held_at s h) ∙ set-get_or s.hours h None)

-- how many rows are held after a change of one hour
pub rows_changed : (s : Store) (h : ℕ) (r : Shown) (all count old : ℕ) → h < length s.hours → all ≡ rows_held s → length r.rows ≡ count → old ≡ count_in (held_at s h) → (all + count) - old ≡ rows_held (with_hour s h (Some r))
rows_changed s h r all count old lt a b c =
    let e = sum_by-set count_in s.hours h (Some r) None lt in
    omega arith

steps_stopped : (c : Settings) (to : Result Store EditError) (old t new : Store) (e : EditError) → to ≡ Ok t → new ≡ old → StopsAt c t e → Steps c to old new (Err e)
steps_stopped c to old t new (edit.Contradiction row) is same stop = (same, (t, is, stop.0, stop.1))
steps_stopped c to old t new edit.Memory is same stop = (same, subst MayWantMemory (sym is) tt)
steps_stopped c to old t new edit.OutOfWindow is same stop = absurd stop
steps_stopped c to old t new edit.AlreadyHeld is same stop = absurd stop
steps_stopped c to old t new edit.NotHeld is same stop = absurd stop
steps_stopped c to old t new edit.EmptyRange is same stop = absurd stop
steps_stopped c to old t new edit.TooManyRows is same stop = absurd stop
steps_stopped c to old t new edit.TooManyBlanks is same stop = absurd stop

-- an edit that no refusal before a contradiction meets
pub steps_done : (c : Settings) (to : Result Store EditError) (old t new : Store) (result : Result Applied EditError) → to ≡ Ok t → OnOk result ((new ≡ t) × HasHistory (log_of c.specs t)) → OnErr result (new ≡ old) → IfErr result (StopsAt c t) → Steps c to old new result
steps_done c to old t new (Ok x) is done back stop = (is ∙ ap Ok (sym done.0), subst (λ s. HasHistory (log_of c.specs s)) (sym done.0) done.1)
steps_done c to old t new (Err e) is done back stop = steps_stopped c to old t new e is back stop

-- why an edit is refused on the way
pub stops_at : (c : Settings) (s : Store) (e : ForwardError) (refusal : EditError) → refusal ≡ refusal_for e → IsSound c → IsStore s → NamesRow (log_of c.specs s) e → StopsAt c s refusal
stops_at c s (forward.Contradiction row) refusal is sound store stop = rw is (stop, no_history c.specs s row (channels_are c sound) store stop)
stops_at c s forward.Memory refusal is sound store stop = rw is tt

-- a range that doesn't reach out of a window
pub inside : (hours : ℕ) (f t : ℤ) → reaches_out hours f t ≡ false → (pos 0 ≤ℤ f) × (t ≤ℤ pos (36000 * hours))
inside hours f t e = (grind (arith, ints), grind (arith, ints))

pub in_order : (t f : ℤ) → le_z t f ≡ false → f <ℤ t
in_order t f e = grind (arith, ints)

-- the store with the ranges that a blanking makes
pub blank_step : (s : Store) (hours : ℕ) (f t : ℤ) (ns : List Span) → hours ≡ length s.hours → hours ≤ 744 → LieWithin (length s.hours) s.blanks → reaches_out hours f t ≡ false → f <ℤ t → AreRanges ns → With s.blanks f t ns
    → step_of s (blank f t) ≡ unless_many_blanks (with_blanks s ns)
unfolding step_of
blank_step s hours f t ns n few l out some an w =
    let p = inside hours f t out in
    let m : reaches_out (length s.hours) f t ≡ false = rw n at out in
    let high = rw n at p.1 in
    let e = with_is s (length s.hours) f t ns (rw n at few) l p.0 high an w in
    let o : int_lt f t ≡ true = grind (arith, ints) in
    rw (m, o, ← e) refl

pub unblank_step : (s : Store) (hours : ℕ) (f t : ℤ) (ns : List Span) → hours ≡ length s.hours → hours ≤ 744 → LieWithin (length s.hours) s.blanks → reaches_out hours f t ≡ false → f <ℤ t → AreRanges ns → Without s.blanks f t ns
    → step_of s (unblank f t) ≡ unless_many_blanks (with_blanks s ns)
unfolding step_of
unblank_step s hours f t ns n few l out some an w =
    let m : reaches_out (length s.hours) f t ≡ false = rw n at out in
    let e = without_is s (length s.hours) f t ns (rw n at few) l an w in
    let o : int_lt f t ≡ true = grind (arith, ints) in
    rw (m, o, ← e) refl

pub many_blanks : (s : Store) (ns : List Span) → 10000 < length ns → unless_many_blanks (with_blanks s ns) ≡ Err edit.TooManyBlanks
many_blanks s ns more = let e : nat_lt 10000 (length ns) ≡ true = grind (arith, nat_tests) in rw e refl

pub few_blanks : (s : Store) (ns : List Span) → length ns ≤ 10000 → unless_many_blanks (with_blanks s ns) ≡ Ok (with_blanks s ns)
few_blanks s ns few = let e : nat_lt 10000 (length ns) ≡ false = grind (arith, nat_tests) in rw e refl

-- the store after a load, a replacement and a withdrawal that nothing refuses
load_here : (s : Store) (r : Shown) → r.hour < length s.hours → is_some (held_at s r.hour) ≡ false → rows_held (with_hour s r.hour (Some r)) ≤ 20000000 → step_of s (load r) ≡ Ok (with_hour s r.hour (Some r))
unfolding step_of
load_here s r lt held few =
    let a : nat_le (length s.hours) r.hour ≡ false = grind (arith, nat_tests) in
    let b : nat_lt 20000000 (rows_held (with_hour s r.hour (Some r))) ≡ false = grind (arith, nat_tests) in
    rw (a, held, b) refl

pub load_step : (s : Store) (r : Shown) (h : ℕ) → h ≡ r.hour → h < length s.hours → is_some (held_at s h) ≡ false → rows_held (with_hour s h (Some r)) ≤ 20000000 → step_of s (load r) ≡ Ok (with_hour s h (Some r))
load_step s r h e = subst (λ (k : ℕ). k < length s.hours → is_some (held_at s k) ≡ false → rows_held (with_hour s k (Some r)) ≤ 20000000 → step_of s (load r) ≡ Ok (with_hour s k (Some r))) (sym e) (load_here s r)

replace_here : (s : Store) (r : Shown) → r.hour < length s.hours → is_some (held_at s r.hour) ≡ true → rows_held (with_hour s r.hour (Some r)) ≤ 20000000 → step_of s (replace r) ≡ Ok (with_hour s r.hour (Some r))
unfolding step_of
replace_here s r lt held few =
    let a : nat_le (length s.hours) r.hour ≡ false = grind (arith, nat_tests) in
    let b : nat_lt 20000000 (rows_held (with_hour s r.hour (Some r))) ≡ false = grind (arith, nat_tests) in
    rw (a, held, b) refl

pub replace_step : (s : Store) (r : Shown) (h : ℕ) → h ≡ r.hour → h < length s.hours → is_some (held_at s h) ≡ true → rows_held (with_hour s h (Some r)) ≤ 20000000 → step_of s (replace r) ≡ Ok (with_hour s h (Some r))
replace_step s r h e = subst (λ (k : ℕ). k < length s.hours → is_some (held_at s k) ≡ true → rows_held (with_hour s k (Some r)) ≤ 20000000 → step_of s (replace r) ≡ Ok (with_hour s k (Some r))) (sym e) (replace_here s r)

pub withdraw_step : (s : Store) (h : ℕ) → h < length s.hours → is_some (held_at s h) ≡ true → step_of s (withdraw h) ≡ Ok (with_hour s h None)
unfolding step_of
withdraw_step s h lt held =
    let a : nat_le (length s.hours) h ≡ false = grind (arith, nat_tests) in
    rw (a, held) refl
