-- The lines of an audit, one hour after another.
use Rattle.std.proofs.Common.{◌≡◌, ◌<◌, ◌≤◌, ◌+◌, ◌-◌, ◌*◌, ◌++◌, ◌∙◌, ℕ, zero, suc, Bool, true, false, List, [], ◌∷◌, length, Option, Some, None, Result, Ok, Err, refl, sym, ap, subst, inl, inr, nat_lt, nat_eq, arith, append_assoc, append-nil, get_or}
use Rattle.std.specs.List.{All}
use Rattle.std.specs.Prelude.{if◌then◌else◌}
use Rattle.std.proofs.lemmas.Bool.{cases_Bool, eqb-true, lt-ltb, le-ltb}
use Rattle.std.proofs.lemmas.List.Elements.{All-append, All-cons, All-get_or, All-head, All-nil, All-same, All-tail, All-weaker, filter_passes}
use Rattle.outside.specs.Sink.{Stops, Taken, Writes}
use Rattle.sig_base.specs.Window.{Span}
use Rattle.sig_base.specs.declared.values.Row.{Row}
use Rattle.sig_base.specs.declared.values.Verdict.{Verdict}
use Rattle.sig_base.specs.declared.values.Verdict.TheVariants.{Idle, Kept, Broken, Undecided}
use Rattle.hour_store.specs.Store.{Store, is_known, known_rows, rows_of as all_rows_of}
use Rattle.channel_tables.specs.declared.spec.Spec.{Spec}
use Rattle.board.specs.Logs.{first_tenth, no_row}
use Rattle.ring_config.specs.Settings.{Settings}
use Rattle.signal_log.specs.Log.{HasHistory, log_of}
use Rattle.rule_audit.specs.declared.rules.Rule.{Rule}
use Rattle.rule_audit.specs.declared.lines.AuditLine.{AuditLine}
use Rattle.rule_audit.specs.declared.lines.Place.TheVariants.{BeforeRow, EndOfTenth}
use Rattle.rule_audit.specs.Rules.{rules_for}
use Rattle.rule_audit.specs.Obligations.{Obligation, end_obligations, is_due, obligation, is_timed_by, obligations_from, row_obligations, rows_obligations, tenth_obligations}
use Rattle.rule_audit.specs.Lines.{AreLinesOf, line_of, lines_of}
use Rattle.decisive.specs.Window.{IsCandidate, obligation_of}
use Rattle.session.specs.Windows.{AreHourLines, AreWithWindows, HasWindow, with_window}
use Rattle.hour_work.specs.Numbers.{Numbers, total_of}
use Rattle.hour_work.specs.Points.{is_known_before}
use Rattle.hour_work.specs.Verdicts.{AreAuditLines, HasStoreVerdict, obligations_in}
use Rattle.signal_log.specs.Rows.{hour_rows}
use Rattle.sig_base.specs.declared.values.EditError.TheVariants.{OutOfWindow}
use Rattle.decisive.proofs.Concluded.{known_within}
use Rattle.report_text.specs.declared.refusal.Refusal.TheVariants.{Edit}
use Rattle.sigaudit.specs.Turns.{refuses, writes}
use Rattle.report_text.specs.Audit.{EndIn, IsLineIn, audit_start, lines_text}
use Rattle.report_text.specs.Heads.{verdicts_head}
use Rattle.sigaudit.specs.Audit.{AddsHour, AreFailing, AreVerdicts, IsAudited, failing_at, failing_of}
use Rattle.hour_work.specs.Counts.{is_kept}
use Rattle.sigaudit.specs.Run.{TakesBy, TakesPut}
use Rattle.sigaudit.proofs.PartFacts.{IsTold, window_told}
use Rattle.sigaudit.proofs.TakeFacts.{by_refusal}
use Rattle.sigaudit.specs.declared.status.Stopped.{Stopped}
use Rattle.sigaudit.specs.declared.status.Stopped.TheVariants as stopped

-- ---- each line is at a tenth of its hour

if_one : {X : Type 0} (P : X → Type 0) (b : Bool) (x : X) → P x → All P (if b then x ∷ [] else [])
if_one P true x h = All-cons P x [] h (All-nil P)
if_one P false x h = All-nil P

row_at : (specs : List Spec) (i : ℕ) (r : Row) (n : ℕ) (rules : List Rule) → All (λ o. o.at ≡ r.at) (row_obligations specs i r n rules)
unfolding row_obligations
row_at specs i r n [] = All-nil (λ (o : Obligation). o.at ≡ r.at)
row_at specs i r n (x ∷ xs) =
    All-append (λ (o : Obligation). o.at ≡ r.at) (if is_timed_by specs r x then obligation n x r.at (BeforeRow i) ∷ [] else []) (row_obligations specs i r (n + 1) xs)
    (if_one (λ (o : Obligation). o.at ≡ r.at) (is_timed_by specs r x) (obligation n x r.at (BeforeRow i)) refl) (row_at specs i r (n + 1) xs)

-- those of a row, where the row is at the tenth
row_in : (specs : List Spec) (rules : List Rule) (t i : ℕ) (r : Row) → All (λ o. o.at ≡ t) (if nat_eq r.at t then row_obligations specs i r 1 rules else [])
row_in specs rules t i r = elim (cases_Bool (nat_eq r.at t)) [
  | inl y ↦ let e : r.at ≡ t = eqb-true r.at t y in rw y (All-weaker (λ (o : Obligation). o.at ≡ r.at) (λ (o : Obligation). o.at ≡ t) (λ o h. h ∙ e) (row_obligations specs i r 1 rules) (row_at specs i r 1 rules))
  | inr n ↦ rw n (All-nil (λ (o : Obligation). o.at ≡ t))
]

rows_at : (specs : List Spec) (rules : List Rule) (t i : ℕ) (rows : List Row) → All (λ o. o.at ≡ t) (rows_obligations specs rules t i rows)
unfolding rows_obligations
rows_at specs rules t i [] = All-nil (λ (o : Obligation). o.at ≡ t)
rows_at specs rules t i (r ∷ rs) =
    All-append (λ (o : Obligation). o.at ≡ t) (if nat_eq r.at t then row_obligations specs i r 1 rules else []) (rows_obligations specs rules t (i + 1) rs)
    (row_in specs rules t i r) (rows_at specs rules t (i + 1) rs)

end_at : (specs : List Spec) (rows : List Row) (before : Bool) (t n : ℕ) (rules : List Rule) → All (λ o. o.at ≡ t) (end_obligations specs rows before t n rules)
unfolding end_obligations
end_at specs rows before t n [] = All-nil (λ (o : Obligation). o.at ≡ t)
end_at specs rows before t n (x ∷ xs) =
    All-append (λ (o : Obligation). o.at ≡ t) (if is_due specs rows before t x then obligation n x t EndOfTenth ∷ [] else []) (end_obligations specs rows before t (n + 1) xs)
    (if_one (λ (o : Obligation). o.at ≡ t) (is_due specs rows before t x) (obligation n x t EndOfTenth) refl) (end_at specs rows before t (n + 1) xs)

-- those of a tenth, where it is known
tenth_at : (b : Bool) (specs : List Spec) (rules : List Rule) (rows : List Row) (before : Bool) (t : ℕ) → All (λ o. o.at ≡ t) (if b then tenth_obligations specs rules rows before t else [])
tenth_at true specs rules rows before t =
    All-append (λ (o : Obligation). o.at ≡ t) (rows_obligations specs rules t 0 rows) (end_obligations specs rows before t 1 rules) (rows_at specs rules t 0 rows) (end_at specs rows before t 1 rules)
tenth_at false specs rules rows before t = All-nil (λ (o : Obligation). o.at ≡ t)

-- an obligation is at one of the tenths before this one
abbrev IsBefore : ℕ → Obligation → Type 0
IsBefore t o = o.at < t

before_end : (known : ℕ → Bool) (specs : List Spec) (rules : List Rule) (rows : List Row) (before : Bool) (f n t : ℕ) → f + n ≤ t → All (IsBefore t) (obligations_from known specs rules rows before f n)
unfolding obligations_from
before_end known specs rules rows before f zero t h = All-nil (IsBefore t)
before_end known specs rules rows before f (suc n) t h =
    All-append (IsBefore t) (if known f then tenth_obligations specs rules rows before f else []) (obligations_from known specs rules rows (known f) (f + 1) n)
    (All-weaker (λ (o : Obligation). o.at ≡ f) (IsBefore t) (λ o e. omega arith) (if known f then tenth_obligations specs rules rows before f else []) (tenth_at (known f) specs rules rows before f))
    (before_end known specs rules rows (known f) (f + 1) n t (omega arith))

lines_of_before : (t : ℕ) (o : Obligation) (x : Verdict) → o.at < t → All (λ l. l.at < t) (lines_of o x)
lines_of_before t o Idle h = All-nil (λ (l : AuditLine). l.at < t)
lines_of_before t o Kept h = All-cons (λ (l : AuditLine). l.at < t) (line_of o Kept) [] h (All-nil (λ (l : AuditLine). l.at < t))
lines_of_before t o Broken h = All-cons (λ (l : AuditLine). l.at < t) (line_of o Broken) [] h (All-nil (λ (l : AuditLine). l.at < t))
lines_of_before t o Undecided h = All-cons (λ (l : AuditLine). l.at < t) (line_of o Undecided) [] h (All-nil (λ (l : AuditLine). l.at < t))

lines_before : (t : ℕ) (Has : Obligation → Verdict → Type 0) (os : List Obligation) (lines : List AuditLine) → All (IsBefore t) os → AreLinesOf Has os lines → All (λ l. l.at < t) lines
lines_before t Has [] lines all h = All-same (λ (l : AuditLine). l.at < t) lines [] h (All-nil (λ (l : AuditLine). l.at < t))
lines_before t Has (o ∷ os) lines all h =
    All-same (λ (l : AuditLine). l.at < t) lines (lines_of o h.0 ++ h.2.0) h.2.2
    (All-append (λ (l : AuditLine). l.at < t) (lines_of o h.0) h.2.0 (lines_of_before t o h.0 (All-head (IsBefore t) o os all)) (lines_before t Has os h.2.0 (All-tail (IsBefore t) o os all) h.2.1))

-- the lines of an hour are at tenths of the window
plain_within : (c : Settings) (s : Store) (hour : ℕ) (lines : List AuditLine) → hour < c.window.hours → AreAuditLines c s hour lines → All (λ l. l.at < 36000 * c.window.hours) lines
unfolding obligations_in
plain_within c s hour lines lt h =
    lines_before (36000 * c.window.hours) (HasStoreVerdict c s hour) (obligations_in c s hour) lines
    (before_end (is_known s) c.specs (rules_for c) (hour_rows s hour) (is_known_before (is_known s) (first_tenth hour)) (first_tenth hour) 36000 (36000 * c.window.hours) (omega arith)) h

-- ---- windows lie in the window of the configuration

known_row : (s : Store) (t k : ℕ) → k < length (known_rows s) → (get_or (known_rows s) k no_row).at ≡ t → t < 36000 * length s.hours
known_row s t k lt e =
    let all = filter_passes (λ r. is_known s r.at) (all_rows_of s.hours) in
    let known : is_known s (get_or (known_rows s) k no_row).at ≡ true = All-get_or (λ r. is_known s r.at ≡ true) (known_rows s) k no_row lt all in
    subst (λ (n : ℕ). n < 36000 * length s.hours) e (known_within s (get_or (known_rows s) k no_row).at known)

candidate_in : (specs : List Spec) (s : Store) (o : Obligation) (t : ℕ) → o.at < 36000 * length s.hours → IsCandidate (log_of specs s) o t → t < 36000 * length s.hours
candidate_in specs s o t own (inl (inl e)) = omega (arith, own, e)
candidate_in specs s o t own (inl (inr e)) = omega (arith, own, e)
candidate_in specs s o t own (inr (inl e)) = omega (arith, e)
candidate_in specs s o t own (inr (inr h)) = known_row s t h.place h.within h.at

ends_in : (c : Settings) (s : Store) (hour : ℕ) (l : AuditLine) (x : Option (ℕ × ℕ)) → length s.hours ≡ c.window.hours → l.at < 36000 * c.window.hours
    → HasWindow (log_of c.specs s) (rules_for c) (hour_rows s hour) l x → EndIn c.window x
ends_in c s hour l None size own h = tt
ends_in c s hour l (Some ends) size own h =
    let early : ends.0 ≤ l.at = h.1.begin.early in
    let last = candidate_in c.specs s (obligation_of (rules_for c) l) ends.1 (omega arith) h.1.end.candidate in
    (omega arith, omega (arith, last, size))

windowed_in : (c : Settings) (s : Store) (hour : ℕ) (plain lines : List AuditLine) → length s.hours ≡ c.window.hours → All (λ l. l.at < 36000 * c.window.hours) plain
    → AreWithWindows (log_of c.specs s) (rules_for c) (hour_rows s hour) plain lines → All (IsLineIn c.window) lines
windowed_in c s hour [] [] size own h = All-nil (IsLineIn c.window)
windowed_in c s hour [] (l ∷ ls) size own h = absurd h
windowed_in c s hour (p ∷ ps) [] size own h = absurd h
windowed_in c s hour (p ∷ ps) (l ∷ ls) size own h =
    let at = All-head (λ (x : AuditLine). x.at < 36000 * c.window.hours) p ps own in
    let one : IsLineIn c.window (with_window p h.0.0) = record { at = at; ends = ends_in c s hour p h.0.0 size at h.0.1 } in
    All-cons (IsLineIn c.window) l ls (subst (IsLineIn c.window) (sym h.0.2) one) (windowed_in c s hour ps ls size (All-tail (λ (x : AuditLine). x.at < 36000 * c.window.hours) p ps own) h.1)

pub lines_within : (c : Settings) (s : Store) (hour : ℕ) (lines : List AuditLine) → length s.hours ≡ c.window.hours → hour < c.window.hours → AreHourLines c s hour true lines → All (IsLineIn c.window) lines
lines_within c s hour lines size lt h = windowed_in c s hour h.0 lines size (plain_within c s hour h.0 lt h.1) h.2

pub lines_in : (c c' : Settings) (s : Store) (hour : ℕ) (lines lines' : List AuditLine) → c' ≡ c → length s.hours ≡ c.window.hours → hour < length s.hours → AreHourLines c s hour true lines → lines' ≡ lines
    → All (IsLineIn c'.window) lines'
lines_in c c' s hour lines lines' ec size lt h e = rw (ec, e) (lines_within c s hour lines size (rw (← size) lt) h)

-- ---- the broken and undecided lines

failing_one : (w : Span) (l : AuditLine) → IsLineIn w l → All (IsLineIn w) (failing_at l)
failing_one w l h = elim (cases_Bool (is_kept l.verdict)) as (λ _. All (IsLineIn w) (failing_at l)) [
  | inl y ↦ rw y (All-nil (IsLineIn w))
  | inr n ↦ rw n (All-cons (IsLineIn w) l [] h (All-nil (IsLineIn w)))
]

failing_all : (w : Span) (ls : List AuditLine) → All (IsLineIn w) ls → All (IsLineIn w) (failing_of ls)
failing_all w [] h = All-nil (IsLineIn w)
failing_all w (l ∷ ls) h =
    All-append (IsLineIn w) (failing_at l) (failing_of ls) (failing_one w l (All-head (IsLineIn w) l ls h)) (failing_all w ls (All-tail (IsLineIn w) l ls h))

failing_within : (c : Settings) (s : Store) (hour n : ℕ) (failing : List AuditLine) → length s.hours ≡ c.window.hours → hour + n ≤ c.window.hours → AreFailing c s hour n failing → All (IsLineIn c.window) failing
unfolding AreFailing
failing_within c s hour zero failing size le h = All-same (IsLineIn c.window) failing [] h (All-nil (IsLineIn c.window))
failing_within c s hour (suc n) failing size le h =
    All-same (IsLineIn c.window) failing (failing_of h.0 ++ h.1) h.4
    (All-append (IsLineIn c.window) (failing_of h.0) h.1 (failing_all c.window h.0 (lines_within c s hour h.0 size (omega arith) h.2)) (failing_within c s (hour + 1) n h.1 size (omega arith) h.3))

pub failing_in : (c c' : Settings) (s : Store) (failing failing' : List AuditLine) → c' ≡ c → length s.hours ≡ c.window.hours → AreFailing c s 0 c.window.hours failing → failing' ≡ failing
    → All (IsLineIn c'.window) failing'
failing_in c c' s failing failing' ec size h e = rw (ec, e) (failing_within c s 0 c.window.hours failing size (omega arith) h)

-- ---- one hour after another

failing_more : (c : Settings) (s : Store) (hour n : ℕ) (lines rest : List AuditLine) → AreHourLines c s hour true lines → AreFailing c s (hour + 1) n rest → AreFailing c s hour (suc n) (failing_of lines ++ rest)
unfolding AreFailing
failing_more c s hour n lines rest h k = (lines, rest, h, k, refl)

no_failing : (c : Settings) (s : Store) (hour : ℕ) → AreFailing c s hour zero []
unfolding AreFailing
no_failing c s hour = refl

-- these are the lines of the hours before this one
pub record FailingOn (c : Settings) (s : Store) (done : List AuditLine) (hour : ℕ) : Type 0 where
  pub whole : (rest : List AuditLine) → AreFailing c s hour (c.window.hours - hour) rest → AreFailing c s 0 c.window.hours (done ++ rest)

-- the hours left after one more of them
left_step : (n hour : ℕ) → hour < n → n - hour ≡ suc (n - (hour + 1))
left_step n hour h = omega arith

pub failing_on : (c : Settings) (s : Store) (old new : List AuditLine) (hour : ℕ) → hour < c.window.hours → FailingOn c s old hour → AddsHour c s hour old new → FailingOn c s new (hour + 1)
failing_on c s old new hour lt on h = record {
  whole = λ rest k.
      let more = failing_more c s hour (c.window.hours - (hour + 1)) h.0 rest h.1 k in
      let left = rw (← left_step c.window.hours hour lt) at more in
      let all : AreFailing c s 0 c.window.hours (old ++ (failing_of h.0 ++ rest)) = on.whole (failing_of h.0 ++ rest) left in
      subst (λ (zs : List AuditLine). AreFailing c s 0 c.window.hours zs) (sym (ap (λ (zs : List AuditLine). zs ++ rest) h.2 ∙ append_assoc old (failing_of h.0) rest)) all;
}

pub failing_done : (c : Settings) (s : Store) (done : List AuditLine) (hour : ℕ) → c.window.hours ≤ hour → FailingOn c s done hour → AreFailing c s 0 c.window.hours done
failing_done c s done hour past on =
    let e : c.window.hours - hour ≡ zero = omega arith in
    let last = on.whole [] (rw e (no_failing c s hour)) in
    rw append-nil at last

-- ---- an audit

audit_turn : (c : Settings) (n : ℕ) (s : Store) (all : List Numbers) (lines : List AuditLine) → IsTold c s all → AreFailing c s 0 c.window.hours lines
    → IsAudited c n s (writes (audit_start n c.specs (rules_for c) (total_of all).rules ++ lines_text c.window lines) s)
audit_turn c n s all lines told failing = (total_of all, lines, told.history, window_told c s all told, failing, refl)

-- it was written, or cut off in it
pub audit_done : (c c' : Settings) (n : ℕ) (s : Store) (all : List Numbers) (rules : List Rule) (total : Numbers) (lines lines' : List AuditLine) (w w' : Taken) → c' ≡ c → rules ≡ rules_for c → total ≡ total_of all
    → IsTold c s all → AreFailing c s 0 c.window.hours lines → lines' ≡ lines → Writes w w' (audit_start n c'.specs rules total.rules ++ lines_text c'.window lines') → TakesBy (IsAudited c n s) w w' s (Ok false)
audit_done c c' n s all rules total lines lines' w w' ec er et told failing el h =
    let h' = rw (ec, er, et, el) at h in
    (writes (audit_start n c.specs (rules_for c) (total_of all).rules ++ lines_text c.window lines) s, audit_turn c n s all lines told failing, h', refl, refl)

pub audit_cut : (c c' : Settings) (n : ℕ) (s : Store) (all : List Numbers) (rules : List Rule) (total : Numbers) (lines lines' : List AuditLine) (w w' : Taken) → c' ≡ c → rules ≡ rules_for c → total ≡ total_of all
    → IsTold c s all → AreFailing c s 0 c.window.hours lines → lines' ≡ lines → Stops w w' (audit_start n c'.specs rules total.rules ++ lines_text c'.window lines') → TakesBy (IsAudited c n s) w w' s (Err stopped.Fault)
audit_cut c c' n s all rules total lines lines' w w' ec er et told failing el h =
    let h' = rw (ec, er, et, el) at h in
    (writes (audit_start n c.specs (rules_for c) (total_of all).rules ++ lines_text c.window lines) s, audit_turn c n s all lines told failing, h')

-- ---- the verdicts of an hour

verdicts_turn : (c : Settings) (n hour : ℕ) (s : Store) (lines : List AuditLine) → HasHistory (log_of c.specs s) → AreHourLines c s hour true lines → AreVerdicts c n hour s true (writes (verdicts_head n hour ++ lines_text c.window lines) s)
verdicts_turn c n hour s lines some h = (lines, some, h, refl)

pub verdicts_done : (c c' : Settings) (n hour : ℕ) (s : Store) (lines lines' : List AuditLine) (w w' : Taken) → c' ≡ c → lines' ≡ lines → HasHistory (log_of c.specs s) → AreHourLines c s hour true lines
    → Writes w w' (verdicts_head n hour ++ lines_text c'.window lines') → TakesBy (AreVerdicts c n hour s true) w w' s (Ok false)
verdicts_done c c' n hour s lines lines' w w' ec el some h k =
    let k' = rw (ec, el) at k in
    (writes (verdicts_head n hour ++ lines_text c.window lines) s, verdicts_turn c n hour s lines some h, k', refl, refl)

pub verdicts_cut : (c c' : Settings) (n hour : ℕ) (s : Store) (lines lines' : List AuditLine) (w w' : Taken) → c' ≡ c → lines' ≡ lines → HasHistory (log_of c.specs s) → AreHourLines c s hour true lines
    → Stops w w' (verdicts_head n hour ++ lines_text c'.window lines') → TakesBy (AreVerdicts c n hour s true) w w' s (Err stopped.Fault)
verdicts_cut c c' n hour s lines lines' w w' ec el some h k =
    let k' = rw (ec, el) at k in
    (writes (verdicts_head n hour ++ lines_text c.window lines) s, verdicts_turn c n hour s lines some h, k')

-- an hour that the window has, or hasn't
pub verdicts_inside : (c : Settings) (n hour : ℕ) (s : Store) (w w' : Taken) (r : Result Bool Stopped) → hour < c.window.hours
    → TakesBy (AreVerdicts c n hour s true) w w' s r → TakesBy (AreVerdicts c n hour s (nat_lt hour c.window.hours)) w w' s r
verdicts_inside c n hour s w w' r lt h = rw (lt-ltb hour c.window.hours lt) h

pub verdicts_outside : (c c' : Settings) (n hour : ℕ) (s : Store) (w w' : Taken) (r : Result Bool Stopped) → c' ≡ c → c.window.hours ≤ hour
    → ((x : Store) → TakesPut (refuses c' n (Edit OutOfWindow) x) w w' x r) → TakesBy (AreVerdicts c n hour s (nat_lt hour c.window.hours)) w w' s r
verdicts_outside c c' n hour s w w' r ec past h =
    rw (le-ltb hour c.window.hours past) (by_refusal (AreVerdicts c n hour s false) c c' n (Edit OutOfWindow) s w w' r ec refl h)
