-- It can't be that an hour of a store has no audit lines, nor that it has none with their windows.
use Rattle.std.proofs.Common.{◌≡◌, refl, ◌⊎◌, inl, inr, ℕ, zero, suc, ◌+◌, ◌-◌, ◌<◌, ◌≤◌, ℤ, pos, ◌+ℤ◌, Bool, true, false, nat_eq, List, [], ◌∷◌, ◌++◌, length, get_or, Option, Some, None, arith}
use Rattle.std.specs.Prelude.{if◌then◌else◌}
use Rattle.std.specs.Int.Signed.{le_z}
use Rattle.std.proofs.lemmas.Int.{ints}
use Rattle.std.proofs.lemmas.Bool.{cases_Bool, cases_eq}
use Rattle.std.specs.Int.{bit_at}
use Rattle.sig_base.specs.declared.values.Row.{Row}
use Rattle.sig_base.specs.declared.values.Verdict.{Verdict}
use Rattle.sig_base.specs.declared.values.Verdict.TheVariants.{Idle, Kept, Broken, Undecided}
use Rattle.sig_base.proofs.Each.{each_join, each_if, Each}
use Rattle.channel_tables.specs.declared.spec.Spec.{Spec}
use Rattle.reach.specs.Runs.{State}
use Rattle.reach.specs.Tests.{InBound}
use Rattle.reach.specs.declared.seen.AgeBound.{AgeBound}
use Rattle.reach.specs.declared.seen.AgeBound.TheVariants.{Any, AtLeast, AtMost}
use Rattle.hour_store.specs.Store.{IsStore, Store, is_known}
use Rattle.board.specs.declared.clause.Term.{Term}
use Rattle.board.specs.Logs.{first_tenth, no_row, no_spec}
use Rattle.board.specs.Verdicts.{IsVerdict, Keeps}
use Rattle.ring_config.specs.declared.items.IntervalItem.{IntervalItem}
use Rattle.ring_config.specs.Settings.{Settings}
use Rattle.ring_config.specs.Sound.{IsSound}
use Rattle.signal_log.specs.Log.{HasHistory, Log, log_of, window_end}
use Rattle.signal_log.specs.Rows.{hour_rows}
use Rattle.rule_audit.specs.declared.rules.Rule.{Rule}
use Rattle.rule_audit.specs.declared.rules.Rule.TheVariants.{Interval, Conflict, Companion, Parents}
use Rattle.rule_audit.specs.declared.lines.Place.{Place}
use Rattle.rule_audit.specs.declared.lines.Place.TheVariants.{BeforeRow, EndOfTenth}
use Rattle.rule_audit.specs.declared.lines.AuditLine.{AuditLine}
use Rattle.rule_audit.specs.Index.{no_rule}
use Rattle.rule_audit.specs.Judged.{Closes, IsIntervalVerdict, IsRuleVerdict, KeepsInterval, States}
use Rattle.rule_audit.specs.Lines.{AreLinesOf, lines_of}
use Rattle.rule_audit.specs.Obligations.{Obligation, end_obligation, end_obligations, is_row_of, obligation, obligations_from, row_obligation, row_obligations, rows_obligations, tenth_obligations}
use Rattle.rule_audit.specs.Pass.{FitsRule}
use Rattle.rule_audit.specs.Rules.{rules_for}
use Rattle.rule_audit.proofs.Fitting.{rules_fit}
use Rattle.rule_audit.proofs.Tracked.{channels_are}
use Rattle.decisive.specs.Window.{HasLogVerdict, IsBrokenLine, IsCandidate, IsDecisive, IsGreatestTo, IsLeastFrom, obligation_of, only}
use Rattle.decisive.proofs.Concluded.{at_place, whole_broken, known_within}
use Rattle.hour_work.specs.Points.{is_known_before}
use Rattle.hour_work.specs.Verdicts.{AreAuditLines, HasStoreVerdict, obligations_in, states_in}
use Rattle.hour_work.proofs.PlacedLaws.{each_weaker}
use Rattle.hour_work.specs.Counts.{is_broken}
use Rattle.session.specs.Windows.{AreHourLines, AreWithWindows, HasWindow, with_window}
use Rattle.session.proofs.WindowLaws.{lines_in, all_if}
use Rattle.transcript_laws.specs.Exists.{NotNone}
use Rattle.transcript_laws.proofs.Chance.{decided, greatest, least, some, then as after, with}

-- ---- what is kept can't be unkept

bound_stable : (b : AgeBound) (t e : ℤ) → NotNone (InBound b t e) → InBound b t e
bound_stable Any t e h = tt
bound_stable (AtLeast n) t e h = elim (cases_Bool (le_z (e +ℤ pos n) t)) [
  | inl in_bound ↦ grind (arith, ints)
  | inr off ↦ absurd (h (λ k. grind (arith, ints)))
]
bound_stable (AtMost n) t e h = elim (cases_Bool (le_z t (e +ℤ pos n))) [
  | inl in_bound ↦ grind (arith, ints)
  | inr off ↦ absurd (h (λ k. grind (arith, ints)))
]

interval_stable : (s : Spec) (r : Row) (item : IntervalItem) (v : State) → NotNone (KeepsInterval s r item v) → KeepsInterval s r item v
interval_stable s r item v h closes = bound_stable item.bound (pos r.at) v.entry (λ out. h (λ k. out (k closes)))

keeps_or : (terms : List Term) (v : ℕ → State) → Keeps terms v ⊎ (Keeps terms v → ⊥)
keeps_or [] v = inr (λ k. k)
keeps_or (c ∷ cs) v = elim (cases_eq (bit_at c.colours (v c.spec).colour) 1) [
  | inl has ↦ inl (inl has)
  | inr out ↦ elim (keeps_or cs v) [
    | inl more ↦ inl (inr more)
    | inr none ↦ inr (λ k. elim k [ inl has ↦ out has | inr more ↦ none more ])
  ]
]

clause_stable : (terms : List Term) (v : ℕ → State) → NotNone (Keeps terms v) → Keeps terms v
clause_stable terms v h = elim (keeps_or terms v) [ inl k ↦ k | inr out ↦ absurd (h out) ]

-- ---- verdicts

-- there is a verdict on an interval, whatever states there may be
pub interval_exists : (P C K : State → Type 0) → ((v : State) → NotNone (K v) → K v) → NotNone ((x : Verdict) × IsIntervalVerdict x P C K)
interval_exists P C K stable = after (decided ((v : State) × P v × C v)) (λ d. elim d [
  | inr none ↦ some (Idle, λ v p c. none (v, p, c))
  | inl there ↦ after (decided ((v : State) × P v × K v)) (λ e. elim e [
    | inr none ↦ some (Broken, (there, λ v p k. none (v, p, k)))
    | inl kept ↦ with (decided ((v : State) × P v × (K v → ⊥))) (λ f. elim f [
      | inr none ↦ (Kept, (there, λ v p. stable v (λ out. none (v, p, out))))
      | inl out ↦ (Undecided, (kept, out))
    ])
  ])
])

-- and on a clause
pub clause_exists : (P K : (ℕ → State) → Type 0) → ((v : ℕ → State) → NotNone (K v) → K v) → NotNone ((x : Verdict) × IsVerdict x P K)
clause_exists P K stable = after (decided ((v : ℕ → State) × P v × K v)) (λ d. elim d [
  | inr none ↦ some (Broken, λ v p k. none (v, p, k))
  | inl kept ↦ with (decided ((v : ℕ → State) × P v × (K v → ⊥))) (λ e. elim e [
    | inr none ↦ (Kept, λ v p. stable v (λ out. none (v, p, out)))
    | inl out ↦ (Undecided, (kept, out))
  ])
])

-- an interval rule is judged before rows, a clause at the end of tenths
abbrev IsShaped : Place → Rule → Type 0
IsShaped (BeforeRow n) (Interval item) = Unit {0}
IsShaped (BeforeRow n) (Conflict a b terms) = ⊥
IsShaped (BeforeRow n) (Companion p terms) = ⊥
IsShaped (BeforeRow n) (Parents o terms) = ⊥
IsShaped EndOfTenth (Interval item) = ⊥
IsShaped EndOfTenth (Conflict a b terms) = Unit {0}
IsShaped EndOfTenth (Companion p terms) = Unit {0}
IsShaped EndOfTenth (Parents o terms) = Unit {0}

rule_verdict_exists : (states : States) (specs : List Spec) (rows : List Row) (t : ℕ) (place : Place) (rule : Rule) → IsShaped place rule → NotNone ((x : Verdict) × IsRuleVerdict states specs rows t place rule x)
rule_verdict_exists states specs rows t (BeforeRow n) (Interval item) shaped =
    let s = get_or specs item.spec no_spec in
    let r = get_or rows n no_row in
    interval_exists (states.before_row n item.spec) (Closes s r item) (KeepsInterval s r item) (interval_stable s r item)
rule_verdict_exists states specs rows t (BeforeRow n) (Conflict a b terms) shaped = absurd shaped
rule_verdict_exists states specs rows t (BeforeRow n) (Companion p terms) shaped = absurd shaped
rule_verdict_exists states specs rows t (BeforeRow n) (Parents o terms) shaped = absurd shaped
rule_verdict_exists states specs rows t EndOfTenth (Interval item) shaped = absurd shaped
rule_verdict_exists states specs rows t EndOfTenth (Conflict a b terms) shaped = clause_exists (states.at_end t) (Keeps terms) (clause_stable terms)
rule_verdict_exists states specs rows t EndOfTenth (Companion p terms) shaped = clause_exists (states.at_end t) (Keeps terms) (clause_stable terms)
rule_verdict_exists states specs rows t EndOfTenth (Parents o terms) shaped = clause_exists (states.at_end t) (Keeps terms) (clause_stable terms)

-- ---- obligations

abbrev Shaped : Obligation → Type 0
Shaped o = IsShaped o.place o.rule

row_shaped : (specs : List Spec) (i : ℕ) (r : Row) (n : ℕ) (x : Rule) → Each Shaped (row_obligation specs i r n x)
row_shaped specs i r n (Interval item) = each_if Shaped (is_row_of specs r item.spec) (obligation n (Interval item) r.at (BeforeRow i)) tt
row_shaped specs i r n (Conflict a b terms) = tt
row_shaped specs i r n (Companion p terms) = tt
row_shaped specs i r n (Parents o terms) = tt

all_of_row : (specs : List Spec) (i : ℕ) (r : Row) (n : ℕ) (xs : List Rule) → Each Shaped (row_obligations specs i r n xs)
unfolding row_obligations
all_of_row specs i r n [] = tt
all_of_row specs i r n (x ∷ xs) = each_join Shaped (row_obligation specs i r n x) (row_obligations specs i r (n + 1) xs) (row_shaped specs i r n x) (all_of_row specs i r (n + 1) xs)

all_of_rows : (specs : List Spec) (rules : List Rule) (t i : ℕ) (rs : List Row) → Each Shaped (rows_obligations specs rules t i rs)
unfolding rows_obligations
all_of_rows specs rules t i [] = tt
all_of_rows specs rules t i (r ∷ rs) =
    each_join Shaped (if nat_eq r.at t then row_obligations specs i r 1 rules else []) (rows_obligations specs rules t (i + 1) rs)
    (all_if Shaped (nat_eq r.at t) (row_obligations specs i r 1 rules) (all_of_row specs i r 1 rules))
    (all_of_rows specs rules t (i + 1) rs)

end_shaped : (specs : List Spec) (rows : List Row) (before : Bool) (t n : ℕ) (x : Rule) → Each Shaped (end_obligation specs rows before t n x)
end_shaped specs rows before t n (Interval item) = tt
end_shaped specs rows before t n (Conflict a b terms) = each_if Shaped _ (obligation n (Conflict a b terms) t EndOfTenth) tt
end_shaped specs rows before t n (Companion p terms) = each_if Shaped _ (obligation n (Companion p terms) t EndOfTenth) tt
end_shaped specs rows before t n (Parents o terms) = each_if Shaped _ (obligation n (Parents o terms) t EndOfTenth) tt

all_of_end : (specs : List Spec) (rows : List Row) (before : Bool) (t n : ℕ) (xs : List Rule) → Each Shaped (end_obligations specs rows before t n xs)
unfolding end_obligations
all_of_end specs rows before t n [] = tt
all_of_end specs rows before t n (x ∷ xs) = each_join Shaped (end_obligation specs rows before t n x) (end_obligations specs rows before t (n + 1) xs) (end_shaped specs rows before t n x) (all_of_end specs rows before t (n + 1) xs)

all_shaped : (known : ℕ → Bool) (specs : List Spec) (rules : List Rule) (rows : List Row) (before : Bool) (t n : ℕ) → Each Shaped (obligations_from known specs rules rows before t n)
unfolding obligations_from
all_shaped known specs rules rows before t zero = tt
all_shaped known specs rules rows before t (suc n) =
    each_join Shaped (if known t then tenth_obligations specs rules rows before t else []) (obligations_from known specs rules rows (known t) (t + 1) n)
    (all_if Shaped (known t) (tenth_obligations specs rules rows before t)
    (each_join Shaped (rows_obligations specs rules t 0 rows) (end_obligations specs rows before t 1 rules) (all_of_rows specs rules t 0 rows) (all_of_end specs rows before t 1 rules)))
    (all_shaped known specs rules rows (known t) (t + 1) n)

-- ---- lines

-- where each obligation has a verdict, they have lines
pub lines_exist : (Has : Obligation → Verdict → Type 0) (os : List Obligation) → Each (λ o. NotNone ((x : Verdict) × Has o x)) os → NotNone ((lines : List AuditLine) × AreLinesOf Has os lines)
lines_exist Has [] h = some ([], refl)
lines_exist Has (o ∷ os) h = after h.0 (λ (x, is). with (lines_exist Has os h.1) (λ (rest, are). (lines_of o x ++ rest, (x, is, (rest, are, refl)))))

-- it can't be that an hour of a store has no audit lines
pub audit_exists : (c : Settings) (s : Store) (hour : ℕ) → IsSound c → IsStore s → HasHistory (log_of c.specs s) → hour < length s.hours → NotNone ((lines : List AuditLine) × AreAuditLines c s hour lines)
unfolding obligations_in
audit_exists c s hour sound is has lt =
    let rows = hour_rows s hour in
    let os = obligations_from (is_known s) c.specs (rules_for c) rows (is_known_before (is_known s) (first_tenth hour)) (first_tenth hour) 36000 in
    let shaped = all_shaped (is_known s) c.specs (rules_for c) rows (is_known_before (is_known s) (first_tenth hour)) (first_tenth hour) 36000 in
    lines_exist (HasStoreVerdict c s hour) os (each_weaker Shaped (λ o. NotNone ((x : Verdict) × HasStoreVerdict c s hour o x)) os (λ o h. rule_verdict_exists (states_in c s rows) c.specs rows o.at o.place o.rule h) shaped)

-- ---- windows

-- of candidates one is the least from a number on, where some such one holds
least_exists : (C B : ℕ → Type 0) (low v : ℕ) → C v → low ≤ v → B v → NotNone ((x : ℕ) × IsLeastFrom C B low x)
least_exists C B low v cand late holds = with (least (λ x. C x × (low ≤ x) × B x) v (cand, late, holds)) (λ (x, le, (c, l, b), none). (
  x,
  record {
    candidate = c;
    late = l;
    holds = b;
    least = λ w cw lw lt bw. none w lt (cw, lw, bw);
  },
))

-- and one the greatest up to a number
greatest_exists : (C B : ℕ → Type 0) (high u : ℕ) → C u → u ≤ high → B u → NotNone ((x : ℕ) × IsGreatestTo C B high x)
greatest_exists C B high u cand early holds = with (greatest (λ x. C x × B x) high u early (cand, holds)) (λ (x, le, (c, b), none). (
  x,
  record {
    candidate = c;
    early = le;
    holds = b;
    greatest = λ w cw hw lt bw. none w lt hw (cw, bw);
  },
))

-- what is broken over all tenths of a window has a decisive one
pub decisive_exists : (log : Log) (rows : List Row) (o : Obligation) (last : ℕ) → last + 1 ≡ window_end log → o.at ≤ last → HasLogVerdict (only 0 last log) rows o Broken → NotNone ((u : ℕ) × (v : ℕ) × IsDecisive log rows o u v)
decisive_exists log rows o last end le broken =
    let C = IsCandidate log o in
    after (least_exists C (λ w. HasLogVerdict (only 0 w log) rows o Broken) o.at last (inr (inl end)) le broken) (λ (v, least_is).
    with (greatest_exists C (λ w. HasLogVerdict (only w v log) rows o Broken) o.at 0 (inl (inr refl)) (omega arith) least_is.holds) (λ (u, greatest_is).
    (u, v, record { end = least_is; begin = greatest_is })))

-- a broken line of a store has a decisive window
pub window_exists : (c : Settings) (s : Store) (rows : List Row) (line : AuditLine) → IsSound c → HasHistory (log_of c.specs s) → IsBrokenLine (log_of c.specs s) (rules_for c) rows line → NotNone ((u : ℕ) × (v : ℕ) × IsDecisive (log_of c.specs s) rows (obligation_of (rules_for c) line) u v)
window_exists c s rows line sound has is =
    let log = log_of c.specs s in
    let o = obligation_of (rules_for c) line in
    let low = is.some_rule in
    let high = is.last_rule in
    let within = is.within in
    let inside : line.rule - 1 < length (rules_for c) = omega arith in
    let fits : FitsRule c.specs o.rule = rules_fit c sound (line.rule - 1) no_rule inside in
    let at = at_place log rows line.rule line.at line.place o.rule within is.is_known fits is.place in
    let last = window_end log - 1 in
    let end : last + 1 ≡ window_end log = omega arith in
    let le : line.at ≤ last = omega arith in
    let whole = whole_broken log rows o last (channels_are c sound) has at (λ t k. let w = known_within s t k in omega arith) is.broken in
    decisive_exists log rows o last end le whole

-- lines have windows where each has one
windows_exist : (log : Log) (rules : List Rule) (rows : List Row) (ps : List AuditLine) → ((k : ℕ) (d : AuditLine) → k < length ps → NotNone ((w : Option (ℕ × ℕ)) × HasWindow log rules rows (get_or ps k d) w)) → NotNone ((ls : List AuditLine) × AreWithWindows log rules rows ps ls)
windows_exist log rules rows [] h = some ([], tt)
windows_exist log rules rows (p ∷ ps) h = after (h 0 p (omega arith)) (λ (w, has). with (windows_exist log rules rows ps (λ k d lt. h (suc k) d (omega arith))) (λ (ls, are). (with_window p w ∷ ls, ((w, has, refl), are))))

-- it can't be that an hour of a store has no lines with what is asked of their windows
pub hour_lines_exist : (c : Settings) (s : Store) (hour : ℕ) (windows : Bool) → IsSound c → IsStore s → HasHistory (log_of c.specs s) → hour < length s.hours → NotNone ((lines : List AuditLine) × AreHourLines c s hour windows lines)
hour_lines_exist c s hour false sound is has lt = audit_exists c s hour sound is has lt
hour_lines_exist c s hour true sound is has lt =
    let log = log_of c.specs s in
    let rules = rules_for c in
    let rows = hour_rows s hour in
    after (audit_exists c s hour sound is has lt) (λ (plain, are).
    let each = lines_in c s hour lt plain sound are in
    with (windows_exist log rules rows plain (λ k d l.
    let line = get_or plain k d in
    let mine = each k d l in
    elim (cases_Bool (is_broken line.verdict)) [
      | inl broken ↦ with (window_exists c s rows line sound has (mine.broken broken)) (λ (u, v, window). (Some (u, v), (broken, window)))
      | inr other ↦ some (None, other)
    ])) (λ (ls, windowed). (ls, (plain, are, windowed))))
