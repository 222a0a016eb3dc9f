-- Laws of windows.
use Rattle.std.proofs.Common.{◌≡◌, refl, ap, sym, ◌∙◌, subst, inl, inr, ℕ, ◌*◌, ◌<◌, ◌≤◌, not, true, false, nat_lt, List, length, get_or, arith}
use Rattle.std.proofs.lemmas.Bool.{and_parts, cases_lt}
use Rattle.sig_base.specs.declared.values.Row.{Row}
use Rattle.sig_base.specs.declared.values.Verdict.TheVariants.{Broken, Idle, Kept}
use Rattle.gap_map.proofs.Cutting.{nat_cases}
use Rattle.reach.specs.Runs.{State}
use Rattle.board.specs.Channels.{AreSpecs}
use Rattle.board.specs.Logs.{no_row, no_spec}
use Rattle.board.specs.declared.clause.Term.{Term}
use Rattle.board.specs.Verdicts.{IsVerdict, Keeps}
use Rattle.signal_log.specs.Log.{HasHistory, Log, window_end}
use Rattle.signal_log.specs.States.{MayBeAfter, MayBeAtEnd}
use Rattle.signal_log.proofs.Stored.{events_filter}
use Rattle.rule_audit.specs.declared.rules.Rule.{Rule}
use Rattle.rule_audit.specs.declared.rules.Rule.TheVariants.{Interval, Conflict, Companion, Parents}
use Rattle.rule_audit.specs.declared.lines.Place.{Place}
use Rattle.rule_audit.specs.declared.lines.Place.TheVariants.{BeforeRow, EndOfTenth}
use Rattle.rule_audit.specs.Judged.{Closes, IsIntervalVerdict, IsRuleVerdict, KeepsInterval}
use Rattle.rule_audit.specs.Obligations.{Obligation}
use Rattle.decisive.specs.Window.{HasLogVerdict, IsCandidate, IsGreatestTo, IsLeastFrom, is_from_to, only, states_over}
use Rattle.signal_log.specs.Rows.{rows_before}
use Rattle.decisive.specs.Laws.{BrokenGrows, BrokenIsOpenBefore, BrokenStays, FitsPlace, IdleStays, OnlyTellsLess, StatesStay, TellsLess, WholeTellsMore, WindowIsOne}
use Rattle.decisive.proofs.Less.{after_less, broken_fewer, history_less, end_less, idle_fewer, open_more, part, some_after, some_end}

-- ---- one window

pub least_one : (C B : ℕ → Type 0) (low v x : ℕ) → IsLeastFrom C B low v → IsLeastFrom C B low x → v ≡ x
least_one C B low v x p q = elim (cases_lt v x) [
  | inl lt ↦ absurd (q.least v p.candidate p.late lt p.holds)
  | inr ge ↦ elim (cases_lt x v) [ inl lt ↦ absurd (p.least x q.candidate q.late lt q.holds) | inr le ↦ omega arith ]
]

pub greatest_one : (C B : ℕ → Type 0) (high u w : ℕ) → IsGreatestTo C B high u → IsGreatestTo C B high w → u ≡ w
greatest_one C B high u w p q = elim (cases_lt u w) [
  | inl lt ↦ absurd (p.greatest w q.candidate q.early lt q.holds)
  | inr ge ↦ elim (cases_lt w u) [ inl lt ↦ absurd (q.greatest u p.candidate p.early lt p.holds) | inr le ↦ omega arith ]
]

pub window_one : WindowIsOne
window_one log rows o u v w x p q =
    let C = IsCandidate log o in
    let same : v ≡ x = least_one C (λ z. HasLogVerdict (only 0 z log) rows o Broken) o.at v x p.end q.end in
    let begin = subst (λ (y : ℕ). IsGreatestTo C (λ z. HasLogVerdict (only z y log) rows o Broken) o.at u) same p.begin in
    (greatest_one C (λ z. HasLogVerdict (only z x log) rows o Broken) o.at u w begin q.begin, same)

-- ---- what less of a log tells

pub in_range : (u v t : ℕ) → is_from_to u v t ≡ true → (u ≤ t) × (t ≤ v)
in_range u v t e =
    let (a, b) = and_parts (not (nat_lt t u)) (not (nat_lt v t)) e in
    (of t u a, of v t b)
  where
    of : (x y : ℕ) → not (nat_lt x y) ≡ true → y ≤ x
    of x y a = elim (nat_cases x y) [ inl (test, lt) ↦ (let bad : false ≡ true = rw test at a in absurd (cc)) | inr (test, ge) ↦ ge ]

pub to_range : (u v t : ℕ) → u ≤ t → t ≤ v → is_from_to u v t ≡ true
to_range u v t a b = elim (nat_cases t u) [
  | inl (_, lt) ↦ absurd (omega arith)
  | inr (one, _) ↦ elim (nat_cases v t) [ inl (_, lt) ↦ absurd (omega arith) | inr (two, _) ↦ rw (one, two) refl ]
]

pub less_only : OnlyTellsLess
less_only log u v w x le ge = record {
  specs = refl;
  hours = refl;
  known = λ t is.
      let (a, b) = and_parts (log.known t) (is_from_to u v t) is in
      let (c, d) = in_range u v t b in
      rw (a, to_range w x t (omega arith) (omega arith)) refl;
  rows = λ t is.
      let (a, b) = and_parts (log.known t) (is_from_to u v t) is in
      let (c, d) = in_range u v t b in
      events_filter (is_from_to w x) log.rows t (to_range w x t (omega arith) (omega arith)) ∙ sym (events_filter (is_from_to u v) log.rows t b);
}

pub more_whole : WholeTellsMore
more_whole log u v = record {
  specs = refl;
  hours = refl;
  known = λ t is. (and_parts (log.known t) (is_from_to u v t) is).0;
  rows = λ t is. sym (events_filter (is_from_to u v) log.rows t (and_parts (log.known t) (is_from_to u v t) is).1);
}

less_is : (less more : Log) → TellsLess less more → less ≡ part more less.known less.rows
less_is less more t = ap (λ s. record { specs = s; hours = less.hours; known = less.known; rows = less.rows }) t.specs ∙ ap (λ n. record { specs = more.specs; hours = n; known = less.known; rows = less.rows }) t.hours

module _ (less more : Log) (are : AreSpecs less.specs) (t : TellsLess less more) where
  more_are : AreSpecs more.specs
  more_are = subst (λ s. AreSpecs s) t.specs are

  same_end : window_end less ≡ window_end more
  same_end = ap (λ n. 36000 * n) t.hours

  pub after_stays : (x i j : ℕ) (v : State) → x < window_end less → less.known x ≡ true → i < length less.specs → MayBeAfter more i x j v → MayBeAfter less i x j v
  after_stays x i j v lt is small m =
      let k = after_less more less.known less.rows more_are t.known t.rows i x j v (subst (λ s. i < length s) t.specs small) (subst (λ n. x < n) same_end lt) is m in
      subst (λ l. MayBeAfter l i x j v) (sym (less_is less more t)) k

  pub end_stays : (x : ℕ) (v : ℕ → State) → x < window_end less → less.known x ≡ true → MayBeAtEnd more x v → MayBeAtEnd less x v
  end_stays x v lt is m =
      let k = end_less more less.known less.rows more_are t.known t.rows x v (subst (λ n. x < n) same_end lt) m in
      subst (λ l. MayBeAtEnd l x v) (sym (less_is less more t)) k

  rules_stay : (rows : List Row) (o : Obligation) (place : Place) (rule : Rule) → o.at < window_end less → less.known o.at ≡ true → FitsPlace less.specs rows o.at place rule → HasHistory more → IsRuleVerdict (states_over less rows) less.specs rows o.at place rule Broken → IsRuleVerdict (states_over more rows) more.specs rows o.at place rule Broken
  rules_stay rows o (BeforeRow n) (Interval item) lt is (at, small) has h =
      let r = get_or rows n no_row in
      let j = rows_before rows n in
      let here : r.at < window_end less = subst (λ x. x < window_end less) (sym at) lt in
      let isr : less.known r.at ≡ true = subst (λ x. less.known x ≡ true) (sym at) is in
      let (v, q) = some_after more item.spec r.at j more_are has (subst (λ s. item.spec < length s) t.specs small) (subst (λ n. r.at < n) same_end here) (t.known r.at isr) in
      let k = broken_fewer (MayBeAfter less item.spec r.at j) (MayBeAfter more item.spec r.at j) (get_or less.specs item.spec no_spec) r item (λ w m. after_stays r.at item.spec j w here isr small m) v q h in
      subst (λ s. IsIntervalVerdict Broken (MayBeAfter more item.spec r.at j) (Closes (get_or s item.spec no_spec) r item) (KeepsInterval (get_or s item.spec no_spec) r item)) t.specs k
  rules_stay rows o (BeforeRow n) (Conflict a b terms) lt is fits has h = h
  rules_stay rows o (BeforeRow n) (Companion p terms) lt is fits has h = h
  rules_stay rows o (BeforeRow n) (Parents p terms) lt is fits has h = h
  rules_stay rows o EndOfTenth (Interval item) lt is fits has h = h
  rules_stay rows o EndOfTenth (Conflict a b terms) lt is fits has h = λ v m. h v (end_stays o.at v lt is m)
  rules_stay rows o EndOfTenth (Companion p terms) lt is fits has h = λ v m. h v (end_stays o.at v lt is m)
  rules_stay rows o EndOfTenth (Parents p terms) lt is fits has h = λ v m. h v (end_stays o.at v lt is m)

  rules_idle : (rows : List Row) (o : Obligation) (place : Place) (rule : Rule) → o.at < window_end less → less.known o.at ≡ true → FitsPlace less.specs rows o.at place rule → IsRuleVerdict (states_over less rows) less.specs rows o.at place rule Idle → IsRuleVerdict (states_over more rows) more.specs rows o.at place rule Idle
  rules_idle rows o (BeforeRow n) (Interval item) lt is (at, small) h =
      let r = get_or rows n no_row in
      let j = rows_before rows n in
      let here : r.at < window_end less = subst (λ x. x < window_end less) (sym at) lt in
      let isr : less.known r.at ≡ true = subst (λ x. less.known x ≡ true) (sym at) is in
      let k = idle_fewer (MayBeAfter less item.spec r.at j) (MayBeAfter more item.spec r.at j) (get_or less.specs item.spec no_spec) r item (λ w m. after_stays r.at item.spec j w here isr small m) h in
      subst (λ s. IsIntervalVerdict Idle (MayBeAfter more item.spec r.at j) (Closes (get_or s item.spec no_spec) r item) (KeepsInterval (get_or s item.spec no_spec) r item)) t.specs k
  rules_idle rows o (BeforeRow n) (Conflict a b terms) lt is fits h = h
  rules_idle rows o (BeforeRow n) (Companion p terms) lt is fits h = h
  rules_idle rows o (BeforeRow n) (Parents p terms) lt is fits h = h
  rules_idle rows o EndOfTenth (Interval item) lt is fits h = h
  rules_idle rows o EndOfTenth (Conflict a b terms) lt is fits h = h
  rules_idle rows o EndOfTenth (Companion p terms) lt is fits h = h
  rules_idle rows o EndOfTenth (Parents p terms) lt is fits h = h

  clause_open : (x : ℕ) (terms : List Term) → x < window_end less → less.known x ≡ true → HasHistory more → IsVerdict Broken (MayBeAtEnd more x) (Keeps terms) → (⊥ → ⊥) × (IsVerdict Kept (MayBeAtEnd less x) (Keeps terms) → ⊥)
  clause_open x terms lt is has h =
      let (v, m) = some_end more x more_are has (subst (λ n. x < n) same_end lt) in
      ((λ e. e), λ all. h v m (all v (end_stays x v lt is m)))

  rules_open : (rows : List Row) (o : Obligation) (place : Place) (rule : Rule) → o.at < window_end less → less.known o.at ≡ true → FitsPlace less.specs rows o.at place rule → HasHistory more → IsRuleVerdict (states_over more rows) more.specs rows o.at place rule Broken → (IsRuleVerdict (states_over less rows) less.specs rows o.at place rule Idle → ⊥) × (IsRuleVerdict (states_over less rows) less.specs rows o.at place rule Kept → ⊥)
  rules_open rows o (BeforeRow n) (Interval item) lt is (at, small) has h =
      let r = get_or rows n no_row in
      let j = rows_before rows n in
      let here : r.at < window_end less = subst (λ x. x < window_end less) (sym at) lt in
      let isr : less.known r.at ≡ true = subst (λ x. less.known x ≡ true) (sym at) is in
      open_more (MayBeAfter less item.spec r.at j) (MayBeAfter more item.spec r.at j) (get_or less.specs item.spec no_spec) r item (λ w m. after_stays r.at item.spec j w here isr small m) (subst (λ s. IsIntervalVerdict Broken (MayBeAfter more item.spec r.at j) (Closes (get_or s item.spec no_spec) r item) (KeepsInterval (get_or s item.spec no_spec) r item)) (sym t.specs) h)
  rules_open rows o (BeforeRow n) (Conflict a b terms) lt is fits has h = absurd h
  rules_open rows o (BeforeRow n) (Companion p terms) lt is fits has h = absurd h
  rules_open rows o (BeforeRow n) (Parents p terms) lt is fits has h = absurd h
  rules_open rows o EndOfTenth (Interval item) lt is fits has h = absurd h
  rules_open rows o EndOfTenth (Conflict a b terms) lt is fits has h = clause_open o.at terms lt is has h
  rules_open rows o EndOfTenth (Companion p terms) lt is fits has h = clause_open o.at terms lt is has h
  rules_open rows o EndOfTenth (Parents p terms) lt is fits has h = clause_open o.at terms lt is has h

pub broken_stays : BrokenStays
broken_stays less more rows o are t at has h = rules_stay less more are t rows o o.place o.rule at.within at.is_known at.fits has h

pub idle_stays : IdleStays
idle_stays less more rows o are t at h = rules_idle less more are t rows o o.place o.rule at.within at.is_known at.fits h

pub open_before : BrokenIsOpenBefore
open_before less more rows o are t at has h = rules_open less more are t rows o o.place o.rule at.within at.is_known at.fits has h

pub states_stay : StatesStay
states_stay less more are t x lt is = ((λ i j v small m. after_stays less more are t x i j v lt is small m), λ v m. end_stays less more are t x v lt is m)

pub broken_grows : BrokenGrows
broken_grows log rows o u v w x are has at low high le ge h =
    let more = only w x log in
    let all = more_whole log w x in
    let known : (only u v log).known o.at ≡ true = rw (at.is_known, to_range u v o.at low high) refl in
    broken_stays (only u v log) more rows o are (less_only log u v w x le ge) (record { within = at.within; is_known = known; fits = at.fits }) (history_less log more.known more.rows are all.known all.rows has) h
