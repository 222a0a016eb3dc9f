-- The broken lines of an hour are of obligations that are broken over the whole log; and lines with their windows.
use Rattle.std.proofs.Common.{◌≡◌, ◌⊎◌, inl, inr, refl, sym, ap, subst, ℕ, zero, suc, ◌+◌, ◌-◌, ◌/◌, ◌<◌, ◌≤◌, Bool, true, false, nat_eq, List, [], ◌∷◌, ◌++◌, length, get_or, take, Option, None, arith}
use Rattle.std.specs.Prelude.{if◌then◌else◌, All}
use Rattle.std.proofs.lemmas.Bool.{false≢true}
use Rattle.std.proofs.lemmas.List.{take_more}
use Rattle.sig_base.specs.declared.values.Row.{Row}
use Rattle.sig_base.specs.declared.values.Verdict.{Verdict}
use Rattle.sig_base.specs.declared.values.Verdict.TheVariants.{Idle, Kept, Broken, Undecided}
use Rattle.sig_base.proofs.Each.{each_join, each_if, Each}
use Rattle.channel_tables.specs.declared.spec.Spec.{Spec}
use Rattle.span_set.specs.declared.set.Span.{Span}
use Rattle.hour_store.specs.Store.{Store, is_known}
use Rattle.board.specs.Logs.{end_tenth, first_tenth}
use Rattle.ring_config.specs.Settings.{Settings}
use Rattle.ring_config.specs.Sound.{IsSound}
use Rattle.signal_log.specs.Log.{Log, log_of}
use Rattle.rule_audit.specs.declared.rules.Rule.{Rule}
use Rattle.rule_audit.specs.declared.lines.Place.{Place}
use Rattle.rule_audit.specs.declared.lines.Place.TheVariants.{BeforeRow, EndOfTenth}
use Rattle.rule_audit.specs.declared.lines.AuditLine.{AuditLine}
use Rattle.rule_audit.specs.Index.{no_rule}
use Rattle.rule_audit.specs.Rules.{rules_for}
use Rattle.rule_audit.specs.Obligations.{Obligation, end_obligations, is_due, is_timed_by, obligation, obligations_from, row_obligations, rows_obligations, tenth_obligations}
use Rattle.rule_audit.specs.Judged.{IsRuleVerdict}
use Rattle.rule_audit.specs.Lines.{AreLinesOf, line_of, lines_of}
use Rattle.decisive.specs.Window.{IsBrokenLine, IsPlaceIn}
use Rattle.filling_pair.specs.Asks.{IsUndecided}
use Rattle.filling_pair.specs.Kept.{IsLineOf, IsPlaceOf}
use Rattle.hour_work.specs.Points.{is_known_before}
use Rattle.signal_log.specs.Rows.{hour_rows}
use Rattle.hour_work.specs.Verdicts.{AreAuditLines, HasStoreVerdict, obligations_in, states_in}
use Rattle.hour_work.proofs.PlacedLaws.{FitPlace, IsPlaced, all_placed, each_all, rules_fit}
use Rattle.session.specs.HourLines.{AreLinesIn, HasOwnWindow, IsLineIn}
use Rattle.hour_work.specs.Counts.{is_broken}
use Rattle.session.specs.Windows.{AreHourLines, AreWithWindows, HasWindow, with_window}

pub all_if : {X : Type 0} (P : X → Type 0) (b : Bool) (xs : List X) → Each P xs → Each P (if b then xs else [])
all_if P true xs p = p
all_if P false xs p = tt

both : {X : Type 0} (P Q : X → Type 0) (xs : List X) → Each P xs → Each Q xs → Each (λ x. P x × Q x) xs
both P Q [] p q = tt
both P Q (x ∷ xs) p q = ((p.0, q.0), both P Q xs p.1 q.1)

-- ---- each obligation is of the rule with its number

abbrev IsOwn : List Rule → Obligation → Type 0
IsOwn all o = get_or all (o.number - 1) no_rule ≡ o.rule

-- these are the rules from this place on
abbrev AreFrom : List Rule → ℕ → List Rule → Type 0
AreFrom all m xs = (k : ℕ) → k < length xs → get_or all (m + k) no_rule ≡ get_or xs k no_rule

first_from : (all : List Rule) (m : ℕ) (x : Rule) (xs : List Rule) → AreFrom all m (x ∷ xs) → get_or all (m + 1 - 1) no_rule ≡ x
first_from all m x xs h =
    let e : m + 0 ≡ m + 1 - 1 = omega arith in
    subst (λ (j : ℕ). get_or all j no_rule ≡ x) e (h 0 (omega arith))

next_from : (all : List Rule) (m : ℕ) (x : Rule) (xs : List Rule) → AreFrom all m (x ∷ xs) → AreFrom all (m + 1) xs
next_from all m x xs h k lt =
    let e : m + suc k ≡ m + 1 + k = omega arith in
    subst (λ (j : ℕ). get_or all j no_rule ≡ get_or xs k no_rule) e (h (suc k) (omega arith))

all_from : (all : List Rule) → AreFrom all 0 all
all_from all k lt = let e : 0 + k ≡ k = omega arith in ap (λ (j : ℕ). get_or all j no_rule) e

own_row : (specs : List Spec) (all : List Rule) (i : ℕ) (r : Row) (m : ℕ) (xs : List Rule) → AreFrom all m xs → Each (IsOwn all) (row_obligations specs i r (m + 1) xs)
unfolding row_obligations
own_row specs all i r m [] h = tt
own_row specs all i r m (x ∷ xs) h =
    each_join (IsOwn all) (if is_timed_by specs r x then obligation (m + 1) x r.at (BeforeRow i) ∷ [] else []) (row_obligations specs i r (m + 1 + 1) xs)
    (each_if (IsOwn all) (is_timed_by specs r x) (obligation (m + 1) x r.at (BeforeRow i)) (first_from all m x xs h))
    (own_row specs all i r (m + 1) xs (next_from all m x xs h))

own_rows : (specs : List Spec) (all : List Rule) (t i : ℕ) (rs : List Row) → Each (IsOwn all) (rows_obligations specs all t i rs)
unfolding rows_obligations
own_rows specs all t i [] = tt
own_rows specs all t i (r ∷ rs) =
    each_join (IsOwn all) (if nat_eq r.at t then row_obligations specs i r 1 all else []) (rows_obligations specs all t (i + 1) rs)
    (all_if (IsOwn all) (nat_eq r.at t) (row_obligations specs i r 1 all) (own_row specs all i r 0 all (all_from all)))
    (own_rows specs all t (i + 1) rs)

own_end : (specs : List Spec) (all : List Rule) (rows : List Row) (before : Bool) (t m : ℕ) (xs : List Rule) → AreFrom all m xs → Each (IsOwn all) (end_obligations specs rows before t (m + 1) xs)
unfolding end_obligations
own_end specs all rows before t m [] h = tt
own_end specs all rows before t m (x ∷ xs) h =
    each_join (IsOwn all) (if is_due specs rows before t x then obligation (m + 1) x t EndOfTenth ∷ [] else []) (end_obligations specs rows before t (m + 1 + 1) xs)
    (each_if (IsOwn all) (is_due specs rows before t x) (obligation (m + 1) x t EndOfTenth) (first_from all m x xs h))
    (own_end specs all rows before t (m + 1) xs (next_from all m x xs h))

all_own : (known : ℕ → Bool) (specs : List Spec) (all : List Rule) (rows : List Row) (before : Bool) (t n : ℕ) → Each (IsOwn all) (obligations_from known specs all rows before t n)
unfolding obligations_from
all_own known specs all rows before t zero = tt
all_own known specs all rows before t (suc n) =
    each_join (IsOwn all) (if known t then tenth_obligations specs all rows before t else []) (obligations_from known specs all rows (known t) (t + 1) n)
    (all_if (IsOwn all) (known t) (tenth_obligations specs all rows before t)
    (each_join (IsOwn all) (rows_obligations specs all t 0 rows) (end_obligations specs rows before t 1 all) (own_rows specs all t 0 rows) (own_end specs all rows before t 0 all (all_from all))))
    (all_own known specs all rows (known t) (t + 1) n)

-- ---- lines

place_in : (rows : List Row) (x : ℕ) (place : Place) → FitPlace rows x place → IsPlaceIn rows x place
place_in rows x (BeforeRow n) h = h
place_in rows x EndOfTenth h = h

place_of : (rows : List Row) (x : ℕ) (place : Place) → FitPlace rows x place → IsPlaceOf rows x place
place_of rows x (BeforeRow n) h = h
place_of rows x EndOfTenth h = tt

module _ (c : Settings) (s : Store) (hour : ℕ) (within : hour < length s.hours) where
  abbrev Placed : Obligation → Type 0
  Placed = IsPlaced (is_known s) c.specs (rules_for c) (hour_rows s hour) (first_tenth hour) (end_tenth hour)

  hour_of : (t : ℕ) → first_tenth hour ≤ t → t < end_tenth hour → t / 36000 ≡ hour
  hour_of t low high = omega arith

  broken_is : (o : Obligation) → Placed o → IsOwn (rules_for c) o → HasStoreVerdict c s hour o Broken → IsBrokenLine (log_of c.specs s) (rules_for c) (hour_rows s hour) (line_of o Broken)
  broken_is o p own h =
      let high = p.high in
      record {
        some_rule = p.from_one;
        last_rule = p.number;
        within = omega arith;
        is_known = p.is_known;
        place = place_in (hour_rows s hour) o.at o.place p.place;
        broken = subst (λ (x : Rule). IsRuleVerdict (states_in c s (hour_rows s hour)) c.specs (hour_rows s hour) o.at o.place x Broken) (sym own) h;
      }

  line_is : (o : Obligation) (x : Verdict) → Placed o → IsLineOf s (rules_for c) (line_of o x)
  line_is o x p =
      let high = p.high in
      record {
        some_rule = p.from_one;
        last_rule = p.number;
        placed = record {
          within = omega arith;
          is_known = p.is_known;
          place = subst (λ (h : ℕ). IsPlaceOf (hour_rows s h) o.at o.place) (sym (hour_of o.at p.low p.high)) (place_of (hour_rows s hour) o.at o.place p.place);
        };
      }

  undecided_is : (o : Obligation) → Placed o → IsOwn (rules_for c) o → HasStoreVerdict c s hour o Undecided → IsUndecided c.specs s (rules_for c) (line_of o Undecided)
  undecided_is o p own h =
      let rule = get_or (rules_for c) (o.number - 1) no_rule in
      let of_own = subst (λ (x : Rule). IsRuleVerdict (states_in c s (hour_rows s hour)) c.specs (hour_rows s hour) o.at o.place x Undecided) (sym own) h in
      subst (λ (k : ℕ). IsRuleVerdict (states_in c s (hour_rows s k)) c.specs (hour_rows s k) o.at o.place rule Undecided) (sym (hour_of o.at p.low p.high)) of_own

  lines_are : (o : Obligation) (x : Verdict) → Placed o → IsOwn (rules_for c) o → HasStoreVerdict c s hour o x → Each (IsLineIn c s hour) (lines_of o x)
  lines_are o Idle p own h = tt
  lines_are o Kept p own h = (record { in_hour = hour_of o.at p.low p.high; of_rule = line_is o Kept p; broken = λ e. absurd (false≢true e); undecided = λ e. absurd (false≢true e) }, tt)
  lines_are o Broken p own h = (record { in_hour = hour_of o.at p.low p.high; of_rule = line_is o Broken p; broken = λ e. broken_is o p own h; undecided = λ e. absurd (false≢true e) }, tt)
  lines_are o Undecided p own h = (record { in_hour = hour_of o.at p.low p.high; of_rule = line_is o Undecided p; broken = λ e. absurd (false≢true e); undecided = λ e. undecided_is o p own h }, tt)

  all_are : (os : List Obligation) (lines : List AuditLine) → Each (λ o. Placed o × IsOwn (rules_for c) o) os → AreLinesOf (HasStoreVerdict c s hour) os lines → Each (IsLineIn c s hour) lines
  all_are [] lines h e = subst (λ ls. Each (IsLineIn c s hour) ls) (sym e) tt
  all_are (o ∷ os) lines (h, hs) (x, is, (rest, are, e)) =
      subst (λ ls. Each (IsLineIn c s hour) ls) (sym e) (each_join (IsLineIn c s hour) (lines_of o x) rest (lines_are o x h.0 h.1 is) (all_are os rest hs are))

  -- the lines of the audit of an hour are at its tenths, and those that say broken are of broken obligations
  pub lines_in : (lines : List AuditLine) → IsSound c → AreAuditLines c s hour lines → All (IsLineIn c s hour) lines
  unfolding obligations_in
  lines_in lines sound are =
      let before = is_known_before (is_known s) (first_tenth hour) in
      let os = obligations_from (is_known s) c.specs (rules_for c) (hour_rows s hour) before (first_tenth hour) 36000 in
      let placed = all_placed (is_known s) c.specs (rules_for c) (hour_rows s hour) before (first_tenth hour) 36000 (first_tenth hour) (end_tenth hour) (rules_fit c sound) (omega arith) (omega arith) in
      let own = all_own (is_known s) c.specs (rules_for c) (hour_rows s hour) before (first_tenth hour) 36000 in
      each_all (IsLineIn c s hour) lines (all_are os lines (both Placed (IsOwn (rules_for c)) os placed own) are)

-- ---- lines with windows

pub one_more : (log : Log) (rules : List Rule) (rows : List Row) (ps ls : List AuditLine) (p : AuditLine) (w : Option (ℕ × ℕ)) → AreWithWindows log rules rows ps ls → HasWindow log rules rows p w → AreWithWindows log rules rows (ps ++ p ∷ []) (ls ++ with_window p w ∷ [])
one_more log rules rows [] [] p w h k = ((w, k, refl), tt)
one_more log rules rows [] (l ∷ ls) p w h k = absurd h
one_more log rules rows (q ∷ ps) [] p w h k = absurd h
one_more log rules rows (q ∷ ps) (l ∷ ls) p w h k = (h.0, one_more log rules rows ps ls p w h.1 k)

-- stands where a list has no line
abbrev pub no_line : AuditLine
no_line = record { rule = 0; at = 0; place = BeforeRow 0; verdict = Idle; window = None }

-- one more line is looked at
pub windows_turn : (c : Settings) (s : Store) (before : List (List (List Span))) (lines : List AuditLine) (i : ℕ) (done new : List AuditLine) (w : Option (ℕ × ℕ)) → i < length lines
    → ((hour : ℕ) → AreLinesIn c s hour before lines → AreWithWindows (log_of c.specs s) (rules_for c) (hour_rows s hour) (take i lines) done)
    → HasOwnWindow c s (get_or lines i no_line) w → new ≡ done ++ with_window (get_or lines i no_line) w ∷ []
    → (hour : ℕ) → AreLinesIn c s hour before lines → AreWithWindows (log_of c.specs s) (rules_for c) (hour_rows s hour) (take (i + 1) lines) new
windows_turn c s before lines i done new w lt inv has en hour are =
    let log = log_of c.specs s in
    let rules = rules_for c in
    let rows = hour_rows s hour in
    let line = get_or lines i no_line in
    let mine : IsLineIn c s hour line = are.each i no_line lt in
    let has2 : HasWindow log rules rows line w = subst (λ (h : ℕ). HasWindow log rules (hour_rows s h) line w) mine.in_hour has in
    let step = one_more log rules rows (take i lines) done line w (inv hour are) has2 in
    let step2 = subst (λ (ls : List AuditLine). AreWithWindows log rules rows (take i lines ++ line ∷ []) ls) (sym en) step in
    subst (λ (ps : List AuditLine). AreWithWindows log rules rows ps new) (sym (take_more lines i no_line lt)) step2

pub none_yet : (log : Log) (rules : List Rule) (rows : List Row) (ls : List AuditLine) → ls ≡ [] → AreWithWindows log rules rows [] ls
none_yet log rules rows ls e = subst (λ (xs : List AuditLine). AreWithWindows log rules rows [] xs) (sym e) tt

-- all lines of an hour, where windows are wanted
pub hour_lines : (c : Settings) (s : Store) (hour : ℕ) (windows : Bool) (plain lines : List AuditLine) → windows ≡ true → AreAuditLines c s hour plain → AreWithWindows (log_of c.specs s) (rules_for c) (hour_rows s hour) plain lines → AreHourLines c s hour windows lines
hour_lines c s hour windows plain lines e are windowed = subst (λ (b : Bool). AreHourLines c s hour b lines) (sym e) (plain, are, windowed)

-- where it says anything but broken
pub not_broken : (x : Verdict) → (x ≡ Idle) ⊎ ((x ≡ Kept) ⊎ (x ≡ Undecided)) → is_broken x ≡ false
not_broken x (inl e) = ap is_broken e
not_broken x (inr (inl e)) = ap is_broken e
not_broken x (inr (inr e)) = ap is_broken e
