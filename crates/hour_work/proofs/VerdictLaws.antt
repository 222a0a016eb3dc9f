-- The audit lines of an hour, over the histories of the whole window.
use Rattle.std.proofs.Common.{◌≡◌, ◌∙◌, ℕ, ◌<◌, ◌≤◌, ℤ, pos, ◌≤ℤ◌, Bool, true, false, List, [], ◌∷◌, length, get_or, Option, Some, refl, sym, ap, subst, arith}
use Rattle.std.proofs.lemmas.Int.{ints}
use Rattle.std.proofs.lemmas.Option.{slice_get_within}
use Rattle.span_set.specs.declared.set.Span.{Span}
use Rattle.reach.specs.Runs.{State}
use Rattle.sig_base.specs.declared.values.Row.{Row}
use Rattle.sig_base.specs.declared.values.Verdict.{Verdict}
use Rattle.sig_base.proofs.Each.{Each}
use Rattle.gap_map.specs.declared.stretch.Stretch.{Stretch}
use Rattle.gap_map.specs.Stretches.{known_at}
use Rattle.hour_store.specs.Store.{Store, is_known, rows_at}
use Rattle.board.specs.declared.clause.Term.{Term}
use Rattle.board.specs.History.{start_of}
use Rattle.board.specs.Channels.{track}
use Rattle.board.specs.Logs.{HourLog, end_tenth, first_tenth, hour_log, no_row, no_spec}
use Rattle.board.specs.Verdicts.{IsVerdict, Keeps, PassStates, PassesState}
use Rattle.ring_config.specs.Settings.{Settings}
use Rattle.ring_config.specs.Sound.{IsSound}
use Rattle.signal_log.specs.Log.{HasHistory, log_of, track_at}
use Rattle.signal_log.specs.States.{IsAtEndOf, MayBeAtEnd}
use Rattle.signal_log.specs.Points.{rows_or_none}
use Rattle.signal_log.specs.Views.{HasHourRuns}
use Rattle.signal_log.specs.Laws.{ViewsTell}
use Rattle.rule_audit.specs.declared.rules.Rule.{Rule}
use Rattle.rule_audit.specs.declared.rules.Rule.TheVariants.{Interval, Conflict, Companion, Parents}
use Rattle.rule_audit.specs.declared.lines.Place.{Place}
use Rattle.rule_audit.specs.declared.lines.Place.TheVariants.{BeforeRow, EndOfTenth}
use Rattle.rule_audit.specs.declared.lines.AuditLine.{AuditLine}
use Rattle.rule_audit.specs.Rules.{rules_for}
use Rattle.rule_audit.specs.Obligations.{Obligation, obligations_from}
use Rattle.rule_audit.specs.Judged.{HasRuns, HasVerdict, IsRuleVerdict, states_of}
use Rattle.rule_audit.specs.Lines.{AreLines, AreLinesOf, hour_obligations}
use Rattle.hour_work.specs.Points.{is_known_before}
use Rattle.hour_work.specs.Verdicts.{AreAuditLines, HasStoreVerdict, obligations_in, states_in}
use Rattle.signal_log.specs.Rows.{hour_rows}
use Rattle.hour_work.proofs.LinkLaws.{Leads, Local, clause_as, closes_alike, interval_as, keeps_alike}
use Rattle.hour_work.proofs.PlacedLaws.{FitPlace, FitRule, IsPlaced, all_placed, each_weaker, known_same, none_known, rules_fit}

-- the lines by one kind of verdicts are those by another that follow from them
pub lines_as : (A B : Obligation → Verdict → Type 0) (os : List Obligation) (lines : List AuditLine) → Each (λ o. (x : Verdict) → A o x → B o x) os → AreLinesOf A os lines → AreLinesOf B os lines
lines_as A B [] lines h e = e
lines_as A B (o ∷ os) lines (h, hs) (x, is, (rest, are, e)) = (x, h x is, (rest, lines_as A B os rest hs are, e))

module _ (c : Settings) (s : Store) (hour : ℕ) (rows : List Row) (ss : List Stretch) (before : List (List (List Span))) (after : List (List (Option ℤ))) (tells : ViewsTell s (hour_log hour c.specs rows ss before after)) (has : HasHistory (log_of c.specs s)) where
  end_local : (t : ℕ) → Local (length c.specs) (MayBeAtEnd (log_of c.specs s) t)
  end_local t v w e (h, agrees, ends) = (h, agrees, λ i lt. subst (λ (z : State). IsAtEndOf (log_of c.specs s) h i t z) (sym (e i lt)) (ends i lt))

  pass_local : (t : ℕ) → Local (length c.specs) (PassStates (hour_log hour c.specs rows ss before after) t)
  pass_local t v w e (h, agrees, len, pass) = (h, agrees, len, λ i lt. subst (λ (z : State). PassesState (track (get_or c.specs i no_spec)) (first_tenth hour) t (get_or before i []) (get_or after i []) (start_of h i) h.events z) (sym (e i lt)) (pass i lt))

  end_leads : (t : ℕ) → known_at ss t ≡ true → Leads (length c.specs) (PassStates (hour_log hour c.specs rows ss before after) t) (MayBeAtEnd (log_of c.specs s) t)
  end_leads t is v p = let (w, q, alike) = (tells.ends_of_all t is).to v p in (w, q, λ i lt. (alike i lt).1)

  end_led : (t : ℕ) → known_at ss t ≡ true → Leads (length c.specs) (MayBeAtEnd (log_of c.specs s) t) (PassStates (hour_log hour c.specs rows ss before after) t)
  end_led t is w q = let (v, p, alike) = (tells.ends_of_all t is).back w q in (v, p, λ i lt. (alike i lt).1)

  terms_as : (t : ℕ) (terms : List Term) (x : Verdict) → known_at ss t ≡ true → IsVerdict x (PassStates (hour_log hour c.specs rows ss before after) t) (Keeps terms) → IsVerdict x (MayBeAtEnd (log_of c.specs s) t) (Keeps terms)
  terms_as t terms x is = clause_as (length c.specs) (PassStates (hour_log hour c.specs rows ss before after) t) (MayBeAtEnd (log_of c.specs s) t) terms (pass_local t) (end_local t) (end_leads t is) (end_led t is) x

  -- the verdict on a rule at a known place
  verdict_as : (t : ℕ) (place : Place) (rule : Rule) (x : Verdict) → known_at ss t ≡ true → first_tenth hour ≤ t → FitPlace rows t place → FitRule c.specs rule → IsRuleVerdict (states_of (hour_log hour c.specs rows ss before after)) c.specs rows t place rule x → IsRuleVerdict (states_in c s rows) c.specs rows t place rule x
  verdict_as t (BeforeRow n) (Interval item) x is low (lt, at) fits h =
      let r = get_or rows n no_row in
      let spec = get_or c.specs item.spec no_spec in
      let m = (track_at (log_of c.specs s) item.spec).rules in
      let here : known_at ss r.at ≡ true = subst (λ (y : ℕ). known_at ss y ≡ true) (sym at) is in
      let p = pos (first_tenth hour) in
      let le : p ≤ℤ pos r.at = omega (arith, ints) in
      interval_as m p _ _ _ _ (closes_alike m p spec r item) (keeps_alike m p spec r item fits.bound le) (tells.rows has n item.spec lt here (slice_get_within c.specs item.spec fits.spec fits.there)) x h
  verdict_as t (BeforeRow n) (Conflict a b terms) x is low fp fits h = h
  verdict_as t (BeforeRow n) (Companion p terms) x is low fp fits h = h
  verdict_as t (BeforeRow n) (Parents o terms) x is low fp fits h = h
  verdict_as t EndOfTenth (Interval item) x is low fp fits h = h
  verdict_as t EndOfTenth (Conflict a b terms) x is low fp fits h = terms_as t terms x is h
  verdict_as t EndOfTenth (Companion p terms) x is low fp fits h = terms_as t terms x is h
  verdict_as t EndOfTenth (Parents o terms) x is low fp fits h = terms_as t terms x is h

  -- the lines of the hour's view are those of the store
  pub lines_in : (known : Bool) (lines : List AuditLine) → IsSound c → rows_at s hour ≡ Some rows → ((x : ℕ) → first_tenth hour ≤ x → x < end_tenth hour → known_at ss x ≡ is_known s x) → known ≡ is_known_before (is_known s) (first_tenth hour) → AreLines (hour_log hour c.specs rows ss before after) (rules_for c) known lines → AreAuditLines c s hour lines
  unfolding hour_obligations obligations_in
  lines_in known lines sound held same flag are =
      let own : hour_rows s hour ≡ rows = ap rows_or_none held in
      let os = obligations_from (known_at ss) c.specs (rules_for c) rows known (first_tenth hour) 36000 in
      let here : os ≡ obligations_from (is_known s) c.specs (rules_for c) rows (is_known_before (is_known s) (first_tenth hour)) (first_tenth hour) 36000 =
      known_same (known_at ss) (is_known s) c.specs (rules_for c) rows known (first_tenth hour) 36000 same
      ∙ ap (λ b. obligations_from (is_known s) c.specs (rules_for c) rows b (first_tenth hour) 36000) flag in
      let placed = all_placed (known_at ss) c.specs (rules_for c) rows known (first_tenth hour) 36000 (first_tenth hour) (end_tenth hour) (rules_fit c sound) (omega arith) (omega arith) in
      let each = each_weaker (IsPlaced (known_at ss) c.specs (rules_for c) rows (first_tenth hour) (end_tenth hour)) (λ o. (x : Verdict) → HasVerdict (hour_log hour c.specs rows ss before after) o x → IsRuleVerdict (states_in c s rows) c.specs rows o.at o.place o.rule x) os (λ o p x h. verdict_as o.at o.place o.rule x p.is_known p.low p.place p.rule h) placed in
      let theirs = lines_as (HasVerdict (hour_log hour c.specs rows ss before after)) (λ o x. IsRuleVerdict (states_in c s rows) c.specs rows o.at o.place o.rule x) os lines each are in
      let moved : AreLinesOf (λ o x. IsRuleVerdict (states_in c s rows) c.specs rows o.at o.place o.rule x) (obligations_from (is_known s) c.specs (rules_for c) rows (is_known_before (is_known s) (first_tenth hour)) (first_tenth hour) 36000) lines = subst (λ qs. AreLinesOf (λ o x. IsRuleVerdict (states_in c s rows) c.specs rows o.at o.place o.rule x) qs lines) here theirs in
      subst (λ rs. AreLinesOf (λ o x. IsRuleVerdict (states_in c s rs) c.specs rs o.at o.place o.rule x) (obligations_from (is_known s) c.specs (rules_for c) rs (is_known_before (is_known s) (first_tenth hour)) (first_tenth hour) 36000) lines) (sym own) moved

-- each channel has a run of the hour
pub runs_are : (view : HourLog) → HasHourRuns view → HasRuns view
runs_are view runs i lt = let (a, u, h, g, ad) = runs i lt in (a, h, (u, g, ad))

-- an hour that isn't held has no lines
pub no_lines : (c : Settings) (s : Store) (hour : ℕ) → ((x : ℕ) → first_tenth hour ≤ x → x < end_tenth hour → is_known s x ≡ false) → AreAuditLines c s hour []
unfolding obligations_in
no_lines c s hour none =
    let e = none_known (is_known s) c.specs (rules_for c) (hour_rows s hour) (is_known_before (is_known s) (first_tenth hour)) (first_tenth hour) 36000 none in
    subst (λ os. AreLinesOf (HasStoreVerdict c s hour) os []) (sym e) refl
