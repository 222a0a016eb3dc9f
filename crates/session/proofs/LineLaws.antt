-- The lines of the audit of an hour that doesn't move stay.
use Rattle.std.proofs.Common.{◌≡◌, ◌∙◌, inl, inr, ℕ, ◌+◌, ◌*◌, ◌≤◌, pos, ◌≤ℤ◌, Bool, true, List, [], length, get_or, Option, Some, None, sym, ap, subst, arith}
use Rattle.std.proofs.lemmas.Int.{ints}
use Rattle.std.proofs.lemmas.Option.{slice_get_within}
use Rattle.sig_base.specs.declared.values.Applied.{Applied}
use Rattle.sig_base.specs.declared.values.Row.{Row}
use Rattle.sig_base.specs.declared.values.Verdict.{Verdict}
use Rattle.span_set.specs.declared.set.Span.{Span}
use Rattle.gap_map.specs.declared.stretch.Stretch.{Stretch}
use Rattle.gap_map.specs.Stretches.{IsCut, known_at, known_in}
use Rattle.hour_store.specs.Store.{IsStore, Store, is_known, rows_at}
use Rattle.board.specs.declared.clause.Term.{Term}
use Rattle.board.specs.Logs.{first_tenth, hour_log, no_row, no_spec}
use Rattle.board.specs.Verdicts.{IsVerdict, Keeps}
use Rattle.ring_config.specs.Settings.{Settings}
use Rattle.ring_config.specs.Sound.{IsSound}
use Rattle.signal_log.specs.Log.{HasHistory, log_of, track_at}
use Rattle.signal_log.specs.States.{IsAtEndOf, MayBeAtEnd}
use Rattle.signal_log.specs.Points.{rows_or_none}
use Rattle.signal_log.specs.Rows.{hour_rows}
use Rattle.signal_log.specs.Laws.{ViewsTell}
use Rattle.signal_log.proofs.Stored.{known_cut}
use Rattle.signal_log.proofs.Viewed.{hours_tell}
use Rattle.rule_audit.specs.declared.rules.Rule.{Rule}
use Rattle.rule_audit.specs.declared.rules.Rule.TheVariants.{Interval, Conflict, Companion, Parents}
use Rattle.rule_audit.specs.declared.lines.Place.{Place}
use Rattle.rule_audit.specs.declared.lines.Place.TheVariants.{BeforeRow, EndOfTenth}
use Rattle.rule_audit.specs.declared.lines.AuditLine.{AuditLine}
use Rattle.rule_audit.specs.Rules.{rules_for}
use Rattle.rule_audit.specs.Obligations.{obligations_from}
use Rattle.rule_audit.specs.Judged.{IsRuleVerdict}
use Rattle.rule_audit.specs.Lines.{AreLinesOf}
use Rattle.rule_audit.proofs.Tracked.{channels_are}
use Rattle.hour_work.specs.Numbers.{Numbers, patched}
use Rattle.hour_work.specs.Points.{Carried, IsCarryAt, IsFutureFor, is_known_before}
use Rattle.hour_work.specs.Reports.{IsHourBetween}
use Rattle.hour_work.specs.Verdicts.{AreAuditLines, obligations_in, states_in}
use Rattle.hour_work.proofs.LinkLaws.{Leads, Local, clause_as, closes_alike, interval_as, keeps_alike}
use Rattle.hour_work.proofs.OneLaws.{one_lines}
use Rattle.hour_work.proofs.PatchLaws.{patched-below, patched-past}
use Rattle.hour_work.proofs.PlacedLaws.{FitPlace, FitRule, IsPlaced, all_placed, each_weaker, known_same, rules_fit}
use Rattle.hour_work.proofs.PointLaws.{between_hour, unheld_lines}
use Rattle.hour_work.proofs.VerdictLaws.{lines_as}
use Rattle.session.specs.Links.{Ahead, Apart, AreKept}
use Rattle.session.specs.Moved.{KeepLines}
use Rattle.session.specs.Puts.{AreSameBut, SameHour}
use Rattle.session.specs.Renewed.{AreNewCarries, AreNewFutures}
use Rattle.session.proofs.KeptLaws.{between_kept}
use Rattle.session.proofs.MovedLaws.{no_carry}
use Rattle.session.proofs.RenewLaws.{same_has}
use Rattle.session.proofs.StatesLaws.{has_cut}

-- ---- an hour that two stores have alike, between the same points

end_local : (c : Settings) (s : Store) (x : ℕ) → Local (length c.specs) (MayBeAtEnd (log_of c.specs s) x)
end_local c s x v w e (h, agrees, ends) = (h, agrees, λ i lt. subst (λ z. IsAtEndOf (log_of c.specs s) h i x z) (sym (e i lt)) (ends i lt))

module _ (c : Settings) (sound : IsSound c) (hour : ℕ) (before : Carried) (rows : List Row) (blanks : List Span) (after : Ahead) (ss : List Stretch) (cut : IsCut (known_in true blanks) (36000 * hour) (36000 * hour + 36000) ss) where
  tells : (s : Store) → IsHourBetween c s hour before (Some rows) blanks after → ViewsTell s (hour_log hour c.specs rows ss before.pasts after)
  tells s is = hours_tell s (hour_log hour c.specs rows ss before.pasts after) (channels_are c sound) (between_hour c sound s hour before rows blanks after ss is cut)

  -- at the end of a known tenth the channels may show the same
  ends_lead : (s t : Store) → IsHourBetween c s hour before (Some rows) blanks after → IsHourBetween c t hour before (Some rows) blanks after → (x : ℕ) → known_at ss x ≡ true → Leads (length c.specs) (MayBeAtEnd (log_of c.specs s) x) (MayBeAtEnd (log_of c.specs t) x)
  ends_lead s t is is_new x known w q =
      let (v, p, alike) = ((tells s is).ends_of_all x known).back w q in
      let (u, r, near) = ((tells t is_new).ends_of_all x known).to v p in
      (u, r, λ i lt. (near i lt).1 ∙ (alike i lt).1)

  terms_stay : (s t : Store) → IsHourBetween c s hour before (Some rows) blanks after → IsHourBetween c t hour before (Some rows) blanks after → (x : ℕ) (terms : List Term) (v : Verdict) → known_at ss x ≡ true → IsVerdict v (MayBeAtEnd (log_of c.specs s) x) (Keeps terms) → IsVerdict v (MayBeAtEnd (log_of c.specs t) x) (Keeps terms)
  terms_stay s t is is_new x terms v known = clause_as (length c.specs) (MayBeAtEnd (log_of c.specs s) x) (MayBeAtEnd (log_of c.specs t) x) terms (end_local c s x) (end_local c t x) (ends_lead s t is is_new x known) (ends_lead t s is_new is x known) v

  -- the verdict on a rule at a known place
  verdict_stays : (s t : Store) → IsHourBetween c s hour before (Some rows) blanks after → IsHourBetween c t hour before (Some rows) blanks after → (x : ℕ) (place : Place) (rule : Rule) (v : Verdict) → known_at ss x ≡ true → first_tenth hour ≤ x → FitPlace rows x place → FitRule c.specs rule → IsRuleVerdict (states_in c s rows) c.specs rows x place rule v → IsRuleVerdict (states_in c t rows) c.specs rows x place rule v
  verdict_stays s t is is_new x (BeforeRow n) (Interval item) v known low (lt, at) fits h =
      let r = get_or rows n no_row in
      let spec = get_or c.specs item.spec no_spec in
      let m = (track_at (log_of c.specs s) item.spec).rules in
      let here : known_at ss r.at ≡ true = subst (λ (y : ℕ). known_at ss y ≡ true) (sym at) known in
      let p = pos (first_tenth hour) in
      let le : p ≤ℤ pos r.at = omega (arith, ints) in
      let there = slice_get_within c.specs item.spec fits.spec fits.there in
      let told = (tells s is).rows is.history n item.spec lt here there in
      let told_new = (tells t is_new).rows is_new.history n item.spec lt here there in
      interval_as m p _ _ _ _ (closes_alike m p spec r item) (keeps_alike m p spec r item fits.bound le) told_new v
      (interval_as m p _ _ _ _ (closes_alike m p spec r item) (keeps_alike m p spec r item fits.bound le) (record { to = told.back; back = told.to }) v h)
  verdict_stays s t is is_new x (BeforeRow n) (Conflict a b terms) v known low fp fits h = h
  verdict_stays s t is is_new x (BeforeRow n) (Companion p terms) v known low fp fits h = h
  verdict_stays s t is is_new x (BeforeRow n) (Parents o terms) v known low fp fits h = h
  verdict_stays s t is is_new x EndOfTenth (Interval item) v known low fp fits h = h
  verdict_stays s t is is_new x EndOfTenth (Conflict a b terms) v known low fp fits h = terms_stay s t is is_new x terms v known h
  verdict_stays s t is is_new x EndOfTenth (Companion p terms) v known low fp fits h = terms_stay s t is is_new x terms v known h
  verdict_stays s t is is_new x EndOfTenth (Parents o terms) v known low fp fits h = terms_stay s t is is_new x terms v known h

  -- what is to be judged is what the stretches say
  judged : (s : Store) → IsHourBetween c s hour before (Some rows) blanks after → obligations_from (known_at ss) c.specs (rules_for c) rows before.known (first_tenth hour) 36000 ≡ obligations_from (is_known s) c.specs (rules_for c) rows (is_known_before (is_known s) (first_tenth hour)) (first_tenth hour) 36000
  judged s is =
      known_same (known_at ss) (is_known s) c.specs (rules_for c) rows before.known (first_tenth hour) 36000 (λ x low high. known_cut s hour x ss (between_hour c sound s hour before rows blanks after ss is cut).cut low high)
      ∙ ap (λ b. obligations_from (is_known s) c.specs (rules_for c) rows b (first_tenth hour) 36000) is.is_before.known

  pub lines_stay : (s t : Store) (lines : List AuditLine) → IsHourBetween c s hour before (Some rows) blanks after → IsHourBetween c t hour before (Some rows) blanks after → AreAuditLines c s hour lines → AreAuditLines c t hour lines
  unfolding obligations_in
  lines_stay s t lines is is_new are =
      let own : hour_rows s hour ≡ rows = ap rows_or_none is.has_hour.held in
      let own_new : hour_rows t hour ≡ rows = ap rows_or_none is_new.has_hour.held in
      let os = obligations_from (known_at ss) c.specs (rules_for c) rows before.known (first_tenth hour) 36000 in
      let placed = all_placed (known_at ss) c.specs (rules_for c) rows before.known (first_tenth hour) 36000 (first_tenth hour) (36000 * hour + 36000) (rules_fit c sound) (omega arith) (omega arith) in
      let each = each_weaker (IsPlaced (known_at ss) c.specs (rules_for c) rows (first_tenth hour) (36000 * hour + 36000)) (λ o. (v : Verdict) → IsRuleVerdict (states_in c s rows) c.specs rows o.at o.place o.rule v → IsRuleVerdict (states_in c t rows) c.specs rows o.at o.place o.rule v) os
      (λ o p v h. verdict_stays s t is is_new o.at o.place o.rule v p.is_known p.low p.place p.rule h) placed in
      let of_rows : AreLinesOf (λ o v. IsRuleVerdict (states_in c s rows) c.specs rows o.at o.place o.rule v) (obligations_from (is_known s) c.specs (rules_for c) rows (is_known_before (is_known s) (first_tenth hour)) (first_tenth hour) 36000) lines =
      subst (λ rs. AreLinesOf (λ o v. IsRuleVerdict (states_in c s rs) c.specs rs o.at o.place o.rule v) (obligations_from (is_known s) c.specs (rules_for c) rs (is_known_before (is_known s) (first_tenth hour)) (first_tenth hour) 36000) lines) own are in
      let of_cut : AreLinesOf (λ o v. IsRuleVerdict (states_in c s rows) c.specs rows o.at o.place o.rule v) os lines = subst (λ qs. AreLinesOf (λ o v. IsRuleVerdict (states_in c s rows) c.specs rows o.at o.place o.rule v) qs lines) (sym (judged s is)) of_rows in
      let theirs = lines_as (λ o v. IsRuleVerdict (states_in c s rows) c.specs rows o.at o.place o.rule v) (λ o v. IsRuleVerdict (states_in c t rows) c.specs rows o.at o.place o.rule v) os lines each of_cut in
      let new_rows : AreLinesOf (λ o v. IsRuleVerdict (states_in c t rows) c.specs rows o.at o.place o.rule v) (obligations_from (is_known t) c.specs (rules_for c) rows (is_known_before (is_known t) (first_tenth hour)) (first_tenth hour) 36000) lines = subst (λ qs. AreLinesOf (λ o v. IsRuleVerdict (states_in c t rows) c.specs rows o.at o.place o.rule v) qs lines) (judged t is_new) theirs in
      subst (λ rs. AreLinesOf (λ o v. IsRuleVerdict (states_in c t rs) c.specs rs o.at o.place o.rule v) (obligations_from (is_known t) c.specs (rules_for c) rs (is_known_before (is_known t) (first_tenth hour)) (first_tenth hour) 36000) lines) (sym own_new) new_rows

-- so the lines of its audit are the same
lines_alike : (c : Settings) (s t : Store) (hour : ℕ) (before : Carried) (held : Option (List Row)) (blanks : List Span) (after : Ahead) (a b : List AuditLine) → IsSound c → IsHourBetween c s hour before held blanks after → IsHourBetween c t hour before held blanks after → AreAuditLines c s hour a → AreAuditLines c t hour b → b ≡ a
lines_alike c s t hour before None blanks after a b sound is is_new old fresh =
    let none : a ≡ [] = one_lines c s hour a [] is.history old (unheld_lines c s hour is.has_hour.held) in
    let none_new : b ≡ [] = one_lines c t hour b [] is_new.history fresh (unheld_lines c t hour is_new.has_hour.held) in
    none_new ∙ sym none
lines_alike c s t hour before (Some rows) blanks after a b sound is is_new old fresh =
    let (ss, cut) = has_cut (known_in true blanks) 36000 (36000 * hour) in
    one_lines c t hour b a is_new.history fresh (lines_stay c sound hour before rows blanks after ss cut s t a is is_new old)

-- ---- an edit that is made

pub keep_lines : (c : Settings) (s t : Store) (first last : ℕ) (waiting : List Bool) (xs new_carries : List Carried) (ys : List Ahead) (from : ℕ) (new_futures : List Ahead) (ps : List Numbers) (moved : Applied) → IsSound c → AreSameBut first last s t → IsStore s → HasHistory (log_of c.specs s) → AreKept c s waiting xs ys ps → IsStore t → HasHistory (log_of c.specs t) → length t.hours ≡ length s.hours
    → AreNewCarries c t first last xs new_carries → AreNewFutures c t first last ys from new_futures → moved.from ≡ from → moved.to ≡ first + length new_carries → KeepLines c s t moved
keep_lines c s t first last waiting xs new_carries ys from new_futures ps moved sound same_but is has kept is_new has_new hours x y fe te a b hour lt old fresh out =
    let low = y.low in
    let size = y.size in
    let some = x.some in
    let within = x.within in
    let nc = kept.forth.size in
    let nf = kept.back.size in
    let apart : Apart first last hour = elim out [ inl below ↦ inl (omega arith) | inr past ↦ inr (omega arith) ] in
    let same : SameHour s t hour = same_but hour apart in
    let carry : get_or (patched xs (first + 1) new_carries) hour no_carry ≡ get_or xs hour no_carry = elim out [
      | inl below ↦ patched-below xs (first + 1) new_carries hour no_carry (omega arith) (omega arith)
      | inr past ↦ x.same hour no_carry (omega arith) (omega arith)
    ] in
    let future : get_or (patched ys from new_futures) (hour + 1) [] ≡ get_or ys (hour + 1) [] = elim out [
      | inl below ↦ y.same hour [] (omega arith)
      | inr past ↦ patched-past ys from new_futures (hour + 1) [] (omega arith) (omega arith)
    ] in
    let was = between_kept c s xs ys is kept.forth kept.back has hour no_carry [] lt in
    let now = between_kept c t (patched xs (first + 1) new_carries) (patched ys from new_futures) is_new x.forth y.back has_new hour no_carry [] (omega arith) in
    lines_alike c s t hour (get_or xs hour no_carry) (rows_at s hour) s.blanks (get_or ys (hour + 1) []) a b sound was (record {
      has_hour = same_has s t t hour same now.has_hour;
      is_before = subst (λ (v : Carried). IsCarryAt c t hour v) carry now.is_before;
      is_after = subst (λ (v : Ahead). IsFutureFor c t (hour + 1) v) future now.is_after;
      history = has_new;
    }) old fresh
