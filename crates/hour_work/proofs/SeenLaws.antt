-- The measures of an hour, from what its calls have.
use Rattle.std.proofs.Common.{◌≡◌, ◌∙◌, ◌↔◌, ℕ, ◌+◌, ◌<◌, ◌≤◌, pos, Bool, List, [], ◌∷◌, length, Option, Some, None, refl, sym, ap, subst, arith}
use Rattle.std.proofs.lemmas.Bool.{false≢true}
use Rattle.std.proofs.lemmas.List.Quantifiers.{position-Some}
use Rattle.channel_tables.specs.declared.spec.Spec.{Spec}
use Rattle.reach.specs.Runs.{State}
use Rattle.sig_base.specs.declared.values.Row.{Row}
use Rattle.sig_base.proofs.Each.{Each}
use Rattle.event_codes.specs.declared.channels.Channel.{Channel}
use Rattle.gap_map.specs.declared.stretch.Stretch.{Stretch}
use Rattle.gap_map.specs.Stretches.{known_at}
use Rattle.hour_store.specs.Store.{Store, is_known, rows_at}
use Rattle.board.specs.Logs.{HourLog, first_tenth, hour_log, no_spec}
use Rattle.board.specs.Verdicts.{MayPass}
use Rattle.hour_sweep.specs.Rows.{known_rows}
use Rattle.hour_sweep.specs.Hours.{IsHour}
use Rattle.ring_config.specs.Settings.{Settings, is_same_channel, spec_place}
use Rattle.ring_config.specs.Sound.{IsSound}
use Rattle.signal_log.specs.Log.{log_of, track_at}
use Rattle.signal_log.specs.States.{MayBeAtEndOf}
use Rattle.signal_log.specs.Laws.{ViewsTell}
use Rattle.signal_log.specs.Opened.{HasPlace, IsOpened, Opened}
use Rattle.signal_log.specs.Points.{rows_or_none}
use Rattle.signal_log.proofs.Stored.{cut_known, known_cut, known_hour}
use Rattle.signal_log.proofs.Viewed.{hours_tell}
use Rattle.detector_state.specs.declared.state_asked.Asked.{Asked}
use Rattle.detector_state.specs.States.{MeetsAt}
use Rattle.service_cut.specs.Cut.{CutLists, IsCut as IsCutOf}
use Rattle.service_cut.specs.Parts.{IsCarry as IsCutCarry}
use Rattle.other_measures.specs.Hours.{AreNumbers, AreStates, OtherNumbers}
use Rattle.other_measures.specs.States.{IsSeen}
use Rattle.other_measures.proofs.Stores.{states_as}
use Rattle.rule_audit.specs.declared.lines.AuditLine.{AuditLine}
use Rattle.rule_audit.specs.Rules.{rules_for}
use Rattle.rule_audit.specs.Lines.{AreLines, IsAudited}
use Rattle.service_cut.specs.declared.parts.Part.{Part}
use Rattle.arrival_measures.specs.declared.sums.ArrivalSum.{ArrivalSum}
use Rattle.arrival_measures.specs.Crossing.{CarryParts}
use Rattle.arrival_measures.specs.Hours.{AreAllJudged, IsUnheld}
use Rattle.arrival_measures.specs.Judged.{phase_channel}
use Rattle.arrival_measures.specs.Results.{AreHourSums, AreHourSumsBy, IsJudgedBy}
use Rattle.arrival_measures.specs.Views.{IsSeen as IsShown}
use Rattle.other_measures.specs.Crossing.{Crossing, IsCarry as IsCrossing}
use Rattle.hour_work.specs.Points.{Carried, IsCarryAt}
use Rattle.hour_work.specs.Verdicts.{AreAuditLines}
use Rattle.hour_work.specs.Rows.{earlier_rows, own_rows}
use Rattle.hour_work.specs.Measures.{MayBeIn, MeetsIn}
use Rattle.hour_work.specs.Reports.{IsCutAtPlace, IsHourSeen, IsSeenAt}
use Rattle.hour_work.proofs.MeasureLaws.{hour_is, meets_as, own_known}
use Rattle.hour_work.proofs.BarLaws.{here, open_there, own_is}
use Rattle.hour_work.proofs.PlacedLaws.{each_weaker}
use Rattle.hour_work.proofs.ArrivalLaws.{HaveSameColours, IsSeenFrom, IsSeenIn, all_judged_as, known_within}
use Rattle.hour_work.proofs.PointLaws.{audited, between_hour, lines_done}
use Rattle.rule_audit.proofs.Tracked.{channels_are}

-- an hour that isn't held
never : (c : Settings) (s : Store) (hour : ℕ) → rows_at s hour ≡ None → (channel : Channel) (i : ℕ) (asked : Asked) (t : ℕ) → spec_place c.specs channel ≡ Some i → first_tenth hour ≤ t → t < first_tenth hour + 36000 → ⊥ ↔ MeetsIn c s i asked t
never c s hour none channel i asked t at low high = (λ b. absurd b, λ is. false≢true (sym (known_hour s hour t None none low high) ∙ is.0))

pub unseen_states : (c : Settings) (s : Store) (hour : ℕ) (others : OtherNumbers) → rows_at s hour ≡ None → ((from : ℕ) → AreStates (λ _ _ _. ⊥) from c others) → AreStates (MeetsIn c s) (first_tenth hour) c others
unseen_states c s hour others none h = states_as (λ _ _ _. ⊥) (MeetsIn c s) (first_tenth hour) c others (never c s hour none) (h (first_tenth hour))

-- no tenth of it is known
unheld_hour : (s : Store) (hour : ℕ) → rows_at s hour ≡ None → IsUnheld (is_known s) hour
unheld_hour s hour none t low high = known_hour s hour t None none low (omega arith)

unseen : (s : Store) (hour : ℕ) → rows_at s hour ≡ None → (x : Row) → IsSeenIn (is_known s) hour x → ⊥
unseen s hour none x seen = false≢true (sym (unheld_hour s hour none x.at seen.low seen.high) ∙ seen.is_known)

unjudged : (c : Settings) (known : ℕ → Bool) (rows : List Row) (ss : List Stretch) (hour : ℕ) → rows ≡ [] → IsUnheld known hour → IsJudgedBy c None known rows ss hour None
unjudged c known [] ss hour e un = un
unjudged c known (x ∷ xs) ss hour e un = absurd (let bad : x ∷ xs ≡ [] = e in cc)

-- what service_cut lists of an hour that is opened
pub cut_of : (c : Settings) (s : Store) (o : Opened) (before : Carried) (old : List (Option Part)) (cuts : CutLists) → old ≡ before.cuts → IsSound c → IsOpened o
    → ((known : ℕ → Bool) (b : List Row) (h : ℕ) → IsHour known h (rows_or_none o.rows) o.stretches → IsCutCarry known c.phases b h old → IsCutOf known c.phases b h (rows_or_none o.rows) cuts)
    → HasPlace s o → IsCarryAt c s o.hour before → IsCutAtPlace c s o before cuts
cut_of c s o before old cuts same sound opened law has is = record {
  sound = sound;
  held = o.rows;
  blanks = o.blanks;
  is_rows = refl;
  are_rows = opened.are_rows;
  has_hour = has;
  cut = opened.cut;
  is_before = is;
  lists = law (is_known s) (earlier_rows s o.hour) o.hour (hour_is s o.hour o.rows o.blanks o.stretches has opened.are_rows opened.cut) (subst (λ ps. IsCutCarry (is_known s) c.phases (earlier_rows s o.hour) o.hour ps) (sym same) is.cuts);
}

-- the numbers of pedestrian signals, preempts and the coordination
pub numbers_told : (c : Settings) (s : Store) (o : Opened) (old first : Crossing) (others : OtherNumbers) → old ≡ first → IsOpened o → HasPlace s o
    → ((known : ℕ → Bool) (b : List Row) (h : ℕ) → IsHour known h (rows_or_none o.rows) o.stretches → IsCrossing known c b h old → AreNumbers known c b (known_rows known (rows_or_none o.rows)) others)
    → IsCrossing (is_known s) c (earlier_rows s o.hour) o.hour first → AreNumbers (is_known s) c (earlier_rows s o.hour) (own_rows s o.hour) others
numbers_told c s o old first others same opened has law is =
    subst (λ (rs : List Row). AreNumbers (is_known s) c (earlier_rows s o.hour) rs others) (own_known s o.hour o.rows has.held)
    (law (is_known s) (earlier_rows s o.hour) o.hour (hour_is s o.hour o.rows o.blanks o.stretches has opened.are_rows opened.cut) (subst (λ x. IsCrossing (is_known s) c (earlier_rows s o.hour) o.hour x) (sym same) is))

-- an hour that is seen
module _ (c : Settings) (s : Store) (hour : ℕ) (before : Carried) (rows : List Row) (ss : List Stretch) (view : HourLog) (seen : IsHourSeen c s hour before rows ss view) where
  pub seen_rows : known_rows (is_known s) rows ≡ own_rows s hour
  seen_rows = own_known s hour (Some rows) seen.between.has_hour.held

  -- the log of its view
  abbrev pub seen_log : HourLog
  seen_log = hour_log hour c.specs rows ss before.pasts seen.after

  seen_view : IsSeen c view rows ss seen_log
  seen_view = record { is_view = seen.is_view; same_specs = refl; same_rows = refl; same_stretches = refl }

  pub tells : ViewsTell s seen_log
  tells = hours_tell s seen_log (channels_are c seen.sound) (between_hour c seen.sound s hour before rows seen.blanks seen.after ss seen.between seen.cut)

  ends_as : (channel : Channel) (i : ℕ) (asked : Asked) (t : ℕ) → spec_place c.specs channel ≡ Some i → first_tenth hour ≤ t → t < first_tenth hour + 36000 → MeetsAt seen_log i asked t ↔ MeetsIn c s i asked t
  ends_as channel i asked t at low high =
      let same : known_at ss t ≡ is_known s t = known_cut s hour t ss (cut_known s hour (Some rows) seen.blanks ss seen.between.has_hour seen.cut) low high in
      let within : i < length c.specs = (position-Some (λ (z : Spec). is_same_channel z.channel channel) c.specs i no_spec at).0 in
      let m = (track_at (log_of c.specs s) i).rules in
      let p = pos (first_tenth hour) in
      let P = MayPass seen_log t i in
      let Q = MayBeAtEndOf (log_of c.specs s) i t in (
        λ met. (sym same ∙ met.0, (meets_as m p P Q (tells.ends seen.between.history t i met.0 within) asked).0 met.1),
        λ met. let here = same ∙ met.0 in (here, (meets_as m p P Q (tells.ends seen.between.history t i here within) asked).1 met.1),
      )

  pub seen_states : (others : OtherNumbers) → ((log : HourLog) → IsSeen c view rows ss log → AreStates (MeetsAt log) (first_tenth log.hour) c others) → AreStates (MeetsIn c s) (first_tenth hour) c others
  seen_states others h = states_as (MeetsAt seen_log) (MeetsIn c s) (first_tenth hour) c others ends_as (h seen_log seen_view)

  pub seen_shown : IsShown c view rows ss seen_log
  seen_shown = record { is_view = seen.is_view; same_specs = refl; same_rows = refl; same_stretches = refl }

  same_colours : (p i : ℕ) → spec_place c.specs (phase_channel p) ≡ Some i → (x : Row) → IsSeenIn (is_known s) hour x → HaveSameColours (MayPass seen_log x.at i) (MayBeIn c s i x.at)
  same_colours p i at x is =
      let h = is.high in
      let high : x.at < first_tenth hour + 36000 = omega arith in
      let same : known_at ss x.at ≡ is_known s x.at = known_cut s hour x.at ss (cut_known s hour (Some rows) seen.blanks ss seen.between.has_hour seen.cut) is.low high in
      let within : i < length c.specs = (position-Some (λ (z : Spec). is_same_channel z.channel (phase_channel p)) c.specs i no_spec at).0 in
      let ends = tells.ends seen.between.history x.at i (same ∙ is.is_known) within in
      record {
        to = λ v may. let (w, q, alike) = ends.to v may in (w, q, alike.1);
        back = λ w q. let (v, may, alike) = ends.back w q in (v, may, alike.1);
      }

  -- its audit
  pub seen_audited : IsAudited c view rows ss seen_log
  seen_audited = audited c seen.sound s hour before rows seen.blanks seen.after ss seen.between seen.cut view seen.is_view

  pub seen_lines : (lines : List AuditLine) → AreLines seen_log (rules_for c) before.known lines → AreAuditLines c s hour lines
  seen_lines = lines_done c seen.sound s hour before rows seen.blanks seen.after ss seen.between seen.cut

-- an hour that is opened, as it is cut
module _ (c : Settings) (s : Store) (o : Opened) (before : Carried) (lists : CutLists) (is : IsCutAtPlace c s o before lists) where
  places : Each (IsSeenIn (is_known s) o.hour) (known_rows (is_known s) (rows_or_none o.rows))
  places =
      let known = is_known s in
      let from = first_tenth o.hour in
      let rows = rows_or_none o.rows in
      each_weaker (IsSeenFrom known from (from + 36000)) (IsSeenIn known o.hour) (known_rows known rows)
      (λ x is. let h = is.high in record { low = is.low; high = omega arith; is_known = is.is_known })
      (known_within known from (from + 36000) rows is.are_rows.rise)

  told : (M : ℕ → ℕ → State → Type 0) → ((p i : ℕ) → spec_place c.specs (phase_channel p) ≡ Some i → (x : Row) → IsSeenIn (is_known s) o.hour x → HaveSameColours (M i x.at) (MayBeIn c s i x.at)) → (sums : List ArrivalSum)
      → AreAllJudged M (is_known s) c (earlier_rows s o.hour) (known_rows (is_known s) (rows_or_none o.rows)) o.hour sums → AreAllJudged (MayBeIn c s) (is_known s) c (earlier_rows s o.hour) (own_rows s o.hour) o.hour sums
  told M same sums h =
      subst (λ (rs : List Row). AreAllJudged (MayBeIn c s) (is_known s) c (earlier_rows s o.hour) rs o.hour sums) (own_is c s o.hour before (rows_or_none o.rows) o.stretches lists is)
      (all_judged_as M (MayBeIn c s) (is_known s) c o.hour same (earlier_rows s o.hour) (known_rows (is_known s) (rows_or_none o.rows)) sums places h)

  -- the judged arrivals and actuations, by the view of the hour
  pub judged_seen : (view : HourLog) (past : CarryParts) (sums : List ArrivalSum) → past ≡ before.arrivals → AreHourSums c view (rows_or_none o.rows) o.stretches past lists sums → IsSeenAt c s o before view → AreAllJudged (MayBeIn c s) (is_known s) c (earlier_rows s o.hour) (own_rows s o.hour) o.hour sums
  judged_seen view past sums e law seen =
      let rows = rows_or_none o.rows in
      let log = seen_log c s o.hour before rows o.stretches view seen in
      told (λ i t v. MayPass log t i v) (same_colours c s o.hour before rows o.stretches view seen) sums
      (law (is_known s) (earlier_rows s o.hour) o.hour log (here c s o.hour before rows o.stretches lists is) (open_there c s o.hour before rows o.stretches lists is past e) is.lists (seen_shown c s o.hour before rows o.stretches view seen))

  -- those of an hour that isn't held
  pub judged_unseen : (past : CarryParts) (sums : List ArrivalSum) → past ≡ before.arrivals → AreHourSumsBy c None (rows_or_none o.rows) o.stretches past lists sums → rows_at s o.hour ≡ None → AreAllJudged (MayBeIn c s) (is_known s) c (earlier_rows s o.hour) (own_rows s o.hour) o.hour sums
  judged_unseen past sums e law none =
      let rows = rows_or_none o.rows in
      let empty : rows ≡ [] = is.is_rows ∙ ap rows_or_none (sym is.has_hour.held ∙ none) in
      told (λ _ _ _. ⊥) (λ p i at x seen. absurd (unseen s o.hour none x seen)) sums
      (law (is_known s) (earlier_rows s o.hour) o.hour None (here c s o.hour before rows o.stretches lists is) (open_there c s o.hour before rows o.stretches lists is past e) is.lists (unjudged c (is_known s) rows o.stretches o.hour empty (unheld_hour s o.hour none)))
