-- What is kept at hour points, and what is known between two of them.
use Rattle.std.proofs.Common.{◌≡◌, ◌∙◌, ℕ, ◌+◌, ◌*◌, ◌-◌, ◌≤◌, ℤ, pos, Bool, true, false, nat_lt, List, [], ◌∷◌, length, take, Option, Some, None, refl, sym, ap, subst, arith}
use Rattle.std.specs.Prelude.{is_some, option_map}
use mir.Val.{bool_byte}
use Rattle.std.specs.List.{All}
use Rattle.std.proofs.lemmas.Bool.Decides.{nat_tests}
use Rattle.span_set.specs.declared.set.Span.{Span}
use Rattle.sig_base.specs.HourRows.{Shown}
use Rattle.sig_base.specs.declared.values.Row.{Row}
use Rattle.gap_map.specs.declared.stretch.Stretch.{Stretch}
use Rattle.gap_map.specs.Stretches.{IsCut as IsStretched, known_in}
use Rattle.hour_store.specs.Store.{Store, count_in, held_at, is_known, rows_at, rows_of}
use Rattle.hour_sweep.specs.Rows.{known_rows}
use Rattle.service_cut.specs.declared.parts.Part.{Part}
use Rattle.service_cut.specs.declared.items.Served.{Served}
use Rattle.service_cut.specs.Parts.{IsCarry as IsCut}
use Rattle.service_cut.specs.Cut.{closing_at, served_from}
use Rattle.other_measures.specs.Crossing.{Crossing, IsCarry as IsCrossing}
use Rattle.stop_bar.specs.Crossing.{Crossing as AtBar}
use Rattle.stop_bar.specs.All.{AreAtBars}
use Rattle.arrival_measures.specs.Crossing.{CarryParts, IsCarry as AreOpen}
use Rattle.board.specs.Hours.{AreEnds, AreStarts}
use Rattle.board.specs.Logs.{HourLog, first_tenth, hour_log}
use Rattle.board.specs.Places.{AreAheadsOf, IsViewOf}
use Rattle.board.specs.Stops.{AreBefore}
use Rattle.ring_config.specs.Settings.{Settings}
use Rattle.ring_config.specs.Sound.{IsSound}
use Rattle.signal_log.specs.Log.{Log, log_of}
use Rattle.signal_log.specs.Points.{HasHour, rows_or_none}
use Rattle.signal_log.specs.Views.{IsHourOf}
use Rattle.signal_log.proofs.Lawful.{ends, starts}
use Rattle.signal_log.proofs.Stored.{cut_known, known_cut, known_hour}
use Rattle.signal_log.proofs.Viewed.{hours_tell}
use Rattle.rule_audit.specs.declared.lines.AuditLine.{AuditLine}
use Rattle.rule_audit.specs.Rules.{rules_for}
use Rattle.rule_audit.specs.Lines.{AreLines, IsAudited}
use Rattle.hour_work.specs.Numbers.{FitsCount, count_in_hour}
use Rattle.hour_sweep.specs.Sums.{one_if}
use Rattle.hour_work.specs.Counts.{counts_of}
use Rattle.hour_work.specs.Points.{Carried, FitPoint, IsCarryAt, IsFutureAt, is_known_before}
use Rattle.hour_work.specs.Verdicts.{AreAuditLines, HasStoreVerdict, obligations_in}
use Rattle.hour_work.specs.Rows.{earlier_rows}
use Rattle.signal_log.specs.Rows.{hour_rows}
use Rattle.hour_work.specs.Reports.{IsHourBetween}
use Rattle.hour_work.proofs.CountLaws.{count_same}
use Rattle.rule_audit.proofs.Tracked.{channels_are}
use Rattle.hour_work.proofs.PlacedLaws.{all_numbered, each_all}
use Rattle.hour_work.proofs.TallyLaws.{counts_fit, lines_each}
use Rattle.hour_work.proofs.VerdictLaws.{lines_in, no_lines, runs_are}

-- ---- points

no_rows : (hours : List (Option Shown)) → rows_of (take 0 hours) ≡ []
no_rows [] = refl
no_rows (o ∷ hours) = refl

pub none_earlier : (s : Store) → earlier_rows s 0 ≡ []
none_earlier s = ap (λ rs. known_rows (is_known s) rs) (no_rows s.hours)

pub first_carry : (c : Settings) (pasts : List (List (List Span))) (cuts : List (Option Part)) (closing : List Served) (splits : List AtBar) (others : Crossing) (arrivals : CarryParts) → AreBefore c.specs pasts → AreStarts c.specs (length c.specs) pasts → ((known : ℕ → Bool) → IsCut known c.phases [] 0 cuts) → closing ≡ [] → ((log : Log) → AreAtBars log c [] 0 splits) → ((known : ℕ → Bool) → IsCrossing known c [] 0 others) → ((known : ℕ → Bool) → AreOpen known c [] 0 arrivals)
    → (s : Store) → IsCarryAt c s 0 (record { pasts = pasts; known = false; cuts = cuts; closing = closing; splits = splits; others = others; arrivals = arrivals })
first_carry c pasts cuts closing splits others arrivals shape are cut none bars crossing opens s = record {
  pasts = starts (log_of c.specs s) pasts shape are;
  known = refl;
  cuts = rw (none_earlier s) (cut (is_known s));
  closing = none ∙ sym (ap (λ rs. closing_at (first_tenth 0) (served_from (is_known s) c.phases [] rs)) (none_earlier s));
  splits = rw (none_earlier s) (bars (log_of c.specs s));
  others = rw (none_earlier s) (crossing (is_known s));
  arrivals = rw (none_earlier s) (opens (is_known s));
}

pub carry_fits : (c : Settings) (s : Store) (k : ℕ) (carry : Carried) → IsCarryAt c s k carry → FitPoint c k carry
carry_fits c s k carry is = record { shape = is.pasts.shape; early = is.pasts.early }

pub last_future : (c : Settings) (hours : ℕ) (aheads : List (List (Option ℤ))) (point : ℤ) → point ≡ pos (36000 * hours) → AreAheadsOf c.specs aheads → AreEnds c.specs point (length c.specs) aheads → (s : Store) → length s.hours ≡ hours → IsFutureAt c s (length s.hours) aheads
last_future c hours aheads point e shape are s n =
    let at : point ≡ pos (36000 * length s.hours) = e ∙ ap (λ h. pos (36000 * h)) (sym n) in
    ends (log_of c.specs s) aheads shape (subst (λ p. AreEnds c.specs p (length c.specs) aheads) at are)

-- the tenth before the point after an hour is the hour's last
pub known_after : (s : Store) (hour : ℕ) (rows : Option (List Row)) (blanks : List Span) (held : Bool) → HasHour s hour rows blanks → held ≡ is_some rows → known_in held blanks (36000 * hour + 35999) ≡ is_known_before (is_known s) (first_tenth (hour + 1))
known_after s hour rows blanks held has e =
    let last : 36000 * (hour + 1) - 1 ≡ 36000 * hour + 35999 = omega arith in
    let some : nat_lt 0 (36000 * (hour + 1)) ≡ true = grind (arith, nat_tests) in
    let known = has.known (36000 * hour + 35999) (omega arith) (omega arith) in
    rw (some, last, e) known

-- ---- an hour

pub held_rows : (o : Option (List Row)) → is_some o ≡ true → o ≡ Some (rows_or_none o)
held_rows None e = absurd (let bad : true ≡ false = sym e in cc)
held_rows (Some rows) e = refl

module _ (c : Settings) (sound : IsSound c) (s : Store) (hour : ℕ) (before : Carried) (rows : List Row) (blanks : List Span) (after : List (List (Option ℤ))) (ss : List Stretch) (is : IsHourBetween c s hour before (Some rows) blanks after) (cut : IsStretched (known_in true blanks) (36000 * hour) (36000 * hour + 36000) ss) where
  pub between_hour : IsHourOf s (hour_log hour c.specs rows ss before.pasts after)
  between_hour = record {
    is_store = is.has_hour.is_store;
    within = is.has_hour.within;
    held = is.has_hour.held;
    cut = cut_known s hour (Some rows) blanks ss is.has_hour cut;
    before = is.is_before.pasts;
    after = is.is_after;
  }

  -- the view of the hour is one that can be audited
  pub audited : (view : HourLog) → IsViewOf (hour_log hour c.specs rows ss before.pasts after) view → IsAudited c view rows ss (hour_log hour c.specs rows ss before.pasts after)
  audited view is_view = record {
    is_view = is_view;
    same_specs = refl;
    same_rows = refl;
    same_stretches = refl;
    runs = runs_are (hour_log hour c.specs rows ss before.pasts after) ((hours_tell s (hour_log hour c.specs rows ss before.pasts after) (channels_are c sound) between_hour).history.runs.0 is.history);
  }

  -- its lines are those of the store
  pub lines_done : (lines : List AuditLine) → AreLines (hour_log hour c.specs rows ss before.pasts after) (rules_for c) before.known lines → AreAuditLines c s hour lines
  lines_done lines = lines_in c s hour rows ss before.pasts after (hours_tell s (hour_log hour c.specs rows ss before.pasts after) (channels_are c sound) between_hour) is.history before.known lines sound is.has_hour.held (λ x low high. known_cut s hour x ss between_hour.cut low high) is.is_before.known

-- an hour that isn't held
pub unheld_lines : (c : Settings) (s : Store) (hour : ℕ) → rows_at s hour ≡ None → AreAuditLines c s hour []
unheld_lines c s hour none = no_lines c s hour (λ x low high. known_hour s hour x None none low high)

some_rows : (o : Option Shown) → is_some o ≡ is_some (option_map (λ h. h.rows) o)
some_rows None = refl
some_rows (Some h) = refl

count_rows : (o : Option Shown) → count_in o ≡ length (rows_or_none (option_map (λ h. h.rows) o))
count_rows None = refl
count_rows (Some h) = refl

-- a `bool` as a number
byte_is : (b : Bool) → bool_byte b ≡ one_if b
byte_is true = refl
byte_is false = refl

pub byte_fits : (b : Bool) → bool_byte b ≤ 1
byte_fits true = omega arith
byte_fits false = omega arith

pub held_one : (s : Store) (hour : ℕ) (rows : Option (List Row)) → rows_at s hour ≡ rows → bool_byte (is_some rows) ≡ one_if (is_some (held_at s hour))
held_one s hour rows e = byte_is (is_some rows) ∙ ap (λ (o : Option (List Row)). one_if (is_some o)) (sym e) ∙ ap one_if (sym (some_rows (held_at s hour)))

pub held_count : (s : Store) (hour : ℕ) (rows : Option (List Row)) → rows_at s hour ≡ rows → length (rows_or_none rows) ≡ count_in (held_at s hour)
held_count s hour rows e = ap (λ (o : Option (List Row)). length (rows_or_none o)) (sym e) ∙ sym (count_rows (held_at s hour))

-- known tenths of an hour
pub known_count : (s : Store) (hour : ℕ) (rows : Option (List Row)) (blanks : List Span) (held : Bool) → HasHour s hour rows blanks → held ≡ is_some rows → count_in_hour (known_in held blanks) hour ≡ count_in_hour (is_known s) hour
known_count s hour rows blanks held has e = count_same (known_in held blanks) (is_known s) (36000 * hour) 36000 (λ t low high. rw e (has.known t low (omega arith)))

-- each line has the number of a rule
pub lines_numbered : (c : Settings) (s : Store) (hour : ℕ) (lines : List AuditLine) → AreAuditLines c s hour lines → All (λ l. (1 ≤ l.rule) × (l.rule ≤ length (rules_for c))) lines
unfolding obligations_in
lines_numbered c s hour lines are = each_all (λ l. (1 ≤ l.rule) × (l.rule ≤ length (rules_for c))) lines
    (lines_each (HasStoreVerdict c s hour) (λ n. (1 ≤ n) × (n ≤ length (rules_for c))) (obligations_in c s hour) lines
    (all_numbered (is_known s) c.specs (rules_for c) (hour_rows s hour) (is_known_before (is_known s) (first_tenth hour)) (first_tenth hour) 36000) are)

-- no rule is judged too often
pub lines_fit : (c : Settings) (s : Store) (hour n : ℕ) (rows : Option (List Row)) (lines : List AuditLine) → rows_at s hour ≡ rows → length (rows_or_none rows) ≤ 400000 → AreAuditLines c s hour lines → All (FitsCount 1) (counts_of n lines)
unfolding obligations_in
lines_fit c s hour n rows lines held few are =
    let own : length (hour_rows s hour) ≡ length (rows_or_none rows) = ap (λ (o : Option (List Row)). length (rows_or_none o)) held in
    counts_fit (HasStoreVerdict c s hour) (is_known s) c.specs (rules_for c) (hour_rows s hour) (is_known_before (is_known s) (first_tenth hour)) (first_tenth hour) n lines (omega arith) are
