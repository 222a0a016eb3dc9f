-- From the ends that were found to the decisive window of a line.
use Rattle.std.proofs.Common.{◌≡◌, refl, ap, sym, ◌∙◌, subst, inl, inr, ◌↔◌, ℕ, suc, zero, ◌+◌, ◌*◌, ◌/◌, ◌<◌, ◌≤◌, true, false, not, List, [], ◌∷◌, length, take, map, get_or, arith, None, pos}
use Rattle.std.specs.Prelude.{is_some}
use Rattle.std.proofs.lemmas.Bool.{and_parts, cases_lt}
use Rattle.std.proofs.lemmas.List.{get_or_past}
use Rattle.span_set.specs.Spans.{is_member}
use Rattle.sig_base.specs.declared.values.Row.{Row}
use Rattle.sig_base.specs.declared.values.Verdict.TheVariants.{Broken}
use Rattle.gap_map.specs.declared.stretch.Stretch.{Stretch}
use Rattle.channel_tables.specs.declared.spec.Spec.{Spec}
use Rattle.reach.specs.declared.seen.AgeBound.{AgeBound}
use Rattle.reach.specs.declared.seen.AgeBound.TheVariants.{Any, AtLeast, AtMost}
use Rattle.ring_config.specs.declared.items.IntervalItem.{IntervalItem}
use Rattle.ring_config.specs.Sound.{IsBound}
use Rattle.hour_store.specs.Store.{IsStore, Store, is_known, known_rows, held_at}
use Rattle.board.specs.declared.clause.Term.{Term}
use Rattle.board.specs.Channels.{AreSpecs}
use Rattle.board.specs.History.{events_at}
use Rattle.board.specs.Logs.{first_tenth, no_row, no_spec}
use Rattle.board.specs.Moves.{count_before}
use Rattle.board.specs.Places.{IsPlace, upto}
use Rattle.board.specs.Verdicts.{AreWithin}
use Rattle.signal_log.specs.Log.{HasHistory, Log, log_of, window_end}
use Rattle.signal_log.specs.Laws.{IsWithinHour}
use Rattle.signal_log.specs.States.{MayBeAfter}
use Rattle.signal_log.proofs.Stored.{events_filter, known_each}
use Rattle.rule_audit.specs.declared.rules.Rule.{Rule}
use Rattle.rule_audit.specs.declared.rules.Rule.TheVariants.{Interval, Conflict, Companion, Parents}
use Rattle.rule_audit.specs.declared.lines.Place.{Place}
use Rattle.rule_audit.specs.declared.lines.Place.TheVariants.{BeforeRow, EndOfTenth}
use Rattle.rule_audit.specs.Judged.{Closes, IsIntervalVerdict, KeepsInterval, Leaves}
use Rattle.rule_audit.specs.Obligations.{Obligation, obligation}
use Rattle.rule_audit.specs.Pass.{FitsItem, FitsRule}
use Rattle.decisive.specs.declared.channel_keep.Keep.TheVariants as keeps
use Rattle.decisive.specs.declared.judge.Start.{Start}
use Rattle.decisive.specs.Parts.{AllNone, NoneIs, no_part, parts_of, term_part}
use Rattle.decisive.specs.Breaks.{FitsPart, FitsParts}
use Rattle.decisive.specs.Candidates.{FromLog}
use Rattle.decisive.specs.Searches.{AreFound, IsBeginAt, rank_in}
use Rattle.decisive.specs.Laws.{IsAt, TellsLess, TellsOf, rows_to}
use Rattle.decisive.specs.Window.{HasLogVerdict, IsCandidate, IsDecisive, IsGreatestTo, IsLeastFrom, IsPlaceIn, only}
use Rattle.decisive.proofs.Decided.{begin_is, end_is, first_is, last_is}
use Rattle.decisive.proofs.Found.{tells_upto}
use Rattle.decisive.proofs.Less.{history_less}
use Rattle.decisive.proofs.Lawful.{broken_grows, broken_stays, more_whole, to_range}
use Rattle.decisive.proofs.Parted.{clause_parts, interval_parts}
use Rattle.decisive.proofs.Placing.{count_over, place_upto}
use Rattle.decisive.proofs.Since.{take_both}

-- ---- rules and their parts

bound_within : (bound : AgeBound) → IsBound bound → IsWithinHour bound
bound_within Any h = tt
bound_within (AtLeast n) (a, b) = b
bound_within (AtMost n) (a, b) = b

terms_fit : (specs : List Spec) (terms : List Term) (k : ℕ) → AreWithin (length specs) terms → k < length (map term_part terms) → FitsPart specs (get_or (map term_part terms) k no_part)
terms_fit specs [] k within lt = absurd (omega arith)
terms_fit specs (t ∷ ts) zero (a, within) lt = record { within = a; keep = tt; hour = tt }
terms_fit specs (t ∷ ts) (suc k) (a, within) lt = terms_fit specs ts k within (omega arith)

item_fits : (specs : List Spec) (item : IntervalItem) → FitsItem specs item → (k : ℕ) → k < 1 → FitsPart specs (get_or (parts_of (Interval item)) k no_part)
item_fits specs item fits zero lt = record { within = fits.within; keep = fits.colour; hour = bound_within item.bound fits.bound }
item_fits specs item fits (suc k) lt = absurd (omega arith)

pub rule_fits : (specs : List Spec) (rule : Rule) → AreSpecs specs → FitsRule specs rule → FitsParts specs (parts_of rule)
rule_fits specs (Interval item) are fits = record { are = are; each = item_fits specs item fits }
rule_fits specs (Conflict a b terms) are fits = record { are = are; each = λ k lt. terms_fit specs terms k fits lt }
rule_fits specs (Companion p terms) are fits = record { are = are; each = λ k lt. terms_fit specs terms k fits lt }
rule_fits specs (Parents o terms) are fits = record { are = are; each = λ k lt. terms_fit specs terms k fits lt }

-- ---- verdicts

module _ (log : Log) (rows : List Row) (number x : ℕ) (are : AreSpecs log.specs) (has : HasHistory log) (lt : x < window_end log) (is : log.known x ≡ true) (same_rows : events_at rows x ≡ events_at log.rows x) (a b : ℕ) (low : a ≤ x) (high : x ≤ b) where
  abbrev less : Log
  less = only a b log

  history : HasHistory less
  history = let all = more_whole log a b in history_less log less.known less.rows are all.known all.rows has

  known : less.known x ≡ true
  known = rw (is, to_range a b x low high) refl

  interval_verdict : (n : ℕ) (item : IntervalItem) → FitsItem log.specs item → IsPlaceIn rows x (BeforeRow n) → HasLogVerdict log rows (obligation number (Interval item) x (BeforeRow n)) Broken → HasLogVerdict less rows (obligation number (Interval item) x (BeforeRow n)) Broken ↔ AllNone less x (rank_in rows x (BeforeRow n)) (parts_of (Interval item))
  interval_verdict n item fits (inside, at) (some, none) =
      let r = get_or rows n no_row in
      let i = item.spec in
      let spec = get_or log.specs i no_spec in
      let leaves : Leaves spec r item.colour = some.2.1 in
      let j = length (events_at (take n rows) x) in
      let law = interval_parts less r i x j item are history refl fits.within lt known at leaves in
      let on = λ (y : ℕ). IsIntervalVerdict Broken (MayBeAfter less i y (length (events_at (take n rows) y))) (Closes spec r item) (KeepsInterval spec r item) in (
        (λ h k l. first k l (law.0 (subst on at h))),
        λ h. subst on (sym at) (law.1 (h 0 (omega arith))),
      )
    where
      first : (k : ℕ) → k < 1 → NoneIs less x (length (events_at (take n rows) x)) (record { spec = item.spec; keep = keeps.Interval item.colour item.bound }) → NoneIs less x (length (events_at (take n rows) x)) (get_or (parts_of (Interval item)) k no_part)
      first zero l h = h
      first (suc k) l h = absurd (omega arith)

  count_is : length (events_at less.rows x) ≤ length (events_at rows x)
  count_is = let e : events_at less.rows x ≡ events_at rows x = events_filter _ log.rows x (to_range a b x low high) ∙ sym same_rows in rw e (omega arith)

  pub verdict_is : (place : Place) (rule : Rule) → FitsRule log.specs rule → IsPlaceIn rows x place → HasLogVerdict log rows (obligation number rule x place) Broken → HasLogVerdict less rows (obligation number rule x place) Broken ↔ AllNone less x (rank_in rows x place) (parts_of rule)
  verdict_is (BeforeRow n) (Interval item) fits place broken = interval_verdict n item fits place broken
  verdict_is EndOfTenth (Conflict p q terms) fits place broken = clause_parts less x (length (events_at rows x)) are history lt known count_is terms fits
  verdict_is EndOfTenth (Companion p terms) fits place broken = clause_parts less x (length (events_at rows x)) are history lt known count_is terms fits
  verdict_is EndOfTenth (Parents o terms) fits place broken = clause_parts less x (length (events_at rows x)) are history lt known count_is terms fits
  verdict_is EndOfTenth (Interval item) fits place broken = absurd broken
  verdict_is (BeforeRow n) (Conflict p q terms) fits place broken = absurd broken
  verdict_is (BeforeRow n) (Companion p terms) fits place broken = absurd broken
  verdict_is (BeforeRow n) (Parents o terms) fits place broken = absurd broken

pub at_place : (log : Log) (rows : List Row) (number x : ℕ) (place : Place) (rule : Rule) → x < window_end log → log.known x ≡ true → FitsRule log.specs rule → IsPlaceIn rows x place → IsAt log rows (obligation number rule x place)
at_place log rows number x (BeforeRow n) (Interval item) lt is fits (a, b) = record { within = lt; is_known = is; fits = (b, fits.within) }
at_place log rows number x (BeforeRow n) (Conflict p q terms) lt is fits h = record { within = lt; is_known = is; fits = tt }
at_place log rows number x (BeforeRow n) (Companion p terms) lt is fits h = record { within = lt; is_known = is; fits = tt }
at_place log rows number x (BeforeRow n) (Parents o terms) lt is fits h = record { within = lt; is_known = is; fits = tt }
at_place log rows number x EndOfTenth (Interval item) lt is fits h = record { within = lt; is_known = is; fits = tt }
at_place log rows number x EndOfTenth (Conflict p q terms) lt is fits h = record { within = lt; is_known = is; fits = tt }
at_place log rows number x EndOfTenth (Companion p terms) lt is fits h = record { within = lt; is_known = is; fits = tt }
at_place log rows number x EndOfTenth (Parents o terms) lt is fits h = record { within = lt; is_known = is; fits = tt }

-- what is broken over the log is broken over all tenths of its window
pub whole_broken : (log : Log) (rows : List Row) (o : Obligation) (v : ℕ) → AreSpecs log.specs → HasHistory log → IsAt log rows o → ((t : ℕ) → log.known t ≡ true → t ≤ v) → HasLogVerdict log rows o Broken → HasLogVerdict (only 0 v log) rows o Broken
whole_broken log rows o v are has at inside broken =
    let more = only 0 v log in
    let all = more_whole log 0 v in
    let less : TellsLess log more = record {
      specs = refl;
      hours = refl;
      known = λ t e. rw (e, to_range 0 v t (omega arith) (inside t e)) refl;
      rows = λ t e. events_filter _ log.rows t (to_range 0 v t (omega arith) (inside t e));
    } in
    broken_stays log more rows o are less at (history_less log more.known more.rows are all.known all.rows has) broken

-- a known tenth is in the window
pub known_within : (s : Store) (t : ℕ) → is_known s t ≡ true → t < 36000 * length s.hours
known_within s t e = elim (cases_lt (t / 36000) (length s.hours)) [
  | inl lt ↦ omega arith
  | inr ge ↦
      let none : held_at s (t / 36000) ≡ None = get_or_past s.hours (t / 36000) None ge in
      let (a, b) = and_parts (is_some (held_at s (t / 36000))) (not (is_member s.blanks (pos t))) e in
      let bad : is_some (held_at s (t / 36000)) ≡ false = ap (λ o. is_some o) none in
      absurd (let c : true ≡ false = sym a ∙ bad in cc)
]

pub concluded : (specs : List Spec) (s : Store) (rows : List Row) (number x hour u v : ℕ) (place : Place) (rule : Rule) (start : Start) → AreSpecs specs → IsStore s → HasHistory (log_of specs s) → FitsRule specs rule → x < window_end (log_of specs s) → is_known s x ≡ true → events_at rows x ≡ events_at (known_rows s) x → IsPlaceIn rows x place → HasLogVerdict (log_of specs s) rows (obligation number rule x place) Broken → FromLog (log_of specs s) start (first_tenth hour) 0 → AreFound start s specs (parts_of rule) hour x (rank_in rows x place) u v → IsDecisive (log_of specs s) rows (obligation number rule x place) u v
concluded specs s rows number x hour u v place rule start are is has fits lt there same_rows is_place broken from found =
    let log = log_of specs s in
    let o = obligation number rule x place in
    let j = rank_in rows x place in
    let parts = rule_fits specs rule are fits in
    let all_known = λ (p : ℕ) (l : p < length (known_rows s)). known_each s p l in
    let verdict = λ (a b : ℕ) (low : a ≤ x) (high : x ≤ b). verdict_is log rows number x are has lt there same_rows a b low high place rule fits is_place broken in
    let end = found.end in
    let begin = found.begin in
    let told = found.placed.told in
    let within = end.within in
    let are_told = end.are.are.tells specs in
    let both : IsLeastFrom (IsCandidate log o) (λ w. HasLogVerdict (only 0 w log) rows o Broken) x v × (v < first_tenth end.next) = elim end.found [
      | inl at ↦ end_is log o rows j parts has all_known verdict start (first_tenth hour) (first_tenth end.next) found.placed.place told.rows.items told.stretches.items are_told end.are.place end.rank_is from (omega arith) v at
      | inr (e, last, none) ↦ last_is log o rows j parts has all_known verdict start (first_tenth hour) (first_tenth end.next) found.placed.place told.rows.items told.stretches.items are_told end.are.place end.rank_is from (omega arith) v last (omega arith) (whole_broken log rows o v are has (at_place log rows number x place rule lt there fits is_place) (λ t k. let w = known_within s t k in omega arith) broken) none
    ] in
    let (least, small) = both in
    record {
      end = least;
      begin = elim begin.found [
        | inl at ↦ begin_is log o rows j parts has all_known verdict (first_tenth begin.first) v begin.place begin.rows begin.stretches begin.tells begin.is_place begin.rank_is (omega arith) u at
        | inr (e, zero_is, none) ↦ subst (λ (q : ℕ). IsGreatestTo (IsCandidate log o) (λ w. HasLogVerdict (only w v log) rows o Broken) x q) (sym zero_is) (first_is log o rows j parts has all_known verdict (first_tenth begin.first) v begin.place begin.rows begin.stretches begin.tells begin.is_place begin.rank_is (omega arith) (omega arith) least.holds none)
      ];
    }

-- the same where the own tenth is the end, and the begin is in what is told of its hour
pub concluded_own : (specs : List Spec) (s : Store) (rows own_rows : List Row) (ss : List Stretch) (number x f t n u : ℕ) (place : Place) (rule : Rule) → AreSpecs specs → IsStore s → HasHistory (log_of specs s) → FitsRule specs rule → x < window_end (log_of specs s) → is_known s x ≡ true → events_at rows x ≡ events_at (known_rows s) x → IsPlaceIn rows x place → HasLogVerdict (log_of specs s) rows (obligation number rule x place) Broken → TellsOf (log_of specs s) own_rows ss f t → IsPlace f t own_rows ss x n → length (events_at (take n own_rows) x) ≡ rank_in rows x place → IsBeginAt specs (parts_of rule) x (rows_to x own_rows) (upto x ss) n u → IsDecisive (log_of specs s) rows (obligation number rule x place) u x
concluded_own specs s rows own_rows ss number x f t n u place rule are is has fits lt there same_rows is_place broken tells at rank found =
    let log = log_of specs s in
    let o = obligation number rule x place in
    let j = rank_in rows x place in
    let parts = rule_fits specs rule are fits in
    let all_known = λ (p : ℕ) (l : p < length (known_rows s)). known_each s p l in
    let verdict = λ (a b : ℕ) (low : a ≤ x) (high : x ≤ b). verdict_is log rows number x are has lt there same_rows a b low high place rule fits is_place broken in
    let first = at.first in
    let c = count_before (x + 1) own_rows in
    let over : n ≤ c = count_over f (x + 1) (x + 1) n own_rows at.count at.before (omega arith) in
    let same = ap (λ (rs : List Row). length (events_at rs x)) (take_both n c own_rows over) ∙ rank in
    let begin = begin_is log o rows j parts has all_known verdict f x n (rows_to x own_rows) (upto x ss) (tells_upto log own_rows ss f t x tells first at.last) (place_upto f t x n x own_rows ss at (omega arith) at.last) same lt u found in
    let early = begin.early in
    record {
      end = record {
        candidate = inl (inl refl);
        late = omega arith;
        holds = broken_grows log rows o u x 0 x are has (at_place log rows number x place rule lt there fits is_place) early (omega arith) (omega arith) (omega arith) begin.holds;
        least = λ w c le small. absurd (omega arith);
      };
      begin = begin;
    }
