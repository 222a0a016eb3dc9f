-- The detectors of all stop bars in one hour.
use Rattle.std.proofs.Common.{◌≡◌, refl, ap, sym, ◌∙◌, subst, ℕ, ◌<◌, true, eqb, Some, List, [], length, get_or}
use Rattle.sig_base.specs.HourRows.{AreRowsOf}
use Rattle.std.proofs.lemmas.Bool.{and_parts, eqb-true}
use Rattle.std.proofs.lemmas.List.Quantifiers.{position-Some}
use Rattle.span_set.specs.declared.set.Span.{Span}
use Rattle.sig_base.specs.declared.values.Row.{Row}
use Rattle.event_codes.specs.declared.channels.Channel.{Channel}
use Rattle.event_codes.specs.declared.channels.Kind.{Kind}
use Rattle.event_codes.specs.declared.channels.Kind.TheVariants.{Phase, Ped, Overlap, Detector, PedDetector, PreemptInput, PreemptService, Coordination}
use Rattle.gap_map.specs.declared.stretch.Stretch.{Stretch}
use Rattle.channel_tables.specs.declared.spec.Spec.{Spec}
use Rattle.board.specs.Logs.{no_spec}
use Rattle.board.specs.Stops.{AreBefore}
use Rattle.hour_store.specs.Store.{Store}
use Rattle.signal_log.specs.Log.{log_of}
use Rattle.ring_config.specs.Settings.{Settings, is_same_channel, kind_rank, spec_place}
use Rattle.detector_state.specs.declared.part.Part.{Part}
use Rattle.detector_state.specs.Hours.{IsHourIn, IsSwitched, TellsColours}
use Rattle.detector_state.specs.Switches.{colours_of, switch_track}
use Rattle.detector_state.proofs.Fitting.{hours_fit}
use Rattle.stop_bar.specs.All.{IsHourHeld}

abbrev pub detector : ℕ → Channel
detector n = record { kind = Detector; number = n }

detector_rank : (k : Kind) → eqb (kind_rank k) (kind_rank Detector) ≡ true → k ≡ Detector
detector_rank Phase e = absurd (cc)
detector_rank Ped e = absurd (cc)
detector_rank Overlap e = absurd (cc)
detector_rank Detector e = refl
detector_rank PedDetector e = absurd (cc)
detector_rank PreemptInput e = absurd (cc)
detector_rank PreemptService e = absurd (cc)
detector_rank Coordination e = absurd (cc)

channel_is : (a : Channel) (n : ℕ) → is_same_channel a (detector n) ≡ true → a ≡ detector n
channel_is a n e =
    let parts = and_parts (eqb (kind_rank a.kind) (kind_rank Detector)) (eqb a.number n) e in
    let kind = detector_rank a.kind parts.0 in
    let number : a.number ≡ n = eqb-true a.number n parts.1 in
    let one : Channel = record { kind = a.kind; number = a.number } in
    let same : one ≡ detector n = rw (kind, number) refl in
    same

pub place_channel : (specs : List Spec) (n i : ℕ) → spec_place specs (detector n) ≡ Some i → (i < length specs) × ((get_or specs i no_spec).channel ≡ detector n)
place_channel specs n i at =
    let found = position-Some (λ (z : Spec). is_same_channel z.channel (detector n)) specs i no_spec at in
    (found.0, channel_is (get_or specs i no_spec).channel n found.1)

-- what is told of a detector by its place
pub told_at : (c : Settings) (s : Store) (hour n i : ℕ) (rows : List Row) (ss : List Stretch) (pasts : List (List (List Span))) (parts : List Part) → IsHourHeld c s hour rows ss pasts → spec_place c.specs (detector n) ≡ Some i → TellsColours (detector n) (get_or pasts i []) hour rows ss parts → IsSwitched (log_of c.specs s) i hour parts
told_at c s hour n i rows ss pasts parts is at tells =
    let (lt, own) = place_channel c.specs n i at in
    let fit = hours_fit c.specs s i hour is.held is.blanks ss pasts is.specs lt (subst (λ (xs : List Row). AreRowsOf hour xs) is.is_rows is.are_rows) is.has is.cut is.states in
    let all : IsHourIn (log_of c.specs s) (switch_track (detector n)) hour rows ss = rw is.is_rows (fit.0 (switch_track (detector n))) in
    tells (log_of c.specs s) i (rw (sym own) fit.2) all fit.1

-- the states of a detector are by its colours
pub colours_at : (specs : List Spec) (n i : ℕ) (pasts : List (List (List Span))) (past : List (List Span)) → AreBefore specs pasts → spec_place specs (detector n) ≡ Some i → past ≡ get_or pasts i [] → length past ≡ colours_of (detector n)
colours_at specs n i pasts past shape at e =
    let (lt, own) = place_channel specs n i at in
    ap (λ (x : List (List Span)). length x) e ∙ ((shape.1 i no_spec lt).0 ∙ ap (λ (ch : Channel). colours_of ch) own)
