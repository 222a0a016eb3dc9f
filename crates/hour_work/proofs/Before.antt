-- Before a row: what the rows tell of a detector against all histories that agree.
use Rattle.std.proofs.Common.{suc, ◌≡◌, refl, ap, sym, ◌∙◌, subst, ◌↔◌, inl, inr, ℕ, ◌+◌, ◌<◌, ◌≤◌, Bool, true, false, not, eqb, leb, List, [], ◌∷◌, ◌++◌, length, length-append, get_or, take, Some, None, arith}
use Rattle.std.proofs.lemmas.Bool.{and_parts, cases_Bool, cases_eq, eq-eqb, eqb-true}
use Rattle.std.proofs.lemmas.List.{append-nil, get_or_at, take_at}
use Rattle.sig_base.specs.declared.values.Row.{Row}
use Rattle.sig_base.proofs.Common.{not_true}
use Rattle.event_codes.specs.declared.channels.Channel.{Channel}
use Rattle.colour_machine.specs.Rules.{IsMachine}
use Rattle.channel_tables.specs.declared.spec.Spec.{Spec}
use Rattle.channel_tables.specs.Letters.{IsNumber}
use Rattle.channel_tables.specs.Spec.{IsSpec, rules_of}
use Rattle.channel_tables.proofs.Machines.{spec_machine}
use Rattle.reach.specs.Runs.{State}
use Rattle.board.specs.Channels.{AreSpecs, letter_in}
use Rattle.board.specs.History.{events_at}
use Rattle.board.specs.Logs.{no_row, no_spec}
use Rattle.board.specs.Moves.{RowsIn}
use Rattle.board.proofs.Bridge.{agreeing_same, none_at}
use Rattle.board.proofs.Cutting.{events_join}
use Rattle.board.proofs.Tracks.{spec_lettered}
use Rattle.hour_store.specs.Store.{IsStore, Store, is_known, known_rows}
use Rattle.signal_log.specs.Log.{HasHistory, Log, log_of, track_at, window_end}
use Rattle.signal_log.specs.States.{MayBeAfter}
use Rattle.signal_log.proofs.Hour.{Reached}
use Rattle.signal_log.proofs.Runs.{to_place, upto_here, upto_other, upto_place}
use Rattle.signal_log.proofs.Stored.{known_each, known_in_window}
use Rattle.ring_config.specs.Settings.{Settings, spec_place}
use Rattle.ring_config.specs.Sound.{IsSound}
use Rattle.detector_state.specs.Free.{IsMixed}
use Rattle.detector_state.proofs.Among.{look_back_among_rows}
use Rattle.detector_state.specs.Switches.{IsSwitch}
use Rattle.detector_state.proofs.Switching.{spec_fits}
use Rattle.arrival_measures.specs.Points.{detector_channel as detector}
use Rattle.stop_bar.proofs.ToldAt.{place_channel}
use Rattle.rule_audit.proofs.Tracked.{channels_are}
use Rattle.arrival_measures.specs.Faults.{begins_fault, faulty, is_arrival, is_fault_row, is_of}
use Rattle.hour_work.specs.Sure.{FaultRowsAreSure, FaultyByStates, FaultyIsSure, IsInFault}
use Rattle.hour_work.proofs.Letters.{letter_of, other_letter, own_letter}
use Rattle.hour_work.proofs.Masks.{IsDetector, kind_is}
use Rattle.hour_work.proofs.Tenths.{tenths_told, told_on}

-- ---- the rows before a row

front_in : (f t : ℕ) (before : List Row) (x : Row) (rest : List Row) → RowsIn f t (before ++ x ∷ rest) → RowsIn f (x.at + 1) before × (f ≤ x.at)
front_in f t [] x rest h = let low = h.0 in (omega (arith, low), low)
front_in f t (r ∷ rs) x rest h =
    let low = h.0 in
    let (more, up) = front_in r.at t rs x rest h.2 in
    ((low, omega (arith, up), more), omega (arith, low, up))

back_in : (f t : ℕ) (before : List Row) (x : Row) (rest : List Row) → RowsIn f t (before ++ x ∷ rest) → RowsIn x.at t (x ∷ rest)
back_in f t [] x rest h = (omega arith, h.1, h.2)
back_in f t (r ∷ rs) x rest h = back_in r.at t rs x rest h.2

-- the events up to a row's place are those of the rows before it
place_events : (t y : ℕ) (before : List Row) (x : Row) (rest : List Row) → RowsIn x.at t (x ∷ rest) → y < x.at + 1 → upto_place (events_at (before ++ x ∷ rest)) x.at (length (events_at before x.at)) y ≡ events_at before y
place_events t y before x rest h lt =
    let j = length (events_at before x.at) in
    let rows = before ++ x ∷ rest in
    elim (cases_eq y x.at) [
      | inl e ↦ rw e (upto_here (events_at rows) x.at j ∙ (ap (λ es. take j es) (events_join before (x ∷ rest) x.at) ∙ take_at (events_at before x.at) (events_at (x ∷ rest) x.at) j refl))
      | inr ne ↦
          upto_other (events_at rows) x.at j y ne
          ∙ (events_join before (x ∷ rest) y
          ∙ (ap (λ es. events_at before y ++ es) (none_at (x ∷ rest) x.at t y h (omega (arith, lt, ne)))
          ∙ append-nil (events_at before y)))
    ]

-- ---- the detector

-- what is known of a detector's place
record IsPlace (specs : List Spec) (d i : ℕ) : Type 0 where
  pub within : i < length specs
  pub is : (get_or specs i no_spec).channel ≡ detector d
  pub fits : IsSpec (get_or specs i no_spec)
  pub low : 1 ≤ d
  pub high : d ≤ 128

is_place : (specs : List Spec) (d i : ℕ) → AreSpecs specs → spec_place specs (detector d) ≡ Some i → IsPlace specs d i
is_place specs d i are at =
    let (lt, same) = place_channel specs d i at in
    let number : (1 ≤ d) × (d ≤ 128) = subst (λ (ch : Channel). IsNumber ch.kind ch.number) same (are.numbered i no_spec lt) in
    record { within = lt; is = same; fits = are.fit i no_spec lt; low = number.0; high = number.1 }

module _ (s : Spec) (d : ℕ) (is : s.channel ≡ detector d) (low : 1 ≤ d) (high : d ≤ 128) where
  own : (x : Row) → is_of d x ≡ true → (l : ℕ) × (letter_in s x.code x.param ≡ Some l) × (l < 8) × (leb 3 l ≡ begins_fault x.code)
  own x e =
      let (l, letter, lt, begins) = own_letter d x low high e in
      (l, subst (λ (ch : Channel). letter_of ch x.code x.param ≡ Some l) (sym is) letter, lt, begins)

  other : (x : Row) → is_of d x ≡ false → letter_in s x.code x.param ≡ None
  other x e = subst (λ (ch : Channel). letter_of ch x.code x.param ≡ None) (sym is) (other_letter d x e)

  machine : IsDetector (rules_of s)
  machine = kind_is s.channel.kind s.floors (ap (λ (ch : Channel). ch.kind) is)

  mixed : IsSpec s → IsMixed (rules_of s)
  mixed fits = spec_fits s (subst (λ (ch : Channel). IsSwitch ch.kind) (sym is) tt) fits

-- ---- the colours before the row

record HasColours (log : Log) (i : ℕ) (before : List Row) (x : Row) (told : Bool) : Type 0 where
  pub sure : told ≡ true → IsInFault log i before x
  pub some : (v : State) × MayBeAfter log i x.at (length (events_at before x.at)) v × (eqb v.colour 2 ≡ told)

module _ (log : Log) (d i : ℕ) (before : List Row) (x : Row) (rest : List Row) (are : AreSpecs log.specs) (has : HasHistory log) (place : IsPlace log.specs d i) (parts : log.rows ≡ before ++ x ∷ rest) (order : RowsIn 0 (window_end log) log.rows) (held : log.known x.at ≡ true) where
  abbrev s : Spec
  s = get_or log.specs i no_spec

  laws : IsMachine (rules_of s)
  laws = spec_machine s place.fits

  is_mixed : IsMixed (rules_of s)
  is_mixed = mixed s d place.is place.low place.high place.fits

  abbrev IsReachedBefore : State → Type 0
  IsReachedBefore v = Reached (track_at log i) log.known (events_at before) (suc x.at) v

  whole : RowsIn 0 (window_end log) (before ++ x ∷ rest)
  whole = subst (λ (rs : List Row). RowsIn 0 (window_end log) rs) parts order

  up : x.at + 1 ≡ suc x.at
  up = omega arith

  front : RowsIn 0 (suc x.at) before
  front = subst (λ (n : ℕ). RowsIn 0 n before) up (front_in 0 (window_end log) before x rest whole).0

  -- what may be before the row is what the rows before it reach
  reached : (v : State) → MayBeAfter log i x.at (length (events_at before x.at)) v ↔ IsReachedBefore v
  reached v =
      let k = track_at log i in
      let j = length (events_at before x.at) in
      let back = back_in 0 (window_end log) before x rest whole in
      let small : x.at < window_end log = back.1 in
      let look = look_back_among_rows log i x.at j v are has place.within small held is_mixed.free in
      let to = λ (z : State). to_place k log.known (events_at log.rows) 0 x.at j z v (omega arith) held in
      let same : (y : ℕ) → y < x.at + 1 → upto_place (events_at log.rows) x.at j y ≡ events_at before y = λ y lt. subst (λ (rs : List Row). upto_place (events_at rs) x.at j y ≡ events_at before y) (sym parts) (place_events (window_end log) y before x rest back lt) in (
        (λ may.
            let (a, (z, bw, h), st) = look.0 may in
            let g = agreeing_same k log.known log.known (upto_place (events_at log.rows) x.at j) (events_at before) 0 (x.at + 1) z v (λ y l u. refl) (λ y l u. same y u) ((to z).1 (a, h, st)) in
            subst (λ (n : ℕ). Reached k log.known (events_at before) n v) up (z, bw, g)),
        λ r.
            let (z, bw, g) = subst (λ (n : ℕ). Reached k log.known (events_at before) n v) (sym up) r in
            let (a, h, st) = (to z).0 (agreeing_same k log.known log.known (events_at before) (upto_place (events_at log.rows) x.at j) 0 (x.at + 1) z v (λ y l u. refl) (λ y l u. sym (same y u)) g) in
            look.1 (a, (z, bw, h), st),
      )

  colours_before : HasColours log i before x (faulty log.known x.at before d)
  colours_before =
      let (mask, is, told) = tenths_told (track_at log i) is_mixed laws (spec_lettered s) (machine s d place.is place.low place.high) d (own s d place.is place.low place.high) (other s d place.is place.low place.high) log.known before (suc x.at) (suc x.at) before [] (sym (append-nil before)) front (omega arith) in
      let on = told_on log.known x.at d before held in
      let (c, has_c, e) = told.some in
      let (v, r, f) = (is c).0 has_c in
      record {
        sure = λ fault v may. told.sure (on ∙ fault) v.colour ((is v.colour).1 (v, (reached v).0 may, refl));
        some = (v, (reached v).1 r, ap (λ n. eqb n 2) f ∙ (e ∙ on));
      }

-- ---- a store

known_row : (s : Store) (before : List Row) (x : Row) (rest : List Row) → known_rows s ≡ before ++ x ∷ rest → is_known s x.at ≡ true
known_row s before x rest parts =
    let n = length before in
    let here : get_or (known_rows s) n no_row ≡ x = ap (λ (rs : List Row). get_or rs n no_row) parts ∙ get_or_at before x rest no_row n refl in
    let more = length-append before (x ∷ rest) in
    let size : length (known_rows s) ≡ length (before ++ x ∷ rest) = ap (λ (rs : List Row). length rs) parts in
    subst (λ (r : Row). is_known s r.at ≡ true) here (known_each s n (omega (arith, size, more)))

store_colours : (c : Settings) (s : Store) (d i : ℕ) (before : List Row) (x : Row) (rest : List Row) → IsSound c → IsStore s → HasHistory (log_of c.specs s) → spec_place c.specs (detector d) ≡ Some i → known_rows s ≡ before ++ x ∷ rest → HasColours (log_of c.specs s) i before x (faulty (is_known s) x.at before d)
store_colours c s d i before x rest sound store has at parts =
    let are = channels_are c sound in
    colours_before (log_of c.specs s) d i before x rest are has (is_place c.specs d i are at) parts (known_in_window s store) (known_row s before x rest parts)

pub faulty_is_sure : FaultyIsSure
faulty_is_sure c s d i before x rest sound store has at parts =
    let is = store_colours c s d i before x rest sound store has at parts in
    let (v, may, e) = is.some in
    ((λ fault. is.sure fault), λ all. sym e ∙ eq-eqb v.colour 2 (all v may))

pub fault_rows_are_sure : FaultRowsAreSure
fault_rows_are_sure c s d i before x rest sound store has at parts on =
    let known = is_known s in
    let told = faulty known x.at before d in
    let is = store_colours c s d i before x rest sound store has at parts in
    let (v, may, e) = is.some in
    let both = and_parts (eqb x.code 82) (eqb x.param d) on in
    let param : x.param ≡ d = eqb-true x.param d both.1 in
    let row : is_fault_row known before x ≡ told = rw (both.0, param) refl in
    let free : is_arrival known before x ≡ not told = rw (both.0, param) refl in (
      ((λ fault. is.sure (sym row ∙ fault)), λ all. row ∙ (sym e ∙ eq-eqb v.colour 2 (all v may))),
      (
        (λ arrives.
            let none : eqb v.colour 2 ≡ false = e ∙ not_true told (sym free ∙ arrives) in
            (v, may, λ bad. absurd (let two = sym (eq-eqb v.colour 2 bad) ∙ none in cc))),
        λ (u, may_u, ne). elim (cases_Bool told) [
          | inl fault ↦ absurd (ne (is.sure fault u may_u))
          | inr none ↦ free ∙ ap (λ b. not b) none
        ],
      ),
    )

-- ---- at the start of a tenth

pub faulty_by_states : FaultyByStates
faulty_by_states c s d i t before rest sound store at parts low high =
    let log : Log = log_of c.specs s in
    let place = is_place c.specs d i (channels_are c sound) at in
    let spec : Spec = get_or c.specs i no_spec in
    let (mask, is, told) = tenths_told (track_at log i) (mixed spec d place.is place.low place.high place.fits) (spec_machine spec place.fits) (spec_lettered spec) (machine spec d place.is place.low place.high) d (own spec d place.is place.low place.high) (other spec d place.is place.low place.high) log.known log.rows (window_end log) t before rest parts low high in
    let (c, has_c, e) = told.some in
    let (v, r, f) = (is c).0 has_c in (
      (λ fault u reached. told.sure fault u.colour ((is u.colour).1 (u, reached, refl))),
      λ all. sym (ap (λ n. eqb n 2) f ∙ e) ∙ eq-eqb v.colour 2 (all v r),
    )
