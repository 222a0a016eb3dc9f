-- The parts of an hour tell what the window's runs reach.
use Rattle.std.proofs.Common.{suc, zero, ◌≡◌, refl, ap, sym, ◌∙◌, subst, ◌↔◌, inl, inr, ℕ, ◌+◌, ◌-◌, ◌<◌, ◌≤◌, pos, ◌-ℤ◌, true, false, List, [], ◌∷◌, get_or, arith}
use Rattle.std.proofs.lemmas.Int.{ints}
use Rattle.std.proofs.lemmas.Bool.{cases_Bool}
use Rattle.colour_machine.specs.Rules.{IsMachine}
use Rattle.event_codes.specs.declared.channels.Channel.{Channel}
use Rattle.sig_base.specs.declared.values.Row.{Row}
use Rattle.span_set.specs.declared.set.Span.{Span}
use Rattle.span_set.proofs.Sets.{int_cases}
use Rattle.gap_map.specs.declared.stretch.Stretch.{Stretch}
use Rattle.gap_map.specs.Stretches.{known_at}
use Rattle.reach.specs.Runs.{State, state}
use Rattle.reach.specs.Past.{Holds}
use Rattle.channel_path.specs.Walks.{EnteredBefore}
use Rattle.channel_path.specs.declared.moves.Move.{Move}
use Rattle.channel_tables.specs.declared.spec.Spec.{Spec}
use Rattle.channel_tables.specs.Spec.{rules_of}
use Rattle.channel_tables.proofs.Machines.{spec_machine}
use Rattle.board.specs.Channels.{track}
use Rattle.board.specs.History.{Event, Track, events_at, letters, put}
use Rattle.board.specs.Moves.{own}
use Rattle.board.specs.Logs.{IsHour, end_tenth, first_tenth, no_spec}
use Rattle.board.proofs.Tracks.{spec_lettered}
use Rattle.board.proofs.Within.{hour_rows}
use Rattle.board.proofs.Plain.{agreeing_early}
use Rattle.signal_log.specs.Log.{Log, track_at}
use Rattle.signal_log.specs.States.{IsReached}
use Rattle.detector_state.specs.Free.{IsMixed}
use Rattle.detector_state.specs.declared.part.Part.{Part}
use Rattle.detector_state.specs.Switches.{IsChannelOf, IsSwitch, switch_track}
use Rattle.detector_state.specs.Masks.{HasStates, after_letter, all_colours}
use Rattle.detector_state.specs.Parts.{cursor, parts_from}
use Rattle.detector_state.specs.Hours.{CoversHour, FollowOn, IsHourIn, IsPastAt, IsSwitched, Tells, TellsColours, TellsEach}
use Rattle.detector_state.proofs.Masks.{after}
use Rattle.detector_state.proofs.Telling.{IsReachedBy, after_one, masks_go, some_reached}
use Rattle.detector_state.proofs.Cutting.{AreParts, after_letters, after_tenth, over_all}
use Rattle.detector_state.proofs.Switching.{spec_fits}

-- a channel's letters don't depend on its floors
letters_same : (s : Spec) (es : List Event) → letters (track s) es ≡ letters (switch_track s.channel) es
letters_same s [] = refl
letters_same s (e ∷ es) = ap (λ ls. put ((track s).letter e.code e.param) ls) (letters_same s es)

after_same : (s : Spec) (ls : List ℕ) (mask : ℕ) → after (rules_of s) mask ls ≡ after_letters s.channel mask ls
after_same s [] mask = refl
after_same s (l ∷ ls) mask = after_same s ls (after_letter s.channel mask l)

-- the states at the point before the hour were entered before it
pub past_early : (log : Log) (i hour : ℕ) (before : List (List Span)) → IsPastAt log i hour before → EnteredBefore before (first_tenth hour)
past_early log i hour before is s h = elim ((is s).0 h) [
  | inl ((b, bw, g), le) ↦ agreeing_early (track_at log i) log.known (events_at log.rows) 0 (first_tenth hour) b s g bw.1
  | inr (e, _) ↦ omega (arith, ints)
]

-- and have the colours that are reached
past_colours : (log : Log) (i hour : ℕ) (before : List (List Span)) → IsPastAt log i hour before → (c : ℕ) → ((s : State) × Holds before s × (s.colour ≡ c)) ↔ ((u : State) × IsReached log i (first_tenth hour) u × (u.colour ≡ c))
past_colours log i hour before is c =
    let limit = pos (first_tenth hour) -ℤ pos 36001 in (
      (λ (s, h, e). elim ((is s).0 h) [
        | inl (r, le) ↦ (s, r, e)
        | inr (same, (x, r, lt)) ↦ (state s.colour x, r, e)
      ]),
      λ (u, r, e). elim (int_cases u.entry limit) [
        | inr (_, le) ↦ (u, (is u).1 (inl (r, le)), e)
        | inl (_, lt) ↦ (state u.colour limit, (is (state u.colour limit)).1 (inr (refl, (u.entry, r, lt))), e)
      ],
    )

-- the parts of the hour of a channel with these moves
abbrev pub hour_parts : Channel → ℕ → ℕ → List Move → List Part
hour_parts ch hour b ms = parts_from ch (cursor (first_tenth hour) b) (end_tenth hour) ms

module _ (ch : Channel) (course : Track) (hour : ℕ) (rows : List Row) (ss : List Stretch) (b : ℕ) (is_hour : IsHour hour rows ss) where
  abbrev low : ℕ
  low = first_tenth hour

  -- the mask after the first n tenths
  abbrev mask_after : ℕ → ℕ
  mask_after zero = b
  mask_after (suc n) = after_tenth ch course rows ss (low + n) (mask_after n)

  -- and before tenth y
  abbrev pub mask_at_of : ℕ → ℕ
  mask_at_of y = mask_after (y - low)

  goes : (x : ℕ) → low ≤ x → mask_at_of (x + 1) ≡ after_tenth ch course rows ss x (mask_at_of x)
  goes x le =
      let n = x - low in
      let one : x + 1 - low ≡ suc n = omega arith in
      let at : low + n ≡ x = omega arith in
      ap mask_after one ∙ ap (λ y. after_tenth ch course rows ss y (mask_after n)) at

  first_mask : mask_at_of low ≡ b
  first_mask = let none : low - low ≡ 0 = omega arith in ap mask_after none

  are_parts : AreParts mask_at_of low (end_tenth hour) (hour_parts ch hour b (own course 0 rows ss))
  are_parts = over_all ch course mask_at_of ss low (end_tenth hour) 0 (cursor low b) rows is_hour.follow (hour_rows hour rows ss is_hour) (λ x l u. goes x l) (record { low = omega arith; flat = λ x l u. absurd (omega arith); now = first_mask })

  follow : (a t : ℕ) (ps : List Part) → AreParts mask_at_of a t ps → FollowOn a t ps
  follow a t [] e = e
  follow a t (p ∷ ps) (e, lt, told, more) = (e, lt, follow p.to t ps more)

  own_cover : FollowOn low (end_tenth hour) (hour_parts ch hour b (own course 0 rows ss))
  own_cover = follow low (end_tenth hour) (hour_parts ch hour b (own course 0 rows ss)) are_parts

pub cover : (ch : Channel) (course : Track) (hour : ℕ) (rows : List Row) (ss : List Stretch) (b : ℕ) (parts : List Part) → parts ≡ hour_parts ch hour b (own course 0 rows ss) → CoversHour hour rows ss parts
cover ch course hour rows ss b parts e is = rw e (own_cover ch course hour rows ss b is)

module _ (log : Log) (i hour : ℕ) (rows : List Row) (ss : List Stretch) (before : List (List Span)) (b : ℕ) (one : Spec) (ch : Channel) (same : one.channel ≡ ch) (of : IsChannelOf log i ch) (switch : IsSwitch ch.kind) (is : IsHourIn log (switch_track ch) hour rows ss) (past : IsPastAt log i hour before) (starts : HasStates before b) where
  abbrev s : Spec
  s = get_or log.specs i no_spec

  abbrev k : Track
  k = track s

  abbrev f : ℕ
  f = first_tenth hour

  abbrev mask_at : ℕ → ℕ
  mask_at = mask_at_of ch (track one) hour rows ss b is.is_hour

  mixed : IsMixed k.rules
  mixed = spec_fits s (subst (λ (c : Channel). IsSwitch c.kind) (sym of.same) switch) of.fits

  laws : IsMachine k.rules
  laws = spec_machine s of.fits

  own_letters : (z : Spec) (es : List Event) → z.channel ≡ ch → letters (track z) es ≡ letters (switch_track ch) es
  own_letters z es e = subst (λ (c : Channel). letters (track z) es ≡ letters (switch_track c) es) e (letters_same z es)

  -- a tenth of the hour does what one of the window does
  same_tenth : (x mask : ℕ) → f ≤ x → x < end_tenth hour → after_tenth ch (track one) rows ss x mask ≡ after_one k mixed laws (spec_lettered s) log.known (events_at log.rows) x mask
  same_tenth x mask l u =
      let kn : known_at ss x ≡ log.known x = is.known x l u in
      let es = events_at log.rows x in
      elim (cases_Bool (log.known x)) [
        | inl held ↦
            let there : known_at ss x ≡ true = kn ∙ held in
            let both : letters (track one) (events_at rows x) ≡ letters k es = own_letters one (events_at rows x) same ∙ (is.events x l u held ∙ sym (own_letters s es of.same)) in
            rw (there, held) (ap (λ ls. after_letters ch mask ls) both ∙ subst (λ (c : Channel). after_letters c mask (letters k es) ≡ after k.rules mask (letters k es)) of.same (sym (after_same s (letters k es) mask)))
        | inr gap ↦ let there : known_at ss x ≡ false = kn ∙ gap in rw (there, gap) (ap (λ (c : Channel). all_colours c) (sym of.same))
      ]

  reached_first : IsReachedBy k mixed laws (spec_lettered s) log.known (events_at log.rows) f (mask_at f)
  reached_first c =
      let both = past_colours log i hour before past c in
      rw (first_mask ch (track one) hour rows ss b is.is_hour) ((λ h. both.0 ((starts c).0 h)), λ r. (starts c).1 (both.1 r))

  masks_reach : (n : ℕ) → f + n ≤ end_tenth hour → IsReachedBy k mixed laws (spec_lettered s) log.known (events_at log.rows) (f + n) (mask_at (f + n))
  masks_reach n le = masks_go k mixed laws (spec_lettered s) log.known (events_at log.rows) mask_at n f (λ x l u. goes ch (track one) hour rows ss b is.is_hour x l ∙ same_tenth x (mask_at x) l (omega arith)) reached_first

  tells_at : (x : ℕ) → f ≤ x → x < end_tenth hour → Tells log i x (mask_at (x + 1))
  tells_at x l u =
      let n = x + 1 - f in
      let e : f + n ≡ x + 1 = omega arith in
      record {
        colours = subst (λ (y : ℕ). IsReachedBy k mixed laws (spec_lettered s) log.known (events_at log.rows) y (mask_at y)) e (masks_reach n (omega arith));
        some = some_reached k mixed laws (spec_lettered s) log.known (events_at log.rows) (x + 1);
      }

  parts_end : (a t : ℕ) (ps : List Part) → AreParts mask_at a t ps → a ≤ t
  parts_end a t [] e = omega arith
  parts_end a t (p ∷ ps) (e, lt, told, more) = let q = parts_end p.to t ps more in omega arith

  tells_each : (a : ℕ) (ps : List Part) → f ≤ a → AreParts mask_at a (end_tenth hour) ps → TellsEach log i a (end_tenth hour) ps
  tells_each a [] le e = e
  tells_each a (p ∷ ps) le (e, lt, told, more) =
      let q = parts_end p.to (end_tenth hour) ps more in
      (e, lt, (λ x l u. subst (λ (m : ℕ). Tells log i x m) (told x l u) (tells_at x (omega arith) (omega arith))), tells_each p.to ps (omega arith) more)

  own_made : IsSwitched log i hour (hour_parts ch hour b (own (track one) 0 rows ss))
  own_made = tells_each f (hour_parts ch hour b (own (track one) 0 rows ss)) (omega arith) (are_parts ch (track one) hour rows ss b is.is_hour)

pub made : (one : Spec) (ch : Channel) (hour : ℕ) (rows : List Row) (ss : List Stretch) (before : List (List Span)) (b : ℕ) (parts : List Part) → one.channel ≡ ch → IsSwitch ch.kind → ((f : ℕ) → f < 4294967296 → EnteredBefore before f → HasStates before b) → parts ≡ hour_parts ch hour b (own (track one) 0 rows ss) → TellsColours ch before hour rows ss parts
made one ch hour rows ss before b parts same switch starts e log i of is past =
    let low = is.is_hour.are_rows.in_range in
    rw e (own_made log i hour rows ss before b one ch same of switch is past (starts (first_tenth hour) (omega arith) (past_early log i hour before past)))
