-- What a whole document says.
use Rattle.std.proofs.Common.{◌≡◌, ◌≢◌, ◌↔◌, inl, inr, ◌≤◌, ◌≤ℤ◌, ℕ, ℤ, pos, ◌+◌, ◌-◌, ◌/◌, ◌+ℤ◌, int_le, Bool, true, false, not, ◌&&◌, ◌||◌, ◌==◌, nat_le, List, [], ◌∷◌, length, map, Some, None, Ok, refl, sym, ap, subst, ◌∙◌, get_or, arith}
use Rattle.std.specs.Bool.{Decides}
use Rattle.std.specs.List.{AllByRecursion, list_all}
use Rattle.std.specs.Str.{bytes_eq}
use Rattle.std.proofs.lemmas.Bool.{cases_Bool, and_parts, or_parts, le-leb, leb-true}
use Rattle.std.proofs.lemmas.Bool.Decides.{Decides-eqb}
use Rattle.std.proofs.lemmas.Int.{ints}
use Rattle.std.proofs.lemmas.Option.{same_Some}
use Rattle.std.proofs.lemmas.Slice.Eq.{bytes_eq-Decides}
use Rattle.toml.specs.Data.{integer, string, boolean, Members, as_str}
use Rattle.jiff_core.specs.Calendar.{days_from_civil, day_count, days_of_years, days_of_months}
use Rattle.sig_base.specs.Window.{Span}
use Rattle.sig_base.specs.declared.values.PhaseItem.{PhaseItem}
use Rattle.sig_base.proofs.Common.{not_true, le_said}
use Rattle.row_reader.specs.Signal.{is_signal, is_signal_byte}
use Rattle.row_reader.specs.Stamp.{hour_stamp_of}
use Rattle.ring_config.specs.declared.error.KeyName.{KeyName}
use Rattle.ring_config.specs.declared.error.KeyName.TheVariants as keys
use Rattle.channel_tables.specs.declared.spec.Spec.{Spec}
use Rattle.ring_config.specs.declared.items.Pair.{Pair}
use Rattle.ring_config.specs.Reading.{Read, ◌>>=◌, EntryData, key_text, required, defaulted, only}
use Rattle.ring_config.specs.Values as values
use Rattle.ring_config.specs.Values.{whole, last_day, window_from, is_pair}
use Rattle.ring_config.specs.Walk.{Rules, entry_at, entries_of}
use Rattle.ring_config.specs.Tables.{Top, LayoutArrays, DetailArrays, top_keys, top_of, layout_arrays_of, detail_arrays_of, phase_rules, ped_rules, overlap_rules, preempt_rules, conflict_rules, allow_rules, floor_rules, interval_rules, approach_rules}
use Rattle.ring_config.specs.Settings.{Settings, Layout, Details, Parts, document, layout_of, details_of, parts_of, config_at, staged_at, settings_of, signal_channels}
use Rattle.ring_config.proofs.DoLaws.{ok_is, bound, required_value, passing_is, and_then_is}
use Rattle.ring_config.proofs.ListLaws.{all_at}
use Rattle.ring_config.proofs.StagedLaws.{after_2, config_stages}
use Rattle.config_laws.specs.Keys.{HasOnly, HasNumber}
use Rattle.config_laws.specs.Walk.{IsGood, AreGoodFrom}
use Rattle.config_laws.specs.Entries.{Floor, IsPhaseEntry, IsConfigured, IsPedEntry, IsOverlapEntry, IsPreemptEntry, IsConflictEntry, IsAllowEntry, IsFloorEntry, IsIntervalEntry, IsApproachEntry, IsSamePair, IsSameColour}
use Rattle.config_laws.specs.Document.{IsSignalByte, HasSignal, HasWindow, HasCoordination, Say, HasTable, layout, Describes, ConfigurationsAreAccepted}
use Rattle.config_laws.specs.Refusals.{HasArrays}
use Rattle.config_laws.proofs.Entries.{fails, refutes, phase_good, phase_said, ped_good, ped_said, overlap_good, overlap_said, preempt_good, preempt_said, pair_test, conflict_good, conflict_said, allow_good, allow_said, both_test}
use Rattle.config_laws.proofs.Channels.{floor_good, floor_said, interval_good, interval_said}
use Rattle.config_laws.proofs.Approaches.{approach_good, approach_said}
use Rattle.config_laws.proofs.Keys.{only_is, only_gives, required_gives, absent_gives, there_gives, defaulted_value, whole_is, whole_gives, string_from, boolean_from, tables_are, tables_gives}
use Rattle.config_laws.proofs.Lists.{all_of_test, test_of_all, all_weaker_at, pairs_weaker_at}
use Rattle.config_laws.proofs.Walk.{tables_accepted}

-- ---- the signal

byte_said : (b : ℕ) → is_signal_byte b ≡ true → IsSignalByte b
byte_said b t =
    let a = and_parts (nat_le 0x21 b && nat_le b 0x7E) (not (b == 44 || b == 34)) t in
    let r = and_parts (nat_le 0x21 b) (nat_le b 0x7E) a.0 in
    let o = or_parts (b == 44) (b == 34) (not_true (b == 44 || b == 34) a.1) in
    record {
      least = leb-true 0x21 b r.0;
      most = leb-true b 0x7E r.1;
      comma = fails (b == 44) (Decides-eqb b 44) o.0;
      quote = fails (b == 34) (Decides-eqb b 34) o.1;
    }

byte_passes : (b : ℕ) → IsSignalByte b → is_signal_byte b ≡ true
byte_passes b h =
    rw (le-leb 0x21 b h.least, le-leb b 0x7E h.most, refutes (b == 44) (Decides-eqb b 44) h.comma, refutes (b == 34) (Decides-eqb b 34) h.quote) refl

signal_is : (e : EntryData) (signal : List ℕ) → required values.signal keys.Signal e ≡ Ok signal → HasSignal e.members signal
unfolding values.signal
signal_is e signal h =
    let r = required_value values.signal keys.Signal e signal h in
    let p = passing_is is_signal (as_str r.0) signal r.2 in
    let a = and_parts (nat_le 1 (length signal) && nat_le (length signal) 32) (list_all is_signal_byte signal) p.1 in
    let b = and_parts (nat_le 1 (length signal)) (nat_le (length signal) 32) a.0 in
    record {
      there = r.1 ∙ ap Some (string_from r.0 signal p.0);
      some = leb-true 1 (length signal) b.0;
      few = leb-true (length signal) 32 b.1;
      each = all_weaker_at (λ b. is_signal_byte b ≡ true) IsSignalByte byte_said signal (all_of_test is_signal_byte signal a.1);
    }

signal_value : (signal : List ℕ) → 1 ≤ length signal → length signal ≤ 32 → list_all is_signal_byte signal ≡ true → values.signal (string signal) ≡ Some signal
unfolding values.signal
signal_value signal some few each = rw (le-leb 1 (length signal) some, le-leb (length signal) 32 few, each) refl

signal_gives : (e : EntryData) (signal : List ℕ) → HasSignal e.members signal → required values.signal keys.Signal e ≡ Ok signal
signal_gives e signal h =
    let each = test_of_all is_signal_byte signal (all_weaker_at IsSignalByte (λ b. is_signal_byte b ≡ true) byte_passes signal h.each) in
    required_gives values.signal keys.Signal e (string signal) signal h.there (signal_value signal h.some h.few each)

-- ---- the window

last_is : days_from_civil (pos 9999) 12 31 ≡ pos 2932896
unfolding days_from_civil day_count days_of_years days_of_months
last_is = refl

le_test : (a b : ℤ) → a ≤ℤ b → int_le a b ≡ true
le_test a b h = grind (arith, ints)

-- the hours from the one at which the window begins
record IsWindowFrom (first : ℤ × ℕ) (e : EntryData) (w : Span) : Type 0 where
  day : w.day ≡ first.0
  hour : w.hour ≡ first.1
  hours : HasNumber 1 744 (key_text keys.Hours) e.members w.hours
  last : (w.day +ℤ pos ((w.hour + w.hours - 1) / 24)) ≤ℤ days_from_civil (pos 9999) 12 31

window_cases : (first : ℤ × ℕ) (e : EntryData) (n : ℕ) (w : Span) → HasNumber 1 744 (key_text keys.Hours) e.members n → window_from first n ≡ Some w → IsWindowFrom first e w
window_cases first e n w number h =
    elim (cases_Bool (int_le (last_day first n) (pos 2932896))) [
      | inl t ↦
          let k = rw t at h in
          let same : record { day = first.0; hour = first.1; hours = n } ≡ w = same_Some (record { day = first.0; hour = first.1; hours = n }) w k in
          let own : IsWindowFrom first e (record { day = first.0; hour = first.1; hours = n }) = record { day = refl; hour = refl; hours = number; last = rw last_is (le_said (last_day first n) (pos 2932896) t) } in
          subst (IsWindowFrom first e) same own
      | inr f ↦ let k : None ≡ Some w = rw f at h in absurd cc
    ]

window_is : (e : EntryData) (first : ℤ × ℕ) (w : Span) → required values.start keys.Start e ≡ Ok first → required (values.window first) keys.Hours e ≡ Ok w → HasWindow e.members w
unfolding values.start values.window
window_is e first w h k =
    let r = required_value values.start keys.Start e first h in
    let a = and_then_is hour_stamp_of (as_str r.0) first r.2 in
    let s = required_value (values.window first) keys.Hours e w k in
    let b = and_then_is (window_from first) (whole 1 744 s.0) w s.2 in
    let n = whole_is 1 744 s.0 b.0 b.1 in
    let x = window_cases first e b.0 w (record { there = s.1 ∙ ap Some n.0; least = n.1; most = n.2 }) b.2 in
    record {
      text = a.0;
      there = r.1 ∙ ap Some (string_from r.0 a.0 a.1);
      start = rw (x.day, x.hour) a.2;
      hours = x.hours;
      last = x.last;
    }

start_value : (text : List ℕ) (first : ℤ × ℕ) → hour_stamp_of text ≡ Some first → values.start (string text) ≡ Some first
unfolding values.start
start_value text first h = h

window_value : (w : Span) → 1 ≤ w.hours → w.hours ≤ 744 → int_le (last_day (w.day, w.hour) w.hours) (pos 2932896) ≡ true → values.window (w.day, w.hour) (integer (pos w.hours)) ≡ Some w
unfolding values.window
window_value w least most last = rw (whole_gives 1 744 w.hours least most, last) refl

start_gives : (e : EntryData) (w : Span) → HasWindow e.members w → required values.start keys.Start e ≡ Ok (w.day, w.hour)
start_gives e w h = required_gives values.start keys.Start e (string h.text) (w.day, w.hour) h.there (start_value h.text (w.day, w.hour) h.start)

window_gives : (e : EntryData) (w : Span) → HasWindow e.members w → required (values.window (w.day, w.hour)) keys.Hours e ≡ Ok w
window_gives e w h =
    let last : (w.day +ℤ pos ((w.hour + w.hours - 1) / 24)) ≤ℤ pos 2932896 = subst (λ (z : ℤ). (w.day +ℤ pos ((w.hour + w.hours - 1) / 24)) ≤ℤ z) last_is h.last in
    required_gives (values.window (w.day, w.hour)) keys.Hours e (integer (pos w.hours)) w h.hours.there
    (window_value w h.hours.least h.hours.most (le_test (w.day +ℤ pos ((w.hour + w.hours - 1) / 24)) (pos 2932896) last))

-- ---- the keys that are no tables

coordination_is : (e : EntryData) (on : Bool) → defaulted false values.yes_or_no keys.Coordination e ≡ Ok on → HasCoordination e.members on
unfolding values.yes_or_no
coordination_is e on h =
    elim (defaulted_value values.yes_or_no keys.Coordination e false on h) [
      | inl a ↦ inr a
      | inr v ↦ inl (v.1 ∙ ap Some (boolean_from v.0 on v.2))
    ]

yes_or_no_value : (on : Bool) → values.yes_or_no (boolean on) ≡ Some on
unfolding values.yes_or_no
yes_or_no_value on = refl

coordination_gives : (e : EntryData) (on : Bool) → HasCoordination e.members on → defaulted false values.yes_or_no keys.Coordination e ≡ Ok on
coordination_gives e on (inl there) = there_gives values.yes_or_no keys.Coordination e false (boolean on) on there (yes_or_no_value on)
coordination_gives e on (inr absent) = absent_gives values.yes_or_no keys.Coordination e false absent.0 ∙ ap Ok (sym absent.1)

-- what is said at these keys
record IsTop (e : EntryData) (t : Top) : Type 0 where
  signal : HasSignal e.members t.signal
  window : HasWindow e.members t.window
  coordination : HasCoordination e.members t.coordination

top_is : (e : EntryData) (t : Top) → top_of e ≡ Ok t → IsTop e t
unfolding top_of
top_is e t h =
    let a = bound (required values.signal keys.Signal e) (λ s. required values.start keys.Start e >>= λ f. required (values.window f) keys.Hours e >>= λ w. defaulted false values.yes_or_no keys.Coordination e >>= λ c. Ok (record { signal = s; window = w; coordination = c })) t h in
    let b = bound (required values.start keys.Start e) (λ f. required (values.window f) keys.Hours e >>= λ w. defaulted false values.yes_or_no keys.Coordination e >>= λ c. Ok (record { signal = a.0; window = w; coordination = c })) t a.2 in
    let c = bound (required (values.window b.0) keys.Hours e) (λ w. defaulted false values.yes_or_no keys.Coordination e >>= λ c. Ok (record { signal = a.0; window = w; coordination = c })) t b.2 in
    let d = bound (defaulted false values.yes_or_no keys.Coordination e) (λ x. Ok (record { signal = a.0; window = c.0; coordination = x })) t c.2 in
    ok_is (IsTop e) (record { signal = a.0; window = c.0; coordination = d.0 }) t d.2 (record {
      signal = signal_is e a.0 a.1;
      window = window_is e b.0 c.0 b.1 c.1;
      coordination = coordination_is e d.0 d.1;
    })

top_gives : (e : EntryData) (t : Top) → IsTop e t → top_of e ≡ Ok t
unfolding top_of
top_gives e t h =
    rw (signal_gives e t.signal h.signal, start_gives e t.window h.window, window_gives e t.window h.window, coordination_gives e t.coordination h.coordination) refl

-- ---- a table

module _ {X : Type 0} (rules : Rules X) (IsEntry : Members → X → Type 0) (Differ : X → X → Type 0) (said : (e : EntryData) (x : X) → IsGood rules e x → IsEntry e.members x) (good : (e : EntryData) (x : X) → IsEntry e.members x → IsGood rules e x) (apart : (x y : X) → (rules.repeats x y ≡ false) ↔ Differ x y) where
  say_is : (i : ℕ) (mss : List Members) (xs : List X) → AreGoodFrom rules i mss xs → Say IsEntry mss xs
  say_is i [] [] h = tt
  say_is i [] (x ∷ xs) h = absurd h
  say_is i (ms ∷ mss) [] h = absurd h
  say_is i (ms ∷ mss) (x ∷ xs) h = (said (entry_at rules i ms) x h.0, say_is (i + 1) mss xs h.1)

  say_gives : (i : ℕ) (mss : List Members) (xs : List X) → Say IsEntry mss xs → AreGoodFrom rules i mss xs
  say_gives i [] [] h = tt
  say_gives i [] (x ∷ xs) h = absurd h
  say_gives i (ms ∷ mss) [] h = absurd h
  say_gives i (ms ∷ mss) (x ∷ xs) h = (good (entry_at rules i ms) x h.0, say_gives (i + 1) mss xs h.1)

  table_is : (key : KeyName) (e : EntryData) (mss : List Members) (xs : List X) → defaulted [] values.tables key e ≡ Ok mss → entries_of rules mss ≡ Ok xs → HasTable rules.limit IsEntry Differ (key_text key) e.members xs
  table_is key e mss xs there h =
      let a = (tables_accepted rules mss xs).0 h in
      record {
        entries = mss;
        there = tables_are key e mss there;
        few = a.few;
        each = say_is 0 mss xs a.accepted.good;
        distinct = pairs_weaker_at (λ x y. rules.repeats x y ≡ false) Differ (λ x y. (apart x y).0) xs a.accepted.distinct;
      }

  table_gives : (key : KeyName) (e : EntryData) (xs : List X) → (h : HasTable rules.limit IsEntry Differ (key_text key) e.members xs) → (defaulted [] values.tables key e ≡ Ok h.entries) × (entries_of rules h.entries ≡ Ok xs)
  table_gives key e xs h = (
    tables_gives key e h.entries h.there,
    (tables_accepted rules h.entries xs).1 (record {
      few = h.few;
      accepted = record {
        good = say_gives 0 h.entries xs h.each;
        distinct = pairs_weaker_at Differ (λ x y. rules.repeats x y ≡ false) (λ x y. (apart x y).1) xs h.distinct;
      };
    }),
  )

-- ---- what makes two entries differ

not_both : {P : Type 0} (b : Bool) → Decides b P → (b ≡ false) ↔ (¬ P)
not_both b d = (fails b d, refutes b d)

numbers_differ : (m n : ℕ) → ((m == n) ≡ false) ↔ (m ≢ n)
numbers_differ m n = not_both (m == n) (Decides-eqb m n)

names_differ : (a b : List ℕ) → (bytes_eq a b ≡ false) ↔ (a ≢ b)
names_differ a b = not_both (bytes_eq a b) (bytes_eq-Decides a b)

-- ---- phases are few

low_phase : (p : PhaseItem) (ms : Members) → IsPhaseEntry ms p → (1 ≤ p.number) × (p.number ≤ 16)
low_phase p ms h = (h.number.least, h.number.most)

low_phases : (mss : List Members) (phases : List PhaseItem) → Say IsPhaseEntry mss phases → AllByRecursion (λ p. (1 ≤ p.number) × (p.number ≤ 16)) phases
low_phases [] [] h = tt
low_phases [] (p ∷ ps) h = absurd h
low_phases (ms ∷ mss) [] h = absurd h
low_phases (ms ∷ mss) (p ∷ ps) h = (low_phase p ms h.0, low_phases mss ps h.1)

configured_low : (phases : List PhaseItem) → AllByRecursion (λ p. (1 ≤ p.number) × (p.number ≤ 16)) phases → (n : ℕ) → IsConfigured phases n → (1 ≤ n) × (n ≤ 16)
configured_low phases low n h =
    let at : get_or phases h.0 h.1 ≡ h.1 = h.3 in
    let is = all_at (λ p. (1 ≤ p.number) × (p.number ≤ 16)) phases low h.0 h.1 h.2 in
    subst (λ (m : ℕ). (1 ≤ m) × (m ≤ 16)) (ap (λ (p : PhaseItem). p.number) at ∙ h.4) is

-- ---- the arrays of tables

-- the arrays of what the intersection has
record AreLayoutArrays (e : EntryData) (x : LayoutArrays) : Type 0 where
  phase : defaulted [] values.tables keys.Phase e ≡ Ok x.phase
  ped : defaulted [] values.tables keys.Ped e ≡ Ok x.ped
  overlap : defaulted [] values.tables keys.Overlap e ≡ Ok x.overlap
  preempt : defaulted [] values.tables keys.Preempt e ≡ Ok x.preempt

layout_arrays_are : (e : EntryData) (x : LayoutArrays) → layout_arrays_of e ≡ Ok x → AreLayoutArrays e x
unfolding layout_arrays_of
layout_arrays_are e x h =
    let a = bound (defaulted [] values.tables keys.Phase e) (λ p. defaulted [] values.tables keys.Ped e >>= λ q. defaulted [] values.tables keys.Overlap e >>= λ o. defaulted [] values.tables keys.Preempt e >>= λ r. Ok (record { phase = p; ped = q; overlap = o; preempt = r })) x h in
    let b = bound (defaulted [] values.tables keys.Ped e) (λ q. defaulted [] values.tables keys.Overlap e >>= λ o. defaulted [] values.tables keys.Preempt e >>= λ r. Ok (record { phase = a.0; ped = q; overlap = o; preempt = r })) x a.2 in
    let c = bound (defaulted [] values.tables keys.Overlap e) (λ o. defaulted [] values.tables keys.Preempt e >>= λ r. Ok (record { phase = a.0; ped = b.0; overlap = o; preempt = r })) x b.2 in
    let d = bound (defaulted [] values.tables keys.Preempt e) (λ r. Ok (record { phase = a.0; ped = b.0; overlap = c.0; preempt = r })) x c.2 in
    ok_is (AreLayoutArrays e) (record { phase = a.0; ped = b.0; overlap = c.0; preempt = d.0 }) x d.2 (record { phase = a.1; ped = b.1; overlap = c.1; preempt = d.1 })

layout_arrays_give : (e : EntryData) (x : LayoutArrays) → AreLayoutArrays e x → layout_arrays_of e ≡ Ok x
unfolding layout_arrays_of
layout_arrays_give e x h = rw (h.phase, h.ped, h.overlap, h.preempt) refl

-- the arrays of what is said of it
record AreDetailArrays (e : EntryData) (x : DetailArrays) : Type 0 where
  conflict : defaulted [] values.tables keys.Conflict e ≡ Ok x.conflict
  allow : defaulted [] values.tables keys.Allow e ≡ Ok x.allow
  floor : defaulted [] values.tables keys.Floor e ≡ Ok x.floor
  interval : defaulted [] values.tables keys.Interval e ≡ Ok x.interval
  approach : defaulted [] values.tables keys.Approach e ≡ Ok x.approach

detail_arrays_are : (e : EntryData) (x : DetailArrays) → detail_arrays_of e ≡ Ok x → AreDetailArrays e x
unfolding detail_arrays_of
detail_arrays_are e x h =
    let a = bound (defaulted [] values.tables keys.Conflict e) (λ c. defaulted [] values.tables keys.Allow e >>= λ w. defaulted [] values.tables keys.Floor e >>= λ f. defaulted [] values.tables keys.Interval e >>= λ i. defaulted [] values.tables keys.Approach e >>= λ p. Ok (record { conflict = c; allow = w; floor = f; interval = i; approach = p })) x h in
    let b = bound (defaulted [] values.tables keys.Allow e) (λ w. defaulted [] values.tables keys.Floor e >>= λ f. defaulted [] values.tables keys.Interval e >>= λ i. defaulted [] values.tables keys.Approach e >>= λ p. Ok (record { conflict = a.0; allow = w; floor = f; interval = i; approach = p })) x a.2 in
    let c = bound (defaulted [] values.tables keys.Floor e) (λ f. defaulted [] values.tables keys.Interval e >>= λ i. defaulted [] values.tables keys.Approach e >>= λ p. Ok (record { conflict = a.0; allow = b.0; floor = f; interval = i; approach = p })) x b.2 in
    let d = bound (defaulted [] values.tables keys.Interval e) (λ i. defaulted [] values.tables keys.Approach e >>= λ p. Ok (record { conflict = a.0; allow = b.0; floor = c.0; interval = i; approach = p })) x c.2 in
    let g = bound (defaulted [] values.tables keys.Approach e) (λ p. Ok (record { conflict = a.0; allow = b.0; floor = c.0; interval = d.0; approach = p })) x d.2 in
    ok_is (AreDetailArrays e) (record { conflict = a.0; allow = b.0; floor = c.0; interval = d.0; approach = g.0 }) x g.2 (record { conflict = a.1; allow = b.1; floor = c.1; interval = d.1; approach = g.1 })

detail_arrays_give : (e : EntryData) (x : DetailArrays) → AreDetailArrays e x → detail_arrays_of e ≡ Ok x
unfolding detail_arrays_of
detail_arrays_give e x h = rw (h.conflict, h.allow, h.floor, h.interval, h.approach) refl

-- ---- the tables one after another

record AreLayoutEntries (x : LayoutArrays) (l : Layout) : Type 0 where
  phases : entries_of phase_rules x.phase ≡ Ok l.phases
  peds : entries_of (ped_rules l.phases) x.ped ≡ Ok l.peds
  overlaps : entries_of (overlap_rules l.phases) x.overlap ≡ Ok l.overlaps
  preempts : entries_of preempt_rules x.preempt ≡ Ok l.preempts

layout_entries_are : (x : LayoutArrays) (l : Layout) → layout_of x ≡ Ok l → AreLayoutEntries x l
unfolding layout_of
layout_entries_are x l h =
    let a = bound (entries_of phase_rules x.phase) (λ p. entries_of (ped_rules p) x.ped >>= λ q. entries_of (overlap_rules p) x.overlap >>= λ o. entries_of preempt_rules x.preempt >>= λ r. Ok (record { phases = p; peds = q; overlaps = o; preempts = r })) l h in
    let b = bound (entries_of (ped_rules a.0) x.ped) (λ q. entries_of (overlap_rules a.0) x.overlap >>= λ o. entries_of preempt_rules x.preempt >>= λ r. Ok (record { phases = a.0; peds = q; overlaps = o; preempts = r })) l a.2 in
    let c = bound (entries_of (overlap_rules a.0) x.overlap) (λ o. entries_of preempt_rules x.preempt >>= λ r. Ok (record { phases = a.0; peds = b.0; overlaps = o; preempts = r })) l b.2 in
    let d = bound (entries_of preempt_rules x.preempt) (λ r. Ok (record { phases = a.0; peds = b.0; overlaps = c.0; preempts = r })) l c.2 in
    ok_is (AreLayoutEntries x) (record { phases = a.0; peds = b.0; overlaps = c.0; preempts = d.0 }) l d.2 (record { phases = a.1; peds = b.1; overlaps = c.1; preempts = d.1 })

layout_entries_give : (x : LayoutArrays) (l : Layout) → AreLayoutEntries x l → layout_of x ≡ Ok l
unfolding layout_of
layout_entries_give x l h = rw (h.phases, h.peds, h.overlaps, h.preempts) refl

record AreDetailEntries (l : Layout) (x : DetailArrays) (d : Details) : Type 0 where
  conflicts : entries_of (conflict_rules l.phases) x.conflict ≡ Ok d.conflicts
  allows : entries_of (allow_rules l.phases d.conflicts) x.allow ≡ Ok d.allows
  floors : entries_of (floor_rules (signal_channels l)) x.floor ≡ Ok d.floors
  intervals : entries_of (interval_rules (signal_channels l)) x.interval ≡ Ok d.intervals
  approaches : entries_of (approach_rules l.phases) x.approach ≡ Ok d.approaches

detail_entries_are : (l : Layout) (x : DetailArrays) (d : Details) → details_of l x ≡ Ok d → AreDetailEntries l x d
unfolding details_of
detail_entries_are l x d h =
    let a = bound (entries_of (conflict_rules l.phases) x.conflict) (λ c. entries_of (allow_rules l.phases c) x.allow >>= λ w. entries_of (floor_rules (signal_channels l)) x.floor >>= λ f. entries_of (interval_rules (signal_channels l)) x.interval >>= λ i. entries_of (approach_rules l.phases) x.approach >>= λ p. Ok (record { conflicts = c; allows = w; floors = f; intervals = i; approaches = p })) d h in
    let b = bound (entries_of (allow_rules l.phases a.0) x.allow) (λ w. entries_of (floor_rules (signal_channels l)) x.floor >>= λ f. entries_of (interval_rules (signal_channels l)) x.interval >>= λ i. entries_of (approach_rules l.phases) x.approach >>= λ p. Ok (record { conflicts = a.0; allows = w; floors = f; intervals = i; approaches = p })) d a.2 in
    let c = bound (entries_of (floor_rules (signal_channels l)) x.floor) (λ f. entries_of (interval_rules (signal_channels l)) x.interval >>= λ i. entries_of (approach_rules l.phases) x.approach >>= λ p. Ok (record { conflicts = a.0; allows = b.0; floors = f; intervals = i; approaches = p })) d b.2 in
    let e = bound (entries_of (interval_rules (signal_channels l)) x.interval) (λ i. entries_of (approach_rules l.phases) x.approach >>= λ p. Ok (record { conflicts = a.0; allows = b.0; floors = c.0; intervals = i; approaches = p })) d c.2 in
    let f = bound (entries_of (approach_rules l.phases) x.approach) (λ p. Ok (record { conflicts = a.0; allows = b.0; floors = c.0; intervals = e.0; approaches = p })) d e.2 in
    ok_is (AreDetailEntries l x) (record { conflicts = a.0; allows = b.0; floors = c.0; intervals = e.0; approaches = f.0 }) d f.2 (record { conflicts = a.1; allows = b.1; floors = c.1; intervals = e.1; approaches = f.1 })

detail_entries_give : (l : Layout) (x : DetailArrays) (d : Details) → AreDetailEntries l x d → details_of l x ≡ Ok d
unfolding details_of
detail_entries_give l x d h = rw (h.conflicts, h.allows, h.floors, h.intervals, h.approaches) refl

-- ---- the whole document

-- what all parts were read from
record AreParts (e : EntryData) (p : Parts) : Type 0 where
  listed : HasOnly (map key_text top_keys) e.members
  said : IsTop e p.top
  layout_arrays : LayoutArrays
  layouts : AreLayoutArrays e layout_arrays
  detail_arrays : DetailArrays
  details : AreDetailArrays e detail_arrays
  layout_entries : AreLayoutEntries layout_arrays p.layout
  detail_entries : AreDetailEntries p.layout detail_arrays p.details

parts_are : (e : EntryData) (p : Parts) → parts_of e ≡ Ok p → AreParts e p
unfolding parts_of
parts_are e p h =
    let a = bound (only top_keys e) (λ _. top_of e >>= λ t. layout_arrays_of e >>= λ x. detail_arrays_of e >>= λ y. layout_of x >>= λ l. details_of l y >>= λ d. Ok (record { top = t; layout = l; details = d })) p h in
    let b = bound (top_of e) (λ t. layout_arrays_of e >>= λ x. detail_arrays_of e >>= λ y. layout_of x >>= λ l. details_of l y >>= λ d. Ok (record { top = t; layout = l; details = d })) p a.2 in
    let c = bound (layout_arrays_of e) (λ x. detail_arrays_of e >>= λ y. layout_of x >>= λ l. details_of l y >>= λ d. Ok (record { top = b.0; layout = l; details = d })) p b.2 in
    let f = bound (detail_arrays_of e) (λ y. layout_of c.0 >>= λ l. details_of l y >>= λ d. Ok (record { top = b.0; layout = l; details = d })) p c.2 in
    let g = bound (layout_of c.0) (λ l. details_of l f.0 >>= λ d. Ok (record { top = b.0; layout = l; details = d })) p f.2 in
    let k = bound (details_of g.0 f.0) (λ d. Ok (record { top = b.0; layout = g.0; details = d })) p g.2 in
    ok_is (AreParts e) (record { top = b.0; layout = g.0; details = k.0 }) p k.2 (record {
      listed = only_is top_keys e a.1;
      said = top_is e b.0 b.1;
      layout_arrays = c.0;
      layouts = layout_arrays_are e c.0 c.1;
      detail_arrays = f.0;
      details = detail_arrays_are e f.0 f.1;
      layout_entries = layout_entries_are c.0 g.0 g.1;
      detail_entries = detail_entries_are g.0 f.0 k.0 k.1;
    })

parts_give : (e : EntryData) (p : Parts) → AreParts e p → parts_of e ≡ Ok p
unfolding parts_of
parts_give e p h =
    rw (
      only_gives top_keys e h.listed,
      top_gives e p.top h.said,
      layout_arrays_give e h.layout_arrays h.layouts,
      detail_arrays_give e h.detail_arrays h.details,
      layout_entries_give h.layout_arrays p.layout h.layout_entries,
      detail_entries_give p.layout h.detail_arrays p.details h.detail_entries,
    )
    refl

pair_differ : (p q : Pair) → (is_pair p q.a q.b ≡ false) ↔ (¬ IsSamePair p q)
pair_differ p q = not_both (is_pair p q.a q.b) (pair_test p q)

floors_differ : (f g : Floor) → ((f.spec == g.spec && f.colour == g.colour) ≡ false) ↔ (¬ IsSameColour f g)
floors_differ f g = not_both (f.spec == g.spec && f.colour == g.colour) (both_test f.spec f.colour g.spec g.colour)

parts_said : (ms : Members) (p : Parts) → AreParts (document ms) p → Describes ms (settings_of p.top p.layout p.details)
parts_said ms p h =
    let e = document ms in
    let l = p.layout in
    let d = p.details in
    let phases = table_is phase_rules IsPhaseEntry (λ p q. p.number ≢ q.number) phase_said phase_good (λ p q. numbers_differ p.number q.number) keys.Phase e h.layout_arrays.phase l.phases h.layouts.phase h.layout_entries.phases in
    let low = configured_low l.phases (low_phases phases.entries l.phases phases.each) in
    record {
      only = h.listed;
      signal = h.said.signal;
      window = h.said.window;
      coordination = h.said.coordination;
      phases = phases;
      peds = table_is (ped_rules l.phases) (IsPedEntry l.phases) (λ p q. p ≢ q) (ped_said l.phases low) (ped_good l.phases low) numbers_differ keys.Ped e h.layout_arrays.ped l.peds h.layouts.ped h.layout_entries.peds;
      overlaps = table_is (overlap_rules l.phases) (IsOverlapEntry l.phases) (λ o p. o.number ≢ p.number) (overlap_said l.phases low) (overlap_good l.phases low) (λ o p. numbers_differ o.number p.number) keys.Overlap e h.layout_arrays.overlap l.overlaps h.layouts.overlap h.layout_entries.overlaps;
      preempts = table_is preempt_rules IsPreemptEntry (λ p q. p ≢ q) preempt_said preempt_good numbers_differ keys.Preempt e h.layout_arrays.preempt l.preempts h.layouts.preempt h.layout_entries.preempts;
      conflicts = table_is (conflict_rules l.phases) (IsConflictEntry l.phases) (λ p q. ¬ IsSamePair p q) (conflict_said l.phases low) (conflict_good l.phases low) pair_differ keys.Conflict e h.detail_arrays.conflict d.conflicts h.details.conflict h.detail_entries.conflicts;
      allows = table_is (allow_rules l.phases d.conflicts) (IsAllowEntry l.phases d.conflicts) (λ p q. ¬ IsSamePair p q) (allow_said l.phases d.conflicts low) (allow_good l.phases d.conflicts low) pair_differ keys.Allow e h.detail_arrays.allow d.allows h.details.allow h.detail_entries.allows;
      floors = d.floors;
      floors_are = table_is (floor_rules (signal_channels l)) (IsFloorEntry (signal_channels l)) (λ f g. ¬ IsSameColour f g) (floor_said l) (floor_good l) floors_differ keys.Floor e h.detail_arrays.floor d.floors h.details.floor h.detail_entries.floors;
      intervals = table_is (interval_rules (signal_channels l)) (IsIntervalEntry (signal_channels l)) (λ r s. Unit {0}) (interval_said l) (interval_good l) (λ r s. (λ f. tt, λ u. refl)) keys.Interval e h.detail_arrays.interval d.intervals h.details.interval h.detail_entries.intervals;
      approaches = table_is (approach_rules l.phases) (IsApproachEntry l.phases) (λ a b. a.name ≢ b.name) (approach_said l.phases low) (approach_good l.phases low) (λ a b. names_differ a.name b.name) keys.Approach e h.detail_arrays.approach d.approaches h.details.approach h.detail_entries.approaches;
      specs = refl;
    }

-- the parts of a configuration with these floors
abbrev parts_with : Settings → List Floor → Parts
parts_with c floors = record {
  top = record { signal = c.signal; window = c.window; coordination = c.coordination };
  layout = layout c;
  details = record { conflicts = c.conflicts; allows = c.allows; floors = floors; intervals = c.intervals; approaches = c.approaches };
}

said_parts : (ms : Members) (c : Settings) → (h : Describes ms c) → AreParts (document ms) (parts_with c h.floors)
said_parts ms c h =
    let e = document ms in
    let l = layout c in
    let phases = h.phases in
    let low = configured_low c.phases (low_phases phases.entries c.phases phases.each) in
    let phase = table_gives phase_rules IsPhaseEntry (λ p q. p.number ≢ q.number) phase_said phase_good (λ p q. numbers_differ p.number q.number) keys.Phase e c.phases h.phases in
    let ped = table_gives (ped_rules c.phases) (IsPedEntry c.phases) (λ p q. p ≢ q) (ped_said c.phases low) (ped_good c.phases low) numbers_differ keys.Ped e c.peds h.peds in
    let overlap = table_gives (overlap_rules c.phases) (IsOverlapEntry c.phases) (λ o p. o.number ≢ p.number) (overlap_said c.phases low) (overlap_good c.phases low) (λ o p. numbers_differ o.number p.number) keys.Overlap e c.overlaps h.overlaps in
    let preempt = table_gives preempt_rules IsPreemptEntry (λ p q. p ≢ q) preempt_said preempt_good numbers_differ keys.Preempt e c.preempts h.preempts in
    let conflict = table_gives (conflict_rules c.phases) (IsConflictEntry c.phases) (λ p q. ¬ IsSamePair p q) (conflict_said c.phases low) (conflict_good c.phases low) pair_differ keys.Conflict e c.conflicts h.conflicts in
    let allow = table_gives (allow_rules c.phases c.conflicts) (IsAllowEntry c.phases c.conflicts) (λ p q. ¬ IsSamePair p q) (allow_said c.phases c.conflicts low) (allow_good c.phases c.conflicts low) pair_differ keys.Allow e c.allows h.allows in
    let floor = table_gives (floor_rules (signal_channels l)) (IsFloorEntry (signal_channels l)) (λ f g. ¬ IsSameColour f g) (floor_said l) (floor_good l) floors_differ keys.Floor e h.floors h.floors_are in
    let interval = table_gives (interval_rules (signal_channels l)) (IsIntervalEntry (signal_channels l)) (λ r s. Unit {0}) (interval_said l) (interval_good l) (λ r s. (λ f. tt, λ u. refl)) keys.Interval e c.intervals h.intervals in
    let approach = table_gives (approach_rules c.phases) (IsApproachEntry c.phases) (λ a b. a.name ≢ b.name) (approach_said c.phases low) (approach_good c.phases low) (λ a b. names_differ a.name b.name) keys.Approach e c.approaches h.approaches in
    record {
      listed = h.only;
      said = record { signal = h.signal; window = h.window; coordination = h.coordination };
      layout_arrays = record { phase = h.phases.entries; ped = h.peds.entries; overlap = h.overlaps.entries; preempt = h.preempts.entries };
      layouts = record { phase = phase.0; ped = ped.0; overlap = overlap.0; preempt = preempt.0 };
      detail_arrays = record { conflict = h.conflicts.entries; allow = h.allows.entries; floor = h.floors_are.entries; interval = h.intervals.entries; approach = h.approaches.entries };
      details = record { conflict = conflict.0; allow = allow.0; floor = floor.0; interval = interval.0; approach = approach.0 };
      layout_entries = record { phases = phase.1; peds = ped.1; overlaps = overlap.1; preempts = preempt.1 };
      detail_entries = record { conflicts = conflict.1; allows = allow.1; floors = floor.1; intervals = interval.1; approaches = approach.1 };
    }

config_is : (ms : Members) (c : Settings) → config_at ms ≡ Ok c → Describes ms c
config_is ms c h =
    let a = bound (parts_of (document ms)) (λ p. Ok (settings_of p.top p.layout p.details)) c (sym (config_stages ms) ∙ h) in
    ok_is (Describes ms) (settings_of a.0.top a.0.layout a.0.details) c a.2 (parts_said ms a.0 (parts_are (document ms) a.0 a.1))

abbrev with_specs : Settings → List Spec → Read Settings
with_specs c specs = Ok (record c { specs = specs })

staged_gives : (ms : Members) (c : Settings) → Describes ms c → staged_at ms ≡ Ok c
staged_gives ms c h =
    rw (parts_give (document ms) (parts_with c h.floors) (said_parts ms c h)) (ap (with_specs c) (sym h.specs))

config_gives : (ms : Members) (c : Settings) → Describes ms c → config_at ms ≡ Ok c
config_gives ms c h = config_stages ms ∙ staged_gives ms c h

pub configurations_accepted : ConfigurationsAreAccepted
configurations_accepted ms c = (config_is ms c, config_gives ms c)

-- what a document comes to whose keys and single values are good
pub document_comes : (ms : Members) (x : LayoutArrays) (y : DetailArrays) (h : HasArrays ms x y) → config_at ms ≡ (layout_of x >>= λ l. details_of l y >>= λ d. Ok (settings_of (record { signal = h.signal; window = h.window; coordination = h.coordination }) l d))
unfolding parts_of
document_comes ms x y h =
    let e = document ms in
    let t : Top = record { signal = h.signal; window = h.window; coordination = h.coordination } in
    config_stages ms ∙ rw (
      only_gives top_keys e h.only,
      top_gives e t (record { signal = h.signal_there; window = h.window_there; coordination = h.coordination_there }),
      layout_arrays_give e x (record { phase = tables_gives keys.Phase e x.phase h.phase; ped = tables_gives keys.Ped e x.ped h.ped; overlap = tables_gives keys.Overlap e x.overlap h.overlap; preempt = tables_gives keys.Preempt e x.preempt h.preempt }),
      detail_arrays_give e y (record { conflict = tables_gives keys.Conflict e y.conflict h.conflict; allow = tables_gives keys.Allow e y.allow h.allow; floor = tables_gives keys.Floor e y.floor h.floor; interval = tables_gives keys.Interval e y.interval h.interval; approach = tables_gives keys.Approach e y.approach h.approach }),
    )
    (after_2 (layout_of x) (λ l. details_of l y) (λ l d. let p : Parts = record { top = t; layout = l; details = d } in p) (λ p. Ok (settings_of p.top p.layout p.details)) (λ l d. Ok (settings_of t l d)) (λ l d. refl))
