-- Each refusal of a table names a place: none of them is that the text isn't TOML.
use Rattle.std.proofs.Common.{◌≡◌, ℕ, ◌+◌, Bool, true, false, if◌then◌else◌, nat_lt, List, [], ◌∷◌, ◌++◌, length, Option, Some, None, Result, Ok, Err, refl, subst, sym}
use Rattle.std.specs.List.{list_any}
use Rattle.toml.specs.Data.{Data, Members}
use Rattle.event_codes.specs.declared.channels.Channel.{Channel}
use Rattle.sig_base.specs.declared.values.PhaseItem.{PhaseItem}
use Rattle.ring_config.specs.declared.error.ConfigError.{ConfigError}
use Rattle.ring_config.specs.declared.error.ConfigError.TheVariants.{NotToml, Unknown, Repeated, TooMany, Memory}
use Rattle.ring_config.specs.declared.error.KeyAt.{KeyAt}
use Rattle.ring_config.specs.declared.error.KeyName.{KeyName}
use Rattle.ring_config.specs.declared.error.KeyName.TheVariants as keys
use Rattle.ring_config.specs.declared.items.Pair.{Pair}
use Rattle.ring_config.specs.Reading.{Read, ◌>>=◌, Gives, EntryData, place, value_at, all_among, only, good, present, or_missing, required, defaulted, or_default, optional}
use Rattle.ring_config.specs.Values as values
use Rattle.ring_config.specs.Values.{whole, configured}
use Rattle.ring_config.specs.Walk.{Rules, entry_at, unrepeated, read_entry, entries_from, entries_of}
use Rattle.ring_config.specs.Tables.{LayoutArrays, DetailArrays, top_keys, top_of, layout_arrays_of, detail_arrays_of, phase_values, overlap_values, pair_values, floor_values, bound_of, bound_at, interval_values, numerator, high_of, high_at, approach_values, phase_rules, ped_rules, overlap_rules, preempt_rules, conflict_rules, allow_rules, floor_rules, interval_rules, approach_rules, travel_with}
use Rattle.ring_config.specs.Settings.{Settings, Layout, signal_channels, layout_of, details_of, parts_of, config_at, staged_at, config_in, config_of, document, document_of}
use Rattle.ring_config.proofs.StagedLaws.{config_stages}

abbrev HasPlace : ConfigError → Type 0
HasPlace NotToml = ⊥
HasPlace Memory = ⊥
HasPlace _ = Unit {0}

-- where the reading is refused, it is refused at a place
abbrev Placed : {X : Type 0} → Read X → Type 0
Placed (Ok x) = Unit {0}
Placed (Err e) = HasPlace e

then_placed : {A B : Type 0} (r : Read A) (f : A → Read B) → Placed r → ((a : A) → Placed (f a)) → Placed (r >>= f)
then_placed (Ok a) f p q = q a
then_placed (Err e) f p q = p

test_placed : {X : Type 0} (b : Bool) (r s : Read X) → Placed r → Placed s → Placed (if b then r else s)
test_placed true r s p q = p
test_placed false r s p q = q

good_placed : {X : Type 0} (at : KeyAt) (o : Option X) → Placed (good at o)
good_placed at None = tt
good_placed at (Some x) = tt

missing_placed : (at : KeyAt) (v : Option Data) → Placed (or_missing at v)
missing_placed at None = tt
missing_placed at (Some d) = tt

default_placed : {X : Type 0} (x : X) (means : Data → Option X) (at : KeyAt) (v : Option Data) → Placed (or_default x means at v)
default_placed x means at None = tt
default_placed x means at (Some d) = good_placed at (means d)

required_placed : {X : Type 0} (means : Data → Option X) (key : KeyName) (e : EntryData) → Placed (required means key e)
unfolding required
required_placed means key e = then_placed (present key e) (λ d. good (place key e) (means d)) (missing_placed (place key e) (value_at key e)) (λ d. good_placed (place key e) (means d))

defaulted_placed : {X : Type 0} (x : X) (means : Data → Option X) (key : KeyName) (e : EntryData) → Placed (defaulted x means key e)
unfolding defaulted
defaulted_placed x means key e = default_placed x means (place key e) (value_at key e)

only_placed : (listed : List KeyName) (e : EntryData) → Placed (only listed e)
unfolding only
only_placed listed e = test_placed (all_among listed e.members) (Ok tt) (Err (Unknown (place keys.Other e))) tt tt

-- ---- the walk

module _ {X : Type 0} (rules : Rules X) (values_placed : (e : EntryData) → Placed (rules.values e)) where
  unrepeated_placed : (e : EntryData) (earlier : List X) (x : X) → Placed (unrepeated rules e earlier x)
  unrepeated_placed e earlier x = test_placed (list_any (λ y. rules.repeats y x) earlier) (Err (Repeated (place rules.repeated e))) (Ok x) tt tt

  entry_placed : (earlier : List X) (e : EntryData) → Placed (read_entry rules earlier e)
  unfolding read_entry
  entry_placed earlier e =
      then_placed (only rules.listed e) (λ _. rules.values e >>= λ x. unrepeated rules e earlier x) (only_placed rules.listed e) (λ _.
      then_placed (rules.values e) (λ x. unrepeated rules e earlier x) (values_placed e) (λ x. unrepeated_placed e earlier x))

  from_placed : (i : ℕ) (earlier : List X) (mss : List Members) → Placed (entries_from rules i earlier mss)
  unfolding entries_from
  from_placed i earlier [] = tt
  from_placed i earlier (ms ∷ mss) =
      then_placed (read_entry rules earlier (entry_at rules i ms)) (λ x. entries_from rules (i + 1) (earlier ++ x ∷ []) mss) (entry_placed earlier (entry_at rules i ms)) (λ x. from_placed (i + 1) (earlier ++ x ∷ []) mss)

  entries_placed : (mss : List Members) → Placed (entries_of rules mss)
  unfolding entries_of
  entries_placed mss = test_placed (nat_lt rules.limit (length mss)) (Err (TooMany (record { table = rules.table; entry = rules.limit; key = keys.Other }))) (entries_from rules 0 [] mss) tt (from_placed 0 [] mss)

-- ---- the tables

phase_placed : (e : EntryData) → Placed (phase_values e)
unfolding phase_values
phase_placed e = then_placed (required (whole 1 16) keys.Number e) _ (required_placed (whole 1 16) keys.Number e) (λ n.
    then_placed (required (whole 1 4) keys.Ring e) _ (required_placed (whole 1 4) keys.Ring e) (λ r.
    then_placed (required (whole 1 4) keys.Side e) _ (required_placed (whole 1 4) keys.Side e) (λ s. tt)))

overlap_placed : (phases : List PhaseItem) (e : EntryData) → Placed (overlap_values phases e)
unfolding overlap_values
overlap_placed phases e = then_placed (required (whole 1 16) keys.Number e) _ (required_placed (whole 1 16) keys.Number e) (λ n.
    then_placed (required (values.parents phases) keys.Parents e) _ (required_placed (values.parents phases) keys.Parents e) (λ p. tt))

pair_placed : (phases : List PhaseItem) (barred : List Pair) (e : EntryData) → Placed (pair_values phases barred e)
unfolding pair_values
pair_placed phases barred e = then_placed (required (configured phases) keys.A e) _ (required_placed (configured phases) keys.A e) (λ a.
    then_placed (required (values.partner phases barred a) keys.B e) _ (required_placed (values.partner phases barred a) keys.B e) (λ b. tt))

floor_placed : (channels : List Channel) (e : EntryData) → Placed (floor_values channels e)
unfolding floor_values
floor_placed channels e = then_placed (required (values.channel channels) keys.Channel e) _ (required_placed (values.channel channels) keys.Channel e) (λ c.
    then_placed (required (values.colour c.kind) keys.Colour e) _ (required_placed (values.colour c.kind) keys.Colour e) (λ k.
    then_placed (required (whole 0 36000) keys.Tenths e) _ (required_placed (whole 0 36000) keys.Tenths e) (λ t. tt)))

bound_of_placed : (e : EntryData) (least most : Option Data) → Placed (bound_of e least most)
bound_of_placed e None None = tt
bound_of_placed e None (Some d) = then_placed (good (place keys.AtMost e) (whole 1 36000 d)) _ (good_placed (place keys.AtMost e) (whole 1 36000 d)) (λ n. tt)
bound_of_placed e (Some d) None = then_placed (good (place keys.AtLeast e) (whole 1 36000 d)) _ (good_placed (place keys.AtLeast e) (whole 1 36000 d)) (λ n. tt)
bound_of_placed e (Some d) (Some m) = then_placed (good (place keys.AtLeast e) (whole 1 36000 d)) _ (good_placed (place keys.AtLeast e) (whole 1 36000 d)) (λ n. tt)

bound_placed : (e : EntryData) → Placed (bound_at e)
bound_placed e = bound_of_placed e (value_at keys.AtLeast e) (value_at keys.AtMost e)

interval_placed : (channels : List Channel) (e : EntryData) → Placed (interval_values channels e)
unfolding interval_values
interval_placed channels e = then_placed (required (values.channel channels) keys.Channel e) _ (required_placed (values.channel channels) keys.Channel e) (λ c.
    then_placed (required (values.colour c.kind) keys.Colour e) _ (required_placed (values.colour c.kind) keys.Colour e) (λ k.
    then_placed (bound_at e) _ (bound_placed e) (λ b. tt)))

high_of_placed : (e : EntryData) (num den : Option Data) → Placed (high_of e num den)
high_of_placed e None None = tt
high_of_placed e None (Some d) = tt
high_of_placed e (Some d) den = then_placed (good (place keys.HighNum e) (numerator e d)) _ (good_placed (place keys.HighNum e) (numerator e d)) (λ n.
    then_placed (required (whole 1 1000) keys.HighDen e) _ (required_placed (whole 1 1000) keys.HighDen e) (λ m. tt))

high_placed : (e : EntryData) → Placed (high_at e)
high_placed e = high_of_placed e (value_at keys.HighNum e) (value_at keys.HighDen e)

approach_placed : (phases : List PhaseItem) (e : EntryData) → Placed (approach_values phases e)
unfolding approach_values
approach_placed phases e = then_placed (required values.name keys.Name e) _ (required_placed values.name keys.Name e) (λ n.
    then_placed (required (configured phases) keys.Phase e) _ (required_placed (configured phases) keys.Phase e) (λ p.
    then_placed (optional (whole 1 128) keys.Advance e) _ (defaulted_placed None _ keys.Advance e) (λ a.
    then_placed (optional (whole 1 128) keys.StopBar e) _ (defaulted_placed None _ keys.StopBar e) (λ s.
    then_placed (defaulted 0 (travel_with a) keys.Travel e) _ (defaulted_placed 0 (travel_with a) keys.Travel e) (λ t.
    then_placed (high_at e) _ (high_placed e) (λ h. tt))))))

-- ---- the document

top_placed : (e : EntryData) → Placed (top_of e)
unfolding top_of
top_placed e = then_placed (required values.signal keys.Signal e) _ (required_placed values.signal keys.Signal e) (λ s.
    then_placed (required values.start keys.Start e) _ (required_placed values.start keys.Start e) (λ f.
    then_placed (required (values.window f) keys.Hours e) _ (required_placed (values.window f) keys.Hours e) (λ w.
    then_placed (defaulted false values.yes_or_no keys.Coordination e) _ (defaulted_placed false values.yes_or_no keys.Coordination e) (λ c. tt))))

array_placed : (key : KeyName) (e : EntryData) → Placed (defaulted [] values.tables key e)
array_placed key e = defaulted_placed [] values.tables key e

layout_arrays_placed : (e : EntryData) → Placed (layout_arrays_of e)
unfolding layout_arrays_of
layout_arrays_placed e = then_placed (defaulted [] values.tables keys.Phase e) _ (array_placed keys.Phase e) (λ a.
    then_placed (defaulted [] values.tables keys.Ped e) _ (array_placed keys.Ped e) (λ b.
    then_placed (defaulted [] values.tables keys.Overlap e) _ (array_placed keys.Overlap e) (λ c.
    then_placed (defaulted [] values.tables keys.Preempt e) _ (array_placed keys.Preempt e) (λ d. tt))))

detail_arrays_placed : (e : EntryData) → Placed (detail_arrays_of e)
unfolding detail_arrays_of
detail_arrays_placed e = then_placed (defaulted [] values.tables keys.Conflict e) _ (array_placed keys.Conflict e) (λ a.
    then_placed (defaulted [] values.tables keys.Allow e) _ (array_placed keys.Allow e) (λ b.
    then_placed (defaulted [] values.tables keys.Floor e) _ (array_placed keys.Floor e) (λ c.
    then_placed (defaulted [] values.tables keys.Interval e) _ (array_placed keys.Interval e) (λ d.
    then_placed (defaulted [] values.tables keys.Approach e) _ (array_placed keys.Approach e) (λ f. tt)))))

layout_placed : (x : LayoutArrays) → Placed (layout_of x)
unfolding layout_of
layout_placed x = then_placed (entries_of phase_rules x.phase) _ (entries_placed phase_rules phase_placed x.phase) (λ p.
    then_placed (entries_of (ped_rules p) x.ped) _ (entries_placed (ped_rules p) (required_placed (configured p) keys.Number) x.ped) (λ q.
    then_placed (entries_of (overlap_rules p) x.overlap) _ (entries_placed (overlap_rules p) (overlap_placed p) x.overlap) (λ o.
    then_placed (entries_of preempt_rules x.preempt) _ (entries_placed preempt_rules (required_placed (whole 1 16) keys.Number) x.preempt) (λ r. tt))))

details_placed : (l : Layout) (x : DetailArrays) → Placed (details_of l x)
unfolding details_of
details_placed l x = then_placed (entries_of (conflict_rules l.phases) x.conflict) _ (entries_placed (conflict_rules l.phases) (pair_placed l.phases []) x.conflict) (λ c.
    then_placed (entries_of (allow_rules l.phases c) x.allow) _ (entries_placed (allow_rules l.phases c) (pair_placed l.phases c) x.allow) (λ a.
    then_placed (entries_of (floor_rules (signal_channels l)) x.floor) _ (entries_placed (floor_rules (signal_channels l)) (floor_placed (signal_channels l)) x.floor) (λ f.
    then_placed (entries_of (interval_rules (signal_channels l)) x.interval) _ (entries_placed (interval_rules (signal_channels l)) (interval_placed (signal_channels l)) x.interval) (λ i.
    then_placed (entries_of (approach_rules l.phases) x.approach) _ (entries_placed (approach_rules l.phases) (approach_placed l.phases) x.approach) (λ p. tt)))))

staged_placed : (ms : Members) → Placed (staged_at ms)
unfolding parts_of
staged_placed ms =
    let e : EntryData = document ms in
    then_placed (parts_of e) _ (then_placed (only top_keys e) _ (only_placed top_keys e) (λ _.
    then_placed (top_of e) _ (top_placed e) (λ t.
    then_placed (layout_arrays_of e) _ (layout_arrays_placed e) (λ x.
    then_placed (detail_arrays_of e) _ (detail_arrays_placed e) (λ y.
    then_placed (layout_of x) _ (layout_placed x) (λ l.
    then_placed (details_of l y) _ (details_placed l y) (λ d. tt))))))) (λ p. tt)

config_placed : (ms : Members) → Placed (config_at ms)
config_placed ms = subst Placed (sym (config_stages ms)) (staged_placed ms)

no_document : (bytes : List ℕ) (d : Option Members) → document_of bytes ≡ d → config_in d ≡ Err NotToml → document_of bytes ≡ None
no_document bytes None e r = e
no_document bytes (Some ms) e r = absurd (subst Placed r (config_placed ms))

-- what isn't TOML is no document
pub not_toml : (bytes : List ℕ) (r : Result Settings ConfigError) → Gives (λ c. c) r (config_of bytes) → r ≡ Err NotToml → document_of bytes ≡ None
unfolding config_of
not_toml bytes r gives e = no_document bytes (document_of bytes) refl (subst (λ (x : Result Settings ConfigError). Gives (λ c. c) x (config_in (document_of bytes))) e gives)
