-- What the entries of each table are.
use Rattle.std.proofs.Common.{◌≡◌, ◌≢◌, inl, inr, ℕ, ℤ, pos, suc, ◌+◌, ◌-◌, ◌<◌, ◌≤◌, Bool, true, false, not, ◌||◌, ◌==◌, nat_le, List, [], ◌∷◌, ◌++◌, length, Option, Some, None, Ok, Err, slice_get, option_and_then, refl, ap, sym, subst, ◌∙◌, arith}
use Rattle.std.specs.List.{AllByRecursion}
use Rattle.std.specs.Str.{bytes_eq}
use Rattle.std.proofs.lemmas.Bool.{cases_Bool, and_parts, or_parts, leb-true, ltb-false, eqb-true, eq-eqb}
use Rattle.std.proofs.lemmas.List.Quantifiers.{position-Some}
use Rattle.std.proofs.lemmas.Option.{same_Some}
use Rattle.toml.specs.Data.{Data, Items, no_items, item, as_str, as_array, as_integer}
use Rattle.sig_base.specs.declared.values.PhaseItem.{PhaseItem}
use Rattle.sig_base.specs.declared.values.Frac.{Frac}
use Rattle.sig_base.specs.Numbers.{has_number, has_phase}
use Rattle.sig_base.proofs.Common.{not_true}
use Rattle.event_codes.specs.declared.channels.Kind.{Kind}
use Rattle.event_codes.specs.declared.channels.Kind.TheVariants as kinds
use Rattle.event_codes.specs.declared.channels.Channel.{Channel}
use Rattle.colour_machine.specs.Mask.{Has}
use Rattle.channel_tables.specs.Tables.{table_of}
use Rattle.reach.specs.declared.seen.AgeBound.{AgeBound}
use Rattle.reach.specs.declared.seen.AgeBound.TheVariants.{AtLeast, AtMost}
use Rattle.ring_config.specs.declared.error.KeyAt.{KeyAt}
use Rattle.ring_config.specs.declared.error.KeyName.TheVariants as keys
use Rattle.ring_config.specs.declared.error.ConfigError.TheVariants.{BadValue}
use Rattle.ring_config.specs.declared.items.Pair.{Pair}
use Rattle.ring_config.specs.declared.items.Named.{Named}
use Rattle.ring_config.specs.declared.items.OverlapItem.{OverlapItem}
use Rattle.ring_config.specs.declared.items.FloorItem.{FloorItem}
use Rattle.ring_config.specs.declared.items.IntervalItem.{IntervalItem}
use Rattle.ring_config.specs.declared.items.Approach.{Approach}
use Rattle.ring_config.specs.Reading.{◌>>=◌, EntryData, place, value_at, good, or_default, required, defaulted, optional}
use Rattle.ring_config.specs.Values as values
use Rattle.ring_config.specs.Values.{whole, configured, has_pair, next_phase, phases_from, few_parents, mask_of, phases_in, passing, partner, kind_word, is_word_and, is_named, named_from, channel, colour, colour_of, name, is_short_text, is_name_byte}
use Rattle.ring_config.specs.Parents.{ArePositive, IsMaskOf}
use Rattle.ring_config.specs.Tables.{phase_values, overlap_values, pair_values, floor_values, bound_of, bound_at, interval_values, is_over, numerator, high_of, high_at, travel_with, approach_values}
use Rattle.ring_config.specs.Sound.{IsBetween, IsConfigured, IsPhase, IsOverlap, IsPairOf, IsTimed, IsBound, IsApproach}
use Rattle.ring_config.proofs.DoLaws.{ok_is, bound, good_is, required_means, required_value, required_between, optional_between, passing_is, and_then_is, map_is, whole_between, whole_integer}
use Rattle.ring_config.proofs.ListLaws.{all_push}
use Rattle.ring_config.proofs.ParentLaws.{bit_of_phase, bit_of, few_phases}

-- ---- phases

pub phase_is : (e : EntryData) (p : PhaseItem) → phase_values e ≡ Ok p → IsPhase p
unfolding phase_values
phase_is e p h =
    let a = bound (required (whole 1 16) keys.Number e) (λ n. required (whole 1 4) keys.Ring e >>= λ r. required (whole 1 4) keys.Side e >>= λ s. Ok (record { number = n; ring = r; side = s })) p h in
    let b = bound (required (whole 1 4) keys.Ring e) (λ r. required (whole 1 4) keys.Side e >>= λ s. Ok (record { number = a.0; ring = r; side = s })) p a.2 in
    let c = bound (required (whole 1 4) keys.Side e) (λ s. Ok (record { number = a.0; ring = b.0; side = s })) p b.2 in
    ok_is IsPhase (record { number = a.0; ring = b.0; side = c.0 }) p c.2 (record {
      number = required_between 1 16 keys.Number e a.0 a.1;
      ring = required_between 1 4 keys.Ring e b.0 b.1;
      side = required_between 1 4 keys.Side e c.0 c.1;
    })

pub configured_is : (phases : List PhaseItem) (d : Data) (n : ℕ) → configured phases d ≡ Some n → IsConfigured phases n × IsBetween 1 16 n
unfolding configured
configured_is phases d n h =
    let p = passing_is (has_phase phases) (whole 1 16 d) n h in
    (p.1, whole_between 1 16 d n p.0)

pub required_configured : (phases : List PhaseItem) (e : EntryData) (n : ℕ) → required (configured phases) keys.Number e ≡ Ok n → IsConfigured phases n
required_configured phases e n h = let r = required_means (configured phases) keys.Number e n h in (configured_is phases r.0 n r.1).0

-- ---- parents

abbrev IsParent : List PhaseItem → ℕ → Type 0
IsParent phases n = IsConfigured phases n × (1 ≤ n)

found_are : (phases : List PhaseItem) (found : List ℕ) (ds : Items) (result : List ℕ) → AllByRecursion (IsParent phases) found → phases_from phases found ds ≡ Some result → AllByRecursion (IsParent phases) result
unfolding phases_from
found_are phases found no_items result all h = rw (← same_Some found result h) all
found_are phases found (item d ds) result all h =
    let a = and_then_is (λ n. phases_from phases (found ++ n ∷ []) ds) (next_phase phases found d) result h in
    let p = passing_is (λ n. not (has_number found n)) (configured phases d) a.0 a.1 in
    let c = configured_is phases d a.0 p.0 in
    found_are phases (found ++ a.0 ∷ []) ds result (all_push (IsParent phases) found a.0 all (c.0, c.1.0)) a.2

positive_are : (phases : List PhaseItem) (found : List ℕ) → AllByRecursion (IsParent phases) found → ArePositive found
positive_are phases [] h = tt
positive_are phases (n ∷ ns) h = (h.0.1, positive_are phases ns h.1)

bit_tells : (b : Bool) → bit_of b ≡ 1 → b ≡ true
bit_tells true e = refl
bit_tells false e = absurd (omega arith)

member_configured : (phases : List PhaseItem) (found : List ℕ) (n : ℕ) → AllByRecursion (IsParent phases) found → has_number found n ≡ true → IsConfigured phases n
member_configured phases [] n h e = absurd cc
member_configured phases (m ∷ ms) n h e =
    elim (cases_Bool (m == n)) [
      | inl t ↦ let same : m ≡ n = eqb-true m n t in rw (← same) h.0.0
      | inr f ↦ member_configured phases ms n h.1 (rw f at e)
    ]

some_member : (found : List ℕ) → 1 ≤ length found → ArePositive found → (n : ℕ) × (1 ≤ n) × (has_number found n ≡ true)
some_member [] le p = absurd (omega arith)
some_member (n ∷ ns) le p = (n, p.0, rw (eq-eqb n n refl) refl)

pub parents_are : (phases : List PhaseItem) (d : Data) (mask : ℕ) → values.parents phases d ≡ Some mask → ((b : ℕ) → Has mask b → IsConfigured phases (b + 1)) × ((b : ℕ) × Has mask b) × (length (phases_in mask) ≤ 8)
unfolding values.parents
parents_are phases d mask h =
    let m = map_is mask_of (passing few_parents (option_and_then (phases_from phases []) (as_array d))) mask h in
    let p = passing_is few_parents (option_and_then (phases_from phases []) (as_array d)) m.0 m.1 in
    let a = and_then_is (phases_from phases []) (as_array d) m.0 p.0 in
    let all = found_are phases [] a.0 m.0 tt a.2 in
    let is : IsMaskOf m.0 mask = record { value = sym m.2; positive = positive_are phases m.0 all } in
    let few = and_parts (nat_le 1 (length m.0)) (nat_le (length m.0) 8) p.1 in
    let one = some_member m.0 (leb-true 1 (length m.0) few.0) is.positive in (
      λ b has.
          let le : 1 ≤ b + 1 = omega arith in
          let there : Has mask (b + 1 - 1) = rw (let k : b + 1 - 1 ≡ b = omega arith in k) has in
          member_configured phases m.0 (b + 1) all (bit_tells (has_number m.0 (b + 1)) (sym (bit_of_phase m.0 mask (b + 1) is le) ∙ there)),
      (one.0 - 1, bit_of_phase m.0 mask one.0 is one.1 ∙ ap bit_of one.2),
      few_phases m.0 mask is (leb-true (length m.0) 8 few.1),
    )

pub overlap_is : (phases : List PhaseItem) (e : EntryData) (o : OverlapItem) → overlap_values phases e ≡ Ok o → IsOverlap phases o
unfolding overlap_values
overlap_is phases e o h =
    let a = bound (required (whole 1 16) keys.Number e) (λ n. required (values.parents phases) keys.Parents e >>= λ m. Ok (record { number = n; parents = m })) o h in
    let b = bound (required (values.parents phases) keys.Parents e) (λ m. Ok (record { number = a.0; parents = m })) o a.2 in
    let r = required_means (values.parents phases) keys.Parents e b.0 b.1 in
    let p = parents_are phases r.0 b.0 r.1 in
    ok_is (IsOverlap phases) (record { number = a.0; parents = b.0 }) o b.2 (record {
      number = required_between 1 16 keys.Number e a.0 a.1;
      parents = p.0;
      some = p.1;
      few = p.2;
    })

-- ---- pairs

-- a pair of configured phases that differ and isn't barred
pub record IsUnbarred (phases : List PhaseItem) (barred : List Pair) (p : Pair) : Type 0 where
  pub pair : IsPairOf phases p
  pub unbarred : has_pair barred p.a p.b ≡ false

pub pair_is : (phases : List PhaseItem) (barred : List Pair) (e : EntryData) (p : Pair) → pair_values phases barred e ≡ Ok p → IsUnbarred phases barred p
unfolding pair_values
pair_is phases barred e p h =
    let a = bound (required (configured phases) keys.A e) (λ x. required (partner phases barred x) keys.B e >>= λ y. Ok (record { a = x; b = y })) p h in
    let b = bound (required (partner phases barred a.0) keys.B e) (λ y. Ok (record { a = a.0; b = y })) p a.2 in
    let r = required_means (configured phases) keys.A e a.0 a.1 in
    let s = required_means (partner phases barred a.0) keys.B e b.0 b.1 in
    let q = passing_is (λ y. not (y == a.0 || has_pair barred a.0 y)) (configured phases s.0) b.0 s.1 in
    let f = or_parts (b.0 == a.0) (has_pair barred a.0 b.0) (not_true (b.0 == a.0 || has_pair barred a.0 b.0) q.1) in
    let differ : a.0 ≢ b.0 = λ same. absurd (let t : b.0 == a.0 ≡ true = eq-eqb b.0 a.0 (sym same) in let u : b.0 == a.0 ≡ false = f.0 in cc) in
    ok_is (IsUnbarred phases barred) (record { a = a.0; b = b.0 }) p b.2 (record {
      pair = record { a = (configured_is phases r.0 a.0 r.1).0; b = (configured_is phases s.0 b.0 q.0).0; differ = differ };
      unbarred = f.1;
    })

-- ---- channels and colours

timed_by : (k : Kind) (n : ℕ) (text : List ℕ) → is_word_and (kind_word k) n text ≡ true → IsTimed k
timed_by kinds.Phase n text e = tt
timed_by kinds.Ped n text e = tt
timed_by kinds.Overlap n text e = tt
timed_by kinds.PreemptService n text e = tt
timed_by kinds.Detector n text e = absurd cc
timed_by kinds.PedDetector n text e = absurd cc
timed_by kinds.PreemptInput n text e = absurd cc
timed_by kinds.Coordination n text e = absurd cc

-- the channel stands at this place among the channels, and may be named
pub record IsNamedAt (channels : List Channel) (spec : ℕ) (kind : Kind) : Type 0 where
  pub channel : Channel
  pub there : slice_get channels spec ≡ Some channel
  pub same : channel.kind ≡ kind
  pub timed : IsTimed kind

named_is : (i : ℕ) (channels : List Channel) (text : List ℕ) (x : Named) → named_from i channels text ≡ Some x → (k : ℕ) × (x.spec ≡ i + k) × IsNamedAt channels k x.kind
unfolding named_from
named_is i [] text x h = absurd cc
named_is i (c ∷ cs) text x h =
    elim (cases_Bool (is_named text c)) [
      | inl t ↦
          let k : Some (record { spec = i; kind = c.kind }) ≡ Some x = rw t at h in
          let spec : i ≡ x.spec = ap (λ (y : Named). y.spec) (same_Some (record { spec = i; kind = c.kind }) x k) in
          let kind : c.kind ≡ x.kind = ap (λ (y : Named). y.kind) (same_Some (record { spec = i; kind = c.kind }) x k) in
          (0, sym spec ∙ (omega arith), record { channel = c; there = refl; same = kind; timed = subst IsTimed kind (timed_by c.kind c.number text t) })
      | inr f ↦
          let n = named_is (i + 1) cs text x (rw f at h) in
          let e : x.spec ≡ i + 1 + n.0 = n.1 in
          (n.0 + 1, omega arith, record { channel = n.2.channel; there = rw (let s : n.0 + 1 ≡ suc n.0 = omega arith in s) n.2.there; same = n.2.same; timed = n.2.timed })
    ]

pub channel_is : (channels : List Channel) (e : EntryData) (x : Named) → required (channel channels) keys.Channel e ≡ Ok x → IsNamedAt channels x.spec x.kind
unfolding channel
channel_is channels e x h =
    let r = required_means (channel channels) keys.Channel e x h in
    let a = and_then_is (named_from 0 channels) (as_str r.0) x r.1 in
    let n = named_is 0 channels a.0 x a.2 in
    let same : n.0 ≡ x.spec = (let k : x.spec ≡ 0 + n.0 = n.1 in omega arith) in
    subst (λ (k : ℕ). IsNamedAt channels k x.kind) same n.2

pub colour_is : (kind : Kind) (e : EntryData) (c : ℕ) → required (colour kind) keys.Colour e ≡ Ok c → c < length (table_of kind).names
unfolding colour
colour_is kind e c h =
    let r = required_means (colour kind) keys.Colour e c h in
    let a = and_then_is (colour_of kind) (as_str r.0) c r.1 in
    (position-Some (λ n. bytes_eq a.0 n) (table_of kind).names c [] a.2).0

-- the floor of a colour of a channel that may be named
pub record IsFloorOf (channels : List Channel) (f : FloorItem) : Type 0 where
  pub kind : Kind
  pub named : IsNamedAt channels f.spec kind
  pub low : f.tenths ≤ 36000

pub floor_is : (channels : List Channel) (e : EntryData) (f : FloorItem) → floor_values channels e ≡ Ok f → IsFloorOf channels f
unfolding floor_values
floor_is channels e f h =
    let a = bound (required (channel channels) keys.Channel e) (λ x. required (colour x.kind) keys.Colour e >>= λ c. required (whole 0 36000) keys.Tenths e >>= λ t. Ok (record { spec = x.spec; colour = c; tenths = t })) f h in
    let b = bound (required (colour a.0.kind) keys.Colour e) (λ c. required (whole 0 36000) keys.Tenths e >>= λ t. Ok (record { spec = a.0.spec; colour = c; tenths = t })) f a.2 in
    let c = bound (required (whole 0 36000) keys.Tenths e) (λ t. Ok (record { spec = a.0.spec; colour = b.0; tenths = t })) f b.2 in
    ok_is (IsFloorOf channels) (record { spec = a.0.spec; colour = b.0; tenths = c.0 }) f c.2 (record {
      kind = a.0.kind;
      named = channel_is channels e a.0 a.1;
      low = (required_between 0 36000 keys.Tenths e c.0 c.1).1;
    })

bound_is : (e : EntryData) (least most : Option Data) (b : AgeBound) → bound_of e least most ≡ Ok b → IsBound b
bound_is e None None b h = absurd cc
bound_is e None (Some most) b h =
    let a = bound (good (place keys.AtMost e) (whole 1 36000 most)) (λ n. Ok (AtMost n)) b h in
    ok_is IsBound (AtMost a.0) b a.2 (whole_between 1 36000 most a.0 (good_is (place keys.AtMost e) (whole 1 36000 most) a.0 a.1))
bound_is e (Some least) None b h =
    let a = bound (good (place keys.AtLeast e) (whole 1 36000 least)) (λ n. Ok (AtLeast n)) b h in
    ok_is IsBound (AtLeast a.0) b a.2 (whole_between 1 36000 least a.0 (good_is (place keys.AtLeast e) (whole 1 36000 least) a.0 a.1))
bound_is e (Some least) (Some most) b h =
    let a = bound (good (place keys.AtLeast e) (whole 1 36000 least)) (λ n. Err (BadValue (place keys.AtMost e))) b h in absurd cc

-- an interval rule of a colour of a channel that may be named
pub record IsRuleOf (channels : List Channel) (r : IntervalItem) : Type 0 where
  pub kind : Kind
  pub named : IsNamedAt channels r.spec kind
  pub colour : r.colour < length (table_of kind).names
  pub bound : IsBound r.bound

pub interval_is : (channels : List Channel) (e : EntryData) (r : IntervalItem) → interval_values channels e ≡ Ok r → IsRuleOf channels r
unfolding interval_values
interval_is channels e r h =
    let a = bound (required (channel channels) keys.Channel e) (λ x. required (colour x.kind) keys.Colour e >>= λ c. bound_at e >>= λ b. Ok (record { spec = x.spec; colour = c; bound = b })) r h in
    let b = bound (required (colour a.0.kind) keys.Colour e) (λ c. bound_at e >>= λ b. Ok (record { spec = a.0.spec; colour = c; bound = b })) r a.2 in
    let c = bound (bound_at e) (λ x. Ok (record { spec = a.0.spec; colour = b.0; bound = x })) r b.2 in
    ok_is (IsRuleOf channels) (record { spec = a.0.spec; colour = b.0; bound = c.0 }) r c.2 (record {
      kind = a.0.kind;
      named = channel_is channels e a.0 a.1;
      colour = colour_is a.0.kind e b.0 b.1;
      bound = bound_is e (value_at keys.AtLeast e) (value_at keys.AtMost e) c.0 c.1;
    })

-- ---- approaches

pub record IsShare (f : Frac) : Type 0 where
  pub some : 1 ≤ f.num
  pub share : f.num ≤ f.den
  pub few : f.den ≤ 1000

not_over : (n m : ℕ) → not (is_over n (Some (pos m))) ≡ true → n ≤ m
not_over n m e = ltb-false m n (not_true (is_over n (Some (pos m))) e)

high_is : (e : EntryData) (num den : Option Data) (f : Frac) → high_of e num den ≡ Ok f → IsShare f
high_is e None None f h = ok_is IsShare (record { num = 4; den = 5 }) f h (record { some = omega arith; share = omega arith; few = omega arith })
high_is e None (Some d) f h = absurd cc
high_is e (Some d) den f h =
    let a = bound (good (place keys.HighNum e) (numerator e d)) (λ n. required (whole 1 1000) keys.HighDen e >>= λ m. Ok (record { num = n; den = m })) f h in
    let b = bound (required (whole 1 1000) keys.HighDen e) (λ m. Ok (record { num = a.0; den = m })) f a.2 in
    let g = good_is (place keys.HighNum e) (numerator e d) a.0 a.1 in
    let p = passing_is (λ n. not (is_over n (option_and_then as_integer (value_at keys.HighDen e)))) (whole 1 1000 d) a.0 g in
    let n = whole_between 1 1000 d a.0 p.0 in
    let r = required_value (whole 1 1000) keys.HighDen e b.0 b.1 in
    let m = whole_between 1 1000 r.0 b.0 r.2 in
    let z : option_and_then as_integer (value_at keys.HighDen e) ≡ Some (pos b.0) = ap (λ (v : Option Data). option_and_then as_integer v) r.1 ∙ whole_integer 1 1000 r.0 b.0 r.2 in
    let t : not (is_over a.0 (Some (pos b.0))) ≡ true = subst (λ (v : Option ℤ). not (is_over a.0 v) ≡ true) z p.1 in
    ok_is IsShare (record { num = a.0; den = b.0 }) f b.2 (record { some = n.0; share = not_over a.0 b.0 t; few = m.1 })

pub record IsTravel (advance : Option ℕ) (n : ℕ) : Type 0 where
  pub most : n ≤ 300
  pub none : advance ≡ None → n ≡ 0

travel_at : (advance : Option ℕ) (at : KeyAt) (v : Option Data) (n : ℕ) → or_default 0 (travel_with advance) at v ≡ Ok n → IsTravel advance n
travel_at advance at None n h = ok_is (IsTravel advance) 0 n h (record { most = omega arith; none = λ e. refl })
travel_at None at (Some d) n h = absurd cc
travel_at (Some v) at (Some d) n h =
    let g = good_is at (whole 0 300 d) n h in
    record { most = (whole_between 0 300 d n g).1; none = λ e. absurd cc }

travel_is : (advance : Option ℕ) (e : EntryData) (n : ℕ) → defaulted 0 (travel_with advance) keys.Travel e ≡ Ok n → IsTravel advance n
unfolding defaulted
travel_is advance e n h = travel_at advance (place keys.Travel e) (value_at keys.Travel e) n h

pub approach_is : (phases : List PhaseItem) (e : EntryData) (a : Approach) → approach_values phases e ≡ Ok a → IsApproach phases a
unfolding approach_values name
approach_is phases e x h =
    let a = bound (required name keys.Name e) (λ n. required (configured phases) keys.Phase e >>= λ p. optional (whole 1 128) keys.Advance e >>= λ v. optional (whole 1 128) keys.StopBar e >>= λ s. defaulted 0 (travel_with v) keys.Travel e >>= λ t. high_at e >>= λ f. Ok (record { name = n; phase = p; advance = v; stop_bar = s; travel = t; high = f })) x h in
    let b = bound (required (configured phases) keys.Phase e) (λ p. optional (whole 1 128) keys.Advance e >>= λ v. optional (whole 1 128) keys.StopBar e >>= λ s. defaulted 0 (travel_with v) keys.Travel e >>= λ t. high_at e >>= λ f. Ok (record { name = a.0; phase = p; advance = v; stop_bar = s; travel = t; high = f })) x a.2 in
    let c = bound (optional (whole 1 128) keys.Advance e) (λ v. optional (whole 1 128) keys.StopBar e >>= λ s. defaulted 0 (travel_with v) keys.Travel e >>= λ t. high_at e >>= λ f. Ok (record { name = a.0; phase = b.0; advance = v; stop_bar = s; travel = t; high = f })) x b.2 in
    let d = bound (optional (whole 1 128) keys.StopBar e) (λ s. defaulted 0 (travel_with c.0) keys.Travel e >>= λ t. high_at e >>= λ f. Ok (record { name = a.0; phase = b.0; advance = c.0; stop_bar = s; travel = t; high = f })) x c.2 in
    let g = bound (defaulted 0 (travel_with c.0) keys.Travel e) (λ t. high_at e >>= λ f. Ok (record { name = a.0; phase = b.0; advance = c.0; stop_bar = d.0; travel = t; high = f })) x d.2 in
    let f = bound (high_at e) (λ s. Ok (record { name = a.0; phase = b.0; advance = c.0; stop_bar = d.0; travel = g.0; high = s })) x g.2 in
    let n = required_means name keys.Name e a.0 a.1 in
    let p = required_means (configured phases) keys.Phase e b.0 b.1 in
    let s = high_is e (value_at keys.HighNum e) (value_at keys.HighDen e) f.0 f.1 in
    let t = travel_is c.0 e g.0 g.1 in
    ok_is (IsApproach phases) (record { name = a.0; phase = b.0; advance = c.0; stop_bar = d.0; travel = g.0; high = f.0 }) x f.2 (record {
      name = (passing_is (is_short_text is_name_byte) (as_str n.0) a.0 n.1).1;
      phase = (configured_is phases p.0 b.0 p.1).0;
      advance = optional_between 1 128 keys.Advance e c.0 c.1;
      stop_bar = optional_between 1 128 keys.StopBar e d.0 d.1;
      travel = t.most;
      no_travel = t.none;
      some = s.some;
      share = s.share;
      few = s.few;
    })
