-- What the entries of floors and intervals say.
use Rattle.std.proofs.Common.{if◌then◌else◌, ◌≡◌, inl, inr, ◌<◌, ◌≤◌, ◌^◌, ℕ, zero, suc, ◌+◌, true, false, ◌==◌, List, [], ◌∷◌, ◌++◌, get_or, map, codes, decimal, Option, Some, None, Ok, Err, slice_get, refl, sym, ap, subst, ◌∙◌, arith}
use Rattle.std.specs.Bool.{Decides}
use Rattle.std.specs.List.{AllByRecursion, range_with_len}
use Rattle.std.specs.Str.{bytes_eq}
use Rattle.std.proofs.lemmas.Bool.{cases_Bool}
use Rattle.std.proofs.lemmas.Fmt.{decimal_injective}
use Rattle.std.proofs.lemmas.List.Quantifiers.{position-Some}
use Rattle.std.proofs.lemmas.Option.{same_Some, slice_get-get_or}
use Rattle.std.proofs.lemmas.Slice.Eq.{bytes_eq-Decides}
use Rattle.toml.specs.Data.{Data, string, as_str}
use Rattle.sig_base.specs.Numbers.{has_number}
use Rattle.event_codes.specs.declared.channels.Kind.{Kind}
use Rattle.event_codes.specs.declared.channels.Kind.TheVariants as kinds
use Rattle.event_codes.specs.declared.channels.Channel.{Channel}
use Rattle.channel_tables.specs.Tables.{HasName, table_of}
use Rattle.channel_tables.proofs.Distinct.{one_name}
use Rattle.reach.specs.declared.seen.AgeBound.{AgeBound}
use Rattle.reach.specs.declared.seen.AgeBound.TheVariants.{Any as AnyAge, AtLeast, AtMost}
use Rattle.ring_config.specs.declared.error.ConfigError.TheVariants.{BadValue}
use Rattle.ring_config.specs.declared.error.KeyName.TheVariants as keys
use Rattle.ring_config.specs.declared.items.IntervalItem.{IntervalItem}
use Rattle.ring_config.specs.Reading.{◌>>=◌, EntryData, place, value_at, good, required}
use Rattle.ring_config.specs.Values.{whole, kind_word, is_word_and, is_named, named_from, channel, colour, colour_of}
use Rattle.ring_config.specs.Walk.{EachPair}
use Rattle.ring_config.specs.Settings.{Layout, numbered, signal_channels, all_channels, spec_rank}
use Rattle.ring_config.specs.Sound.{IsBefore}
use Rattle.ring_config.specs.Tables.{floor_values, floor_rules, bound_of, bound_at, interval_values, interval_rules}
use Rattle.ring_config.proofs.ColourLaws.{named_place}
use Rattle.ring_config.proofs.DoLaws.{ok_is, bound, good_is, required_value, and_then_is}
use Rattle.ring_config.proofs.ListLaws.{all_append, all_filter}
use Rattle.ring_config.proofs.OrderLaws.{channels_ordered}
use Rattle.config_laws.specs.Walk.{IsGood}
use Rattle.config_laws.specs.Entries.{Floor, IsNameOf, HasChannel, HasColour, IsFloorEntry, HasBound, IsIntervalEntry}
use Rattle.config_laws.proofs.Entries.{refutes}
use Rattle.config_laws.proofs.Keys.{number_is, number_gives, number_there, required_gives, whole_gives, string_from}

-- ---- names of channels

abbrev ItemOf : {X : Type 0} → (List ℕ → Option X) → Type 0
ItemOf {X} f = X

-- a place among the channels, and the kind of the channel there
abbrev Named : Type 0
Named = ItemOf (named_from 0 [])

name_test : (kind : Kind) (n : ℕ) (text : List ℕ) → Decides (is_word_and (kind_word kind) n text) (IsNameOf kind n text)
name_test kinds.Phase n text = bytes_eq-Decides text (codes "phase " ++ decimal n)
name_test kinds.Ped n text = bytes_eq-Decides text (codes "ped " ++ decimal n)
name_test kinds.Overlap n text = bytes_eq-Decides text (codes "overlap " ++ decimal n)
name_test kinds.PreemptService n text = bytes_eq-Decides text (codes "preempt " ++ decimal n)
name_test kinds.PreemptInput n text = (λ t. absurd cc, λ h. absurd h)
name_test kinds.PedDetector n text = (λ t. absurd cc, λ h. absurd h)
name_test kinds.Detector n text = (λ t. absurd cc, λ h. absurd h)
name_test kinds.Coordination n text = (λ t. absurd cc, λ h. absurd h)

-- a channel of this kind and number stands at a place, and the text names it
record IsNamedAt (channels : List Channel) (text : List ℕ) (spec : ℕ) (kind : Kind) : Type 0 where
  number : ℕ
  named : IsNameOf kind number text
  found : slice_get channels spec ≡ Some (record { kind = kind; number = number })

-- the same, counted from i
record IsNamedFrom (i : ℕ) (channels : List Channel) (text : List ℕ) (x : Named) : Type 0 where
  place : ℕ
  from : x.spec ≡ i + place
  at : IsNamedAt channels text place x.kind

named_is : (i : ℕ) (channels : List Channel) (text : List ℕ) (x : Named) → named_from i channels text ≡ Some x → IsNamedFrom i channels text x
unfolding named_from
named_is i [] text x h = absurd cc
named_is i (c ∷ cs) text x h =
    elim (cases_Bool (is_named text c)) [
      | inl t ↦
          let k : Some (record { spec = i; kind = c.kind }) ≡ Some x = rw t at h in
          let same : record { spec = i; kind = c.kind } ≡ x = same_Some (record { spec = i; kind = c.kind }) x k in
          let named : IsNameOf c.kind c.number text = (name_test c.kind c.number text).0 t in
          let here : IsNamedAt (c ∷ cs) text 0 c.kind = record { number = c.number; named = named; found = refl } in
          let own : IsNamedFrom i (c ∷ cs) text (record { spec = i; kind = c.kind }) = record { place = 0; from = omega arith; at = here } in
          subst (IsNamedFrom i (c ∷ cs) text) same own
      | inr f ↦
          let n = named_is (i + 1) cs text x (rw f at h) in
          record { place = suc n.place; from = (let e : x.spec ≡ i + 1 + n.place = n.from in omega arith); at = record { number = n.at.number; named = n.at.named; found = n.at.found } }
    ]

-- the kind that a name tells by its second byte
abbrev kind_from : List ℕ → Kind
kind_from text =
    if get_or text 1 0 == 0x68 then kinds.Phase
    else (if get_or text 1 0 == 0x65 then kinds.Ped else (if get_or text 1 0 == 0x76 then kinds.Overlap else kinds.PreemptService))

named_kind : (kind : Kind) (n : ℕ) (text : List ℕ) → IsNameOf kind n text → kind_from text ≡ kind
named_kind kinds.Phase n text h = ap kind_from h
named_kind kinds.Ped n text h = ap kind_from h
named_kind kinds.Overlap n text h = ap kind_from h
named_kind kinds.PreemptService n text h = ap kind_from h
named_kind kinds.PreemptInput n text h = absurd h
named_kind kinds.PedDetector n text h = absurd h
named_kind kinds.Detector n text h = absurd h
named_kind kinds.Coordination n text h = absurd h

named_number : (kind : Kind) (m n : ℕ) (text : List ℕ) → m < 2 ^ 64 → n < 2 ^ 64 → IsNameOf kind m text → IsNameOf kind n text → m ≡ n
named_number kinds.Phase m n text lm ln h k = decimal_injective m n lm ln (let e : codes "phase " ++ decimal m ≡ codes "phase " ++ decimal n = sym h ∙ k in cc)
named_number kinds.Ped m n text lm ln h k = decimal_injective m n lm ln (let e : codes "ped " ++ decimal m ≡ codes "ped " ++ decimal n = sym h ∙ k in cc)
named_number kinds.Overlap m n text lm ln h k = decimal_injective m n lm ln (let e : codes "overlap " ++ decimal m ≡ codes "overlap " ++ decimal n = sym h ∙ k in cc)
named_number kinds.PreemptService m n text lm ln h k = decimal_injective m n lm ln (let e : codes "preempt " ++ decimal m ≡ codes "preempt " ++ decimal n = sym h ∙ k in cc)
named_number kinds.PreemptInput m n text lm ln h k = absurd h
named_number kinds.PedDetector m n text lm ln h k = absurd h
named_number kinds.Detector m n text lm ln h k = absurd h
named_number kinds.Coordination m n text lm ln h k = absurd h

-- a text names one channel
same_words : (a b : Kind) (m n : ℕ) (text : List ℕ) → m < 2 ^ 64 → n < 2 ^ 64 → IsNameOf a m text → IsNameOf b n text → (a ≡ b) × (m ≡ n)
same_words a b m n text lm ln h k =
    let same : a ≡ b = sym (named_kind a m text h) ∙ named_kind b n text k in
    (same, named_number b m n text lm ln (subst (λ (c : Kind). IsNameOf c m text) same h) k)

all_there : {X : Type 0} (P : X → Type 0) (xs : List X) (k : ℕ) (x : X) → AllByRecursion P xs → slice_get xs k ≡ Some x → P x
all_there P [] k x all there = absurd cc
all_there P (y ∷ xs) zero x all there = subst P (same_Some y x there) all.0
all_there P (y ∷ xs) (suc k) x all there = all_there P xs k x all.1 there

abbrev IsLow : Channel → Type 0
IsLow c = c.number < 2 ^ 64

counted_low : (kind : Kind) (a n : ℕ) → a + n ≤ 100 → AllByRecursion IsLow (map (λ k. record { kind = kind; number = k }) (range_with_len a n))
counted_low kind a zero le = tt
counted_low kind a (suc n) le = ((let lt : a < 2 ^ 64 = omega arith in lt), counted_low kind (a + 1) n (omega arith))

numbered_low : (kind : Kind) (numbers : List ℕ) → AllByRecursion IsLow (numbered kind 16 numbers)
unfolding numbered
numbered_low kind numbers = all_filter IsLow (λ c. has_number numbers c.number) (map (λ k. record { kind = kind; number = k }) (range_with_len 1 16)) (counted_low kind 1 16 (omega arith))

low_numbers : (l : Layout) → AllByRecursion IsLow (signal_channels l)
unfolding signal_channels
low_numbers l =
    all_append IsLow _ _ (all_append IsLow _ _ (all_append IsLow _ _ (all_append IsLow _ _ (numbered_low kinds.Phase (map (λ p. p.number) l.phases)) (numbered_low kinds.Ped l.peds)) (numbered_low kinds.Overlap (map (λ o. o.number) l.overlaps))) (numbered_low kinds.PreemptInput l.preempts)) (numbered_low kinds.PreemptService l.preempts)

all_front : {X : Type 0} (P : X → Type 0) (xs ys : List X) → AllByRecursion P (xs ++ ys) → AllByRecursion P xs
all_front P [] ys h = tt
all_front P (x ∷ xs) ys h = (h.0, all_front P xs ys h.1)

pairs_front : {X : Type 0} (R : X → X → Type 0) (xs ys : List X) → EachPair R (xs ++ ys) → EachPair R xs
pairs_front R [] ys h = tt
pairs_front R (x ∷ xs) ys h = (all_front (R x) xs ys h.0, pairs_front R xs ys h.1)

signals_ordered : (l : Layout) → EachPair IsBefore (signal_channels l)
unfolding all_channels
signals_ordered l =
    pairs_front IsBefore (signal_channels l) _ (pairs_front IsBefore _ _ (pairs_front IsBefore _ _ (channels_ordered l [] false)))

before_is : (x c : Channel) → IsBefore x c → x.kind ≡ c.kind → x.number ≡ c.number → ⊥
before_is x c (inl lt) kind number = let e = ap spec_rank kind in let f : spec_rank x.kind ≡ spec_rank c.kind = e in absurd (omega arith)
before_is x c (inr later) kind number = let lt : x.number < c.number = later.1 in absurd (omega arith)

abbrev at_place : ℕ → Kind → Option Named
at_place spec kind = Some (record { spec = spec; kind = kind })

-- the text finds the channel that it names, where channels stand in order
named_at : (i : ℕ) (cs : List Channel) (k : ℕ) (c : Channel) (text : List ℕ) → EachPair IsBefore cs → AllByRecursion IsLow cs → slice_get cs k ≡ Some c → IsNameOf c.kind c.number text → named_from i cs text ≡ Some (record { spec = i + k; kind = c.kind })
unfolding named_from
named_at i [] k c text order low found named = absurd cc
named_at i (x ∷ cs) zero c text order low found named =
    let same : x ≡ c = same_Some x c found in
    let t : is_named text x ≡ true = subst (λ (d : Channel). is_named text d ≡ true) (sym same) ((name_test c.kind c.number text).1 named) in
    let here : i ≡ i + 0 = omega arith in
    rw t (ap (λ (d : Channel). at_place i d.kind) same ∙ ap (λ (n : ℕ). at_place n c.kind) here)
named_at i (x ∷ cs) (suc k) c text order low found named =
    let lt : c.number < 2 ^ 64 = all_there IsLow cs k c low.1 found in
    let later : IsBefore x c = all_there (IsBefore x) cs k c order.0 found in
    let f : is_named text x ≡ false = refutes (is_named text x) (name_test x.kind x.number text) (λ h. let s = same_words x.kind c.kind x.number c.number text low.0 lt h named in before_is x c later s.0 s.1) in
    let here : i + 1 + k ≡ i + suc k = omega arith in
    rw f (named_at (i + 1) cs k c text order.1 low.1 found named ∙ ap (λ (n : ℕ). at_place n c.kind) here)

channel_is : (channels : List Channel) (e : EntryData) (x : Named) → required (channel channels) keys.Channel e ≡ Ok x → HasChannel channels e.members x.kind x.spec
unfolding channel
channel_is channels e x h =
    let r = required_value (channel channels) keys.Channel e x h in
    let a = and_then_is (named_from 0 channels) (as_str r.0) x r.2 in
    let n = named_is 0 channels a.0 x a.2 in
    let here : n.place ≡ x.spec = (let k : x.spec ≡ 0 + n.place = n.from in omega arith) in
    let there = subst (λ (k : ℕ). IsNamedAt channels a.0 k x.kind) here n.at in
    record {
      text = a.0;
      there = r.1 ∙ ap Some (string_from r.0 a.0 a.1);
      number = there.number;
      named = there.named;
      found = there.found;
    }

channel_value : (l : Layout) (text : List ℕ) (kind : Kind) (number spec : ℕ) → slice_get (signal_channels l) spec ≡ Some (record { kind = kind; number = number }) → IsNameOf kind number text → channel (signal_channels l) (string text) ≡ Some (record { spec = spec; kind = kind })
unfolding channel
channel_value l text kind number spec found named =
    let here : 0 + spec ≡ spec = omega arith in
    named_at 0 (signal_channels l) spec (record { kind = kind; number = number }) text (signals_ordered l) (low_numbers l) found named
    ∙ ap (λ (n : ℕ). at_place n kind) here

channel_gives : (l : Layout) (e : EntryData) (kind : Kind) (spec : ℕ) → HasChannel (signal_channels l) e.members kind spec → required (channel (signal_channels l)) keys.Channel e ≡ Ok (record { spec = spec; kind = kind })
channel_gives l e kind spec h =
    required_gives (channel (signal_channels l)) keys.Channel e (string h.text) (record { spec = spec; kind = kind }) h.there (channel_value l h.text kind h.number spec h.found h.named)

-- ---- colours

colour_named : (kind : Kind) (text : List ℕ) (c : ℕ) → colour_of kind text ≡ Some c → HasName kind c text
colour_named kind text c h =
    let p = position-Some (λ name. bytes_eq text name) (table_of kind).names c [] h in
    slice_get-get_or (table_of kind).names c [] p.0 ∙ ap Some (sym ((bytes_eq-Decides text (get_or (table_of kind).names c [])).0 p.1))

colour_is : (kind : Kind) (e : EntryData) (c : ℕ) → required (colour kind) keys.Colour e ≡ Ok c → HasColour kind e.members c
unfolding colour
colour_is kind e c h =
    let r = required_value (colour kind) keys.Colour e c h in
    let a = and_then_is (colour_of kind) (as_str r.0) c r.2 in
    record { text = a.0; there = r.1 ∙ ap Some (string_from r.0 a.0 a.1); named = colour_named kind a.0 c a.2 }

colour_value : (kind : Kind) (text : List ℕ) (c : ℕ) → HasName kind c text → colour kind (string text) ≡ Some c
unfolding colour
colour_value kind text c named = sym (named_place kind text (Some c) named (λ d other. ap Some (one_name kind c d text named other)))

colour_gives : (kind : Kind) (e : EntryData) (c : ℕ) → HasColour kind e.members c → required (colour kind) keys.Colour e ≡ Ok c
colour_gives kind e c h = required_gives (colour kind) keys.Colour e (string h.text) c h.there (colour_value kind h.text c h.named)

-- ---- floors

pub floor_good : (l : Layout) (e : EntryData) (f : Floor) → IsFloorEntry (signal_channels l) e.members f → IsGood (floor_rules (signal_channels l)) e f
unfolding floor_values
floor_good l e f h = record {
  only = h.only;
  values = rw (channel_gives l e h.kind f.spec h.channel, colour_gives h.kind e f.colour h.colour, number_gives 0 36000 keys.Tenths e f.tenths h.tenths) refl;
}

pub floor_said : (l : Layout) (e : EntryData) (f : Floor) → IsGood (floor_rules (signal_channels l)) e f → IsFloorEntry (signal_channels l) e.members f
unfolding floor_values
floor_said l e f is =
    let h = is.values in
    let channels = signal_channels l in
    let a = bound (required (channel channels) keys.Channel e) (λ x. required (colour x.kind) keys.Colour e >>= λ c. required (whole 0 36000) keys.Tenths e >>= λ t. Ok (record { spec = x.spec; colour = c; tenths = t })) f h in
    let b = bound (required (colour a.0.kind) keys.Colour e) (λ c. required (whole 0 36000) keys.Tenths e >>= λ t. Ok (record { spec = a.0.spec; colour = c; tenths = t })) f a.2 in
    let c = bound (required (whole 0 36000) keys.Tenths e) (λ t. Ok (record { spec = a.0.spec; colour = b.0; tenths = t })) f b.2 in
    ok_is (IsFloorEntry channels e.members) (record { spec = a.0.spec; colour = b.0; tenths = c.0 }) f c.2 (record {
      only = is.only;
      kind = a.0.kind;
      channel = channel_is channels e a.0 a.1;
      colour = colour_is a.0.kind e b.0 b.1;
      tenths = number_is 0 36000 keys.Tenths e c.0 c.1;
    })

-- ---- bounds

bound_cases : (e : EntryData) (least most : Option Data) (b : AgeBound) → value_at keys.AtLeast e ≡ least → value_at keys.AtMost e ≡ most → bound_of e least most ≡ Ok b → HasBound e.members b
bound_cases e None None b p q h = absurd cc
bound_cases e None (Some d) b p q h =
    let a = bound (good (place keys.AtMost e) (whole 1 36000 d)) (λ n. Ok (AtMost n)) b h in
    let n = number_there 1 36000 keys.AtMost e a.0 d q (good_is (place keys.AtMost e) (whole 1 36000 d) a.0 a.1) in
    ok_is (HasBound e.members) (AtMost a.0) b a.2 (n, p)
bound_cases e (Some d) None b p q h =
    let a = bound (good (place keys.AtLeast e) (whole 1 36000 d)) (λ n. Ok (AtLeast n)) b h in
    let n = number_there 1 36000 keys.AtLeast e a.0 d p (good_is (place keys.AtLeast e) (whole 1 36000 d) a.0 a.1) in
    ok_is (HasBound e.members) (AtLeast a.0) b a.2 (n, q)
bound_cases e (Some d) (Some c) b p q h =
    let a = bound (good (place keys.AtLeast e) (whole 1 36000 d)) (λ n. Err (BadValue (place keys.AtMost e))) b h in absurd cc

bound_is : (e : EntryData) (b : AgeBound) → bound_at e ≡ Ok b → HasBound e.members b
bound_is e b h = bound_cases e (value_at keys.AtLeast e) (value_at keys.AtMost e) b refl refl h

bound_gives : (e : EntryData) (b : AgeBound) → HasBound e.members b → bound_at e ≡ Ok b
bound_gives e AnyAge h = absurd h
bound_gives e (AtLeast n) h = rw (h.0.there, h.1, whole_gives 1 36000 n h.0.least h.0.most) refl
bound_gives e (AtMost n) h = rw (h.1, h.0.there, whole_gives 1 36000 n h.0.least h.0.most) refl

-- ---- intervals

pub interval_good : (l : Layout) (e : EntryData) (r : IntervalItem) → IsIntervalEntry (signal_channels l) e.members r → IsGood (interval_rules (signal_channels l)) e r
unfolding interval_values
interval_good l e r h = record {
  only = h.only;
  values = rw (channel_gives l e h.kind r.spec h.channel, colour_gives h.kind e r.colour h.colour, bound_gives e r.bound h.bound) refl;
}

pub interval_said : (l : Layout) (e : EntryData) (r : IntervalItem) → IsGood (interval_rules (signal_channels l)) e r → IsIntervalEntry (signal_channels l) e.members r
unfolding interval_values
interval_said l e r is =
    let h = is.values in
    let channels = signal_channels l in
    let a = bound (required (channel channels) keys.Channel e) (λ x. required (colour x.kind) keys.Colour e >>= λ c. bound_at e >>= λ b. Ok (record { spec = x.spec; colour = c; bound = b })) r h in
    let b = bound (required (colour a.0.kind) keys.Colour e) (λ c. bound_at e >>= λ b. Ok (record { spec = a.0.spec; colour = c; bound = b })) r a.2 in
    let c = bound (bound_at e) (λ x. Ok (record { spec = a.0.spec; colour = b.0; bound = x })) r b.2 in
    ok_is (IsIntervalEntry channels e.members) (record { spec = a.0.spec; colour = b.0; bound = c.0 }) r c.2 (record {
      only = is.only;
      kind = a.0.kind;
      channel = channel_is channels e a.0 a.1;
      colour = colour_is a.0.kind e b.0 b.1;
      bound = bound_is e c.0 c.1;
    })
