-- The specs: their order, their floors, and the place of a channel that may be named.
use Rattle.std.proofs.Common.{◌≡◌, ◌≢◌, inl, inr, ℕ, zero, suc, ◌+◌, ◌<◌, ◌≤◌, Bool, true, false, ◌&&◌, ◌==◌, List, [], ◌∷◌, ◌++◌, length, map, flat_map, Some, slice_get, slice_index, refl, ap, sym, subst, ◌∙◌, arith}
use Rattle.std.specs.List.{AllByRecursion, range_with_len}
use Rattle.std.proofs.lemmas.Bool.{cases_Bool, cases_lt, and_parts, eqb-true}
use Rattle.std.proofs.lemmas.List.{get_or_past}
use Rattle.std.proofs.lemmas.List.FromFn.{get_or-map-range_with_len, length-map-range_with_len}
use Rattle.std.proofs.lemmas.Option.{same_Some}
use Rattle.event_codes.specs.declared.channels.Kind.{Kind}
use Rattle.event_codes.specs.declared.channels.Kind.TheVariants as kinds
use Rattle.event_codes.specs.declared.channels.Channel.{Channel}
use Rattle.channel_tables.specs.declared.spec.Spec.{Spec}
use Rattle.channel_tables.specs.Spec.{IsSpec, HasNoFloor}
use Rattle.ring_config.specs.declared.items.FloorItem.{FloorItem}
use Rattle.ring_config.specs.declared.items.Approach.{Approach}
use Rattle.sig_base.specs.Numbers.{has_number}
use Rattle.ring_config.specs.Walk.{EachPair}
use Rattle.ring_config.specs.Settings.{Layout, numbered, signal_channels, all_channels, coordination_channel, detectors, floor_of, floors_of, specs_from, spec_rank}
use Rattle.ring_config.specs.Sound.{IsBefore, IsTimed}
use Rattle.ring_config.proofs.ListLaws.{all_weaker, all_append, all_filter, pairs_append, pairs_filter}
use Rattle.ring_config.proofs.TableLaws.{IsFloorOf}

-- ---- order

abbrev IsFrom : Kind → ℕ → Channel → Type 0
IsFrom kind n c = (c.kind ≡ kind) × (n ≤ c.number)

abbrev counted : Kind → ℕ → ℕ → List Channel
counted kind a n = map (λ k. record { kind = kind; number = k }) (range_with_len a n)

from_on : (kind : Kind) (b a n : ℕ) → b ≤ a → AllByRecursion (IsFrom kind b) (counted kind a n)
from_on kind b a zero le = tt
from_on kind b a (suc n) le = let more : b ≤ a + 1 = omega arith in ((refl, le), from_on kind b (a + 1) n more)

ascending : (kind : Kind) (a n : ℕ) → EachPair IsBefore (counted kind a n)
ascending kind a zero = tt
ascending kind a (suc n) =
    let le : a + 1 ≤ a + 1 = omega arith in
    let later : (c : Channel) → IsFrom kind (a + 1) c → IsBefore (record { kind = kind; number = a }) c = λ c h. let lt : a < c.number = (let k : a + 1 ≤ c.number = h.1 in omega arith) in inr (sym h.0, lt) in
    (all_weaker (IsFrom kind (a + 1)) (IsBefore (record { kind = kind; number = a })) later (counted kind (a + 1) n) (from_on kind (a + 1) (a + 1) n le), ascending kind (a + 1) n)

numbered_ascending : (kind : Kind) (most : ℕ) (numbers : List ℕ) → EachPair IsBefore (numbered kind most numbers)
unfolding numbered
numbered_ascending kind most numbers = pairs_filter IsBefore (λ c. has_number numbers c.number) (counted kind 1 most) (ascending kind 1 most)

numbered_kind : (kind : Kind) (most : ℕ) (numbers : List ℕ) → AllByRecursion (IsFrom kind 0) (numbered kind most numbers)
unfolding numbered
numbered_kind kind most numbers = let le : 0 ≤ 1 = omega arith in all_filter (IsFrom kind 0) (λ c. has_number numbers c.number) (counted kind 1 most) (from_on kind 0 1 most le)

-- channels in order, of ranks up to r
record Upto (r : ℕ) (cs : List Channel) : Type 0 where
  order : EachPair IsBefore cs
  ranks : AllByRecursion (λ c. spec_rank c.kind ≤ r) cs

all_later : (r : ℕ) (xs ys : List Channel) → AllByRecursion (λ c. spec_rank c.kind ≤ r) xs → AllByRecursion (λ c. r < spec_rank c.kind) ys → AllByRecursion (λ x. AllByRecursion (IsBefore x) ys) xs
all_later r [] ys h k = tt
all_later r (x ∷ xs) ys h k =
    let le : spec_rank x.kind ≤ r = h.0 in
    let later : (c : Channel) → r < spec_rank c.kind → IsBefore x c = λ c lt. let below : spec_rank x.kind < spec_rank c.kind = omega arith in inl below in
    (all_weaker (λ c. r < spec_rank c.kind) (IsBefore x) later ys k, all_later r xs ys h.1 k)

upto_more : (r s : ℕ) (xs ys : List Channel) → r < s → Upto r xs → EachPair IsBefore ys → AllByRecursion (λ c. spec_rank c.kind ≡ s) ys → Upto s (xs ++ ys)
upto_more r s xs ys lt up order ranks =
    let above : (c : Channel) → spec_rank c.kind ≡ s → r < spec_rank c.kind = λ c e. omega arith in
    let low : (c : Channel) → spec_rank c.kind ≤ r → spec_rank c.kind ≤ s = λ c e. omega arith in
    let same : (c : Channel) → spec_rank c.kind ≡ s → spec_rank c.kind ≤ s = λ c e. omega arith in
    record {
      order = pairs_append IsBefore xs ys up.order order (all_later r xs ys up.ranks (all_weaker (λ c. spec_rank c.kind ≡ s) (λ c. r < spec_rank c.kind) above ys ranks));
      ranks = all_append (λ c. spec_rank c.kind ≤ s) xs ys (all_weaker (λ c. spec_rank c.kind ≤ r) (λ c. spec_rank c.kind ≤ s) low xs up.ranks) (all_weaker (λ c. spec_rank c.kind ≡ s) (λ c. spec_rank c.kind ≤ s) same ys ranks);
    }

upto_numbered : (r s : ℕ) (xs : List Channel) (kind : Kind) (most : ℕ) (numbers : List ℕ) → r < s → spec_rank kind ≡ s → Upto r xs → Upto s (xs ++ numbered kind most numbers)
upto_numbered r s xs kind most numbers lt e up =
    let ranked : (c : Channel) → IsFrom kind 0 c → spec_rank c.kind ≡ s = λ c h. ap spec_rank h.0 ∙ e in
    upto_more r s xs (numbered kind most numbers) lt up (numbered_ascending kind most numbers) (all_weaker (IsFrom kind 0) (λ c. spec_rank c.kind ≡ s) ranked (numbered kind most numbers) (numbered_kind kind most numbers))

first_numbered : (most : ℕ) (numbers : List ℕ) → Upto 0 (numbered kinds.Phase most numbers)
first_numbered most numbers =
    let ranked : (c : Channel) → IsFrom kinds.Phase 0 c → spec_rank c.kind ≤ 0 = λ c h. let z : spec_rank c.kind ≡ 0 = ap spec_rank h.0 in omega arith in
    record {
      order = numbered_ascending kinds.Phase most numbers;
      ranks = all_weaker (IsFrom kinds.Phase 0) (λ c. spec_rank c.kind ≤ 0) ranked (numbered kinds.Phase most numbers) (numbered_kind kinds.Phase most numbers);
    }

signal_upto : (l : Layout) → Upto 4 (signal_channels l)
unfolding signal_channels
signal_upto l =
    let a = first_numbered 16 (map (λ p. p.number) l.phases) in
    let b = upto_numbered 0 1 (numbered kinds.Phase 16 (map (λ p. p.number) l.phases)) kinds.Ped 16 l.peds (omega arith) refl a in
    let c = upto_numbered 1 2 (numbered kinds.Phase 16 (map (λ p. p.number) l.phases) ++ numbered kinds.Ped 16 l.peds) kinds.Overlap 16 (map (λ o. o.number) l.overlaps) (omega arith) refl b in
    let d = upto_numbered 2 3 _ kinds.PreemptInput 16 l.preempts (omega arith) refl c in
    upto_numbered 3 4 _ kinds.PreemptService 16 l.preempts (omega arith) refl d

last_upto : (r : ℕ) (xs : List Channel) (on : Bool) → r < 7 → Upto r xs → Upto 7 (xs ++ coordination_channel on)
last_upto r xs true lt up = upto_more r 7 xs (coordination_channel true) lt up (tt, tt) (refl, tt)
last_upto r xs false lt up = upto_more r 7 xs [] lt up tt tt

pub channels_ordered : (l : Layout) (approaches : List Approach) (on : Bool) → EachPair IsBefore (all_channels l approaches on)
unfolding all_channels
channels_ordered l approaches on =
    let a = upto_numbered 4 5 (signal_channels l) kinds.PedDetector 16 l.peds (omega arith) refl (signal_upto l) in
    let b = upto_numbered 5 6 (signal_channels l ++ numbered kinds.PedDetector 16 l.peds) kinds.Detector 128 (flat_map detectors approaches) (omega arith) refl a in
    (last_upto 6 _ on (omega arith) b).order

-- ---- specs of channels

pub specs_all : (P : Channel → Type 0) (floors : List FloorItem) (i : ℕ) (cs : List Channel) → AllByRecursion P cs → AllByRecursion (λ s. P s.channel) (specs_from floors i cs)
unfolding specs_from
specs_all P floors i [] h = tt
specs_all P floors i (c ∷ cs) h = (h.0, specs_all P floors (i + 1) cs h.1)

pub specs_ordered : (floors : List FloorItem) (i : ℕ) (cs : List Channel) → EachPair IsBefore cs → EachPair (λ s t. IsBefore s.channel t.channel) (specs_from floors i cs)
unfolding specs_from
specs_ordered floors i [] h = tt
specs_ordered floors i (c ∷ cs) h = (specs_all (IsBefore c) floors (i + 1) cs h.0, specs_ordered floors (i + 1) cs h.1)

pub length_specs : (floors : List FloorItem) (i : ℕ) (cs : List Channel) → length (specs_from floors i cs) ≡ length cs
unfolding specs_from
length_specs floors i [] = refl
length_specs floors i (c ∷ cs) = let h : length (specs_from floors (i + 1) cs) ≡ length cs = length_specs floors (i + 1) cs in omega arith

pub spec_there : (floors : List FloorItem) (i : ℕ) (cs : List Channel) (k : ℕ) (c : Channel) → slice_get cs k ≡ Some c → (s : Spec) × (slice_get (specs_from floors i cs) k ≡ Some s) × (s.channel ≡ c)
unfolding specs_from
spec_there floors i [] k c h = absurd cc
spec_there floors i (x ∷ cs) zero c h = (record { channel = x; floors = floors_of floors i }, refl, same_Some x c h)
spec_there floors i (x ∷ cs) (suc k) c h = spec_there floors (i + 1) cs k c h

-- ---- floors

pub floor_low : (floors : List FloorItem) (spec colour : ℕ) → AllByRecursion (λ f. f.tenths ≤ 36000) floors → floor_of floors spec colour ≤ 36000
floor_low [] spec colour h = omega arith
floor_low (f ∷ fs) spec colour h =
    elim (cases_Bool (f.spec == spec && f.colour == colour)) [
      | inl t ↦ rw t h.0
      | inr n ↦ rw n (floor_low fs spec colour h.1)
    ]

pub no_floor : (floors : List FloorItem) (spec colour : ℕ) → AllByRecursion (λ f. f.spec ≢ spec) floors → floor_of floors spec colour ≡ 0
no_floor [] spec colour h = refl
no_floor (f ∷ fs) spec colour h =
    elim (cases_Bool (f.spec == spec && f.colour == colour)) [
      | inl t ↦ absurd (h.0 (eqb-true f.spec spec (and_parts (f.spec == spec) (f.colour == colour) t).0))
      | inr n ↦ rw n (no_floor fs spec colour h.1)
    ]

floors_each : (P : ℕ → Type 0) (floors : List FloorItem) (spec : ℕ) → P 0 → ((colour : ℕ) → P (floor_of floors spec colour)) → (c : ℕ) → P (slice_index (floors_of floors spec) c)
unfolding floors_of
floors_each P floors spec none some c =
    elim (cases_lt c 16) [
      | inl lt ↦ let k : 0 + c ≡ c = omega arith in subst P (sym (get_or-map-range_with_len (floor_of floors spec) 0 16 c c 0 lt k)) (some c)
      | inr le ↦ let e : length (map (floor_of floors spec) (range_with_len 0 16)) ≤ c = rw length-map-range_with_len le in subst P (sym (get_or_past (map (floor_of floors spec) (range_with_len 0 16)) c 0 e)) none
    ]

pub spec_is : (floors : List FloorItem) (spec : ℕ) (c : Channel) → AllByRecursion (λ f. f.tenths ≤ 36000) floors → (HasNoFloor c.kind → AllByRecursion (λ f. f.spec ≢ spec) floors) → IsSpec (record { channel = c; floors = floors_of floors spec })
spec_is floors spec c low none = record {
  low = floors_each (λ n. n ≤ 36000) floors spec (omega arith) (λ colour. floor_low floors spec colour low);
  none = λ bare. floors_each (λ n. n ≡ 0) floors spec refl (λ colour. no_floor floors spec colour (none bare));
}

pub specs_are : (floors : List FloorItem) (i : ℕ) (cs : List Channel) → AllByRecursion (λ f. f.tenths ≤ 36000) floors → ((k : ℕ) (c : Channel) → slice_get cs k ≡ Some c → HasNoFloor c.kind → AllByRecursion (λ f. f.spec ≢ i + k) floors)
    → AllByRecursion IsSpec (specs_from floors i cs)
unfolding specs_from
specs_are floors i [] low none = tt
specs_are floors i (c ∷ cs) low none = (
  spec_is floors i c low (λ bare. subst (λ (n : ℕ). AllByRecursion (λ f. f.spec ≢ n) floors) (let e : i + 0 ≡ i = omega arith in e) (none 0 c refl bare)),
  specs_are floors (i + 1) cs low (λ k d there bare. subst (λ (n : ℕ). AllByRecursion (λ f. f.spec ≢ n) floors) (let e : i + suc k ≡ i + 1 + k = omega arith in e) (none (suc k) d there bare)),
)

-- ---- named channels

pub there_before : (xs ys : List Channel) (k : ℕ) (c : Channel) → slice_get xs k ≡ Some c → slice_get (xs ++ ys) k ≡ Some c
there_before [] ys k c h = absurd cc
there_before (x ∷ xs) ys zero c h = h
there_before (x ∷ xs) ys (suc k) c h = there_before xs ys k c h

pub still_there : (l : Layout) (approaches : List Approach) (on : Bool) (k : ℕ) (c : Channel) → slice_get (signal_channels l) k ≡ Some c → slice_get (all_channels l approaches on) k ≡ Some c
unfolding all_channels
still_there l approaches on k c h =
    there_before (signal_channels l ++ numbered kinds.PedDetector 16 l.peds ++ numbered kinds.Detector 128 (flat_map detectors approaches)) (coordination_channel on) k c
    (there_before (signal_channels l ++ numbered kinds.PedDetector 16 l.peds) (numbered kinds.Detector 128 (flat_map detectors approaches)) k c
    (there_before (signal_channels l) (numbered kinds.PedDetector 16 l.peds) k c h))

timed_floor : (kind : Kind) → IsTimed kind → HasNoFloor kind → ⊥
timed_floor kinds.Phase t n = n
timed_floor kinds.Ped t n = n
timed_floor kinds.Overlap t n = n
timed_floor kinds.PreemptService t n = n
timed_floor kinds.Detector t n = t
timed_floor kinds.PedDetector t n = t
timed_floor kinds.PreemptInput t n = t
timed_floor kinds.Coordination t n = t

-- a channel without floors is not the one that a floor names
pub other_spec : (l : Layout) (approaches : List Approach) (on : Bool) (k : ℕ) (c : Channel) → slice_get (all_channels l approaches on) k ≡ Some c → HasNoFloor c.kind → (f : FloorItem) → IsFloorOf (signal_channels l) f → f.spec ≢ k
other_spec l approaches on k c there bare f is = λ same.
    let x = is.named in
    let at : slice_get (signal_channels l) k ≡ Some x.channel = rw (← same) x.there in
    let both : Some x.channel ≡ Some c = sym (still_there l approaches on k x.channel at) ∙ there in
    let one : x.channel ≡ c = same_Some x.channel c both in
    timed_floor is.kind x.timed (subst HasNoFloor (sym (ap (λ (d : Channel). d.kind) one) ∙ x.same) bare)
