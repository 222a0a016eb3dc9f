-- The tracked channels and their floors, as the code gathers them.
use Rattle.std.proofs.Common.{◌≡◌, ℕ, ◌+◌, ◌-◌, ◌<◌, ◌≤◌, Bool, true, false, cond, List, [], ◌∷◌, ◌++◌, length, get_or, drop, map, filter, refl, ap, sym, ◌∙◌, arith, append_assoc, append-nil, length-append, flat_map}
use Rattle.std.specs.List.{range_with_len}
use Rattle.std.proofs.lemmas.List.{drop_more, drop_all}
use Rattle.std.proofs.lemmas.List.FromFn.{filter_of_map_range_with_len_more, fill_by_all, length-map-range_with_len}
use Rattle.event_codes.specs.declared.channels.Kind.{Kind}
use Rattle.event_codes.specs.declared.channels.Kind.TheVariants as kinds
use Rattle.ring_config.specs.declared.items.Approach.{Approach}
use Rattle.event_codes.specs.declared.channels.Channel.{Channel}
use Rattle.channel_tables.specs.declared.spec.Spec.{Spec}
use Rattle.ring_config.specs.declared.items.FloorItem.{FloorItem}
use Rattle.sig_base.specs.Numbers.{has_number}
use Rattle.ring_config.specs.Settings.{Layout, numbered, signal_channels, all_channels, detectors, coordination_channel, floor_of, floors_of, specs_from}

pub numbered_none : (kind : Kind) (numbers : List ℕ) → numbered kind 0 numbers ≡ []
unfolding numbered
numbered_none kind numbers = refl

pub numbered_more : (kind : Kind) (n m : ℕ) (numbers : List ℕ) → 1 + n ≡ m → numbered kind (n + 1) numbers ≡ numbered kind n numbers ++ cond (has_number numbers m) (record { kind = kind; number = m } ∷ []) []
unfolding numbered
numbered_more kind n m numbers e = filter_of_map_range_with_len_more {X = Channel} (λ c. has_number numbers c.number) (λ i. record { kind = kind; number = i }) 1 n m e

-- one number more
pub pushed_more : (kind : Kind) (m k : ℕ) (numbers : List ℕ) (old now new : List Channel) → 1 ≤ m → k ≡ m + 1 - 1 → now ≡ old ++ numbered kind (m - 1) numbers → new ≡ now ++ cond (has_number numbers m) (record { kind = kind; number = m } ∷ []) []
    → new ≡ old ++ numbered kind k numbers
pushed_more kind m k numbers old now new le e a b =
    let s : k ≡ m - 1 + 1 = omega arith in
    let t : 1 + (m - 1) ≡ m = omega arith in
    let here : List Channel = cond (has_number numbers m) (record { kind = kind; number = m } ∷ []) [] in
    let p : (old ++ numbered kind (m - 1) numbers) ++ here ≡ old ++ (numbered kind (m - 1) numbers ++ here) = rw append_assoc refl in
    b ∙ ap (λ (xs : List Channel). xs ++ here) a ∙ p ∙ ap (λ (xs : List Channel). old ++ xs) (sym (numbered_more kind (m - 1) m numbers t)) ∙ ap (λ (j : ℕ). old ++ numbered kind j numbers) (sym s)

pub floors_filled : (floors : List FloorItem) (spec : ℕ) (tenths : List ℕ) → length tenths ≡ 16 → ((k : ℕ) → k < 16 → get_or tenths k 0 ≡ floor_of floors spec k) → tenths ≡ floors_of floors spec
unfolding floors_of
floors_filled floors spec tenths len all = fill_by_all (floor_of floors spec) tenths 16 0 len all

pub next_spec : (floors : List FloorItem) (i : ℕ) (channels : List Channel) (done new whole : List Spec) (f : List ℕ) (d : Channel) → i < length channels → f ≡ floors_of floors i → new ≡ done ++ record { channel = get_or channels i d; floors = f } ∷ []
    → done ++ specs_from floors i (drop i channels) ≡ whole → new ++ specs_from floors (i + 1) (drop (i + 1) channels) ≡ whole
unfolding specs_from
next_spec floors i channels done new whole f d lt e n left =
    let step : done ++ specs_from floors i (drop i channels) ≡ done ++ record { channel = get_or channels i d; floors = floors_of floors i } ∷ specs_from floors (i + 1) (drop (i + 1) channels) = rw (drop_more channels i d lt) refl in
    rw (n, e, append_assoc) (sym step ∙ left)

pub specs_over : (floors : List FloorItem) (i : ℕ) (channels : List Channel) (done whole : List Spec) → length channels ≤ i → done ++ specs_from floors i (drop i channels) ≡ whole → done ≡ whole
unfolding specs_from
specs_over floors i channels done whole le left =
    let none : specs_from floors i (drop i channels) ≡ [] = rw (drop_all i channels le) refl in
    let here : done ++ [] ≡ whole = ap (λ (xs : List Spec). done ++ xs) (sym none) ∙ left in
    rw append-nil at here

-- ---- few channels

kept : {X : Type 0} (b : Bool) (x : X) (xs ys : List X) → length ys ≤ length xs → length (cond b (x ∷ ys) ys) ≤ length (x ∷ xs)
kept true x xs ys le = omega arith
kept false x xs ys le = omega arith

pub length_filter : {X : Type 0} (p : X → Bool) (xs : List X) → length (filter p xs) ≤ length xs
length_filter p [] = omega arith
length_filter p (x ∷ xs) = kept (p x) x xs (filter p xs) (length_filter p xs)

few_numbered : (kind : Kind) (most : ℕ) (numbers : List ℕ) → length (numbered kind most numbers) ≤ most
unfolding numbered
few_numbered kind most numbers =
    let h : length (filter (λ (c : Channel). has_number numbers c.number) (map (λ n. record { kind = kind; number = n }) (range_with_len 1 most))) ≤ length (map (λ (n : ℕ). let c : Channel = record { kind = kind; number = n } in c) (range_with_len 1 most)) = length_filter (λ c. has_number numbers c.number) (map (λ n. record { kind = kind; number = n }) (range_with_len 1 most)) in
    rw length-map-range_with_len at h

pub few_signal_channels : (l : Layout) → length (signal_channels l) ≤ 80
unfolding signal_channels
few_signal_channels l =
    simp length-append (omega (arith, few_numbered kinds.Phase 16 (map (λ p. p.number) l.phases), few_numbered kinds.Ped 16 l.peds, few_numbered kinds.Overlap 16 (map (λ o. o.number) l.overlaps), few_numbered kinds.PreemptInput 16 l.preempts, few_numbered kinds.PreemptService 16 l.preempts))

few_coordination : (on : Bool) → length (coordination_channel on) ≤ 1
few_coordination true = omega arith
few_coordination false = omega arith

pub few_channels : (l : Layout) (approaches : List Approach) (on : Bool) → length (all_channels l approaches on) ≤ 225
unfolding all_channels
few_channels l approaches on =
    simp length-append (omega (arith, few_signal_channels l, few_numbered kinds.PedDetector 16 l.peds, few_numbered kinds.Detector 128 (flat_map detectors approaches), few_coordination on))
