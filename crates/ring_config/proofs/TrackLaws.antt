-- A channel is among the specs exactly where the configuration tracks it.
use Rattle.std.proofs.Common.{◌≡◌, ◌≢◌, inl, inr, ℕ, zero, suc, ◌+◌, ◌<◌, ◌≤◌, Bool, true, false, cond, ◌&&◌, ◌||◌, ◌==◌, nat_lt, List, [], ◌∷◌, ◌++◌, length, map, filter, flat_map, position, is_some, Option, Some, None, IfSome, refl, ap, sym, subst, ◌∙◌, arith}
use Rattle.std.specs.List.{AllByRecursion, list_any, range_with_len, position_or_len}
use Rattle.std.proofs.lemmas.Bool.{cases_Bool, and_parts, eqb-true, eq-eqb}
use Rattle.std.proofs.lemmas.Bool.Decides.{eqb_tells, nat_tests}
use Rattle.std.proofs.lemmas.List.Folds.{list_any-append}
use Rattle.sig_base.specs.declared.values.PhaseItem.{PhaseItem}
use Rattle.sig_base.specs.Numbers.{has_number, has_phase}
use Rattle.event_codes.specs.declared.channels.Kind.{Kind}
use Rattle.event_codes.specs.declared.channels.Kind.TheVariants as kinds
use Rattle.event_codes.specs.declared.channels.Channel.{Channel}
use Rattle.ring_config.specs.declared.items.FloorItem.{FloorItem}
use Rattle.ring_config.specs.declared.items.OverlapItem.{OverlapItem}
use Rattle.ring_config.specs.declared.items.Approach.{Approach}
use Rattle.ring_config.specs.Settings.{Settings, Layout, numbered, signal_channels, all_channels, coordination_channel, detectors, some_number, specs_from, kind_rank, is_same_channel, is_tracked, is_tracked_as, spec_place}
use Rattle.ring_config.specs.Sound.{IsBetween, IsConfigured, IsPhase, IsOverlap, IsApproach}
use Rattle.ring_config.proofs.ListLaws.{all_weaker, all_append}

-- ---- tests of lists

any_map : {A B : Type 0} (f : A → B) (p : B → Bool) (xs : List A) → list_any p (map f xs) ≡ list_any (λ x. p (f x)) xs
any_map f p [] = refl
any_map f p (x ∷ xs) = ap (λ (b : Bool). p (f x) || b) (any_map f p xs)

any_flat_map : {A B : Type 0} (f : A → List B) (p : B → Bool) (xs : List A) → list_any p (flat_map f xs) ≡ list_any (λ x. list_any p (f x)) xs
any_flat_map f p [] = refl
any_flat_map f p (x ∷ xs) = list_any-append p (f x) (flat_map f xs) ∙ ap (λ (b : Bool). list_any p (f x) || b) (any_flat_map f p xs)

pub or_true : (b : Bool) → (b || true) ≡ true
or_true true = refl
or_true false = refl

any_left : {X : Type 0} (p : X → Bool) (xs ys : List X) → list_any p xs ≡ true → list_any p (xs ++ ys) ≡ true
any_left p xs ys t = rw (list_any-append p xs ys, t) refl

any_right : {X : Type 0} (p : X → Bool) (xs ys : List X) → list_any p ys ≡ true → list_any p (xs ++ ys) ≡ true
any_right p xs ys t = rw (list_any-append p xs ys, t) (or_true (list_any p xs))

-- what holds of each, where a member passes
any_gives : {X : Type 0} (P : X → Type 0) (p : X → Bool) (xs : List X) → AllByRecursion P xs → list_any p xs ≡ true → (x : X) × P x × (p x ≡ true)
any_gives P p [] h e = absurd cc
any_gives P p (x ∷ xs) h e = elim (cases_Bool (p x)) [ inl t ↦ (x, h.0, t) | inr f ↦ any_gives P p xs h.1 (rw f at e) ]

place_less : (k n : ℕ) (b : Bool) → nat_lt k n ≡ b → nat_lt (1 + k) (suc n) ≡ b
place_less k n b e = (let same : nat_lt (1 + k) (suc n) ≡ nat_lt k n = grind (arith, nat_tests) in same) ∙ e

place_any : {X : Type 0} (p : X → Bool) (xs : List X) → nat_lt (position_or_len p xs) (length xs) ≡ list_any p xs
place_any p [] = refl
place_any p (x ∷ xs) =
    elim (cases_Bool (p x)) [
      | inl t ↦ rw t (grind (arith, nat_tests))
      | inr f ↦ rw f (place_less (position_or_len p xs) (length xs) (list_any p xs) (place_any p xs))
    ]

some_place : (b : Bool) (n : ℕ) → is_some (cond b (Some n) None) ≡ b
some_place true n = refl
some_place false n = refl

is_some_position : {X : Type 0} (p : X → Bool) (xs : List X) → is_some (position p xs) ≡ list_any p xs
is_some_position p xs = some_place (nat_lt (position_or_len p xs) (length xs)) (position_or_len p xs) ∙ place_any p xs

-- ---- each channel is tracked

abbrev Counts : Kind → List ℕ → Channel → Type 0
Counts kind numbers c = (c.kind ≡ kind) × (has_number numbers c.number ≡ true)

abbrev counted : Kind → ℕ → ℕ → List Channel
counted kind a n = map (λ k. record { kind = kind; number = k }) (range_with_len a n)

keeps : (kind : Kind) (numbers : List ℕ) (b : Bool) (n : ℕ) (cs : List Channel) → has_number numbers n ≡ b → AllByRecursion (Counts kind numbers) cs → AllByRecursion (Counts kind numbers) (cond b (record { kind = kind; number = n } ∷ cs) cs)
keeps kind numbers true n cs e h = ((refl, e), h)
keeps kind numbers false n cs e h = h

counted_are : (kind : Kind) (numbers : List ℕ) (a n : ℕ) → AllByRecursion (Counts kind numbers) (filter (λ c. has_number numbers c.number) (counted kind a n))
counted_are kind numbers a zero = tt
counted_are kind numbers a (suc n) = keeps kind numbers (has_number numbers a) a (filter (λ c. has_number numbers c.number) (counted kind (a + 1) n)) refl (counted_are kind numbers (a + 1) n)

module _ (s : Settings) where
  abbrev Tracked : Channel → Type 0
  Tracked c = is_tracked s c ≡ true

  group_tracked : (kind : Kind) (most : ℕ) (numbers : List ℕ) → ((n : ℕ) → has_number numbers n ≡ true → is_tracked_as s kind n ≡ true) → AllByRecursion Tracked (numbered kind most numbers)
  unfolding numbered
  group_tracked kind most numbers f =
      all_weaker (Counts kind numbers) Tracked (λ c h. subst (λ (k : Kind). is_tracked_as s k c.number ≡ true) (sym h.0) (f c.number h.1)) (filter (λ c. has_number numbers c.number) (counted kind 1 most)) (counted_are kind numbers 1 most)

-- ---- each tracked channel is there

same_is : (kind : Kind) (n : ℕ) → is_same_channel (record { kind = kind; number = n }) (record { kind = kind; number = n }) ≡ true
same_is kind n = rw (eq-eqb (kind_rank kind) (kind_rank kind) refl, eq-eqb n n refl) refl

abbrev Finds : Kind → ℕ → List Channel → Type 0
Finds kind n cs = list_any (λ c. is_same_channel c (record { kind = kind; number = n })) cs ≡ true

found_later : (kind : Kind) (n : ℕ) (b : Bool) (c : Channel) (cs : List Channel) → Finds kind n cs → Finds kind n (cond b (c ∷ cs) cs)
found_later kind n true c cs h = rw h (or_true (is_same_channel c (record { kind = kind; number = n })))
found_later kind n false c cs h = h

found_in : (kind : Kind) (numbers : List ℕ) (n a count : ℕ) → has_number numbers n ≡ true → a ≤ n → n < a + count → Finds kind n (filter (λ c. has_number numbers c.number) (counted kind a count))
found_in kind numbers n a zero h le lt = absurd (omega arith)
found_in kind numbers n a (suc count) h le lt =
    elim (eqb_tells a n) [
      | inl t ↦
          let here : has_number numbers a ≡ true = rw t.1 h in
          let same : is_same_channel (record { kind = kind; number = a }) (record { kind = kind; number = n }) ≡ true = rw (← t.1) (same_is kind a) in
          rw (here, same) refl
      | inr t ↦
          let unlike : a ≢ n = t.1 in
          let more : a + 1 ≤ n = omega arith in
          let below : n < a + 1 + count = omega arith in
          found_later kind n (has_number numbers a) (record { kind = kind; number = a }) (filter (λ c. has_number numbers c.number) (counted kind (a + 1) count)) (found_in kind numbers n (a + 1) count h more below)
    ]

found_numbered : (kind : Kind) (most : ℕ) (numbers : List ℕ) (n : ℕ) → has_number numbers n ≡ true → IsBetween 1 most n → Finds kind n (numbered kind most numbers)
unfolding numbered
found_numbered kind most numbers n h b = let lt : n < 1 + most = (let le : n ≤ most = b.1 in omega arith) in found_in kind numbers n 1 most h b.0 lt

-- ---- over all groups

-- what is known of the parts that the channels are made of
pub record AreNumbered (l : Layout) (approaches : List Approach) : Type 0 where
  pub phases : AllByRecursion IsPhase l.phases
  pub peds : AllByRecursion (IsConfigured l.phases) l.peds
  pub overlaps : AllByRecursion (IsOverlap l.phases) l.overlaps
  pub preempts : AllByRecursion (IsBetween 1 16) l.preempts
  pub approaches_are : AllByRecursion (IsApproach l.phases) approaches

phase_between : (phases : List PhaseItem) (n : ℕ) → AllByRecursion IsPhase phases → has_phase phases n ≡ true → IsBetween 1 16 n
phase_between phases n h e = let x = any_gives IsPhase (λ p. p.number == n) phases h e in subst (IsBetween 1 16) (eqb-true x.0.number n x.2) x.1.number

number_between : (P : ℕ → Type 0) (numbers : List ℕ) (n : ℕ) → AllByRecursion P numbers → has_number numbers n ≡ true → P n
number_between P numbers n h e = let x = any_gives P (λ m. m == n) numbers h e in subst P (eqb-true x.0 n x.2) x.1

overlap_between : (phases : List PhaseItem) (overlaps : List OverlapItem) (n : ℕ) → AllByRecursion (IsOverlap phases) overlaps → list_any (λ o. o.number == n) overlaps ≡ true → IsBetween 1 16 n
overlap_between phases overlaps n h e = let x = any_gives (IsOverlap phases) (λ o. o.number == n) overlaps h e in subst (IsBetween 1 16) (eqb-true x.0.number n x.2) x.1.number

some_between : (o : Option ℕ) → IfSome o (IsBetween 1 128) → AllByRecursion (IsBetween 1 128) (some_number o)
some_between None h = tt
some_between (Some n) h = (h, tt)

detector_between : (phases : List PhaseItem) (approaches : List Approach) (n : ℕ) → AllByRecursion (IsApproach phases) approaches → list_any (λ a. has_number (detectors a) n) approaches ≡ true → IsBetween 1 128 n
detector_between phases approaches n h e =
    let x = any_gives (IsApproach phases) (λ a. has_number (detectors a) n) approaches h e in
    number_between (IsBetween 1 128) (detectors x.0) n (all_append (IsBetween 1 128) (some_number x.0.advance) (some_number x.0.stop_bar) (some_between x.0.advance x.1.advance) (some_between x.0.stop_bar x.1.stop_bar)) x.2

module _ (l : Layout) (approaches : List Approach) (on : Bool) (are : AreNumbered l approaches) where
  -- one of the groups of channels, with what comes before and after it
  in_signal : (kind : Kind) (n : ℕ) → Finds kind n (signal_channels l) → Finds kind n (all_channels l approaches on)
  unfolding all_channels
  in_signal kind n h =
      any_left _ (signal_channels l ++ numbered kinds.PedDetector 16 l.peds ++ numbered kinds.Detector 128 (flat_map detectors approaches)) (coordination_channel on)
      (any_left _ (signal_channels l ++ numbered kinds.PedDetector 16 l.peds) (numbered kinds.Detector 128 (flat_map detectors approaches))
      (any_left _ (signal_channels l) (numbered kinds.PedDetector 16 l.peds) h))

  phase_found : (n : ℕ) → has_phase l.phases n ≡ true → Finds kinds.Phase n (signal_channels l)
  unfolding signal_channels
  phase_found n h =
      let a = numbered kinds.Phase 16 (map (λ p. p.number) l.phases) in
      let b = numbered kinds.Ped 16 l.peds in
      let c = numbered kinds.Overlap 16 (map (λ o. o.number) l.overlaps) in
      let d = numbered kinds.PreemptInput 16 l.preempts in
      any_left _ (a ++ b ++ c ++ d) (numbered kinds.PreemptService 16 l.preempts) (any_left _ (a ++ b ++ c) d (any_left _ (a ++ b) c (any_left _ a b
      (found_numbered kinds.Phase 16 (map (λ p. p.number) l.phases) n (any_map (λ (p : PhaseItem). p.number) (λ m. m == n) l.phases ∙ h) (phase_between l.phases n are.phases h)))))

  ped_between : (n : ℕ) → has_number l.peds n ≡ true → IsBetween 1 16 n
  ped_between n h = phase_between l.phases n are.phases (number_between (IsConfigured l.phases) l.peds n are.peds h)

  ped_found : (n : ℕ) → has_number l.peds n ≡ true → Finds kinds.Ped n (signal_channels l)
  unfolding signal_channels
  ped_found n h =
      let a = numbered kinds.Phase 16 (map (λ p. p.number) l.phases) in
      let b = numbered kinds.Ped 16 l.peds in
      let c = numbered kinds.Overlap 16 (map (λ o. o.number) l.overlaps) in
      let d = numbered kinds.PreemptInput 16 l.preempts in
      any_left _ (a ++ b ++ c ++ d) (numbered kinds.PreemptService 16 l.preempts) (any_left _ (a ++ b ++ c) d (any_left _ (a ++ b) c (any_right _ a b
      (found_numbered kinds.Ped 16 l.peds n h (ped_between n h)))))

  overlap_found : (n : ℕ) → list_any (λ o. o.number == n) l.overlaps ≡ true → Finds kinds.Overlap n (signal_channels l)
  unfolding signal_channels
  overlap_found n h =
      let a = numbered kinds.Phase 16 (map (λ p. p.number) l.phases) in
      let b = numbered kinds.Ped 16 l.peds in
      let c = numbered kinds.Overlap 16 (map (λ o. o.number) l.overlaps) in
      let d = numbered kinds.PreemptInput 16 l.preempts in
      any_left _ (a ++ b ++ c ++ d) (numbered kinds.PreemptService 16 l.preempts) (any_left _ (a ++ b ++ c) d (any_right _ (a ++ b) c
      (found_numbered kinds.Overlap 16 (map (λ o. o.number) l.overlaps) n (any_map (λ (o : OverlapItem). o.number) (λ m. m == n) l.overlaps ∙ h) (overlap_between l.phases l.overlaps n are.overlaps h))))

  input_found : (n : ℕ) → has_number l.preempts n ≡ true → Finds kinds.PreemptInput n (signal_channels l)
  unfolding signal_channels
  input_found n h =
      let a = numbered kinds.Phase 16 (map (λ p. p.number) l.phases) in
      let b = numbered kinds.Ped 16 l.peds in
      let c = numbered kinds.Overlap 16 (map (λ o. o.number) l.overlaps) in
      let d = numbered kinds.PreemptInput 16 l.preempts in
      any_left _ (a ++ b ++ c ++ d) (numbered kinds.PreemptService 16 l.preempts) (any_right _ (a ++ b ++ c) d
      (found_numbered kinds.PreemptInput 16 l.preempts n h (number_between (IsBetween 1 16) l.preempts n are.preempts h)))

  service_found : (n : ℕ) → has_number l.preempts n ≡ true → Finds kinds.PreemptService n (signal_channels l)
  unfolding signal_channels
  service_found n h =
      let a = numbered kinds.Phase 16 (map (λ p. p.number) l.phases) in
      let b = numbered kinds.Ped 16 l.peds in
      let c = numbered kinds.Overlap 16 (map (λ o. o.number) l.overlaps) in
      let d = numbered kinds.PreemptInput 16 l.preempts in
      any_right _ (a ++ b ++ c ++ d) (numbered kinds.PreemptService 16 l.preempts)
      (found_numbered kinds.PreemptService 16 l.preempts n h (number_between (IsBetween 1 16) l.preempts n are.preempts h))

  input_ped_found : (n : ℕ) → has_number l.peds n ≡ true → Finds kinds.PedDetector n (all_channels l approaches on)
  unfolding all_channels
  input_ped_found n h =
      any_left _ (signal_channels l ++ numbered kinds.PedDetector 16 l.peds ++ numbered kinds.Detector 128 (flat_map detectors approaches)) (coordination_channel on)
      (any_left _ (signal_channels l ++ numbered kinds.PedDetector 16 l.peds) (numbered kinds.Detector 128 (flat_map detectors approaches))
      (any_right _ (signal_channels l) (numbered kinds.PedDetector 16 l.peds) (found_numbered kinds.PedDetector 16 l.peds n h (ped_between n h))))

  detector_found : (n : ℕ) → list_any (λ a. has_number (detectors a) n) approaches ≡ true → Finds kinds.Detector n (all_channels l approaches on)
  unfolding all_channels
  detector_found n h =
      any_left _ (signal_channels l ++ numbered kinds.PedDetector 16 l.peds ++ numbered kinds.Detector 128 (flat_map detectors approaches)) (coordination_channel on)
      (any_right _ (signal_channels l ++ numbered kinds.PedDetector 16 l.peds) (numbered kinds.Detector 128 (flat_map detectors approaches))
      (found_numbered kinds.Detector 128 (flat_map detectors approaches) n (any_flat_map detectors (λ m. m == n) approaches ∙ h) (detector_between l.phases approaches n are.approaches_are h)))

coordination_in : (on : Bool) (n : ℕ) → (on && n == 0) ≡ true → Finds kinds.Coordination n (coordination_channel on)
coordination_in on n h =
    let p = and_parts on (n == 0) h in
    let z : n ≡ 0 = eqb-true n 0 p.1 in
    rw (p.0, z) refl

coordination_found : (l : Layout) (approaches : List Approach) (on : Bool) (n : ℕ) → (on && n == 0) ≡ true → Finds kinds.Coordination n (all_channels l approaches on)
unfolding all_channels
coordination_found l approaches on n h = any_right _ (signal_channels l ++ numbered kinds.PedDetector 16 l.peds ++ numbered kinds.Detector 128 (flat_map detectors approaches)) (coordination_channel on) (coordination_in on n h)

-- ---- the law

module _ (s : Settings) (l : Layout) (are : AreNumbered l s.approaches) (phases : s.phases ≡ l.phases) (peds : s.peds ≡ l.peds) (overlaps : s.overlaps ≡ l.overlaps) (preempts : s.preempts ≡ l.preempts) where
  every_found : (kind : Kind) (n : ℕ) → is_tracked_as s kind n ≡ true → Finds kind n (all_channels l s.approaches s.coordination)
  every_found kinds.Phase n h = in_signal l s.approaches s.coordination are kinds.Phase n (phase_found l s.approaches s.coordination are n (rw phases at h))
  every_found kinds.Ped n h = in_signal l s.approaches s.coordination are kinds.Ped n (ped_found l s.approaches s.coordination are n (rw peds at h))
  every_found kinds.Overlap n h = in_signal l s.approaches s.coordination are kinds.Overlap n (overlap_found l s.approaches s.coordination are n (rw overlaps at h))
  every_found kinds.PreemptInput n h = in_signal l s.approaches s.coordination are kinds.PreemptInput n (input_found l s.approaches s.coordination are n (rw preempts at h))
  every_found kinds.PreemptService n h = in_signal l s.approaches s.coordination are kinds.PreemptService n (service_found l s.approaches s.coordination are n (rw preempts at h))
  every_found kinds.PedDetector n h = input_ped_found l s.approaches s.coordination are n (rw peds at h)
  every_found kinds.Detector n h = detector_found l s.approaches s.coordination are n h
  every_found kinds.Coordination n h = coordination_found l s.approaches s.coordination n h

  coordination_tracked : (on : Bool) → s.coordination ≡ on → AllByRecursion (Tracked s) (coordination_channel on)
  coordination_tracked true e = (rw e refl, tt)
  coordination_tracked false e = tt

  signal_tracked : AllByRecursion (Tracked s) (signal_channels l)
  unfolding signal_channels
  signal_tracked =
      let a = numbered kinds.Phase 16 (map (λ p. p.number) l.phases) in
      let b = numbered kinds.Ped 16 l.peds in
      let c = numbered kinds.Overlap 16 (map (λ o. o.number) l.overlaps) in
      let d = numbered kinds.PreemptInput 16 l.preempts in
      let e = numbered kinds.PreemptService 16 l.preempts in
      all_append (Tracked s) (a ++ b ++ c ++ d) e (all_append (Tracked s) (a ++ b ++ c) d (all_append (Tracked s) (a ++ b) c (all_append (Tracked s) a b
      (group_tracked s kinds.Phase 16 (map (λ p. p.number) l.phases) (λ n h. rw phases (sym (any_map (λ (p : PhaseItem). p.number) (λ m. m == n) l.phases) ∙ h)))
      (group_tracked s kinds.Ped 16 l.peds (λ n h. rw peds h)))
      (group_tracked s kinds.Overlap 16 (map (λ o. o.number) l.overlaps) (λ n h. rw overlaps (sym (any_map (λ (o : OverlapItem). o.number) (λ m. m == n) l.overlaps) ∙ h))))
      (group_tracked s kinds.PreemptInput 16 l.preempts (λ n h. rw preempts h)))
      (group_tracked s kinds.PreemptService 16 l.preempts (λ n h. rw preempts h))

  all_tracked : AllByRecursion (Tracked s) (all_channels l s.approaches s.coordination)
  unfolding all_channels
  all_tracked =
      let a = signal_channels l in
      let b = numbered kinds.PedDetector 16 l.peds in
      let c = numbered kinds.Detector 128 (flat_map detectors s.approaches) in
      all_append (Tracked s) (a ++ b ++ c) (coordination_channel s.coordination) (all_append (Tracked s) (a ++ b) c (all_append (Tracked s) a b signal_tracked
      (group_tracked s kinds.PedDetector 16 l.peds (λ n h. rw peds h)))
      (group_tracked s kinds.Detector 128 (flat_map detectors s.approaches) (λ n h. sym (any_flat_map detectors (λ m. m == n) s.approaches) ∙ h)))
      (coordination_tracked s.coordination refl)

kind_of : ℕ → Kind
kind_of n = cond (n == 0) kinds.Phase (cond (n == 1) kinds.Ped (cond (n == 2) kinds.Overlap (cond (n == 3) kinds.Detector (cond (n == 4) kinds.PedDetector (cond (n == 5) kinds.PreemptInput (cond (n == 6) kinds.PreemptService kinds.Coordination))))))

ranked : (a : Kind) → kind_of (kind_rank a) ≡ a
unfolding kind_of
ranked kinds.Phase = refl
ranked kinds.Ped = refl
ranked kinds.Overlap = refl
ranked kinds.PreemptInput = refl
ranked kinds.PreemptService = refl
ranked kinds.PedDetector = refl
ranked kinds.Detector = refl
ranked kinds.Coordination = refl

pub same_kind : (a b : Kind) → (kind_rank a == kind_rank b) ≡ true → a ≡ b
same_kind a b e = sym (ranked a) ∙ ap kind_of (eqb-true (kind_rank a) (kind_rank b) e) ∙ ranked b

pub same_both : (a b : Bool) → (a ≡ true → b ≡ true) → (b ≡ true → a ≡ true) → a ≡ b
same_both true true f g = refl
same_both true false f g = sym (f refl)
same_both false true f g = g refl
same_both false false f g = refl

specs_any : (p : Channel → Bool) (floors : List FloorItem) (i : ℕ) (cs : List Channel) → list_any (λ x. p x.channel) (specs_from floors i cs) ≡ list_any p cs
unfolding specs_from
specs_any p floors i [] = refl
specs_any p floors i (c ∷ cs) = ap (λ (b : Bool). p c || b) (specs_any p floors (i + 1) cs)

moved : (s : Settings) (k l : Kind) (m n : ℕ) → k ≡ l → m ≡ n → is_tracked_as s k m ≡ true → is_tracked_as s l n ≡ true
moved s k l m n e f t = subst (λ (j : Kind). is_tracked_as s j n ≡ true) e (subst (λ (i : ℕ). is_tracked_as s k i ≡ true) f t)

pub tracked_is : (s : Settings) (l : Layout) (floors : List FloorItem) → AreNumbered l s.approaches → s.phases ≡ l.phases → s.peds ≡ l.peds → s.overlaps ≡ l.overlaps → s.preempts ≡ l.preempts → (c : Channel)
    → is_some (spec_place (specs_from floors 0 (all_channels l s.approaches s.coordination)) c) ≡ is_tracked s c
tracked_is s l floors are phases peds overlaps preempts c =
    is_some_position (λ x. is_same_channel x.channel c) (specs_from floors 0 (all_channels l s.approaches s.coordination))
    ∙ specs_any (λ x. is_same_channel x c) floors 0 (all_channels l s.approaches s.coordination)
    ∙ same_both (list_any (λ x. is_same_channel x c) (all_channels l s.approaches s.coordination)) (is_tracked s c)
    (λ t. let x = any_gives (Tracked s) (λ x. is_same_channel x c) (all_channels l s.approaches s.coordination) (all_tracked s l are phases peds overlaps preempts) t in
    let p = and_parts (kind_rank x.0.kind == kind_rank c.kind) (x.0.number == c.number) x.2 in
    let kind : x.0.kind ≡ c.kind = same_kind x.0.kind c.kind p.0 in
    let number : x.0.number ≡ c.number = eqb-true x.0.number c.number p.1 in
    moved s x.0.kind c.kind x.0.number c.number kind number x.1)
    (every_found s l are phases peds overlaps preempts c.kind c.number)
