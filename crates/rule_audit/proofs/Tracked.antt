-- The channels of a configuration may be followed together.
use Rattle.std.proofs.Common.{suc, zero, ◌≡◌, refl, sym, ◌∙◌, subst, inl, inr, ℕ, ◌<◌, ◌≤◌, Bool, true, false, ◌==◌, List, [], ◌∷◌, ◌++◌, length, get_or, Option, Some, None, IfSome, is_some, arith}
use Rattle.std.specs.List.{All, list_any, position, position_or_len}
use Rattle.std.proofs.lemmas.Bool.{cases_Bool, cases_lt, and_parts, eqb-true, eq-eqb}
use Rattle.std.proofs.lemmas.List.Elements.{All-head, All-tail}
use Rattle.event_codes.specs.declared.channels.Channel.{Channel}
use Rattle.event_codes.specs.declared.channels.Kind.{Kind}
use Rattle.event_codes.specs.declared.channels.Kind.TheVariants.{Phase, Ped, Overlap, Detector, PedDetector, PreemptInput, PreemptService, Coordination}
use Rattle.sig_base.specs.declared.values.PhaseItem.{PhaseItem}
use Rattle.sig_base.specs.Numbers.{has_number, has_phase}
use Rattle.channel_tables.specs.declared.spec.Spec.{Spec}
use Rattle.channel_tables.specs.Letters.{IsNumber}
use Rattle.gap_map.proofs.Cutting.{nat_cases}
use Rattle.ring_config.specs.declared.items.Approach.{Approach}
use Rattle.ring_config.specs.declared.items.OverlapItem.{OverlapItem}
use Rattle.ring_config.specs.Settings.{Settings, detectors, is_same_channel, is_tracked, kind_rank, some_number, spec_place}
use Rattle.ring_config.specs.Sound.{IsApproach, IsBefore, IsBetween, IsConfigured, IsOverlap, IsPhase, IsSound}
use Rattle.board.specs.Channels.{AreSpecs}
use Rattle.rule_audit.proofs.Lists.{among}

-- what each that passes a test shows
any_shows : {X : Type 0} (Q : X → Type 0) (R : Type 0) (p : X → Bool) (xs : List X) → All Q xs → list_any p xs ≡ true → ((x : X) → Q x → p x ≡ true → R) → R
any_shows Q R p [] a e h = absurd (let bad : false ≡ true = e in cc)
any_shows Q R p (x ∷ xs) a e h = elim (cases_Bool (p x)) [
  | inl is ↦ h x (All-head Q x xs a) is
  | inr other ↦ any_shows Q R p xs (All-tail Q x xs a) (rw other at e) h
]

-- one that passes has a place
module _ {X : Type 0} (p : X → Bool) where
  place_early : (xs : List X) (i : ℕ) (d : X) → i < length xs → p (get_or xs i d) ≡ true → position_or_len p xs ≤ i
  place_early [] i d lt e = absurd (omega arith)
  place_early (x ∷ xs) zero d lt e = rw e (omega arith)
  place_early (x ∷ xs) (suc i) d lt e = elim (cases_Bool (p x)) [
    | inl is ↦ rw is (omega arith)
    | inr other ↦ rw other (let k = place_early xs i d (omega arith) e in omega arith)
  ]

  pub place_there : (xs : List X) (i : ℕ) (d : X) → i < length xs → p (get_or xs i d) ≡ true → is_some (position p xs) ≡ true
  place_there xs i d lt e = elim (nat_cases (position_or_len p xs) (length xs)) [
    | inl (is, _) ↦ rw is refl
    | inr (_, le) ↦ absurd (let k = place_early xs i d lt e in omega arith)
  ]

pub same_self : (ch : Channel) → is_same_channel ch ch ≡ true
same_self ch = rw (eq-eqb (kind_rank ch.kind) (kind_rank ch.kind) refl, eq-eqb ch.number ch.number refl) refl

not_before_self : (a : Channel) → IsBefore a a → ⊥
not_before_self a h = elim h [ inl lt ↦ absurd (omega arith) | inr (e, lt) ↦ absurd (omega arith) ]

some_there : (o : Option ℕ) (n : ℕ) (xs : List ℕ) → IfSome o (IsBetween 1 128) → has_number (some_number o ++ xs) n ≡ true → (has_number xs n ≡ true → IsBetween 1 128 n) → IsBetween 1 128 n
some_there None n xs a e h = h e
some_there (Some m) n xs a e h = elim (cases_Bool (m == n)) [
  | inl is ↦ subst (λ (k : ℕ). IsBetween 1 128 k) (eqb-true m n is) a
  | inr other ↦ h (rw other at e)
]

last_there : (o : Option ℕ) (n : ℕ) → IfSome o (IsBetween 1 128) → has_number (some_number o) n ≡ true → IsBetween 1 128 n
last_there None n a e = absurd (let bad : false ≡ true = e in cc)
last_there (Some m) n a e = elim (cases_Bool (m == n)) [
  | inl is ↦ subst (λ (k : ℕ). IsBetween 1 128 k) (eqb-true m n is) a
  | inr other ↦ absurd (let bad : false ≡ true = rw other at e in cc)
]

module _ (c : Settings) (sound : IsSound c) where
  phase_number : (n : ℕ) → has_phase c.phases n ≡ true → IsBetween 1 16 n
  phase_number n e = any_shows IsPhase (IsBetween 1 16 n) (λ (p : PhaseItem). p.number == n) c.phases sound.phases e (λ p is same. subst (λ (k : ℕ). IsBetween 1 16 k) (eqb-true p.number n same) is.number)

  ped_number : (n : ℕ) → has_number c.peds n ≡ true → IsBetween 1 16 n
  ped_number n e = phase_number n (among (IsConfigured c.phases) n c.peds sound.peds e)

  overlap_number : (n : ℕ) → list_any (λ o. o.number == n) c.overlaps ≡ true → IsBetween 1 16 n
  overlap_number n e = any_shows (IsOverlap c.phases) (IsBetween 1 16 n) (λ (o : OverlapItem). o.number == n) c.overlaps sound.overlaps e (λ o is same. subst (λ (k : ℕ). IsBetween 1 16 k) (eqb-true o.number n same) is.number)

  detector_number : (n : ℕ) → list_any (λ a. has_number (detectors a) n) c.approaches ≡ true → IsBetween 1 128 n
  detector_number n e = any_shows (IsApproach c.phases) (IsBetween 1 128 n) (λ (a : Approach). has_number (detectors a) n) c.approaches sound.approaches e (λ a is has. some_there a.advance n (some_number a.stop_bar) is.advance has (last_there a.stop_bar n is.stop_bar))

  number_by : (kind : Kind) (n : ℕ) → is_tracked c (record { kind = kind; number = n }) ≡ true → IsNumber kind n
  number_by Phase n e = phase_number n e
  number_by Ped n e = ped_number n e
  number_by Overlap n e = overlap_number n e
  number_by PreemptInput n e = among (IsBetween 1 16) n c.preempts sound.preempts e
  number_by PreemptService n e = among (IsBetween 1 16) n c.preempts sound.preempts e
  number_by PedDetector n e = ped_number n e
  number_by Detector n e = detector_number n e
  number_by Coordination n e = eqb-true n 0 (and_parts c.coordination (n == 0) e).1

  pub channels_are : AreSpecs c.specs
  channels_are = record {
    fit = λ i d lt. sound.specs i d lt;
    numbered = λ i d lt.
        let ch = (get_or c.specs i d).channel in
        let there : is_some (spec_place c.specs ch) ≡ true = place_there (λ (s : Spec). is_same_channel s.channel ch) c.specs i d lt (same_self ch) in
        number_by ch.kind ch.number (sym (sound.tracked ch) ∙ there);
    distinct = λ i j d li lj ne e. elim (cases_lt i j) [
      | inl lt ↦ not_before_self (get_or c.specs i d).channel (subst (λ (ch : Channel). IsBefore (get_or c.specs i d).channel ch) (sym e) (sound.ordered i j d lt lj))
      | inr ge ↦ let lt : j < i = omega arith in not_before_self (get_or c.specs i d).channel (subst (λ (ch : Channel). IsBefore ch (get_or c.specs i d).channel) (sym e) (sound.ordered j i d lt li))
    ];
  }
