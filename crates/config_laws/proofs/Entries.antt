-- What the entries of the tables of numbers and pairs say.
use Rattle.std.proofs.Common.{◌≡◌, ◌≢◌, ◌↔◌, inl, inr, ◌<◌, ◌≤◌, ℕ, pos, suc, ◌+◌, ◌-◌, Bool, true, false, not, ◌&&◌, ◌||◌, ◌==◌, nat_le, List, [], ◌∷◌, ◌++◌, length, map, Some, Ok, All, AllPairs, Contains, option_and_then, refl, sym, ap, subst, ◌∙◌, append_assoc, arith}
use Rattle.std.specs.Bool.{Decides}
use Rattle.std.specs.Int.{bit_at}
use Rattle.std.specs.List.{AllByRecursion, list_any}
use Rattle.std.proofs.lemmas.Bool.{cases_Bool, and_parts, or_parts, eqb-true, eq-eqb, le-leb, leb-true}
use Rattle.std.proofs.lemmas.Bool.Decides.{Decides-eqb, eqb_tells}
use Rattle.std.proofs.lemmas.List.{append-nil}
use Rattle.std.proofs.lemmas.List.Folds.{Any-from_list_any, list_any-from_Any, list_any_none}
use Rattle.std.proofs.lemmas.Nat.Bits.{bit_at-lt, same_from_bits}
use Rattle.toml.specs.Data.{Data, integer, array, Items, no_items, item, as_array}
use Rattle.colour_machine.specs.Mask.{Has}
use Rattle.sig_base.specs.declared.values.PhaseItem.{PhaseItem}
use Rattle.sig_base.specs.Numbers.{has_number, has_phase}
use Rattle.sig_base.proofs.Common.{not_true, or_cases}
use Rattle.ring_config.specs.declared.error.KeyName.{KeyName}
use Rattle.ring_config.specs.declared.error.KeyName.TheVariants as keys
use Rattle.ring_config.specs.declared.items.Pair.{Pair}
use Rattle.ring_config.specs.declared.items.OverlapItem.{OverlapItem}
use Rattle.ring_config.specs.Reading.{◌>>=◌, EntryData, key_text, required}
use Rattle.ring_config.specs.Values as values
use Rattle.ring_config.specs.Values.{whole, passing, configured, next_phase, phases_from, few_parents, mask_of, is_pair, has_pair, partner}
use Rattle.ring_config.specs.Parents.{ArePositive, IsMaskOf}
use Rattle.ring_config.specs.Walk.{NoneRepeats}
use Rattle.ring_config.specs.Tables.{phase_values, phase_rules, ped_rules, overlap_values, overlap_rules, preempt_rules, pair_values, conflict_rules, allow_rules}
use Rattle.ring_config.proofs.DoLaws.{ok_is, bound, required_value, passing_is, and_then_is, map_is}
use Rattle.ring_config.proofs.ListLaws.{all_at, none_push, pairs_at, pairs_weaker}
use Rattle.ring_config.proofs.ParentLaws.{bit_of, bit_of_phase}
use Rattle.config_laws.specs.Keys.{HasOnly, AreNumbers}
use Rattle.config_laws.specs.Walk.{IsGood}
use Rattle.config_laws.specs.Entries.{IsPhaseEntry, IsConfigured, HasPhase, IsPedEntry, HasParents, IsOverlapEntry, IsPreemptEntry, IsSamePair, IsConflictEntry, IsAllowEntry}
use Rattle.config_laws.proofs.Keys.{number_is, number_gives, required_gives, whole_is, whole_gives, array_from}
use Rattle.config_laws.proofs.Lists.{by_recursion, any_weaker, none_before_it, pairs_by_recursion, pairs_weaker_at}

-- ---- tests and what they decide

pub fails : {P : Type 0} (b : Bool) → Decides b P → b ≡ false → ¬ P
fails b d f p = let t = d.1 p in absurd cc

pub refutes : {P : Type 0} (b : Bool) → Decides b P → ¬ P → b ≡ false
refutes b d none =
    elim (cases_Bool b) [ inl t ↦ absurd (none (d.0 t)) | inr f ↦ f ]

pub none_of : {X : Type 0} (p : X → Bool) (xs : List X) → list_any p xs ≡ false → AllByRecursion (λ x. p x ≡ false) xs
none_of p [] h = tt
none_of p (x ∷ xs) h = let b = or_parts (p x) (list_any p xs) h in (b.0, none_of p xs b.1)

-- ---- phases

pub phase_good : (e : EntryData) (p : PhaseItem) → IsPhaseEntry e.members p → IsGood phase_rules e p
unfolding phase_values
phase_good e p h = record {
  only = h.only;
  values = rw (number_gives 1 16 keys.Number e p.number h.number, number_gives 1 4 keys.Ring e p.ring h.ring, number_gives 1 4 keys.Side e p.side h.side) refl;
}

pub phase_said : (e : EntryData) (p : PhaseItem) → IsGood phase_rules e p → IsPhaseEntry e.members p
unfolding phase_values
phase_said e p good =
    let h = good.values in
    let a = bound (required (whole 1 16) keys.Number e) (λ n. required (whole 1 4) keys.Ring e >>= λ r. required (whole 1 4) keys.Side e >>= λ s. Ok (record { number = n; ring = r; side = s })) p h in
    let b = bound (required (whole 1 4) keys.Ring e) (λ r. required (whole 1 4) keys.Side e >>= λ s. Ok (record { number = a.0; ring = r; side = s })) p a.2 in
    let c = bound (required (whole 1 4) keys.Side e) (λ s. Ok (record { number = a.0; ring = b.0; side = s })) p b.2 in
    ok_is (IsPhaseEntry e.members) (record { number = a.0; ring = b.0; side = c.0 }) p c.2 (record {
      only = good.only;
      number = number_is 1 16 keys.Number e a.0 a.1;
      ring = number_is 1 4 keys.Ring e b.0 b.1;
      side = number_is 1 4 keys.Side e c.0 c.1;
    })

-- ---- configured phases

pub configured_any : (phases : List PhaseItem) (n : ℕ) → has_phase phases n ≡ true → IsConfigured phases n
configured_any phases n h = any_weaker (λ p. (p.number == n) ≡ true) (λ p. p.number ≡ n) (λ p t. eqb-true p.number n t) phases (Any-from_list_any (λ p. p.number == n) phases h)

pub any_configured : (phases : List PhaseItem) (n : ℕ) → IsConfigured phases n → has_phase phases n ≡ true
any_configured phases n h = list_any-from_Any (λ p. p.number == n) phases (any_weaker (λ p. p.number ≡ n) (λ p. (p.number == n) ≡ true) (λ p e. eq-eqb p.number n e) phases h)

pub contains_number : (numbers : List ℕ) (n : ℕ) → has_number numbers n ≡ true → Contains numbers n
contains_number [] n h = absurd cc
contains_number (m ∷ ms) n h =
    elim (cases_Bool (m == n)) [
      | inl t ↦ (0, omega arith, eqb-true m n t)
      | inr f ↦ let c = contains_number ms n (rw f at h) in (suc c.0, (let lt : c.0 < length ms = c.1 in omega arith), c.2)
    ]

pub number_contained : (numbers : List ℕ) (n : ℕ) → Contains numbers n → has_number numbers n ≡ true
number_contained numbers n h = list_any-from_Any (λ m. m == n) numbers (h.0, n, h.1, h.2, eq-eqb n n refl)

same_bit : (a b : ℕ) → a < 2 → b < 2 → (a ≡ 1 → b ≡ 1) → (b ≡ 1 → a ≡ 1) → a ≡ b
same_bit a b la lb to from =
    elim (eqb_tells a 1) [
      | inl t ↦ let one : a ≡ 1 = t.1 in let other : b ≡ 1 = to t.1 in omega arith
      | inr t ↦ let no : a ≢ 1 = t.1 in let none : b ≢ 1 = λ q. t.1 (from q) in omega arith
    ]

bit_tells : (b : Bool) → bit_of b ≡ 1 → b ≡ true
bit_tells true e = refl
bit_tells false e = absurd (omega arith)

-- the bits of the mask of these numbers
mask_bits : (numbers : List ℕ) (mask : ℕ) → IsMaskOf numbers mask → (b : ℕ) → Has mask b ↔ Contains numbers (b + 1)
mask_bits numbers mask is b =
    let le : 1 ≤ b + 1 = omega arith in
    let back : b + 1 - 1 ≡ b = omega arith in
    let bit : bit_at mask b ≡ bit_of (has_number numbers (b + 1)) = ap (bit_at mask) (sym back) ∙ bit_of_phase numbers mask (b + 1) is le in (
      λ has. contains_number numbers (b + 1) (bit_tells (has_number numbers (b + 1)) (sym bit ∙ has)),
      λ there. bit ∙ ap bit_of (number_contained numbers (b + 1) there),
    )

-- a mask with these bits is the mask of these numbers
bits_mask : (numbers : List ℕ) (mask : ℕ) → ArePositive numbers → ((b : ℕ) → Has mask b ↔ Contains numbers (b + 1)) → mask_of numbers ≡ mask
bits_mask numbers mask positive bits =
    let own : IsMaskOf numbers (mask_of numbers) = record { value = refl; positive = positive } in
    same_from_bits (mask_of numbers) mask (λ i.
    let here = mask_bits numbers (mask_of numbers) own i in
    let there = bits i in
    same_bit (bit_at (mask_of numbers) i) (bit_at mask i) (bit_at-lt (mask_of numbers) i) (bit_at-lt mask i) (λ h. there.1 (here.0 h)) (λ h. here.1 (there.0 h)))

module _ (phases : List PhaseItem) (low : (n : ℕ) → IsConfigured phases n → (1 ≤ n) × (n ≤ 16)) where
  value_configured : (d : Data) (n : ℕ) → configured phases d ≡ Some n → (d ≡ integer (pos n)) × IsConfigured phases n
  unfolding configured
  value_configured d n h =
      let p = passing_is (has_phase phases) (whole 1 16 d) n h in
      ((whole_is 1 16 d n p.0).0, configured_any phases n p.1)

  configured_value : (n : ℕ) → IsConfigured phases n → configured phases (integer (pos n)) ≡ Some n
  unfolding configured
  configured_value n is = let w = low n is in rw (whole_gives 1 16 n w.0 w.1, any_configured phases n is) refl

  pub phase_is : (key : KeyName) (e : EntryData) (n : ℕ) → required (configured phases) key e ≡ Ok n → HasPhase phases (key_text key) e.members n
  phase_is key e n h =
      let r = required_value (configured phases) key e n h in
      let v = value_configured r.0 n r.2 in
      record { there = r.1 ∙ ap Some v.0; configured = v.1 }

  pub phase_gives : (key : KeyName) (e : EntryData) (n : ℕ) → HasPhase phases (key_text key) e.members n → required (configured phases) key e ≡ Ok n
  phase_gives key e n h = required_gives (configured phases) key e (integer (pos n)) n h.there (configured_value n h.configured)

  -- ---- pedestrian signals

  pub ped_good : (e : EntryData) (n : ℕ) → IsPedEntry phases e.members n → IsGood (ped_rules phases) e n
  ped_good e n h = record { only = h.only; values = phase_gives keys.Number e n h.number }

  pub ped_said : (e : EntryData) (n : ℕ) → IsGood (ped_rules phases) e n → IsPedEntry phases e.members n
  ped_said e n good = record { only = good.only; number = phase_is keys.Number e n good.values }

  -- ---- parents

  -- the phases after those found
  record Found (found : List ℕ) (ds : Items) (result : List ℕ) : Type 0 where
    rest : List ℕ
    parts : result ≡ found ++ rest
    are : AreNumbers ds rest
    each : AllByRecursion (IsConfigured phases) rest
    none : NoneRepeats (λ m n. m == n) result

  found_is : (found : List ℕ) (ds : Items) (result : List ℕ) → NoneRepeats (λ m n. m == n) found → phases_from phases found ds ≡ Some result → Found found ds result
  unfolding phases_from
  found_is found no_items result none h =
      let same : found ≡ result = cc in
      record { rest = []; parts = sym same ∙ sym (append-nil found); are = tt; each = tt; none = subst (NoneRepeats (λ m n. m == n)) same none }
  found_is found (item d ds) result none h =
      let a = and_then_is (λ n. phases_from phases (found ++ n ∷ []) ds) (next_phase phases found d) result h in
      let p = passing_is (λ n. not (has_number found n)) (configured phases d) a.0 a.1 in
      let v = value_configured d a.0 p.0 in
      let new : has_number found a.0 ≡ false = not_true (has_number found a.0) p.1 in
      let r = found_is (found ++ a.0 ∷ []) ds result (none_push (λ m n. m == n) found a.0 none new) a.2 in
      record { rest = a.0 ∷ r.rest; parts = r.parts ∙ append_assoc found (a.0 ∷ []) r.rest; are = (v.0, r.are); each = (v.1, r.each); none = r.none }

  next_gives : (found : List ℕ) (n : ℕ) → IsConfigured phases n → has_number found n ≡ false → next_phase phases found (integer (pos n)) ≡ Some n
  next_gives found n is new = rw (configured_value n is, new) refl

  found_gives : (found : List ℕ) (ds : Items) (rest : List ℕ) → AreNumbers ds rest → AllByRecursion (IsConfigured phases) rest → NoneRepeats (λ m n. m == n) (found ++ rest) → phases_from phases found ds ≡ Some (found ++ rest)
  unfolding phases_from
  found_gives found no_items [] are each none = ap Some (sym (append-nil found))
  found_gives found no_items (n ∷ ns) are each none = absurd are
  found_gives found (item d ds) [] are each none = absurd are
  found_gives found (item d ds) (n ∷ ns) are each none =
      let there : (found ++ n ∷ []) ++ ns ≡ found ++ n ∷ ns = append_assoc found (n ∷ []) ns in
      let new = none_before_it (λ m k. m == k) found n ns none in
      let rest = found_gives (found ++ n ∷ []) ds ns are.1 each.1 (subst (NoneRepeats (λ m k. m == k)) (sym there) none) in
      let own : next_phase phases found d ≡ Some n = subst (λ (c : Data). next_phase phases found c ≡ Some n) (sym are.0) (next_gives found n each.0 new) in
      rw own (rest ∙ ap Some there)

  positive : (numbers : List ℕ) → AllByRecursion (IsConfigured phases) numbers → ArePositive numbers
  positive [] h = tt
  positive (n ∷ ns) h = ((low n h.0).0, positive ns h.1)

  apart : (numbers : List ℕ) → NoneRepeats (λ m n. m == n) numbers → AllPairs (λ m n. m ≢ n) numbers
  apart numbers none =
      pairs_at (λ m n. m ≢ n) numbers (pairs_weaker (λ m n. (m == n) ≡ false) (λ m n. m ≢ n) (λ m n f. fails (m == n) (Decides-eqb m n) f) numbers none)

  unrepeated : (numbers : List ℕ) → AllPairs (λ m n. m ≢ n) numbers → NoneRepeats (λ m n. m == n) numbers
  unrepeated numbers h =
      pairs_by_recursion (λ m n. (m == n) ≡ false) numbers (pairs_weaker_at (λ m n. m ≢ n) (λ m n. (m == n) ≡ false) (λ m n d. refutes (m == n) (Decides-eqb m n) d) numbers h)

  parents_is : (e : EntryData) (mask : ℕ) → required (values.parents phases) keys.Parents e ≡ Ok mask → HasParents phases e.members mask
  unfolding values.parents
  parents_is e mask h =
      let r = required_value (values.parents phases) keys.Parents e mask h in
      let m = map_is mask_of (passing few_parents (option_and_then (phases_from phases []) (as_array r.0))) mask r.2 in
      let p = passing_is few_parents (option_and_then (phases_from phases []) (as_array r.0)) m.0 m.1 in
      let a = and_then_is (phases_from phases []) (as_array r.0) m.0 p.0 in
      let f = found_is [] a.0 m.0 tt a.2 in
      let same : f.rest ≡ m.0 = sym f.parts in
      let are : AreNumbers a.0 m.0 = subst (AreNumbers a.0) same f.are in
      let each : AllByRecursion (IsConfigured phases) m.0 = subst (AllByRecursion (IsConfigured phases)) same f.each in
      let few = and_parts (nat_le 1 (length m.0)) (nat_le (length m.0) 8) p.1 in
      record {
        items = a.0;
        there = r.1 ∙ ap Some (array_from r.0 a.0 a.1);
        numbers = m.0;
        are = are;
        some = leb-true 1 (length m.0) few.0;
        few = leb-true (length m.0) 8 few.1;
        configured = all_at (IsConfigured phases) m.0 each;
        distinct = apart m.0 f.none;
        bits = mask_bits m.0 mask (record { value = sym m.2; positive = positive m.0 each });
      }

  parents_value : (ds : Items) (numbers : List ℕ) (mask : ℕ) → phases_from phases [] ds ≡ Some numbers → 1 ≤ length numbers → length numbers ≤ 8 → mask_of numbers ≡ mask → values.parents phases (array ds) ≡ Some mask
  unfolding values.parents
  parents_value ds numbers mask found some few is = rw (found, le-leb 1 (length numbers) some, le-leb (length numbers) 8 few) (ap Some is)

  parents_gives : (e : EntryData) (mask : ℕ) → HasParents phases e.members mask → required (values.parents phases) keys.Parents e ≡ Ok mask
  parents_gives e mask h =
      let each = by_recursion (IsConfigured phases) h.numbers h.configured in
      let found = found_gives [] h.items h.numbers h.are each (unrepeated h.numbers h.distinct) in
      let is = bits_mask h.numbers mask (positive h.numbers each) h.bits in
      required_gives (values.parents phases) keys.Parents e (array h.items) mask h.there (parents_value h.items h.numbers mask found h.some h.few is)

  -- ---- overlaps

  pub overlap_good : (e : EntryData) (o : OverlapItem) → IsOverlapEntry phases e.members o → IsGood (overlap_rules phases) e o
  unfolding overlap_values
  overlap_good e o h = record {
    only = h.only;
    values = rw (number_gives 1 16 keys.Number e o.number h.number, parents_gives e o.parents h.parents) refl;
  }

  pub overlap_said : (e : EntryData) (o : OverlapItem) → IsGood (overlap_rules phases) e o → IsOverlapEntry phases e.members o
  unfolding overlap_values
  overlap_said e o good =
      let h = good.values in
      let a = bound (required (whole 1 16) keys.Number e) (λ n. required (values.parents phases) keys.Parents e >>= λ m. Ok (record { number = n; parents = m })) o h in
      let b = bound (required (values.parents phases) keys.Parents e) (λ m. Ok (record { number = a.0; parents = m })) o a.2 in
      ok_is (IsOverlapEntry phases e.members) (record { number = a.0; parents = b.0 }) o b.2 (record {
        only = good.only;
        number = number_is 1 16 keys.Number e a.0 a.1;
        parents = parents_is e b.0 b.1;
      })

  -- ---- pairs

  partner_value : (barred : List Pair) (a b : ℕ) → IsConfigured phases b → a ≢ b → has_pair barred a b ≡ false → partner phases barred a (integer (pos b)) ≡ Some b
  partner_value barred a b is differ free =
      let f : (b == a) ≡ false = refutes (b == a) (Decides-eqb b a) (λ same. differ (sym same)) in
      rw (configured_value b is, f, free) refl

  pair_gives : (barred : List Pair) (e : EntryData) (p : Pair) → IsConflictEntry phases e.members p → has_pair barred p.a p.b ≡ false → pair_values phases barred e ≡ Ok p
  unfolding pair_values
  pair_gives barred e p h free =
      let b = required_gives (partner phases barred p.a) keys.B e (integer (pos p.b)) p.b h.b.there (partner_value barred p.a p.b h.b.configured h.differ free) in
      rw (phase_gives keys.A e p.a h.a, b) refl

  -- what the values of a pair say
  record IsPairSaid (barred : List Pair) (e : EntryData) (p : Pair) : Type 0 where
    entry : IsConflictEntry phases e.members p
    free : has_pair barred p.a p.b ≡ false

  pair_said : (barred : List Pair) (e : EntryData) (p : Pair) → HasOnly (map key_text (keys.A ∷ keys.B ∷ [])) e.members → pair_values phases barred e ≡ Ok p → IsPairSaid barred e p
  unfolding pair_values
  pair_said barred e p listed h =
      let a = bound (required (configured phases) keys.A e) (λ x. required (partner phases barred x) keys.B e >>= λ y. Ok (record { a = x; b = y })) p h in
      let b = bound (required (partner phases barred a.0) keys.B e) (λ y. Ok (record { a = a.0; b = y })) p a.2 in
      let s = required_value (partner phases barred a.0) keys.B e b.0 b.1 in
      let q = passing_is (λ y. not (y == a.0 || has_pair barred a.0 y)) (configured phases s.0) b.0 s.2 in
      let f = or_parts (b.0 == a.0) (has_pair barred a.0 b.0) (not_true (b.0 == a.0 || has_pair barred a.0 b.0) q.1) in
      let v = value_configured s.0 b.0 q.0 in
      ok_is (IsPairSaid barred e) (record { a = a.0; b = b.0 }) p b.2 (record {
        entry = record {
          only = listed;
          a = phase_is keys.A e a.0 a.1;
          b = record { there = s.1 ∙ ap Some v.0; configured = v.1 };
          differ = λ same. fails (b.0 == a.0) (Decides-eqb b.0 a.0) f.0 (sym same);
        };
        free = f.1;
      })

  pub conflict_good : (e : EntryData) (p : Pair) → IsConflictEntry phases e.members p → IsGood (conflict_rules phases) e p
  conflict_good e p h = record { only = h.only; values = pair_gives [] e p h refl }

  pub conflict_said : (e : EntryData) (p : Pair) → IsGood (conflict_rules phases) e p → IsConflictEntry phases e.members p
  conflict_said e p good = (pair_said [] e p good.only good.values).entry

-- ---- the same pair

pub both_test : (a b c d : ℕ) → Decides (a == c && b == d) ((a ≡ c) × (b ≡ d))
both_test a b c d = (
  λ t. let p = and_parts (a == c) (b == d) t in (eqb-true a c p.0, eqb-true b d p.1),
  λ e. rw (eq-eqb a c e.0, eq-eqb b d e.1) refl,
)

or_right : (a b : Bool) → b ≡ true → (a || b) ≡ true
or_right true b t = refl
or_right false b t = t

or_left : (a b : Bool) → a ≡ true → (a || b) ≡ true
or_left a b t = rw t refl

pub pair_test : (p q : Pair) → Decides (is_pair p q.a q.b) (IsSamePair p q)
pair_test p q =
    let one = both_test p.a p.b q.a q.b in
    let two = both_test p.a p.b q.b q.a in (
      λ t. elim (or_cases (p.a == q.a && p.b == q.b) (p.a == q.b && p.b == q.a) t) [ inl u ↦ inl (one.0 u) | inr u ↦ inr (two.0 u) ],
      elim [
        | inl e ↦ or_left (p.a == q.a && p.b == q.b) (p.a == q.b && p.b == q.a) (one.1 e)
        | inr e ↦ or_right (p.a == q.a && p.b == q.b) (p.a == q.b && p.b == q.a) (two.1 e)
      ],
    )

free_is : (barred : List Pair) (p : Pair) → has_pair barred p.a p.b ≡ false → All (λ q. ¬ IsSamePair q p) barred
free_is barred p f = all_at (λ q. ¬ IsSamePair q p) barred (each barred (none_of (λ q. is_pair q p.a p.b) barred f))
  where
    each : (qs : List Pair) → AllByRecursion (λ q. is_pair q p.a p.b ≡ false) qs → AllByRecursion (λ q. ¬ IsSamePair q p) qs
    each [] h = tt
    each (q ∷ qs) h = (fails (is_pair q p.a p.b) (pair_test q p) h.0, each qs h.1)

free_gives : (barred : List Pair) (p : Pair) → All (λ q. ¬ IsSamePair q p) barred → has_pair barred p.a p.b ≡ false
free_gives barred p h = list_any_none (λ q. is_pair q p.a p.b) barred (λ k d lt. refutes (is_pair _ p.a p.b) (pair_test _ p) (h k d lt))

module _ (phases : List PhaseItem) (conflicts : List Pair) (low : (n : ℕ) → IsConfigured phases n → (1 ≤ n) × (n ≤ 16)) where
  pub allow_good : (e : EntryData) (p : Pair) → IsAllowEntry phases conflicts e.members p → IsGood (allow_rules phases conflicts) e p
  allow_good e p h = record { only = h.pair.only; values = pair_gives phases low conflicts e p h.pair (free_gives conflicts p h.allowed) }

  pub allow_said : (e : EntryData) (p : Pair) → IsGood (allow_rules phases conflicts) e p → IsAllowEntry phases conflicts e.members p
  allow_said e p good =
      let s = pair_said phases low conflicts e p good.only good.values in
      record { pair = s.entry; allowed = free_is conflicts p s.free }

-- ---- preempts

pub preempt_good : (e : EntryData) (n : ℕ) → IsPreemptEntry e.members n → IsGood preempt_rules e n
preempt_good e n h = record { only = h.only; values = number_gives 1 16 keys.Number e n h.number }

pub preempt_said : (e : EntryData) (n : ℕ) → IsGood preempt_rules e n → IsPreemptEntry e.members n
preempt_said e n good = record { only = good.only; number = number_is 1 16 keys.Number e n good.values }
