-- What the entries of approaches say.
use Rattle.std.proofs.Common.{◌≡◌, ◌⊎◌, inl, inr, ◌<◌, ◌≤◌, ℕ, ℤ, pos, Bool, true, false, not, ◌&&◌, ◌||◌, ◌==◌, nat_le, List, length, get_or, Option, Some, None, Ok, Contains, option_and_then, refl, sym, ap, subst, ◌∙◌, arith}
use Rattle.std.specs.List.{list_all, list_any, range_with_len}
use Rattle.std.proofs.lemmas.Bool.{and_parts, eqb-true, le-leb, leb-true, le-ltb, ltb-false}
use Rattle.std.proofs.lemmas.List.FromFn.{get_or-range_with_len}
use Rattle.toml.specs.Data.{Data, integer, string, Members, as_str, as_integer}
use Rattle.sig_base.specs.declared.values.PhaseItem.{PhaseItem}
use Rattle.sig_base.specs.declared.values.Frac.{Frac}
use Rattle.sig_base.proofs.Common.{not_true, or_cases}
use Rattle.ring_config.specs.declared.error.KeyName.TheVariants as keys
use Rattle.ring_config.specs.declared.items.Approach.{Approach}
use Rattle.ring_config.specs.Reading.{Read, ◌>>=◌, EntryData, place, value_at, good, required, defaulted, optional}
use Rattle.ring_config.specs.Values as values
use Rattle.ring_config.specs.Values.{whole, configured, is_short_text, is_name_byte}
use Rattle.ring_config.specs.Tables.{is_over, numerator, high_of, high_at, travel_with, approach_values, approach_rules}
use Rattle.ring_config.proofs.DoLaws.{ok_is, bound, good_is, required_value, passing_is}
use Rattle.config_laws.specs.Walk.{IsGood}
use Rattle.config_laws.specs.Entries.{IsConfigured, name_bytes, HasApproachName, HasTravel, HasShare, HasNoShare, IsApproachEntry}
use Rattle.config_laws.proofs.Entries.{phase_is, phase_gives, contains_number}
use Rattle.config_laws.proofs.Keys.{number_is, number_gives, number_there, optional_is, optional_gives, required_gives, absent_gives, there_gives, defaulted_value, whole_gives, string_from}
use Rattle.config_laws.proofs.Lists.{all_of_test, test_of_all, all_weaker_at}

-- ---- names

-- each of these bytes is one of a name, and of the bytes below 128 no other one is
listed_pass : list_all is_name_byte name_bytes ≡ true
listed_pass = refl

passes_listed : list_all (λ b. not (is_name_byte b) || list_any (λ c. c == b) name_bytes) (range_with_len 0 128) ≡ true
passes_listed = refl

between : (low high b : ℕ) → (nat_le low b && nat_le b high) ≡ true → b ≤ high
between low high b t = leb-true b high (and_parts (nat_le low b) (nat_le b high) t).1

below_128 : (b : ℕ) → is_name_byte b ≡ true → b < 128
below_128 b t =
    elim (or_cases ((nat_le 48 b && nat_le b 57) || (nat_le 65 b && nat_le b 90)) ((nat_le 97 b && nat_le b 122) || (b == 95 || b == 45)) t) [
      | inl u ↦
          elim (or_cases (nat_le 48 b && nat_le b 57) (nat_le 65 b && nat_le b 90) u) [
            | inl v ↦ let le = between 48 57 b v in omega arith
            | inr v ↦ let le = between 65 90 b v in omega arith
          ]
      | inr u ↦
          elim (or_cases (nat_le 97 b && nat_le b 122) (b == 95 || b == 45) u) [
            | inl v ↦ let le = between 97 122 b v in omega arith
            | inr v ↦
                elim (or_cases (b == 95) (b == 45) v) [
                  | inl w ↦ let e = eqb-true b 95 w in omega arith
                  | inr w ↦ let e = eqb-true b 45 w in omega arith
                ]
          ]
    ]

or_holds : (a b : Bool) → (not a || b) ≡ true → a ≡ true → b ≡ true
or_holds true b h t = h
or_holds false b h t = absurd cc

byte_is : (b : ℕ) → is_name_byte b ≡ true → Contains name_bytes b
byte_is b t =
    let lt = below_128 b t in
    let all = all_of_test (λ b. not (is_name_byte b) || list_any (λ c. c == b) name_bytes) (range_with_len 0 128) passes_listed in
    let at : get_or (range_with_len 0 128) b 0 ≡ b = get_or-range_with_len 0 128 b 0 lt ∙ (omega arith) in
    let test : (not (is_name_byte b) || list_any (λ c. c == b) name_bytes) ≡ true = subst (λ (n : ℕ). (not (is_name_byte n) || list_any (λ c. c == n) name_bytes) ≡ true) at (all b 0 lt) in
    contains_number name_bytes b (or_holds (is_name_byte b) (list_any (λ c. c == b) name_bytes) test t)

byte_passes : (b : ℕ) → Contains name_bytes b → is_name_byte b ≡ true
byte_passes b h = subst (λ (n : ℕ). is_name_byte n ≡ true) h.2 (all_of_test is_name_byte name_bytes listed_pass h.0 b h.1)

name_is : (e : EntryData) (name : List ℕ) → required values.name keys.Name e ≡ Ok name → HasApproachName e.members name
unfolding values.name
name_is e name h =
    let r = required_value values.name keys.Name e name h in
    let p = passing_is (is_short_text is_name_byte) (as_str r.0) name r.2 in
    let a = and_parts (nat_le 1 (length name) && nat_le (length name) 32) (list_all is_name_byte name) p.1 in
    let b = and_parts (nat_le 1 (length name)) (nat_le (length name) 32) a.0 in
    record {
      there = r.1 ∙ ap Some (string_from r.0 name p.0);
      some = leb-true 1 (length name) b.0;
      few = leb-true (length name) 32 b.1;
      each = all_weaker_at (λ b. is_name_byte b ≡ true) (Contains name_bytes) byte_is name (all_of_test is_name_byte name a.1);
    }

name_value : (name : List ℕ) → 1 ≤ length name → length name ≤ 32 → list_all is_name_byte name ≡ true → values.name (string name) ≡ Some name
unfolding values.name
name_value name some few each = rw (le-leb 1 (length name) some, le-leb (length name) 32 few, each) refl

name_gives : (e : EntryData) (name : List ℕ) → HasApproachName e.members name → required values.name keys.Name e ≡ Ok name
name_gives e name h =
    let each = test_of_all is_name_byte name (all_weaker_at (Contains name_bytes) (λ b. is_name_byte b ≡ true) byte_passes name h.each) in
    required_gives values.name keys.Name e (string name) name h.there (name_value name h.some h.few each)

-- ---- travel times

travel_is : (e : EntryData) (advance : Option ℕ) (n : ℕ) → defaulted 0 (travel_with advance) keys.Travel e ≡ Ok n → HasTravel e.members advance n
travel_is e None n h =
    elim (defaulted_value (travel_with None) keys.Travel e 0 n h) [
      | inl a ↦ a
      | inr v ↦ let k : None ≡ Some n = v.2 in absurd cc
    ]
travel_is e (Some d) n h =
    elim (defaulted_value (travel_with (Some d)) keys.Travel e 0 n h) [
      | inl a ↦ inr a
      | inr v ↦ inl (number_there 0 300 keys.Travel e n v.0 v.1 v.2)
    ]

travel_gives : (e : EntryData) (advance : Option ℕ) (n : ℕ) → HasTravel e.members advance n → defaulted 0 (travel_with advance) keys.Travel e ≡ Ok n
travel_gives e None n h = absent_gives (travel_with None) keys.Travel e 0 h.0 ∙ ap Ok (sym h.1)
travel_gives e (Some d) n (inl h) = there_gives (travel_with (Some d)) keys.Travel e 0 (integer (pos n)) n h.there (whole_gives 0 300 n h.least h.most)
travel_gives e (Some d) n (inr h) = absent_gives (travel_with (Some d)) keys.Travel e 0 h.0 ∙ ap Ok (sym h.1)

-- ---- shares

abbrev IsHigh : Members → Frac → Type 0
IsHigh ms f = HasShare ms f ⊎ HasNoShare ms f

not_over : (n m : ℕ) → not (is_over n (Some (pos m))) ≡ true → n ≤ m
not_over n m e = ltb-false m n (not_true (is_over n (Some (pos m))) e)

high_cases : (e : EntryData) (num den : Option Data) (f : Frac) → value_at keys.HighNum e ≡ num → value_at keys.HighDen e ≡ den → high_of e num den ≡ Ok f → IsHigh e.members f
high_cases e None None f p q h = ok_is (IsHigh e.members) (record { num = 4; den = 5 }) f h (inr (record { num = p; den = q; four = refl; five = refl }))
high_cases e None (Some d) f p q h = absurd cc
high_cases e (Some d) den f p q h =
    let a = bound (good (place keys.HighNum e) (numerator e d)) (λ n. required (whole 1 1000) keys.HighDen e >>= λ m. Ok (record { num = n; den = m })) f h in
    let b = bound (required (whole 1 1000) keys.HighDen e) (λ m. Ok (record { num = a.0; den = m })) f a.2 in
    let g = good_is (place keys.HighNum e) (numerator e d) a.0 a.1 in
    let t = passing_is (λ n. not (is_over n (option_and_then as_integer (value_at keys.HighDen e)))) (whole 1 1000 d) a.0 g in
    let n = number_there 1 1000 keys.HighNum e a.0 d p t.0 in
    let m = number_is 1 1000 keys.HighDen e b.0 b.1 in
    let z : option_and_then as_integer (value_at keys.HighDen e) ≡ Some (pos b.0) = ap (λ (v : Option Data). option_and_then as_integer v) m.there in
    let over : not (is_over a.0 (Some (pos b.0))) ≡ true = subst (λ (v : Option ℤ). not (is_over a.0 v) ≡ true) z t.1 in
    ok_is (IsHigh e.members) (record { num = a.0; den = b.0 }) f b.2 (inl (record { num = n; den = m; most = not_over a.0 b.0 over }))

high_is : (e : EntryData) (f : Frac) → high_at e ≡ Ok f → IsHigh e.members f
high_is e f h = high_cases e (value_at keys.HighNum e) (value_at keys.HighDen e) f refl refl h

over_is : (n m : ℕ) → n ≤ m → is_over n (Some (pos m)) ≡ false
over_is n m le = le-ltb m n le

numerator_value : (e : EntryData) (f : Frac) → HasShare e.members f → numerator e (integer (pos f.num)) ≡ Some f.num
numerator_value e f h =
    rw (h.den.there, whole_gives 1 1000 f.num h.num.least h.num.most, over_is f.num f.den h.most) refl

abbrev share : ℕ → ℕ → Read Frac
share num den = Ok (record { num = num; den = den })

high_gives : (e : EntryData) (f : Frac) → IsHigh e.members f → high_at e ≡ Ok f
high_gives e f (inl h) =
    let start : high_of e (value_at keys.HighNum e) (value_at keys.HighDen e) ≡ high_of e (Some (integer (pos f.num))) (value_at keys.HighDen e) = ap (λ (v : Option Data). high_of e v (value_at keys.HighDen e)) h.num.there in
    start ∙ rw (numerator_value e f h, number_gives 1 1000 keys.HighDen e f.den h.den) refl
high_gives e f (inr h) =
    rw (h.num, h.den) (ap (λ (n : ℕ). share n 5) (sym h.four) ∙ ap (share f.num) (sym h.five))

-- ---- approaches

module _ (phases : List PhaseItem) (low : (n : ℕ) → IsConfigured phases n → (1 ≤ n) × (n ≤ 16)) where
  pub approach_good : (e : EntryData) (a : Approach) → IsApproachEntry phases e.members a → IsGood (approach_rules phases) e a
  unfolding approach_values
  approach_good e a h = record {
    only = h.only;
    values =
        rw (
          name_gives e a.name h.name,
          phase_gives phases low keys.Phase e a.phase h.phase,
          optional_gives 1 128 keys.Advance e a.advance h.advance,
          optional_gives 1 128 keys.StopBar e a.stop_bar h.stop_bar,
          travel_gives e a.advance a.travel h.travel,
          high_gives e a.high h.high,
        )
        refl;
  }

  pub approach_said : (e : EntryData) (a : Approach) → IsGood (approach_rules phases) e a → IsApproachEntry phases e.members a
  unfolding approach_values
  approach_said e x is =
      let h = is.values in
      let a = bound (required values.name keys.Name e) (λ n. required (configured phases) keys.Phase e >>= λ p. optional (whole 1 128) keys.Advance e >>= λ v. optional (whole 1 128) keys.StopBar e >>= λ s. defaulted 0 (travel_with v) keys.Travel e >>= λ t. high_at e >>= λ f. Ok (record { name = n; phase = p; advance = v; stop_bar = s; travel = t; high = f })) x h in
      let b = bound (required (configured phases) keys.Phase e) (λ p. optional (whole 1 128) keys.Advance e >>= λ v. optional (whole 1 128) keys.StopBar e >>= λ s. defaulted 0 (travel_with v) keys.Travel e >>= λ t. high_at e >>= λ f. Ok (record { name = a.0; phase = p; advance = v; stop_bar = s; travel = t; high = f })) x a.2 in
      let c = bound (optional (whole 1 128) keys.Advance e) (λ v. optional (whole 1 128) keys.StopBar e >>= λ s. defaulted 0 (travel_with v) keys.Travel e >>= λ t. high_at e >>= λ f. Ok (record { name = a.0; phase = b.0; advance = v; stop_bar = s; travel = t; high = f })) x b.2 in
      let d = bound (optional (whole 1 128) keys.StopBar e) (λ s. defaulted 0 (travel_with c.0) keys.Travel e >>= λ t. high_at e >>= λ f. Ok (record { name = a.0; phase = b.0; advance = c.0; stop_bar = s; travel = t; high = f })) x c.2 in
      let g = bound (defaulted 0 (travel_with c.0) keys.Travel e) (λ t. high_at e >>= λ f. Ok (record { name = a.0; phase = b.0; advance = c.0; stop_bar = d.0; travel = t; high = f })) x d.2 in
      let f = bound (high_at e) (λ s. Ok (record { name = a.0; phase = b.0; advance = c.0; stop_bar = d.0; travel = g.0; high = s })) x g.2 in
      ok_is (IsApproachEntry phases e.members) (record { name = a.0; phase = b.0; advance = c.0; stop_bar = d.0; travel = g.0; high = f.0 }) x f.2 (record {
        only = is.only;
        name = name_is e a.0 a.1;
        phase = phase_is phases low keys.Phase e b.0 b.1;
        advance = optional_is 1 128 keys.Advance e c.0 c.1;
        stop_bar = optional_is 1 128 keys.StopBar e d.0 d.1;
        travel = travel_is e c.0 g.0 g.1;
        high = high_is e f.0 f.1;
      })
