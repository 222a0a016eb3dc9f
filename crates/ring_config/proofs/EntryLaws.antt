-- What holds of each entry of a table that was read, and of each two.
use Rattle.std.proofs.Common.{◌≡◌, ℕ, ◌+◌, ◌≤◌, false, nat_lt, List, [], ◌∷◌, ◌++◌, length, Ok, Err, inl, inr, refl, ap, ◌∙◌, arith}
use Rattle.std.specs.List.{AllByRecursion, list_any}
use Rattle.std.proofs.lemmas.Bool.{cases_Bool, ltb-false}
use Rattle.std.proofs.lemmas.List.{length_push}
use Rattle.toml.specs.Data.{Members}
use Rattle.ring_config.specs.declared.error.ConfigError.TheVariants.{Repeated}
use Rattle.ring_config.specs.Reading.{◌>>=◌, EntryData, place, only}
use Rattle.ring_config.specs.Walk.{Rules, NoneRepeats, entry_at, unrepeated, read_entry, entries_from, entries_of}
use Rattle.ring_config.proofs.DoLaws.{bound}
use Rattle.ring_config.proofs.ListLaws.{all_push, none_push}

module _ {X : Type 0} (rules : Rules X) (P : X → Type 0) (holds : (e : EntryData) (x : X) → rules.values e ≡ Ok x → P x) where
  unrepeated_is : (e : EntryData) (earlier : List X) (y x : X) → unrepeated rules e earlier y ≡ Ok x → (y ≡ x) × (list_any (λ z. rules.repeats z x) earlier ≡ false)
  unrepeated_is e earlier y x h =
      elim (cases_Bool (list_any (λ z. rules.repeats z y) earlier)) [
        | inl t ↦ let k : Err (Repeated (place rules.repeated e)) ≡ Ok x = rw t at h in absurd cc
        | inr f ↦ let k = rw f at h in let same : y ≡ x = cc in (same, rw (← same) f)
      ]

  entry_is : (earlier : List X) (e : EntryData) (x : X) → read_entry rules earlier e ≡ Ok x → P x × (list_any (λ z. rules.repeats z x) earlier ≡ false)
  unfolding read_entry
  entry_is earlier e x h =
      let a = bound (only rules.listed e) (λ _. rules.values e >>= λ y. unrepeated rules e earlier y) x h in
      let b = bound (rules.values e) (λ y. unrepeated rules e earlier y) x a.2 in
      let c = unrepeated_is e earlier b.0 x b.2 in
      (holds e x (b.1 ∙ ap Ok c.0), c.1)

  pub record Are (xs : List X) (n : ℕ) : Type 0 where
    pub all : AllByRecursion P xs
    pub distinct : NoneRepeats rules.repeats xs
    pub count : length xs ≡ n

  entries_from_are : (i n : ℕ) (earlier : List X) (mss : List Members) (xs : List X) → Are earlier n → entries_from rules i earlier mss ≡ Ok xs → Are xs (n + length mss)
  unfolding entries_from
  entries_from_are i n earlier [] xs are h =
      let same : earlier ≡ xs = cc in
      record { all = rw (← same) are.all; distinct = rw (← same) are.distinct; count = rw (← same) (are.count ∙ (omega arith)) }
  entries_from_are i n earlier (ms ∷ mss) xs are h =
      let a = bound (read_entry rules earlier (entry_at rules i ms)) (λ x. entries_from rules (i + 1) (earlier ++ x ∷ []) mss) xs h in
      let b = entry_is earlier (entry_at rules i ms) a.0 a.1 in
      let more : Are (earlier ++ a.0 ∷ []) (n + 1) = record {
        all = all_push P earlier a.0 are.all b.0;
        distinct = none_push rules.repeats earlier a.0 are.distinct b.1;
        count = length_push earlier a.0 ∙ ap (λ (k : ℕ). k + 1) are.count;
      } in
      let rest = entries_from_are (i + 1) (n + 1) (earlier ++ a.0 ∷ []) mss xs more a.2 in
      record { all = rest.all; distinct = rest.distinct; count = rest.count ∙ (omega arith) }

  pub record AreEntries (xs : List X) : Type 0 where
    pub all : AllByRecursion P xs
    pub distinct : NoneRepeats rules.repeats xs
    pub few : length xs ≤ rules.limit

  pub entries_are : (mss : List Members) (xs : List X) → entries_of rules mss ≡ Ok xs → AreEntries xs
  unfolding entries_of
  entries_are mss xs h =
      elim (cases_Bool (nat_lt rules.limit (length mss))) [
        | inl t ↦ let k = rw t at h in absurd cc
        | inr f ↦
            let k = rw f at h in
            let le = ltb-false rules.limit (length mss) f in
            let none : Are [] 0 = record { all = tt; distinct = tt; count = refl } in
            let are = entries_from_are 0 0 [] mss xs none k in
            record { all = are.all; distinct = are.distinct; few = rw are.count (omega arith) }
      ]
