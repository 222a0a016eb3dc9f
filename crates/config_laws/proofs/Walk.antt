-- Which entries the walk over a table accepts, and which one it refuses.
use Rattle.std.proofs.Common.{◌≡◌, ◌⊎◌, ◌↔◌, inl, inr, ◌<◌, ◌≤◌, ℕ, ◌+◌, false, nat_lt, List, [], ◌∷◌, ◌++◌, length, map, Ok, Err, refl, sym, ap, subst, ◌∙◌, append_assoc, arith}
use Rattle.std.specs.List.{list_any}
use Rattle.std.proofs.lemmas.Bool.{cases_Bool, le-ltb, lt-ltb, ltb-true, ltb-false}
use Rattle.std.proofs.lemmas.List.{append-nil}
use Rattle.std.proofs.lemmas.List.Folds.{Any-from_list_any, list_any-from_Any}
use Rattle.toml.specs.Data.{Members}
use Rattle.ring_config.specs.declared.error.ConfigError.{ConfigError}
use Rattle.ring_config.specs.declared.error.ConfigError.TheVariants.{Repeated, TooMany, Unknown}
use Rattle.ring_config.specs.declared.error.KeyName.TheVariants as keys
use Rattle.ring_config.specs.Reading.{Read, ◌>>=◌, EntryData, key_text, only, place}
use Rattle.ring_config.specs.Walk.{Rules, NoneRepeats, entry_at, unrepeated, read_entry, entries_from, entries_of}
use Rattle.ring_config.proofs.DoLaws.{bound}
use Rattle.ring_config.proofs.EntryLaws.{entries_are}
use Rattle.ring_config.proofs.ListLaws.{none_push, pairs_at}
use Rattle.config_laws.specs.Keys.{HasOnly, HasOther}
use Rattle.config_laws.specs.Walk.{IsGood, AreGoodFrom, IsAcceptedTable, IsRepetition, IsRefusal, IsRefusedTable}
use Rattle.config_laws.proofs.Keys.{only_is, only_gives, other_gives, only_or_other}
use Rattle.config_laws.proofs.Lists.{none_before_it, pairs_by_recursion}

-- a reading gives something or an error
pub given : {X : Type 0} (r : Read X) → ((x : X) × (r ≡ Ok x)) ⊎ ((error : ConfigError) × (r ≡ Err error))
given (Ok x) = inl (x, refl)
given (Err error) = inr (error, refl)

module _ {X : Type 0} (rules : Rules X) where
  -- ---- one entry

  -- an entry that is accepted is new
  record IsNew (e : EntryData) (earlier : List X) (y x : X) : Type 0 where
    same : y ≡ x
    new : list_any (λ z. rules.repeats z x) earlier ≡ false

  new_is : (e : EntryData) (earlier : List X) (y x : X) → unrepeated rules e earlier y ≡ Ok x → IsNew e earlier y x
  new_is e earlier y x h =
      elim (cases_Bool (list_any (λ z. rules.repeats z y) earlier)) [
        | inl t ↦ let k : Err (Repeated (place rules.repeated e)) ≡ Ok x = rw t at h in absurd cc
        | inr f ↦ let k = rw f at h in let same : y ≡ x = cc in record { same = same; new = rw (← same) f }
      ]

  -- what is known of an entry that was read
  record IsRead (earlier : List X) (e : EntryData) (x : X) : Type 0 where
    good : IsGood rules e x
    new : list_any (λ z. rules.repeats z x) earlier ≡ false

  read_is : (earlier : List X) (e : EntryData) (x : X) → read_entry rules earlier e ≡ Ok x → IsRead earlier e x
  unfolding read_entry
  read_is earlier e x h =
      let a = bound (only rules.listed e) (λ _. rules.values e >>= λ y. unrepeated rules e earlier y) x h in
      let b = bound (rules.values e) (λ y. unrepeated rules e earlier y) x a.2 in
      let n = new_is e earlier b.0 x b.2 in
      record { good = record { only = only_is rules.listed e a.1; values = b.1 ∙ ap Ok n.same }; new = n.new }

  good_gives : (earlier : List X) (e : EntryData) (x : X) → IsGood rules e x → list_any (λ y. rules.repeats y x) earlier ≡ false → read_entry rules earlier e ≡ Ok x
  unfolding read_entry
  good_gives earlier e x good new = rw (only_gives rules.listed e good.only, good.values, new) refl

  unlisted_gives : (earlier : List X) (e : EntryData) → HasOther (map key_text rules.listed) e.members → read_entry rules earlier e ≡ Err (Unknown (place keys.Other e))
  unfolding read_entry
  unlisted_gives earlier e other = rw (other_gives rules.listed e other) refl

  bad_gives : (earlier : List X) (e : EntryData) (error : ConfigError) → HasOnly (map key_text rules.listed) e.members → rules.values e ≡ Err error → read_entry rules earlier e ≡ Err error
  unfolding read_entry
  bad_gives earlier e error listed bad = rw (only_gives rules.listed e listed, bad) refl

  again_gives : (earlier : List X) (e : EntryData) → IsRepetition rules earlier e → read_entry rules earlier e ≡ Err (Repeated (place rules.repeated e))
  unfolding read_entry
  again_gives earlier e again =
      let t = list_any-from_Any (λ y. rules.repeats y again.item) earlier again.repeated in
      rw (only_gives rules.listed e again.good.only, again.good.values, t) refl

  refusal_gives : (earlier : List X) (e : EntryData) (error : ConfigError) → IsRefusal rules earlier e error → read_entry rules earlier e ≡ Err error
  refusal_gives earlier e error (inl other) = unlisted_gives earlier e other.0 ∙ ap Err (sym other.1)
  refusal_gives earlier e error (inr (inl bad)) = bad_gives earlier e error bad.0 bad.1
  refusal_gives earlier e error (inr (inr again)) = again_gives earlier e again.0 ∙ ap Err (sym again.1)

  same_error : (r : Read X) (a b : ConfigError) → r ≡ Err a → r ≡ Err b → b ≡ a
  same_error r a b p q = let e = sym p ∙ q in cc

  repeats_or_not : (earlier : List X) (e : EntryData) (x : X) (error : ConfigError) → IsGood rules e x → read_entry rules earlier e ≡ Err error → IsRefusal rules earlier e error
  repeats_or_not earlier e x error good h =
      elim (cases_Bool (list_any (λ y. rules.repeats y x) earlier)) [
        | inl t ↦
            let again : IsRepetition rules earlier e = record { item = x; good = good; repeated = Any-from_list_any (λ y. rules.repeats y x) earlier t } in
            inr (inr (again, same_error (read_entry rules earlier e) (Repeated (place rules.repeated e)) error (again_gives earlier e again) h))
        | inr f ↦ let k = sym (good_gives earlier e x good f) ∙ h in absurd cc
      ]

  refusal_is : (earlier : List X) (e : EntryData) (error : ConfigError) → read_entry rules earlier e ≡ Err error → IsRefusal rules earlier e error
  refusal_is earlier e error h =
      elim (only_or_other rules.listed e) [
        | inl listed ↦
            elim (given (rules.values e)) [
              | inl v ↦ repeats_or_not earlier e v.0 error (record { only = listed.1; values = v.1 }) h
              | inr v ↦
                  let same = same_error (read_entry rules earlier e) v.0 error (bad_gives earlier e v.0 listed.1 v.1) h in
                  inr (inl (listed.1, v.1 ∙ ap Err (sym same)))
            ]
        | inr other ↦ inl (other, same_error (read_entry rules earlier e) (Unknown (place keys.Other e)) error (unlisted_gives earlier e other) h)
      ]

  -- ---- entry after entry

  -- accepted entries are walked past
  past : (i : ℕ) (earlier : List X) (mss rest : List Members) (xs : List X) → AreGoodFrom rules i mss xs → NoneRepeats rules.repeats (earlier ++ xs) → entries_from rules i earlier (mss ++ rest) ≡ entries_from rules (i + length mss) (earlier ++ xs) rest
  unfolding entries_from
  past i earlier [] rest [] good none = rw (append-nil earlier, (let e : i + 0 ≡ i = omega arith in e)) refl
  past i earlier [] rest (x ∷ xs) good none = absurd good
  past i earlier (ms ∷ mss) rest [] good none = absurd good
  past i earlier (ms ∷ mss) rest (x ∷ xs) good none =
      let new = none_before_it rules.repeats earlier x xs none in
      let own = good_gives earlier (entry_at rules i ms) x good.0 new in
      let there : (earlier ++ x ∷ []) ++ xs ≡ earlier ++ x ∷ xs = append_assoc earlier (x ∷ []) xs in
      let more = past (i + 1) (earlier ++ x ∷ []) mss rest xs good.1 (subst (NoneRepeats rules.repeats) (sym there) none) in
      let count : i + 1 + length mss ≡ i + length (ms ∷ mss) = omega arith in
      rw own (more ∙ ap (λ (k : ℕ). entries_from rules k ((earlier ++ x ∷ []) ++ xs) rest) count ∙ ap (λ (zs : List X). entries_from rules (i + length (ms ∷ mss)) zs rest) there)

  good_from : (i : ℕ) (earlier : List X) (mss : List Members) (zs : List X) → entries_from rules i earlier mss ≡ Ok zs → (xs : List X) × (zs ≡ earlier ++ xs) × AreGoodFrom rules i mss xs
  unfolding entries_from
  good_from i earlier [] zs h = ([], (let same : earlier ≡ zs = cc in sym same ∙ sym (append-nil earlier)), tt)
  good_from i earlier (ms ∷ mss) zs h =
      let a = bound (read_entry rules earlier (entry_at rules i ms)) (λ x. entries_from rules (i + 1) (earlier ++ x ∷ []) mss) zs h in
      let r = good_from (i + 1) (earlier ++ a.0 ∷ []) mss zs a.2 in
      (a.0 ∷ r.0, r.1 ∙ append_assoc earlier (a.0 ∷ []) r.0, ((read_is earlier (entry_at rules i ms) a.0 a.1).good, r.2))

  -- the first refusal from number i on
  record Refused (i : ℕ) (earlier : List X) (mss : List Members) (error : ConfigError) : Type 0 where
    before : List Members
    entry : Members
    after : List Members
    parts : mss ≡ before ++ entry ∷ after
    more : List X
    good : AreGoodFrom rules i before more
    none : NoneRepeats rules.repeats (earlier ++ more)
    refused : IsRefusal rules (earlier ++ more) (entry_at rules (i + length before) entry) error

  further : (i : ℕ) (earlier : List X) (ms : Members) (mss : List Members) (error : ConfigError) (x : X) → IsGood rules (entry_at rules i ms) x → Refused (i + 1) (earlier ++ x ∷ []) mss error → Refused i earlier (ms ∷ mss) error
  further i earlier ms mss error x good r =
      let there : (earlier ++ x ∷ []) ++ r.more ≡ earlier ++ x ∷ r.more = append_assoc earlier (x ∷ []) r.more in
      let count : i + 1 + length r.before ≡ i + length (ms ∷ r.before) = omega arith in
      record {
        before = ms ∷ r.before;
        entry = r.entry;
        after = r.after;
        parts = ap (λ (l : List Members). ms ∷ l) r.parts;
        more = x ∷ r.more;
        good = (good, r.good);
        none = subst (NoneRepeats rules.repeats) there r.none;
        refused = subst (λ (l : List X). IsRefusal rules l (entry_at rules (i + length (ms ∷ r.before)) r.entry) error) there (subst (λ (n : ℕ). IsRefusal rules ((earlier ++ x ∷ []) ++ r.more) (entry_at rules n r.entry) error) count r.refused);
      }

  refused_from : (i : ℕ) (earlier : List X) (mss : List Members) (error : ConfigError) → NoneRepeats rules.repeats earlier → entries_from rules i earlier mss ≡ Err error → Refused i earlier mss error
  unfolding entries_from
  refused_from i earlier [] error none h = absurd cc
  refused_from i earlier (ms ∷ mss) error none h =
      elim (given (read_entry rules earlier (entry_at rules i ms))) [
        | inl g ↦
            let read = read_is earlier (entry_at rules i ms) g.0 g.1 in
            further i earlier ms mss error g.0 read.good (refused_from (i + 1) (earlier ++ g.0 ∷ []) mss error (none_push rules.repeats earlier g.0 none read.new) (rw g.1 at h))
        | inr g ↦
            let k = rw g.1 at h in
            let same : g.0 ≡ error = cc in
            let here = refusal_is earlier (entry_at rules i ms) error (g.1 ∙ ap Err same) in
            record {
              before = [];
              entry = ms;
              after = mss;
              parts = refl;
              more = [];
              good = tt;
              none = subst (NoneRepeats rules.repeats) (sym (append-nil earlier)) none;
              refused = rw (append-nil earlier, (let e : i + 0 ≡ i = omega arith in e)) here;
            }
      ]

  none_repeats : (mss : List Members) (xs : List X) → entries_of rules mss ≡ Ok xs → NoneRepeats rules.repeats xs
  none_repeats mss xs h = (entries_are rules (λ x. Unit {0}) (λ e x k. tt) mss xs h).distinct

  stopped : (earlier : List X) (i : ℕ) (ms : Members) (mss : List Members) (error : ConfigError) → read_entry rules earlier (entry_at rules i ms) ≡ Err error → entries_from rules i earlier (ms ∷ mss) ≡ Err error
  unfolding entries_from
  stopped earlier i ms mss error h = rw h refl

  -- ---- a table

  few_is : (mss : List Members) → length mss ≤ rules.limit → entries_of rules mss ≡ entries_from rules 0 [] mss
  unfolding entries_of
  few_is mss le = rw (le-ltb rules.limit (length mss) le) refl

  many_is : (mss : List Members) → rules.limit < length mss → entries_of rules mss ≡ Err (TooMany (record { table = rules.table; entry = rules.limit; key = keys.Other }))
  unfolding entries_of
  many_is mss lt = rw (lt-ltb rules.limit (length mss) lt) refl

  few_or_many : (mss : List Members) → (rules.limit < length mss) ⊎ (length mss ≤ rules.limit)
  few_or_many mss =
      elim (cases_Bool (nat_lt rules.limit (length mss))) [
        | inl t ↦ inl (ltb-true rules.limit (length mss) t)
        | inr f ↦ inr (ltb-false rules.limit (length mss) f)
      ]

  accepted_is : (mss : List Members) (xs : List X) → entries_of rules mss ≡ Ok xs → IsAcceptedTable rules mss xs
  accepted_is mss xs h =
      elim (few_or_many mss) [
        | inl lt ↦ let k = sym (many_is mss lt) ∙ h in absurd cc
        | inr le ↦
            let g = good_from 0 [] mss xs (sym (few_is mss le) ∙ h) in
            record {
              few = le;
              accepted = record {
                good = rw g.1 g.2;
                distinct = pairs_at (λ x y. rules.repeats x y ≡ false) xs (none_repeats mss xs h);
              };
            }
      ]

  accepted_gives : (mss : List Members) (xs : List X) → IsAcceptedTable rules mss xs → entries_of rules mss ≡ Ok xs
  unfolding entries_from
  accepted_gives mss xs is =
      let none = pairs_by_recursion (λ x y. rules.repeats x y ≡ false) xs is.accepted.distinct in
      let walked = past 0 [] mss [] xs is.accepted.good none in
      few_is mss is.few ∙ subst (λ (l : List Members). entries_from rules 0 [] l ≡ Ok xs) (append-nil mss) walked

  refused_is : (mss : List Members) (error : ConfigError) → entries_of rules mss ≡ Err error → IsRefusedTable rules mss error
  refused_is mss error h =
      elim (few_or_many mss) [
        | inl lt ↦ let k = sym (many_is mss lt) ∙ h in inl (lt, cc)
        | inr le ↦
            let r = refused_from 0 [] mss error tt (sym (few_is mss le) ∙ h) in
            let count : 0 + length r.before ≡ length r.before = omega arith in
            inr (
              le,
              record {
                before = r.before;
                entry = r.entry;
                after = r.after;
                parts = r.parts;
                earlier = r.more;
                accepted = record { good = r.good; distinct = pairs_at (λ x y. rules.repeats x y ≡ false) r.more r.none };
                refused = subst (λ (n : ℕ). IsRefusal rules r.more (entry_at rules n r.entry) error) count r.refused;
              },
            )
      ]

  refused_gives : (mss : List Members) (error : ConfigError) → IsRefusedTable rules mss error → entries_of rules mss ≡ Err error
  unfolding entries_from
  refused_gives mss error (inl (lt, same)) = many_is mss lt ∙ ap Err (sym same)
  refused_gives mss error (inr (le, r)) =
      let none = pairs_by_recursion (λ x y. rules.repeats x y ≡ false) r.earlier r.accepted.distinct in
      let walked = past 0 [] r.before (r.entry ∷ r.after) r.earlier r.accepted.good none in
      let count : 0 + length r.before ≡ length r.before = omega arith in
      let own = refusal_gives r.earlier (entry_at rules (length r.before) r.entry) error r.refused in
      let all : entries_from rules 0 [] (r.before ++ r.entry ∷ r.after) ≡ Err error = walked ∙ ap (λ (n : ℕ). entries_from rules n r.earlier (r.entry ∷ r.after)) count ∙ stopped r.earlier (length r.before) r.entry r.after error own in
      few_is mss le ∙ ap (entries_from rules 0 []) r.parts ∙ all

pub tables_accepted : {X : Type 0} (rules : Rules X) (mss : List Members) (xs : List X) → (entries_of rules mss ≡ Ok xs) ↔ IsAcceptedTable rules mss xs
tables_accepted rules mss xs = (accepted_is rules mss xs, accepted_gives rules mss xs)

pub tables_refused : {X : Type 0} (rules : Rules X) (mss : List Members) (error : ConfigError) → (entries_of rules mss ≡ Err error) ↔ IsRefusedTable rules mss error
tables_refused rules mss error = (refused_is rules mss error, refused_gives rules mss error)
