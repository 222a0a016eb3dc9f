-- What stands at keys, as the reading looks for it.
use Rattle.std.proofs.Common.{◌≡◌, ◌⊎◌, inl, inr, ◌<◌, ◌≤◌, ℕ, ℤ, pos, zero, suc, Bool, true, false, List, [], ◌∷◌, ◌++◌, length, map, Option, Some, None, Ok, Err, Contains, option_map, refl, sym, ap, subst, ◌∙◌, append_assoc, arith}
use Rattle.std.specs.Str.{bytes_eq}
use Rattle.std.specs.Ordering.{nat_cmp, is_eq, match_ordering}
use Rattle.std.specs.declared.cmp.Ordering.{Ordering}
use Rattle.std.specs.declared.cmp.Ordering.TheVariants.{Less, Equal, Greater}
use Rattle.std.specs.Cmp.Lexicographic.{slice_cmp}
use Rattle.std.proofs.lemmas.Bool.{cases_Bool, and_parts, le-leb}
use Rattle.std.proofs.lemmas.List.{append-nil}
use Rattle.std.proofs.lemmas.Map.Text.{is_eq-slice_cmp}
use Rattle.std.proofs.lemmas.Slice.Eq.{bytes_eq-Decides}
use Rattle.toml.specs.Data.{Data, string, integer, float, boolean, datetime, array, table, Items, no_items, item, Members, no_members, member, get_member, as_str, as_integer, as_bool, as_array}
use Rattle.ring_config.specs.declared.error.ConfigError.TheVariants.{Unknown}
use Rattle.ring_config.specs.declared.error.KeyAt.{KeyAt}
use Rattle.ring_config.specs.declared.error.KeyName.{KeyName}
use Rattle.ring_config.specs.declared.error.KeyName.TheVariants as keys
use Rattle.ring_config.specs.Reading.{EntryData, place, key_text, is_among, all_among, only, value_at, required, or_default, defaulted, optional}
use Rattle.ring_config.specs.Values.{whole, tables, tables_from}
use Rattle.ring_config.proofs.DoLaws.{good_is, required_value, whole_between, whole_integer, and_then_is}
use Rattle.config_laws.specs.Keys.{StandsAt, IsAbsent, HasOnly, HasOther, HasNumber, MayHaveNumber, AreTables, HasTables}

-- ---- values

pub string_from : (d : Data) (s : List ℕ) → as_str d ≡ Some s → d ≡ string s
string_from (string t) s e = let same : t ≡ s = cc in ap string same
string_from (integer z) s e = absurd cc
string_from (float x) s e = absurd cc
string_from (boolean b) s e = absurd cc
string_from (datetime x) s e = absurd cc
string_from (array ds) s e = absurd cc
string_from (table ms) s e = absurd cc

pub integer_from : (d : Data) (z : ℤ) → as_integer d ≡ Some z → d ≡ integer z
integer_from (string t) z e = absurd cc
integer_from (integer y) z e = let same : y ≡ z = cc in ap integer same
integer_from (float x) z e = absurd cc
integer_from (boolean b) z e = absurd cc
integer_from (datetime x) z e = absurd cc
integer_from (array ds) z e = absurd cc
integer_from (table ms) z e = absurd cc

pub boolean_from : (d : Data) (b : Bool) → as_bool d ≡ Some b → d ≡ boolean b
boolean_from (string t) b e = absurd cc
boolean_from (integer y) b e = absurd cc
boolean_from (float x) b e = absurd cc
boolean_from (boolean a) b e = let same : a ≡ b = cc in ap boolean same
boolean_from (datetime x) b e = absurd cc
boolean_from (array ds) b e = absurd cc
boolean_from (table ms) b e = absurd cc

pub array_from : (d : Data) (ds : Items) → as_array d ≡ Some ds → d ≡ array ds
array_from (string t) ds e = absurd cc
array_from (integer y) ds e = absurd cc
array_from (float x) ds e = absurd cc
array_from (boolean b) ds e = absurd cc
array_from (datetime x) ds e = absurd cc
array_from (array is) ds e = let same : is ≡ ds = cc in ap array same
array_from (table ms) ds e = absurd cc

-- ---- keys that are listed

found_at : (o : Ordering) (d e : Data) (rest : Option Data) → rest ≡ Some e → (v : Data) × (match_ordering o rest (Some d) rest ≡ Some v)
found_at Less d e rest h = (e, h)
found_at Equal d e rest h = (d, refl)
found_at Greater d e rest h = (e, h)

-- what stands at a key still does behind another member
still_there : (key text : List ℕ) (d e : Data) (ms : Members) → StandsAt key ms e → (v : Data) × StandsAt key (member text d ms) v
still_there key text d e ms h = found_at (slice_cmp nat_cmp key text) d e (get_member key ms) h

own_is : (o : Ordering) (d : Data) (rest : Option Data) → is_eq o ≡ true → match_ordering o rest (Some d) rest ≡ Some d
own_is Less d rest e = absurd cc
own_is Equal d rest e = refl
own_is Greater d rest e = absurd cc

own_there : (text : List ℕ) (d : Data) (ms : Members) → StandsAt text (member text d ms) d
own_there text d ms =
    own_is (slice_cmp nat_cmp text text) d (get_member text ms) (is_eq-slice_cmp text text ∙ (bytes_eq-Decides text text).1 refl)

other_is : (o : Ordering) (d e : Data) (rest : Option Data) → match_ordering o rest (Some d) rest ≡ Some e → (is_eq o ≡ true) ⊎ (rest ≡ Some e)
other_is Less d e rest h = inr h
other_is Equal d e rest h = inl refl
other_is Greater d e rest h = inr h

among_any : (listed : List KeyName) (text : List ℕ) → is_among listed text ≡ true → Contains (map key_text listed) text
among_any [] text h = absurd cc
among_any (key ∷ listed) text h =
    elim (cases_Bool (bytes_eq (key_text key) text)) [
      | inl t ↦ (0, omega arith, (bytes_eq-Decides (key_text key) text).0 t)
      | inr f ↦ let c = among_any listed text (rw f at h) in (suc c.0, (let lt : c.0 < length (map key_text listed) = c.1 in omega arith), c.2)
    ]

any_among : (listed : List KeyName) (text : List ℕ) → Contains (map key_text listed) text → is_among listed text ≡ true
any_among [] text h = let lt : h.0 < 0 = h.1 in absurd (omega arith)
any_among (key ∷ listed) text (zero, lt, same) = rw ((bytes_eq-Decides (key_text key) text).1 same) refl
any_among (key ∷ listed) text (suc k, lt, same) =
    elim (cases_Bool (bytes_eq (key_text key) text)) [
      | inl t ↦ rw t refl
      | inr f ↦ rw f (any_among listed text (k, (let le : suc k < length (map key_text (key ∷ listed)) = lt in omega arith), same))
    ]

all_listed : (listed : List KeyName) (ms : Members) → all_among listed ms ≡ true → HasOnly (map key_text listed) ms
all_listed listed no_members h key d there = absurd cc
all_listed listed (member text e ms) h key d there =
    let b = and_parts (is_among listed text) (all_among listed ms) h in
    elim (other_is (slice_cmp nat_cmp key text) e d (get_member key ms) there) [
      | inl same ↦
          let is : key ≡ text = (bytes_eq-Decides key text).0 (sym (is_eq-slice_cmp key text) ∙ same) in
          rw is (among_any listed text b.0)
      | inr rest ↦ all_listed listed ms b.1 key d rest
    ]

listed_all : (listed : List KeyName) (ms : Members) → HasOnly (map key_text listed) ms → all_among listed ms ≡ true
listed_all listed no_members h = refl
listed_all listed (member text e ms) h =
    let own = any_among listed text (h text e (own_there text e ms)) in
    let rest = listed_all listed ms (λ key d there. let s = still_there key text e d ms there in h key s.0 s.1) in
    rw (own, rest) refl

not_listed : (listed : List KeyName) (ms : Members) → all_among listed ms ≡ false → HasOther (map key_text listed) ms
not_listed listed no_members h = absurd cc
not_listed listed (member text e ms) h =
    elim (cases_Bool (is_among listed text)) [
      | inl t ↦
          let o = not_listed listed ms (rw t at h) in
          let s = still_there o.key text e o.value ms o.there in
          record { key = o.key; value = s.0; there = s.1; other = o.other }
      | inr f ↦ record { key = text; value = e; there = own_there text e ms; other = λ c. let t = any_among listed text c in absurd cc }
    ]

-- an entry has only the listed keys where the reading says so
pub only_is : (listed : List KeyName) (e : EntryData) → only listed e ≡ Ok tt → HasOnly (map key_text listed) e.members
unfolding only
only_is listed e h =
    elim (cases_Bool (all_among listed e.members)) [
      | inl t ↦ all_listed listed e.members t
      | inr f ↦ let k = rw f at h in absurd cc
    ]

pub only_gives : (listed : List KeyName) (e : EntryData) → HasOnly (map key_text listed) e.members → only listed e ≡ Ok tt
unfolding only
only_gives listed e h = rw (listed_all listed e.members h) refl

pub other_gives : (listed : List KeyName) (e : EntryData) → HasOther (map key_text listed) e.members → only listed e ≡ Err (Unknown (place keys.Other e))
unfolding only
other_gives listed e h =
    elim (cases_Bool (all_among listed e.members)) [
      | inl t ↦ absurd (h.other (all_listed listed e.members t h.key h.value h.there))
      | inr f ↦ rw f refl
    ]

-- an entry has only the listed keys or another one
pub only_or_other : (listed : List KeyName) (e : EntryData) → ((only listed e ≡ Ok tt) × HasOnly (map key_text listed) e.members) ⊎ HasOther (map key_text listed) e.members
unfolding only
only_or_other listed e =
    elim (cases_Bool (all_among listed e.members)) [
      | inl t ↦ inl (rw t refl, all_listed listed e.members t)
      | inr f ↦ inr (not_listed listed e.members f)
    ]

-- ---- what is read at a key

module _ {X : Type 0} (means : Data → Option X) (key : KeyName) (e : EntryData) where
  pub required_gives : (d : Data) (x : X) → StandsAt (key_text key) e.members d → means d ≡ Some x → required means key e ≡ Ok x
  unfolding required
  required_gives d x there is = rw (there, is) refl

  pub absent_gives : (y : X) → IsAbsent (key_text key) e.members → defaulted y means key e ≡ Ok y
  unfolding defaulted
  absent_gives y none = rw none refl

  pub there_gives : (y : X) (d : Data) (x : X) → StandsAt (key_text key) e.members d → means d ≡ Some x → defaulted y means key e ≡ Ok x
  unfolding defaulted
  there_gives y d x there is = rw (there, is) refl

  default_at : (y : X) (at : KeyAt) (v : Option Data) (x : X) → or_default y means at v ≡ Ok x → ((v ≡ None) × (x ≡ y)) ⊎ ((d : Data) × (v ≡ Some d) × (means d ≡ Some x))
  default_at y at None x h = let same : x ≡ y = cc in inl (refl, same)
  default_at y at (Some d) x h = inr (d, refl, good_is at (means d) x h)

  pub defaulted_value : (y x : X) → defaulted y means key e ≡ Ok x → (IsAbsent (key_text key) e.members × (x ≡ y)) ⊎ ((d : Data) × StandsAt (key_text key) e.members d × (means d ≡ Some x))
  unfolding defaulted
  defaulted_value y x h = default_at y (place key e) (value_at key e) x h

-- ---- numbers

pub whole_is : (low high : ℕ) (d : Data) (n : ℕ) → whole low high d ≡ Some n → (d ≡ integer (pos n)) × (low ≤ n) × (n ≤ high)
whole_is low high d n h =
    let b = whole_between low high d n h in
    (integer_from d (pos n) (whole_integer low high d n h), b.0, b.1)

pub whole_gives : (low high n : ℕ) → low ≤ n → n ≤ high → whole low high (integer (pos n)) ≡ Some n
unfolding whole
whole_gives low high n least most = rw (le-leb low n least, le-leb n high most) refl

module _ (low high : ℕ) (key : KeyName) (e : EntryData) where
  pub number_there : (n : ℕ) (d : Data) → StandsAt (key_text key) e.members d → whole low high d ≡ Some n → HasNumber low high (key_text key) e.members n
  number_there n d there is =
      let w = whole_is low high d n is in
      record { there = there ∙ ap Some w.0; least = w.1; most = w.2 }

  pub number_is : (n : ℕ) → required (whole low high) key e ≡ Ok n → HasNumber low high (key_text key) e.members n
  number_is n h = let r = required_value (whole low high) key e n h in number_there n r.0 r.1 r.2

  pub number_gives : (n : ℕ) → HasNumber low high (key_text key) e.members n → required (whole low high) key e ≡ Ok n
  number_gives n h = required_gives (whole low high) key e (integer (pos n)) n h.there (whole_gives low high n h.least h.most)

  some_is : (d : Data) (o : Option ℕ) (v : Option ℕ) → whole low high d ≡ v → option_map Some v ≡ Some o → (n : ℕ) × (o ≡ Some n) × (whole low high d ≡ Some n)
  some_is d o None e h = absurd cc
  some_is d o (Some n) e h = let same : o ≡ Some n = cc in (n, same, e)

  pub optional_is : (o : Option ℕ) → optional (whole low high) key e ≡ Ok o → MayHaveNumber low high (key_text key) e.members o
  optional_is o h =
      elim (defaulted_value (λ d. option_map Some (whole low high d)) key e None o h) [
        | inl a ↦ rw a.1 a.0
        | inr v ↦ let s = some_is v.0 o (whole low high v.0) refl v.2 in rw s.1 (number_there s.0 v.0 v.1 s.2)
      ]

  pub optional_gives : (o : Option ℕ) → MayHaveNumber low high (key_text key) e.members o → optional (whole low high) key e ≡ Ok o
  optional_gives None h = absent_gives (λ d. option_map Some (whole low high d)) key e None h
  optional_gives (Some n) h = there_gives (λ d. option_map Some (whole low high d)) key e None (integer (pos n)) (Some n) h.there (rw (whole_gives low high n h.least h.most) refl)

-- ---- arrays of tables

tables_found : (found : List Members) (ds : Items) (mss : List Members) → tables_from found ds ≡ Some mss → (rest : List Members) × (mss ≡ found ++ rest) × AreTables ds rest
unfolding tables_from
tables_found found no_items mss h = ([], (let same : found ≡ mss = cc in sym same ∙ sym (append-nil found)), tt)
tables_found found (item (table ms) ds) mss h =
    let r = tables_found (found ++ ms ∷ []) ds mss h in
    (ms ∷ r.0, r.1 ∙ append_assoc found (ms ∷ []) r.0, (refl, r.2))
tables_found found (item (string s) ds) mss h = absurd cc
tables_found found (item (integer z) ds) mss h = absurd cc
tables_found found (item (float x) ds) mss h = absurd cc
tables_found found (item (boolean b) ds) mss h = absurd cc
tables_found found (item (datetime x) ds) mss h = absurd cc
tables_found found (item (array es) ds) mss h = absurd cc

tables_give : (found : List Members) (ds : Items) (rest : List Members) → AreTables ds rest → tables_from found ds ≡ Some (found ++ rest)
unfolding tables_from
tables_give found no_items [] h = ap Some (sym (append-nil found))
tables_give found no_items (ms ∷ mss) h = absurd h
tables_give found (item d ds) [] h = absurd h
tables_give found (item d ds) (ms ∷ mss) h =
    subst (λ (c : Data). tables_from found (item c ds) ≡ Some (found ++ ms ∷ mss)) (sym h.0) (tables_give (found ++ ms ∷ []) ds mss h.1 ∙ ap Some (append_assoc found (ms ∷ []) mss))

pub tables_are : (key : KeyName) (e : EntryData) (mss : List Members) → defaulted [] tables key e ≡ Ok mss → HasTables (key_text key) e.members mss
unfolding tables
tables_are key e mss h =
    elim (defaulted_value tables key e [] mss h) [
      | inl a ↦ inl a
      | inr v ↦
          let a = and_then_is (tables_from []) (as_array v.0) mss v.2 in
          let t = tables_found [] a.0 mss a.2 in
          inr (a.0, v.1 ∙ ap Some (array_from v.0 a.0 a.1), subst (AreTables a.0) (sym t.1) t.2)
    ]

pub tables_gives : (key : KeyName) (e : EntryData) (mss : List Members) → HasTables (key_text key) e.members mss → defaulted [] tables key e ≡ Ok mss
unfolding tables
tables_gives key e mss (inl a) = rw a.1 (absent_gives tables key e [] a.0)
tables_gives key e mss (inr t) = there_gives tables key e [] (array t.0) mss t.1 (tables_give [] t.0 mss t.2)
