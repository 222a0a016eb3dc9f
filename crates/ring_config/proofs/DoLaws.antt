-- What is known where a reading gave something.
use Rattle.std.proofs.Common.{◌≡◌, ℕ, ℤ, pos, negsuc, Bool, true, ◌&&◌, nat_le, Option, Some, None, Ok, Err, IfSome, option_map, option_and_then, inl, inr, refl, ap, subst, ◌∙◌}
use Rattle.std.proofs.lemmas.Bool.{cases_Bool, and_parts, leb-true}
use Rattle.std.proofs.lemmas.Option.{same_Some}
use Rattle.toml.specs.Data.{Data, as_integer}
use Rattle.ring_config.specs.declared.error.KeyAt.{KeyAt}
use Rattle.ring_config.specs.declared.error.KeyName.{KeyName}
use Rattle.ring_config.specs.Reading.{Read, ◌>>=◌, EntryData, place, value_at, good, present, required, defaulted, optional, or_default, or_missing}
use Rattle.ring_config.specs.Values.{passing, within, whole}
use Rattle.ring_config.specs.Sound.{IsBetween}

pub ok_is : {X : Type 0} (P : X → Type 0) (x y : X) → (let r : Read X = Ok x in r ≡ Ok y) → P x → P y
ok_is P x y e p = let same : x ≡ y = cc in subst P same p

pub bound : {A B : Type 0} (r : Read A) (f : A → Read B) (x : B) → (r >>= f) ≡ Ok x → (a : A) × (r ≡ Ok a) × (f a ≡ Ok x)
bound (Ok a) f x e = (a, refl, e)
bound (Err k) f x e = absurd cc

pub good_is : {X : Type 0} (at : KeyAt) (o : Option X) (x : X) → good at o ≡ Ok x → o ≡ Some x
good_is at (Some y) x e = let same : y ≡ x = cc in ap Some same
good_is at None x e = absurd cc

pub required_means : {X : Type 0} (means : Data → Option X) (key : KeyName) (e : EntryData) (x : X) → required means key e ≡ Ok x → (d : Data) × (means d ≡ Some x)
unfolding required
required_means means key e x h =
    let b = bound (present key e) (λ d. good (place key e) (means d)) x h in
    (b.0, good_is (place key e) (means b.0) x b.2)

present_is : (at : KeyAt) (v : Option Data) (d : Data) → or_missing at v ≡ Ok d → v ≡ Some d
present_is at None d e = absurd cc
present_is at (Some c) d e = let same : c ≡ d = cc in ap Some same

-- the same, with the value
pub required_value : {X : Type 0} (means : Data → Option X) (key : KeyName) (e : EntryData) (x : X) → required means key e ≡ Ok x → (d : Data) × (value_at key e ≡ Some d) × (means d ≡ Some x)
unfolding required
required_value means key e x h =
    let b = bound (present key e) (λ d. good (place key e) (means d)) x h in
    (b.0, present_is (place key e) (value_at key e) b.0 b.1, good_is (place key e) (means b.0) x b.2)

module _ {X : Type 0} (means : Data → Option X) (at : KeyAt) where
  mapped_is : (d : Data) (m : Option X) (o : Option X) → means d ≡ m → good at (option_map Some m) ≡ Ok o → IfSome o (λ x. (d : Data) × (means d ≡ Some x))
  mapped_is d None o e h = absurd cc
  mapped_is d (Some y) None e h = tt
  mapped_is d (Some y) (Some x) e h = let same : y ≡ x = cc in (d, e ∙ ap Some same)

  default_is : (v : Option Data) (o : Option X) → or_default None (λ d. option_map Some (means d)) at v ≡ Ok o → IfSome o (λ x. (d : Data) × (means d ≡ Some x))
  default_is None None h = tt
  default_is None (Some x) h = absurd cc
  default_is (Some d) o h = mapped_is d (means d) o refl h

pub optional_means : {X : Type 0} (means : Data → Option X) (key : KeyName) (e : EntryData) (o : Option X) → optional means key e ≡ Ok o → IfSome o (λ x. (d : Data) × (means d ≡ Some x))
unfolding defaulted
optional_means means key e o h = default_is means (place key e) (value_at key e) o h

pub passing_is : {X : Type 0} (test : X → Bool) (o : Option X) (x : X) → passing test o ≡ Some x → (o ≡ Some x) × (test x ≡ true)
passing_is test None x e = absurd cc
passing_is test (Some y) x e =
    elim (cases_Bool (test y)) [
      | inl t ↦ let h = rw t at e in let same : y ≡ x = same_Some y x h in (ap Some same, rw (← same) t)
      | inr f ↦ let h : None ≡ Some x = rw f at e in absurd cc
    ]

pub and_then_is : {X Y : Type 0} (f : X → Option Y) (o : Option X) (y : Y) → option_and_then f o ≡ Some y → (x : X) × (o ≡ Some x) × (f x ≡ Some y)
and_then_is f None y e = absurd cc
and_then_is f (Some x) y e = (x, refl, e)

pub map_is : {X Y : Type 0} (f : X → Y) (o : Option X) (y : Y) → option_map f o ≡ Some y → (x : X) × (o ≡ Some x) × (f x ≡ y)
map_is f None y e = absurd cc
map_is f (Some x) y e = (x, refl, same_Some (f x) y e)

within_is : (low high : ℕ) (z : Option ℤ) (n : ℕ) → within low high z ≡ Some n → IsBetween low high n
within_is low high None n e = absurd cc
within_is low high (Some (negsuc m)) n e = absurd cc
within_is low high (Some (pos m)) n e =
    elim (cases_Bool (nat_le low m && nat_le m high)) [
      | inl t ↦
          let h = rw t at e in
          let same : m ≡ n = same_Some m n h in
          let p = and_parts (nat_le low m) (nat_le m high) t in
          rw (← same) (leb-true low m p.0, leb-true m high p.1)
      | inr f ↦ let h : None ≡ Some n = rw f at e in absurd cc
    ]

integer_is : (low high : ℕ) (z : Option ℤ) (n : ℕ) → within low high z ≡ Some n → z ≡ Some (pos n)
integer_is low high None n e = absurd cc
integer_is low high (Some (negsuc m)) n e = absurd cc
integer_is low high (Some (pos m)) n e =
    elim (cases_Bool (nat_le low m && nat_le m high)) [
      | inl t ↦ let h = rw t at e in let same : m ≡ n = same_Some m n h in ap (λ (k : ℕ). let z : Option ℤ = Some (pos k) in z) same
      | inr f ↦ let h : None ≡ Some n = rw f at e in absurd cc
    ]

pub whole_integer : (low high : ℕ) (d : Data) (n : ℕ) → whole low high d ≡ Some n → as_integer d ≡ Some (pos n)
unfolding whole
whole_integer low high d n e = integer_is low high (as_integer d) n e

pub whole_between : (low high : ℕ) (d : Data) (n : ℕ) → whole low high d ≡ Some n → IsBetween low high n
unfolding whole
whole_between low high d n e = within_is low high (as_integer d) n e

pub required_between : (low high : ℕ) (key : KeyName) (e : EntryData) (n : ℕ) → required (whole low high) key e ≡ Ok n → IsBetween low high n
required_between low high key e n h = let r = required_means (whole low high) key e n h in whole_between low high r.0 n r.1

between_all : (low high : ℕ) (o : Option ℕ) → IfSome o (λ n. (d : Data) × (whole low high d ≡ Some n)) → IfSome o (IsBetween low high)
between_all low high None h = tt
between_all low high (Some n) h = whole_between low high h.0 n h.1

pub optional_between : (low high : ℕ) (key : KeyName) (e : EntryData) (o : Option ℕ) → optional (whole low high) key e ≡ Ok o → IfSome o (IsBetween low high)
optional_between low high key e o h = between_all low high o (optional_means (whole low high) key e o h)
