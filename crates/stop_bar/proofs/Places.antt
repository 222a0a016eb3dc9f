-- Lists place by place.
use Rattle.std.proofs.Common.{suc, zero, ◌≡◌, refl, ap, sym, ◌∙◌, ℕ, ◌+◌, ◌<◌, true, Option, Some, None, List, [], ◌∷◌, ◌++◌, length, take, get_or, false, nat_lt, Bor, arith}
use Rattle.std.specs.Prelude.{All, IfSome, filter_map, is_some, option_copied, slice_get}
use Rattle.std.proofs.lemmas.Bool.{lt-ltb}
use Rattle.std.proofs.lemmas.Option.{get_or_from_slice_get, slice_get_within}
use Rattle.std.proofs.lemmas.List.{append-nil, take_more}
use Rattle.std.proofs.lemmas.List.Elements.{All-append, All-cons, All-nil, filter_map-append}
use Rattle.ring_config.specs.declared.items.Approach.{Approach}
use Rattle.stop_bar.specs.declared.bars.StopBar.{StopBar}
use Rattle.stop_bar.specs.All.{bar_with}
use Rattle.stop_bar.specs.Lists.{Each}

-- what f gives of the first places and of one more
pub given_more : {A B : Type 0} (f : A → Option B) (xs : List A) (i : ℕ) (d : A) → i < length xs → filter_map f (take (i + 1) xs) ≡ filter_map f (take i xs) ++ filter_map f (get_or xs i d ∷ [])
given_more f xs i d lt = ap (λ ys. filter_map f ys) (take_more xs i d lt) ∙ filter_map-append f (take i xs) (get_or xs i d ∷ [])

pub given_none : {A B : Type 0} (f : A → Option B) (xs : List A) (i : ℕ) (d : A) (ys : List B) → i < length xs → ys ≡ filter_map f (take i xs) → f (get_or xs i d) ≡ None → ys ≡ filter_map f (take (i + 1) xs)
given_none f xs i d ys lt h e =
    let more = given_more f xs i d lt in
    h ∙ sym (more ∙ (rw e (append-nil (filter_map f (take i xs)))))

pub given_one : {A B : Type 0} (f : A → Option B) (xs : List A) (i : ℕ) (d : A) (y : B) (ys new : List B) → i < length xs → ys ≡ filter_map f (take i xs) → f (get_or xs i d) ≡ Some y → new ≡ ys ++ y ∷ [] → new ≡ filter_map f (take (i + 1) xs)
given_one f xs i d y ys new lt h e n =
    let more = given_more f xs i d lt in
    n ∙ (ap (λ zs. zs ++ y ∷ []) h ∙ sym (more ∙ (rw e refl)))

pub all_one : {B : Type 0} (P : B → Type 0) (ys new : List B) (y : B) → All P ys → P y → new ≡ ys ++ y ∷ [] → All P new
all_one P ys new y h p e = rw e (All-append P ys (y ∷ []) h (All-cons P y [] p (All-nil P)))

-- ---- pairs

pub each_more : {A B : Type 0} (R : A → B → Type 0) (xs : List A) (ys : List B) (x : A) (y : B) → Each R xs ys → R x y → Each R (xs ++ x ∷ []) (ys ++ y ∷ [])
each_more R [] [] x y h r = (r, tt)
each_more R [] (b ∷ ys) x y h r = absurd h
each_more R (a ∷ xs) [] x y h r = absurd h
each_more R (a ∷ xs) (b ∷ ys) x y h r = (h.0, each_more R xs ys x y h.1 r)

pub each_at : {A B : Type 0} (R : A → B → Type 0) (xs : List A) (ys : List B) (i : ℕ) (d : A) → Each R xs ys → i < length xs → (y : B) × (slice_get ys i ≡ Some y) × R (get_or xs i d) y
each_at R [] ys i d h lt = absurd (omega arith)
each_at R (x ∷ xs) [] i d h lt = absurd h
each_at R (x ∷ xs) (y ∷ ys) zero d h lt = (y, refl, h.0)
each_at R (x ∷ xs) (y ∷ ys) (suc i) d h lt = each_at R xs ys i d h.1 (omega arith)

-- ---- stop bars

pub bar_phase : (a : Approach) (o : Option ℕ) (b : StopBar) → bar_with a o ≡ Some b → b.phase ≡ a.phase
bar_phase a None b e = absurd (cc)
bar_phase a (Some d) b e = cc

-- what a shared place holds
pub held : {A : Type 0} (o : Option (Bor A)) (r : Bor A) (x : A) → o ≡ Some r → option_copied o ≡ Some x → r.now ≡ x
held None r x e f = absurd (cc)
held (Some q) r x e f = cc

-- what is looked up at a place
pub looked : {A : Type 0} (r : Option (Bor A)) (xs : List A) (i : ℕ) (y : A) → is_some r ≡ nat_lt i (length xs) → IfSome r (λ z. z.now ≡ get_or xs i z.now) → slice_get xs i ≡ Some y → option_copied r ≡ Some y
looked None xs i y s h e =
    let t = lt-ltb i (length xs) (slice_get_within xs i y e) in
    absurd (let bad : false ≡ true = s ∙ t in cc)
looked (Some z) xs i y s h e = ap (λ v. Some v) (h ∙ get_or_from_slice_get xs i y z.now e)
