-- The last row that passes a test, and the rows after it.
use Rattle.std.proofs.Common.{◌≡◌, Bool, true, false, cond, List, [], ◌∷◌, ◌++◌, Option, Some, None, refl, ap, sym, ◌∙◌}
use Rattle.std.specs.Prelude.{All, option_map}
use Rattle.std.specs.Option.{option_or}
use Rattle.std.proofs.lemmas.List.Elements.{All-head, All-tail}
use Rattle.sig_base.specs.declared.values.Row.{Row}
use Rattle.sig_base.proofs.Common.{or_none}
use Rattle.hour_sweep.specs.Rows.{kept_last, last_with, last}

abbrev pub pushed_last : {X : Type 0} → Bool → X → Option (X × List X) → Option (X × List X)
pushed_last true y o = Some (y, [])
pushed_last false y None = None
pushed_last false y (Some f) = Some (f.0, f.1 ++ y ∷ [])

pub kept_pushed : {X : Type 0} (b c : Bool) (o : Option (X × List X)) (x y : X) (xs : List X) → kept_last (pushed_last b y o) c x (xs ++ y ∷ []) ≡ pushed_last b y (kept_last o c x xs)
kept_pushed true c o x y xs = refl
kept_pushed false c (Some f) x y xs = refl
kept_pushed false true None x y xs = refl
kept_pushed false false None x y xs = refl

pub last_with-push : {X : Type 0} (p : X → Bool) (xs : List X) (y : X) → last_with p (xs ++ y ∷ []) ≡ pushed_last (p y) y (last_with p xs)
last_with-push p [] y = elim (p y) as (λ b. kept_last None b y [] ≡ pushed_last b y None) [ true ↦ refl | false ↦ refl ]
last_with-push p (x ∷ xs) y = rw (last_with-push p xs y) (kept_pushed (p y) (p x) (last_with p xs) x y xs)

last_pushed : (b : Bool) (y : Row) (o : Option (Row × List Row)) → option_map (λ f. f.0) (pushed_last b y o) ≡ cond b (Some y) (option_map (λ f. f.0) o)
last_pushed true y o = refl
last_pushed false y None = refl
last_pushed false y (Some f) = refl

pub last-push : (p : Row → Bool) (xs : List Row) (y : Row) → last p (xs ++ y ∷ []) ≡ cond (p y) (Some y) (last p xs)
last-push p xs y = ap (λ o. option_map (λ f. f.0) o) (last_with-push p xs y) ∙ last_pushed (p y) y (last_with p xs)

pub last_same : (p q : Row → Bool) (xs : List Row) → All (λ z. p z ≡ q z) xs → last_with p xs ≡ last_with q xs
last_same p q [] h = refl
last_same p q (x ∷ xs) h = rw (last_same p q xs (All-tail (λ z. p z ≡ q z) x xs h), All-head (λ z. p z ≡ q z) x xs h) refl

-- what holds of all rows holds of the last one that passes and of those after it
abbrev pub AllLast : (Row → Type 0) → Option (Row × List Row) → Type 0
AllLast P None = Unit {0}
AllLast P (Some f) = P f.0 × All P f.1

pub kept_all : (P : Row → Type 0) (o : Option (Row × List Row)) (b : Bool) (x : Row) (xs : List Row) → AllLast P o → P x → All P xs → AllLast P (kept_last o b x xs)
kept_all P (Some f) b x xs h now more = h
kept_all P None true x xs h now more = (now, more)
kept_all P None false x xs h now more = tt

pub last_with_all : (P : Row → Type 0) (p : Row → Bool) (xs : List Row) → All P xs → AllLast P (last_with p xs)
last_with_all P p [] h = tt
last_with_all P p (x ∷ xs) h = kept_all P (last_with p xs) (p x) x xs (last_with_all P p xs (All-tail P x xs h)) (All-head P x xs h) (All-tail P x xs h)

last_kept : (o : Option (Row × List Row)) (b : Bool) (x : Row) (xs : List Row) → option_map (λ f. f.0) (kept_last o b x xs) ≡ option_or (option_map (λ f. f.0) o) (cond b (Some x) None)
last_kept (Some f) b x xs = refl
last_kept None true x xs = refl
last_kept None false x xs = refl

pub last-cons : (p : Row → Bool) (x : Row) (xs : List Row) → last p (x ∷ xs) ≡ option_or (last p xs) (cond (p x) (Some x) None)
last-cons p x xs = last_kept (last_with p xs) (p x) x xs

or_assoc : (a b c : Option Row) → option_or a (option_or b c) ≡ option_or (option_or a b) c
or_assoc (Some x) b c = refl
or_assoc None b c = refl

pub last-append : (p : Row → Bool) (xs ys : List Row) → last p (xs ++ ys) ≡ option_or (last p ys) (last p xs)
last-append p [] ys = sym (or_none (last p ys))
last-append p (x ∷ xs) ys = last-cons p x (xs ++ ys) ∙ ap (λ o. option_or o (cond (p x) (Some x) None)) (last-append p xs ys) ∙ sym (or_assoc (last p ys) (last p xs) (cond (p x) (Some x) None)) ∙ ap (λ o. option_or (last p ys) o) (sym (last-cons p x xs))
