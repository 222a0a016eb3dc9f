-- A service that began before a point was open there.
use Rattle.std.proofs.Common.{suc, zero, ◌≡◌, refl, ap, sym, ◌∙◌, subst, inl, inr, ℕ, ◌+◌, ◌-◌, ◌<◌, ◌≤◌, Bool, true, false, not, ◌&&◌, ◌||◌, Option, Some, None, List, [], ◌∷◌, ◌++◌, arith}
use Rattle.std.specs.Prelude.{All, find, min}
use Rattle.std.specs.List.{list_any}
use Rattle.std.specs.Option.{option_or}
use Rattle.std.proofs.lemmas.Bool.{and_parts, cases_Bool, leb-true, le-leb}
use Rattle.std.proofs.lemmas.List.Elements.{All-head, All-tail}
use Rattle.std.proofs.lemmas.List.Folds.{find-append, list_any-append}
use Rattle.sig_base.specs.declared.values.Row.{Row}
use Rattle.sig_base.proofs.Common.{not_true, some_same}
use Rattle.hour_sweep.specs.Rows.{kept_last, last_with, live, since}
use Rattle.hour_sweep.proofs.Places.{AllLast, last_with_all}
use Rattle.hour_sweep.proofs.Known.{since_le}
use Rattle.service_cut.specs.declared.items.Service.{Service}
use Rattle.service_cut.specs.declared.services.ServiceBegun.{ServiceBegun}
use Rattle.service_cut.specs.Signs.{is_begin, is_change, is_end, is_yellow, sign}
use Rattle.service_cut.specs.Services.{is_over, service_at, service_begun, service_begun_in, service_begun_of, service_of, whole_service}
use Rattle.stop_bar.specs.Going.{ServicesGoOn, tenth_or}

since_less : (known : ℕ → Bool) (d t : ℕ) → since known t ≤ since known (t + d)
since_less known zero t = let e : t ≡ t + 0 = omega arith in subst (λ (x : ℕ). since known t ≤ since known x) e (omega arith)
since_less known (suc d) t =
    let e : suc (t + d) ≡ t + suc d = omega arith in
    let before = since_less known d t in
    let low = since_le known t in
    let one : since known t ≤ since known (suc (t + d)) = elim (cases_Bool (known (t + d))) [ inl is ↦ rw is before | inr un ↦ rw un (omega arith) ] in
    subst (λ (x : ℕ). since known t ≤ since known x) e one

pub live_less : (known : ℕ → Bool) (a t u : ℕ) → t ≤ u → live known a u ≡ true → live known a t ≡ true
unfolding live
live_less known a t u le e =
    let d : ℕ = u - t in
    let same : t + d ≡ u = omega arith in
    let less = subst (λ (x : ℕ). since known t ≤ since known x) same (since_less known d t) in
    let high = leb-true (since known u) a e in
    le-leb (since known t) a (omega arith)

abbrev pub Found : Type 0
Found = Option (Row × List Row)

-- the last of two lists
abbrev pub joined : Found → List Row → Found → Found
joined a ys (Some f) = Some f
joined None ys None = None
joined (Some (x, after)) ys None = Some (x, after ++ ys)

kept_joined : (a f : Found) (b : Bool) (x : Row) (xs ys : List Row) → kept_last (joined a ys f) b x (xs ++ ys) ≡ joined (kept_last a b x xs) ys f
kept_joined a (Some f) b x xs ys = refl
kept_joined (Some a) None b x xs ys = refl
kept_joined None None true x xs ys = refl
kept_joined None None false x xs ys = refl

none_joined : (f : Found) (ys : List Row) → f ≡ joined None ys f
none_joined None ys = refl
none_joined (Some f) ys = refl

pub last_joined : (q : Row → Bool) (xs ys : List Row) → last_with q (xs ++ ys) ≡ joined (last_with q xs) ys (last_with q ys)
last_joined q [] ys = none_joined (last_with q ys) ys
last_joined q (x ∷ xs) ys = ap (λ o. kept_last o (q x) x (xs ++ ys)) (last_joined q xs ys) ∙ kept_joined (last_with q xs) (last_with q ys) (q x) x xs ys

or_false : (a b : Bool) → (a || b) ≡ false → a ≡ false
or_false true b e = e
or_false false b e = refl

pub over_less : (p : ℕ) (xs ys : List Row) → is_over p (xs ++ ys) ≡ false → is_over p xs ≡ false
over_less p [] ys e = refl
over_less p (x ∷ xs) ys e = elim (cases_Bool (is_yellow (sign p x))) [
  | inl is ↦ rw is (or_false (list_any (λ z. is_end (sign p z)) xs) (list_any (λ z. is_end (sign p z)) ys) (sym (list_any-append (λ z. is_end (sign p z)) xs ys) ∙ rw is at e))
  | inr un ↦ rw un (over_less p xs ys (rw un at e))
]

-- what a whole service takes from its begin
record Takes (o : ServiceBegun) (s : Service) : Type 0 where
  begin : s.b ≡ o.b.at
  change : (x : Row) × (o.g ≡ Some x) × (s.g ≡ x.at)

takes_of : (p : ℕ) (o : ServiceBegun) (r : Row) (later : List Row) (g y : Option Row) (s : Service) → o.g ≡ g → service_of p o r later g y ≡ Some s → Takes o s
takes_of p o r later None y s e h = absurd (cc)
takes_of p o r later (Some g) None s e h = absurd (cc)
takes_of p o r later (Some g) (Some y) s e h =
    let same = some_same _ s h in
    record { begin = ap (λ (z : Service). z.b) (sym same); change = (g, e, ap (λ (z : Service). z.g) (sym same)) }

pub all_found : (P : Row → Type 0) (q : Row → Bool) (xs : List Row) (x : Row) → All P xs → find q xs ≡ Some x → P x
all_found P q [] x h e = absurd (cc)
all_found P q (z ∷ zs) x h e = elim (cases_Bool (q z)) [
  | inl is ↦ (let same : Some z ≡ Some x = rw is at e in let one : z ≡ x = cc in subst P one (All-head P z zs h))
  | inr un ↦ all_found P q zs x (All-tail P z zs h) (rw un at e)
]

abbrev GoesOn : (ℕ → Bool) → ℕ → ℕ → Found → Service → Type 0
GoesOn known p t a s = (o : ServiceBegun) × (service_begun_in known t p a ≡ Some o) × (o.b.at ≡ s.b) × (tenth_or t o.g ≡ min s.g t)

by_first : (p t : ℕ) (after front : List Row) (x : Row) (g : ℕ) → All (λ z. z.at < t) after → All (λ z. t ≤ z.at) front → (o : Option Row) → find (λ z. is_change (sign p z)) after ≡ o → option_or o (find (λ z. is_change (sign p z)) front) ≡ Some x → g ≡ x.at → tenth_or t o ≡ min g t
by_first p t after front x g early late (Some y) is e eg =
    let same : y ≡ x = some_same y x e in
    let lt = all_found (λ z. z.at < t) (λ z. is_change (sign p z)) after y early is in
    let at : y.at ≡ x.at = ap (λ (z : Row). z.at) same in
    omega arith
by_first p t after front x g early late None is e eg =
    let ge = all_found (λ z. t ≤ z.at) (λ z. is_change (sign p z)) front x late e in
    omega arith

green_end : (p t : ℕ) (after front : List Row) (x : Row) (g : ℕ) → All (λ z. z.at < t) after → All (λ z. t ≤ z.at) front → find (λ z. is_change (sign p z)) (after ++ front) ≡ Some x → g ≡ x.at → tenth_or t (find (λ z. is_change (sign p z)) after) ≡ min g t
green_end p t after front x g early late e eg =
    let q : Row → Bool = λ z. is_change (sign p z) in
    let split : option_or (find q after) (find q front) ≡ Some x = sym (find-append q after front) ∙ e in
    by_first p t after front x g early late (find q after) refl split eg

goes_on : (known : ℕ → Bool) (p t : ℕ) (front : List Row) (r : Row) (later : List Row) (s : Service) (a f : Found) → AllLast (λ z. z.at < t) a → AllLast (λ z. t ≤ z.at) f → All (λ z. t ≤ z.at) front → t ≤ r.at → whole_service p (service_begun_in known r.at p (joined a front f)) r later ≡ Some s → s.b < t → GoesOn known p t a s
goes_on known p t front r later s a (Some (b, after)) early late all le e lt = absurd (
    elim (cases_Bool (live known b.at r.at && not (is_over p after))) [
      | inl is ↦ (let o = service_begun p b after in let takes = takes_of p o r later o.g o.y s refl (rw is at e) in let begin = takes.begin in let ge = late.0 in omega arith)
      | inr un ↦ (let bad : None ≡ Some s = rw un at e in absurd (cc))
    ]
    )
goes_on known p t front r later s None None early late all le e lt = absurd (cc)
goes_on known p t front r later s (Some (b, after)) None early late all le e lt = elim (cases_Bool (live known b.at r.at && not (is_over p (after ++ front)))) [
  | inl is ↦ (
      let o = service_begun p b (after ++ front) in
      let takes = takes_of p o r later o.g o.y s refl (rw is at e) in
      let (x, ex, gx) = takes.change in
      let parts = and_parts (live known b.at r.at) (not (is_over p (after ++ front))) is in
      let alive = live_less known b.at t r.at le parts.0 in
      let over = over_less p after front (not_true (is_over p (after ++ front)) parts.1) in
      (service_begun p b after, rw (alive, over) refl, sym takes.begin, green_end p t after front x s.g early.1 all ex gx)
      )
  | inr un ↦ (let bad : None ≡ Some s = rw un at e in absurd (cc))
]

pub services_go_on : ServicesGoOn
unfolding service_at service_begun_of
services_go_on known p t before front r later s early late le e lt =
    let B : Row → Bool = λ z. is_begin (sign p z) in
    elim (cases_Bool (is_end (sign p r))) [
      | inl is ↦ (
          let whole : whole_service p (service_begun_in known r.at p (last_with B (before ++ front))) r later ≡ Some s = rw is at e in
          let cut = subst (λ (o : Found). whole_service p (service_begun_in known r.at p o) r later ≡ Some s) (last_joined B before front) whole in
          goes_on known p t front r later s (last_with B before) (last_with B front) (last_with_all (λ z. z.at < t) B before early) (last_with_all (λ z. t ≤ z.at) B front late) late le cut lt
          )
      | inr un ↦ (let bad : None ≡ Some s = rw un at e in absurd (cc))
    ]
