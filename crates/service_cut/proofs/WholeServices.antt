-- A whole service in its own words.
use Rattle.std.proofs.Common.{◌≡◌, ℕ, ◌≤◌, Bool, true, false, not, ◌&&◌, cond, List, [], ◌∷◌, ◌++◌, Option, Some, None, refl, ap, sym, subst, ◌∙◌, arith, inl, inr}
use Rattle.std.specs.Prelude.{All, find}
use Rattle.std.specs.List.{list_any}
use Rattle.std.specs.Option.{option_or}
use Rattle.std.proofs.lemmas.List.Elements.{All-nil, All-cons, All-head, All-tail}
use Rattle.std.proofs.lemmas.Bool.{cases_Bool, cases_eq, cases_lt, and_parts, le-leb, not-true, or_parts}
use Rattle.sig_base.specs.declared.values.Row.{Row}
use Rattle.sig_base.proofs.Common.{or_none}
use Rattle.hour_sweep.specs.Rows.{kept_last, last_with, last, since, live}
use Rattle.hour_sweep.proofs.Places.{last-append, last-cons}
use Rattle.hour_sweep.proofs.Known.{since_le, since_known, live_here, live_lost}
use Rattle.service_cut.specs.declared.items.Service.{Service}
use Rattle.service_cut.specs.declared.signs.Sign.{Sign}
use Rattle.service_cut.specs.declared.signs.Sign.TheVariants.{Begin, Change, Yellow, End, Cause, Other}
use Rattle.service_cut.specs.Signs.{sign, is_begin, is_change, is_yellow, is_end, is_cause}
use Rattle.service_cut.specs.Services.{is_over, is_within, cause_in, service_begun_in, service_begun_of, termination, service_of, whole_service, service_at}
use Rattle.service_cut.specs.Whole.{IsFirst, IsLast, AllKnown, IsService}

-- first

pub find_at : (p : Row → Bool) (front : List Row) (x : Row) (back : List Row) → All (λ z. p z ≡ false) front → p x ≡ true → find p (front ++ x ∷ back) ≡ Some x
find_at p [] x back n h = rw h refl
find_at p (z ∷ front) x back n h = rw (All-head (λ z. p z ≡ false) z front n) (find_at p front x back (All-tail (λ z. p z ≡ false) z front n) h)

pub find_split : (p : Row → Bool) (xs : List Row) (x : Row) → find p xs ≡ Some x → (front : List Row) × (back : List Row) × IsFirst p xs x front back
find_split p [] x e = cc
find_split p (z ∷ xs) x e =
    elim (cases_Bool (p z)) [
      | inl h ↦
          let same : z ≡ x = let f : Some z ≡ Some x = rw h at e in cc in
          ([], xs, record { joined = ap (λ v. v ∷ xs) same; passes = rw (← same) h; none = All-nil (λ v. p v ≡ false) })
      | inr h ↦
          let more = find_split p xs x (rw h at e) in
          (z ∷ more.0, more.1, record { joined = ap (λ vs. z ∷ vs) more.2.joined; passes = more.2.passes; none = All-cons (λ v. p v ≡ false) z more.0 h more.2.none })
    ]

-- last

pub kept_none : (p : Row → Bool) (xs : List Row) → All (λ z. p z ≡ false) xs → last_with p xs ≡ None
kept_none p [] n = refl
kept_none p (x ∷ xs) n = rw (kept_none p xs (All-tail (λ z. p z ≡ false) x xs n), All-head (λ z. p z ≡ false) x xs n) refl

pub last_with_at : (p : Row → Bool) (front : List Row) (x : Row) (back : List Row) → p x ≡ true → All (λ z. p z ≡ false) back → last_with p (front ++ x ∷ back) ≡ Some (x, back)
last_with_at p [] x back h n = rw (kept_none p back n, h) refl
last_with_at p (z ∷ front) x back h n = rw (last_with_at p front x back h n) refl

abbrev pub LastIs : (Row → Bool) → List Row → Option (Row × List Row) → Type 0
LastIs p xs None = All (λ z. p z ≡ false) xs
LastIs p xs (Some f) = (front : List Row) × IsLast p xs f.0 front f.1

kept_is : (p : Row → Bool) (x : Row) (xs : List Row) (o : Option (Row × List Row)) → LastIs p xs o → LastIs p (x ∷ xs) (kept_last o (p x) x xs)
kept_is p x xs (Some f) h = (x ∷ h.0, record { joined = ap (λ zs. x ∷ zs) h.1.joined; passes = h.1.passes; none = h.1.none })
kept_is p x xs None h =
    elim (cases_Bool (p x)) [
      | inl e ↦ subst (λ (b : Bool). LastIs p (x ∷ xs) (kept_last None b x xs)) (sym e) ([], record { joined = refl; passes = e; none = h })
      | inr e ↦ subst (λ (b : Bool). LastIs p (x ∷ xs) (kept_last None b x xs)) (sym e) (All-cons (λ z. p z ≡ false) x xs e h)
    ]

pub last_is : (p : Row → Bool) (xs : List Row) → LastIs p xs (last_with p xs)
last_is p [] = All-nil (λ z. p z ≡ false)
last_is p (x ∷ xs) = kept_is p x xs (last_with p xs) (last_is p xs)

-- none, and some

pub any_none : (p : Row → Bool) (xs : List Row) → list_any p xs ≡ false → All (λ z. p z ≡ false) xs
any_none p [] e = All-nil (λ z. p z ≡ false)
any_none p (x ∷ xs) e = let h = or_parts (p x) (list_any p xs) e in All-cons (λ z. p z ≡ false) x xs h.0 (any_none p xs h.1)

pub none_any : (p : Row → Bool) (xs : List Row) → All (λ z. p z ≡ false) xs → list_any p xs ≡ false
none_any p [] h = refl
none_any p (x ∷ xs) h = rw (All-head (λ z. p z ≡ false) x xs h, none_any p xs (All-tail (λ z. p z ≡ false) x xs h)) refl

pub over_at : (p : ℕ) (front : List Row) (y : Row) (back : List Row) → All (λ z. is_yellow (sign p z) ≡ false) front → is_yellow (sign p y) ≡ true → is_over p (front ++ y ∷ back) ≡ list_any (λ z. is_end (sign p z)) back
over_at p [] y back n h = rw h refl
over_at p (z ∷ front) y back n h = rw (All-head (λ z. is_yellow (sign p z) ≡ false) z front n) (over_at p front y back (All-tail (λ z. is_yellow (sign p z) ≡ false) z front n) h)

-- what is known

pub all_known_live : (known : ℕ → Bool) (a b : ℕ) → AllKnown known a b → a ≤ b → live known a b ≡ true
unfolding live
all_known_live known a b h le =
    let same : since known b ≡ since known a = since_known known a b le (λ k l u. h k l (omega arith)) in
    le-leb (since known b) a (omega (arith, since_le known a))

pub live_all_known : (known : ℕ → Bool) (a b : ℕ) → live known a b ≡ true → known b ≡ true → AllKnown known a b
live_all_known known a b l last t lo hi =
    elim (cases_Bool (known t)) [
      | inl e ↦ e
      | inr e ↦ elim (cases_eq t b) [ inl same ↦ rw same last | inr ne ↦ absurd (let f : live known a b ≡ false = live_lost known a t b lo (omega arith) e in cc) ]
    ]

-- the row that says why, over the rows after b

end_no_cause : (s : Sign) → is_end s ≡ true → is_cause s ≡ false
end_no_cause Begin e = refl
end_no_cause Change e = refl
end_no_cause Yellow e = refl
end_no_cause End e = refl
end_no_cause Cause e = cc
end_no_cause Other e = refl

cause_whole : (p : ℕ) (g r : Row) (xs later : List Row) → is_end (sign p r) ≡ true → cause_in p (Some g) (xs ++ r ∷ later) ≡ option_or (cause_in p (Some g) later) (cause_in p (Some g) xs)
cause_whole p g r xs later e =
    let test : Row → Bool = λ z. is_cause (sign p z) && is_within (Some g) z in
    last-append test xs (r ∷ later)
    ∙ ap (λ o. option_or o (last test xs)) (last-cons test r later ∙ ap (λ v. option_or (last test later) (cond (v && is_within (Some g) r) (Some r) None)) (end_no_cause (sign p r) e) ∙ or_none (last test later))

-- the service that ends with a row is whole

service_from : (known : ℕ → Bool) (p : ℕ) (before : List Row) (r : Row) (later : List Row) (s : Service) (b : Row) (to_b from_b : List Row) (g y : Option Row) → known r.at ≡ true → is_end (sign p r) ≡ true → IsLast (λ z. is_begin (sign p z)) before b to_b from_b → live known b.at r.at ≡ true → is_over p from_b ≡ false
    → find (λ z. is_change (sign p z)) from_b ≡ g → find (λ z. is_yellow (sign p z)) from_b ≡ y → service_of p (record { b = b; g = g; y = y; cause = cause_in p g from_b }) r later g y ≡ Some s → IsService known p before r later s
service_from known p before r later s b to_b from_b None y k e bl l o fg fy is = cc
service_from known p before r later s b to_b from_b (Some g) None k e bl l o fg fy is = cc
service_from known p before r later s b to_b from_b (Some g) (Some y) k e bl l o fg fy is =
    let gs = find_split (λ z. is_change (sign p z)) from_b g fg in
    let ys = find_split (λ z. is_yellow (sign p z)) from_b y fy in
    let over = over_at p ys.0 y ys.1 ys.2.none ys.2.passes in
    let none : list_any (λ z. is_end (sign p z)) ys.1 ≡ false = sym over ∙ ap (λ zs. is_over p zs) (sym ys.2.joined) ∙ o in
    let end = cause_whole p g r from_b later e in
    let plain : s ≡ record { phase = p; b = b.at; g = g.at; y = y.at; r = r.at; end = termination (option_or (cause_in p (Some g) later) (cause_in p (Some g) from_b)) } = cc in
    record {
      b = b;
      g = g;
      y = y;
      to_b = to_b;
      from_b = from_b;
      to_g = gs.0;
      from_g = gs.1;
      to_y = ys.0;
      from_y = ys.1;
      b_is = bl;
      g_is = gs.2;
      y_is = ys.2;
      r_is = e;
      r_first = any_none (λ z. is_end (sign p z)) ys.1 none;
      all_known = live_all_known known b.at r.at l k;
      s_is = plain ∙ ap (λ c. record { phase = p; b = b.at; g = g.at; y = y.at; r = r.at; end = termination c }) (sym end);
    }

none_is : (b : Bool) (s : Service) → cond b None None ≡ Some s → ⊥
none_is true s e = cc
none_is false s e = cc

service_in : (known : ℕ → Bool) (p : ℕ) (before : List Row) (r : Row) (later : List Row) (s : Service) (o : Option (Row × List Row)) → known r.at ≡ true → LastIs (λ z. is_begin (sign p z)) before o → cond (is_end (sign p r)) (whole_service p (service_begun_in known r.at p o) r later) None ≡ Some s → IsService known p before r later s
service_in known p before r later s None k li e = absurd (none_is (is_end (sign p r)) s e)
service_in known p before r later s (Some f) k li e =
    elim (cases_Bool (is_end (sign p r))) [
      | inl h ↦
          let e1 = rw h at e in
          elim (cases_Bool (live known f.0.at r.at && not (is_over p f.1))) [
            | inl lo ↦
                let parts = and_parts (live known f.0.at r.at) (not (is_over p f.1)) lo in
                let e2 = rw lo at e1 in
                service_from known p before r later s f.0 li.0 f.1 (find (λ z. is_change (sign p z)) f.1) (find (λ z. is_yellow (sign p z)) f.1) k h li.1 parts.0 (not-true (is_over p f.1) parts.1) refl refl e2
            | inr lo ↦ absurd (let e2 : None ≡ Some s = rw lo at e1 in cc)
          ]
      | inr h ↦ absurd (let e1 : None ≡ Some s = rw h at e in cc)
    ]

pub service_is_whole : (known : ℕ → Bool) (p : ℕ) (before : List Row) (r : Row) (later : List Row) (s : Service) → known r.at ≡ true → service_at known p before r later ≡ Some s → IsService known p before r later s
unfolding service_at service_begun_of
service_is_whole known p before r later s k e = service_in known p before r later s (last_with (λ z. is_begin (sign p z)) before) k (last_is (λ z. is_begin (sign p z)) before) e

pub all_known_at : (known : ℕ → Bool) (a b : ℕ) → AllKnown known a b → live known a b ≡ true
all_known_at known a b h = elim (cases_lt b a) [ inl lt ↦ live_here known a b (omega arith) | inr le ↦ all_known_live known a b h le ]

pub whole_is_service : (known : ℕ → Bool) (p : ℕ) (before : List Row) (r : Row) (later : List Row) (s : Service) → IsService known p before r later s → service_at known p before r later ≡ Some s
unfolding service_at service_begun_of
whole_is_service known p before r later s w =
    let begins : Row → Bool = λ z. is_begin (sign p z) in
    let lw : last_with begins before ≡ Some (w.b, w.from_b) = ap (λ zs. last_with begins zs) w.b_is.joined ∙ last_with_at begins w.to_b w.b w.from_b w.b_is.passes w.b_is.none in
    let lv = all_known_at known w.b.at r.at w.all_known in
    let over : is_over p w.from_b ≡ false = ap (λ zs. is_over p zs) w.y_is.joined ∙ over_at p w.to_y w.y w.from_y w.y_is.none w.y_is.passes ∙ none_any (λ z. is_end (sign p z)) w.from_y w.r_first in
    let fg : find (λ z. is_change (sign p z)) w.from_b ≡ Some w.g = ap (λ zs. find (λ z. is_change (sign p z)) zs) w.g_is.joined ∙ find_at (λ z. is_change (sign p z)) w.to_g w.g w.from_g w.g_is.none w.g_is.passes in
    let fy : find (λ z. is_yellow (sign p z)) w.from_b ≡ Some w.y = ap (λ zs. find (λ z. is_yellow (sign p z)) zs) w.y_is.joined ∙ find_at (λ z. is_yellow (sign p z)) w.to_y w.y w.from_y w.y_is.none w.y_is.passes in
    rw (w.r_is, lw, lv, over, fg, fy)
    (ap (λ v. Some v) (sym (w.s_is ∙ ap (λ c. record { phase = p; b = w.b.at; g = w.g.at; y = w.y.at; r = r.at; end = termination c }) (cause_whole p w.g r w.from_b later w.r_is))))
