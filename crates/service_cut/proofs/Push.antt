-- What one more row, one more known tenth and one unknown tenth make of a part, and what a row ends.
use Rattle.std.proofs.Common.{◌≡◌, ◌≢◌, ℕ, ◌<◌, ◌≤◌, Bool, true, false, not, ◌&&◌, ◌||◌, cond, List, [], ◌∷◌, ◌++◌, Option, Some, None, refl, ap, ap₂, sym, ◌∙◌, append_assoc, arith, inl, inr, ◌⊎◌}
use Rattle.std.specs.Prelude.{is_some, All, nat_le, option_map, find}
use Rattle.std.specs.List.{list_any}
use Rattle.std.specs.Option.{option_or}
use Rattle.std.proofs.lemmas.List.{append-nil}
use Rattle.std.proofs.lemmas.List.Elements.{All-head, All-tail, All-weaker}
use Rattle.std.proofs.lemmas.List.Folds.{find-append, list_any-append}
use Rattle.std.proofs.lemmas.Bool.{cases_Bool, lt-leb, le-leb}
use Rattle.sig_base.specs.declared.values.Row.{Row}
use Rattle.hour_sweep.specs.Rows.{kept_last, last_with, last, since, live}
use Rattle.hour_sweep.specs.Hours.{AreOrdered}
use Rattle.hour_sweep.proofs.Places.{pushed_last, kept_pushed, last_with-push, last-push, last_same, AllLast, kept_all, last_with_all, last-cons, last-append}
use Rattle.hour_sweep.proofs.Known.{live_same, live_lost}
use Rattle.service_cut.specs.declared.services.ServiceBegun.{ServiceBegun}
use Rattle.service_cut.specs.declared.cycles.CycleBegun.{CycleBegun}
use Rattle.service_cut.specs.declared.signs.Sign.{Sign}
use Rattle.service_cut.specs.declared.signs.Sign.TheVariants.{Begin, Change, Yellow, End, Cause, Other}
use Rattle.service_cut.specs.Signs.{sign, is_begin, is_change, is_yellow, is_end, is_cause}
use Rattle.service_cut.specs.Services.{is_over, is_within, cause_in, service_begun, service_begun_in, service_begun_of, service_of, whole_service, service_at}
use Rattle.service_cut.specs.Cycles.{yellow_in, yellow_of, is_yellow_end, last_end_from, cycle_begun_in, cycle_begun_of}
use Rattle.service_cut.specs.Steps.{service_after, yellow_after, is_yellow_over, cycle_after, cause_after}

-- places in lists, with one more element at the end

over_pushed : (b e : Bool) (ends : Bool) → cond b (ends || (e || false)) false ≡ cond b ends false || (b && e)
over_pushed false e ends = refl
over_pushed true e true = refl
over_pushed true true false = refl
over_pushed true false false = refl

pub is_over-push : (p : ℕ) (xs : List Row) (y : Row) → is_over p (xs ++ y ∷ []) ≡ (is_over p xs || (is_some (find (λ z. is_yellow (sign p z)) xs) && is_end (sign p y)))
is_over-push p [] y = elim (is_yellow (sign p y)) as (λ b. cond b false false ≡ false) [ true ↦ refl | false ↦ refl ]
is_over-push p (x ∷ xs) y =
    let end : Row → Bool = λ z. is_end (sign p z) in
    let yellow : Row → Bool = λ z. is_yellow (sign p z) in
    elim (is_yellow (sign p x)) as (λ b. cond b (list_any end (xs ++ y ∷ [])) (is_over p (xs ++ y ∷ [])) ≡ (cond b (list_any end xs) (is_over p xs) || (is_some (cond b (Some x) (find yellow xs)) && end y))) [
      | true ↦ list_any-append end xs (y ∷ []) ∙ over_pushed true (end y) (list_any end xs)
      | false ↦ is_over-push p xs y
    ]

yellow_or : (l e : Bool) (y : Row) → cond (l && not (e || (false || false))) (Some y) None ≡ cond (l && not e) (Some y) None
yellow_or false e y = refl
yellow_or true true y = refl
yellow_or true false y = refl

-- the row that says why so far, with one more row

within_none : (b : Bool) (z x : Row) → z.at ≤ x.at → (b && true) ≡ (b && nat_le z.at x.at)
within_none true z x le = sym (le-leb z.at x.at le)
within_none false z x le = refl

cause_open : (p : ℕ) (x : Row) (xs : List Row) → All (λ z. z.at ≤ x.at) xs → cause_in p (Some x) xs ≡ cause_in p None xs
cause_open p x xs h = ap (λ o. option_map (λ f. f.0) o) (sym (last_same (λ z. is_cause (sign p z) && true) (λ z. is_cause (sign p z) && nat_le z.at x.at) xs (All-weaker (λ z. z.at ≤ x.at) (λ z. (is_cause (sign p z) && true) ≡ (is_cause (sign p z) && nat_le z.at x.at)) (λ z le. within_none (is_cause (sign p z)) z x le) xs h)))

abbrev pub cause_next : Sign → Option Row → Row → Option Row → Option Row
cause_next Cause g x c = cause_after g x c
cause_next _ g x c = c

-- g, with one more row
abbrev pub g_after : Sign → Option Row → Row → Option Row
g_after s g x = option_or g (cond (is_change s) (Some x) None)

cause_pushed : (s : Sign) (p : ℕ) (g : Option Row) (x : Row) (xs : List Row) → All (λ z. z.at ≤ x.at) xs → cond (is_cause s && is_within (g_after s g x) x) (Some x) (cause_in p (g_after s g x) xs) ≡ cause_next s g x (cause_in p g xs)
cause_pushed Begin p None x xs h = refl
cause_pushed Begin p (Some g) x xs h = refl
cause_pushed Change p None x xs h = cause_open p x xs h
cause_pushed Change p (Some g) x xs h = refl
cause_pushed Yellow p None x xs h = cause_open p x xs h
cause_pushed Yellow p (Some g) x xs h = refl
cause_pushed End p None x xs h = refl
cause_pushed End p (Some g) x xs h = refl
cause_pushed Cause p None x xs h = refl
cause_pushed Cause p (Some g) x xs h = refl
cause_pushed Other p None x xs h = refl
cause_pushed Other p (Some g) x xs h = refl

cause-push : (p : ℕ) (g : Option Row) (x : Row) (xs : List Row) → All (λ z. z.at ≤ x.at) xs → cause_in p (g_after (sign p x) g x) (xs ++ x ∷ []) ≡ cause_next (sign p x) g x (cause_in p g xs)
cause-push p g x xs h = last-push (λ z. is_cause (sign p z) && is_within (g_after (sign p x) g x) z) xs x ∙ cause_pushed (sign p x) p g x xs h

-- one more row of the phase

pushed_in : (s : Sign) (l o : Bool) (b x : Row) (g y c : Option Row) → s ≢ Begin → cond (l && not (o || (is_some y && is_end s))) (Some (record { b = b; g = g_after s g x; y = option_or y (cond (is_yellow s) (Some x) None); cause = cause_next s g x c })) None ≡ service_after s x (cond (l && not o) (Some (record { b = b; g = g; y = y; cause = c })) None)
pushed_in Change false o b x g y c n = refl
pushed_in Change true true b x g y c n = refl
pushed_in Change true false b x None None c n = refl
pushed_in Change true false b x None (Some y) c n = refl
pushed_in Change true false b x (Some g) None c n = refl
pushed_in Change true false b x (Some g) (Some y) c n = refl
pushed_in Yellow false o b x g y c n = refl
pushed_in Yellow true true b x g y c n = refl
pushed_in Yellow true false b x None None c n = refl
pushed_in Yellow true false b x None (Some y) c n = refl
pushed_in Yellow true false b x (Some g) None c n = refl
pushed_in Yellow true false b x (Some g) (Some y) c n = refl
pushed_in End false o b x g y c n = refl
pushed_in End true true b x g y c n = refl
pushed_in End true false b x None None c n = refl
pushed_in End true false b x None (Some y) c n = refl
pushed_in End true false b x (Some g) None c n = refl
pushed_in End true false b x (Some g) (Some y) c n = refl
pushed_in Cause false o b x g y c n = refl
pushed_in Cause true true b x g y c n = refl
pushed_in Cause true false b x None None c n = refl
pushed_in Cause true false b x None (Some y) c n = refl
pushed_in Cause true false b x (Some g) None c n = refl
pushed_in Cause true false b x (Some g) (Some y) c n = refl
pushed_in Other false o b x g y c n = refl
pushed_in Other true true b x g y c n = refl
pushed_in Other true false b x None None c n = refl
pushed_in Other true false b x None (Some y) c n = refl
pushed_in Other true false b x (Some g) None c n = refl
pushed_in Other true false b x (Some g) (Some y) c n = refl
pushed_in Begin l o b x g y c n = absurd (n refl)

begin_in : (known : ℕ → Bool) (t p : ℕ) (x : Row) → live known x.at t ≡ true → service_begun_in known t p (Some (x, [])) ≡ Some (record { b = x; g = None; y = None; cause = None })
begin_in known t p x l = rw l refl

none_after : (s : Sign) (x : Row) → s ≢ Begin → service_after s x None ≡ None
none_after Begin x n = absurd (n refl)
none_after Change x n = refl
none_after Yellow x n = refl
none_after End x n = refl
none_after Cause x n = refl
none_after Other x n = refl

some_in : (known : ℕ → Bool) (t p : ℕ) (x b : Row) (after : List Row) → All (λ z. z.at ≤ x.at) after → sign p x ≢ Begin → service_begun_in known t p (Some (b, after ++ x ∷ [])) ≡ service_after (sign p x) x (service_begun_in known t p (Some (b, after)))
some_in known t p x b after h n =
    let g = find (λ (z : Row). is_change (sign p z)) after in
    let y = find (λ (z : Row). is_yellow (sign p z)) after in
    rw (is_over-push p after x, find-append (λ z. is_change (sign p z)) after (x ∷ []), find-append (λ z. is_yellow (sign p z)) after (x ∷ []), cause-push p g x after h)
    (pushed_in (sign p x) (live known b.at t) (is_over p after) b x g y (cause_in p g after) n)

is_begin_cases : (s : Sign) → ((is_begin s ≡ true) × (s ≡ Begin)) ⊎ ((is_begin s ≡ false) × (s ≢ Begin))
is_begin_cases Begin = inl (refl, refl)
is_begin_cases Change = inr (refl, λ e. cc)
is_begin_cases Yellow = inr (refl, λ e. cc)
is_begin_cases End = inr (refl, λ e. cc)
is_begin_cases Cause = inr (refl, λ e. cc)
is_begin_cases Other = inr (refl, λ e. cc)

push_in : (known : ℕ → Bool) (t p : ℕ) (x : Row) (o : Option (Row × List Row)) → AllLast (λ z. z.at ≤ x.at) o → live known x.at t ≡ true → service_begun_in known t p (pushed_last (is_begin (sign p x)) x o) ≡ service_after (sign p x) x (service_begun_in known t p o)
push_in known t p x None a l =
    elim (is_begin_cases (sign p x)) [ inl h ↦ rw (h.0, h.1) (begin_in known t p x l) | inr h ↦ rw h.0 (sym (none_after (sign p x) x h.1)) ]
push_in known t p x (Some f) a l =
    elim (is_begin_cases (sign p x)) [ inl h ↦ rw (h.0, h.1) (begin_in known t p x l) | inr h ↦ rw h.0 (some_in known t p x f.0 f.1 a.1 h.1) ]

-- a row at a place to which all is known since itself, and no later than it those before
pub service_begun_push : (known : ℕ → Bool) (t p : ℕ) (before : List Row) (x : Row) → All (λ z. z.at ≤ x.at) before → live known x.at t ≡ true → service_begun_of known t p (before ++ x ∷ []) ≡ service_after (sign p x) x (service_begun_of known t p before)
unfolding service_begun_of
service_begun_push known t p before x a l = rw (last_with-push (λ z. is_begin (sign p z)) before x) (push_in known t p x (last_with (λ z. is_begin (sign p z)) before) (last_with_all (λ z. z.at ≤ x.at) (λ z. is_begin (sign p z)) before a) l)

-- the last row 8

yellow_some : (s : Sign) (l e : Bool) (x y : Row) → is_yellow s ≡ false → cond (l && not (e || (is_end s || false))) (Some y) None ≡ yellow_after s x (cond (l && not e) (Some y) None)
yellow_some Begin l e x y n = yellow_or l e y
yellow_some Change l e x y n = yellow_or l e y
yellow_some Yellow l e x y n = cc
yellow_some End false e x y n = refl
yellow_some End true true x y n = refl
yellow_some End true false x y n = refl
yellow_some Cause l e x y n = yellow_or l e y
yellow_some Other l e x y n = yellow_or l e y

is_yellow_cases : (s : Sign) → ((is_yellow s ≡ true) × (s ≡ Yellow)) ⊎ (is_yellow s ≡ false)
is_yellow_cases Begin = inr refl
is_yellow_cases Change = inr refl
is_yellow_cases Yellow = inl (refl, refl)
is_yellow_cases End = inr refl
is_yellow_cases Cause = inr refl
is_yellow_cases Other = inr refl

yellow_none : (s : Sign) (x : Row) → is_yellow s ≡ false → yellow_after s x None ≡ None
yellow_none Begin x n = refl
yellow_none Change x n = refl
yellow_none Yellow x n = cc
yellow_none End x n = refl
yellow_none Cause x n = refl
yellow_none Other x n = refl

yellow_begun : (known : ℕ → Bool) (t p : ℕ) (x : Row) → live known x.at t ≡ true → yellow_in known t p (Some (x, [])) ≡ Some x
yellow_begun known t p x l = rw l refl

yellow_pushed : (known : ℕ → Bool) (t p : ℕ) (x : Row) (o : Option (Row × List Row)) → live known x.at t ≡ true → yellow_in known t p (pushed_last (is_yellow (sign p x)) x o) ≡ yellow_after (sign p x) x (yellow_in known t p o)
yellow_pushed known t p x None l =
    elim (is_yellow_cases (sign p x)) [ inl h ↦ rw (h.0, h.1) (yellow_begun known t p x l) | inr h ↦ rw h (sym (yellow_none (sign p x) x h)) ]
yellow_pushed known t p x (Some f) l =
    elim (is_yellow_cases (sign p x)) [
      | inl h ↦ rw (h.0, h.1) (yellow_begun known t p x l)
      | inr h ↦ rw (h, list_any-append (λ z. is_end (sign p z)) f.1 (x ∷ [])) (yellow_some (sign p x) (live known f.0.at t) (list_any (λ z. is_end (sign p z)) f.1) x f.0 h)
    ]

pub yellow_push : (known : ℕ → Bool) (t p : ℕ) (before : List Row) (x : Row) → live known x.at t ≡ true → yellow_of known t p (before ++ x ∷ []) ≡ yellow_after (sign p x) x (yellow_of known t p before)
unfolding yellow_of
yellow_push known t p before x l = rw (last_with-push (λ z. is_yellow (sign p z)) before x) (yellow_pushed known t p x (last_with (λ z. is_yellow (sign p z)) before) l)

-- the last yellow end

last_end_from-push : (known : ℕ → Bool) (p : ℕ) (before xs : List Row) (y : Row) → last_end_from known p before (xs ++ y ∷ []) ≡ pushed_last (is_yellow_end known p (before ++ xs) y) y (last_end_from known p before xs)
last_end_from-push known p before [] y = rw (append-nil before) (elim (is_yellow_end known p before y) as (λ b. kept_last None b y [] ≡ pushed_last b y None) [ true ↦ refl | false ↦ refl ])
last_end_from-push known p before (x ∷ xs) y =
    rw (last_end_from-push known p (before ++ x ∷ []) xs y, append_assoc before (x ∷ []) xs)
    (kept_pushed (is_yellow_end known p (before ++ x ∷ xs) y) (is_yellow_end known p before x) (last_end_from known p (before ++ x ∷ []) xs) x y xs)

is_ends : (s : Sign) (o : Option Row) → (is_end s && is_some o) ≡ is_yellow_over s o
is_ends Begin o = refl
is_ends Change o = refl
is_ends Yellow o = refl
is_ends End o = refl
is_ends Cause o = refl
is_ends Other o = refl

pub yellow_end_is : (known : ℕ → Bool) (p : ℕ) (before : List Row) (r : Row) → is_yellow_end known p before r ≡ is_yellow_over (sign p r) (yellow_of known r.at p before)
unfolding is_yellow_end
yellow_end_is known p before r = is_ends (sign p r) (yellow_of known r.at p before)

cycle_begun_some : (s : Sign) (yo : Option Row) (l : Bool) (x from : Row) (g y : Option Row) → is_yellow_over s yo ≡ false → cond l (Some (record { from = from; green = cond (is_begin s) (Some x) g; yellow = cond (is_yellow s) (Some x) y })) None ≡ cycle_after s x yo (cond l (Some (record { from = from; green = g; yellow = y })) None)
cycle_begun_some Begin yo true x from g y n = refl
cycle_begun_some Begin yo false x from g y n = refl
cycle_begun_some Change yo true x from g y n = refl
cycle_begun_some Change yo false x from g y n = refl
cycle_begun_some Yellow yo true x from g y n = refl
cycle_begun_some Yellow yo false x from g y n = refl
cycle_begun_some End None true x from g y n = refl
cycle_begun_some End None false x from g y n = refl
cycle_begun_some End (Some z) l x from g y n = cc
cycle_begun_some Cause yo true x from g y n = refl
cycle_begun_some Cause yo false x from g y n = refl
cycle_begun_some Other yo true x from g y n = refl
cycle_begun_some Other yo false x from g y n = refl

cycle_begun_none : (s : Sign) (yo : Option Row) (x : Row) → is_yellow_over s yo ≡ false → cycle_after s x yo None ≡ None
cycle_begun_none Begin yo x n = refl
cycle_begun_none Change yo x n = refl
cycle_begun_none Yellow yo x n = refl
cycle_begun_none End None x n = refl
cycle_begun_none End (Some z) x n = cc
cycle_begun_none Cause yo x n = refl
cycle_begun_none Other yo x n = refl

cycle_begun_begun : (s : Sign) (yo : Option Row) (x : Row) (t : Option CycleBegun) → is_yellow_over s yo ≡ true → cycle_after s x yo t ≡ Some (record { from = x; green = None; yellow = None })
cycle_begun_begun Begin yo x t n = cc
cycle_begun_begun Change yo x t n = cc
cycle_begun_begun Yellow yo x t n = cc
cycle_begun_begun End None x t n = cc
cycle_begun_begun End (Some z) x t n = refl
cycle_begun_begun Cause yo x t n = cc
cycle_begun_begun Other yo x t n = cc

cycle_begun_here : (known : ℕ → Bool) (t p : ℕ) (x : Row) → live known x.at t ≡ true → cycle_begun_in known t p (Some (x, [])) ≡ Some (record { from = x; green = None; yellow = None })
cycle_begun_here known t p x l = rw l refl

cycle_begun_pushed : (known : ℕ → Bool) (t p : ℕ) (x : Row) (yo : Option Row) (o : Option (Row × List Row)) → live known x.at t ≡ true → cycle_begun_in known t p (pushed_last (is_yellow_over (sign p x) yo) x o) ≡ cycle_after (sign p x) x yo (cycle_begun_in known t p o)
cycle_begun_pushed known t p x yo None l =
    elim (cases_Bool (is_yellow_over (sign p x) yo)) [ inl h ↦ rw h (cycle_begun_here known t p x l ∙ sym (cycle_begun_begun (sign p x) yo x None h)) | inr h ↦ rw h (sym (cycle_begun_none (sign p x) yo x h)) ]
cycle_begun_pushed known t p x yo (Some f) l =
    elim (cases_Bool (is_yellow_over (sign p x) yo)) [
      | inl h ↦ rw h (cycle_begun_here known t p x l ∙ sym (cycle_begun_begun (sign p x) yo x (cycle_begun_in known t p (Some f)) h))
      | inr h ↦ rw (h, last-push (λ z. is_begin (sign p z)) f.1 x, last-push (λ z. is_yellow (sign p z)) f.1 x) (cycle_begun_some (sign p x) yo (live known f.0.at t) x f.0 (last (λ z. is_begin (sign p z)) f.1) (last (λ z. is_yellow (sign p z)) f.1) h)
    ]

pub cycle_begun_push : (known : ℕ → Bool) (p : ℕ) (before : List Row) (x : Row) → live known x.at x.at ≡ true → cycle_begun_of known x.at p (before ++ x ∷ []) ≡ cycle_after (sign p x) x (yellow_of known x.at p before) (cycle_begun_of known x.at p before)
unfolding cycle_begun_of
cycle_begun_push known p before x l = rw (last_end_from-push known p [] before x, yellow_end_is known p before x) (cycle_begun_pushed known x.at p x (yellow_of known x.at p before) (last_end_from known p [] before) l)

-- what is known

service_begun_in_same : (known : ℕ → Bool) (t u p : ℕ) (o : Option (Row × List Row)) → since known t ≡ since known u → service_begun_in known t p o ≡ service_begun_in known u p o
service_begun_in_same known t u p None e = refl
service_begun_in_same known t u p (Some f) e = rw (live_same known f.0.at t u e) refl

pub service_begun_same : (known : ℕ → Bool) (t u p : ℕ) (before : List Row) → since known t ≡ since known u → service_begun_of known t p before ≡ service_begun_of known u p before
unfolding service_begun_of
service_begun_same known t u p before e = service_begun_in_same known t u p (last_with (λ z. is_begin (sign p z)) before) e

service_begun_in_lost : (known : ℕ → Bool) (k t p : ℕ) (o : Option (Row × List Row)) → AllLast (λ x. x.at ≤ k) o → k < t → known k ≡ false → service_begun_in known t p o ≡ None
service_begun_in_lost known k t p None h lt u = refl
service_begun_in_lost known k t p (Some f) h lt u = rw (live_lost known f.0.at k t h.0 lt u) refl

pub service_begun_lost : (known : ℕ → Bool) (k t p : ℕ) (before : List Row) → All (λ x. x.at ≤ k) before → k < t → known k ≡ false → service_begun_of known t p before ≡ None
unfolding service_begun_of
service_begun_lost known k t p before h lt u = service_begun_in_lost known k t p (last_with (λ z. is_begin (sign p z)) before) (last_with_all (λ x. x.at ≤ k) (λ z. is_begin (sign p z)) before h) lt u

yellow_in_same : (known : ℕ → Bool) (t u p : ℕ) (o : Option (Row × List Row)) → since known t ≡ since known u → yellow_in known t p o ≡ yellow_in known u p o
yellow_in_same known t u p None e = refl
yellow_in_same known t u p (Some f) e = rw (live_same known f.0.at t u e) refl

pub yellow_same : (known : ℕ → Bool) (t u p : ℕ) (before : List Row) → since known t ≡ since known u → yellow_of known t p before ≡ yellow_of known u p before
unfolding yellow_of
yellow_same known t u p before e = yellow_in_same known t u p (last_with (λ z. is_yellow (sign p z)) before) e

yellow_in_lost : (known : ℕ → Bool) (k t p : ℕ) (o : Option (Row × List Row)) → AllLast (λ x. x.at ≤ k) o → k < t → known k ≡ false → yellow_in known t p o ≡ None
yellow_in_lost known k t p None h lt u = refl
yellow_in_lost known k t p (Some f) h lt u = rw (live_lost known f.0.at k t h.0 lt u) refl

pub yellow_lost : (known : ℕ → Bool) (k t p : ℕ) (before : List Row) → All (λ x. x.at ≤ k) before → k < t → known k ≡ false → yellow_of known t p before ≡ None
unfolding yellow_of
yellow_lost known k t p before h lt u = yellow_in_lost known k t p (last_with (λ z. is_yellow (sign p z)) before) (last_with_all (λ x. x.at ≤ k) (λ z. is_yellow (sign p z)) before h) lt u

cycle_begun_in_same : (known : ℕ → Bool) (t u p : ℕ) (o : Option (Row × List Row)) → since known t ≡ since known u → cycle_begun_in known t p o ≡ cycle_begun_in known u p o
cycle_begun_in_same known t u p None e = refl
cycle_begun_in_same known t u p (Some f) e = rw (live_same known f.0.at t u e) refl

pub cycle_begun_same : (known : ℕ → Bool) (t u p : ℕ) (before : List Row) → since known t ≡ since known u → cycle_begun_of known t p before ≡ cycle_begun_of known u p before
unfolding cycle_begun_of
cycle_begun_same known t u p before e = cycle_begun_in_same known t u p (last_end_from known p [] before) e

end_from_all : (known : ℕ → Bool) (P : Row → Type 0) (p : ℕ) (before xs : List Row) → All P xs → AllLast P (last_end_from known p before xs)
end_from_all known P p before [] h = tt
end_from_all known P p before (x ∷ xs) h = kept_all P (last_end_from known p (before ++ x ∷ []) xs) (is_yellow_end known p before x) x xs (end_from_all known P p (before ++ x ∷ []) xs (All-tail P x xs h)) (All-head P x xs h) (All-tail P x xs h)

cycle_begun_in_lost : (known : ℕ → Bool) (k t p : ℕ) (o : Option (Row × List Row)) → AllLast (λ x. x.at ≤ k) o → k < t → known k ≡ false → cycle_begun_in known t p o ≡ None
cycle_begun_in_lost known k t p None h lt u = refl
cycle_begun_in_lost known k t p (Some f) h lt u = rw (live_lost known f.0.at k t h.0 lt u) refl

pub cycle_begun_lost : (known : ℕ → Bool) (k t p : ℕ) (before : List Row) → All (λ x. x.at ≤ k) before → k < t → known k ≡ false → cycle_begun_of known t p before ≡ None
unfolding cycle_begun_of
cycle_begun_lost known k t p before h lt u = cycle_begun_in_lost known k t p (last_end_from known p [] before) (end_from_all known (λ x. x.at ≤ k) p [] before h) lt u

cause_past_g : (b : Bool) (z g : Row) → g.at < z.at → (b && nat_le z.at g.at) ≡ false
cause_past_g true z g lt = lt-leb z.at g.at lt
cause_past_g false z g lt = refl

-- rows at later tenths than g say nothing
pub none_ahead : (p : ℕ) (g : Row) (a b : ℕ) (xs : List Row) → g.at < a → AreOrdered a b xs → cause_in p (Some g) xs ≡ None
none_ahead p g a b [] lt h = refl
none_ahead p g a b (x ∷ xs) lt h =
    let le = h.0 in
    last-cons (λ z. is_cause (sign p z) && nat_le z.at g.at) x xs
    ∙ ap₂ (λ o v. option_or o (cond v (Some x) None)) (none_ahead p g x.at b xs (omega arith) h.2) (cause_past_g (is_cause (sign p x)) x g (omega arith))

-- rows at later tenths than all before change nothing of a service that is over

abbrev pub EarlyRow : ℕ → Option Row → Type 0
EarlyRow t None = Unit {0}
EarlyRow t (Some g) = g.at < t

abbrev pub EarlyBegun : ℕ → Option ServiceBegun → Type 0
EarlyBegun t None = Unit {0}
EarlyBegun t (Some s) = EarlyRow t s.g

early_if : (t : ℕ) (b : Bool) (x : Row) (o : Option Row) → x.at < t → EarlyRow t o → EarlyRow t (cond b (Some x) o)
early_if t true x o h k = h
early_if t false x o h k = k

find_early : (t : ℕ) (p : Row → Bool) (xs : List Row) → All (λ z. z.at < t) xs → EarlyRow t (find p xs)
find_early t p [] h = tt
find_early t p (x ∷ xs) h = early_if t (p x) x (find p xs) (All-head (λ z. z.at < t) x xs h) (find_early t p xs (All-tail (λ z. z.at < t) x xs h))

early_cond : (t : ℕ) (v : Bool) (s : ServiceBegun) → EarlyRow t s.g → EarlyBegun t (cond v (Some s) None)
early_cond t true s h = h
early_cond t false s h = tt

service_begun_in_early : (known : ℕ → Bool) (t u p : ℕ) (o : Option (Row × List Row)) → AllLast (λ z. z.at < t) o → EarlyBegun t (service_begun_in known u p o)
service_begun_in_early known t u p None h = tt
service_begun_in_early known t u p (Some f) h = early_cond t (live known f.0.at u && not (is_over p f.1)) (service_begun p f.0 f.1) (find_early t (λ z. is_change (sign p z)) f.1 h.1)

pub service_begun_early : (known : ℕ → Bool) (t u p : ℕ) (before : List Row) → All (λ z. z.at < t) before → EarlyBegun t (service_begun_of known u p before)
unfolding service_begun_of
service_begun_early known t u p before h = service_begun_in_early known t u p (last_with (λ z. is_begin (sign p z)) before) (last_with_all (λ z. z.at < t) (λ z. is_begin (sign p z)) before h)

service_off : (p : ℕ) (s : ServiceBegun) (r : Row) (rs ys : List Row) (t b : ℕ) (g y : Option Row) → EarlyRow t g → AreOrdered t b ys → service_of p s r (rs ++ ys) g y ≡ service_of p s r rs g y
service_off p s r rs ys t b (Some g) (Some y) e h =
    rw (last-append (λ z. is_cause (sign p z) && nat_le z.at g.at) rs ys, none_ahead p g t b ys e h) refl
service_off p s r rs ys t b (Some g) None e h = refl
service_off p s r rs ys t b None y e h = refl

whole_off : (p : ℕ) (o : Option ServiceBegun) (r : Row) (rs ys : List Row) (t b : ℕ) → EarlyBegun t o → AreOrdered t b ys → whole_service p o r (rs ++ ys) ≡ whole_service p o r rs
whole_off p None r rs ys t b e h = refl
whole_off p (Some s) r rs ys t b e h = service_off p s r rs ys t b s.g s.y e h

pub service_at-append : (known : ℕ → Bool) (p : ℕ) (before : List Row) (r : Row) (rs ys : List Row) (t b : ℕ) → All (λ z. z.at < t) before → AreOrdered t b ys → service_at known p before r (rs ++ ys) ≡ service_at known p before r rs
unfolding service_at
service_at-append known p before r rs ys t b e h = ap (λ o. cond (is_end (sign p r)) o None) (whole_off p (service_begun_of known r.at p before) r rs ys t b (service_begun_early known t r.at p before e) h)
