-- Points of arrivals.
use Rattle.std.proofs.Common.{◌≡◌, ℕ, zero, suc, ◌+◌, ◌<◌, Bool, true, false, ◌&&◌, ◌||◌, cond, eqb, ltb, List, [], ◌∷◌, ◌++◌, Option, Some, None, length, get_or, take, drop, refl, ap, sym, ◌∙◌, append_assoc, arith, inl, inr}
use Rattle.std.specs.Prelude.{All, IfSome, flat_map}
use Rattle.std.specs.List.{list_any}
use Rattle.std.proofs.lemmas.Bool.{and_parts, cases_Bool, eq-eqb, eqb-true, lt-ltb, and_from, or_left, and_right, or_right}
use Rattle.std.proofs.lemmas.List.{drop_more, take_more, append-nil}
use Rattle.std.proofs.lemmas.List.Elements.{All-head, All-tail}
use Rattle.std.proofs.lemmas.Grind.{flat_map-append}
use Rattle.sig_base.specs.declared.values.Row.{Row}
use Rattle.sig_base.specs.declared.values.PhaseItem.{PhaseItem}
use Rattle.sig_base.specs.Numbers.{has_number}
use Rattle.ring_config.specs.Settings.{Settings, detectors, some_number}
use Rattle.ring_config.specs.Sound.{IsApproach, IsBetween}
use Rattle.ring_config.specs.declared.items.Approach.{Approach}
use Rattle.arrival_measures.specs.declared.points.Point.{Point}
use Rattle.arrival_measures.specs.Crossing.{has_detector}
use Rattle.arrival_measures.specs.Points.{is_on_at, points_at}
use Rattle.arrival_measures.specs.Steps.{IsOwnOf, of_approaches}

pub points_next : (p : ℕ) (all : List Approach) (rows : List Row) (i : ℕ) (d : Row) (old new : List Point) → i < length rows → old ≡ flat_map (points_at p 0 all) (take i rows) → new ≡ old ++ points_at p 0 all (get_or rows i d) → new ≡ flat_map (points_at p 0 all) (take (i + 1) rows)
points_next p all rows i d old new lt h e =
    let F = points_at p 0 all in
    e ∙ ap (λ zs. zs ++ F (get_or rows i d)) h
    ∙ ap (λ zs. flat_map F (take i rows) ++ zs) (sym (append-nil (F (get_or rows i d))))
    ∙ sym (flat_map-append F (take i rows) (get_or rows i d ∷ []))
    ∙ ap (λ zs. flat_map F zs) (sym (take_more rows i d lt))

-- the points of one row, approach by approach

abbrev pub point_of : ℕ → ℕ → Row → Point
point_of i v x = record { approach = i; offset = x.at + v }

cond_more : (b : Bool) (old more : List Point) (x : Point) → cond b (old ++ x ∷ []) old ++ more ≡ old ++ cond b (x ∷ more) more
cond_more true old more x = append_assoc old (x ∷ []) more
cond_more false old more x = refl

pub point_next : (p i : ℕ) (all : List Approach) (x : Row) (d : Approach) (b : Bool) (old new whole : List Point) → i < length all → b ≡ (eqb (get_or all i d).phase p && is_on_at (get_or all i d).advance x) → new ≡ cond b (old ++ point_of i (get_or all i d).travel x ∷ []) old → old ++ points_at p i (drop i all) x ≡ whole → new ++ points_at p (i + 1) (drop (i + 1) all) x ≡ whole
point_next p i all x d b old new whole lt e n h =
    let more = points_at p (i + 1) (drop (i + 1) all) x in
    ap (λ zs. zs ++ more) n ∙ cond_more b old more (point_of i (get_or all i d).travel x)
    ∙ ap (λ v. old ++ cond v (point_of i (get_or all i d).travel x ∷ more) more) e
    ∙ ap (λ zs. old ++ points_at p i zs x) (sym (drop_more all i d lt)) ∙ h

-- a row of a detector that no approach has gives none

abbrev pub has_of : ℕ → Approach → Bool
has_of n a = has_number (detectors a) n

pub on_has : (a : Approach) (o : Option ℕ) (x : Row) → a.advance ≡ o → is_on_at o x ≡ true → has_of x.param a ≡ true
on_has a None x is e = absurd (cc)
on_has a (Some d) x is e =
    let at : eqb d x.param ≡ true = eq-eqb d x.param (sym (eqb-true x.param d (and_parts (eqb x.code 82) (eqb x.param d) e).1)) in
    ap (λ o. has_number (some_number o ++ some_number a.stop_bar) x.param) is ∙ or_left (eqb d x.param) _ at

on_small : (o : Option ℕ) (x : Row) → IfSome o (IsBetween 1 128) → is_on_at o x ≡ true → x.param < 129
on_small None x h e = absurd (cc)
on_small (Some d) x h e =
    let at = eqb-true x.param d (and_parts (eqb x.code 82) (eqb x.param d) e).1 in
    let hi = h.1 in
    omega arith

not_on : (a : Approach) (x : Row) (rest : Bool) → IfSome a.advance (IsBetween 1 128) → (ltb x.param 129 && (has_of x.param a || rest)) ≡ false → is_on_at a.advance x ≡ false
not_on a x rest small none = elim (cases_Bool (is_on_at a.advance x)) [
  | inr e ↦ e
  | inl e ↦
      let one : (has_of x.param a || rest) ≡ true = or_left (has_of x.param a) rest (on_has a a.advance x refl e) in
      let lt : ltb x.param 129 ≡ true = lt-ltb x.param 129 (on_small a.advance x small e) in
      absurd (let bad : true ≡ false = sym (ap (λ v. v && (has_of x.param a || rest)) lt ∙ one) ∙ none in cc)
]

rest_none : (l h r : Bool) → (l && (h || r)) ≡ false → (l && r) ≡ false
rest_none false h r e = refl
rest_none true true r e = absurd (cc)
rest_none true false r e = e

no_points : (phases : List PhaseItem) (p i : ℕ) (all : List Approach) (x : Row) → All (IsApproach phases) all → (ltb x.param 129 && list_any (has_of x.param) all) ≡ false → points_at p i all x ≡ []
no_points phases p i [] x sound none = refl
no_points phases p i (a ∷ more) x sound none =
    let here = All-head (IsApproach phases) a more sound in
    rw (and_right (eqb a.phase p) (is_on_at a.advance x) (not_on a x (list_any (has_of x.param) more) here.advance none))
    (no_points phases p (i + 1) more x (All-tail (IsApproach phases) a more sound) (rest_none (ltb x.param 129) (has_of x.param a) (list_any (has_of x.param) more) none))

pub points_kept : (c : Settings) (p : ℕ) (rows : List Row) → All (IsApproach c.phases) c.approaches → flat_map (points_at p 0 c.approaches) (of_approaches c rows) ≡ flat_map (points_at p 0 c.approaches) rows
points_kept c p [] sound = refl
points_kept c p (x ∷ xs) sound = elim (cases_Bool (has_detector c x.param)) [
  | inl e ↦ rw e (ap (λ zs. points_at p 0 c.approaches x ++ zs) (points_kept c p xs sound))
  | inr e ↦ rw (e, no_points c.phases p 0 c.approaches x sound e) (points_kept c p xs sound)
]

-- the detectors of an approach are detectors of the configuration

any_at : (P : Approach → Bool) (xs : List Approach) (i : ℕ) (d : Approach) → i < length xs → P (get_or xs i d) ≡ true → list_any P xs ≡ true
any_at P [] i d lt e = absurd (omega arith)
any_at P (x ∷ xs) zero d lt e = or_left (P x) (list_any P xs) e
any_at P (x ∷ xs) (suc i) d lt e = or_right (P x) (list_any P xs) (any_at P xs i d (omega arith) e)

first_has : (o : Option ℕ) (rest : List ℕ) → IfSome o (λ d. has_number (some_number o ++ rest) d ≡ true)
first_has None rest = tt
first_has (Some d) rest = or_left (eqb d d) _ (eq-eqb d d refl)

second_has : (o q : Option ℕ) → IfSome q (λ d. has_number (some_number o ++ some_number q) d ≡ true)
second_has o None = tt
second_has None (Some d) = or_left (eqb d d) _ (eq-eqb d d refl)
second_has (Some c) (Some d) = or_right (eqb c d) _ (or_left (eqb d d) _ (eq-eqb d d refl))

some_has : (c : Settings) (i : ℕ) (d : Approach) (o : Option ℕ) → i < length c.approaches → IfSome o (IsBetween 1 128) → IfSome o (λ n. has_of n (get_or c.approaches i d) ≡ true) → IfSome o (λ n. has_detector c n ≡ true)
some_has c i d None lt small has = tt
some_has c i d (Some n) lt small has =
    let hi = small.1 in
    and_from (ltb n 129) (list_any (has_of n) c.approaches) (lt-ltb n 129 (omega arith)) (any_at (has_of n) c.approaches i d lt has)

pub is_own_of : (c : Settings) (i : ℕ) (d : Approach) → i < length c.approaches → IsApproach c.phases (get_or c.approaches i d) → IsOwnOf c (get_or c.approaches i d)
is_own_of c i d lt is =
    let a = get_or c.approaches i d in
    record {
      phase = is.phase;
      advance = some_has c i d a.advance lt is.advance (first_has a.advance (some_number a.stop_bar));
      stop_bar = some_has c i d a.stop_bar lt is.stop_bar (second_has a.advance a.stop_bar);
      travel = is.travel;
    }
