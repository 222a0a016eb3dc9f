-- Arrivals of an hour by its view.
use Rattle.std.proofs.Common.{◌≡◌, ◌↔◌, inl, inr, ℕ, ◌+◌, ◌*◌, ◌<◌, ◌≤◌, Bool, true, false, not, ◌&&◌, eqb, ltb, IsTrue, Option, Some, None, List, [], ◌∷◌, ◌++◌, length, get_or, take, drop, refl, ap, sym, subst, ◌∙◌, arith}
use Rattle.std.specs.Prelude.{All, IfSome}
use Rattle.std.specs.List.{list_any}
use Rattle.std.proofs.lemmas.Bool.{and_parts, cases_Bool, eqb-true, lt-ltb, ltb-true, not-true}
use Rattle.std.proofs.lemmas.List.{drop_more, length-take-le, take_more}
use Rattle.std.proofs.lemmas.List.Elements.{All-nil, All-cons, All-head, All-tail}
use Rattle.sig_base.specs.declared.values.Row.{Row}
use Rattle.sig_base.specs.HourRows.{AreRowsOf}
use Rattle.sig_base.proofs.Common.{clash, some_same}
use Rattle.gap_map.specs.declared.stretch.Stretch.{Stretch}
use Rattle.gap_map.specs.Stretches.{AreStretches, known_at}
use Rattle.gap_map.proofs.Following.{own_known}
use Rattle.hour_sweep.specs.Hours.{AreOrdered}
use Rattle.hour_sweep.proofs.Orders.{below_end, rise_ordered}
use Rattle.board.specs.Logs.{HourLog, end_tenth, first_tenth, no_row}
use Rattle.board.specs.Verdicts.{MayPassRow}
use Rattle.service_cut.proofs.YellowEnds.{from_first}
use Rattle.ring_config.specs.Settings.{Settings, spec_place}
use Rattle.ring_config.specs.declared.items.Approach.{Approach}
use Rattle.arrival_measures.specs.Crossing.{has_detector}
use Rattle.arrival_measures.specs.Judged.{AllPass}
use Rattle.arrival_measures.specs.Points.{ArePicked, IsArrival, MayWork, detector_channel, is_ahead, is_fault, is_on_at}
use Rattle.arrival_measures.specs.Views.{IsSeen}

-- ---- rows that are picked, row by row

module _ (P : ℕ → Row → Type 0) where
  pub picked_none : (n : ℕ) (picked : List Row) → picked ≡ [] → ArePicked P n [] picked
  unfolding ArePicked
  picked_none n picked e = e

  push_on : (n m : ℕ) (xs picked : List Row) (x : Row) → m ≡ n + length xs → P m x → ArePicked P n xs picked → ArePicked P n (xs ++ x ∷ []) (picked ++ x ∷ [])
  unfolding ArePicked
  push_on n m [] picked x at p h =
      let same : m ≡ n = omega (arith, at) in
      inl (subst (λ (k : ℕ). P k x) same p, ([], ap (λ zs. zs ++ x ∷ []) h, refl))
  push_on n m (y ∷ ys) picked x at p (inl (q, (rest, e, r))) = inl (q, (rest ++ x ∷ [], ap (λ zs. zs ++ x ∷ []) e, push_on (n + 1) m ys rest x (omega (arith, at)) p r))
  push_on n m (y ∷ ys) picked x at p (inr (q, r)) = inr (q, push_on (n + 1) m ys picked x (omega (arith, at)) p r)

  push_off : (n m : ℕ) (xs picked : List Row) (x : Row) → m ≡ n + length xs → (P m x → ⊥) → ArePicked P n xs picked → ArePicked P n (xs ++ x ∷ []) picked
  unfolding ArePicked
  push_off n m [] picked x at other h =
      let same : m ≡ n = omega (arith, at) in
      inr (subst (λ (k : ℕ). P k x → ⊥) same other, h)
  push_off n m (y ∷ ys) picked x at other (inl (q, (rest, e, r))) = inl (q, (rest, e, push_off (n + 1) m ys rest x (omega (arith, at)) other r))
  push_off n m (y ∷ ys) picked x at other (inr (q, r)) = inr (q, push_off (n + 1) m ys picked x (omega (arith, at)) other r)

  -- the next row is picked, or it isn't
  pub picked_on : (rows : List Row) (i : ℕ) (d : Row) (picked new : List Row) → i < length rows → P i (get_or rows i d) → new ≡ picked ++ get_or rows i d ∷ [] → ArePicked P 0 (take i rows) picked → ArePicked P 0 (take (i + 1) rows) new
  picked_on rows i d picked new lt p e h =
      let size = length-take-le i rows (omega arith) in
      let more = push_on 0 i (take i rows) picked (get_or rows i d) (omega (arith, size)) p h in
      subst (λ (zs : List Row). ArePicked P 0 (take (i + 1) rows) zs) (sym e) (subst (λ (zs : List Row). ArePicked P 0 zs (picked ++ get_or rows i d ∷ [])) (sym (take_more rows i d lt)) more)

  pub picked_off : (rows : List Row) (i : ℕ) (d : Row) (picked new : List Row) → i < length rows → (P i (get_or rows i d) → ⊥) → new ≡ picked → ArePicked P 0 (take i rows) picked → ArePicked P 0 (take (i + 1) rows) new
  picked_off rows i d picked new lt other e h =
      let size = length-take-le i rows (omega arith) in
      let more = push_off 0 i (take i rows) picked (get_or rows i d) (omega (arith, size)) other h in
      subst (λ (zs : List Row). ArePicked P 0 (take (i + 1) rows) zs) (sym e) (subst (λ (zs : List Row). ArePicked P 0 zs picked) (sym (take_more rows i d lt)) more)

  -- what holds of all rows holds of those
  pub picked_all : (Q : Row → Type 0) (n : ℕ) (xs picked : List Row) → All Q xs → ArePicked P n xs picked → All Q picked
  unfolding ArePicked
  picked_all Q n [] picked all h = subst (λ (zs : List Row). All Q zs) (sym h) (All-nil Q)
  picked_all Q n (x ∷ xs) picked all (inl (q, (rest, e, r))) = subst (λ (zs : List Row). All Q zs) (sym e) (All-cons Q x rest (All-head Q x xs all) (picked_all Q (n + 1) xs rest (All-tail Q x xs all) r))
  picked_all Q n (x ∷ xs) picked all (inr (q, r)) = picked_all Q (n + 1) xs picked (All-tail Q x xs all) r

-- ---- a detector that isn't sure to have a fault

pub may_work_is : (c : Settings) (log : HourLog) (n : ℕ) (x : Row) (place : ℕ) (sure : Bool) → Some place ≡ spec_place c.specs (detector_channel x.param) → (IsTrue sure ↔ AllPass is_fault (MayPassRow log n place)) → IsTrue (not sure) ↔ MayWork c log n x
may_work_is c log n x place sure at is = (
  λ h. record { place = place; is_place = sym at; not_sure = λ all. clash sure (is.1 all) (not-true sure h) },
  λ work.
      let same : place ≡ work.place = some_same place work.place (at ∙ work.is_place) in
      elim (cases_Bool sure) [
        | inl on ↦ absurd (work.not_sure (subst (λ (i : ℕ). AllPass is_fault (MayPassRow log n i)) same (is.0 on)))
        | inr off ↦ rw off refl
      ],
)

pub no_place : (c : Settings) (log : HourLog) (n : ℕ) (x : Row) → None ≡ spec_place c.specs (detector_channel x.param) → IsTrue false ↔ MayWork c log n x
no_place c log n x at = (
  λ h. absurd (let bad : false ≡ true = h in cc),
  λ work. absurd (let bad : None ≡ Some work.place = at ∙ work.is_place in cc),
)

-- ---- a detector that is ahead of an approach

or_first : (P : Approach → Bool) (all : List Approach) (i : ℕ) (d : Approach) → i < length all → P (get_or all i d) ≡ true → list_any P (drop i all) ≡ true
or_first P all i d lt e = rw (drop_more all i d lt, e) refl

or_later : (P : Approach → Bool) (all : List Approach) (i : ℕ) (d : Approach) → i < length all → P (get_or all i d) ≡ false → list_any P (drop i all) ≡ list_any P (drop (i + 1) all)
or_later P all i d lt e = rw (drop_more all i d lt, e) refl

pub ahead_here : (p : ℕ) (all : List Approach) (x : Row) (i : ℕ) (d : Approach) → i < length all → (eqb (get_or all i d).phase p && is_on_at (get_or all i d).advance x) ≡ true → is_ahead p all x ≡ is_ahead p (drop i all) x → true ≡ is_ahead p all x
ahead_here p all x i d lt e h = sym (h ∙ or_first (λ a. eqb a.phase p && is_on_at a.advance x) all i d lt e)

pub ahead_later : (p : ℕ) (all : List Approach) (x : Row) (i : ℕ) (d : Approach) → i < length all → (eqb (get_or all i d).phase p && is_on_at (get_or all i d).advance x) ≡ false → is_ahead p all x ≡ is_ahead p (drop i all) x → is_ahead p all x ≡ is_ahead p (drop (i + 1) all) x
ahead_later p all x i d lt e h = h ∙ or_later (λ a. eqb a.phase p && is_on_at a.advance x) all i d lt e

on_low : (c : Settings) (o : Option ℕ) (x : Row) → IfSome o (λ d. has_detector c d ≡ true) → is_on_at o x ≡ true → x.param < 256
on_low c None x h e = absurd (let bad : false ≡ true = e in cc)
on_low c (Some d) x h e =
    let same = eqb-true x.param d (and_parts (eqb x.code 82) (eqb x.param d) e).1 in
    let low = ltb-true d 129 (and_parts (ltb d 129) _ h).0 in
    omega (arith, same, low)

pub ahead_low : (c : Settings) (a : Approach) (p : ℕ) (x : Row) → IfSome a.advance (λ d. has_detector c d ≡ true) → (eqb a.phase p && is_on_at a.advance x) ≡ true → x.param < 256
ahead_low c a p x h e = on_low c a.advance x h (and_parts (eqb a.phase p) (is_on_at a.advance x) e).1

-- ---- an arrival

pub not_ahead : (c : Settings) (log : HourLog) (p n : ℕ) (x : Row) (b : Bool) → b ≡ is_ahead p c.approaches x → b ≡ false → IsTrue false ↔ IsArrival c log p n x
not_ahead c log p n x b is off = (
  λ h. absurd (let bad : false ≡ true = h in cc),
  λ a. absurd (clash (is_ahead p c.approaches x) a.ahead (sym is ∙ off)),
)

pub not_known : (c : Settings) (log : HourLog) (p n : ℕ) (x : Row) (b : Bool) → b ≡ known_at log.stretches x.at → b ≡ false → IsTrue false ↔ IsArrival c log p n x
not_known c log p n x b is off = (
  λ h. absurd (let bad : false ≡ true = h in cc),
  λ a. absurd (clash (known_at log.stretches x.at) a.is_known (sym is ∙ off)),
)

pub arrival_is : (c : Settings) (log : HourLog) (p n : ℕ) (x : Row) (works : Bool) → is_ahead p c.approaches x ≡ true → known_at log.stretches x.at ≡ true → (IsTrue works ↔ MayWork c log n x) → IsTrue works ↔ IsArrival c log p n x
arrival_is c log p n x works ahead known is = (
  λ h. record { is_known = known; ahead = ahead; may_work = is.0 h },
  λ a. is.1 a.may_work,
)

-- ---- the rows of the hour

rows_ordered : (hour : ℕ) (rows : List Row) → AreRowsOf hour rows → AreOrdered (36000 * hour) (36000 * hour + 36000) rows
rows_ordered hour rows are = rise_ordered (36000 * hour) (36000 * hour + 36000) rows (omega arith) are.rise

pub rows_low : (hour : ℕ) (rows : List Row) → AreRowsOf hour rows → All (λ x. x.at < 26820000) rows
rows_low hour rows are = λ k d lt.
    let low = below_end (36000 * hour) (36000 * hour + 36000) rows (rows_ordered hour rows are) k d lt in
    let range = are.in_range in
    omega (arith, low, range)

-- what the stretches say of the tenth of a row is what is known
pub row_known : (c : Settings) (view : HourLog) (rows : List Row) (ss : List Stretch) (log : HourLog) (n : ℕ) (x : Row) (b : Bool) → IsSeen c view rows ss log → n < length rows → x ≡ get_or rows n no_row → ((known : ℕ → Bool) (f t : ℕ) → AreStretches known f t ss → f ≤ x.at → b ≡ (known x.at && ltb x.at t)) → b ≡ known_at log.stretches x.at
row_known c view rows ss log n x b is lt at tells =
    let hour = is.is_view.is_log.is_hour in
    let f = first_tenth log.hour in
    let t = end_tenth log.hour in
    let order = rows_ordered log.hour log.rows hour.are_rows in
    let lt_own : n < length log.rows = subst (λ (zs : List Row). n < length zs) (sym is.same_rows) lt in
    let own : x ≡ get_or log.rows n no_row = at ∙ ap (λ (zs : List Row). get_or zs n no_row) (sym is.same_rows) in
    let from : f ≤ x.at = subst (λ (z : Row). f ≤ z.at) (sym own) (from_first f t f log.rows (omega arith) order n no_row lt_own) in
    let upto : x.at < t = subst (λ (z : Row). z.at < t) (sym own) (below_end f t log.rows order n no_row lt_own) in
    let are : AreStretches (known_at log.stretches) f t ss = subst (λ (zs : List Stretch). AreStretches (known_at log.stretches) f t zs) is.same_stretches (own_known f t log.stretches hour.follow) in
    tells (known_at log.stretches) f t are from ∙ and_on (known_at log.stretches x.at) (ltb x.at t) (lt-ltb x.at t upto)
  where
    and_on : (a b : Bool) → b ≡ true → (a && b) ≡ a
    and_on true b e = e
    and_on false b e = refl
