-- The rows, the histories and the cycles leave one list of sums.
use Rattle.std.proofs.Common.{◌≡◌, ℕ, suc, ◌<◌, Bool, List, [], ◌∷◌, Option, Some, None, map, length, get_or, refl, ap, sym, subst, ◌∙◌, arith}
use Rattle.sig_base.specs.declared.values.Row.{Row}
use Rattle.reach.specs.Runs.{State}
use Rattle.ring_config.specs.Settings.{Settings}
use Rattle.ring_config.specs.declared.items.Approach.{Approach}
use Rattle.arrival_measures.specs.declared.sums.ArrivalSum.{ArrivalSum}
use Rattle.arrival_measures.specs.Cycles.{CycleNumbers}
use Rattle.arrival_measures.specs.Judged.{AllPass, NonePass, OnlySomePass, CountOf, AreJudged, is_green, is_red}
use Rattle.arrival_measures.specs.Hours.{HasArrivals, HasActuations, HasJudged, AreAllJudged, HaveCycles, cycle_part}
use Rattle.arrival_measures.proofs.Counting.{count_one}
use Rattle.arrival_measures.proofs.Each.{got_map}
use Rattle.arrival_measures.proofs.Starts.{no_approach}

same_list : {A : Type 0} (xs ys : List A) → length xs ≡ length ys → ((i : ℕ) (d : A) → i < length xs → get_or xs i d ≡ get_or ys i d) → xs ≡ ys
same_list [] [] e h = refl
same_list [] (y ∷ ys) e h = absurd (omega arith)
same_list (x ∷ xs) [] e h = absurd (omega arith)
same_list (x ∷ xs) (y ∷ ys) e h =
    let here : x ≡ y = h 0 x (omega arith) in
    let more : xs ≡ ys = same_list xs ys (omega arith) (λ i d lt. h (suc i) d (omega arith)) in
    cc

-- there is one count of each kind
pub record IsOne (a b c d e f : ℕ) : Type 0 where
  pub all : a ≡ d
  pub none : b ≡ e
  pub some : c ≡ f

one_judged : (May : ℕ → ℕ → State → Type 0) (c : Settings) (p : ℕ) (test : ℕ → Bool) (ons : List Row) (a b s d e t : ℕ) → AreJudged May c p test ons a b s → AreJudged May c p test ons d e t → IsOne a b s d e t
one_judged May c p test ons a b s d e t h k =
    let same : Some h.place ≡ Some k.place = sym h.is_place ∙ k.is_place in
    let place : k.place ≡ h.place = cc in
    record {
      all = count_one (λ x. AllPass test (May h.place x.at)) ons a d h.all_pass (subst (λ (q : ℕ). CountOf (λ x. AllPass test (May q x.at)) ons d) place k.all_pass);
      none = count_one (λ x. NonePass test (May h.place x.at)) ons b e h.none_pass (subst (λ (q : ℕ). CountOf (λ x. NonePass test (May q x.at)) ons e) place k.none_pass);
      some = count_one (λ x. OnlySomePass test (May h.place x.at)) ons s t h.some_pass (subst (λ (q : ℕ). CountOf (λ x. OnlySomePass test (May q x.at)) ons t) place k.some_pass);
    }

-- the numbers by its advance detector, and those at its stop bar

record IsOneAhead (x y : ArrivalSum) : Type 0 where
  arrivals : x.arrivals ≡ y.arrivals
  judged : IsOne x.green x.not_green x.undecided y.green y.not_green y.undecided
  unseen : x.unseen ≡ y.unseen
  fault : x.fault ≡ y.fault

record IsOneAtBar (x y : ArrivalSum) : Type 0 where
  actuations : x.actuations ≡ y.actuations
  judged : IsOne x.red x.not_red x.red_undecided y.red y.not_red y.red_undecided
  fault : x.red_fault ≡ y.red_fault

one_arrivals : (May : ℕ → ℕ → State → Type 0) (known : ℕ → Bool) (c : Settings) (a : Approach) (before rows : List Row) (hour : ℕ) (x y : ArrivalSum) (o : Option ℕ) → HasArrivals May known c a before rows hour x o → HasArrivals May known c a before rows hour y o → IsOneAhead x y
one_arrivals May known c a before rows hour x y None h k = record { arrivals = h.0 ∙ sym k.0; judged = record { all = h.1 ∙ sym k.1; none = h.2 ∙ sym k.2; some = h.3 ∙ sym k.3 }; unseen = h.4 ∙ sym k.4; fault = h.5 ∙ sym k.5 }
one_arrivals May known c a before rows hour x y (Some d) h k = record { arrivals = h.arrivals ∙ sym k.arrivals; judged = one_judged May c a.phase is_green _ _ _ _ _ _ _ h.judged k.judged; unseen = h.unseen ∙ sym k.unseen; fault = h.fault ∙ sym k.fault }

one_actuations : (May : ℕ → ℕ → State → Type 0) (known : ℕ → Bool) (c : Settings) (a : Approach) (before rows : List Row) (x y : ArrivalSum) (o : Option ℕ) → HasActuations May known c a before rows x o → HasActuations May known c a before rows y o → IsOneAtBar x y
one_actuations May known c a before rows x y None h k = record { actuations = h.0 ∙ sym k.0; judged = record { all = h.1 ∙ sym k.1; none = h.2 ∙ sym k.2; some = h.3 ∙ sym k.3 }; fault = h.4 ∙ sym k.4 }
one_actuations May known c a before rows x y (Some d) h k = record { actuations = h.actuations ∙ sym k.actuations; judged = one_judged May c a.phase is_red _ _ _ _ _ _ _ h.judged k.judged; fault = h.fault ∙ sym k.fault }

same_sum : (a1 a2 a3 a4 a5 a6 a7 a8 a9 a10 a11 a12 a13 a14 a15 b1 b2 b3 b4 b5 b6 b7 b8 b9 b10 b11 b12 b13 b14 b15 : ℕ) → a1 ≡ b1 → a2 ≡ b2 → a3 ≡ b3 → a4 ≡ b4 → a5 ≡ b5 → a6 ≡ b6 → a7 ≡ b7 → a8 ≡ b8 → a9 ≡ b9 → a10 ≡ b10 → a11 ≡ b11 → a12 ≡ b12 → a13 ≡ b13 → a14 ≡ b14 → a15 ≡ b15 → let x : ArrivalSum = record { arrivals = a1; green = a2; not_green = a3; undecided = a4; unseen = a5; fault = a6; cycle_arrivals = a7; cycle_green = a8; green_tenths = a9; cycle_tenths = a10; actuations = a11; red = a12; not_red = a13; red_undecided = a14; red_fault = a15 } in let y : ArrivalSum = record { arrivals = b1; green = b2; not_green = b3; undecided = b4; unseen = b5; fault = b6; cycle_arrivals = b7; cycle_green = b8; green_tenths = b9; cycle_tenths = b10; actuations = b11; red = b12; not_red = b13; red_undecided = b14; red_fault = b15 } in x ≡ y
same_sum a1 a2 a3 a4 a5 a6 a7 a8 a9 a10 a11 a12 a13 a14 a15 b1 b2 b3 b4 b5 b6 b7 b8 b9 b10 b11 b12 b13 b14 b15 e1 e2 e3 e4 e5 e6 e7 e8 e9 e10 e11 e12 e13 e14 e15 = cc

one_sum : (May : ℕ → ℕ → State → Type 0) (known : ℕ → Bool) (c : Settings) (before rows : List Row) (hour : ℕ) (a : Approach) (x y : ArrivalSum) → HasJudged May known c before rows hour a x → HasJudged May known c before rows hour a y → cycle_part x ≡ cycle_part y → x ≡ y
one_sum May known c before rows hour a x y h k e =
    let g = one_arrivals May known c a before rows hour x y a.advance h.arrivals k.arrivals in
    let r = one_actuations May known c a before rows x y a.stop_bar h.actuations k.actuations in
    let e1 : x.arrivals ≡ y.arrivals = g.arrivals in
    let e2 : x.green ≡ y.green = g.judged.all in
    let e3 : x.not_green ≡ y.not_green = g.judged.none in
    let e4 : x.undecided ≡ y.undecided = g.judged.some in
    let e5 : x.unseen ≡ y.unseen = g.unseen in
    let e6 : x.fault ≡ y.fault = g.fault in
    let e7 : x.cycle_arrivals ≡ y.cycle_arrivals = ap (λ (z : CycleNumbers). z.arrivals) e in
    let e8 : x.cycle_green ≡ y.cycle_green = ap (λ (z : CycleNumbers). z.green) e in
    let e9 : x.green_tenths ≡ y.green_tenths = ap (λ (z : CycleNumbers). z.green_tenths) e in
    let e10 : x.cycle_tenths ≡ y.cycle_tenths = ap (λ (z : CycleNumbers). z.tenths) e in
    let e11 : x.actuations ≡ y.actuations = r.actuations in
    let e12 : x.red ≡ y.red = r.judged.all in
    let e13 : x.not_red ≡ y.not_red = r.judged.none in
    let e14 : x.red_undecided ≡ y.red_undecided = r.judged.some in
    let e15 : x.red_fault ≡ y.red_fault = r.fault in
    same_sum x.arrivals x.green x.not_green x.undecided x.unseen x.fault x.cycle_arrivals x.cycle_green x.green_tenths x.cycle_tenths x.actuations x.red x.not_red x.red_undecided x.red_fault y.arrivals y.green y.not_green y.undecided y.unseen y.fault y.cycle_arrivals y.cycle_green y.green_tenths y.cycle_tenths y.actuations y.red y.not_red y.red_undecided y.red_fault e1 e2 e3 e4 e5 e6 e7 e8 e9 e10 e11 e12 e13 e14 e15

-- sums that are judged by the same histories, with the same cycles
pub one_sums : (May : ℕ → ℕ → State → Type 0) (known : ℕ → Bool) (c : Settings) (before rows : List Row) (hour : ℕ) (earlier seen : List Row) (xs ys : List ArrivalSum) → AreAllJudged May known c before rows hour xs → AreAllJudged May known c before rows hour ys → HaveCycles known c earlier seen xs → HaveCycles known c earlier seen ys → xs ≡ ys
one_sums May known c before rows hour earlier seen xs ys h k e f =
    let cycles : map cycle_part xs ≡ map cycle_part ys = e ∙ sym f in
    same_list xs ys (h.size ∙ sym k.size) (λ i d lt.
    let part : cycle_part (get_or xs i d) ≡ cycle_part (get_or ys i d) = sym (got_map cycle_part xs i d (cycle_part d) lt) ∙ ap (λ zs. get_or zs i (cycle_part d)) cycles ∙ got_map cycle_part ys i d (cycle_part d) (let s = h.size in let t = k.size in omega arith) in
    let low : i < length c.approaches = (let s = h.size in omega arith) in
    one_sum May known c before rows hour (get_or c.approaches i no_approach) (get_or xs i d) (get_or ys i d) (h.each i no_approach d low) (k.each i no_approach d low) part)
