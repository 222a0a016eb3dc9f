-- The sums over the hours of a report, approach by approach.
use Rattle.std.proofs.Common.{◌≡◌, ◌∙◌, refl, ap, sym, subst, ℕ, zero, suc, ◌*◌, ◌<◌, ◌≤◌, Bool, true, Option, Some, None, List, [], ◌∷◌, ◌++◌, length, take, get_or, length-append, arith}
use Rattle.std.specs.Prelude.{All}
use Rattle.std.specs.List.{filter}
use Rattle.std.proofs.lemmas.List.{take_all}
use Rattle.std.proofs.lemmas.List.Elements.{All-head, All-tail}
use Rattle.sig_base.specs.HourRows.{Shown}
use Rattle.sig_base.specs.declared.values.Row.{Row}
use Rattle.hour_store.specs.Store.{IsStore, Store, is_known, known_rows, rows_of}
use Rattle.hour_sweep.specs.Sums.{merged}
use Rattle.ring_config.specs.declared.items.Approach.{Approach}
use Rattle.ring_config.proofs.SpecLaws.{length_filter}
use Rattle.stop_bar.specs.Lists.{Each}
use Rattle.hour_work.specs.Numbers.{Numbers, numbers_sum, total_of}
use Rattle.hour_work.specs.Rows.{earlier_rows, own_rows}
use Rattle.hour_work.proofs.WholeLog.{hour_within}
use Rattle.hour_work.proofs.Totals.{next_total}
use Rattle.measure_laws.specs.Sums.{AreCountable}

-- ---- place by place

pub each_as : {A S : Type 0} (Q U : A → S → Type 0) (xs : List A) (ps : List S) → ((x : A) (p : S) → Q x p → U x p) → Each Q xs ps → Each U xs ps
each_as Q U [] [] h q = tt
each_as Q U [] (p ∷ ps) h q = absurd q
each_as Q U (x ∷ xs) [] h q = absurd q
each_as Q U (x ∷ xs) (p ∷ ps) h q = (h x p q.0, each_as Q U xs ps h q.1)

each_put : {A S : Type 0} (put : S → S → S) (R Q U : A → S → Type 0) (xs : List A) (ts ps : List S) → ((x : A) (t p : S) → R x t → Q x p → U x (put t p)) → Each R xs ts → Each Q xs ps → Each U xs (merged put ts ps)
each_put put R Q U [] [] [] h r q = tt
each_put put R Q U [] [] (p ∷ ps) h r q = absurd q
each_put put R Q U [] (t ∷ ts) ps h r q = absurd r
each_put put R Q U (x ∷ xs) [] ps h r q = absurd r
each_put put R Q U (x ∷ xs) (t ∷ ts) [] h r q = absurd q
each_put put R Q U (x ∷ xs) (t ∷ ts) (p ∷ ps) h r q = (h x t p r.0 q.0, each_put put R Q U xs ts ps h r.1 q.1)

pub each_of_places : {A S : Type 0} (P : A → S → Type 0) (xs : List A) (ss : List S) → length ss ≡ length xs → ((i : ℕ) (a : A) (x : S) → i < length xs → P (get_or xs i a) (get_or ss i x)) → Each P xs ss
each_of_places P [] [] e h = tt
each_of_places P [] (y ∷ ss) e h = absurd (omega arith)
each_of_places P (x ∷ xs) [] e h = absurd (omega arith)
each_of_places P (x ∷ xs) (y ∷ ss) e h = (h 0 x y (omega arith), each_of_places P xs ss (omega arith) (λ i a z lt. h (suc i) a z (omega arith)))

-- a test that all pass leaves none out
pub filter_all : {X : Type 0} (p : X → Bool) (xs : List X) → All (λ x. p x ≡ true) xs → filter p xs ≡ xs
filter_all p [] h = refl
filter_all p (x ∷ xs) h = rw (All-head (λ z. p z ≡ true) x xs h) (ap (λ zs. x ∷ zs) (filter_all p xs (All-tail (λ z. p z ≡ true) x xs h)))

-- ---- hour by hour

-- what is so of the first hour's numbers, and of the sums with one hour more, is so of the sums over all hours
module _ (Total : ℕ → Numbers → Type 0) (all : List Numbers) (first : (d : Numbers) → 0 < length all → Total 1 (numbers_sum (total_of []) (get_or all 0 d)))
    (more : (n : ℕ) (d t : Numbers) → n < length all → Total n t → Total (suc n) (numbers_sum t (get_or all n d))) where
  sums_upto : (n : ℕ) → n < length all → Total (suc n) (total_of (take (suc n) all))
  sums_upto zero lt = let d = total_of [] in subst (λ t. Total 1 t) (sym (next_total all 0 d lt)) (first d lt)
  sums_upto (suc n) lt =
      let d = total_of [] in
      let hour = suc n in
      subst (λ t. Total (suc hour) t) (sym (next_total all hour d lt)) (more hour d (total_of (take hour all)) lt (sums_upto n (omega arith)))

  sums_by : (n : ℕ) → length all ≡ n → 0 < n → Total n (total_of (take n all))
  sums_by zero e some = absurd (omega arith)
  sums_by (suc n) e some = sums_upto n (omega arith)

  pub all_sums : 0 < length all → Total (length all) (total_of all)
  all_sums some =
      let whole : take (length all) all ≡ all = take_all (length all) all (omega arith) in
      subst (λ ns. Total (length all) (total_of ns)) whole (sums_by (length all) refl some)

-- what the first hour's numbers are, and the sums with one hour more, the sums over the first n hours are
module _ {S : Type 0} (put : S → S → S) (of : Numbers → List S) (none : of (total_of []) ≡ []) (sums : (a b : Numbers) → of (numbers_sum a b) ≡ merged put (of a) (of b)) (Part Total : ℕ → Approach → S → Type 0) (xs : List Approach) (all : List Numbers)
    (parts : (n : ℕ) (d : Numbers) → n < length all → Each (Part n) xs (of (get_or all n d))) (first : (a : Approach) (p : S) → Part 0 a p → Total 1 a p)
    (more : (n : ℕ) → n < length all → (a : Approach) (t p : S) → Total n a t → Part n a p → Total (suc n) a (put t p)) where
  first_sum : (d : Numbers) → 0 < length all → Each (Total 1) xs (of (numbers_sum (total_of []) (get_or all 0 d)))
  first_sum d lt =
      let e : of (numbers_sum (total_of []) (get_or all 0 d)) ≡ of (get_or all 0 d) = sums (total_of []) (get_or all 0 d) ∙ ap (λ ts. merged put ts (of (get_or all 0 d))) none in
      subst (λ ts. Each (Total 1) xs ts) (sym e) (each_as (Part 0) (Total 1) xs (of (get_or all 0 d)) first (parts 0 d lt))

  more_sum : (n : ℕ) (d t : Numbers) → n < length all → Each (Total n) xs (of t) → Each (Total (suc n)) xs (of (numbers_sum t (get_or all n d)))
  more_sum n d t lt so = subst (λ ts. Each (Total (suc n)) xs ts) (sym (sums t (get_or all n d))) (each_put put (Total n) (Part n) (Total (suc n)) xs (of t) (of (get_or all n d)) (more n lt) so (parts n d lt))

  -- the sums over all hours
  pub all_total : 0 < length all → Each (Total (length all)) xs (of (total_of all))
  all_total some = all_sums (λ n t. Each (Total n) xs (of t)) all first_sum more_sum some

-- ---- the rows of a store, and those up to an hour's end, are fewer than a count has numbers

rows_few : (hours : List (Option Shown)) → ((j : ℕ) (h : Shown) → get_or hours j None ≡ Some h → length h.rows ≤ 400000) → length (rows_of hours) ≤ 400000 * length hours
rows_few [] f = omega arith
rows_few (None ∷ hs) f = let rest = rows_few hs (λ j h e. f (suc j) h e) in omega (arith, rest)
rows_few (Some h ∷ hs) f =
    let rest = rows_few hs (λ j x e. f (suc j) x e) in
    let one = f 0 h refl in
    let both = length-append h.rows (rows_of hs) in
    omega (arith, rest, one, both)

pub known_few : (s : Store) → IsStore s → length (known_rows s) ≤ 297600000
known_few s store =
    let all = rows_few s.hours (λ j h e. (store.in_place j h e).rows_are.few) in
    let kept = length_filter (λ (r : Row). is_known s r.at) (rows_of s.hours) in
    let most = store.few in
    omega (arith, all, kept, most)

pub few_upto : (s : Store) (hour : ℕ) → IsStore s → hour < length s.hours → AreCountable (earlier_rows s hour ++ own_rows s hour)
few_upto s hour store lt =
    let w = hour_within s hour store lt in
    let a = length-append (earlier_rows s hour) (own_rows s hour ++ w.later) in
    let b = length-append (own_rows s hour) w.later in
    let c = length-append (earlier_rows s hour) (own_rows s hour) in
    let e = ap (λ (rs : List Row). length rs) w.parts in
    let few = known_few s store in
    omega (arith, a, b, c, e, few)
