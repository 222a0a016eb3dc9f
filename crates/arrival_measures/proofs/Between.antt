-- An hour's rows at some of its tenths.
use Rattle.std.proofs.Common.{◌≡◌, inl, inr, ℕ, zero, suc, ◌<◌, ◌≤◌, Bool, true, not, ◌&&◌, leb, ltb, List, [], ◌∷◌, ◌++◌, Option, Some, length, get_or, refl, ap, sym, subst, ◌∙◌, arith}
use Rattle.std.specs.Prelude.{All, max}
use Rattle.std.specs.List.{filter}
use Rattle.std.specs.List.Sorted.{IsNonDecreasingBy}
use Rattle.std.proofs.lemmas.Bool.{cases_Bool, cases_lt, ltb-true, ltb-false, lt-ltb, le-leb, leb-true, and_parts}
use Rattle.std.proofs.lemmas.List.Elements.{All-nil, All-cons, All-weaker, filter-append}
use Rattle.sig_base.specs.declared.values.Row.{Row}
use Rattle.hour_sweep.specs.Rows.{known_rows}
use Rattle.hour_sweep.specs.Hours.{AreOrdered}
use Rattle.service_cut.proofs.YellowEnds.{from_first}
use Rattle.arrival_measures.specs.declared.open.Open.{Open}
use Rattle.arrival_measures.specs.Arrivals.{rows_within}
use Rattle.arrival_measures.specs.Opens.{open_at}
use Rattle.arrival_measures.specs.Travel.{from_tenth}
use Rattle.arrival_measures.proofs.Within.{filter_same, within_none}
use Rattle.arrival_measures.specs.Steps.{IsUnderWay}
use Rattle.arrival_measures.proofs.Own.{filter_filter}
use Rattle.arrival_measures.proofs.Filters.{and_same}
use Rattle.arrival_measures.proofs.Opens.{from_is, open_same}

-- rows in order don't fall

pub at_least : (a b : ℕ) (xs : List Row) (j : ℕ) (d : Row) → AreOrdered a b xs → j < length xs → a ≤ (get_or xs j d).at
at_least a b [] j d h lt = absurd (omega arith)
at_least a b (x ∷ xs) zero d h lt = h.0
at_least a b (x ∷ xs) (suc j) d h lt = let l = h.0 in let r = at_least x.at b xs j d h.2 (omega arith) in omega arith

pub never_falls : (a b : ℕ) (xs : List Row) → AreOrdered a b xs → IsNonDecreasingBy (λ (z : Row). z.at) xs
never_falls a b [] h i j d le lt = absurd (omega arith)
never_falls a b (x ∷ xs) h zero zero d le lt = omega arith
never_falls a b (x ∷ xs) h zero (suc j) d le lt = at_least x.at b xs j d h.2 (omega arith)
never_falls a b (x ∷ xs) h (suc i) zero d le lt = absurd (omega arith)
never_falls a b (x ∷ xs) h (suc i) (suc j) d le lt = never_falls x.at b xs h.2 i j d (omega arith) (omega arith)

-- the rows between two tenths

pub not_before : (x f : ℕ) → not (ltb x f) ≡ leb f x
not_before x f = elim (cases_Bool (ltb x f)) [
  | inl e ↦ rw e (let lt = ltb-true x f e in elim (cases_Bool (leb f x)) [ inl t ↦ absurd (let le = leb-true f x t in omega arith) | inr n ↦ sym n ])
  | inr e ↦ rw e (sym (le-leb f x (ltb-false x f e)))
]

pub between_is : (f t : ℕ) (rows later between : List Row) → later ≡ from_tenth f rows → between ≡ filter (λ x. ltb x.at t) later → between ≡ rows_within f t rows
between_is f t rows later between el eb = eb ∙ ap (λ zs. filter (λ x. ltb x.at t) zs) el ∙ filter_filter (λ x. ltb x.at t) (λ x. leb f x.at) rows

within_from : (a b f t c : ℕ) (xs : List Row) → AreOrdered a b xs → c ≤ t → c ≤ max a f → AreOrdered c t (rows_within f t xs)
within_from a b f t c [] h le m = le
within_from a b f t c (x ∷ xs) h le m =
    let l = h.0 in
    elim (cases_Bool (leb f x.at && ltb x.at t)) [
      | inl e ↦
          let both = and_parts (leb f x.at) (ltb x.at t) e in
          let lo = leb-true f x.at both.0 in
          let hi = ltb-true x.at t both.1 in
          rw e (omega arith, hi, within_from x.at b f t x.at xs h.2 (omega arith) (omega arith))
      | inr e ↦ rw e (within_from x.at b f t c xs h.2 le (omega arith))
    ]

pub within_ordered : (a b f t : ℕ) (xs : List Row) → AreOrdered a b xs → f ≤ t → AreOrdered f t (rows_within f t xs)
within_ordered a b f t xs h le = within_from a b f t f xs h le (omega arith)

-- those of a cycle are known

same_test : (known : ℕ → Bool) (a b f : ℕ) (x : Row) → (a ≤ x.at → f ≤ x.at) → ((t : ℕ) → a ≤ t → t < b → known t ≡ true) → ((leb f x.at && ltb x.at b) && (leb a x.at && ltb x.at b)) ≡ (known x.at && (leb a x.at && ltb x.at b))
same_test known a b f x low kn = and_same (leb f x.at && ltb x.at b) (known x.at) (leb a x.at && ltb x.at b) (λ e.
    let both = and_parts (leb a x.at) (ltb x.at b) e in
    let lo = leb-true a x.at both.0 in
    let hi = ltb-true x.at b both.1 in
    rw (le-leb f x.at (low lo), lt-ltb x.at b hi, kn x.at lo hi) refl)

known_within : (known : ℕ → Bool) (a b f : ℕ) (rows : List Row) → All (λ x. a ≤ x.at → f ≤ x.at) rows → ((t : ℕ) → a ≤ t → t < b → known t ≡ true) → rows_within a b (rows_within f b rows) ≡ rows_within a b (known_rows known rows)
known_within known a b f rows low kn =
    filter_filter (λ x. leb a x.at && ltb x.at b) (λ x. leb f x.at && ltb x.at b) rows
    ∙ filter_same (λ x. a ≤ x.at → f ≤ x.at) (λ x. (leb f x.at && ltb x.at b) && (leb a x.at && ltb x.at b)) (λ x. known x.at && (leb a x.at && ltb x.at b)) rows (λ x l. same_test known a b f x l kn) low
    ∙ sym (filter_filter (λ x. leb a x.at && ltb x.at b) (λ x. known x.at) rows)

all_low : (a f e : ℕ) (rows : List Row) → AreOrdered f e rows → All (λ x. a ≤ x.at → f ≤ x.at) rows
all_low a f e rows h = All-weaker (λ (x : Row). f ≤ x.at) (λ x. a ≤ x.at → f ≤ x.at) (λ x l m. l) rows (from_first f e f rows (omega arith) h)

all_any : (a : ℕ) (rows : List Row) → All (λ x. a ≤ x.at → a ≤ x.at) rows
all_any a [] = All-nil (λ x. a ≤ x.at → a ≤ x.at)
all_any a (x ∷ xs) = All-cons (λ z. a ≤ z.at → a ≤ z.at) x xs (λ l. l) (all_any a xs)

-- a cycle of the hour

-- what following a cycle gives
abbrev pub Follows : ℕ → ℕ → List Row → Open → ℕ → ℕ → Open → Type 0
Follows p d rows begun at to result = (a b : ℕ) (earlier : List Row) → AreOrdered a b rows → at ≤ to → begun ≡ open_at p d begun.from at earlier → begun.from ≤ at → All (λ x. x.at < at) earlier → result ≡ open_at p d begun.from to (earlier ++ rows_within at to rows)

pub given_before : (known : ℕ → Bool) (p d : ℕ) (before rows : List Row) (first end a b : ℕ) (o r : Open) → a < first → Follows p d rows o first b r → IsUnderWay known p d before rows first end (Some o) a b → r ≡ open_at p d a b (before ++ known_rows known rows)
given_before known p d before rows first end a b o r lt follows h =
    let some = h.is_begun lt in
    let e : o ≡ open_at p d a first before = cc in
    let from : o.from ≡ a = ap (λ (z : Open). z.from) e ∙ from_is p d a first before in
    let order = h.order in
    let W = rows_within first b rows in
    let K = known_rows known rows in
    let same : rows_within a b (before ++ W) ≡ rows_within a b (before ++ K) =
    filter-append (λ x. leb a x.at && ltb x.at b) before W
    ∙ ap (λ zs. rows_within a b before ++ zs) (known_within known a b first rows (all_low a first end rows h.ordered) h.all_known)
    ∙ sym (filter-append (λ x. leb a x.at && ltb x.at b) before K) in
    follows first end before h.ordered h.later (subst (λ (k : ℕ). o ≡ open_at p d k first before) (sym from) e) (omega arith) h.earlier
    ∙ ap (λ k. open_at p d k b (before ++ W)) from
    ∙ open_same p d a b (before ++ W) (before ++ K) same order

pub given_within : (known : ℕ → Bool) (p d : ℕ) (before rows : List Row) (first end a b : ℕ) (begun : Option Open) (o r : Open) → first ≤ a → ((p d : ℕ) (rows : List Row) → o ≡ open_at p d a a rows) → Follows p d rows o a b r → IsUnderWay known p d before rows first end begun a b → r ≡ open_at p d a b (before ++ known_rows known rows)
given_within known p d before rows first end a b begun o r le begins follows h =
    let e = begins p d [] in
    let from : o.from ≡ a = ap (λ (z : Open). z.from) e ∙ from_is p d a a [] in
    let W = rows_within a b rows in
    let K = known_rows known rows in
    let early = All-weaker (λ (x : Row). x.at < first) (λ x. x.at < a) (λ x l. omega arith) before h.earlier in
    let same : rows_within a b W ≡ rows_within a b (before ++ K) =
    known_within known a b a rows (all_any a rows) h.all_known
    ∙ ap (λ zs. zs ++ rows_within a b K) (sym (within_none a b before early))
    ∙ sym (filter-append (λ x. leb a x.at && ltb x.at b) before K) in
    follows first end [] h.ordered h.order (subst (λ (k : ℕ). o ≡ open_at p d k a []) (sym from) e) (omega arith) (All-nil (λ x. x.at < a))
    ∙ ap (λ k. open_at p d k b W) from
    ∙ open_same p d a b W (before ++ K) same h.order

pub not_begun : (known : ℕ → Bool) (p d : ℕ) (before rows : List Row) (first end a b : ℕ) (begun : Option Open) → ((x : Open) → begun ≡ Some x → ⊥) → IsUnderWay known p d before rows first end begun a b → first ≤ a
not_begun known p d before rows first end a b begun none h = elim (cases_lt a first) [ inl lt ↦ absurd (none (open_at p d a first before) (h.is_begun lt)) | inr le ↦ le ]
