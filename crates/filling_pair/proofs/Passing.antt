-- Rows of a walk one after another, with the fills before them.
use Rattle.std.proofs.Common.{◌≡◌, refl, sym, ap, ◌∙◌, subst, inl, inr, ◌↔◌, ℕ, ◌+◌, ◌<◌, ◌≤◌, Bool, List, [], ◌∷◌, ◌++◌, length, drop, get_or, append_assoc, Option, arith}
use Rattle.std.specs.Prelude.{filter}
use Rattle.std.proofs.lemmas.Bool.{cases_Bool}
use Rattle.std.proofs.lemmas.List.{drop_more, drop_all}
use Rattle.sig_base.specs.declared.values.Row.{Row}
use Rattle.span_set.specs.declared.set.Span.{Span}
use Rattle.gap_map.proofs.Cutting.{nat_cases}
use Rattle.reach.specs.Runs.{State}
use Rattle.reach.proofs.Later.{then_iff}
use Rattle.board.specs.History.{Track}
use Rattle.filling_pair.specs.declared.strands.Fill.{Fill}
use Rattle.filling_pair.specs.declared.step.Stand.{Stand}
use Rattle.filling_pair.specs.Strands.{row_of, rows_of}
use Rattle.filling_pair.specs.Walking.{In, Remains, Walks, before, is_own, merged, own_of, since}

-- the fills before the tenth that were left have been passed
abbrev pub Walked : Track → ℕ → Option Stand → List Fill → Option Stand → List Fill → Type 0
Walked k t init all here rest = (more : List Row) (u : State) → In init (λ s. Walks k (rows_of (before t all) ++ more) s u) ↔ In here (λ s. Walks k (rows_of (before t rest) ++ more) s u)

pub before_first : (t : ℕ) (f : Fill) (fs : List Fill) → f.at < t → before t (f ∷ fs) ≡ f ∷ before t fs
before_first t f fs lt = elim (nat_cases f.at t) [ inl (e, _) ↦ rw e refl | inr (_, le) ↦ absurd (omega arith) ]

pub before_none : (t : ℕ) (f : Fill) (fs : List Fill) → t ≤ f.at → before t (f ∷ fs) ≡ []
before_none t f fs le = elim (nat_cases f.at t) [ inl (_, lt) ↦ absurd (omega arith) | inr (e, _) ↦ rw e refl ]

pub since_first : (t : ℕ) (f : Fill) (fs : List Fill) → f.at < t → since t (f ∷ fs) ≡ since t fs
since_first t f fs lt = elim (nat_cases f.at t) [ inl (e, _) ↦ rw e refl | inr (_, le) ↦ absurd (omega arith) ]

pub since_all : (t : ℕ) (f : Fill) (fs : List Fill) → t ≤ f.at → since t (f ∷ fs) ≡ f ∷ fs
since_all t f fs le = elim (nat_cases f.at t) [ inl (_, lt) ↦ absurd (omega arith) | inr (e, _) ↦ rw e refl ]

pub fills_turn : (k : Track) (t : ℕ) (init here new : Option Stand) (all after : List Fill) (f : Fill) → f.at < t → Walked k t init all here (f ∷ after) → ((more : List Row) (u : State) → In here (λ s. Walks k (row_of f ∷ more) s u) ↔ In new (λ s. Walks k more s u)) → Walked k t init all new after
fills_turn k t init here new all after f lt w m more u =
    let e = before_first t f after lt in
    then_iff (rw e at (w more u)) (m (rows_of (before t after) ++ more) u)

pub fills_stop : (k : Track) (t : ℕ) (init here : Option Stand) (all after : List Fill) (f : Fill) → t ≤ f.at → Walked k t init all here (f ∷ after) → (more : List Row) (u : State) → In init (λ s. Walks k (rows_of (before t all) ++ more) s u) ↔ In here (λ s. Walks k more s u)
fills_stop k t init here all after f le w more u = rw (before_none t f after le) at (w more u)

pub fill_turn : (k : Track) (t : ℕ) (init here new : Option Stand) (all : List Fill) (i : ℕ) (d : Fill) → i < length all → (get_or all i d).at < t → Walked k t init all here (drop i all) → ((more : List Row) (u : State) → In here (λ s. Walks k (row_of (get_or all i d) ∷ more) s u) ↔ In new (λ s. Walks k more s u)) → Walked k t init all new (drop (i + 1) all)
fill_turn k t init here new all i d lt early w m =
    let w2 = subst (λ (xs : List Fill). Walked k t init all here xs) (drop_more all i d lt) w in
    fills_turn k t init here new all (drop (i + 1) all) (get_or all i d) early w2 m

pub fill_stop : (k : Track) (t : ℕ) (init here : Option Stand) (all : List Fill) (i : ℕ) (d : Fill) → i < length all → t ≤ (get_or all i d).at → Walked k t init all here (drop i all) → (more : List Row) (u : State) → In init (λ s. Walks k (rows_of (before t all) ++ more) s u) ↔ In here (λ s. Walks k more s u)
fill_stop k t init here all i d lt late w =
    let w2 = subst (λ (xs : List Fill). Walked k t init all here xs) (drop_more all i d lt) w in
    fills_stop k t init here all (drop (i + 1) all) (get_or all i d) late w2

pub fill_end : (k : Track) (t : ℕ) (init here : Option Stand) (all : List Fill) (i : ℕ) → length all ≤ i → Walked k t init all here (drop i all) → (more : List Row) (u : State) → In init (λ s. Walks k (rows_of (before t all) ++ more) s u) ↔ In here (λ s. Walks k more s u)
fill_end k t init here all i le w = subst (λ (xs : List Fill). Walked k t init all here xs) (drop_all i all le) w

pub since_turn : (t : ℕ) (all : List Fill) (i : ℕ) (d : Fill) → i < length all → (get_or all i d).at < t → since t (drop i all) ≡ since t all → since t (drop (i + 1) all) ≡ since t all
since_turn t all i d lt early e = sym (ap (since t) (drop_more all i d lt) ∙ since_first t (get_or all i d) (drop (i + 1) all) early) ∙ e

-- the row after the fills before it
pub row_passed : (k : Track) (init at_row new : Option Stand) (all rest : List Fill) (r : Row) → rest ≡ since r.at all → ((more : List Row) (u : State) → In init (λ s. Walks k (rows_of (before r.at all) ++ more) s u) ↔ In at_row (λ s. Walks k more s u)) → ((more : List Row) (u : State) → In at_row (λ s. Walks k (r ∷ more) s u) ↔ In new (λ s. Walks k more s u)) → (b : ℕ) (more : List Row) (u : State) → Remains k b (r ∷ more) init all u ↔ Remains k b more new rest u
row_passed k init at_row new all rest r e w m b more u =
    let rows = merged b more (since r.at all) in
    let whole = then_iff (w (r ∷ rows) u) (m rows u) in
    subst (λ (fs : List Fill). Remains k b (r ∷ more) init all u ↔ Remains k b more new fs u) (sym e) whole

pub own_split : (p : Row → Bool) (r : Row) (rs : List Row) → filter p (r ∷ rs) ≡ filter p (r ∷ []) ++ filter p rs
own_split p r rs = elim (cases_Bool (p r)) [ inl e ↦ rw e refl | inr e ↦ rw e refl ]

-- the rows from one on are passed
abbrev pub Passed : Track → List Span → Option Stand → List Fill → List Row → Option Stand → List Fill → List Row → Type 0
Passed k blanks init all rows here fills rest = (b : ℕ) (more : List Row) (u : State) → Remains k b (own_of k blanks rows ++ more) init all u ↔ Remains k b (own_of k blanks rest ++ more) here fills u

pub rows_turn : (k : Track) (blanks : List Span) (init : Option Stand) (all : List Fill) (rows : List Row) (here : Option Stand) (fills : List Fill) (new : Option Stand) (fills2 : List Fill) (i : ℕ) (d : Row) → i < length rows → Passed k blanks init all rows here fills (drop i rows) → ((b : ℕ) (more : List Row) (u : State) → Remains k b (own_of k blanks (get_or rows i d ∷ []) ++ more) here fills u ↔ Remains k b more new fills2 u) → Passed k blanks init all rows new fills2 (drop (i + 1) rows)
rows_turn k blanks init all rows here fills new fills2 i d lt w m b more u =
    let r = get_or rows i d in
    let rs = drop (i + 1) rows in
    let e : own_of k blanks (drop i rows) ++ more ≡ own_of k blanks (r ∷ []) ++ (own_of k blanks rs ++ more) = ap (λ (xs : List Row). own_of k blanks xs ++ more) (drop_more rows i d lt) ∙ (ap (λ (xs : List Row). xs ++ more) (own_split (is_own k blanks) r rs) ∙ append_assoc (own_of k blanks (r ∷ [])) (own_of k blanks rs) more) in
    then_iff (subst (λ (xs : List Row). Remains k b (own_of k blanks rows ++ more) init all u ↔ Remains k b xs here fills u) e (w b more u)) (m b (own_of k blanks rs ++ more) u)

pub rows_end : (k : Track) (blanks : List Span) (init : Option Stand) (all : List Fill) (rows : List Row) (here : Option Stand) (fills : List Fill) (i : ℕ) → length rows ≤ i → Passed k blanks init all rows here fills (drop i rows) → (b : ℕ) (more : List Row) (u : State) → Remains k b (own_of k blanks rows ++ more) init all u ↔ Remains k b more here fills u
rows_end k blanks init all rows here fills i le w b more u = subst (λ (rs : List Row). Remains k b (own_of k blanks rows ++ more) init all u ↔ Remains k b (own_of k blanks rs ++ more) here fills u) (drop_all i rows le) (w b more u)
