-- Moves and the stills between them, with up to three lost rows.
use Rattle.std.proofs.Common.{suc, zero, ◌≡◌, refl, sym, subst, ◌⊎◌, inl, inr, ◌↔◌, ℕ, ◌+◌, ◌<◌, ◌≤◌, ℤ, pos, ◌<ℤ◌, ◌≤ℤ◌, List, [], ◌∷◌, length, drop, get_or, arith, Option}
use Rattle.std.proofs.lemmas.Int.{ints}
use Rattle.std.proofs.lemmas.List.{drop_all, drop_more}
use Rattle.span_set.specs.declared.set.Span.{Span}
use Rattle.colour_machine.specs.Rules.{Rules}
use Rattle.reach.specs.Runs.{State}
use Rattle.reach.specs.Past.{Holds}
use Rattle.reach.specs.Ahead.{Admits}
use Rattle.channel_path.specs.Places.{EntersBefore}
use Rattle.lost_rows.specs.declared.aheads.LostAheads.{LostAheads}
use Rattle.channel_path.specs.declared.moves.Move.{Move}
use Rattle.reach.proofs.Later.{then_iff}
use Rattle.channel_path.proofs.Moving.{not_after, taken_early}
use Rattle.channel_path.specs.Walks.{limit_before, limit_after, AfterMove, BeforeMove, InOrder, IsMove, Taken}
use Rattle.lost_rows.specs.declared.asked.Asked.{Asked}
use Rattle.lost_rows.specs.declared.pasts.LostPasts.{LostPasts}
use Rattle.lost_rows.specs.Stills.{AfterLost, BeforeLost, LostRow, LostRows}
use Rattle.lost_rows.specs.Walks.{end_of, nothing_asked, still_after, FromMove, MovedFrom, MovedTo, StillFrom, StillTo, WalkedFrom, WalkedTo}
use Rattle.lost_rows.specs.Credits.{AdmitsLost, AllBefore, HoldsLost}
use Rattle.lost_rows.proofs.Stills.{lost_parts}

pub row_entry : (m : Rules) (r : Asked) (t : ℤ) (s u : State) → LostRow m r t s u → u.entry ≡ t
row_entry m r t s u w = ((lost_parts m r t s u).0 w).1

-- a row is lost no earlier than the state that it leaves was entered
pub row_late : (m : Rules) (r : Asked) (t : ℤ) (s u : State) → LostRow m r t s u → s.entry ≤ℤ t
row_late m r t s u w = let o = ((lost_parts m r t s u).0 w).2 in omega (arith, ints)

pub rows_late : (m : Rules) (r : Asked) (a b : ℤ) (j : ℕ) (s u : State) → LostRows m r a b j s u → s.entry ≤ℤ u.entry
rows_late m r a b zero s u e = subst (λ (v : State). s.entry ≤ℤ v.entry) (sym e) (omega (arith, ints))
rows_late m r a b (suc j) s u (t, ge, lt, (v, w, rest)) =
    let i = rows_late m r t b j v u rest in
    let e = row_entry m r t s v w in
    let o = row_late m r t s v w in omega (arith, ints)

-- the last of the lost rows apart
pub rows_end : (m : Rules) (r : Asked) (a b : ℤ) (j : ℕ) (s u : State) → LostRows m r a b (suc j) s u → (v : State) × LostRows m r a b j s v × ((t : ℤ) × (a ≤ℤ t) × (t <ℤ b) × LostRow m r t v u)
rows_end m r a b zero s u (t, ge, lt, (v, w, e)) = (s, refl, (t, ge, lt, subst (λ (x : State). LostRow m r t s x) (sym e) w))
rows_end m r a b (suc j) s u (t, ge, lt, (v, w, rest)) =
    let (x, rows, (y, p, q, z)) = rows_end m r t b j v u rest in
    (x, (t, ge, lt, (v, w, rows)), (y, omega (arith, ints), q, z))

pub rows_more : (m : Rules) (r : Asked) (a b t : ℤ) (j : ℕ) (s v u : State) → LostRows m r a b j s v → a ≤ℤ t → t <ℤ b → LostRow m r t v u → LostRows m r a b (suc j) s u
rows_more m r a b t zero s v u e ge lt w = (t, ge, lt, (u, subst (λ (x : State). LostRow m r t x u) e w, refl))
rows_more m r a b t (suc j) s v u (y, p, q, (x, z, rest)) ge lt w =
    let e = row_entry m r y s x z in
    let o = rows_late m r y b j x v rest in
    let l = row_late m r t v u w in
    (y, p, q, (x, z, rows_more m r y b t j x v u rest (omega (arith, ints)) lt w))

-- no lost row of a still leads to an entry after it
pub rows_before : (m : Rules) (r : Asked) (a b : ℤ) (j : ℕ) (s u : State) → LostRows m r a b j s u → s.entry <ℤ b → u.entry <ℤ b
rows_before m r a b zero s u e lt = subst (λ (v : State). v.entry <ℤ b) (sym e) lt
rows_before m r a b (suc j) s u (t, ge, less, (v, w, rest)) lt = let e = row_entry m r t s v w in rows_before m r t b j v u rest (omega (arith, ints))

by_count : (P : ℕ → State → Type 0) → ((u : State) → P 0 u) → ((u : State) → P 1 u) → ((u : State) → P 2 u) → ((u : State) → P 3 u) → (j : ℕ) (u : State) → j ≤ 3 → P j u
by_count P h0 h1 h2 h3 zero u le = h0 u
by_count P h0 h1 h2 h3 (suc zero) u le = h1 u
by_count P h0 h1 h2 h3 (suc (suc zero)) u le = h2 u
by_count P h0 h1 h2 h3 (suc (suc (suc zero))) u le = h3 u
by_count P h0 h1 h2 h3 (suc (suc (suc (suc j)))) u le = absurd (omega arith)

-- ---- forward
none_of : (m : Rules) (r : Asked) (a b : ℤ) (P : ℕ → State → Type 0) (i k : ℕ) (u : State) → i + k ≡ 0 → ((s : State) × P i s × LostRows m r a b k s u) → P 0 u
none_of m r a b P zero zero u e (s, p, q) = subst (P 0) (sym q) p
none_of m r a b P (suc i) k u e x = absurd (omega arith)
none_of m r a b P zero (suc k) u e x = absurd (omega arith)

pub still_none : (m : Rules) (r : Asked) (a b : ℤ) (P : ℕ → State → Type 0) (u : State) → P 0 u ↔ StillFrom m r P a b 0 u
still_none m r a b P u = (
  λ p. (0, 0, refl, (u, p, refl)),
  λ (i, k, e, x). none_of m r a b P i k u e x,
)

next_of : (m : Rules) (r : Asked) (a b : ℤ) (P : ℕ → State → Type 0) (j i k : ℕ) (u : State) → i + k ≡ suc j → ((s : State) × P i s × LostRows m r a b k s u) → P (suc j) u ⊎ ((s : State) × StillFrom m r P a b j s × ((t : ℤ) × (a ≤ℤ t) × (t <ℤ b) × LostRow m r t s u))
next_of m r a b P j i zero u e (s, p, q) = let same : i ≡ suc j = omega arith in inl (subst (λ (n : ℕ). P n u) same (subst (P i) (sym q) p))
next_of m r a b P j i (suc k) u e (s, p, rows) = let (v, w, z) = rows_end m r a b k s u rows in inr (v, (i, k, omega arith, (s, p, w)), z)

pub still_next : (m : Rules) (r : Asked) (a b : ℤ) (P : ℕ → State → Type 0) (j : ℕ) (sets new : List (List Span)) → ((v : State) → Holds sets v ↔ StillFrom m r P a b j v) → ((u : State) → Holds new u ↔ (P (suc j) u ⊎ AfterLost m r a b sets u)) → (u : State) → Holds new u ↔ StillFrom m r P a b (suc j) u
still_next m r a b P j sets new was add u = (
  λ h. elim ((add u).0 h) [
    | inl p ↦ (suc j, 0, omega arith, (u, p, refl))
    | inr (s, q, (t, ge, lt, w)) ↦ let (i, k, e, (x, p, rows)) = (was s).0 q in (i, suc k, omega arith, (x, p, rows_more m r a b t k x s u rows ge lt w))
  ],
  λ (i, k, e, x). (add u).1 (elim (next_of m r a b P j i k u e x) [ inl p ↦ inl p | inr (s, q, z) ↦ inr (s, (was s).1 q, z) ]),
)

pub still_all : (m : Rules) (r : Asked) (a b : ℤ) (old new : LostPasts) → new.none ≡ old.none → ((u : State) → Holds new.one u ↔ (Holds old.one u ⊎ AfterLost m r a b old.none u)) → ((u : State) → Holds new.two u ↔ (Holds old.two u ⊎ AfterLost m r a b new.one u)) → ((u : State) → Holds new.three u ↔ (Holds old.three u ⊎ AfterLost m r a b new.two u)) → (j : ℕ) (u : State) → j ≤ 3 → HoldsLost new j u ↔ StillFrom m r (HoldsLost old) a b j u
still_all m r a b old new same h1 h2 h3 =
    let zero_is = still_none m r a b (HoldsLost old) in
    let one_is = still_next m r a b (HoldsLost old) 0 old.none new.one zero_is h1 in
    let two_is = still_next m r a b (HoldsLost old) 1 new.one new.two one_is h2 in
    let three_is = still_next m r a b (HoldsLost old) 2 new.two new.three two_is h3 in
    λ j u le. by_count (λ k v. HoldsLost new k v ↔ StillFrom m r (HoldsLost old) a b k v) (λ v. rw same (zero_is v)) one_is two_is three_is j u le

pub still_before : (m : Rules) (r : Asked) (a t : ℤ) (b low : ℕ) (old new : LostPasts) → AllBefore old low → low ≤ b → t ≡ pos b → ((j : ℕ) (u : State) → j ≤ 3 → HoldsLost new j u ↔ StillFrom m r (HoldsLost old) a t j u) → AllBefore new b
still_before m r a t b low old new early le end all j few u h =
    let (i, k, e, (s, p, rows)) = (all j u few).0 h in
    let lt = early i (omega arith) s p in
    let out = rows_before m r a t k s u rows (omega (arith, ints)) in omega (arith, ints)

pub moved_all : (m : Rules) (x : Move) (old new : LostPasts) → ((u : State) → Holds new.none u ↔ AfterMove m old.none x u) → ((u : State) → Holds new.one u ↔ AfterMove m old.one x u) → ((u : State) → Holds new.two u ↔ AfterMove m old.two x u) → ((u : State) → Holds new.three u ↔ AfterMove m old.three x u) → (j : ℕ) (u : State) → j ≤ 3 → HoldsLost new j u ↔ MovedFrom m (HoldsLost old) x j u
moved_all m x old new h0 h1 h2 h3 zero u le = h0 u
moved_all m x old new h0 h1 h2 h3 (suc zero) u le = h1 u
moved_all m x old new h0 h1 h2 h3 (suc (suc zero)) u le = h2 u
moved_all m x old new h0 h1 h2 h3 (suc (suc (suc zero))) u le = h3 u
moved_all m x old new h0 h1 h2 h3 (suc (suc (suc (suc j)))) u le = absurd (omega arith)

-- one still and one move of a walk
pub walk_step : (m : Rules) (r : Asked) (P Q R : ℕ → State → Type 0) (a : ℕ) (x : Move) (xs : List Move) (b : ℕ) → ((j : ℕ) (u : State) → j ≤ 3 → Q j u ↔ StillFrom m r P (pos a) (pos (limit_before x)) j u) → ((j : ℕ) (u : State) → j ≤ 3 → R j u ↔ MovedFrom m Q x j u) → (j : ℕ) (u : State) → j ≤ 3 → WalkedFrom m r R (still_after x) xs b j u ↔ WalkedFrom m r P a (x ∷ xs) b j u
walk_step m r P Q R a x xs b still move j u le = (
  λ (i, k, e, (w, h, walk)).
      let few : i ≤ 3 = omega arith in
      let (v, q, tk) = (move i w few).0 h in
      let (f, g, d, (s, p, rows)) = (still i v few).0 q in
      (f, g + k, omega arith, (s, p, (g, k, refl, (v, w, rows, tk, walk)))),
  λ (i, n, e, (s, p, (g, k, d, (v, w, rows, tk, walk)))).
      let few : i + g ≤ 3 = omega arith in
      (i + g, k, omega arith, (w, (move (i + g) w few).1 (v, (still (i + g) v few).1 (i, g, refl, (s, p, rows)), tk), walk)),
)

pub order_at : (m : Rules) (low i : ℕ) (xs : List Move) (d : Move) → i < length xs → InOrder m low (drop i xs) → (low ≤ limit_before (get_or xs i d)) × IsMove m (get_or xs i d) × InOrder m (limit_after (get_or xs i d)) (drop (i + 1) xs)
order_at m low i xs d lt o = rw (drop_more xs i d lt) at o

-- a walk that has gone so far goes on by one still and one move
pub walk_next : (m : Rules) (r : Asked) (P Q R S : ℕ → State → Type 0) (a0 a c i b : ℕ) (f t : ℤ) (xs ys : List Move) (d : Move) → i < length xs → f ≡ pos a → t ≡ pos (limit_before (get_or xs i d)) → c ≡ still_after (get_or xs i d) → ((j : ℕ) (u : State) → j ≤ 3 → Q j u ↔ StillFrom m r P f t j u) → ((j : ℕ) (u : State) → j ≤ 3 → R j u ↔ MovedFrom m Q (get_or xs i d) j u) → ((j : ℕ) (u : State) → j ≤ 3 → WalkedFrom m r P a (drop i xs) b j u ↔ WalkedFrom m r S a0 ys b j u) → (j : ℕ) (u : State) → j ≤ 3 → WalkedFrom m r R c (drop (i + 1) xs) b j u ↔ WalkedFrom m r S a0 ys b j u
walk_next m r P Q R S a0 a c i b f t xs ys d lt begin end after still move was j u le =
    let x = get_or xs i d in
    let stands = subst (λ (z : ℤ). (j : ℕ) (u : State) → j ≤ 3 → Q j u ↔ StillFrom m r P (pos a) z j u) end (subst (λ (z : ℤ). (j : ℕ) (u : State) → j ≤ 3 → Q j u ↔ StillFrom m r P z t j u) begin still) in
    let step = walk_step m r P Q R a x (drop (i + 1) xs) b stands move j u le in
    let here = subst (λ (zs : List Move). WalkedFrom m r P a zs b j u ↔ WalkedFrom m r S a0 ys b j u) (drop_more xs i d lt) (was j u le) in
    subst (λ (z : ℕ). WalkedFrom m r R z (drop (i + 1) xs) b j u ↔ WalkedFrom m r S a0 ys b j u) (sym after) (then_iff step here)

-- it ends with a still
pub walk_ends : (m : Rules) (r : Asked) (P Q S : ℕ → State → Type 0) (a0 a i b : ℕ) (f t : ℤ) (xs ys : List Move) → length xs ≤ i → f ≡ pos a → t ≡ pos b → ((j : ℕ) (u : State) → j ≤ 3 → WalkedFrom m r P a (drop i xs) b j u ↔ WalkedFrom m r S a0 ys b j u) → ((j : ℕ) (u : State) → j ≤ 3 → Q j u ↔ StillFrom m r P f t j u) → (j : ℕ) (u : State) → j ≤ 3 → Q j u ↔ WalkedFrom m r S a0 ys b j u
walk_ends m r P Q S a0 a i b f t xs ys all begin end was still j u le =
    let here = subst (λ (zs : List Move). WalkedFrom m r P a zs b j u ↔ WalkedFrom m r S a0 ys b j u) (drop_all i xs all) (was j u le) in
    let stands = subst (λ (z : ℤ). Q j u ↔ StillFrom m r P (pos a) z j u) end (subst (λ (z : ℤ). Q j u ↔ StillFrom m r P z t j u) begin (still j u le)) in
    then_iff stands here

-- ---- backward
pub rows_from : (m : Rules) (r : Asked) (a b t : ℤ) (k : ℕ) (s u : State) → t ≤ℤ s.entry → LostRows m r a b k s u → LostRows m r t b k s u
rows_from m r a b t zero s u le e = e
rows_from m r a b t (suc k) s u le (y, ge, lt, (v, w, rest)) = let o = row_late m r y s v w in (y, omega (arith, ints), lt, (v, w, rest))

pub rows_wide : (m : Rules) (r : Asked) (a b t : ℤ) (k : ℕ) (s u : State) → a ≤ℤ t → LostRows m r t b k s u → LostRows m r a b k s u
rows_wide m r a b t zero s u le e = e
rows_wide m r a b t (suc k) s u le (y, ge, lt, (v, w, rest)) = (y, omega (arith, ints), lt, (v, w, rest))

to_none : (m : Rules) (a b : ℤ) (Q : ℕ → State → Type 0) (i k : ℕ) (s : State) → i + k ≡ 0 → ((u : State) × Q i u × LostRows m nothing_asked a b k s u) → Q 0 s
to_none m a b Q zero zero s e (u, q, x) = subst (Q 0) x q
to_none m a b Q (suc i) k s e x = absurd (omega arith)
to_none m a b Q zero (suc k) s e x = absurd (omega arith)

pub still_to_none : (m : Rules) (a b : ℤ) (Q : ℕ → State → Type 0) (s : State) → Q 0 s ↔ StillTo m Q a b 0 s
still_to_none m a b Q s = (λ q. (0, 0, refl, (s, q, refl)), λ (i, k, e, x). to_none m a b Q i k s e x)

to_next : (m : Rules) (a b : ℤ) (Q : ℕ → State → Type 0) (j i k : ℕ) (s : State) → i + k ≡ suc j → ((u : State) × Q i u × LostRows m nothing_asked a b k s u) → Q (suc j) s ⊎ ((v : State) × StillTo m Q a b j v × ((t : ℤ) × (a ≤ℤ t) × (t <ℤ b) × LostRow m nothing_asked t s v))
to_next m a b Q j i zero s e (u, q, x) = let same : i ≡ suc j = omega arith in inl (subst (λ (n : ℕ). Q n s) same (subst (Q i) x q))
to_next m a b Q j i (suc k) s e (u, q, (t, ge, lt, (v, w, rest))) = inr (v, (i, k, omega arith, (u, q, rows_wide m nothing_asked a b t k v u ge rest)), (t, ge, lt, w))

pub still_to_next : (m : Rules) (a b : ℤ) (Q : ℕ → State → Type 0) (j : ℕ) (latest new : List (Option ℤ)) → ((v : State) → Admits latest v ↔ StillTo m Q a b j v) → ((s : State) → Admits new s ↔ (Q (suc j) s ⊎ BeforeLost m nothing_asked a b latest s)) → (s : State) → Admits new s ↔ StillTo m Q a b (suc j) s
still_to_next m a b Q j latest new was add s = (
  λ h. elim ((add s).0 h) [
    | inl q ↦ (suc j, 0, omega arith, (s, q, refl))
    | inr (v, ad, (t, ge, lt, w)) ↦
        let (i, k, e, (u, q, rows)) = (was v).0 ad in
        let at = row_entry m nothing_asked t s v w in
        (i, suc k, omega arith, (u, q, (t, ge, lt, (v, w, rows_from m nothing_asked a b t k v u (omega (arith, ints)) rows))))
  ],
  λ (i, k, e, x). (add s).1 (elim (to_next m a b Q j i k s e x) [ inl q ↦ inl q | inr (v, q, z) ↦ inr (v, (was v).1 q, z) ]),
)

pub still_to_all : (m : Rules) (a b : ℤ) (old new : LostAheads) → new.none ≡ old.none → ((s : State) → Admits new.one s ↔ (Admits old.one s ⊎ BeforeLost m nothing_asked a b old.none s)) → ((s : State) → Admits new.two s ↔ (Admits old.two s ⊎ BeforeLost m nothing_asked a b new.one s)) → ((s : State) → Admits new.three s ↔ (Admits old.three s ⊎ BeforeLost m nothing_asked a b new.two s)) → (j : ℕ) (s : State) → j ≤ 3 → AdmitsLost new j s ↔ StillTo m (AdmitsLost old) a b j s
still_to_all m a b old new same h1 h2 h3 =
    let zero_is = still_to_none m a b (AdmitsLost old) in
    let one_is = still_to_next m a b (AdmitsLost old) 0 old.none new.one zero_is h1 in
    let two_is = still_to_next m a b (AdmitsLost old) 1 new.one new.two one_is h2 in
    let three_is = still_to_next m a b (AdmitsLost old) 2 new.two new.three two_is h3 in
    λ j s le. by_count (λ k v. AdmitsLost new k v ↔ StillTo m (AdmitsLost old) a b k v) (λ v. rw same (zero_is v)) one_is two_is three_is j s le

pub moved_to_all : (m : Rules) (x : Move) (old new : LostAheads) → ((s : State) → Admits new.none s ↔ ((s.entry <ℤ pos (limit_before x)) × BeforeMove m old.none x s)) → ((s : State) → Admits new.one s ↔ ((s.entry <ℤ pos (limit_before x)) × BeforeMove m old.one x s)) → ((s : State) → Admits new.two s ↔ ((s.entry <ℤ pos (limit_before x)) × BeforeMove m old.two x s)) → ((s : State) → Admits new.three s ↔ ((s.entry <ℤ pos (limit_before x)) × BeforeMove m old.three x s)) → (j : ℕ) (s : State) → j ≤ 3 → AdmitsLost new j s ↔ MovedTo m (AdmitsLost old) x j s
moved_to_all m x old new h0 h1 h2 h3 = by_count (λ k v. AdmitsLost new k v ↔ MovedTo m (AdmitsLost old) x k v) h0 h1 h2 h3

-- a walk is a still and what comes from the first move on, for states that are entered early enough
pub walked_to : (m : Rules) (Q : ℕ → State → Type 0) (a : ℕ) (xs : List Move) (b j : ℕ) (s : State) → EntersBefore xs s → WalkedTo m Q a xs b j s ↔ StillTo m (λ k v. FromMove m Q xs b k v) (pos a) (pos (end_of xs b)) j s
walked_to m Q a [] b j s early = (λ x. x, λ x. x)
walked_to m Q a (x ∷ xs) b j s early = (
  λ (i, n, e, (u, q, (g, k, d, (v, w, rows, tk, walk)))). (i + k, g, omega arith, (v, (rows_before m nothing_asked (pos a) (pos (limit_before x)) g s v rows early, (w, tk, (i, k, refl, (u, q, walk)))), rows)),
  λ (f, g, e, (v, (lt, (w, tk, (i, k, d, (u, q, walk)))), rows)). (i, g + k, omega arith, (u, q, (g, k, refl, (v, w, rows, tk, walk)))),
)

-- a still of what is the same, between the same tenths
still_same : (m : Rules) (P Q : ℕ → State → Type 0) (f t g v : ℤ) → f ≡ g → t ≡ v → ((j : ℕ) (s : State) → j ≤ 3 → P j s ↔ Q j s) → (j : ℕ) (s : State) → j ≤ 3 → StillTo m P f t j s ↔ StillTo m Q g v j s
still_same m P Q f t g v begin end was j s le = (
  λ (i, k, e, (u, p, rows)). (i, k, e, (u, (was i u (omega arith)).0 p, subst (λ (z : ℤ). LostRows m nothing_asked g z k s u) end (subst (λ (z : ℤ). LostRows m nothing_asked z t k s u) begin rows))),
  λ (i, k, e, (u, q, rows)). (i, k, e, (u, (was i u (omega arith)).1 q, subst (λ (z : ℤ). LostRows m nothing_asked f z k s u) (sym end) (subst (λ (z : ℤ). LostRows m nothing_asked z v k s u) (sym begin) rows))),
)

-- one still and one move of a walk backward
pub back_step : (m : Rules) (P Q R S : ℕ → State → Type 0) (low : ℕ) (f t : ℤ) (x : Move) (xs : List Move) (b : ℕ) → InOrder m low (x ∷ xs) → f ≡ pos (still_after x) → t ≡ pos (end_of xs b) → ((j : ℕ) (s : State) → j ≤ 3 → P j s ↔ FromMove m S xs b j s) → ((j : ℕ) (s : State) → j ≤ 3 → Q j s ↔ StillTo m P f t j s) → ((j : ℕ) (s : State) → j ≤ 3 → R j s ↔ MovedTo m Q x j s) → (j : ℕ) (s : State) → j ≤ 3 → R j s ↔ FromMove m S (x ∷ xs) b j s
back_step m P Q R S low f t x xs b o begin end was still move j s le =
    let goes : (w : State) → Taken m x s w → s.entry <ℤ pos (limit_before x) → Q j w ↔ WalkedTo m S (still_after x) xs b j w = λ w tk early.
    let enters = not_after m (limit_after x) xs w o.2 (taken_early m x s w tk early) in
    let a = walked_to m S (still_after x) xs b j w enters in
    let c = still_same m P (λ k v. FromMove m S xs b k v) f t (pos (still_after x)) (pos (end_of xs b)) begin end was j w le in
    (λ q. a.1 (c.0 ((still j w le).0 q)), λ z. (still j w le).1 (c.1 (a.0 z))) in (
      λ r. let (early, (w, tk, q)) = (move j s le).0 r in (early, (w, tk, (goes w tk early).0 q)),
      λ (early, (w, tk, z)). (move j s le).1 (early, (w, tk, (goes w tk early).1 z)),
    )

pub back_first : (m : Rules) (P Q S : ℕ → State → Type 0) (a : ℕ) (f t : ℤ) (xs : List Move) (b : ℕ) → f ≡ pos a → t ≡ pos (end_of xs b) → ((j : ℕ) (s : State) → j ≤ 3 → P j s ↔ FromMove m S xs b j s) → ((j : ℕ) (s : State) → j ≤ 3 → Q j s ↔ StillTo m P f t j s) → (j : ℕ) (s : State) → j ≤ 3 → EntersBefore xs s → Q j s ↔ WalkedTo m S a xs b j s
back_first m P Q S a f t xs b begin end was still j s le early =
    let d = walked_to m S a xs b j s early in
    let c = still_same m P (λ k v. FromMove m S xs b k v) f t (pos a) (pos (end_of xs b)) begin end was j s le in
    (λ q. d.1 (c.0 ((still j s le).0 q)), λ z. (still j s le).1 (c.1 (d.0 z)))

pub order_drop : (m : Rules) (low i : ℕ) (xs : List Move) → InOrder m low xs → (k : ℕ) × InOrder m k (drop i xs)
order_drop m low zero xs o = (low, o)
order_drop m low (suc i) [] o = (low, tt)
order_drop m low (suc i) (x ∷ xs) o = order_drop m (limit_after x) i xs o.2

-- the same with the place of the move among all
pub back_turn : (m : Rules) (P Q R S : ℕ → State → Type 0) (low i : ℕ) (f t : ℤ) (c : ℕ) (xs : List Move) (d : Move) (b : ℕ) → i < length xs → InOrder m low xs → f ≡ pos c → c ≡ still_after (get_or xs i d) → t ≡ pos (end_of (drop (i + 1) xs) b) → ((j : ℕ) (s : State) → j ≤ 3 → P j s ↔ FromMove m S (drop (i + 1) xs) b j s) → ((j : ℕ) (s : State) → j ≤ 3 → Q j s ↔ StillTo m P f t j s) → ((j : ℕ) (s : State) → j ≤ 3 → R j s ↔ MovedTo m Q (get_or xs i d) j s) → (j : ℕ) (s : State) → j ≤ 3 → R j s ↔ FromMove m S (drop i xs) b j s
back_turn m P Q R S low i f t c xs d b lt o begin at end was still move j s le =
    let (k, order) = order_drop m low i xs o in
    let order2 = subst (InOrder m k) (drop_more xs i d lt) order in
    let begin2 : f ≡ pos (still_after (get_or xs i d)) = subst (λ (n : ℕ). f ≡ pos n) at begin in
    subst (λ (ys : List Move). R j s ↔ FromMove m S ys b j s) (sym (drop_more xs i d lt)) (back_step m P Q R S k f t (get_or xs i d) (drop (i + 1) xs) b order2 begin2 end was still move j s le)

pub back_none : (m : Rules) (S : ℕ → State → Type 0) (xs : List Move) (p b j : ℕ) (s : State) → length xs ≤ p → S j s ↔ FromMove m S (drop p xs) b j s
back_none m S xs p b j s all = subst (λ (ys : List Move). S j s ↔ FromMove m S ys b j s) (sym (drop_all p xs all)) (λ q. q, λ q. q)

pub end_here : (xs : List Move) (i b : ℕ) (d : Move) (t : ℤ) → i < length xs → t ≡ pos (limit_before (get_or xs i d)) → t ≡ pos (end_of (drop i xs) b)
end_here xs i b d t lt e = subst (λ (ys : List Move). t ≡ pos (end_of ys b)) (sym (drop_more xs i d lt)) e

pub end_past : (xs : List Move) (i b : ℕ) (t : ℤ) → length xs ≤ i → t ≡ pos b → t ≡ pos (end_of (drop i xs) b)
end_past xs i b t all e = subst (λ (ys : List Move). t ≡ pos (end_of ys b)) (sym (drop_all i xs all)) e
