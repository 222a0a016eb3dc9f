-- One state, held alone.
use Rattle.std.proofs.Common.{Result, Ok, Err, OnOk, Option, Some, None, zero, suc, ◌++◌, Bool, IsTrue, ◌≡◌, ◌≢◌, refl, sym, ap, ◌∙◌, subst, ◌⊎◌, inl, inr, ◌↔◌, ℕ, ◌+◌, ◌<◌, ℤ, pos, negsuc, ◌^◌, ◌+ℤ◌, ◌<ℤ◌, ◌≤ℤ◌, List, [], ◌∷◌, length, get_or, replicate, set, arith}
use Rattle.std.specs.Int.{int_max}
use Rattle.std.proofs.lemmas.Int.{ints, clamps}
use Rattle.std.proofs.lemmas.Bool.{cases_eq, cases_lt}
use Rattle.std.proofs.lemmas.List.{get_or-replicate, length-replicate, get_or-set_same, get_or-set_other, length-set, get_or_past}
use Rattle.span_set.specs.declared.set.Span.{Span}
use Rattle.span_set.specs.Changes.{span}
use Rattle.span_set.specs.Spans.{AreRanges, Member, Within}
use Rattle.span_set.proofs.Sets.{int_cases, same_iff}
use Rattle.reach.specs.declared.past.Single.{Single}
use Rattle.reach.specs.Runs.{State, state}
use Rattle.colour_machine.specs.Rules.{Rules, Goes}
use Rattle.reach.specs.Past.{AfterGap, AfterRow, AreClamped, Holds, IsAlone, NoneLater}
use Rattle.reach.proofs.Arriving.{gap_is}
use Rattle.std.specs.Option.{IfSome, MatchOption}
use Rattle.colour_machine.specs.Mask.{Has}
use Rattle.reach.specs.Ahead.{Admits, NotLater}
use Rattle.reach.specs.Tests.{InBound, Meets, Sees}
use Rattle.reach.specs.declared.seen.Test.{Test}
use Rattle.reach.specs.declared.seen.Seen.{Seen}
use Rattle.reach.specs.Single.{held, only, sets_of, AreSingle, IsSingle}
use Rattle.reach.proofs.States.{lists_same, state_same}

none_there : (n k : ℕ) → get_or (replicate {A = List Span} n []) k [] ≡ []
none_there n k = elim (cases_lt k n) [
  | inl lt ↦ get_or-replicate {A = List Span} n k [] [] lt
  | inr ge ↦ get_or_past (replicate {A = List Span} n []) k [] (let e = length-replicate {A = List Span} n [] in omega arith)
]

pub only_length : (n c : ℕ) (e : ℤ) → length (only n c e) ≡ n
only_length n c e = length-set (replicate {A = List Span} n []) c (span e (e +ℤ pos 1) ∷ []) ∙ length-replicate {A = List Span} n []

pub only_here : (n c k : ℕ) (e : ℤ) → c < n → k ≡ c → get_or (only n c e) k [] ≡ span e (e +ℤ pos 1) ∷ []
only_here n c k e lt same = ap (λ (j : ℕ). get_or (only n c e) j []) same ∙ get_or-set_same (replicate {A = List Span} n []) c (span e (e +ℤ pos 1) ∷ []) [] (let l = length-replicate {A = List Span} n [] in omega arith)

pub only_there : (n c k : ℕ) (e : ℤ) → (k ≡ c → ⊥) → get_or (only n c e) k [] ≡ []
only_there n c k e ne = get_or-set_other (replicate {A = List Span} n []) c k (span e (e +ℤ pos 1) ∷ []) [] ne ∙ none_there n k

in_span : (e x : ℤ) → Member (span e (e +ℤ pos 1) ∷ []) x ↔ (x ≡ e)
in_span e x = (
  λ m. elim m [ inl w ↦ omega (arith, ints) | inr w ↦ absurd w ],
  λ same. inl (omega (arith, ints), omega (arith, ints)),
)

-- what is held
pub holds_only : (n c : ℕ) (e : ℤ) → c < n → (s : State) → Holds (only n c e) s ↔ ((s.colour ≡ c) × (s.entry ≡ e))
holds_only n c e lt s = elim (cases_eq s.colour c) [
  | inl same ↦ (
    λ m. (same, (in_span e s.entry).0 (subst (λ (xs : List Span). Member xs s.entry) (only_here n c s.colour e lt same) m)),
    λ (a, b). subst (λ (xs : List Span). Member xs s.entry) (sym (only_here n c s.colour e lt same)) ((in_span e s.entry).1 b),
  )
  | inr ne ↦ (
    λ m. absurd (subst (λ (xs : List Span). Member xs s.entry) (only_there n c s.colour e ne) m),
    λ (a, b). absurd (ne a),
  )
]

pub holds_single : (o : Single) → IsSingle o → (s : State) → Holds (sets_of o) s ↔ ((s.colour ≡ o.colour) × (s.entry ≡ o.entry))
holds_single o is s = holds_only o.colours o.colour o.entry is.colour s

pub single_alone : (o : Single) → IsSingle o → IsAlone (sets_of o)
single_alone o is s u hs hu =
    let a = (holds_single o is s).0 hs in
    let b = (holds_single o is u).0 hu in
    state_same s u (a.0 ∙ sym b.0) (a.1 ∙ sym b.1)

-- two that hold the same state
pub singles_same : (a b : Single) → a.colours ≡ b.colours → a.colour ≡ b.colour → a.entry ≡ b.entry → sets_of a ≡ sets_of b
singles_same a b n c e = ap (λ (k : ℕ). only k a.colour a.entry) n ∙ (ap (λ (k : ℕ). only b.colours k a.entry) c ∙ ap (λ (k : ℤ). only b.colours b.colour k) e)

pub single_state : (a b : Single) → IsSingle a → IsSingle b → ((s : State) → Holds (sets_of a) s ↔ Holds (sets_of b) s) → (a.colour ≡ b.colour) × (a.entry ≡ b.entry)
single_state a b one two h = (holds_single b two (state a.colour a.entry)).0 ((h (state a.colour a.entry)).0 ((holds_single a one (state a.colour a.entry)).1 (refl, refl)))

pub single_count : (a b : Single) → length (sets_of a) ≡ length (sets_of b) → a.colours ≡ b.colours
single_count a b e = sym (only_length a.colours a.colour a.entry) ∙ (e ∙ only_length b.colours b.colour b.entry)

pub same_states : (a b : List (List Span)) → a ≡ b → (s : State) → Holds a s ↔ Holds b s
same_states a b e s = (λ h. subst (λ (x : List (List Span)). Holds x s) e h, λ h. subst (λ (x : List (List Span)). Holds x s) (sym e) h)

cases_int : (a b : ℤ) → (a <ℤ b) ⊎ (b ≤ℤ a)
cases_int a b = elim (int_cases a b) [ inl x ↦ inl x.1 | inr x ↦ inr x.1 ]

-- the entry is made no earlier than the limit
pub single_clamped : (o r : Single) (limit : ℤ) → IsSingle o → r.colours ≡ o.colours → r.colour ≡ o.colour → r.entry ≡ int_max o.entry limit → AreClamped limit (sets_of o) (sets_of r)
single_clamped o r limit is n c e = (
  only_length r.colours r.colour r.entry ∙ (n ∙ sym (only_length o.colours o.colour o.entry)),
  λ k x.
      let old = holds_single o is in
      let lt : r.colour < r.colours = (let l = is.colour in omega arith) in
      let new = holds_only r.colours r.colour r.entry lt (state k x) in (
        λ m. let (a, b) = new.0 m in elim (cases_int o.entry limit) [
          | inl less ↦ inr (omega (arith, ints, clamps), (o.entry, (old (state k o.entry)).1 (a ∙ c, refl), less))
          | inr ge ↦ inl ((old (state k x)).1 (a ∙ c, omega (arith, ints, clamps)), omega (arith, ints, clamps))
        ],
        λ m. new.1 (elim m [
          | inl (h, ge) ↦ let (a, b) = (old (state k x)).0 h in (a ∙ sym c, omega (arith, ints, clamps))
          | inr (at, (y, h, less)) ↦ let (a, b) = (old (state k y)).0 h in (a ∙ sym c, omega (arith, ints, clamps))
        ]),
      ),
)

pub none_more : (n : ℕ) → replicate {A = List Span} n [] ++ [] ∷ [] ≡ replicate {A = List Span} (n + 1) []
none_more zero = refl
none_more (suc n) =
    let e : suc (n + 1) ≡ suc n + 1 = omega arith in
    ap (λ (xs : List (List Span)). [] ∷ xs) (none_more n) ∙ ap (λ (k : ℕ). replicate {A = List Span} k []) e

-- a set that has the ranges of one tenth alone
pub set_is : (ss : List Span) (e : ℤ) → AreRanges ss → negsuc (2 ^ 40) <ℤ e → e <ℤ pos (2 ^ 40) → ((x : ℤ) → Member ss x ↔ (x ≡ e)) → ss ≡ span e (e +ℤ pos 1) ∷ []
set_is ss e are low high h = (same_iff ss (span e (e +ℤ pos 1) ∷ []) are (low, omega (arith, ints), omega (arith, ints), tt)).1 (λ x. (λ m. (in_span e x).1 ((h x).0 m), λ m. (h x).1 ((in_span e x).0 m)))

pub only_ranges : (o : Single) (k : ℕ) → IsSingle o → AreRanges (get_or (sets_of o) k [])
only_ranges o k is = elim (cases_eq k o.colour) [
  | inl same ↦ subst AreRanges (sym (only_here o.colours o.colour k o.entry is.colour same)) (let a = is.low in let b = is.high in (is.low, omega (arith, ints), omega (arith, ints), tt))
  | inr ne ↦ subst AreRanges (sym (only_there o.colours o.colour k o.entry ne)) tt
]

-- a set that is not that of its colour has not its members
pub part_differs : (sets : List (List Span)) (o : Single) (k : ℕ) → IsSingle o → AreRanges (get_or sets k []) → (get_or sets k [] ≡ get_or (sets_of o) k [] → ⊥) → ((s : State) → Holds sets s ↔ Holds (sets_of o) s) → ⊥
part_differs sets o k is are ne h = ne ((same_iff (get_or sets k []) (get_or (sets_of o) k []) are (only_ranges o k is)).1 (λ e. h (state k e)))

-- two states that are the same, or not
pub same_value : (a b : Single) (r : Bool) → IsSingle a → IsSingle b → (IsTrue r ↔ ((a.colours ≡ b.colours) × (a.colour ≡ b.colour) × (a.entry ≡ b.entry))) → IsTrue r ↔ (sets_of a ≡ sets_of b)
same_value a b r one two h = (
  λ t. let (n, c, e) = h.0 t in singles_same a b n c e,
  λ same. let both = single_state a b one two (same_states (sets_of a) (sets_of b) same) in h.1 (single_count a b (ap (λ (x : List (List Span)). length x) same), both.0, both.1),
)

pub same_held : (a b : Single) (r : Bool) → IsSingle a → IsSingle b → (IsTrue r ↔ ((a.colours ≡ b.colours) × (a.colour ≡ b.colour) × (a.entry ≡ b.entry))) → IsTrue r ↔ ((length (sets_of a) ≡ length (sets_of b)) × ((s : State) → Holds (sets_of a) s ↔ Holds (sets_of b) s))
same_held a b r one two h = (
  λ t. let (n, c, e) = h.0 t in let same = singles_same a b n c e in (ap (λ (x : List (List Span)). length x) same, same_states (sets_of a) (sets_of b) same),
  λ (l, s). let both = single_state a b one two s in h.1 (single_count a b l, both.0, both.1),
)

-- what is held where one state is kept, and where none is
pub held_one : (x : Option Single) (o : Single) (sets now : List (List Span)) → x ≡ Some o → held x sets ≡ now → sets_of o ≡ now
held_one x o sets now e v = sym (ap (λ (y : Option Single). held y sets) e) ∙ v

pub held_sets : (x : Option Single) (sets now : List (List Span)) → x ≡ None → held x sets ≡ now → sets ≡ now
held_sets x sets now e v = sym (ap (λ (y : Option Single). held y sets) e) ∙ v

pub held_new : (x : Option Single) (sets : List (List Span)) → x ≡ None → held x sets ≡ sets
held_new x sets e = ap (λ (y : Option Single). held y sets) e

pub tenth_alone : (e x : ℤ) (old new : List Span) → old ≡ [] → ((y : ℤ) → Member new y ↔ (Member old y ⊎ Within (span e (e +ℤ pos 1)) y)) → Member new x ↔ (x ≡ e)
tenth_alone e x old new none h = (
  λ m. elim ((h x).0 m) [ inl w ↦ absurd (subst (λ (xs : List Span). Member xs x) none w) | inr w ↦ omega (arith, ints) ],
  λ same. (h x).1 (inr (omega (arith, ints), omega (arith, ints))),
)

pub single_one : (x : Option Single) (o : Single) → x ≡ Some o → AreSingle x → IsSingle o
single_one x o e are = subst AreSingle e are

pub goes_once : (m : Rules) (c l d e : ℕ) → Goes m c l d → Goes m c l e → d ≡ e
goes_once m c l d e a b = let same : Some d ≡ Some e = sym a.2 ∙ b.2 in cc

-- ---- the one state after a row

pub row_left : (m : Rules) (o r : Single) (t : ℤ) (l d : ℕ) → IsSingle o → IsSingle r → Goes m o.colour l d → d ≢ o.colour → (o.entry +ℤ pos (m.floor o.colour)) ≤ℤ t → r.colour ≡ d → r.entry ≡ t → (u : State) → Holds (sets_of r) u ↔ AfterRow m (sets_of o) t l u
row_left m o r t l d one two goes ne old c e u = (
  λ h.
      let (a, b) = (holds_single r two u).0 h in
      let to : u.colour ≡ d = a ∙ c in
      (state o.colour o.entry, (holds_single o one (state o.colour o.entry)).1 (refl, refl), (subst (λ (k : ℕ). Goes m o.colour l k) (sym to) goes, inr (λ same. ne (sym to ∙ same), b ∙ e, old))),
  λ (s, h, (g, k)).
      let (a, b) = (holds_single o one s).0 h in
      let g2 : Goes m o.colour l u.colour = subst (λ (j : ℕ). Goes m j l u.colour) a g in
      let to : u.colour ≡ d = goes_once m o.colour l u.colour d g2 goes in
      (holds_single r two u).1 (
        to ∙ sym c,
        elim k [
          | inl same ↦ absurd (ne (sym to ∙ (ap (λ (v : State). v.colour) same ∙ a)))
          | inr (x, y, z) ↦ y ∙ sym e
        ],
      ),
)

-- an entry, where it is kept alone
pub held_alone : (x : Option Single) (sets : List (List Span)) → IfSome x (λ o. sets ≡ sets_of o) → held x sets ≡ sets
held_alone None sets h = refl
held_alone (Some o) sets h = sym h

pub some_single : (o : Single) → IsSingle o → (u : State) × Holds (sets_of o) u
some_single o is = (state o.colour o.entry, (holds_single o is (state o.colour o.entry)).1 (refl, refl))

pub late_single : (o : Single) (t : ℤ) → IsSingle o → o.entry ≤ℤ t → NoneLater (sets_of o) t
late_single o t is le s h = let (a, b) = (holds_single o is s).0 h in omega (arith, ints)

pub entry_late : (o : Single) (t : ℤ) → IsSingle o → NoneLater (sets_of o) t → o.entry ≤ℤ t
entry_late o t is late = late (state o.colour o.entry) ((holds_single o is (state o.colour o.entry)).1 (refl, refl))

-- ---- and after a gap in which it can't be left

pub gap_stays : (m : Rules) (o : Single) (f t : ℤ) → IsSingle o → f <ℤ t → o.entry ≤ℤ f → t ≤ℤ (o.entry +ℤ pos (m.floor o.colour)) → (u : State) → Holds (sets_of o) u ↔ AfterGap m (sets_of o) f t u
gap_stays m o f t is ft le far u =
    let all = gap_is m (sets_of o) f t (λ _. t)
    (λ d lt. absurd (omega (arith, ints)))
    (λ s d x h ch old fx xt. let (a, b) = (holds_single o is s).0 h in let floor : m.floor s.colour ≡ m.floor o.colour = ap m.floor a in absurd (omega (arith, ints)))
    (λ c d ch lt. absurd (omega (arith, ints)))
    u ft in (
      λ h. all.1 (inl h),
      λ a. elim (all.0 a) [ inl h ↦ h | inr (x, y) ↦ absurd (omega (arith, ints)) ],
    )

pub view_alone : (x : Option Single) (taken d new : List (List Span)) → taken ≡ new → d ≡ taken → IfSome x (λ o. d ≡ sets_of o) → held x taken ≡ new
view_alone x taken d new a b h = held_alone x taken (subst (λ (z : List (List Span)). IfSome x (λ o. z ≡ sets_of o)) b h) ∙ a

-- what the state of a letter says, where there is one
pub row_next : (m : Rules) (o : Single) (x : Option Single) (t : ℤ) (l d : ℕ) → IsSingle o → d < o.colours → negsuc (2 ^ 39) ≤ℤ t → t ≤ℤ pos (2 ^ 39) → Goes m o.colour l d → d ≢ o.colour → MatchOption x (t <ℤ (o.entry +ℤ pos (m.floor o.colour))) (λ r. ((o.entry +ℤ pos (m.floor o.colour)) ≤ℤ t) × (r.colours ≡ o.colours) × (r.colour ≡ d) × (r.entry ≡ t)) → IfSome x (λ r. (u : State) → Holds (sets_of r) u ↔ AfterRow m (sets_of o) t l u)
row_next m o None t l d is lt low high g ne h = tt
row_next m o (Some r) t l d is lt low high g ne (old, n, c, e) = row_left m o r t l d is (record { colour = omega arith; few = (let f = is.few in omega arith); low = omega (arith, ints); high = omega (arith, ints) }) g ne old c e

-- ---- what one state says of a test

pub sees_single : (o : Single) (latest : List (Option ℤ)) (test : Test) (here meets : Bool) (seen : Seen) → IsSingle o → (IsTrue here ↔ ((o.entry ≤ℤ test.at) × NotLater (get_or latest o.colour None) o.entry)) → (IsTrue meets ↔ (Has test.colours o.colour × InBound test.bound test.at o.entry)) → (IsTrue seen.some_true ↔ (IsTrue here × IsTrue meets)) → (IsTrue seen.some_false ↔ (IsTrue here × (IsTrue meets → ⊥))) → Sees (sets_of o) latest test seen
sees_single o latest test here meets seen is h k a b =
    let s0 = state o.colour o.entry in
    let own = (holds_single o is s0).1 (refl, refl) in
    let move : (P : State → Type 0) (s : State) → Holds (sets_of o) s → P s → P s0 = λ P s held p. let (x, y) = (holds_single o is s).0 held in subst P (state_same s s0 x y) p in
    record {
      some_true = (
        λ t. let (x, y) = a.0 t in let (e, l) = h.0 x in (s0, (own, e, l), k.0 y),
        λ (s, (held, e, l), m). a.1 (h.1 (move (λ (v : State). v.entry ≤ℤ test.at) s held e, move (λ (v : State). Admits latest v) s held l), k.1 (move (λ (v : State). Meets test v) s held m)),
      );
      some_false = (
        λ t. let (x, y) = b.0 t in let (e, l) = h.0 x in (s0, (own, e, l), λ m. y (k.1 m)),
        λ (s, (held, e, l), m). b.1 (h.1 (move (λ (v : State). v.entry ≤ℤ test.at) s held e, move (λ (v : State). Admits latest v) s held l), λ y. move (λ (v : State). Meets test v → ⊥) s held m (k.0 y)),
      );
    }

pub on_ok : {A E : Type 0} → (r : Result A E) (P Q : Type 0) → (P → Q) → OnOk r P → OnOk r Q
on_ok (Ok a) P Q f h = f h
on_ok (Err e) P Q f h = h

pub all_empty : (sets : List (List Span)) (n : ℕ) → length sets ≡ n → ((k : ℕ) → k < n → get_or sets k [] ≡ []) → sets ≡ replicate {A = List Span} n []
all_empty sets n size each = lists_same sets (replicate {A = List Span} n []) (size ∙ sym (length-replicate {A = List Span} n [])) (λ k lt. each k (omega arith) ∙ sym (none_there n k))

pub filled : (o : Single) (empty : List (List Span)) (n : ℕ) (one : List Span) → empty ≡ replicate {A = List Span} n [] → n ≡ o.colours → one ≡ span o.entry (o.entry +ℤ pos 1) ∷ [] → set empty o.colour one ≡ sets_of o
filled o empty n one a b c =
    ap (λ (ss : List (List Span)). set ss o.colour one) (a ∙ ap (λ (k : ℕ). replicate {A = List Span} k []) b) ∙ ap (λ (x : List Span). set (replicate {A = List Span} o.colours []) o.colour x) c
