-- Runs of one channel: where they lead, how they are cut, and what of the log they depend on.
use Rattle.std.proofs.Common.{◌≡◌, ◌≢◌, refl, ap, sym, ◌∙◌, subst, inl, inr, ◌↔◌, ℕ, ◌+◌, ◌<◌, ◌≤◌, ℤ, pos, ◌+ℤ◌, ◌≤ℤ◌, Bool, true, nat_eq, if◌then◌else◌, List, [], ◌∷◌, ◌++◌, length, take, drop, take-append-drop, arith}
use Rattle.std.proofs.lemmas.Int.{ints}
use Rattle.std.proofs.lemmas.Bool.{eq-eqb}
use Rattle.std.proofs.lemmas.Bool.Decides.{eqb_tells}
use Rattle.sig_base.proofs.Common.{some_same}
use Rattle.colour_machine.specs.Rules.{Rules, IsMachine}
use Rattle.reach.specs.Runs.{State, Step, Steps, Run}
use Rattle.reach.proofs.States.{state_same}
use Rattle.board.specs.History.{Agree, Agreeing, Event, Track, letters}
use Rattle.board.proofs.Bridge.{agreeing_join, agreeing_first, agreeing_none}
use Rattle.board.proofs.Joining.{letters_join}
use Rattle.board.proofs.Alike.{Alike}

-- letters lead to one state
step_once : (m : Rules) (t : ℤ) (s u v : State) (l : ℕ) → Step m t s l u → Step m t s l v → u ≡ v
step_once m t s u v l ((c1, l1, n1), e1) ((c2, l2, n2), e2) =
    let same : u.colour ≡ v.colour = some_same u.colour v.colour (sym n1 ∙ n2) in
    elim e1 [
      | inl a ↦ elim e2 [
        | inl b ↦ a ∙ sym b
        | inr (ne, at, old) ↦ absurd (ne (sym same ∙ ap (λ (z : State). z.colour) a))
      ]
      | inr (ne, at, old) ↦ elim e2 [
        | inl b ↦ absurd (ne (same ∙ ap (λ (z : State). z.colour) b))
        | inr (_, at2, _) ↦ state_same u v same (at ∙ sym at2)
      ]
    ]

pub steps_once : (m : Rules) (t : ℤ) (ls : List ℕ) (s u v : State) → Steps m t s ls u → Steps m t s ls v → u ≡ v
steps_once m t [] s u v a b = a ∙ sym b
steps_once m t (l ∷ ls) s u v (x, a, p) (y, b, q) =
    let same : y ≡ x = step_once m t s y x l b a in
    steps_once m t ls x u v p (subst (λ (z : State). Steps m t z ls v) same q)

pub run_once : (m : Rules) (t : ℤ) (lists : List (List ℕ)) (s u v : State) → Run m t s lists u → Run m t s lists v → u ≡ v
run_once m t [] s u v a b = a ∙ sym b
run_once m t (ls ∷ lists) s u v (x, a, p) (y, b, q) =
    let same : y ≡ x = steps_once m t ls s y x b a in
    run_once m (t +ℤ pos 1) lists x u v p (subst (λ (z : State). Run m (t +ℤ pos 1) z lists v) same q)

pub steps_join : (m : Rules) (t : ℤ) (xs ys : List ℕ) (s u : State) → Steps m t s (xs ++ ys) u ↔ ((v : State) × Steps m t s xs v × Steps m t v ys u)
steps_join m t [] ys s u = ((λ r. (s, refl, r)), λ (v, e, r). subst (λ (z : State). Steps m t z ys u) e r)
steps_join m t (l ∷ xs) ys s u = (
  (λ (z, a, r). let (v, b, c) = (steps_join m t xs ys z u).0 r in (v, (z, a, b), c)),
  λ (v, (z, a, b), c). (z, a, (steps_join m t xs ys z u).1 (v, b, c)),
)

-- a run keeps to the machine's colours
step_colour : (m : Rules) (t : ℤ) (s u : State) (l : ℕ) → IsMachine m → Step m t s l u → (s.colour < m.colours) × (u.colour < m.colours)
step_colour m t s u l laws ((few, small, goes), _) = (few, laws.stays s.colour l u.colour few small goes)

steps_colour : (m : Rules) (t : ℤ) (ls : List ℕ) (s u : State) → IsMachine m → Steps m t s ls u → (s.colour < m.colours) ↔ (u.colour < m.colours)
steps_colour m t [] s u laws e = rw e ((λ h. h), λ h. h)
steps_colour m t (l ∷ ls) s u laws (v, a, r) =
    let one = step_colour m t s v l laws a in
    let rest = steps_colour m t ls v u laws r in
    ((λ _. rest.0 one.1), λ _. one.0)

run_colour : (m : Rules) (t : ℤ) (lists : List (List ℕ)) (s u : State) → IsMachine m → Run m t s lists u → (s.colour < m.colours) ↔ (u.colour < m.colours)
run_colour m t [] s u laws e = rw e ((λ h. h), λ h. h)
run_colour m t (ls ∷ lists) s u laws (v, a, r) =
    let one = steps_colour m t ls s v laws a in
    let rest = run_colour m (t +ℤ pos 1) lists v u laws r in
    ((λ h. rest.0 (one.0 h)), λ h. one.1 (rest.1 h))

pub agreeing_colour : (k : Track) (known : ℕ → Bool) (given : ℕ → List Event) (f t : ℕ) (s u : State) → IsMachine k.rules → Agreeing k known given f t s u → (s.colour < k.rules.colours) ↔ (u.colour < k.rules.colours)
agreeing_colour k known given f t s u laws (lists, len, (a, r)) = run_colour k.rules (pos f) lists s u laws r

agree_known : (known known2 : ℕ → Bool) (given given2 : ℕ → List ℕ) (f t : ℕ) (xs : List (List ℕ)) → f + length xs ≡ t → ((x : ℕ) → f ≤ x → x < t → known2 x ≡ true → (known x ≡ true) × (given x ≡ given2 x)) → Agree known given f xs → Agree known2 given2 f xs
agree_known known known2 given given2 f t [] e h a = tt
agree_known known known2 given given2 f t (x ∷ xs) e h (a, r) =
    ((λ is. let (there, same) = h f (omega arith) (omega arith) is in a there ∙ same), agree_known known known2 given given2 (f + 1) t xs (omega arith) (λ y l1 l2. h y (omega arith) l2) r)

-- a run agrees with whatever is known of its tenths, and with less
pub agreeing_known : (k : Track) (known known2 : ℕ → Bool) (given given2 : ℕ → List Event) (f t : ℕ) (s u : State) → ((x : ℕ) → f ≤ x → x < t → known2 x ≡ true → (known x ≡ true) × (given x ≡ given2 x)) → Agreeing k known given f t s u → Agreeing k known2 given2 f t s u
agreeing_known k known known2 given given2 f t s u h (lists, len, (a, r)) =
    (lists, len, (agree_known known known2 (λ x. letters k (given x)) (λ x. letters k (given2 x)) f t lists len (λ x l1 l2 is. let (there, same) = h x l1 l2 is in (there, ap (λ y. letters k y) same)) a, r))

-- states that are alike stay so
pub alike_later : (m : Rules) (p q : ℤ) (s r : State) → p ≤ℤ q → Alike m p s r → Alike m q s r
alike_later m p q s r le (few, same, k) = (few, same, elim k [ inl e ↦ inl e | inr (a, b) ↦ inr (omega (arith, ints), omega (arith, ints)) ])

pub alike_back : (m : Rules) (p : ℤ) (s r : State) → Alike m p s r → Alike m p r s
alike_back m p s r (few, same, k) = (rw same few, sym same, elim k [ inl e ↦ inl (sym e) | inr (a, b) ↦ inr (b, a) ])

-- the events up to the place after the first j of tenth x, and those from it on
abbrev pub upto_place : (ℕ → List Event) → ℕ → ℕ → ℕ → List Event
upto_place given x j y = if nat_eq y x then take j (given y) else given y

abbrev pub from_place : (ℕ → List Event) → ℕ → ℕ → ℕ → List Event
from_place given x j y = if nat_eq y x then drop j (given y) else given y

pub upto_here : (given : ℕ → List Event) (x j : ℕ) → upto_place given x j x ≡ take j (given x)
upto_here given x j = rw (eq-eqb x x refl) refl

pub from_here : (given : ℕ → List Event) (x j : ℕ) → from_place given x j x ≡ drop j (given x)
from_here given x j = rw (eq-eqb x x refl) refl

pub upto_other : (given : ℕ → List Event) (x j y : ℕ) → y ≢ x → upto_place given x j y ≡ given y
upto_other given x j y ne = elim (eqb_tells y x) [ inl (_, e) ↦ absurd (ne e) | inr (test, _) ↦ rw test refl ]

pub from_other : (given : ℕ → List Event) (x j y : ℕ) → y ≢ x → from_place given x j y ≡ given y
from_other given x j y ne = elim (eqb_tells y x) [ inl (_, e) ↦ absurd (ne e) | inr (test, _) ↦ rw test refl ]

pub upto_same : (given given2 : ℕ → List Event) (x j y : ℕ) → given y ≡ given2 y → upto_place given x j y ≡ upto_place given2 x j y
upto_same given given2 x j y e = rw e refl

pub from_same : (given given2 : ℕ → List Event) (x j y : ℕ) → given y ≡ given2 y → from_place given x j y ≡ from_place given2 x j y
from_same given given2 x j y e = rw e refl

-- a run up to a place in a known tenth: over the tenths before it, and then over the first events of it
pub to_place : (k : Track) (known : ℕ → Bool) (given : ℕ → List Event) (f x j : ℕ) (s v : State) → f ≤ x → known x ≡ true → Agreeing k known (upto_place given x j) f (x + 1) s v ↔ ((a : State) × Agreeing k known given f x s a × Steps k.rules (pos x) a (letters k (take j (given x))) v)
to_place k known given f x j s v le is =
    let one = upto_place given x j in
    let join = agreeing_join k known one f x (x + 1) s v le (omega arith) in
    let last = λ (a : State). agreeing_first k known one x (x + 1) a v (omega arith) is in
    let none = λ (b : State). agreeing_none k known one (x + 1) b v in
    let here = upto_here given x j in (
      (λ g. let (a, p, q) = join.0 g in
          let (z, ev, r) = (last a).0 q in
          let ev2 : Steps k.rules (pos x) a (letters k (one x)) v = subst (λ (u : State). Steps k.rules (pos x) a (letters k (one x)) u) (sym ((none z).0 r)) ev in
          (a, agreeing_known k known known one given f x s a (λ y l1 l2 h. (h, upto_other given x j y (λ e. absurd (omega arith)))) p, subst (λ (es : List Event). Steps k.rules (pos x) a (letters k es) v) here ev2)),
      λ (a, p, ev).
          let ev2 : Steps k.rules (pos x) a (letters k (one x)) v = subst (λ (es : List Event). Steps k.rules (pos x) a (letters k es) v) (sym here) ev in
          join.1 (a, agreeing_known k known known given one f x s a (λ y l1 l2 h. (h, sym (upto_other given x j y (λ e. absurd (omega arith))))) p, (last a).1 (v, ev2, (none v).1 refl)),
    )

-- and a run from it on
pub since_place : (k : Track) (known : ℕ → Bool) (given : ℕ → List Event) (x t j : ℕ) (v u : State) → x < t → known x ≡ true → Agreeing k known (from_place given x j) x t v u ↔ ((b : State) × Steps k.rules (pos x) v (letters k (drop j (given x))) b × Agreeing k known given (x + 1) t b u)
since_place k known given x t j v u lt is =
    let two = from_place given x j in
    let first = agreeing_first k known two x t v u lt is in
    let here = from_here given x j in (
      (λ g. let (b, ev, p) = first.0 g in (b, subst (λ (es : List Event). Steps k.rules (pos x) v (letters k es) b) here ev, agreeing_known k known known two given (x + 1) t b u (λ y l1 l2 h. (h, from_other given x j y (λ e. absurd (omega arith)))) p)),
      λ (b, ev, p). first.1 (b, subst (λ (es : List Event). Steps k.rules (pos x) v (letters k es) b) (sym here) ev, agreeing_known k known known given two (x + 1) t b u (λ y l1 l2 h. (h, sym (from_other given x j y (λ e. absurd (omega arith))))) p),
    )

-- a run passes each place
pub place_join : (k : Track) (known : ℕ → Bool) (given : ℕ → List Event) (f x t j : ℕ) (s u : State) → f ≤ x → x < t → known x ≡ true → Agreeing k known given f t s u ↔ ((v : State) × Agreeing k known (upto_place given x j) f (x + 1) s v × Agreeing k known (from_place given x j) x t v u)
place_join k known given f x t j s u le lt is =
    let join = agreeing_join k known given f x t s u le (omega arith) in
    let first = λ (a : State). agreeing_first k known given x t a u lt is in
    let to = λ (v : State). to_place k known given f x j s v le is in
    let from = λ (v : State). since_place k known given x t j v u lt is in
    let parts : letters k (given x) ≡ letters k (take j (given x)) ++ letters k (drop j (given x)) = ap (λ es. letters k es) (sym (take-append-drop j (given x))) ∙ letters_join k (take j (given x)) (drop j (given x)) in
    let cut = λ (a b : State). steps_join k.rules (pos x) (letters k (take j (given x))) (letters k (drop j (given x))) a b in (
      (λ g. let (a, p, q) = join.0 g in
          let (b, ev, r) = (first a).0 q in
          let (v, e1, e2) = (cut a b).0 (subst (λ (ls : List ℕ). Steps k.rules (pos x) a ls b) parts ev) in
          (v, (to v).1 (a, p, e1), (from v).1 (b, e2, r))),
      λ (v, g1, g2).
          let (a, p, e1) = (to v).0 g1 in
          let (b, e2, r) = (from v).0 g2 in
          join.1 (a, p, (first a).1 (b, subst (λ (ls : List ℕ). Steps k.rules (pos x) a ls b) (sym parts) ((cut a b).1 (v, e1, e2)), r)),
    )
