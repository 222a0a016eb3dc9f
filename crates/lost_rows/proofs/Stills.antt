-- One lost row of a still, forward and backward.
use Rattle.std.proofs.Common.{◌≡◌, refl, sym, ap, subst, ◌⊎◌, inl, inr, ◌↔◌, ℕ, ◌+◌, ◌<◌, ℤ, pos, ◌^◌, ◌+ℤ◌, ◌<ℤ◌, ◌≤ℤ◌, Bool, IsTrue, List, [], Option, Some, None, arith}
use Rattle.std.proofs.lemmas.Int.{ints}
use Rattle.std.proofs.lemmas.Bool.{cases_eq}
use Rattle.span_set.specs.declared.set.Span.{Span}
use Rattle.span_set.specs.Spans.{Member}
use Rattle.colour_machine.specs.Mask.{Has}
use Rattle.colour_machine.specs.Rules.{Rules, IsMachine, Change}
use Rattle.colour_machine.proofs.Ways.{change_stays}
use Rattle.reach.specs.Runs.{State, state, OldEnough}
use Rattle.reach.specs.Ahead.{NotLater}
use Rattle.reach.specs.Latest.{entry_of}
use Rattle.reach.specs.Put.{LeftFrom}
use Rattle.reach.specs.Sets.{set_of}
use Rattle.reach.specs.Tests.{InBound}
use Rattle.reach.specs.declared.put.Times.{Times}
use Rattle.lost_rows.specs.declared.asked.Asked.{Asked}
use Rattle.lost_rows.specs.Stills.{AfterLost, AreTimes, BeforeLost, EntersOne, IsLastIn, LostFrom, LostFromBelow, LostRow, LostTo, LostToBelow, Spares}
use Rattle.lost_rows.specs.Walks.{nothing_asked}

-- what a lost row is, without its letter
pub lost_parts : (m : Rules) (r : Asked) (t : ℤ) (s u : State) → LostRow m r t s u ↔ (Change m s.colour u.colour × (u.entry ≡ t) × OldEnough m t s × Spares r t s)
lost_parts m r t s u = (
  λ (l, (g, k), ne, sp). elim k [ inl same ↦ absurd (ne (ap (λ (v : State). v.colour) same)) | inr new ↦ ((l, g, ne), new.1, new.2, sp) ],
  λ ((l, g, ne), e, o, sp). (l, (g, inr (ne, e, o)), ne, sp),
)

pub after_is : (m : Rules) (r : Asked) (a b : ℤ) (sets : List (List Span)) (n : ℕ) (u : State) → n ≡ m.colours → AfterLost m r a b sets u ↔ LostFromBelow m r a b sets n u
after_is m r a b sets n u all = (
  λ (s, h, (t, ge, lt, w)).
      let (ch, e, o, sp) = (lost_parts m r t s u).0 w in
      let few = ch.1.0 in
      (s.colour, omega arith, (ch, (s.entry, h, omega (arith, ints), omega (arith, ints), subst (λ (z : ℤ). (s.entry +ℤ pos (m.floor s.colour)) ≤ℤ z) (sym e) o, λ q. subst (λ (z : ℤ). InBound r.bound z s.entry) (sym e) (sp q)))),
  λ (c, few, (ch, (e, mem, ge, lt, o, sp))). (state c e, mem, (u.entry, ge, lt, (lost_parts m r u.entry (state c e) u).1 (ch, refl, o, sp))),
)

-- one more in a loop
pub below_more : (P : ℕ → Type 0) (k : ℕ) (A B C : Type 0) → (A ↔ (B ⊎ ((c : ℕ) × (c < k) × P c))) → (C ↔ (A ⊎ P k)) → C ↔ (B ⊎ ((c : ℕ) × (c < k + 1) × P c))
below_more P k A B C was add = (
  λ x. elim (add.0 x) [ inl y ↦ elim (was.0 y) [ inl z ↦ inl z | inr (c, lt, z) ↦ inr (c, omega arith, z) ] | inr y ↦ inr (k, omega arith, y) ],
  λ x. add.1 (elim x [
    | inl y ↦ inl (was.1 (inl y))
    | inr (c, lt, z) ↦ elim (cases_eq c k) [ inl q ↦ inr (subst P q z) | inr ne ↦ inl (was.1 (inr (c, omega arith, z))) ]
  ]),
)

-- the same where only the one colour counts
pub here_more : (P : ℕ → Type 0) (c k : ℕ) (A B C : Type 0) → (A ↔ (B ⊎ ((c < k) × P c))) → (C ↔ (A ⊎ ((c ≡ k) × P k))) → C ↔ (B ⊎ ((c < k + 1) × P c))
here_more P c k A B C was add = (
  λ x. elim (add.0 x) [ inl y ↦ elim (was.0 y) [ inl z ↦ inl z | inr z ↦ inr (let lt = z.0 in omega arith, z.1) ] | inr y ↦ inr (let q = y.0 in omega arith, subst P (sym y.0) y.1) ],
  λ x. add.1 (elim x [
    | inl y ↦ inl (was.1 (inl y))
    | inr (lt, z) ↦ elim (cases_eq c k) [ inl q ↦ inr (q, subst P q z) | inr ne ↦ inl (was.1 (inr (omega arith, z))) ]
  ]),
)

pub none_below : (P : ℕ → Type 0) (A : Type 0) → A ↔ (A ⊎ ((c : ℕ) × (c < 0) × P c))
none_below P A = (λ x. inl x, λ x. elim x [ inl y ↦ y | inr (c, lt, z) ↦ absurd (omega arith) ])

pub none_here : (P : ℕ → Type 0) (c : ℕ) (A : Type 0) → A ↔ (A ⊎ ((c < 0) × P c))
none_here P c A = (λ x. inl x, λ x. elim x [ inl y ↦ y | inr (lt, z) ↦ absurd (omega arith) ])

-- one colour's part of a still, forward
pub entered_is : (m : Rules) (r : Asked) (a b : ℤ) (sets : List (List Span)) (c : ℕ) (w : Times) (mask : ℕ) (old tenths : List Span) (n : ℕ) (u : State) → IsMachine m → AreTimes m r a b c w → n ≡ m.colours → ((d : ℕ) → Has mask d ↔ Change m c d) → old ≡ [] → ((t : ℤ) → Member tenths t ↔ (Member old t ⊎ LeftFrom (set_of sets c) w t)) → EntersOne mask tenths n u ↔ LostFrom m r a b sets c u
entered_is m r a b sets c w mask old tenths n u laws is all change none left =
    let f = is.from in let g = is.to in let k = is.floor in
    let i = left u.entry in (
      λ (few, has, mem). (
        (change u.colour).0 has,
        elim (i.0 mem) [
          | inl x ↦ absurd (subst (λ (o : List Span). Member o u.entry) none x)
          | inr (e, h, (p, q, o, bd)) ↦ (e, h, omega (arith, ints), omega (arith, ints), subst (λ (x : ℕ). (e +ℤ pos x) ≤ℤ u.entry) k o, (is.bound u.entry e).0 bd)
        ],
      ),
      λ (ch, (e, h, p, q, o, sp)). (
        let few = change_stays m c u.colour laws ch in omega arith,
        (change u.colour).1 ch,
        i.1 (inr (e, h, (omega (arith, ints), omega (arith, ints), subst (λ (x : ℕ). (e +ℤ pos x) ≤ℤ u.entry) (sym k) o, (is.bound u.entry e).1 sp))),
      ),
    )

pub tenths_high : (m : Rules) (r : Asked) (a b : ℤ) (sets : List (List Span)) (c : ℕ) (w : Times) (old tenths : List Span) → AreTimes m r a b c w → b ≤ℤ pos (2 ^ 39) → old ≡ [] → ((t : ℤ) → Member tenths t ↔ (Member old t ⊎ LeftFrom (set_of sets c) w t)) → (t : ℤ) → Member tenths t → t <ℤ pos (2 ^ 40)
tenths_high m r a b sets c w old tenths is high none left t mem = elim ((left t).0 mem) [
  | inl x ↦ absurd (subst (λ (o : List Span). Member o t) none x)
  | inr (e, h, (p, q, o, bd)) ↦ let g = is.to in omega (arith, ints)
]

-- one change's part of a still, backward
pub last_is : (m : Rules) (a b : ℤ) (latest : List (Option ℤ)) (c d f : ℕ) (mask : ℕ) (has : Bool) (o last : Option ℤ) (e : ℤ) → f ≡ m.floor c → ((d : ℕ) → Has mask d ↔ Change m c d) → (IsTrue has ↔ Has mask d) → ((x : ℤ) → NotLater o x ↔ (IsTrue has × NotLater (entry_of latest d) x)) → IsLastIn a b o last → NotLater last (e +ℤ pos f) ↔ LostTo m a b latest c d e
last_is m a b latest c d f mask has o None e q change is h none = (
  λ x. absurd x,
  λ (ch, (t, ge, lt, nl, old)). absurd (none t ge lt ((h t).1 (is.1 ((change d).1 ch), nl))),
)
last_is m a b latest c d f mask has o (Some x) e q change is h (ge, lt, nl, most) = (
  λ le. let k = (h x).0 nl in ((change d).0 (is.0 k.0), (x, ge, lt, k.1, subst (λ (z : ℕ). (e +ℤ pos z) ≤ℤ x) q le)),
  λ (ch, (t, p, r, later, old)).
      let le = most t p r ((h t).1 (is.1 ((change d).1 ch), later)) in
      let old2 = subst (λ (z : ℕ). (e +ℤ pos z) ≤ℤ t) (sym q) old in omega (arith, ints),
)

pub before_is : (m : Rules) (a b : ℤ) (latest : List (Option ℤ)) (n : ℕ) (s : State) → IsMachine m → n ≡ m.colours → ((s.colour < n) × LostToBelow m a b latest n s.colour s.entry) ↔ BeforeLost m nothing_asked a b latest s
before_is m a b latest n s laws all = (
  λ (few, (d, lt, (ch, (t, ge, le, nl, old)))). (state d t, nl, (t, ge, le, (lost_parts m nothing_asked t s (state d t)).1 (ch, refl, old, λ _. tt))),
  λ (u, ad, (t, ge, le, w)).
      let (ch, e, o, sp) = (lost_parts m nothing_asked t s u).0 w in
      let few = ch.1.0 in
      let stays = change_stays m s.colour u.colour laws ch in
      (omega arith, (u.colour, omega arith, (ch, (t, ge, le, subst (λ (z : ℤ). NotLater (entry_of latest u.colour) z) e ad, o)))),
)

pub before_all : (m : Rules) (a b : ℤ) (latest : List (Option ℤ)) (n : ℕ) (s : State) → IsMachine m → n ≡ m.colours → ((s.colour < n) × LostToBelow m a b latest m.colours s.colour s.entry) ↔ BeforeLost m nothing_asked a b latest s
before_all m a b latest n s laws all = subst (λ (k : ℕ). ((s.colour < n) × LostToBelow m a b latest k s.colour s.entry) ↔ BeforeLost m nothing_asked a b latest s) all (before_is m a b latest n s laws all)

-- one more in a loop over what holds of one colour alone
pub below_where : (P : ℕ → Type 0) (W : Type 0) (k : ℕ) (A B C N : Type 0) → (A ↔ (B ⊎ (W × ((d : ℕ) × (d < k) × P d)))) → (C ↔ (A ⊎ (W × N))) → (N ↔ P k) → C ↔ (B ⊎ (W × ((d : ℕ) × (d < k + 1) × P d)))
below_where P W k A B C N was add is = (
  λ x. elim (add.0 x) [ inl y ↦ elim (was.0 y) [ inl z ↦ inl z | inr (w, (d, lt, p)) ↦ inr (w, (d, omega arith, p)) ] | inr (w, n) ↦ inr (w, (k, omega arith, is.0 n)) ],
  λ x. add.1 (elim x [
    | inl y ↦ inl (was.1 (inl y))
    | inr (w, (d, lt, p)) ↦ elim (cases_eq d k) [ inl q ↦ inr (w, is.1 (subst P q p)) | inr ne ↦ inl (was.1 (inr (w, (d, omega arith, p)))) ]
  ]),
)
