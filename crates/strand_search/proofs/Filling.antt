-- A way over a gap is a run that agrees, where its fills are all that is known.
use Rattle.std.proofs.Common.{suc, zero, ◌≡◌, refl, sym, ap, ◌∙◌, subst, inl, inr, ℕ, ◌+◌, ◌<◌, ◌≤◌, ℤ, pos, ◌+ℤ◌, List, [], ◌∷◌, length, Bool, true, false, arith}
use Rattle.std.specs.Ordering.{int_eq}
use Rattle.std.proofs.lemmas.Bool.Decides.{Decides-int_eq, Decides-eqb}
use Rattle.std.proofs.lemmas.Int.{ints}
use Rattle.sig_base.specs.declared.values.Row.{Row}
use Rattle.gap_ways.specs.declared.states.Fill.{Fill}
use Rattle.reach.specs.Runs.{State}
use Rattle.gap_ways.specs.Ways.{Way}
use Rattle.strand_search.proofs.Listing.{letters_in, lists_in, way_lists, Ordered}
use Rattle.board.specs.History.{Agree, Agreeing, Track, event_of, events_at, letters}
use Rattle.strand_search.specs.Fillings.{AreFillRows}
use Rattle.board.specs.Moves.{RowsIn}
use Rattle.board.proofs.Bridge.{event_not_here}
use Rattle.std.proofs.lemmas.Bool.{cases_eq}

int_same : (x : ℤ) → int_eq x x ≡ true
int_same x = (Decides-int_eq x x).1 refl

int_other : (b : Bool) (x y : ℤ) → int_eq x y ≡ b → (x ≡ y → ⊥) → int_eq x y ≡ false
int_other true x y e n = absurd (n ((Decides-int_eq x y).0 e))
int_other false x y e n = e

here : (r : Row) (rs : List Row) → events_at (r ∷ rs) r.at ≡ event_of r ∷ events_at rs r.at
here r rs = rw ((Decides-eqb r.at r.at).1 refl) refl

letters_same : (k : Track) (fs : List Fill) (rs : List Row) (x : ℕ) → AreFillRows k fs rs → letters k (events_at rs x) ≡ letters_in fs (pos x)
letters_same k [] [] x a = refl
letters_same k [] (r ∷ rs) x a = absurd a
letters_same k (y ∷ fs) [] x a = absurd a
letters_same k (y ∷ fs) (r ∷ rs) x (e, l, a) = elim (cases_eq r.at x) [
  | inl q ↦
      let i = letters_same k fs rs r.at a in
      let i2 : int_eq y.at (pos r.at) ≡ true = rw e (int_same (pos r.at)) in
      subst (λ (z : ℕ). letters k (events_at (r ∷ rs) z) ≡ letters_in (y ∷ fs) (pos z)) q (rw (i2, here r rs, l) (ap (λ (z : List ℕ). y.letter ∷ z) i))
  | inr n ↦
      let i = letters_same k fs rs x a in
      let i2 : int_eq y.at (pos x) ≡ false = int_other (int_eq y.at (pos x)) y.at (pos x) refl (λ z. n (let z2 : pos r.at ≡ pos x = sym e ∙ z in omega (arith, ints))) in
      rw (i2, event_not_here r rs x n) i
]

lists_agree : (k : Track) (fs : List Fill) (rs : List Row) (f n : ℕ) → AreFillRows k fs rs → Agree (λ x. true) (λ x. letters k (events_at rs x)) f (lists_in fs (pos f) n)
lists_agree k fs rs f zero a = tt
lists_agree k fs rs f (suc n) a = ((λ _. sym (letters_same k fs rs f a)), subst (λ (z : ℤ). Agree (λ x. true) (λ x. letters k (events_at rs x)) (f + 1) (lists_in fs z n)) (omega (arith, ints)) (lists_agree k fs rs (f + 1) n a))

lists_length : (fs : List Fill) (f : ℤ) (n : ℕ) → length (lists_in fs f n) ≡ n
lists_length fs f zero = refl
lists_length fs f (suc n) = let i = lists_length fs (f +ℤ pos 1) n in omega arith

pub way_agrees : (k : Track) (f n t : ℕ) (s u : State) (fs : List Fill) (rs : List Row) → f + n ≡ t → AreFillRows k fs rs → Way k.rules (pos f) (pos t) s fs u → Agreeing k (λ x. true) (events_at rs) f t s u
way_agrees k f n t s u fs rs e a w =
    let (o, r) = (way_lists k.rules (pos f) (pos t) n fs s u (omega (arith, ints))).0 w in
    (lists_in fs (pos f) n, (let l = lists_length fs (pos f) n in omega arith), (lists_agree k fs rs f n a, r))

ordered_rows : (k : Track) (f t : ℕ) (fs : List Fill) (rs : List Row) → f ≤ t → AreFillRows k fs rs → Ordered (pos f) (pos t) fs → RowsIn f t rs
ordered_rows k f t [] [] le a o = le
ordered_rows k f t [] (r ∷ rs) le a o = absurd a
ordered_rows k f t (x ∷ xs) [] le a o = absurd a
ordered_rows k f t (x ∷ xs) (r ∷ rs) le (e, l, a) (p, q, o) =
    let lt : r.at < t = omega (arith, ints) in
    (omega (arith, ints), lt, ordered_rows k r.at t xs rs (omega arith) a (subst (λ (z : ℤ). Ordered z (pos t) xs) e o))

pub way_rows : (k : Track) (f n t : ℕ) (s u : State) (fs : List Fill) (rs : List Row) → f + n ≡ t → AreFillRows k fs rs → Way k.rules (pos f) (pos t) s fs u → RowsIn f t rs
way_rows k f n t s u fs rs e a w = ordered_rows k f t fs rs (omega arith) a ((way_lists k.rules (pos f) (pos t) n fs s u (omega (arith, ints))).0 w).0
