-- How often a channel is on, at least and at most.
use Rattle.std.proofs.Common.{suc, zero, ◌≡◌, refl, sym, ◌∙◌, ◌⊎◌, inl, inr, ◌↔◌, ℕ, ◌+◌, ◌<◌, ◌≤◌, arith}
use Rattle.std.proofs.lemmas.Bool.{cases_eq}
use Rattle.board.specs.Logs.{first_tenth}
use Rattle.signal_log.proofs.Lawful.{told_same}
use Rattle.signal_log.specs.Log.{Log, window_end}
use Rattle.detector_state.specs.States.{IsCount}
use Rattle.detector_state.specs.Ranges.{Counts}
use Rattle.detector_state.specs.Tells.{HasColour, IsColourReached, IsSure, TellSameUpto}
use Rattle.detector_state.specs.Bounds.{NumbersAreOne, NumbersBound, NumbersReached, NumbersStay, StoresTell}
use Rattle.detector_state.proofs.FreeColours.{colours_stay, colours_tell, one_colour}
use Rattle.detector_state.proofs.Spread.{extremes, some_end}
use Rattle.detector_state.proofs.FreeCounting.{counts_le, counts_some}

module _ (P Q : ℕ → Type 0) where
  count_same : (n a k : ℕ) → ((x : ℕ) → a ≤ x → x < a + n → P x ↔ Q x) → IsCount P a n k → IsCount Q a n k
  unfolding IsCount
  count_same zero a k same e = e
  count_same (suc n) a k same h =
      let here = same a (omega arith) (omega arith) in
      let rest = λ (j : ℕ) (c : IsCount P (a + 1) n j). count_same n (a + 1) j (λ x l u. same x (omega arith) (omega arith)) c in
      elim h [
        | inl (p, (j, e, more)) ↦ inl (here.0 p, (j, e, rest j more))
        | inr (np, more) ↦ inr ((λ q. np (here.1 q)), rest k more)
      ]

  pub counts_same : (a b k : ℕ) → ((x : ℕ) → a ≤ x → x < b → P x ↔ Q x) → Counts P a b k → Counts Q a b k
  counts_same a b k same (n, e, c) = (n, e, count_same n a k (λ x l u. same x l (omega arith)) c)

pub numbers_bound : NumbersBound
numbers_bound log i o h a b least greatest are lt is agrees le inside low high =
    let on = HasColour log h i o.on in
    let tell = λ (x : ℕ) (small : x < window_end log). colours_tell log i o.on x are (h, agrees) lt small is.free in
    let decide : (x : ℕ) → x < window_end log → on x ⊎ (on x → ⊥) = λ x small. (let (v, r) = some_end log i are lt h x agrees small in elim (cases_eq v.colour o.on) [ inl e ↦ inl (v, r, e) | inr ne ↦ inr (λ p. ne (one_colour log h i v.colour o.on x (v, r, refl) p)) ]) in
    let (n, c) = counts_some on a b le (λ x l u. decide x (omega arith)) in
    (n, c, counts_le (IsSure log i o.on) on a b least n (λ x l u sure. (tell x (omega arith)).1.1 sure h agrees) low c, counts_le on (IsColourReached log i o.on) a b n greatest (λ x l u p. (tell x (omega arith)).0.0 (h, agrees, p)) c high)

pub numbers_reached : NumbersReached
numbers_reached log i o are has lt is =
    let ((h, low), (g, top)) = extremes log i o are has lt is in
    let tell = λ (x : ℕ) (small : x < window_end log). colours_tell log i o.on x are has lt small is.free in (
      (h, low.agrees, λ a b n inside c. counts_same (IsSure log i o.on) (HasColour log h i o.on) a b n (λ x l u. ((λ sure. (tell x (omega arith)).1.1 sure h low.agrees), λ p. (tell x (omega arith)).1.0 (low.only x (omega arith) p))) c),
      (g, top.agrees, λ a b n inside c. counts_same (IsColourReached log i o.on) (HasColour log g i o.on) a b n (λ x l u. ((λ r. top.wherever x (omega arith) ((tell x (omega arith)).0.1 r)), λ p. (tell x (omega arith)).0.0 (g, top.agrees, p))) c),
    )

pub sooner : (a b : Log) (t x : ℕ) → x ≤ t → TellSameUpto a b t → TellSameUpto a b x
sooner a b t x le same = record { specs = same.specs; known = λ y l. same.known y (omega arith); events = λ y l there. same.events y (omega arith) there }

pub numbers_stay : NumbersStay
numbers_stay a b i c t low high n same le =
    let one = λ (d x : ℕ) (small : x < high). colours_stay a b i d x (sooner a b t (x + 1) (omega arith) same) in (
      counts_same (IsSure a i c) (IsSure b i c) low high n (λ x l u. ((λ sure d r. sure d ((one d x u).1 r)), λ sure d r. sure d ((one d x u).0 r))),
      counts_same (IsColourReached a i c) (IsColourReached b i c) low high n (λ x l u. one c x u),
    )

pub stores_tell : StoresTell
stores_tell specs a b k ia ib tell =
    let zero_tenth : first_tenth 0 ≡ 0 = omega arith in
    let same = told_same a b 0 k ia ib tell in
    record {
      specs = refl;
      known = λ x l. (same x (omega arith) l).0;
      events = λ x l there. let (e, g) = same x (omega arith) l in g (sym e ∙ there);
    }

once : (P : ℕ → Type 0) (a b n m : ℕ) → Counts P a b n → Counts P a b m → n ≡ m
once P a b n m c d =
    let x = counts_le P P a b n m (λ t l u p. p) c d in
    let y = counts_le P P a b m n (λ t l u p. p) d c in
    omega arith

pub numbers_are_one : NumbersAreOne
numbers_are_one log i c low high n m = (once (IsSure log i c) low high n m, once (IsColourReached log i c) low high n m)
