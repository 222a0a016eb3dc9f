-- Runs of each channel that agree are the channels of one history that agrees.
use Rattle.std.proofs.Common.{suc, zero, ◌≡◌, refl, ap, sym, subst, inl, inr, ◌↔◌, ℕ, ◌+◌, ◌-◌, ◌<◌, ◌≤◌, ℤ, pos, Bool, List, [], ◌∷◌, ◌++◌, length, length-append, length-drop, map, take, drop, get_or, arith, Option}
use Rattle.std.proofs.lemmas.Int.{ints}
use Rattle.std.proofs.lemmas.List.{length-map, map-append, take_at, drop_at, length-take-le, take-append-drop}
use Rattle.std.proofs.lemmas.Bool.{cases_eq}
use Rattle.std.proofs.lemmas.Grind.{common_steps}
use Rattle.span_set.specs.declared.set.Span.{Span}
use Rattle.reach.specs.Runs.{State, state, Run}
use Rattle.reach.specs.Past.{Holds}
use Rattle.reach.specs.Ahead.{Admits}
use Rattle.board.specs.History.{Agree, AreTracks, Bounded, Event, History, Track, letters, start_of}
use Rattle.board.specs.Verdicts.{ArePassed, IsAtEnd}
use Rattle.board.proofs.Bridge.{run_join, agree_join}
use Rattle.board.proofs.Joining.{run_small, lists_joined}

-- one of each
pub choose : {A : Type 0} → (d : A) (n : ℕ) (P : ℕ → A → Type 0) → ((i : ℕ) → i < n → (w : A) × P i w) → (ws : List A) × (length ws ≡ n) × ((i : ℕ) → i < n → P i (get_or ws i d))
choose d zero P h = ([], refl, λ i lt. absurd (omega arith))
choose {A} d (suc n) P h =
    let (ws, len, all) = choose d n P (λ i lt. h i (omega arith)) in
    let (w, p) = h n (omega arith) in (
      ws ++ w ∷ [],
      grind (arith, common_steps),
      λ i lt. elim (cases_eq i n) [
        | inl e ↦ let at : get_or (ws ++ w ∷ []) i d ≡ w = grind (arith, common_steps) in subst (λ (z : A). P i z) (sym at) (subst (λ (k : ℕ). P k w) (sym e) p)
        | inr ne ↦ let below : i < length ws = omega arith in let at : get_or (ws ++ w ∷ []) i d ≡ get_or ws i d = grind (arith, common_steps) in subst (λ (z : A). P i z) (sym at) (all i (omega arith))
      ],
    )

-- the letters of events that agree
pub agree_letters : (k : Track) (known : ℕ → Bool) (given : ℕ → List Event) (t : ℕ) (events : List (List Event)) → Agree known given t events → Agree known (λ x. letters k (given x)) t (map (letters k) events)
agree_letters k known given t [] a = tt
agree_letters k known given t (x ∷ xs) (a, r) = ((λ is_known. ap (λ e. letters k e) (a is_known)), agree_letters k known given (t + 1) xs r)

pub bounded_join : (known : ℕ → Bool) (t x : ℕ) (xs ys : List (List Event)) → t + length xs ≡ x → Bounded known t xs → Bounded known x ys → Bounded known t (xs ++ ys)
bounded_join known t x [] ys e a b = let same : x ≡ t = omega arith in subst (λ (y : ℕ). Bounded known y ys) same b
bounded_join known t x (z ∷ xs) ys e (a, r) b = (a, bounded_join known (t + 1) x xs ys (omega arith) r b)

-- what one channel takes
record Leg : Type 0 where
  pub start : State
  pub end : State
  pub first : List (List ℕ)
  pub rest : List (List ℕ)

abbrev no_leg : Leg
no_leg = record { start = state 0 (pos 0); end = state 0 (pos 0); first = []; rest = [] }

abbrev no_state : State
no_state = state 0 (pos 0)

-- the states at the end of a known or unknown tenth are those of one history exactly where each is that of a run of its channel
pub product : (n : ℕ) (tracks : ℕ → Track) → AreTracks n tracks → (known : ℕ → Bool) (given : ℕ → List Event) (f x t : ℕ) → f ≤ x + 1 → x + 1 ≤ t → (before : ℕ → List (List Span)) (after : ℕ → List (Option ℤ)) (v : ℕ → State) → ArePassed n tracks known given f x t before after v ↔ ((i : ℕ) → i < n → IsAtEnd (tracks i) known given f x t (before i) (after i) (v i))
product n tracks are known given f x t h1 h2 before after v = (
  λ (h, agrees, len, pass) i lt.
      let k = tracks i in
      let m = x + 1 - f in
      let es = h.events in
      let (hs, r1, (u, r2, au)) = pass i lt in
      let cut : take m es ++ drop m es ≡ es = take-append-drop m es in
      let l1 : length (take m es) ≡ m = length-take-le m es (omega arith) in
      let l2 : length (drop m es) ≡ length es - m = length-drop m es in
      let at : f + length (take m es) ≡ x + 1 = omega arith in
      let both = (agree_join known given f (x + 1) (take m es) (drop m es) at).0 (subst (λ (ws : List (List Event)). Agree known given f ws) (sym cut) agrees.agree) in
      let m1 : length (map (letters k) (take m es)) ≡ length (take m es) = length-map (take m es) (letters k) in
      let m2 : length (map (letters k) (drop m es)) ≡ length (drop m es) = length-map (drop m es) (letters k) in
      ((start_of h i, hs, (map (letters k) (take m es), omega arith, (agree_letters k known given f (take m es) both.0, r1))), (u, (map (letters k) (drop m es), omega arith, (agree_letters k known given (x + 1) (drop m es) both.1, r2)), au)),
  λ h.
      let m = x + 1 - f in
      let P : ℕ → Leg → Type 0 = λ i w. Holds (before i) w.start × Admits (after i) w.end × (f + length w.first ≡ x + 1) × (x + 1 + length w.rest ≡ t) × Agree known (λ y. letters (tracks i) (given y)) f w.first × Agree known (λ y. letters (tracks i) (given y)) (x + 1) w.rest × Run (tracks i).rules (pos f) w.start w.first (v i) × Run (tracks i).rules (pos (x + 1)) (v i) w.rest w.end in
      let (ws, len, all) = choose no_leg n P (λ i lt. let ((s, hs, (l1, e1, (a1, r1))), (u, (l2, e2, (a2, r2)), au)) = h i lt in (record { start = s; end = u; first = l1; rest = l2 }, (hs, au, e1, e2, a1, a2, r1, r2))) in
      let leg = λ (i : ℕ). get_or ws i no_leg in
      let (starts, _, same) = choose no_state n (λ (i : ℕ) (s : State). s ≡ (leg i).start) (λ i lt. ((leg i).start, refl)) in
      let (first, n1, g1, b1, m1) = lists_joined n tracks are known given (x + 1 - f) f (λ i. (leg i).first) (λ i lt. let p = (all i lt).2 in omega arith) (λ i lt. run_small (tracks i).rules (pos f) (leg i).first (leg i).start (v i) (all i lt).6) (λ i lt. (all i lt).4) in
      let (rest, n2, g2, b2, m2) = lists_joined n tracks are known given (t - (x + 1)) (x + 1) (λ i. (leg i).rest) (λ i lt. let p = (all i lt).3 in omega arith) (λ i lt. run_small (tracks i).rules (pos (x + 1)) (leg i).rest (v i) (leg i).end (all i lt).7) (λ i lt. (all i lt).5) in
      let at : f + length first ≡ x + 1 = omega arith in
      let size : length (first ++ rest) ≡ length first + length rest = length-append first rest in
      let front : take m (first ++ rest) ≡ first = take_at first rest m n1 in
      let back : drop m (first ++ rest) ≡ rest = drop_at first rest m n1 in
      let hist : History = record { starts = starts; events = first ++ rest } in
      let run1 : (i : ℕ) → i < n → Run (tracks i).rules (pos f) (start_of hist i) (map (letters (tracks i)) first) (v i) = λ i lt. rw (same i lt, m1 i lt) ((all i lt).6) in
      let run2 : (i : ℕ) → i < n → Run (tracks i).rules (pos (x + 1)) (v i) (map (letters (tracks i)) rest) (leg i).end = λ i lt. rw (m2 i lt) ((all i lt).7) in (
        hist,
        record {
          legal = λ i lt.
              let size1 : length (map (letters (tracks i)) first) ≡ length first = length-map first (letters (tracks i)) in
              let whole = (run_join (tracks i).rules (pos f) (pos (x + 1)) (map (letters (tracks i)) first) (map (letters (tracks i)) rest) (start_of hist i) (leg i).end (omega (arith, ints))).1 (v i, run1 i lt, run2 i lt) in
              ((leg i).end, subst (λ (ls : List (List ℕ)). Run (tracks i).rules (pos f) (start_of hist i) ls (leg i).end) (sym (map-append (letters (tracks i)) first rest)) whole);
          agree = (agree_join known given f (x + 1) first rest at).1 (g1, g2);
          bounded = bounded_join known f (x + 1) first rest at b1 b2;
        },
        omega arith,
        λ i lt. (
          subst (λ (s : State). Holds (before i) s) (sym (same i lt)) (all i lt).0,
          subst (λ (es : List (List Event)). Run (tracks i).rules (pos f) (start_of hist i) (map (letters (tracks i)) es) (v i)) (sym front) (run1 i lt),
          ((leg i).end, subst (λ (es : List (List Event)). Run (tracks i).rules (pos (x + 1)) (v i) (map (letters (tracks i)) es) (leg i).end) (sym back) (run2 i lt), (all i lt).1),
        ),
      ),
)
