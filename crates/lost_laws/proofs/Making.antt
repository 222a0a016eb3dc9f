-- Marked events that a walk of one channel makes.
use Rattle.std.proofs.Common.{suc, zero, ◌≡◌, ◌≢◌, refl, ap, sym, ◌∙◌, subst, inl, inr, ℕ, ◌+◌, ◌<◌, ℤ, pos, ◌≤ℤ◌, Bool, true, false, IsTrue, List, [], ◌∷◌, ◌++◌, length, map, arith, Option, Some, None}
use Rattle.std.proofs.lemmas.Int.{ints}
use Rattle.std.proofs.lemmas.List.{append-nil}
use Rattle.reach.specs.Runs.{State, Step, Steps, Run}
use Rattle.reach.specs.Tests.{InBound}
use Rattle.board.specs.History.{Agree, AreEvents, AreTracks, Bounded, Event, Track, letters, put}
use Rattle.board.proofs.Joining.{are_events_join, encode, letters_join, run_small}
use Rattle.signal_log.proofs.Runs.{steps_once}
use Rattle.lost_rows.specs.declared.asked.Asked.{Asked}
use Rattle.lost_rows.specs.Stills.{LostRow, LostRows}
use Rattle.lost_rows.specs.Walks.{LostWalk}
use Rattle.lost_rows.specs.Marked.{AllLostAreEvents, LostAreEvents, LostAtKnown, Marked, events_of, lost_in, lost_of, told}
use Rattle.lost_laws.specs.Tenths.{LosesOver, letters_in}
use Rattle.lost_laws.proofs.Places.{option_cases, put_join}
use Rattle.lost_laws.proofs.Reading.{AllSpared, Spared}

-- events of which none is lost
abbrev pub held_marks : List Event → List Marked
held_marks [] = []
held_marks (e ∷ es) = record { event = e; lost = false } ∷ held_marks es

pub held_events : (es : List Event) → events_of (held_marks es) ≡ es
held_events [] = refl
held_events (e ∷ es) = ap (λ xs. e ∷ xs) (held_events es)

pub held_none : (es : List Event) → lost_of (held_marks es) ≡ 0
held_none [] = refl
held_none (e ∷ es) = held_none es

pub held_are : (es : List Event) → LostAreEvents (held_marks es)
held_are [] = tt
held_are (e ∷ es) = ((λ bad. absurd (cc)), held_are es)

held_spared : (k : Track) (r : Asked) (x : ℕ) (es : List Event) (s : State) → Spared k r x s (held_marks es)
held_spared k r x [] s = tt
held_spared k r x (e ∷ es) s = ((λ bad. absurd (let no : false ≡ true = bad in cc)), λ u one. held_spared k r x es u)

-- the events that are of the channel are left out
abbrev put_other : Option ℕ → Event → List Event → List Event
put_other None e es = e ∷ es
put_other (Some l) e es = es

abbrev without : Track → List Event → List Event
without k [] = []
without k (e ∷ es) = put_other (k.letter e.code e.param) e (without k es)

without_own : (k : Track) (es : List Event) → letters k (without k es) ≡ []
without_own k [] = refl
without_own k (e ∷ es) = elim (option_cases (k.letter e.code e.param)) [
  | inl none ↦ rw none (ap (λ (o : Option ℕ). put o (letters k (without k es))) none ∙ without_own k es)
  | inr (l, is) ↦ rw is (without_own k es)
]

without_other : (k c : Track) (es : List Event) → ((e : Event) (l : ℕ) → k.letter e.code e.param ≡ Some l → c.letter e.code e.param ≡ None) → letters c (without k es) ≡ letters c es
without_other k c [] apart = refl
without_other k c (e ∷ es) apart = elim (option_cases (k.letter e.code e.param)) [
  | inl none ↦ rw none (ap (λ ls. put (c.letter e.code e.param) ls) (without_other k c es apart))
  | inr (l, is) ↦ rw is (without_other k c es apart ∙ sym (ap (λ (o : Option ℕ). put o (letters c es)) (apart e l is)))
]

without_events : (k : Track) (es : List Event) → AreEvents es → AreEvents (without k es)
without_events k [] h = tt
without_events k (e ∷ es) (one, h) = elim (option_cases (k.letter e.code e.param)) [
  | inl none ↦ rw none (one, without_events k es h)
  | inr (l, is) ↦ rw is (without_events k es h)
]

module _ (n : ℕ) (tracks : ℕ → Track) (are : AreTracks n tracks) (i : ℕ) (small : i < n) where
  -- the other channels see the same in both
  abbrev pub SeenAlike : List Event → List Event → Type 0
  SeenAlike es given = (c : ℕ) → c < n → i ≢ c → letters (tracks c) es ≡ letters (tracks c) given

  -- marked events of tenth x: the given ones, and j lost ones among them, which lead the channel from state s to state u; each lost one keeps what is asked
  abbrev pub Made : Asked → ℕ → List Event → ℕ → State → State → Type 0
  Made r x given j s u = (es : List Marked) × (told es ≡ given) × (lost_of es ≡ j) × LostAreEvents es × Steps (tracks i).rules (pos x) s (letters (tracks i) (events_of es)) u × Spared (tracks i) r x s es × SeenAlike (events_of es) given

  lost_made : (r : Asked) (x : ℕ) (given : List Event) (j : ℕ) (t : ℤ) (s v u : State) → t ≡ pos x → LostRow (tracks i).rules r t s v → Made r x given j v u → Made r x given (suc j) s u
  lost_made r x given j t s v u now (l, step, ne, spares) (es, tells, count, events, steps, spared, alike) =
      let k = tracks i in
      let (a, byte, is) = are.event i l small step.0.1 in
      let here : Step k.rules (pos x) s l v = subst (λ (y : ℤ). Step k.rules y s l v) now step in
      let one : Steps k.rules (pos x) s (put (k.letter a.code a.param) []) v = subst (λ (o : Option ℕ). Steps k.rules (pos x) s (put o []) v) (sym is) (v, here, refl) in (
        record { event = a; lost = true } ∷ es,
        tells,
        ap suc count,
        ((λ _. byte), events),
        put_join k (pos x) (k.letter a.code a.param) (letters k (events_of es)) s v u one steps,
        (
          (λ _ same l2 d is2 goes out. subst (λ (y : ℤ). InBound r.bound y s.entry) now (spares same)),
          λ w other. subst (λ (z : State). Spared k r x z es) (steps_once k.rules (pos x) (put (k.letter a.code a.param) []) s v w one other) spared,
        ),
        λ c lt other. ap (λ (o : Option ℕ). put o (letters (tracks c) (events_of es))) (are.apart i c a l small lt other is) ∙ alike c lt other,
      )

  pub held_made : (r : Asked) (x : ℕ) (e : Event) (given : List Event) (j : ℕ) (s v u : State) → Steps (tracks i).rules (pos x) s (put ((tracks i).letter e.code e.param) []) v → Made r x given j v u → Made r x (e ∷ given) j s u
  held_made r x e given j s v u one (es, tells, count, events, steps, spared, alike) =
      let k = tracks i in (
        record { event = e; lost = false } ∷ es,
        ap (λ xs. e ∷ xs) tells,
        count,
        ((λ bad. absurd (cc)), events),
        put_join k (pos x) (k.letter e.code e.param) (letters k (events_of es)) s v u one steps,
        (
          (λ bad. absurd (let no : false ≡ true = bad in cc)),
          λ w other. subst (λ (z : State). Spared k r x z es) (steps_once k.rules (pos x) (put (k.letter e.code e.param) []) s v w one other) spared,
        ),
        λ c lt other. ap (λ ls. put ((tracks c).letter e.code e.param) ls) (alike c lt other),
      )

  rows_made : (r : Asked) (x : ℕ) (given : List Event) (a j m : ℕ) (t : ℤ) (s v u : State) → a + j ≡ m → pos x ≤ℤ t → LostRows (tracks i).rules r t (pos (x + 1)) a s v → Made r x given j v u → Made r x given m s u
  rows_made r x given zero j m t s v u sum late same made = subst (λ (b : ℕ). Made r x given b s u) (let e : j ≡ m = omega arith in e) (subst (λ (z : State). Made r x given j z u) same made)
  rows_made r x given (suc a) j m t s v u sum late (y, ge, lt, (w, row, rest)) made =
      let now : y ≡ pos x = omega (arith, ints) in
      let more = lost_made r x given (a + j) y s w u now row (rows_made r x given a j (a + j) y w v u refl (omega (arith, ints)) rest made) in
      subst (λ (b : ℕ). Made r x given b s u) (let e : suc (a + j) ≡ m = omega arith in e) more

  event_made : (r : Asked) (x : ℕ) (e : Event) (given : List Event) (j : ℕ) (s u : State) (o : Option ℕ) → (tracks i).letter e.code e.param ≡ o → ((b : ℕ) (w : State) → LostWalk (tracks i).rules r x (letters_in x (letters (tracks i) given)) (x + 1) b w u → Made r x given b w u) → LostWalk (tracks i).rules r x (letters_in x (put o (letters (tracks i) given))) (x + 1) j s u → Made r x (e ∷ given) j s u
  event_made r x e given j s u None is rest walk = held_made r x e given j s s u (subst (λ (o : Option ℕ). Steps (tracks i).rules (pos x) s (put o []) s) (sym is) refl) (rest j s walk)
  event_made r x e given j s u (Some l) is rest (a, b, sum, (v, w, rows, step, walk)) = rows_made r x (e ∷ given) a b j (pos x) s v u sum (omega (arith, ints)) rows (held_made r x e given b v w u (subst (λ (o : Option ℕ). Steps (tracks i).rules (pos x) v (put o []) w) (sym is) (w, step, refl)) (rest b w walk))

  -- a walk over the given events of a known tenth
  pub tenth_made : (r : Asked) (x : ℕ) (given : List Event) (j : ℕ) (s u : State) → LostWalk (tracks i).rules r x (letters_in x (letters (tracks i) given)) (x + 1) j s u → Made r x given j s u
  tenth_made r x [] j s u rows = rows_made r x [] j 0 j (pos x) s u u (omega arith) (omega (arith, ints)) rows ([], refl, refl, tt, refl, tt, λ c lt other. refl)
  tenth_made r x (e ∷ given) j s u walk = event_made r x e given j s u ((tracks i).letter e.code e.param) refl (λ b w rest. tenth_made r x given b w u rest) walk

  -- letters of the channel at a tenth that isn't known, with the other channels' events there
  unknown_made : (r : Asked) (x : ℕ) (old : List Event) (ls : List ℕ) (s u : State) → AreEvents old → Steps (tracks i).rules (pos x) s ls u → (es : List Event) × AreEvents es × Steps (tracks i).rules (pos x) s (letters (tracks i) es) u × SeenAlike es old
  unknown_made r x old ls s u bytes steps =
      let k = tracks i in
      let few = run_small k.rules (pos x) (ls ∷ []) s u (u, steps, refl) in
      let (acts, these, own, others) = encode n tracks are i small ls few.0 in
      let is : letters k (acts ++ without k old) ≡ ls = letters_join k acts (without k old) ∙ (ap (λ zs. letters k acts ++ zs) (without_own k old) ∙ (append-nil (letters k acts) ∙ own)) in (
        acts ++ without k old,
        are_events_join acts (without k old) these (without_events k old bytes),
        subst (λ (zs : List ℕ). Steps k.rules (pos x) s zs u) (sym is) steps,
        λ c lt other. letters_join (tracks c) acts (without k old) ∙ (ap (λ zs. zs ++ letters (tracks c) (without k old)) (others c lt other) ∙ without_other k (tracks c) old (λ e l at. are.apart i c e l small lt other at)),
      )

  -- ---- over some tenths

  -- marked events of the tenths from x on: they agree with the log but for j lost ones, lead the channel from state s to state u, and for the other channels are the old ones
  abbrev pub AreTenths : (ℕ → Bool) → (ℕ → List Event) → ℕ → List (List Event) → ℕ → State → State → List (List Marked) → Type 0
  AreTenths known given x old j s u ts = (length ts ≡ length old) × Agree known given x (map told ts) × Bounded known x (map events_of ts) × LostAtKnown known x ts × AllLostAreEvents ts × (lost_in ts ≡ j) × Run (tracks i).rules (pos x) s (map (letters (tracks i)) (map events_of ts)) u × ((c : ℕ) → c < n → i ≢ c → map (letters (tracks c)) (map events_of ts) ≡ map (letters (tracks c)) old)

  pub tenth_more : (known : ℕ → Bool) (given : ℕ → List Event) (x : ℕ) (was : List Event) (old : List (List Event)) (a b j : ℕ) (s v u : State) (es : List Marked) (ts : List (List Marked)) → a + b ≡ j → (IsTrue (known x) → told es ≡ given x) → (known x ≡ false → AreEvents (events_of es)) → (known x ≡ false → lost_of es ≡ 0) → LostAreEvents es → lost_of es ≡ a → Steps (tracks i).rules (pos x) s (letters (tracks i) (events_of es)) v → SeenAlike (events_of es) was → AreTenths known given (x + 1) old b v u ts → AreTenths known given x (was ∷ old) j s u (es ∷ ts)
  tenth_more known given x was old a b j s v u es ts sum agree bytes at_known events count steps alike (l, ag, bo, at, ev, co, ru, al) = (
    ap suc l,
    (agree, ag),
    (bytes, bo),
    (at_known, at),
    (events, ev),
    omega arith,
    (v, steps, ru),
    λ c lt other. ap (λ z. z ∷ map (letters (tracks c)) (map events_of ts)) (alike c lt other) ∙ ap (λ zs. letters (tracks c) was ∷ zs) (al c lt other),
  )

  pub tenths_made : (known : ℕ → Bool) (given : ℕ → List Event) (r : Asked) (x : ℕ) (old : List (List Event)) (j : ℕ) (s u : State) → Agree known given x old → Bounded known x old → LosesOver (tracks i) known given r x (length old) j s u → (ts : List (List Marked)) × AreTenths known given x old j s u ts × AllSpared (tracks i) r x s ts
  tenths_made known given r x [] j s u agree bounded (none, same) = ([], (refl, tt, tt, tt, tt, sym none, same, (λ c lt other. refl)), tt)
  tenths_made known given r x (was ∷ old) j s u (here, agree) (bytes, bounded) (a, b, sum, (v, one, rest)) =
      let k = tracks i in
      let (ts, all, spared) = tenths_made known given r (x + 1) old b v u agree bounded rest in
      elim one [
        | inl (is, walk) ↦
            let (es, tells, count, events, steps, kept, alike) = tenth_made r x (given x) a s v walk in
            let same : was ≡ given x = here is in
            let bad : known x ≡ false → ⊥ = λ not. (let no : true ≡ false = sym is ∙ not in cc) in (
              es ∷ ts,
              tenth_more known given x was old a b j s v u es ts sum (λ _. tells) (λ not. absurd (bad not)) (λ not. absurd (bad not)) events count steps (λ c lt other. alike c lt other ∙ ap (λ zs. letters (tracks c) zs) (sym same)) all,
              (kept, λ w other. subst (λ (z : State). AllSpared k r (x + 1) z ts) (steps_once k.rules (pos x) (letters k (events_of es)) s v w steps other) spared),
            )
        | inr (not, none, (ls, free)) ↦
            let (acts, these, steps, alike) = unknown_made r x was ls s v (bytes not) free in
            let is = held_events acts in
            let es = held_marks acts in
            let steps2 : Steps k.rules (pos x) s (letters k (events_of es)) v = subst (λ (zs : List Event). Steps k.rules (pos x) s (letters k zs) v) (sym is) steps in
            let bad : IsTrue (known x) → ⊥ = λ yes. (let no : true ≡ false = sym yes ∙ not in cc) in (
              es ∷ ts,
              tenth_more known given x was old a b j s v u es ts sum (λ yes. absurd (bad yes)) (λ _. subst AreEvents (sym is) these) (λ _. held_none acts) (held_are acts) (held_none acts ∙ sym none) steps2 (λ c lt other. subst (λ (zs : List Event). letters (tracks c) zs ≡ letters (tracks c) was) (sym is) (alike c lt other)) all,
              (held_spared k r x acts s, λ w other. subst (λ (z : State). AllSpared k r (x + 1) z ts) (steps_once k.rules (pos x) (letters k (events_of es)) s v w steps2 other) spared),
            )
      ]
