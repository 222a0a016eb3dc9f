-- Marked events one after another.
use Rattle.std.proofs.Common.{◌≡◌, refl, ap, sym, ◌∙◌, subst, ℕ, ◌+◌, ◌<◌, pos, Bool, inl, inr, List, [], ◌∷◌, ◌++◌, length, length-append, map, arith}
use Rattle.std.proofs.lemmas.Int.{ints}
use Rattle.std.proofs.lemmas.Bool.{cases_Bool}
use Rattle.std.proofs.lemmas.List.{length-map, map-append}
use Rattle.reach.specs.Runs.{State, Run}
use Rattle.board.specs.History.{Agree, AreTracks, Bounded, Event, Track, letters}
use Rattle.board.proofs.Bridge.{agree_join, run_join}
use Rattle.board.proofs.Product.{bounded_join}
use Rattle.lost_rows.specs.Marked.{AllLostAreEvents, LostAreEvents, LostAtKnown, Marked, events_of, lost_of, told}
use Rattle.lost_laws.proofs.Making.{AreTenths}
use Rattle.lost_laws.proofs.Channels.{lost_in_join}

pub events_of_join : (xs ys : List Marked) → events_of (xs ++ ys) ≡ events_of xs ++ events_of ys
events_of_join [] ys = refl
events_of_join (x ∷ xs) ys = ap (λ zs. x.event ∷ zs) (events_of_join xs ys)

pub told_join : (xs ys : List Marked) → told (xs ++ ys) ≡ told xs ++ told ys
told_join [] ys = refl
told_join (x ∷ xs) ys =
    let more = told_join xs ys in
    elim (cases_Bool x.lost) [ inl lost ↦ rw lost more | inr held ↦ rw held (ap (λ zs. x.event ∷ zs) more) ]

pub lost_of_join : (xs ys : List Marked) → lost_of (xs ++ ys) ≡ lost_of xs + lost_of ys
lost_of_join [] ys = omega arith
lost_of_join (x ∷ xs) ys =
    let more = lost_of_join xs ys in
    elim (cases_Bool x.lost) [ inl lost ↦ rw lost (omega arith) | inr held ↦ rw held more ]

pub lost_are_join : (xs ys : List Marked) → LostAreEvents xs → LostAreEvents ys → LostAreEvents (xs ++ ys)
lost_are_join [] ys h g = g
lost_are_join (x ∷ xs) ys (one, h) g = (one, lost_are_join xs ys h g)

all_lost_are_join : (xs ys : List (List Marked)) → AllLostAreEvents xs → AllLostAreEvents ys → AllLostAreEvents (xs ++ ys)
all_lost_are_join [] ys h g = g
all_lost_are_join (x ∷ xs) ys (one, h) g = (one, all_lost_are_join xs ys h g)

at_known_join : (known : ℕ → Bool) (t x : ℕ) (xs ys : List (List Marked)) → t + length xs ≡ x → LostAtKnown known t xs → LostAtKnown known x ys → LostAtKnown known t (xs ++ ys)
at_known_join known t x [] ys e h g = let same : x ≡ t = omega arith in subst (λ (y : ℕ). LostAtKnown known y ys) same g
at_known_join known t x (z ∷ xs) ys e (one, h) g = (one, at_known_join known (t + 1) x xs ys (omega arith) h g)

pub bounded_cut : (known : ℕ → Bool) (t x : ℕ) (xs ys : List (List Event)) → t + length xs ≡ x → Bounded known t (xs ++ ys) → Bounded known t xs × Bounded known x ys
bounded_cut known t x [] ys e h = let same : t ≡ x = omega arith in (tt, subst (λ (y : ℕ). Bounded known y ys) same h)
bounded_cut known t x (z ∷ xs) ys e (one, h) = let (a, b) = bounded_cut known (t + 1) x xs ys (omega arith) h in ((one, a), b)

pub tenths_join : (n : ℕ) (tracks : ℕ → Track) (are : AreTracks n tracks) (i : ℕ) (small : i < n) (known : ℕ → Bool) (given : ℕ → List Event) (x y : ℕ) (old more : List (List Event)) (a b j : ℕ) (s v u : State) (ts us : List (List Marked)) → a + b ≡ j → x + length old ≡ y → AreTenths n tracks are i small known given x old a s v ts → AreTenths n tracks are i small known given y more b v u us → AreTenths n tracks are i small known given x (old ++ more) j s u (ts ++ us)
tenths_join n tracks are i small known given x y old more a b j s v u ts us sum at (l1, ag1, bo1, at1, ev1, co1, ru1, al1) (l2, ag2, bo2, at2, ev2, co2, ru2, al2) =
    let k = tracks i in
    let len1 = length-append ts us in
    let len2 = length-append old more in
    let told_size : length (map told ts) ≡ length ts = length-map ts told in
    let events_size : length (map events_of ts) ≡ length ts = length-map ts events_of in
    let letters_size : length (map (letters k) (map events_of ts)) ≡ length (map events_of ts) = length-map (map events_of ts) (letters k) in
    let events_parts : map events_of (ts ++ us) ≡ map events_of ts ++ map events_of us = map-append events_of ts us in
    let parts : (c : Track) → map (letters c) (map events_of (ts ++ us)) ≡ map (letters c) (map events_of ts) ++ map (letters c) (map events_of us) = λ c. ap (λ ws. map (letters c) ws) events_parts ∙ map-append (letters c) (map events_of ts) (map events_of us) in (
      omega arith,
      subst (λ (ws : List (List Event)). Agree known given x ws) (sym (map-append told ts us)) ((agree_join known given x y (map told ts) (map told us) (omega arith)).1 (ag1, ag2)),
      subst (λ (ws : List (List Event)). Bounded known x ws) (sym events_parts) (bounded_join known x y (map events_of ts) (map events_of us) (omega arith) bo1 bo2),
      at_known_join known x y ts us (omega arith) at1 at2,
      all_lost_are_join ts us ev1 ev2,
      (let both = lost_in_join ts us in omega arith),
      subst (λ (ls : List (List ℕ)). Run k.rules (pos x) s ls u) (sym (parts k)) ((run_join k.rules (pos x) (pos y) (map (letters k) (map events_of ts)) (map (letters k) (map events_of us)) s u (omega (arith, ints))).1 (v, ru1, ru2)),
      λ c lt other. parts (tracks c) ∙ (ap (λ ws. ws ++ map (letters (tracks c)) (map events_of us)) (al1 c lt other) ∙ (ap (λ ws. map (letters (tracks c)) old ++ ws) (al2 c lt other) ∙ sym (map-append (letters (tracks c)) old more))),
    )
