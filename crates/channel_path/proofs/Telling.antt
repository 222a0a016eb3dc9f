-- What the first few moves alone tell, whatever is admitted after all of them.
use Rattle.std.proofs.Common.{zero, suc, false, true, ◌≡◌, refl, sym, ◌∙◌, subst, inl, inr, ◌↔◌, ℕ, ◌+◌, ◌<◌, ◌≤◌, ℤ, pos, ◌+ℤ◌, ◌≤ℤ◌, ◌<ℤ◌, List, [], ◌∷◌, ◌++◌, length, take, drop, get_or, arith, Option, Some, None}
use Rattle.std.specs.Option.{IfSome, MatchOption, is_some}
use Rattle.std.proofs.lemmas.Bool.{cases_lt}
use Rattle.std.proofs.lemmas.Int.{ints}
use Rattle.std.proofs.lemmas.List.{get_or_past, length-take-le, take-append-drop}
use Rattle.span_set.specs.declared.set.Span.{Span}
use Rattle.colour_machine.specs.Rules.{Rules}
use Rattle.reach.specs.Runs.{State, Step, Steps, Run}
use Rattle.reach.specs.Past.{Holds}
use Rattle.reach.specs.Ahead.{NotLater, Admits}
use Rattle.reach.specs.Single.{sets_of, IsSingle}
use Rattle.reach.specs.declared.past.Single.{Single}
use Rattle.reach.proofs.Common.{not_later}
use Rattle.reach.proofs.Alone.{holds_single}
use Rattle.channel_path.specs.declared.moves.Move.{Move}
use Rattle.channel_path.specs.declared.moves.Move.TheVariants.{Letter, Gap}
use Rattle.channel_path.specs.Walks.{limit_before, limit_after, InOrder, Taken, Walk, AfterMoves, BeforeMoves, GoesThrough}
use Rattle.channel_path.specs.Places.{EntersBefore, limit_of}
use Rattle.channel_path.specs.Near.{LetsThrough, LeadsTo}
use Rattle.channel_path.proofs.Moving.{walk_join, walk_early}
use Rattle.channel_path.proofs.Standing.{enters_front}

-- the first state has the colour of the second, and its entry is no later
abbrev pub IsOlder : State → State → Type 0
IsOlder r s = (r.colour ≡ s.colour) × (r.entry ≤ℤ s.entry)

step_older : (m : Rules) (t : ℤ) (r s u : State) (l : ℕ) → IsOlder r s → Step m t s l u → (v : State) × Step m t r l v × IsOlder v u
step_older m t r s u l (same, le) ((few, lt, goes), k) =
    let here : r.colour < m.colours = rw same few in
    elim k [
      | inl stay ↦
          let next : m.next r.colour l ≡ Some r.colour = rw same (subst (λ (x : State). m.next s.colour l ≡ Some x.colour) stay goes) in
          (r, ((here, lt, next), inl refl), subst (λ (x : State). IsOlder r x) (sym stay) (same, le))
      | inr (ne, at, old) ↦
          let next : m.next r.colour l ≡ Some u.colour = rw same goes in
          (u, ((here, lt, next), inr ((λ e. ne (e ∙ same)), at, rw same (omega (arith, ints)))), (refl, omega (arith, ints)))
    ]

steps_older : (m : Rules) (t : ℤ) (ls : List ℕ) (r s u : State) → IsOlder r s → Steps m t s ls u → (v : State) × Steps m t r ls v × IsOlder v u
steps_older m t [] r s u a e = (r, refl, subst (λ (x : State). IsOlder r x) (sym e) a)
steps_older m t (l ∷ ls) r s u a (z, first, rest) =
    let (y, one, b) = step_older m t r s z l a first in
    let (v, more, c) = steps_older m t ls y z u b rest in
    (v, (y, one, more), c)

run_older : (m : Rules) (t : ℤ) (lists : List (List ℕ)) (r s u : State) → IsOlder r s → Run m t s lists u → (v : State) × Run m t r lists v × IsOlder v u
run_older m t [] r s u a e = (r, refl, subst (λ (x : State). IsOlder r x) (sym e) a)
run_older m t (ls ∷ lists) r s u a (z, first, rest) =
    let (y, one, b) = steps_older m t ls r s z a first in
    let (v, more, c) = run_older m (t +ℤ pos 1) lists y z u b rest in
    (v, (y, one, more), c)

taken_older : (m : Rules) (x : Move) (r s u : State) → IsOlder r s → Taken m x s u → (v : State) × Taken m x r v × IsOlder v u
taken_older m (Letter at l w) r s u a k = step_older m (pos at) r s u l a k
taken_older m (Gap f t) r s u a (lists, len, run) = let (v, more, b) = run_older m (pos f) lists r s u a run in (v, (lists, len, more), b)

-- an older entry of the colour can do the same
walk_older : (m : Rules) (xs : List Move) (r s u : State) → IsOlder r s → Walk m xs s u → (v : State) × Walk m xs r v × IsOlder v u
walk_older m [] r s u a e = (r, refl, subst (λ (x : State). IsOlder r x) (sym e) a)
walk_older m (x ∷ xs) r s u a (z, first, rest) =
    let (y, one, b) = taken_older m x r s z a first in
    let (v, more, c) = walk_older m xs y z u b rest in
    (v, (y, one, more), c)

admits_older : (latest : List (Option ℤ)) (r s : State) → IsOlder r s → Admits latest s → Admits latest r
admits_older latest r s (same, le) a = rw same (not_later (get_or latest s.colour None) r.entry s.entry le a)

-- an older entry goes on where the other does
before_older : (m : Rules) (after : List (Option ℤ)) (xs : List Move) (r s : State) → IsOlder r s → BeforeMoves m after xs s → BeforeMoves m after xs r
before_older m after xs r s a (u, walk, admits) = let (v, w, b) = walk_older m xs r s u a walk in (v, w, admits_older after v u b admits)

-- what leads to a colour of the machine's has one
steps_colour : (m : Rules) (t : ℤ) (ls : List ℕ) (s u : State) → Steps m t s ls u → u.colour < m.colours → s.colour < m.colours
steps_colour m t [] s u e lt = rw (← e) lt
steps_colour m t (l ∷ ls) s u (z, ((few, _, _), _), rest) lt = few

run_colour : (m : Rules) (t : ℤ) (lists : List (List ℕ)) (s u : State) → Run m t s lists u → u.colour < m.colours → s.colour < m.colours
run_colour m t [] s u e lt = rw (← e) lt
run_colour m t (ls ∷ lists) s u (z, first, rest) lt = steps_colour m t ls s z first (run_colour m (t +ℤ pos 1) lists z u rest lt)

taken_colour : (m : Rules) (x : Move) (s u : State) → Taken m x s u → u.colour < m.colours → s.colour < m.colours
taken_colour m (Letter at l w) s u ((few, _, _), _) lt = few
taken_colour m (Gap f t) s u (lists, len, run) lt = run_colour m (pos f) lists s u run lt

walk_colour : (m : Rules) (xs : List Move) (s u : State) → Walk m xs s u → u.colour < m.colours → s.colour < m.colours
walk_colour m [] s u e lt = rw (← e) lt
walk_colour m (x ∷ xs) s u (z, first, rest) lt = taken_colour m x s z first (walk_colour m xs z u rest lt)

-- an admitted state has one of the colours
admits_colour : (latest : List (Option ℤ)) (s : State) → Admits latest s → s.colour < length latest
admits_colour latest s a = elim (cases_lt s.colour (length latest)) [
  | inl lt ↦ lt
  | inr ge ↦ absurd (subst (λ (o : Option ℤ). NotLater o s.entry) (get_or_past latest s.colour None ge) a)
]

-- the last move has the last limit
limit_last : (low : ℕ) (xs : List Move) (k : ℕ) (d : Move) → k + 1 ≡ length xs → limit_of low xs ≡ limit_after (get_or xs k d)
limit_last low [] k d e = absurd (omega arith)
limit_last low (x ∷ []) zero d e = refl
limit_last low (x ∷ []) (suc k) d e = absurd (omega arith)
limit_last low (x ∷ (y ∷ ys)) zero d e = absurd (omega arith)
limit_last low (x ∷ (y ∷ ys)) (suc k) d e = limit_last (limit_after x) (y ∷ ys) k d (omega arith)

-- what enters early enough for the moves is before the last limit after them
ends_early : (m : Rules) (low : ℕ) (xs : List Move) (k : ℕ) (d : Move) (s v : State) → k + 1 ≡ length xs → InOrder m low xs → EntersBefore xs s → Walk m xs s v → v.entry <ℤ pos (limit_after (get_or xs k d))
ends_early m low [] k d s v one o e w = absurd (omega arith)
ends_early m low (x ∷ xs) k d s v one (_, fits, rest) e w =
    let last : limit_of (limit_before x) (x ∷ xs) ≡ limit_after (get_or (x ∷ xs) k d) = limit_last (limit_before x) (x ∷ xs) k d one in
    subst (λ (n : ℕ). v.entry <ℤ pos n) last (walk_early m (limit_before x) (x ∷ xs) s v (omega arith, fits, rest) w e)

-- what the moves make of everything that is entered before their last limit
pub lets_through : (m : Rules) (all ahead : List (Option ℤ)) (xs : List Move) (k : ℕ) (d : Move) → k + 1 ≡ length xs → InOrder m 0 xs → ((s : State) → Admits all s ↔ ((s.colour < m.colours) × (s.entry <ℤ pos (limit_after (get_or xs k d))))) → ((s : State) → Admits ahead s ↔ (EntersBefore xs s × BeforeMoves m all xs s)) → LetsThrough m xs ahead
lets_through m all ahead xs k d one order ends walk s v enters w lt = (walk s).1 (enters, (v, w, (ends v).1 (lt, ends_early m 0 xs k d s v one order enters w)))

-- where a run goes through, the rest leads from the one state to one that is admitted
one_goes : (m : Rules) (before : List (List Span)) (after : List (Option ℤ)) (xs ys : List Move) (one : Single) (r : State) → IsSingle one → ((u : State) → Holds (sets_of one) u ↔ AfterMoves m before xs u) → GoesThrough m before after (xs ++ ys) → r.colour ≡ one.colour → r.entry ≤ℤ one.entry → BeforeMoves m after ys r
one_goes m before after xs ys one r is inv (u, (z, hz, w), admits) same le =
    let (v, first, rest) = (walk_join m xs ys z u).0 w in
    let (colour, entry) = (holds_single one is v).0 ((inv v).1 (z, hz, first)) in
    before_older m after ys r v (same ∙ sym colour, omega (arith, ints)) (u, rest, admits)

-- a first move of more is the first of all
enters_back : (xs ys : List Move) (s : State) → 0 < length xs → EntersBefore xs s → EntersBefore (xs ++ ys) s
enters_back [] ys s some e = absurd (omega arith)
enters_back (x ∷ xs) ys s some e = e

-- the first moves tell, whatever is admitted after the others
near_tells : (m : Rules) (before : List (List Span)) (after ahead : List (Option ℤ)) (xs ys : List Move) (one : Single) → 0 < length xs → IsSingle one → ((u : State) → Holds (sets_of one) u ↔ AfterMoves m before xs u) → LetsThrough m xs ahead → LeadsTo m xs one ahead → length after ≡ m.colours → GoesThrough m before after (xs ++ ys) → (s : State) → Admits ahead s ↔ (EntersBefore (xs ++ ys) s × BeforeMoves m after (xs ++ ys) s)
near_tells m before after ahead xs ys one some is inv most least size through s = (
  λ a.
      let (enters, (v, first, same, le)) = least s a in
      let (u, rest, admits) = one_goes m before after xs ys one v is inv through same le in
      (enters_back xs ys s some enters, (u, (walk_join m xs ys s u).1 (v, first, rest), admits)),
  λ (enters, (u, walk, admits)).
      let (v, first, rest) = (walk_join m xs ys s u).0 walk in
      most s v (enters_front xs ys s enters) first (walk_colour m ys v u rest (subst (λ (n : ℕ). u.colour < n) size (admits_colour after u admits))),
)

-- so where they give an answer
pub near_answers : (m : Rules) (before : List (List Span)) (xs : List Move) (n : ℕ) (one : Single) (x : Option (List (Option ℤ))) → 0 < n → n ≤ length xs → IsSingle one → ((u : State) → Holds (sets_of one) u ↔ AfterMoves m before (take n xs) u) → IfSome x (λ a. LetsThrough m (take n xs) a) → IfSome x (λ a. LeadsTo m (take n xs) one a) → IfSome x (λ a. (after : List (Option ℤ)) → length after ≡ m.colours → GoesThrough m before after xs → (s : State) → Admits a s ↔ (EntersBefore xs s × BeforeMoves m after xs s))
near_answers m before xs n one None some le is inv most least = tt
near_answers m before xs n one (Some a) some le is inv most least =
    let size = length-take-le n xs le in
    λ after colours. subst (λ (zs : List Move). GoesThrough m before after zs → (s : State) → Admits a s ↔ (EntersBefore zs s × BeforeMoves m after zs s)) (take-append-drop n xs) (near_tells m before after a (take n xs) (drop n xs) one (omega arith) is inv most least colours)

-- the one state that is left, if one alone is
pub one_left : (m : Rules) (before past : List (List Span)) (xs : List Move) (x : Option Single) → IfSome x (λ o. past ≡ sets_of o) → ((u : State) → Holds past u ↔ AfterMoves m before xs u) → IfSome x (λ o. (u : State) → Holds (sets_of o) u ↔ AfterMoves m before xs u)
one_left m before past xs None is inv = tt
one_left m before past xs (Some o) is inv = rw is at inv

-- a walk that stops at no move
pub never_stops : (r : Option ℕ) (P : Type 0) (Q : ℕ → Type 0) → false ≡ is_some r → MatchOption r P Q → P
never_stops None P Q e h = h
never_stops (Some j) P Q e h = let bad : false ≡ true = e in absurd cc
