-- Aheads that stand for those of the places.
use Rattle.std.proofs.Common.{◌≡◌, ap, subst, sym, ◌∙◌, inl, inr, ◌↔◌, ℕ, ◌+◌, ◌-◌, ◌≤◌, ◌<◌, ℤ, List, [], ◌∷◌, ◌++◌, length, take, drop, get_or, arith, Option, refl}
use Rattle.std.proofs.lemmas.Bool.{cases_eq, cases_lt}
use Rattle.std.proofs.lemmas.List.{drop_all, get_or_append_left, get_or-append-add, append_assoc, append-nil, length-append}
use Rattle.span_set.specs.declared.set.Span.{Span}
use Rattle.colour_machine.specs.Rules.{Rules}
use Rattle.reach.specs.Runs.{State}
use Rattle.reach.specs.Ahead.{Admits}
use Rattle.reach.specs.Last.{BeforeGaps}
use Rattle.reach.proofs.Later.{then_iff}
use Rattle.channel_path.specs.declared.moves.Move.{Move}
use Rattle.channel_path.specs.declared.ahead.PlaceAheads.{PlaceAheads}
use Rattle.channel_path.specs.Walks.{BeforeMoves}
use Rattle.channel_path.specs.declared.past.RunPasts.{RunPasts}
use Rattle.channel_path.specs.Places.{EntersBefore}
use Rattle.channel_path.specs.Kept.{past_of, HavePasts, HaveAheads, AreMore, IsAhead, Serves, StandsFor, AreStandIns, AddsPlaces}
use Rattle.channel_path.specs.Runs.{AreGapsOf}
use Rattle.channel_path.specs.Legs.{IsLeg}
use Rattle.channel_path.proofs.Legs.{length_slice, slice_leg, slice_end, rest_join}
use Rattle.channel_path.proofs.Holes.{gaps_drop}
use Rattle.channel_path.proofs.Keeping.{leg_run}
use Rattle.channel_path.proofs.Serving.{serve_over}
use Rattle.channel_path.proofs.Running.{runs_moves}

more_same : (old : List (List (Option ℤ))) → AreMore old old
more_same old = (omega arith, λ i lt. refl)

more_both : (a b c : List (List (Option ℤ))) → AreMore a b → AreMore b c → AreMore a c
more_both a b c ab bc = ((let x = ab.0 in let y = bc.0 in omega arith), λ i lt. bc.1 i (let x = ab.0 in omega arith) ∙ ab.1 i lt)

-- no place has got a number yet
pub adds_none : (colours : ℕ) (past : List (List Span)) (a : ℕ) (goes_on : ℕ → State → Type 0) (old : PlaceAheads) → HaveAheads colours old.aheads.items → AddsPlaces colours past a a goes_on old old
adds_none colours past a goes_on old all = record {
  fresh = [];
  added = sym (append-nil old.numbers.items);
  size = omega arith;
  more = more_same old.aheads.items;
  all = all;
  stand = λ j k lt sum. absurd (omega arith);
}

-- one place more
pub adds_more : (colours : ℕ) (past : List (List Span)) (a b : ℕ) (P Q : ℕ → State → Type 0) (old now new : PlaceAheads) → a < b → ((s : State) → P 1 s ↔ Q (a + 1) s) → AddsPlaces colours past (a + 1) b Q old now → AddsPlaces colours past 0 1 P now new → AddsPlaces colours past a b Q old new
adds_more colours past a b P Q old now new below same many one =
    let n : length many.fresh + (a + 1) ≡ b = many.size in
    let o : length one.fresh + 0 ≡ 1 = one.size in
    let all_len = length-append many.fresh one.fresh in
    record {
      fresh = many.fresh ++ one.fresh;
      added = rw (one.added, many.added) (append_assoc old.numbers.items many.fresh one.fresh);
      size = omega arith;
      more = more_both old.aheads.items now.aheads.items new.aheads.items many.more one.more;
      all = one.all;
      stand = λ j k lt sum. elim (cases_eq j (a + 1)) [
        | inl last ↦
            let at : length many.fresh + 0 ≡ k = omega arith in
            let number : get_or (many.fresh ++ one.fresh) k 0 ≡ get_or one.fresh 0 0 = rw at at (get_or-append-add many.fresh one.fresh 0 0) in
            let here = one.stand 1 0 (omega arith) (omega arith) in
            rw (number, last) (here.0, λ s held. then_iff (here.1 s held) (same s))
        | inr ne ↦
            let number : get_or (many.fresh ++ one.fresh) k 0 ≡ get_or many.fresh k 0 = get_or_append_left many.fresh one.fresh 0 k (omega arith) in
            let was = many.stand j k (omega arith) sum in
            let low = was.0 in
            let longer = one.more.0 in
            rw (number, one.more.1 (get_or many.fresh k 0) low) (omega arith, was.1)
      ];
    }

-- a place whose Ahead is the first gets its number
pub adds_first : (now all : List (Option ℤ)) (past : List (List Span)) (old new : PlaceAheads) → now ≡ all → get_or old.aheads.items 0 [] ≡ all → HaveAheads (length now) old.aheads.items → (new.aheads ≡ old.aheads) × (new.numbers.items ≡ old.numbers.items ++ 0 ∷ []) → AddsPlaces (length now) past 0 1 (λ j. Admits now) old new
adds_first now all past old new same first have (aheads, numbers) = record {
  fresh = 0 ∷ [];
  added = numbers;
  size = omega arith;
  more = rw aheads (more_same old.aheads.items);
  all = rw aheads have;
  stand = λ j k lt sum.
      let last : k ≡ 0 = omega arith in
      rw (aheads, last) (have.0, λ s held. rw (first, ← same) ((λ a. a), λ a. a));
}

-- the same with another word for what goes on
pub adds_same : (colours : ℕ) (past : List (List Span)) (a b : ℕ) (P Q : ℕ → State → Type 0) (old new : PlaceAheads) → ((j : ℕ) → a < j → j ≤ b → (s : State) → P j s ↔ Q j s) → AddsPlaces colours past a b P old new → AddsPlaces colours past a b Q old new
adds_same colours past a b P Q old new same adds = record {
  fresh = adds.fresh;
  added = adds.added;
  size = adds.size;
  more = adds.more;
  all = adds.all;
  stand = λ j k lt sum. let here = adds.stand j k lt sum in (here.0, λ s held. then_iff (here.1 s held) (same j lt (omega arith) s));
}

-- places that stood stand still
stand_kept : (m : Rules) (after : List (Option ℤ)) (xs : List Move) (pasts : RunPasts) (p : ℕ) (old new : PlaceAheads) (fresh : List ℕ) (j k : ℕ) → AreMore old.aheads.items new.aheads.items → AreStandIns m after xs pasts p old → p ≤ j → j + k ≡ length xs → k < length old.numbers.items → StandsFor m after (drop j xs) (past_of pasts j) new.aheads.items (get_or (old.numbers.items ++ fresh) k 0)
stand_kept m after xs pasts p old new fresh j k more are le sum lt =
    let numbers = old.numbers.items in
    let at : get_or (numbers ++ fresh) k 0 ≡ get_or numbers k 0 = get_or_append_left numbers fresh 0 k lt in
    let was = are j k le sum in
    let low = was.0 in
    let longer = more.0 in
    rw (at, more.1 (get_or numbers k 0) low) (omega arith, was.1, was.2)

-- the places of one leg more
pub stand_leg : (m : Rules) (after now : List (Option ℤ)) (xs : List Move) (pasts : RunPasts) (a b : ℕ) (past : List (List Span)) (old new : PlaceAheads) → HavePasts m xs pasts → a < b → b ≤ length xs → IsLeg (take (b - a) (drop a xs)) → past ≡ past_of pasts b → Serves m after xs pasts b now → length old.numbers.items + b ≡ length xs → AreStandIns m after xs pasts (b + 1) old → AddsPlaces m.colours past 0 (length (take (b - a) (drop a xs))) (λ j. BeforeMoves m now (drop j (take (b - a) (drop a xs)))) old new → AreStandIns m after xs pasts (a + 1) new
stand_leg m after now xs pasts a b past old new have lt h leg own serves size stood adds j k le sum =
    let numbers = old.numbers.items in
    let runs = pasts.runs.items in
    let n = length_slice xs a b h in
    rw adds.added (elim (cases_lt b j) [
      | inl later ↦ stand_kept m after xs pasts (b + 1) old new adds.fresh j k adds.more stood (omega arith) sum (omega arith)
      | inr within ↦
          let at : length numbers + (b - j) ≡ k = omega arith in
          let number : get_or (numbers ++ adds.fresh) k 0 ≡ get_or adds.fresh (b - j) 0 = rw at at (get_or-append-add numbers adds.fresh (b - j) 0) in
          let here = adds.stand (j - a) (b - j) (omega arith) (omega arith) in
          let are = have.0 in
          let run : get_or runs j 0 ≡ get_or runs b 0 = are.1 j (omega arith) ∙ (leg_run xs a j b (omega arith) within h (slice_leg xs a b h leg) ∙ sym (are.1 b h)) in
          let same : past ≡ past_of pasts j = own ∙ ap (λ r. get_or pasts.pasts.items r []) (sym run) in
          rw (number, ← same) (
            here.0,
            adds.all.1 (get_or adds.fresh (b - j) 0) here.0,
            λ s enters held. then_iff (rw (slice_end xs a b j (omega arith) within) at (here.1 s held)) (serve_over m after now xs pasts j b have within h serves s enters (rw same at held)),
          )
    ])

pub enters_front : (ys zs : List Move) (s : State) → EntersBefore (ys ++ zs) s → EntersBefore ys s
enters_front [] zs s e = tt
enters_front (y ∷ ys) zs s e = e

pub serve_leg : (m : Rules) (after now new : List (Option ℤ)) (xs : List Move) (pasts : RunPasts) (a b : ℕ) → HavePasts m xs pasts → a ≤ b → b ≤ length xs → Serves m after xs pasts b now → IsAhead m now (take (b - a) (drop a xs)) new → Serves m after xs pasts a new
serve_leg m after now new xs pasts a b have le h serves step = (
  step.0,
  λ s e held.
      let front = enters_front (take (b - a) (drop a xs)) (drop b xs) s (subst (λ (zs : List Move). EntersBefore zs s) (rest_join xs a b le) e) in
      then_iff (step.1 s front) (serve_over m after now xs pasts a b have le h serves s e held),
)

pub size_leg : (colours : ℕ) (past : List (List Span)) (xs : List Move) (a b : ℕ) (P : ℕ → State → Type 0) (old new : PlaceAheads) → a ≤ b → b ≤ length xs → length old.numbers.items + b ≡ length xs → AddsPlaces colours past 0 (length (take (b - a) (drop a xs))) P old new → length new.numbers.items + a ≡ length xs
size_leg colours past xs a b P old new le h size adds =
    let n = length_slice xs a b h in
    let fresh = adds.size in
    let all = length-append old.numbers.items adds.fresh in
    rw adds.added (omega arith)

pub size_one : (colours : ℕ) (past : List (List Span)) (xs : List Move) (p : ℕ) (P : ℕ → State → Type 0) (old new : PlaceAheads) → length old.numbers.items + (p + 1) ≡ length xs → AddsPlaces colours past 0 1 P old new → length new.numbers.items + p ≡ length xs
size_one colours past xs p P old new size adds =
    let fresh = adds.size in
    let all = length-append old.numbers.items adds.fresh in
    rw adds.added (omega arith)

-- one place more
pub stand_one : (m : Rules) (after now : List (Option ℤ)) (xs : List Move) (pasts : RunPasts) (p : ℕ) (past : List (List Span)) (old new : PlaceAheads) → past ≡ past_of pasts p → Serves m after xs pasts p now → length old.numbers.items + p ≡ length xs → AreStandIns m after xs pasts (p + 1) old → AddsPlaces (length now) past 0 1 (λ j. Admits now) old new → AreStandIns m after xs pasts p new
stand_one m after now xs pasts p past old new own serves size stood adds j k le sum =
    let numbers = old.numbers.items in
    rw adds.added (elim (cases_eq j p) [
      | inr ne ↦ stand_kept m after xs pasts (p + 1) old new adds.fresh j k adds.more stood (omega arith) sum (omega arith)
      | inl first ↦
          let at : length numbers + 0 ≡ k = omega arith in
          let number : get_or (numbers ++ adds.fresh) k 0 ≡ get_or adds.fresh 0 0 = rw at at (get_or-append-add numbers adds.fresh 0 0) in
          let here = adds.stand 1 0 (omega arith) (omega arith) in
          rw (number, first, ← own) (
            here.0,
            adds.all.1 (get_or adds.fresh 0 0) here.0 ∙ serves.0,
            λ s enters held. then_iff (here.1 s held) (serves.1 s enters (rw own at held)),
          )
    ])

-- before no moves
pub before_none : (m : Rules) (latest : List (Option ℤ)) (xs : List Move) (j : ℕ) → length xs ≤ j → (s : State) → Admits latest s ↔ BeforeMoves m latest (drop j xs) s
before_none m latest xs j h s = rw (drop_all j xs h) (λ a. (s, refl, a), λ (u, e, a). rw (← e) a)

-- what holes lead on is what their moves lead on
pub holes_moves : (m : Rules) (latest : List (Option ℤ)) (hs : List Span) (xs : List Move) → AreGapsOf hs xs → (j : ℕ) (s : State) → BeforeGaps m latest (drop j hs) s ↔ BeforeMoves m latest (drop j xs) s
holes_moves m latest hs xs g j s = (runs_moves m [] latest (drop j hs) (drop j xs) (gaps_drop j hs xs g)).1 s
