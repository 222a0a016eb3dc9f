-- Aheads that serve for the states of a place's Past.
use Rattle.std.proofs.Common.{◌≡◌, sym, ◌∙◌, subst, ◌↔◌, ℕ, ◌-◌, ◌≤◌, ℤ, List, ◌++◌, length, take, drop, arith, Option}
use Rattle.std.proofs.lemmas.List.{drop_all, take_all, take-append-drop}
use Rattle.colour_machine.specs.Rules.{Rules}
use Rattle.reach.specs.Runs.{State}
use Rattle.reach.specs.Past.{Holds, IsAlone}
use Rattle.reach.specs.Ahead.{Admits}
use Rattle.channel_path.specs.declared.moves.Move.{Move}
use Rattle.channel_path.specs.declared.past.RunPasts.{RunPasts}
use Rattle.channel_path.specs.Walks.{InOrder, Walk, BeforeMoves}
use Rattle.channel_path.specs.Places.{EntersBefore, limit_of}
use Rattle.channel_path.specs.Kept.{past_of, HavePasts, Serves}
use Rattle.channel_path.proofs.Legs.{slice_join, rest_join}
use Rattle.channel_path.proofs.Moving.{ahead_over, enters_on, not_after, order_drop, order_take, walk_early, walk_join}

-- from the states of a place's Past the moves lead to those of a later place's
pub held_on : (m : Rules) (xs : List Move) (pasts : RunPasts) (j b : ℕ) (s v : State) → HavePasts m xs pasts → j ≤ b → b ≤ length xs → EntersBefore (drop j xs) s → Holds (past_of pasts j) s → Walk m (take (b - j) (drop j xs)) s v → EntersBefore (drop b xs) v × Holds (past_of pasts b) v
held_on m xs pasts j b s v (runs, (before, (low, early, order), are)) le h enters held walk =
    let ys = take (b - j) (drop j xs) in
    let rest = rest_join xs j b le in
    let from = limit_of low (take j xs) in
    let o = subst (λ (zs : List Move). InOrder m from zs) rest (order_drop m low j xs order) in
    let later = enters_on m from ys (drop b xs) s v o walk (subst (λ (zs : List Move). EntersBefore zs s) rest enters) in
    let (z, hz, w) = ((are j (omega arith)).1.1 s enters).0 held in
    let whole = (walk_join m (take j xs) ys z v).1 (s, w, walk) in
    (later, ((are b h).1.1 v later).1 (z, hz, subst (λ (zs : List Move). Walk m zs z v) (sym (slice_join xs j b le)) whole))

-- what serves at a later place says of the moves up to it
pub serve_over : (m : Rules) (after now : List (Option ℤ)) (xs : List Move) (pasts : RunPasts) (j b : ℕ) → HavePasts m xs pasts → j ≤ b → b ≤ length xs → Serves m after xs pasts b now → (s : State) → EntersBefore (drop j xs) s → Holds (past_of pasts j) s → BeforeMoves m now (take (b - j) (drop j xs)) s ↔ BeforeMoves m after (drop j xs) s
serve_over m after now xs pasts j b have le h serves s enters held =
    let ys = take (b - j) (drop j xs) in
    let step = ahead_over m after now ys (drop b xs) s (λ v walk. let (later, there) = held_on m xs pasts j b s v have le h enters held walk in serves.1 v later there) in
    subst (λ (zs : List Move). BeforeMoves m now ys s ↔ BeforeMoves m after zs s) (sym (rest_join xs j b le)) step

-- where some run goes on and a place has one state alone, the run goes through that state
pub all_serve : (m : Rules) (after all : List (Option ℤ)) (xs : List Move) (pasts : RunPasts) (j : ℕ) → HavePasts m xs pasts → ((u : State) × Holds (past_of pasts (length xs)) u × Admits after u) → j ≤ length xs → length all ≡ m.colours → ((s : State) → Holds (past_of pasts j) s → Admits all s) → IsAlone (past_of pasts j) → Serves m after xs pasts j all
all_serve m after all xs pasts j (runs, (before, (low, early, order), are)) (u, hu, au) le size admits alone =
    let ends = subst (λ (zs : List Move). EntersBefore zs u) (sym (drop_all (length xs) xs (omega arith))) tt in
    let (z, hz, w) = ((are (length xs) (omega arith)).1.1 u ends).0 hu in
    let whole : take (length xs) xs ≡ take j xs ++ drop j xs = take_all (length xs) xs (omega arith) ∙ sym (take-append-drop j xs) in
    let (v, first, rest) = (walk_join m (take j xs) (drop j xs) z u).0 (subst (λ (zs : List Move). Walk m zs z u) whole w) in
    let soon = walk_early m low (take j xs) z v (order_take m low j xs order) first (early z hz) in
    let enters = not_after m (limit_of low (take j xs)) (drop j xs) v (order_drop m low j xs order) soon in
    let held = ((are j le).1.1 v enters).1 (z, hz, first) in
    (size, λ s _ here. ((λ _. subst (λ (x : State). BeforeMoves m after (drop j xs) x) (alone v s held here) (u, rest, au)), λ _. admits s here))
