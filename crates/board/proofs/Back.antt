-- Moves walked back from two ends, until both have come to the same states.
use Rattle.std.proofs.Common.{refl, sym, subst, ◌↔◌, ℕ, ◌-◌, ◌≤◌, ℤ, List, [], ◌∷◌, ◌++◌, take, drop, Option, arith}
use Rattle.std.proofs.lemmas.List.{take-append-drop}
use Rattle.colour_machine.specs.Rules.{Rules}
use Rattle.reach.specs.Runs.{State}
use Rattle.reach.specs.Ahead.{Admits}
use Rattle.channel_path.specs.declared.moves.Move.{Move}
use Rattle.channel_path.specs.Walks.{InOrder, BeforeMoves, Walk}
use Rattle.channel_path.specs.Places.{EntersBefore, limit_of}
use Rattle.channel_path.proofs.Legs.{rest_join}
use Rattle.channel_path.proofs.Moving.{ahead_over, earlier_low, enters_on, order_drop, order_take, walk_join}
use Rattle.board.specs.Hours.{AreAlike}

-- the states before the moves, entered early enough for the first of them, from which they lead to one that was admitted
abbrev pub IsBack : Rules → List (Option ℤ) → List Move → List (Option ℤ) → Type 0
IsBack m after xs now = (s : State) → Admits now s ↔ (EntersBefore xs s × BeforeMoves m after xs s)

-- moves in front of those that were walked back lead to what was found there
back_over : (m : Rules) (after now : List (Option ℤ)) (low : ℕ) (ys zs : List Move) (s : State) → InOrder m low (ys ++ zs) → IsBack m after zs now → EntersBefore (ys ++ zs) s → BeforeMoves m now ys s ↔ BeforeMoves m after (ys ++ zs) s
back_over m after now low ys zs s o inv e = ahead_over m after now ys zs s (λ v walk.
    let later = enters_on m low ys zs s v o walk e in
    ((λ h. ((inv v).0 h).1), λ b. (inv v).1 (later, b)))

-- those walked back too
back_join : (m : Rules) (after now new : List (Option ℤ)) (low : ℕ) (ys zs : List Move) → InOrder m low (ys ++ zs) → IsBack m after zs now → IsBack m now ys new → IsBack m after (ys ++ zs) new
back_join m after now new low [] zs o inv step s = (
  λ a. let (_, (u, e, h)) = (step s).0 a in (inv s).0 (rw e at h),
  λ b. (step s).1 (tt, (s, refl, (inv s).1 b)),
)
back_join m after now new low (y ∷ ys) zs o inv step s = (
  λ a. let (e, b) = (step s).0 a in (e, (back_over m after now low (y ∷ ys) zs s o inv e).0 b),
  λ (e, b). (step s).1 (e, (back_over m after now low (y ∷ ys) zs s o inv e).1 b),
)

-- walked back from one place of the moves to another
pub back_slice : (m : Rules) (after now new : List (Option ℤ)) (xs : List Move) (j b : ℕ) → InOrder m 0 xs → j ≤ b → IsBack m after (drop b xs) now → IsBack m now (take (b - j) (drop j xs)) new → IsBack m after (drop j xs) new
back_slice m after now new xs j b o le inv step =
    let low = limit_of 0 (take j xs) in
    let rest = rest_join xs j b le in
    let order = subst (λ (zs : List Move). InOrder m low zs) rest (order_drop m 0 j xs o) in
    subst (λ (zs : List Move). IsBack m after zs new) (sym rest) (back_join m after now new low (take (b - j) (drop j xs)) (drop b xs) order inv step)

-- a slice of the moves is in order
pub slice_order : (m : Rules) (xs : List Move) (j n : ℕ) → InOrder m 0 xs → InOrder m 0 (take n (drop j xs))
slice_order m xs j n o = order_take m 0 n (drop j xs) (earlier_low m 0 (limit_of 0 (take j xs)) (drop j xs) (omega arith) (order_drop m 0 j xs o))

-- what both have come to at a place tells the same of the moves before it
met : (m : Rules) (after now : List (Option ℤ)) (xs : List Move) (p : ℕ) → InOrder m 0 xs → IsBack m after (drop p xs) now → (s : State) → EntersBefore xs s → BeforeMoves m now (take p xs) s ↔ BeforeMoves m after xs s
met m after now xs p o inv s e =
    let whole = take-append-drop p xs in
    let order = subst (λ (zs : List Move). InOrder m 0 zs) (sym whole) o in
    let enters = subst (λ (zs : List Move). EntersBefore zs s) (sym whole) e in
    subst (λ (zs : List Move). BeforeMoves m now (take p xs) s ↔ BeforeMoves m after zs s) whole (back_over m after now 0 (take p xs) (drop p xs) s order inv enters)

-- so both lead alike to where they met
pub met_alike : (m : Rules) (after was now : List (Option ℤ)) (xs : List Move) (p : ℕ) → InOrder m 0 xs → IsBack m after (drop p xs) now → IsBack m was (drop p xs) now → AreAlike m after was xs
met_alike m after was now xs p o new old s e =
    let a = met m after now xs p o new s e in
    let b = met m was now xs p o old s e in
    ((λ h. b.0 (a.1 h)), λ h. a.0 (b.1 h))

-- and moves in front of these do too
pub alike_over : (m : Rules) (a b : List (Option ℤ)) (low : ℕ) (ys zs : List Move) → InOrder m low (ys ++ zs) → AreAlike m a b zs → AreAlike m a b (ys ++ zs)
alike_over m a b low ys zs o alike s e =
    let later = λ (v : State) (w : Walk m ys s v). alike v (enters_on m low ys zs s v o w e) in (
      (λ (u, w, h). let (v, p, q) = (walk_join m ys zs s u).0 w in let (z, r, g) = (later v p).0 (u, q, h) in (z, (walk_join m ys zs s z).1 (v, p, r), g)),
      λ (u, w, h). let (v, p, q) = (walk_join m ys zs s u).0 w in let (z, r, g) = (later v p).1 (u, q, h) in (z, (walk_join m ys zs s z).1 (v, p, r), g),
    )
