-- The runs up to a place in the middle of an hour.
use Rattle.std.proofs.Common.{suc, zero, ◌≡◌, refl, ap, sym, ℕ, ◌+◌, ◌<◌, ◌≤◌, Bool, List, [], ◌∷◌, arith}
use Rattle.reach.specs.Runs.{State}
use Rattle.board.specs.History.{Agreeing, Event, Track, letters}

-- where no row is given, a run may stand still
pub idle : (k : Track) (known : ℕ → Bool) (given : ℕ → List Event) (n f t : ℕ) (v : State) → f + n ≡ t → ((y : ℕ) → f ≤ y → y < t → given y ≡ []) → Agreeing k known given f t v v
idle k known given zero f t v e h = ([], omega arith, (tt, refl))
idle k known given (suc n) f t v e h =
    let (lists, len, (a, r)) = idle k known given n (f + 1) t v (omega arith) (λ y l1 l2. h y (omega arith) l2) in
    let none : [] ≡ letters k (given f) = sym (ap (λ zs. letters k zs) (h f (omega arith) (omega arith))) in
    ([] ∷ lists, omega arith, (((λ _. none), a), (v, refl, r)))
