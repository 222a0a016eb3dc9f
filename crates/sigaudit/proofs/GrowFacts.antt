-- Counts that never fall.
use Rattle.std.proofs.Common.{ℕ, List, ◌≡◌, ◌⊎◌, inl, inr}
use Rattle.sig_base.specs.Reads.{Grow, raised}
use Rattle.sig_base.proofs.Growing.{grow_raised_to}
pub use Rattle.sig_base.proofs.Growing.{grow_on, grow_same}

pub grow_once : (old new : List ℕ) (hour : ℕ) → (new ≡ old) ⊎ (new ≡ raised old hour) → Grow old new
grow_once old new hour (inl e) = rw e (grow_same old)
grow_once old new hour (inr e) = grow_raised_to old new hour e
