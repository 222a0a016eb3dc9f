-- Counts that never fall.
pub use Rattle.sig_base.proofs.Growing.{grow_on, grow_raised_to, grow_same}
