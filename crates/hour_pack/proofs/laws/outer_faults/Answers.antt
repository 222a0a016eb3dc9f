use Rattle.hour_pack.specs.declared.pack_error.PackError.TheVariants.{NotPacked, Extra}
use Rattle.hour_pack.proofs.CauseFacts.{causes-exact}
use Rattle.hour_pack.proofs.laws.outer_faults.Goals as goal

pub returns-clause-not_packed : goal.returns-clause-not_packed
returns-clause-not_packed c = λ signal window hour bytes in_range fits. causes-exact signal window hour bytes NotPacked in_range fits

pub returns-clause-extra : goal.returns-clause-extra
returns-clause-extra c = λ signal window hour bytes in_range fits. causes-exact signal window hour bytes Extra in_range fits
