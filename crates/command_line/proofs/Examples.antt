-- Words that are written out.
use Rattle.std.proofs.Common.{◌≡◌, [], ◌∷◌, Some, None, codes, refl}
use Rattle.clap.proofs.OnLiterals.{clap_on_literals}
use Rattle.command_line.specs.Words.{request_of, faults, rows, asked_for, for_demo, for_pairs, for_run}

help_none : request_of (codes "sigaudit" ∷ codes "--help" ∷ []) ≡ None
unfolding clap_on_literals request_of faults rows asked_for
help_none = refl

twice_none : request_of (codes "sigaudit" ∷ codes "--config" ∷ codes "a" ∷ codes "--config" ∷ codes "b" ∷ codes "--script" ∷ codes "s" ∷ []) ≡ None
unfolding clap_on_literals request_of faults rows asked_for
twice_none = refl

both : request_of (codes "sigaudit" ∷ codes "--script=s" ∷ codes "--config" ∷ codes "c" ∷ []) ≡ Some (for_run (codes "c") (codes "s"))
unfolding clap_on_literals request_of faults rows asked_for
both = refl

a_week : request_of (codes "sigaudit" ∷ codes "--demo" ∷ codes "168" ∷ []) ≡ Some (for_demo 168)
unfolding clap_on_literals request_of faults rows asked_for
a_week = refl

longer_none : request_of (codes "sigaudit" ∷ codes "--demo=169" ∷ []) ≡ None
unfolding clap_on_literals request_of faults rows asked_for
longer_none = refl

undecided_there : request_of (codes "sigaudit" ∷ codes "--rule=12" ∷ codes "--config" ∷ codes "c" ∷ codes "--script=s" ∷ codes "--at=2024-03-04T06:02:00.0" ∷ []) ≡ Some (for_pairs (codes "c") (codes "s") 12 (codes "2024-03-04T06:02:00.0"))
unfolding clap_on_literals request_of faults rows asked_for
undecided_there = refl
