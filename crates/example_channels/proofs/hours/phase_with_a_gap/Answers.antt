use Rattle.std.proofs.Common.{arith, rules, refl, ◌∷◌, []}
use Rattle.board.proofs.Cases.{hour_with_gap, start_early}
use Rattle.example_channels.proofs.hours.phase_with_a_gap.Goals as goal

pub new-requires-clause-log : goal.new-requires-clause-log
new-requires-clause-log g c = (
  0,
  record {
    are_specs = search rules;
    is_hour = rw (c.row.ensures, c.row-2.ensures, c.stretch.ensures, c.stretch-2.ensures, c.stretch-3.ensures) (hour_with_gap _ _ _ _ _ (omega arith) (omega arith) refl (omega arith) refl (omega arith) refl (omega arith) refl);
    early = start_early (c.free.result ∷ []) c.in_ok-before.before c.in_ok-before.ensures.shape c.in_ok-before.ensures.states;
  },
)
