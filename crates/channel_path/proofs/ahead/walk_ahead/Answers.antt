use Rattle.std.proofs.Common.{arith, refl, ◌≡◌, ◌∙◌, ◌+◌, ◌-◌, length}
use Rattle.channel_path.specs.declared.moves.Move.TheVariants.{Letter}
use Rattle.channel_path.proofs.Moving.{one_fits, ahead_at, ahead_none}
use Rattle.channel_path.proofs.ahead.walk_ahead.Goals as goal

pub move_ahead-requires-clause-fits : goal.move_ahead-requires-clause-fits
move_ahead-requires-clause-fits g c = one_fits (g.M.Machine.rules c.args.machine.now) 0 _ c.args.moves.now (Letter 0 0 0) (omega arith) c.requires.order

pub loop-turn-init : goal.loop-turn-init
loop-turn-init g c = (refl, λ j e s. ahead_none (g.M.Machine.rules c.args.machine.now) c.args.ahead.now c.args.moves.now j (omega arith) s)

pub loop-turn-preserved : goal.loop-turn-preserved
loop-turn-preserved g c =
    let m = g.M.Machine.rules c.args.machine.now in
    let i = c.loop-turn.invariant in (
      c.move_ahead.ensures.colours ∙ i.0,
      λ j e. let at : length c.args.moves.now - 1 - c.loop-turn.turn ≡ j = omega arith in
          ahead_at m c.args.ahead.now c.loop-turn.ahead c.move_ahead.new.ahead c.args.moves.now j (Letter 0 0 0) c.requires.order (omega arith) (i.1 (j + 1) (omega arith)) (rw at at c.move_ahead.ensures.before),
    )

pub returns-clause-before : goal.returns-clause-before
returns-clause-before g c = c.loop-turn.invariant.1 0 (omega arith)
