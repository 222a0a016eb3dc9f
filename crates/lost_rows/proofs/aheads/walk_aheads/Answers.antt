use Rattle.std.proofs.Common.{arith, ◌≡◌, ◌↔◌, ℕ, ◌+◌, ◌-◌, ◌<◌, ◌≤◌, length, subst, drop}
use Rattle.channel_path.specs.declared.moves.Move.TheVariants.{Letter}
use Rattle.channel_path.proofs.Moving.{one_fits}
use Rattle.reach.specs.Runs.{State}
use Rattle.lost_rows.specs.Walks.{FromMove}
use Rattle.lost_rows.specs.Credits.{AdmitsLost}
use Rattle.lost_rows.proofs.Credits.{back_first, back_none, back_turn}
use Rattle.lost_rows.proofs.aheads.walk_aheads.Goals as goal

pub move_aheads-requires-clause-fits : goal.move_aheads-requires-clause-fits
move_aheads-requires-clause-fits g c = one_fits (g.M.Machine.rules c.args.machine.now) 0 _ c.args.moves.now (Letter 0 0 0) (omega arith) c.requires.order

pub loop-turn-init : goal.loop-turn-init
loop-turn-init g c = (c.requires.colours, λ p e j s le. back_none (g.M.Machine.rules c.args.machine.now) (AdmitsLost c.args.aheads.now) c.args.moves.now p c.args.to j s (omega arith))

pub loop-turn-preserved : goal.loop-turn-preserved
loop-turn-preserved g c =
    let m = g.M.Machine.rules c.args.machine.now in
    let n = length c.args.moves.now - 1 - c.loop-turn.turn in
    let lt : n < length c.args.moves.now = (let t = c.loop-turn-test.true in omega arith) in (
      c.move_aheads.ensures.colours,
      λ p e.
          let same : n ≡ p = omega arith in
          subst (λ (q : ℕ). (j : ℕ) (s : State) → j ≤ 3 → AdmitsLost c.move_aheads.new.aheads j s ↔ FromMove m (AdmitsLost c.args.aheads.now) (drop q c.args.moves.now) c.args.to j s) same (back_turn m (AdmitsLost c.loop-turn.aheads) (AdmitsLost c.still_aheads.new.aheads) (AdmitsLost c.move_aheads.new.aheads) (AdmitsLost c.args.aheads.now) 0 n _ _ c.still_begin.result c.args.moves.now (Letter 0 0 0) c.args.to lt c.requires.order c.still_at-still.ensures.from c.still_begin.ensures c.still_at-still.ensures.to (c.loop-turn.invariant.1 (n + 1) (omega arith)) c.still_aheads.ensures.states c.move_aheads.ensures.states),
    )

pub returns-clause-states : goal.returns-clause-states
returns-clause-states g c =
    let m = g.M.Machine.rules c.args.machine.now in
    let t = c.loop-turn-test.false in
    back_first m (AdmitsLost c.loop-turn.aheads) (AdmitsLost c.still_aheads-2.new.aheads) (AdmitsLost c.args.aheads.now) c.args.from _ _ c.args.moves.now c.args.to c.still_at.ensures.from c.still_at.ensures.to (c.loop-turn.invariant.1 0 (omega arith)) c.still_aheads-2.ensures.states
