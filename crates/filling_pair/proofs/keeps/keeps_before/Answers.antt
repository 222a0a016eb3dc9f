use Rattle.std.proofs.Common.{sym, subst, ℕ, get_or}
use Rattle.board.specs.Logs.{no_row, no_spec}
use Rattle.rule_audit.specs.Judged.{KeepsInterval}
use Rattle.filling_pair.specs.Walking.{state_of}
use Rattle.filling_pair.proofs.keeps.keeps_before.Goals as goal

pub returns-else-item-spec : goal.returns-else-item-spec
returns-else-item-spec c =
    let same = c.if-item-spec.false in
    let K : ℕ → Type 0 = λ n. KeepsInterval (get_or c.args.specs.now n no_spec) (get_or c.args.rows.now c.args.row no_row) c.in-Interval.item (state_of c.args.here) in
    rw c.in-Interval.is (
      (λ b. (same, subst K (sym same) (c.keeps_interval.ensures.0 b))),
      (λ (e, k). c.keeps_interval.ensures.1 (subst K same k)),
    )
