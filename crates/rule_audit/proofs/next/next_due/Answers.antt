use Rattle.std.proofs.Common.{arith, sym, subst, ◌+◌, ◌≡◌, ℕ, length}
use Rattle.rule_audit.proofs.Indexing.{due_next, is_of_channel, over_here, over_keep, over_less, over_start, IsNextOver}
use Rattle.rule_audit.proofs.next.next_due.Goals as goal
use Rattle.rule_audit.proofs.next.next_due.Goals.{then-next-least, else-next-least}

pub loop-index-init : goal.loop-index-init
loop-index-init c = let h = c.args.hour.now in over_start (is_of_channel h.specs.now h.rules.now) (length h.rules.now) c.args.channels.now c.args.from c.requires.from

pub loop-index-preserved : goal.loop-index-preserved
loop-index-preserved c =
    let h = c.args.hour.now in
    let p = is_of_channel h.specs.now h.rules.now in
    let n = length h.rules.now in
    let xs = c.args.channels.now in
    let Over : ℕ → Type 0 = λ m. IsNextOver p n xs (c.loop-index.index + 1) c.args.from m in
    elim c.if-next-least.branch [
      | then-next-least w ↦ subst Over (sym w.least-is) (over_less p n xs c.args.from c.loop-index.index c.loop-index.least c.next_of-next.result w.if-next-least.true c.loop-index.invariant c.next_of-next.ensures)
      | else-next-least w ↦ subst Over (sym w.least-is) (over_keep p n xs c.args.from c.loop-index.index c.loop-index.least c.next_of-next.result w.if-next-least.false c.loop-index.invariant c.next_of-next.ensures)
    ]

pub returns-then-next-from : goal.returns-then-next-from
returns-then-next-from c = λ f t top known is.
    let h = c.args.hour.now in
    due_next h.specs.now h.rules.now h.rows.now h.own.now f t (λ j a b. c.requires.ready.own.1 j (omega arith) (known j a b)) top c.args.channels.now is c.args.from c.args.from (over_here (is_of_channel h.specs.now h.rules.now) (length h.rules.now) c.args.channels.now c.args.from (length c.args.channels.now) c.loop-index.index c.next_of-next.result c.loop-index-test.true c.if-next-from.true c.next_of-next.ensures)

pub returns : goal.returns
returns c = λ f t top known is.
    let h = c.args.hour.now in
    let low = c.loop-index.auto.index-end in
    let high = c.loop-index-test.false in
    let same : c.loop-index.index ≡ length c.args.channels.now = omega arith in
    due_next h.specs.now h.rules.now h.rows.now h.own.now f t (λ j a b. c.requires.ready.own.1 j (omega arith) (known j a b)) top c.args.channels.now is c.args.from c.loop-index.least (subst (λ (i : ℕ). IsNextOver (is_of_channel h.specs.now h.rules.now) (length h.rules.now) c.args.channels.now i c.args.from c.loop-index.least) same c.loop-index.invariant)
