use Rattle.std.proofs.Common.{◌≡◌, ◌∙◌, ◌+◌, ℕ, ap, arith}
use Rattle.hour_work.specs.Numbers.{AreBlocks, block, total_of}
use Rattle.hour_work.proofs.reported.Report.new.Goals as goal

pub total_over-requires-clause-blocks : goal.total_over-requires-clause-blocks
total_over-requires-clause-blocks c =
    let hours = c.args.hours.items in
    let size = c.in_ok-blocks.ensures.size in
    let all = c.block_count-count.ensures.all in
    let n = c.len.ensures in
    let each = rw c.deref.ensures.value at c.in_ok-blocks.ensures.each in
    let are : AreBlocks hours c.in_ok-blocks.blocks.items = record { all = omega arith; each = λ j d lt. (let z : 0 + j ≡ j = omega arith in each j d lt ∙ ap (λ (k : ℕ). total_of (block k hours)) z) } in
    (hours, c.requires.few, c.requires.small, rw c.deref-2.ensures.value are)

pub invariant_of-result : goal.invariant_of-result
invariant_of-result c =
    let hours = c.args.hours.items in
    let size = c.in_ok-blocks.ensures.size in
    let all = c.block_count-count.ensures.all in
    let n = c.len.ensures in
    let each = rw c.deref.ensures.value at c.in_ok-blocks.ensures.each in
    let are : AreBlocks hours c.in_ok-blocks.blocks.items = record { all = omega arith; each = λ j d lt. (let z : 0 + j ≡ j = omega arith in each j d lt ∙ ap (λ (k : ℕ). total_of (block k hours)) z) } in
    record {
      sums = c.in_ok-total.ensures hours c.requires.few c.requires.small (rw c.deref-2.ensures.value are);
      blocks = are;
      few = c.requires.few;
      small = c.requires.small;
    }
