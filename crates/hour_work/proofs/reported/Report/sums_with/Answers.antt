use Rattle.std.proofs.Common.{◌≡◌, ◌∙◌, ◌/◌, ◌<◌, ℕ, List, ap, get_or, arith, length, subst}
use Rattle.hour_work.specs.Numbers.{AreBlocks, AreNewSums, FitHours, Numbers, Summed, patched, total_of}
use Rattle.hour_work.proofs.PatchLaws.{all_patched, length-patched}
use Rattle.hour_work.proofs.BlockLaws.{blocks_new, new_sums}
use Rattle.hour_work.proofs.reported.Report.sums_with.Goals as goal

pub overflow_add-from : goal.overflow_add-from
overflow_add-from c =
    let few = c.self.invariant.few in
    let size = ap length c.self.view_is in
    let within = c.requires.within in
    omega arith

pub block_count-requires : goal.block_count-requires
block_count-requires c =
    let few = c.self.invariant.few in
    let size = ap length c.self.view_is in
    let within = c.requires.within in
    omega arith

pub total_over-requires-clause-blocks : goal.total_over-requires-clause-blocks
total_over-requires-clause-blocks c =
    let hours = c.args.self.now in
    let parts = c.args.parts.now in
    let from = c.args.from in
    let new = patched hours from parts in
    let kept = c.self.inside.blocks.items in
    let blocks = c.in_ok-blocks.blocks.items in
    let own : c.as_slice-hours.result.now ≡ hours = c.as_slice-hours.ensures.value ∙ c.self.view_is in
    let few = c.self.invariant.few in
    let width = ap length c.self.view_is in
    let each = rw own at c.in_ok-blocks.ensures.each in
    let size = c.in_ok-blocks.ensures.size in
    let end = c.max-end.ensures in
    let s : Summed = record { first = from / 27; blocks = blocks; total = total_of new } in
    let sums : AreNewSums hours new s = new_sums hours parts from (from / 27) c.block_count.result blocks c.requires.within (omega arith) c.block_count.ensures.all c.block_count.ensures.few (omega arith) each in
    let n = length-patched hours from parts c.requires.within in
    let small = all_patched (FitHours 1) hours from parts (subst (λ (xs : List Numbers). (k : ℕ) (d : Numbers) → k < length xs → FitHours 1 (get_or xs k d)) c.self.view_is c.self.invariant.small) c.requires.small in
    let are = subst (λ (xs : List Numbers). AreBlocks xs kept) c.self.view_is c.self.invariant.blocks in
    (new, omega arith, small, rw (c.deref.ensures.value, c.deref-2.ensures.value) (blocks_new hours new kept s n are sums))

pub returns : goal.returns
returns c =
    let hours = c.args.self.now in
    let parts = c.args.parts.now in
    let from = c.args.from in
    let new = patched hours from parts in
    let kept = c.self.inside.blocks.items in
    let blocks = c.in_ok-blocks.blocks.items in
    let own : c.as_slice-hours.result.now ≡ hours = c.as_slice-hours.ensures.value ∙ c.self.view_is in
    let few = c.self.invariant.few in
    let width = ap length c.self.view_is in
    let each = rw own at c.in_ok-blocks.ensures.each in
    let size = c.in_ok-blocks.ensures.size in
    let end = c.max-end.ensures in
    let s : Summed = record { first = from / 27; blocks = blocks; total = total_of new } in
    let sums : AreNewSums hours new s = new_sums hours parts from (from / 27) c.block_count.result blocks c.requires.within (omega arith) c.block_count.ensures.all c.block_count.ensures.few (omega arith) each in
    let n = length-patched hours from parts c.requires.within in
    let small = all_patched (FitHours 1) hours from parts (subst (λ (xs : List Numbers). (k : ℕ) (d : Numbers) → k < length xs → FitHours 1 (get_or xs k d)) c.self.view_is c.self.invariant.small) c.requires.small in
    let are = subst (λ (xs : List Numbers). AreBlocks xs kept) c.self.view_is c.self.invariant.blocks in
    let total = c.in_ok-total.ensures new (omega arith) small (rw (c.deref.ensures.value, c.deref-2.ensures.value) (blocks_new hours new kept s n are sums)) in
    record { sums = total; within = sums.within; each = sums.each; stay = sums.stay }
