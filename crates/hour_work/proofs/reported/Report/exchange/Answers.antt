use Rattle.std.proofs.Common.{◌≡◌, ◌∙◌, ap}
use Rattle.hour_work.specs.Numbers.{Summed}
use Rattle.hour_work.proofs.BlockLaws.{summed_with}
use Rattle.hour_work.proofs.reported.Report.exchange.Goals as goal

pub invariant_of-self : goal.invariant_of-self
invariant_of-self c =
    let hours = c.self.inside.hours.items in
    let kept = c.self.inside.blocks.items in
    let old = c.self.inside.total in
    let within = rw (← c.self.view_is) at c.requires.within in
    let sums = rw (← c.self.view_is) at c.requires.sums in
    let blocks : c.as_mut_slice.result.now ≡ c.args.sums.blocks = c.as_mut_slice.ensures.value ∙ ap (λ (s : Summed). s.blocks) c.sums.view_is in
    let first : c.sums.inside.first ≡ c.args.sums.first = ap (λ (s : Summed). s.first) c.sums.view_is in
    let total : c.sums.inside.total ≡ c.args.sums.total = ap (λ (s : Summed). s.total) c.sums.view_is in
    rw (c.put_in.ensures, c.put_in-2.ensures, blocks, first, total) (summed_with hours c.args.parts.now kept c.args.from old c.args.sums c.self.invariant within c.requires.small sums)
