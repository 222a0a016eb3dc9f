use Rattle.std.proofs.Common.{◌≡◌, ◌<◌, ◌∙◌, ◌+◌, ◌-◌, arith, length, subst, sym}
use Rattle.std.specs.List.{sum_by}
use Rattle.hour_store.specs.Store.{Store, count_in}
use Rattle.hour_store.proofs.StoreLaws.{nothing, take_is_store, sum_changed}
use Rattle.hour_store.proofs.store.HourStore.take.Goals as goal

pub invariant_of-self : goal.invariant_of-self
invariant_of-self g c =
    let lt : c.args.hour < length c.self.inside.hours.items = subst (λ (s : Store). c.args.hour < length s.hours) (sym c.self.view_is) c.requires in
    let e = sum_changed c.self.inside.hours.items c.args.hour c.index.result.now nothing lt c.index.ensures in
    rw (c.replace.ensures.after, c.self.invariant.1, c.count_in.ensures) (
      take_is_store (record { hours = c.self.inside.hours.items; blanks = c.self.inside.blanks }) c.args.hour c.self.invariant.0 lt,
      let f : (sum_by count_in c.self.inside.hours.items + 0) - count_in c.index.result.now ≡ sum_by count_in c.self.inside.hours.items - count_in c.index.result.now = omega arith in sym f ∙ e,
    )
