use Rattle.std.proofs.Common.{◌≡◌, ◌≤◌, ◌<◌, arith, length, Some, subst, sym, refl}
use Rattle.std.specs.List.{sum_by}
use Rattle.hour_store.specs.Store.{Store, count_in}
use Rattle.hour_store.proofs.StoreLaws.{put_is_store, sum_changed, few_rows}
use Rattle.hour_store.proofs.store.HourStore.put.Goals as goal

pub overflow_add-self : goal.overflow_add-self
overflow_add-self g c =
    let p = c.self.invariant.0 in
    let few = few_rows c.self.inside.hours.items p.few p.in_place in
    let e : c.self.inside.count ≡ sum_by count_in c.self.inside.hours.items = c.self.invariant.1 in
    let m : length c.args.rows.rows ≤ 400000 = c.hour-hour.ensures.rows.few in
    rw (e, c.len.ensures) (omega arith)

pub invariant_of-self : goal.invariant_of-self
invariant_of-self g c =
    let lt : c.args.rows.hour < length c.self.inside.hours.items = subst (λ (s : Store). c.args.rows.hour < length s.hours) (sym c.self.view_is) c.requires in
    let here = rw c.hour-hour.ensures.value at c.index.ensures in
    rw (c.replace.ensures.after, c.hour-hour.ensures.value, c.self.invariant.1, c.len.ensures, c.count_in.ensures) (
      put_is_store (record { hours = c.self.inside.hours.items; blanks = c.self.inside.blanks }) c.args.rows.hour c.args.rows c.self.invariant.0 lt (record { hour_is = refl; rows_are = c.hour-hour.ensures.rows }),
      sum_changed c.self.inside.hours.items c.args.rows.hour c.index.result.now (Some c.args.rows) lt here,
    )
