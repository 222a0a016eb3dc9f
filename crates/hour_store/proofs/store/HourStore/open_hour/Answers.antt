use Rattle.std.proofs.Common.{◌≡◌, ◌<◌, length, subst, sym, ℕ}
use Rattle.sig_base.specs.Reads.{raised}
use Rattle.hour_store.specs.Store.{Store}
use Rattle.hour_store.proofs.StoreLaws.{of_hour}
use Rattle.hour_store.proofs.store.HourStore.open_hour.Goals as goal

pub returns-in-Some-clause-raised : goal.returns-in-Some-clause-raised
returns-in-Some-clause-raised g c =
    let lt : c.args.hour < length c.self.inside.hours.items = subst (λ (s : Store). c.args.hour < length s.hours) (sym c.self.view_is) c.requires in
    subst (λ (h : ℕ). c.show.new.reads ≡ raised c.args.reads.now h) (of_hour c.self.inside.hours.items c.args.hour c.index.result.now c.in-Some.rows c.self.invariant.0.in_place lt c.index.ensures c.in-Some.is).hour_is c.show.ensures.raised
