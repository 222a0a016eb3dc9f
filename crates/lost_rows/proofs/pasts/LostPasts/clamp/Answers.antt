use Rattle.std.proofs.Common.{pos, ◌-ℤ◌}
use Rattle.lost_rows.specs.declared.pasts.LostPasts.{LostPasts}
use Rattle.lost_rows.proofs.Alike.{clamped_all, clamped_before, lost_clamped}
use Rattle.lost_rows.proofs.pasts.LostPasts.clamp.Goals as goal

pub returns-clause-clamped : goal.returns-clause-clamped
returns-clause-clamped c =
    let new : LostPasts = record { none = c.clamp_at.new.past; one = c.clamp_at-2.new.past; two = c.clamp_at-3.new.past; three = c.clamp_at-4.new.past } in
    clamped_all (pos c.args.point -ℤ pos 36001) c.args.self.now new c.clamp_at.ensures c.clamp_at-2.ensures c.clamp_at-3.ensures c.clamp_at-4.ensures

pub returns-clause-alike : goal.returns-clause-alike
returns-clause-alike c m all =
    let new : LostPasts = record { none = c.clamp_at.new.past; one = c.clamp_at-2.new.past; two = c.clamp_at-3.new.past; three = c.clamp_at-4.new.past } in
    lost_clamped m c.args.point c.args.self.now new all (returns-clause-clamped c)

pub returns-clause-entered : goal.returns-clause-entered
returns-clause-entered c =
    let new : LostPasts = record { none = c.clamp_at.new.past; one = c.clamp_at-2.new.past; two = c.clamp_at-3.new.past; three = c.clamp_at-4.new.past } in
    clamped_before c.args.point c.args.self.now new (returns-clause-clamped c)
