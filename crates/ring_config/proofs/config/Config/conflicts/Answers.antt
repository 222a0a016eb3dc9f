use Rattle.std.proofs.Common.{◌∙◌}
use Rattle.ring_config.specs.Kept.{settings_in}
use Rattle.ring_config.proofs.ConflictLaws.{conflict_comm, conflict_is}
use Rattle.ring_config.proofs.config.Config.conflicts.Goals as goal

pub returns-clause-value : goal.returns-clause-value
returns-clause-value c =
    let value = rw (c.as_slice.ensures.value, c.as_slice-2.ensures.value, c.as_slice-3.ensures.value) at c.conflict_by.ensures in
    rw (← c.self.view_is) (value ∙ conflict_is (settings_in c.self.inside) c.args.a c.args.b)

pub returns-clause-symmetric : goal.returns-clause-symmetric
returns-clause-symmetric c =
    let value = rw (c.as_slice.ensures.value, c.as_slice-2.ensures.value, c.as_slice-3.ensures.value) at c.conflict_by.ensures in
    rw (← c.self.view_is) (value ∙ conflict_comm c.self.inside.conflicts.items c.self.inside.allows.items c.self.inside.phases.items c.args.a c.args.b ∙ conflict_is (settings_in c.self.inside) c.args.b c.args.a)
