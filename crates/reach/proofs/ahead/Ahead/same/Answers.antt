use Rattle.std.proofs.Common.{◌≡◌, ◌↔◌}
use Rattle.std.specs.Prelude.{IsTrue}
use Rattle.reach.proofs.Later.{same_admits, then_iff}
use Rattle.reach.proofs.ahead.Ahead.same.Goals as goal

pub returns-clause-states : goal.returns-clause-states
returns-clause-states c =
    let e : IsTrue c.same_entries.result ↔ (c.args.self.now ≡ c.args.other.now) = rw (← c.self.view_is, ← c.other.view_is) c.same_entries.ensures in
    then_iff e (same_admits c.args.self.now c.args.other.now)
