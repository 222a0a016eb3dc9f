use Rattle.std.proofs.Common.{arith}
use Rattle.row_reader.proofs.NotedFacts.{knows-passed, knows-begun}
use Rattle.row_reader.proofs.noted.Noted.note_other.Goals as goal

pub returns-in_default : goal.returns-in_default
returns-in_default c = knows-passed c.args.self.now.until _ c.args.kept.now c.args.row c.requires.other c.requires.noted

pub returns-then-from-self : goal.returns-then-from-self
returns-then-from-self c = knows-passed c.args.self.now.until _ c.args.kept.now c.args.row c.requires.other c.requires.noted

pub returns : goal.returns
returns c =
    let run = c.in-Some.ensures in
    rw c.in_ok-begin.ensures.until (knows-begun c.args.self.now.until _ _ c.args.kept.now c.in-Some.run'.now c.args.row run.0 run.1 run.2
    (omega (arith, c.if-from-self.false, c.from.ensures)) c.requires.noted c.in_ok-begin.ensures.all)
