use Rattle.std.proofs.Common.{rules, take}
use Rattle.row_reader.proofs.MinuteFacts.{minute-tenth}
use Rattle.row_reader.proofs.minute.Minute.tenth.Goals as goal

pub returns-in-Some : goal.returns-in-Some
returns-in-Some c =
    let self = c.args.self.now in
    let named = minute-tenth c.args.window.now (take self.len self.text) c.args.seconds.now self.day self.start c.in-Some.tenth self.begins (search rules) in
    search rules
