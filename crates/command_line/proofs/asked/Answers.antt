use Rattle.std.proofs.Common.{◌∙◌, ap, codes}
use Rattle.clap.specs.Words.{found_of, rows_of}
use Rattle.command_line.specs.Words.{asked_given}
use Rattle.command_line.proofs.WordsLaws.{given, given_same}
use Rattle.command_line.proofs.asked.Goals as goal

pub returns-clause-value : goal.returns-clause-value
returns-clause-value c =
    let f = found_of c.args.matches.now in
    c.choose.ensures.value ∙ ap asked_given (given_same _ _ _ _ _ _ _ _ _ (rows_of f)
    (given c.get_str.result f (codes "config") c.get_str.ensures)
    (given c.get_str-2.result f (codes "script") c.get_str-2.ensures)
    (given c.get_str-3.result f (codes "rule") c.get_str-3.ensures)
    (given c.get_str-4.result f (codes "at") c.get_str-4.ensures)
    (given c.get_str-5.result f (codes "count") c.get_str-5.ensures)
    (given c.get_str-6.result f (codes "signal") c.get_str-6.ensures)
    (given c.get_str-7.result f (codes "hour") c.get_str-7.ensures)
    (given c.get_str-8.result f (codes "pack") c.get_str-8.ensures)
    (given c.get_str-9.result f (codes "demo") c.get_str-9.ensures))
