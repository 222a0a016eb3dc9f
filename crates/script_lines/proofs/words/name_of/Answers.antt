use Rattle.script_lines.proofs.PrintableLaws.{printable_utf8}
use Rattle.script_lines.proofs.words.name_of.Goals as goal

pub unreachable-requires : goal.unreachable-requires
unreachable-requires c = c.in-Err.ensures.cases.0 (printable_utf8 c.args.word.now c.requires)
