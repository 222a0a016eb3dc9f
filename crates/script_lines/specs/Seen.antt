-- What the code's lines say.
use Rattle.script_lines.specs.declared.words.PlainEdit.{PlainEdit}
use Rattle.script_lines.specs.declared.words.PlainEdit.TheVariants as edits
use Rattle.script_lines.specs.declared.words.Line.{Line}
use Rattle.script_lines.specs.declared.words.Line.TheVariants as code
use Rattle.script_lines.specs.Words.{Said, skip, bad, load, replace, withdraw, blank, unblank, audit, verdicts, measures, measures_of, points, offsets}

abbrev pub seen_edit : PlainEdit → Said
seen_edit (edits.Withdraw hour) = withdraw hour
seen_edit (edits.Blank from to) = blank from to
seen_edit (edits.Unblank from to) = unblank from to

abbrev pub seen : Line → Said
seen code.Skip = skip
seen code.Bad = bad
seen (code.Load hour name) = load hour name.now
seen (code.Replace hour name) = replace hour name.now
seen (code.Edit edit) = seen_edit edit
seen code.Audit = audit
seen (code.Verdicts hour) = verdicts hour
seen code.Measures = measures
seen (code.MeasuresOf hour) = measures_of hour
seen (code.Points phase) = points phase
seen (code.Offsets name) = offsets name.now
