use Rattle.std.proofs.Common.{◌∷◌, []}
use Rattle.outside.proofs.PutsFacts.{front-stopped, puts-then}
use Rattle.report_text.specs.Line.{line_of}
use Rattle.report_text.specs.Pairs.{strands_text}
use Rattle.report_text.proofs.pairs.put_side.Goals as goal

pub returns-in_err-put_parts : goal.returns-in_err-put_parts
returns-in_err-put_parts g c =
    front-stopped _ _ (line_of (c.args.word.now ∷ [])) (strands_text c.args.config.now c.args.strands.now) _ c.from_residual.ensures.0 c.in_err-put_parts.ensures

pub returns : goal.returns
returns g c =
    puts-then _ _ _ (line_of (c.args.word.now ∷ [])) (strands_text c.args.config.now c.args.strands.now) c.put_strands.result c.in_ok-put_parts.ensures c.put_strands.ensures
