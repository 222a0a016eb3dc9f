use Rattle.std.proofs.Common.{◌∙◌, map}
use Rattle.command_line.proofs.WordsLaws.{none_asked, is_parsed}
use Rattle.clap.specs.Words.{app_of}
use Rattle.command_line.proofs.parse.Goals as goal

pub returns-in_default : goal.returns-in_default
returns-in_default c =
    none_asked (map (λ w. w.now) c.args.words.now) (app_of c.in_ok-command.command) c.in-Err.error c.in_ok-command.ensures (λ k. c.in_default.not-OutOfMemory (c.kind.ensures ∙ k)) c.in-Err.ensures.kinds

pub returns : goal.returns
returns c = is_parsed (map (λ w. w.now) c.args.words.now) (app_of c.in_ok-command.command) c.in-Ok.matches c.in_ok-command.ensures c.in-Ok.ensures.kinds c.in-Ok.ensures.matches
