use Rattle.std.proofs.Common.{map}
use Rattle.clap.specs.Words.{found_of, rows_of}
use Rattle.command_line.proofs.WordsLaws.{some_asked}
use Rattle.command_line.proofs.parse_words.Goals as goal

pub returns-in-Some-clause-value : goal.returns-in-Some-clause-value
returns-in-Some-clause-value c =
    let e = c.in-Some.ensures.value in
    some_asked _ (rows_of (found_of c.in_ok-matches.matches)) (map (λ w. w.now) c.args.words.now) c.in_ok-matches.ensures.0 c.in_ok-matches.ensures.1 e

pub returns-clause-value : goal.returns-clause-value
returns-clause-value c = some_asked _ (rows_of (found_of c.in_ok-matches.matches)) (map (λ w. w.now) c.args.words.now) c.in_ok-matches.ensures.0 c.in_ok-matches.ensures.1 c.in-None.ensures.value
