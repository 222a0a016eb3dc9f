use Rattle.std.proofs.Common.{◌≡◌, ◌∙◌, ◌+◌, ◌++◌, ◌∷◌, [], true, sym, get_or, take}
use Rattle.std.specs.Prelude.{filter}
use Rattle.rule_audit.specs.Rules.{rules_for}
use Rattle.filling_pair.specs.Asks.{IsPair}
use Rattle.session.specs.Pairs.{ArePairsOf, is_open_at}
use Rattle.session.proofs.GrowLaws.{grow_on}
use Rattle.session.proofs.PairLaws.{open_more, pairs_more, says_undecided}
use Rattle.session.proofs.WindowLaws.{no_line}
use Rattle.session.proofs.pairs.pairs_of.Goals as goal

pub find_pair-requires-clause-line : goal.find_pair-requires-clause-line
find_pair-requires-clause-line g c = rw c.requires.rules (c.requires.lines.1 c.loop-line.line-index no_line c.loop-line-test.true).of_rule

pub find_pair-requires-clause-undecided : goal.find_pair-requires-clause-undecided
find_pair-requires-clause-undecided g c =
    let line = get_or c.args.lines.now c.loop-line.line-index no_line in
    let said : is_open_at c.args.asked.rule c.args.asked.at line ≡ true = sym c.is_open_at.ensures ∙ c.if-not-is_open_at.false in
    rw c.requires.rules ((c.requires.lines.1 c.loop-line.line-index no_line c.loop-line-test.true).undecided (says_undecided c.args.asked.rule c.args.asked.at line said))

pub returns-in_err-pair-clause-grow : goal.returns-in_err-pair-clause-grow
returns-in_err-pair-clause-grow g c = grow_on _ _ _ c.loop-line.invariant.grow c.in_err-pair.ensures.grow

pub returns-in_err-push-clause-grow : goal.returns-in_err-push-clause-grow
returns-in_err-push-clause-grow g c = grow_on _ _ _ c.loop-line.invariant.grow c.in_ok-pair.ensures.grow

pub loop-line-preserved : goal.loop-line-preserved
loop-line-preserved g c =
    let cfg = c.args.config.now in
    let s = c.args.store.now in
    let lines = c.args.lines.now in
    let i = c.loop-line.line-index in
    let line = get_or lines i no_line in
    let p = is_open_at c.args.asked.rule c.args.asked.at in
    let said : p line ≡ true = sym c.is_open_at.ensures ∙ c.if-not-is_open_at.false in
    let more : filter p (take (i + 1) lines) ≡ filter p (take i lines) ++ line ∷ [] = open_more c.args.asked.rule c.args.asked.at lines i no_line c.loop-line-test.true said in
    let made : IsPair cfg.specs s (rules_for cfg) line c.in_ok-pair.pair = rw c.requires.rules at c.in_ok-pair.ensures.pair in
    let pairs : ArePairsOf cfg s (filter p (take i lines) ++ line ∷ []) (c.loop-line.pairs ++ c.in_ok-pair.pair ∷ []) = pairs_more cfg s (filter p (take i lines)) c.loop-line.pairs line c.in_ok-pair.pair c.loop-line.invariant.pairs made in
    record {
      pairs = rw (more, c.in_ok-push.ensures.ok) pairs;
      grow = grow_on _ _ _ c.loop-line.invariant.grow c.in_ok-pair.ensures.grow;
    }
