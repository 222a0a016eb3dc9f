use Rattle.std.proofs.Common.{arith, ◌≡◌, ◌∙◌, ◌-◌, ◌<◌, length, get_or}
use Rattle.std.proofs.lemmas.List.{get_or_default}
use Rattle.rule_audit.specs.Index.{no_rule}
use Rattle.rule_audit.specs.Pass.{FitsRule}
use Rattle.rule_audit.proofs.Fitting.{rules_fit}
use Rattle.rule_audit.proofs.Tracked.{channels_are}
use Rattle.filling_pair.proofs.pair.find_pair.Goals as goal

pub pair_of-requires : goal.pair_of-requires
pair_of-requires g c =
    let settings = c.args.config.now in
    let sound = c.specs-specs.ensures.sound in
    let n = c.args.line.now.rule in
    let low = c.requires.line.some_rule in
    let high = c.requires.line.last_rule in
    let rule = get_or c.args.rules.now (n - 1) no_rule in
    let same : c.index-rules-line.result ≡ rule = c.index-rules-line.is ∙ get_or_default c.args.rules.now (n - 1) c.index-rules-line.result no_rule (omega arith) in
    let inside : n - 1 < length c.args.rules.now = omega arith in
    let fits : FitsRule settings.specs rule = rw c.requires.rules (rules_fit settings sound (n - 1) no_rule (rw c.requires.rules at inside)) in
    rw (c.specs-specs.ensures.value, same) (record {
      channels = channels_are settings sound;
      few = c.specs-specs.ensures.few;
      fits = fits;
      placed = c.requires.line.placed;
      verdict = c.requires.undecided;
    })
