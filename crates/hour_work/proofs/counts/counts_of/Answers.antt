use Rattle.std.proofs.Common.{◌≡◌, ◌∙◌, ◌+◌, ◌-◌, ap, arith, drop, get_or, length, length-set, set, take, List, None}
use Rattle.std.proofs.lemmas.List.{take_at}
use Rattle.sig_base.specs.declared.values.Verdict.TheVariants.{Idle}
use Rattle.rule_audit.specs.declared.lines.AuditLine.{AuditLine}
use Rattle.rule_audit.specs.declared.lines.Place.TheVariants.{BeforeRow}
use Rattle.hour_work.specs.declared.counts.RuleCount.{RuleCount}
use Rattle.hour_work.specs.Counts.{counted, counts_of}
use Rattle.hour_work.proofs.TallyLaws.{counts_more, counts_none, counts_taken, length-counts_of}
use Rattle.hour_work.proofs.counts.counts_of.Goals as goal

pub loop-line-init : goal.loop-line-init
loop-line-init c = c.in_ok-counts.ensures.items_if_clones_equal (λ y e. e) ∙ counts_none c.args.rules

pub count_line-requires-clause-high : goal.count_line-requires-clause-high
count_line-requires-clause-high c =
    let size : length c.as_mut_slice.result.now ≡ c.args.rules = ap length (c.as_mut_slice.ensures.value ∙ c.loop-line.invariant) ∙ length-counts_of c.args.rules (take c.loop-line.line-index c.args.lines.now) in
    rw size (c.requires.numbers c.loop-line.line-index _ c.loop-line-test.true).1

pub count_line-requires-clause-few : goal.count_line-requires-clause-few
count_line-requires-clause-few c = rw (c.as_mut_slice.ensures.value, c.loop-line.invariant) (counts_taken c.args.rules c.args.lines.now c.loop-line.line-index c.requires.few)

pub loop-line-preserved : goal.loop-line-preserved
loop-line-preserved c =
    let ls = c.args.lines.now in
    let i = c.loop-line.line-index in
    let n = c.args.rules in
    let old = c.as_mut_slice.result.now in
    let new = c.count_line.new.counts in
    let items = c.loop-line.counts.items in
    let d : AuditLine = record { rule = 0; at = 0; place = BeforeRow 0; verdict = Idle; window = None } in
    let e : RuleCount = record { kept = 0; broken = 0; undecided = 0 } in
    let line = get_or ls i d in
    let k = line.rule - 1 in
    let number = c.requires.numbers i d c.loop-line-test.true in
    let low = number.0 in
    let high = number.1 in
    let same : old ≡ counts_of n (take i ls) = c.as_mut_slice.ensures.value ∙ c.loop-line.invariant in
    let more = counts_more n ls i k d e c.loop-line-test.true (omega arith) (omega arith) in
    let made : new ≡ set old k (counted (get_or old k e) line.verdict) = c.count_line.ensures e in
    let done : new ≡ counts_of n (take (i + 1) ls) = made ∙ (ap (λ (cs : List RuleCount). set cs k (counted (get_or cs k e) line.verdict)) same ∙ more) in
    let kept : length (set old k (counted (get_or old k e) line.verdict)) ≡ length old = length-set old k (counted (get_or old k e) line.verdict) in
    let size : length new ≡ c.loop-line.counts.len = ap length made ∙ (kept ∙ c.as_mut_slice.ensures.len) in
    take_at new (drop (length new) items) c.loop-line.counts.len size ∙ done
