use Rattle.std.proofs.Common.{Some}
use Rattle.std.proofs.lemmas.Result.{IfOk-weaker}
use Rattle.arrival_measures.specs.Results.{IsSumBy}
use Rattle.arrival_measures.specs.Steps.{IsOwnAt}
use Rattle.arrival_measures.proofs.Hours.{seen_by, unseen_by}
use Rattle.arrival_measures.proofs.hour.approach_sum.Goals as goal

pub returns-in-Some-clause-judged : goal.returns-in-Some-clause-judged
returns-in-Some-clause-judged c =
    let cfg = c.args.config.now in
    let a = c.args.approach.now in
    let sources = c.args.sources.now in
    let given = c.args.given.now in
    let view = c.in-Some.view.now in
    let own : IsOwnAt cfg a c.phase_spec-spec.result = record { own = c.requires.own; is_place = c.phase_spec-spec.ensures.place } in
    rw c.in-Some.is (IfOk-weaker c.seen_sum.result _ (IsSumBy cfg (Some view) sources a given) (λ sum seen. seen_by cfg view sources a given sum (seen cfg own)) c.seen_sum.ensures.judged)

pub returns-in-None-clause-judged : goal.returns-in-None-clause-judged
returns-in-None-clause-judged c =
    let cfg = c.args.config.now in
    let own : IsOwnAt cfg c.args.approach.now c.phase_spec-spec.result = record { own = c.requires.own; is_place = c.phase_spec-spec.ensures.place } in
    rw c.in-None.is (unseen_by cfg c.args.sources.now c.args.approach.now c.args.given.now c.unseen_sum.result (c.unseen_sum.ensures.judged cfg c.phase_spec-spec.result own))
