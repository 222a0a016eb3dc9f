use Rattle.split_measures.proofs.Failing.{one_verdict}
use Rattle.split_measures.proofs.failures.of_verdict.Goals as goal

pub returns : goal.returns
returns c = one_verdict c.args.verdict c.is_verdict.result c.is_verdict-2.result c.is_verdict-3.result c.is_verdict-4.result c.is_verdict-5.result c.is_verdict.ensures c.is_verdict-2.ensures c.is_verdict-3.ensures c.is_verdict-4.ensures c.is_verdict-5.ensures
