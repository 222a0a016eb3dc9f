use Rattle.std.proofs.Common.{rules, tests}
use Rattle.std.proofs.lemmas.Iterator.{items_from_collect, YieldsList-from_slice}
use Rattle.std.proofs.lemmas.Iterator.Consumers.{YieldsList-from_filter_map}
use Rattle.service_cut.specs.Parts.{open_service}
use Rattle.service_cut.proofs.hour.services_left.Goals as goal

pub returns : goal.returns
returns c =
    let all = items_from_collect _ c.collect.ensures.ran (YieldsList-from_filter_map _ open_service (YieldsList-from_slice c.args.parts.now (cc)) c.filter_map.ensures.closure (λ x r q k. search (rules, tests))) in
    rw c.in_ok-open.was at all
