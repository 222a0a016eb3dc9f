use Rattle.std.proofs.Common.{◌∙◌, sym}
use Rattle.signal_log.specs.Log.{log_of}
use Rattle.hour_work.specs.Measures.{cycles_in}
use Rattle.hour_work.proofs.OneLaws.{end_state}
use Rattle.hour_work.proofs.GreenLaws.{cycle_shows, place_within}
use Rattle.hour_work.proofs.laws.cycles_show_green.Goals as goal
use Rattle.std.proofs.Common.{get_or}

pub returns-clause-green : goal.returns-clause-green
returns-clause-green f c s hour n i t d specs store has lt some at low high =
    let told = cycle_shows c s hour n i t d specs store lt some at low high in
    let (h, agrees) = has in
    let (w, ends) = end_state (log_of c.specs s) h t i agrees (place_within c (get_or (cycles_in c s hour) n d).phase i at) in
    (λ shows v may. told v may ∙ shows, λ all. sym (told w (h, agrees, ends)) ∙ all w (h, agrees, ends))

pub returns-clause-not_green : goal.returns-clause-not_green
returns-clause-not_green f c s hour n i t d specs store has lt some at low high =
    let told = cycle_shows c s hour n i t d specs store lt some at low high in
    let (h, agrees) = has in
    let (w, ends) = end_state (log_of c.specs s) h t i agrees (place_within c (get_or (cycles_in c s hour) n d).phase i at) in
    (λ shows v may. told v may ∙ shows, λ none. sym (told w (h, agrees, ends)) ∙ none w (h, agrees, ends))
