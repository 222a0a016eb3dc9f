use Rattle.std.proofs.Common.{◌∙◌, sym}
use Rattle.hour_store.specs.Store.{is_known}
use Rattle.signal_log.specs.Log.{log_of}
use Rattle.hour_work.specs.Rows.{earlier_rows}
use Rattle.hour_work.proofs.OneLaws.{end_state}
use Rattle.hour_work.proofs.GreenLaws.{place_within}
use Rattle.measure_laws.proofs.OpenGreen.{open_shows, told_shows}
use Rattle.measure_laws.proofs.laws.open_cycles_show_green.Goals as goal

pub returns-clause-green : goal.returns-clause-green
returns-clause-green f c s k p i t x rows specs store has le at is_open are low high =
    let same = told_shows (is_known s) p x.from t (earlier_rows s k) rows are in
    let shown = open_shows c s k p i t x specs store le at is_open low high in
    let (h, agrees) = has in
    let (w, ends) = end_state (log_of c.specs s) h t i agrees (place_within c p i at) in
    (λ shows v may. shown v may ∙ (sym same ∙ shows), λ all. same ∙ (sym (shown w (h, agrees, ends)) ∙ all w (h, agrees, ends)))

pub returns-clause-not_green : goal.returns-clause-not_green
returns-clause-not_green f c s k p i t x rows specs store has le at is_open are low high =
    let same = told_shows (is_known s) p x.from t (earlier_rows s k) rows are in
    let shown = open_shows c s k p i t x specs store le at is_open low high in
    let (h, agrees) = has in
    let (w, ends) = end_state (log_of c.specs s) h t i agrees (place_within c p i at) in
    (λ shows v may. shown v may ∙ (sym same ∙ shows), λ none. same ∙ (sym (shown w (h, agrees, ends)) ∙ none w (h, agrees, ends)))
