use Rattle.std.proofs.Common.{[], ◌∷◌}
use Rattle.signal_log.proofs.Lawful.{no_history}
use Rattle.strand_search.proofs.Told.{has_told}
use Rattle.strand_search.proofs.points.next_pasts.Goals as goal

pub returns-in-Err-NoState-clause-pasts : goal.returns-in-Err-NoState-clause-pasts
returns-in-Err-NoState-clause-pasts g c has =
    let s = c.args.store.now in
    let told = has_told s c.args.hour c.open_hour-rows.result c.blanked.result.now c.blanked.ensures.store c.requires.hour c.open_hour-rows.ensures.rows c.blanked.ensures.value in
    let stop = rw (c.in-Err-NoState.field-0-is, c.from_ref-specs.ensures.value) at c.in-Err-NoState.ensures.stop in
    no_history (c.args.spec.now ∷ []) s c.in-Err-NoState._row c.requires.spec c.blanked.ensures.store (stop s told c.requires.before) has
