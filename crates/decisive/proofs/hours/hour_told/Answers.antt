use Rattle.std.proofs.Common.{rules, ◌≡◌, ap, subst, ◌∙◌, ◌+◌, ◌*◌, Bool, List, Option}
use Rattle.std.specs.Prelude.{is_some, IfSome}
use Rattle.sig_base.specs.declared.values.Row.{Row}
use Rattle.sig_base.specs.HourRows.{AreRowsOf}
use Rattle.gap_map.specs.Stretches.{IsCut, known_in}
use Rattle.hour_store.specs.Store.{rows_at}
use Rattle.signal_log.specs.Points.{rows_or_none}
use Rattle.decisive.proofs.GrowLaws.{grow_raised_to}
use Rattle.decisive.proofs.Telling.{hour_tells, rows_of_entry, some_map, some_same}
use Rattle.decisive.proofs.hours.hour_told.Goals as goal

pub returns-in_err-cut-clause-grow : goal.returns-in_err-cut-clause-grow
returns-in_err-cut-clause-grow g c = grow_raised_to _ _ c.args.hour c.open_hour-rows.ensures.raised

pub returns-in_err-own-clause-grow : goal.returns-in_err-own-clause-grow
returns-in_err-own-clause-grow g c = grow_raised_to _ _ c.args.hour c.open_hour-rows.ensures.raised

pub returns-clause-grow : goal.returns-clause-grow
returns-clause-grow g c = grow_raised_to _ _ c.args.hour c.open_hour-rows.ensures.raised

pub returns-clause-tells : goal.returns-clause-tells
returns-clause-tells g c specs =
    let s = c.args.store.now in
    let hour = c.args.hour in
    let held = c.open_hour-rows.ensures.rows in
    let rows : c.in_ok-own.own.items ≡ rows_or_none (rows_at s hour) = search rules in
    let of_hour : IfSome (rows_at s hour) (AreRowsOf hour) = subst (λ (o : Option (List Row)). IfSome o (AreRowsOf hour)) held (some_map c.open_hour-rows.result (λ x. x.now) (AreRowsOf hour) c.open_hour-rows.ensures.of_hour) in
    let some : c.is_some.result ≡ is_some (rows_at s hour) = c.is_some.ensures ∙ (some_same c.open_hour-rows.result (λ x. x.now) ∙ ap (λ (o : Option (List Row)). is_some o) held) in
    let cut = subst (λ (b : Bool). IsCut (known_in b s.blanks) (36000 * hour) (36000 * hour + 36000) c.in_ok-cut.cut.items) some (rw c.blanked.ensures.value at c.in_ok-cut.ensures.cut) in
    hour_tells specs s hour c.in_ok-own.own.items (rows_at s hour) c.in_ok-cut.cut.items c.blanked.ensures.store c.requires (search rules) rows (rw rows (rows_of_entry hour (rows_at s hour) of_hour)) cut
