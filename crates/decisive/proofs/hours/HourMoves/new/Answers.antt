use Rattle.std.proofs.Common.{rules, ◌≡◌, ap, subst, sym, ◌∙◌, ◌+◌, ◌*◌, Bool, List, Option}
use Rattle.std.specs.Prelude.{is_some, IfSome}
use Rattle.sig_base.specs.declared.values.Row.{Row}
use Rattle.sig_base.specs.HourRows.{AreRowsOf}
use Rattle.gap_map.specs.declared.stretch.Stretch.{Stretch}
use Rattle.gap_map.specs.Stretches.{IsCut, known_in}
use Rattle.channel_tables.specs.declared.spec.Spec.{Spec}
use Rattle.hour_store.specs.Store.{rows_at}
use Rattle.board.specs.Channels.{AreSpecs}
use Rattle.board.specs.Courses.{AreCourses}
use Rattle.signal_log.specs.Points.{rows_or_none}
use Rattle.rule_audit.proofs.Tracked.{channels_are}
use Rattle.decisive.proofs.GrowLaws.{grow_raised_to}
use Rattle.decisive.proofs.Telling.{hour_tells, rows_of_entry, some_map, some_same}
use Rattle.decisive.proofs.hours.HourMoves.new.Goals as goal

pub returns-in_err-cut-clause-grow : goal.returns-in_err-cut-clause-grow
returns-in_err-cut-clause-grow g c = grow_raised_to _ _ c.args.hour c.open_hour-opened.ensures.raised

pub courses_of-requires-clause-specs : goal.courses_of-requires-clause-specs
courses_of-requires-clause-specs g c = subst (λ (specs : List Spec). AreSpecs specs) (sym c.specs.ensures.value) (channels_are c.args.config.now c.specs.ensures.sound)

pub returns-in_err-courses-clause-grow : goal.returns-in_err-courses-clause-grow
returns-in_err-courses-clause-grow g c = grow_raised_to _ _ c.args.hour c.open_hour-opened.ensures.raised

pub returns-clause-grow : goal.returns-clause-grow
returns-clause-grow g c = grow_raised_to _ _ c.args.hour c.open_hour-opened.ensures.raised

pub returns-clause-moves : goal.returns-clause-moves
returns-clause-moves g c =
    let s = c.args.store.now in
    let hour = c.args.hour in
    let held = c.open_hour-opened.ensures.rows in
    let rows : c.shown-rows.result.now ≡ rows_or_none (rows_at s hour) = search rules in
    let of_hour : IfSome (rows_at s hour) (AreRowsOf hour) = subst (λ (o : Option (List Row)). IfSome o (AreRowsOf hour)) held (some_map c.open_hour-opened.result (λ x. x.now) (AreRowsOf hour) c.open_hour-opened.ensures.of_hour) in
    let some : c.is_some.result ≡ is_some (rows_at s hour) = c.is_some.ensures ∙ (some_same c.open_hour-opened.result (λ x. x.now) ∙ ap (λ (o : Option (List Row)). is_some o) held) in
    let cut = subst (λ (b : Bool). IsCut (known_in b s.blanks) (36000 * hour) (36000 * hour + 36000) c.in_ok-cut.cut.items) some (rw c.blanked.ensures.value at c.in_ok-cut.ensures.cut) in
    record {
      is_store = c.blanked.ensures.store;
      within = c.requires.within;
      pasts = c.requires.before;
      tells = λ specs. hour_tells specs s hour c.shown-rows.result.now (rows_at s hour) c.in_ok-cut.cut.items c.blanked.ensures.store c.requires.within (search rules) rows (rw rows (rows_of_entry hour (rows_at s hour) of_hour)) cut;
      of_hour = rows;
      of_channels = subst (λ (zs : List Stretch). AreCourses c.args.config.now.specs c.shown-rows.result.now zs c.in_ok-courses.courses.items) c.deref.ensures.value (subst (λ (specs : List Spec). AreCourses specs c.shown-rows.result.now c.deref.result.now c.in_ok-courses.courses.items) c.specs.ensures.value c.in_ok-courses.ensures);
    }
