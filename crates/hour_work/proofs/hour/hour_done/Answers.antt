use Rattle.std.proofs.Common.{◌≡◌, ◌∙◌, ◌*◌, List, arith, length, refl, subst, sym}
use Rattle.std.specs.Prelude.{is_some}
use Rattle.std.proofs.lemmas.Option.{IfSome_then}
use Rattle.gap_map.specs.Stretches.{known_in}
use Rattle.rule_audit.specs.Rules.{rules_for}
use Rattle.detector_state.specs.declared.part.Part.{Part}
use Rattle.hour_work.specs.Numbers.{count_from}
use Rattle.hour_work.specs.Reports.{AreToldAt}
use Rattle.hour_work.proofs.CountLaws.{count_le, hour_counted, stretches_order}
use Rattle.hour_work.proofs.PointLaws.{byte_fits, held_count, held_one, known_count, lines_fit, lines_numbered}
use Rattle.hour_work.proofs.hour.hour_done.Goals as goal

pub told_over-requires-clause-courses : goal.told_over-requires-clause-courses
told_over-requires-clause-courses c =
    let opened = c.stretches-parts.ensures.opened in
    rw c.as_ref.ensures.value (IfSome_then c.in_ok-courses.courses c.in_ok-courses.ensures (λ x is. is c.args.place.now.stretches opened.cut))

pub measures_over-requires-clause-told : goal.measures_over-requires-clause-told
measures_over-requires-clause-told c = subst (λ (v : List (List Part)). AreToldAt c.args.config.now c.args.place.now c.args.between.now.before.now v) (sym c.deref.ensures.value) c.in_ok-told.ensures

pub counts_of-requires-clause-numbers : goal.counts_of-requires-clause-numbers
counts_of-requires-clause-numbers c =
    let (s, is) = c.requires.agrees in
    rw (c.deref-2.ensures.value, c.requires.rules) (lines_numbered c.args.config.now s c.args.place.now.hour c.in_ok-lines.lines.items (c.in_ok-lines.ensures s (rw c.as_ref-2.ensures.value (c.in_ok-view.ensures s is))))

pub counts_of-requires-clause-few : goal.counts_of-requires-clause-few
counts_of-requires-clause-few c =
    let (s, is) = c.requires.agrees in
    let cfg = c.args.config.now in
    let o = c.args.place.now in
    rw (c.deref-2.ensures.value, c.requires.rules) (lines_fit cfg s o.hour (length (rules_for cfg)) o.rows c.in_ok-lines.lines.items is.has_hour.held c.in_ok-measured.ensures.opened.are_rows.few (c.in_ok-lines.ensures s (rw c.as_ref-2.ensures.value (c.in_ok-view.ensures s is))))

pub known_in-requires-clause-order : goal.known_in-requires-clause-order
known_in-requires-clause-order c = rw c.stretches-parts.ensures.value (stretches_order _ _ _ _ c.stretches-parts.ensures.opened.cut.stretches)

pub known_in-requires-clause-few : goal.known_in-requires-clause-few
known_in-requires-clause-few c =
    let o = c.args.place.now in
    let p = known_in (is_some o.rows) o.blanks in
    let few = count_le p (36000 * o.hour) 36000 in
    rw (c.stretches-parts.ensures.value, hour_counted p o.hour _ c.stretches-parts.ensures.opened.cut) (omega arith)

pub returns-clause-value : goal.returns-clause-value
returns-clause-value c = λ s is.
    let o = c.args.place.now in
    let seen = c.in_ok-view.ensures s is in
    record {
      held_hours = c.from.ensures ∙ rw c.is_held.ensures (held_one s o.hour o.rows is.has_hour.held);
      held_rows = rw c.rows.ensures.value (held_count s o.hour o.rows is.has_hour.held);
      known_tenths = c.known_in.ensures ∙ ((rw c.stretches-parts.ensures.value (hour_counted _ _ _ c.stretches-parts.ensures.opened.cut)) ∙ known_count s o.hour o.rows o.blanks (is_some o.rows) is.has_hour refl);
      lines = c.in_ok-lines.lines.items;
      are_lines = c.in_ok-lines.ensures s (rw c.as_ref-2.ensures.value seen);
      rules = rw (c.deref-2.ensures.value, c.requires.rules) at c.in_ok-counts_of.ensures;
      measures = c.in_ok-measured.ensures.value s is.history is.has_hour is.is_before (rw c.as_ref-3.ensures.value seen);
    }

pub returns-clause-small : goal.returns-clause-small
returns-clause-small c =
    let (s, is) = c.requires.agrees in
    let cfg = c.args.config.now in
    let o = c.args.place.now in
    let few = c.stretches-parts.ensures.opened.are_rows.few in
    let p = known_in (is_some o.rows) o.blanks in
    let known = count_le p (36000 * o.hour) 36000 in
    let count : c.known_in.result ≡ count_from p (36000 * o.hour) 36000 = c.known_in.ensures ∙ (rw c.stretches-parts.ensures.value (hour_counted p o.hour _ c.stretches-parts.ensures.opened.cut)) in
    record {
      held_hours = rw (c.from.ensures, c.is_held.ensures) (byte_fits (is_some o.rows));
      held_rows = rw c.rows.ensures.value (omega arith);
      known_tenths = omega arith;
      rules = rw (c.in_ok-counts_of.ensures, c.deref-2.ensures.value, c.requires.rules) (lines_fit cfg s o.hour (length (rules_for cfg)) o.rows c.in_ok-lines.lines.items is.has_hour.held few (c.in_ok-lines.ensures s (rw c.as_ref-2.ensures.value (c.in_ok-view.ensures s is))));
    }
