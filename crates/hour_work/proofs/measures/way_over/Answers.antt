use Rattle.std.proofs.Common.{List, subst, sym}
use Rattle.std.specs.Prelude.{option_copied}
use Rattle.std.proofs.lemmas.Option.{IfSome_then}
use Rattle.signal_log.specs.Points.{rows_or_none}
use Rattle.detector_state.specs.declared.part.Part.{Part}
use Rattle.hour_work.specs.Reports.{AreToldAt}
use Rattle.hour_work.proofs.BarLaws.{closing_next}
use Rattle.hour_work.proofs.measures.way_over.Goals as goal

pub returns-clause-way : goal.returns-clause-way
returns-clause-way c = λ s has is.
    let o = c.args.place.now in
    let cut = c.in_ok-cut.ensures.cut s has is in
    record {
      cuts = c.in_ok-cut.ensures.cuts s has is;
      closing = closing_next c.args.config.now s o.hour c.args.before.now (rows_or_none o.rows) o.stretches c.in_ok-cut.cut cut c.in_ok-closing.closing c.end_of.result c.end_of.ensures c.in_ok-closing.ensures;
      splits = c.in_ok-_sums.ensures.carry s cut;
      others = c.in_ok-_numbers.ensures.carry s has is;
      arrivals = c.in_ok-arrivals.ensures s cut;
    }

pub told_over-requires-clause-courses : goal.told_over-requires-clause-courses
told_over-requires-clause-courses c =
    let opened = c.in_ok-cut.ensures.opened in
    IfSome_then (option_copied c.args.courses) c.requires.courses (λ x is. is c.args.place.now.stretches opened.cut)

pub splits_over-requires : goal.splits_over-requires
splits_over-requires c = subst (λ (v : List (List Part)). AreToldAt c.args.config.now c.args.place.now c.args.before.now v) (sym c.deref.ensures.value) c.in_ok-told.ensures

pub returns-clause-sound : goal.returns-clause-sound
returns-clause-sound c = c.in_ok-cut.ensures.sound

pub returns-clause-opened : goal.returns-clause-opened
returns-clause-opened c = c.in_ok-cut.ensures.opened
