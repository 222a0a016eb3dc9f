use Rattle.std.proofs.Common.{◌≡◌, ◌∙◌, Some, ap, get_or, sym, subst}
use Rattle.std.specs.Prelude.{option_map, slice_get}
use Rattle.std.proofs.lemmas.Option.{get_or_from_slice_get}
use Rattle.hour_work.specs.Numbers.{Numbers}
use Rattle.hour_work.specs.Reports.{IsHourPart}
use Rattle.sigaudit.proofs.CleanFacts.{clean_hour}
use Rattle.sigaudit.proofs.audit.is_clean.Goals as goal

pub returns-in-Some : goal.returns-in-Some
returns-in-Some g c = λ yes.
    let cfg = c.args.session.now.config in
    let s = c.args.session.now.store in
    let part = c.in-Some.part.now in
    let at : slice_get c.report.result.now c.args.hour ≡ Some part = sym c.hour.ensures ∙ ap (λ o. option_map (λ p. p.now) o) c.in-Some.is in
    let is : get_or c.report.result.now c.args.hour part ≡ part = get_or_from_slice_get c.report.result.now c.args.hour part part at in
    let each : IsHourPart cfg s c.args.hour part = subst (λ (n : Numbers). IsHourPart cfg s c.args.hour n) is (c.report.ensures.report.each c.args.hour part c.requires.within) in
    clean_hour cfg s c.args.hour part each (c.are_all_kept.ensures.0 yes)
