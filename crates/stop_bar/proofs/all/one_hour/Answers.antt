use Rattle.std.proofs.Common.{◌≡◌, Some, List}
use Rattle.std.specs.Prelude.{option_copied}
use Rattle.sig_base.proofs.Common.{ok_more}
use Rattle.detector_state.specs.declared.part.Part.{Part}
use Rattle.stop_bar.specs.declared.hour.OverBar.{OverBar}
use Rattle.stop_bar.specs.Crossing.{Crossing}
use Rattle.stop_bar.specs.Bars.{IsBarHour}
use Rattle.stop_bar.proofs.Places.{held}
use Rattle.stop_bar.proofs.all.one_hour.Goals as goal

pub returns-in-Some-switched : goal.returns-in-Some-switched
returns-in-Some-switched c = ok_more
    (λ (o : OverBar). IsBarHour c.args.phase c.args.hour c.in-Some.at.now c.args.cuts.now c.in-Some-switched.told.now o.ended.items o.after)
    (λ (o : OverBar). (at : Crossing) (parts : List Part) → option_copied c.args.before ≡ Some at → option_copied c.args.switched ≡ Some parts → IsBarHour c.args.phase c.args.hour at c.args.cuts.now parts o.ended.items o.after)
    c.bar_hour.result
    (λ o h at parts e f. rw (held c.args.before c.in-Some.at at c.in-Some.is e, held c.args.switched c.in-Some-switched.told parts c.in-Some-switched.is f) at h)
    c.bar_hour.ensures
