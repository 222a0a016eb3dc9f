use Rattle.std.proofs.Common.{arith, length-append, subst, sym}
use Rattle.session.specs.Ranges.{NoneBlanked}
use Rattle.session.proofs.WaitLaws.{as_were_more}
use Rattle.session.proofs.blanks.clear_hours.Goals as goal

pub loop-hour-preserved : goal.loop-hour-preserved
loop-hour-preserved c =
    let size = c.loop-hour.invariant.size in
    let Is = NoneBlanked c.args.blanks.now in
    record {
      size = rw (c.in_ok-push.ensures.items, length-append) (omega arith);
      told = as_were_more Is c.loop-hour.clear.items _ c.none_blanked.result c.loop-hour.invariant.told (λ yes. subst Is (sym size) (c.none_blanked.ensures yes)) c.in_ok-push.ensures.items;
    }
