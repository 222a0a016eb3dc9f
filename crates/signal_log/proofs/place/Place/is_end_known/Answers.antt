use Rattle.std.proofs.Common.{◌≡◌, ◌∙◌, ap, ◌+◌, ◌-◌, ◌*◌, Some, arith, length, sym}
use Rattle.std.specs.Prelude.{is_some, option_copied, slice_get}
use Rattle.std.proofs.lemmas.Option.{slice_get_within}
use Rattle.gap_map.specs.Stretches.{known_in}
use Rattle.signal_log.proofs.Calls.{end_known}
use Rattle.signal_log.proofs.place.Place.is_end_known.Goals as goal

pub returns-in-Some : goal.returns-in-Some
returns-in-Some c =
    let p = c.self.inside in
    let ss = p.stretches.items in
    let n = length ss - 1 in
    let last : slice_get ss n ≡ Some c.in-Some.last.now = sym (rw c.deref.ensures.value at c.in-Some.ensures.value) in
    let in_list = slice_get_within ss n c.in-Some.last.now last in
    let test = known_in (is_some (option_copied p.rows)) p.blanked.value in
    let at : 36000 * p.hour + 36000 - 1 ≡ 36000 * p.hour + 35999 = omega arith in
    let known = end_known test (36000 * p.hour) (36000 * p.hour + 36000) n ss c.in-Some.last.now (omega arith) c.self.invariant.cut.stretches last in
    rw (sym c.self.view_is) (known ∙ ap test at)
