use Rattle.std.proofs.Common.{rules, w64, refl, None, get_or}
use Rattle.std.specs.Prelude.{FitsSigned}
use Rattle.std.proofs.lemmas.Int.{to_z-of_z}
use Rattle.reach.specs.Ahead.{NotLater}
use Rattle.reach.specs.Runs.{state}
use Rattle.reach.proofs.Alone.{holds_single, sees_single}
use Rattle.reach.proofs.sure.seen_alone.Goals as goal

pub returns : goal.returns
returns c =
    let o = c.args.one in
    let f1 : FitsSigned w64 o.entry = search rules in
    let f2 : FitsSigned w64 c.args.test.now.at = search rules in
    let begun = simp to_z-of_z at c.is_begun-here.ensures in
    λ latest admits.
    let own : NotLater (get_or latest o.colour None) o.entry = admits (state o.colour o.entry) ((holds_single o c.requires (state o.colour o.entry)).1 (refl, refl)) in
    sees_single o latest c.args.test.now c.is_begun-here.result c.is_met-meets.result _ c.requires (λ t. (begun.0 t, own), λ (e, l). begun.1 e) c.is_met-meets.ensures c.both.ensures c.first_alone.ensures
