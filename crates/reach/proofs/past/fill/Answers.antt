use Rattle.std.proofs.Common.{rules, length, w64}
use Rattle.std.specs.Prelude.{FitsSigned}
use Rattle.std.proofs.lemmas.Int.{to_z-of_z}
use Rattle.reach.proofs.Alone.{filled, on_ok}
use Rattle.reach.proofs.past.fill.Goals as goal

pub returns-clause-ok : goal.returns-clause-ok
returns-clause-ok c =
    let f : FitsSigned w64 c.args.one.entry = search rules in
    let ok = simp to_z-of_z at c.add_one.ensures in
    on_ok c.add_one.result _ _ (λ e. filled c.args.one c.clear_all.new.sets (length c.args.sets.now) c.add_one.new.set c.clear_all.ensures c.requires.colours e) ok
