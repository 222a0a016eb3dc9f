use Rattle.std.proofs.Common.{ap, ◌≡◌, ◌∙◌, ◌+◌, [], ◌∷◌, ◌++◌, get_or}
use Rattle.std.proofs.lemmas.Int.{to_z-of_z}
use Rattle.std.proofs.lemmas.List.{get_or_default, length_push}
use Rattle.channel_tables.specs.declared.spec.Spec.{Spec}
use Rattle.board.specs.Logs.{no_spec}
use Rattle.board.proofs.Starting.{ends_more, widths_more}
use Rattle.board.proofs.aheads.Aheads.end.Goals as goal

pub ahead_end-requires-clause-fits : goal.ahead_end-requires-clause-fits
ahead_end-requires-clause-fits c = c.requires.specs.fit c.loop-i.i no_spec c.loop-i-test.true

pub loop-i-preserved : goal.loop-i-preserved
loop-i-preserved c =
    let r = c.ranges.point in
    let specs = c.args.specs.now in
    let spec = get_or specs c.loop-i.i no_spec in
    let inv = simp to_z-of_z at c.loop-i.invariant in
    let states = simp to_z-of_z at c.ahead_end.ensures.states in
    let items : c.push.new.self.items ≡ c.loop-i.aheads.items ++ c.ahead_end.result ∷ [] = c.in_ok-push.ensures.items in
    let is = λ (d : Spec). get_or_default specs c.loop-i.i no_spec d c.loop-i-test.true in
    simp to_z-of_z (rw items (length_push _ _ ∙ ap (λ n. n + 1) inv.0), rw items (widths_more specs c.loop-i.i spec c.loop-i.aheads.items c.ahead_end.result is inv.0 c.ahead_end.ensures.colours inv.1), rw items (ends_more specs c.args.point c.loop-i.i spec c.loop-i.aheads.items c.ahead_end.result (is no_spec) inv.0 states inv.2))
