use Rattle.std.proofs.Common.{arith, ap, ◌≡◌, ◌∙◌, ◌+◌, [], ◌∷◌, ◌++◌, length, get_or}
use Rattle.std.proofs.lemmas.List.{get_or_default, length_push}
use Rattle.channel_tables.specs.declared.spec.Spec.{Spec}
use Rattle.board.specs.Logs.{no_spec}
use Rattle.board.proofs.Starting.{start_more, starts_more}
use Rattle.board.proofs.pasts.Pasts.start.Goals as goal

pub past_start-requires : goal.past_start-requires
past_start-requires c = c.requires.fit c.loop-i.i no_spec c.loop-i-test.true

pub loop-i-preserved : goal.loop-i-preserved
loop-i-preserved c =
    let inv = c.loop-i.invariant in
    let specs = c.args.specs.now in
    let spec = get_or specs c.loop-i.i no_spec in
    let is = λ (d : Spec). get_or_default specs c.loop-i.i no_spec d c.loop-i-test.true in
    let fits = c.requires.fit c.loop-i.i no_spec c.loop-i-test.true in
    let items : c.push.new.self.items ≡ c.loop-i.pasts.items ++ c.in_ok-past.past ∷ [] = c.in_ok-push.ensures.items in
    (rw items (length_push _ _ ∙ ap (λ n. n + 1) inv.0), rw items (start_more specs c.loop-i.i spec c.loop-i.pasts.items c.in_ok-past.past fits is inv.0 c.in_ok-past.ensures.colours c.in_ok-past.ensures.states inv.1), rw items (starts_more specs c.loop-i.i spec c.loop-i.pasts.items c.in_ok-past.past (is no_spec) inv.0 c.in_ok-past.ensures.states inv.2))

pub returns-clause-shape : goal.returns-clause-shape
returns-clause-shape c = let all : c.loop-i.i ≡ length c.args.specs.now = omega arith in (c.loop-i.invariant.0 ∙ all, rw (← all) c.loop-i.invariant.1)

pub returns-clause-states : goal.returns-clause-states
returns-clause-states c = let all : c.loop-i.i ≡ length c.args.specs.now = omega arith in rw (← all) c.loop-i.invariant.2
