use Rattle.std.proofs.Common.{◌∙◌, ◌-◌, ◌<◌, [], ap, arith, length, sym}
use Rattle.std.proofs.lemmas.List.{get_or_default}
use Rattle.channel_tables.specs.Spec.{rules_of}
use Rattle.board.specs.Logs.{no_spec}
use Rattle.board.proofs.repeat.repeats.Goals as goal

pub returns-then-same_moves-clause-repeats : goal.returns-then-same_moves-clause-repeats
returns-then-same_moves-clause-repeats c = λ yes.
    let specs = c.args.specs.now in let list = c.args.list.now in
    let i = c.args.place in
    let some = c.if-place-eq0.false in
    let within = c.requires.within in
    let count = c.requires.same in
    let before : i - 1 < length specs = omega arith in
    let one = c.index-list-last.is ∙ get_or_default list (i - 1) c.index-list-last.result [] (omega arith) in
    let two = c.index-list-place.is ∙ get_or_default list i c.index-list-place.result [] (omega arith) in
    let moves = c.same_moves.ensures c.if-same_moves.true in
    let machine = c.same_machine.ensures yes in
    record {
      last = i - 1;
      place = omega arith;
      rules = λ d. sym (ap rules_of (get_or_default specs i no_spec d within)) ∙ (sym machine ∙ ap rules_of (get_or_default specs (i - 1) no_spec d before));
      moves = sym two ∙ (sym c.moves-2.ensures ∙ (sym moves ∙ (c.moves.ensures ∙ one)));
    }
