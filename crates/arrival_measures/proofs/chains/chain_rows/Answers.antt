use Rattle.std.proofs.Common.{◌∙◌, ◌+◌, ◌<◌, ◌++◌, ◌∷◌, [], ap, sym, length, get_or, arith}
use Rattle.std.specs.List.{filter}
use Rattle.std.proofs.lemmas.List.{take_all}
use Rattle.board.specs.Logs.{no_row}
use Rattle.arrival_measures.specs.Chains.{is_in}
use Rattle.arrival_measures.proofs.Chaining.{one_kept, passed_over}
use Rattle.arrival_measures.proofs.chains.chain_rows.Goals as goal

pub loop-place-init : goal.loop-place-init
loop-place-init c =
    let next = c.first-place.ensures.next in
    record {
      within = next.within;
      on = next.passes;
      own = c.new-own.ensures.items ∙ sym (passed_over (is_in c.args.chain) c.args.chains.now 0 c.first-place.result next.from next.within next.none);
    }

pub loop-place-smaller : goal.loop-place-smaller
loop-place-smaller c =
    let lt = c.loop-place-test.true in
    let size = c.len.ensures in
    let next = c.next-place.ensures c.args.chain c.first-place.ensures.number (c.loop-place.invariant.on (omega arith)) in
    let low = next.from in
    omega arith

pub loop-place-preserved : goal.loop-place-preserved
loop-place-preserved c =
    let rows = c.args.chains.now in
    let i = c.loop-place.place in
    let T = is_in c.args.chain in
    let lt : i < length rows = omega arith in
    let on = c.loop-place.invariant.on lt in
    let next = c.next-place.ensures c.args.chain c.first-place.ensures.number on in
    record {
      within = next.within;
      on = next.passes;
      own = c.in_ok-push.ensures.items ∙ ap (λ x. c.loop-place.own.items ++ x ∷ []) c.row.ensures
          ∙ ap (λ zs. zs ++ get_or rows i no_row ∷ []) c.loop-place.invariant.own
          ∙ sym (one_kept T rows i lt on)
          ∙ sym (passed_over T rows (i + 1) c.next-place.result next.from next.within next.none);
    }

pub returns : goal.returns
returns c = c.loop-place.invariant.own ∙ ap (λ zs. filter (is_in c.args.chain) zs) (take_all c.loop-place.place c.args.chains.now (omega arith))
