use Rattle.std.proofs.Common.{arith, ◌+◌, ◌∷◌, []}
use Rattle.std.proofs.lemmas.List.{length-append}
use Rattle.std.proofs.lemmas.Result.{err_from_is_err_and}
use Rattle.hour_pack.specs.Reading.{with_row}
use Rattle.hour_pack.proofs.OrderFacts.{rise-more, rise-wider}
use Rattle.hour_pack.proofs.LoopFacts.{goes_on, ends, is_done, is_fault, fault_on, not_read, put_behind, repeats}
use Rattle.hour_pack.proofs.unpacking.rows_at.Goals as goal

pub with_row-requires-clause-rise : goal.with_row-requires-clause-rise
with_row-requires-clause-rise c =
    rise-wider 0 (c.loop.last + 1) 0 _ c.loop.kept (omega arith) (omega (arith, c.in_ok-row.ensures.range)) c.loop.invariant.rise

pub returns-in_err-row : goal.returns-in_err-row
returns-in_err-row c =
    let p = err_from_is_err_and c.from_residual-in_err-row.result c.from_residual-in_err-row.ensures.1 in
    rw (p.1, p.2)
    (is_fault _ c.in_err-row.field-0.0
    (ends _ c.loop.last c.loop.kept c.args.count c.loop.counter c.loop.rest.now c.in_err-row.field-0.0 _ (omega arith)
    (not_read _ c.loop.last c.loop.kept c.loop.rest.now _ (rw c.len.ensures at c.in_err-row.ensures.value)) c.loop.invariant.same))

pub returns-in_err-kept-2 : goal.returns-in_err-kept-2
returns-in_err-kept-2 c =
    let p = err_from_is_err_and c.from_residual-in_err-kept-2.result c.from_residual-in_err-kept-2.ensures.1 in
    let kept = c.loop.kept in
    rw (p.1, p.2)
    (fault_on (with_row kept c.in_ok-row.row) _ c.in_err-kept-2.field-0.0
    (λ f h. ends _ c.loop.last kept c.args.count c.loop.counter c.loop.rest.now f _ (omega arith)
    (repeats _ c.loop.last kept c.loop.rest.now c.in_ok-row.row c.in_ok-row.after.now f (rw c.len.ensures at c.in_ok-row.ensures.value) h) c.loop.invariant.same)
    c.in_err-kept-2.ensures)

pub loop-preserved : goal.loop-preserved
loop-preserved c =
    let row = c.in_ok-row.row in
    let kept = c.loop.kept in
    let put = put_behind _ c.loop.last kept c.loop.rest.now row c.in_ok-row.after.now _ (rw c.len.ensures at c.in_ok-row.ensures.value) c.in_ok-kept-2.ensures in
    rw put.1 record {
      same = goes_on _ c.loop.last kept c.args.count c.loop.counter c.loop.rest.now row c.in_ok-row.after.now _ (omega arith)
          put.0 c.loop.invariant.same;
      last = c.in_ok-row.ensures.range.1;
      rise = rise-more 0 c.loop.last _ kept row c.loop.invariant.rise (omega arith) c.in_ok-row.ensures.range.0 (omega arith);
      count = omega (arith, c.loop.invariant.count, length-append kept (row ∷ []));
    }

pub returns : goal.returns
returns c = rw c.into_rows.ensures (is_done _ c.loop.last c.loop.kept c.args.count c.loop.counter c.loop.rest.now _ (omega arith) c.loop.invariant.same)
