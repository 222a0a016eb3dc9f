use Rattle.std.proofs.Common.{rules, arith, ◌≡◌, ◌∙◌, ◌∷◌, [], true, sym}
use Rattle.std.specs.Result.{is_ok}
use Rattle.std.proofs.lemmas.List.{length-append}
use Rattle.csv.specs.Records.{fields_of}
use Rattle.row_reader.specs.Request.{wanted}
use Rattle.row_reader.proofs.ReadFacts.{read-on, read-header, read-ended, read-refused, within-more, rise-more, is_refusal}
use Rattle.row_reader.proofs.reader.good_rows.Goals as goal

pub returns-in-Ok-false-clause-ok : goal.returns-in-Ok-false-clause-ok
returns-in-Ok-false-clause-ok c =
    let i = c.loop-number.invariant.at in
    read-ended (wanted c.args.request.now) c.args.bytes.now c.loop-number.reader c.read_byte_record.new.self c.loop-number.headers c.loop-number.rows.items c.loop-number.number
    (fields_of c.read_byte_record.new.row) i (rw c.in-Ok-false.field-0-test at (c.in-Ok-false.ensures.reads i.trims i.ready))

pub loop-number-preserved-then-is_header : goal.loop-number-preserved-then-is_header
loop-number-preserved-then-is_header c =
    let inv = c.loop-number.invariant in
    let i = inv.at in
    let one : c.loop-number.number ≡ 1 = c.is_header.ensures.first c.if-is_header.true in
    record {
      at = read-header (wanted c.args.request.now) c.args.bytes.now c.loop-number.reader c.read_byte_record.new.self c.loop-number.headers c.loop-number.rows.items c.loop-number.number
          (fields_of c.read_byte_record.new.row) i (rw c.in-Ok-true.field-0-test at (c.in-Ok-true.ensures.reads i.trims i.ready))
          (c.in-Ok-true.ensures.ready i.trims) (sym c.is_header.ensures.value ∙ c.if-is_header.true);
      within = inv.within;
      headers = omega arith;
      count = omega (arith, inv.count);
      few = omega arith;
      rise = inv.rise;
    }

pub returns-in-Err-record_row-clause-err : goal.returns-in-Err-record_row-clause-err
returns-in-Err-record_row-clause-err c =
    let i = c.loop-number.invariant.at in
    is_refusal _ c.in-Err-record_row.error
    (read-refused (wanted c.args.request.now) c.args.bytes.now c.loop-number.reader c.read_byte_record.new.self c.loop-number.headers c.loop-number.rows.items c.loop-number.number
    (fields_of c.read_byte_record.new.row) c.in-Err-record_row.error i (rw c.in-Ok-true.field-0-test at (c.in-Ok-true.ensures.reads i.trims i.ready))
    (sym c.is_header.ensures.value ∙ c.if-is_header.false) (sym c.in-Err-record_row.ensures.value))

pub loop-number-preserved : goal.loop-number-preserved
loop-number-preserved c =
    let inv = c.loop-number.invariant in
    let i = inv.at in
    let good : is_ok c.push.result ≡ true = search rules in
    let items = rw good at c.push.ensures.items in
    rw items record {
      at = read-on (wanted c.args.request.now) c.args.bytes.now c.loop-number.reader c.read_byte_record.new.self c.loop-number.headers c.loop-number.rows.items c.loop-number.number
          (fields_of c.read_byte_record.new.row) c.in-Ok.row i (rw c.in-Ok-true.field-0-test at (c.in-Ok-true.ensures.reads i.trims i.ready))
          (c.in-Ok-true.ensures.ready i.trims) (sym c.is_header.ensures.value ∙ c.if-is_header.false) (sym c.in-Ok.ensures.value);
      within = within-more _ _ c.loop-number.rows.items c.in-Ok.row inv.within c.in-Ok.ensures.range.0 c.in-Ok.ensures.range.1;
      headers = inv.headers;
      count = omega (arith, inv.count, length-append c.loop-number.rows.items (c.in-Ok.row ∷ []));
      few = omega (arith, c.in-Ok.ensures.few);
      rise = rise-more c.loop-number.last c.loop-number.rows.items c.in-Ok.row c.loop-number.rise inv.rise;
    }
