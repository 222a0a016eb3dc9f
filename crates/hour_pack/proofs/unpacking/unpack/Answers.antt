use Rattle.std.proofs.Common.{◌≡◌, ◌∙◌, ap, arith, Ok}
use Rattle.std.proofs.lemmas.Result.{err_from_is_err_and}
use Rattle.hour_pack.specs.declared.pack_error.PackError.TheVariants.{Memory}
use Rattle.hour_pack.specs.Reading.{reading}
use Rattle.hour_pack.proofs.Bytes.{bytes-of}
use Rattle.hour_pack.proofs.ReadingFacts.{reading-takes, reading-again}
use Rattle.hour_pack.proofs.UnpackFacts.{only_memory, unpacked, unpacked-only, fault-cause, cause-answered, no_cause}
use Rattle.hour_pack.proofs.unpacking.unpack.Goals as goal

pub returns-in_err-rows-clause-only : goal.returns-in_err-rows-clause-only
returns-in_err-rows-clause-only g c = λ rows fits e.
    let p = err_from_is_err_and c.from_residual.result c.from_residual.ensures.1 in
    let read : reading c.args.signal.now c.args.window.now c.args.hour c.args.bytes.now ≡ Ok rows =
    ap (reading c.args.signal.now c.args.window.now c.args.hour) e ∙ reading-again c.args.signal.now c.args.window.now c.args.hour rows fits in
    let memory : c.in_err-rows.field-0.0 ≡ Memory = only_memory _ rows c.in_err-rows.field-0.0 read c.in_err-rows.ensures in
    rw (p.1, p.2) memory

pub of-requires : goal.of-requires
of-requires g c =
    (reading-takes c.args.signal.now c.args.window.now c.args.hour c.args.bytes.now c.in_ok-rows.rows.items (omega arith)
    (bytes-of c.args.bytes.now (λ i. omega (arith, c.type_inv.bytes i))) c.in_ok-rows.ensures).0.of_hour

pub returns-clause-ok : goal.returns-clause-ok
returns-clause-ok g c =
    unpacked c.args.signal.now c.args.window.now c.args.hour c.args.bytes.now c.of.result c.in_ok-rows.rows.items c.of.ensures
    (reading-takes c.args.signal.now c.args.window.now c.args.hour c.args.bytes.now c.in_ok-rows.rows.items (omega arith)
    (bytes-of c.args.bytes.now (λ i. omega (arith, c.type_inv.bytes i))) c.in_ok-rows.ensures)

pub returns-clause-only : goal.returns-clause-only
returns-clause-only g c = λ rows fits e.
    unpacked-only c.args.signal.now c.args.window.now c.args.hour c.args.bytes.now c.of.result c.in_ok-rows.rows.items rows c.of.ensures
    c.in_ok-rows.ensures fits e

pub returns-in_err-rows-clause-err : goal.returns-in_err-rows-clause-err
returns-in_err-rows-clause-err g c =
    let p = err_from_is_err_and c.from_residual.result c.from_residual.ensures.1 in
    rw (p.1, p.2)
    (fault-cause c.args.signal.now c.args.window.now c.args.hour c.args.bytes.now c.in_err-rows.field-0.0 (omega arith)
    (bytes-of c.args.bytes.now (λ i. omega (arith, c.type_inv.bytes i))) c.in_err-rows.ensures)

pub returns-in_err-rows-clause-refused : goal.returns-in_err-rows-clause-refused
returns-in_err-rows-clause-refused g c = λ e h.
    let p = err_from_is_err_and c.from_residual.result c.from_residual.ensures.1 in
    rw (p.1, p.2) (cause-answered c.args.signal.now c.args.window.now c.args.hour c.args.bytes.now e c.in_err-rows.field-0.0 h c.in_err-rows.ensures)

pub returns-clause-refused : goal.returns-clause-refused
returns-clause-refused g c = λ e h.
    no_cause c.args.signal.now c.args.window.now c.args.hour c.args.bytes.now c.in_ok-rows.rows.items e c.in_ok-rows.ensures h
