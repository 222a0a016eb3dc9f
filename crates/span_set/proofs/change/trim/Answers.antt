use Rattle.std.proofs.Common.{rules, arith, ap, take, ◌∙◌, ◌+◌, pos, w64, length, ◌<◌, ◌<ℤ◌, get_or}
use Rattle.std.specs.Prelude.{FitsSigned}
use Rattle.std.proofs.lemmas.Int.{ints, to_z-of_z}
use Rattle.span_set.specs.Changes.{span}
use Rattle.span_set.proofs.Cutting.{trimmed_is}
use Rattle.span_set.proofs.Sets.{read_is, write_is}
use Rattle.span_set.proofs.change.trim.Goals as goal

pub returns : goal.returns
returns c =
    let r = c.ranges.from in
    let items = c.args.spans.now.items in
    let cut = get_or c.deref.result.now c.args.kept (span (pos 0) (pos 0)) in
    let f : FitsSigned w64 cut.from = search rules in
    let within : c.args.kept < length items = search rules in
    let before : cut.from <ℤ c.args.from = omega (arith, ints) in
    let read = read_is c.deref.result.now items c.args.kept (span (pos 0) (pos 0)) c.deref.ensures within in
    let written = write_is c.deref_mut.result.now items c.args.kept (span cut.from c.args.from) c.deref_mut.ensures.value in
    simp to_z-of_z at c.truncate-2.ensures.items ∙ (ap (take (c.args.kept + 1)) written ∙ trimmed_is c.args.from items c.args.kept cut within read before)
