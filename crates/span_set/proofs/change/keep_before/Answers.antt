use Rattle.std.proofs.Common.{rules, arith, ◌∙◌, ap, w64, drop, length, ◌≡◌, ◌<◌, ◌<ℤ◌, pos, get_or}
use Rattle.std.specs.Prelude.{FitsSigned}
use Rattle.std.proofs.lemmas.Int.{ints, to_z-of_z}
use Rattle.span_set.specs.Changes.{span}
use Rattle.span_set.proofs.Cutting.{halved_is}
use Rattle.span_set.proofs.Sets.{read_is}
use Rattle.span_set.proofs.change.keep_before.Goals as goal

pub returns-then-first-last-clause-kept : goal.returns-then-first-last-clause-kept
returns-then-first-last-clause-kept c =
    let r = c.ranges.from in
    let items = c.args.spans.now.items in
    let cut = get_or c.deref.result.now c.args.first (span (pos 0) (pos 0)) in
    let f : FitsSigned w64 cut.from = search rules in
    let within : c.args.first < length items = search rules in
    let read = read_is c.deref.result.now items c.args.first (span (pos 0) (pos 0)) c.deref.ensures within in
    let before : cut.from <ℤ c.args.from = omega (arith, ints) in
    let new = simp to_z-of_z at c.in_ok-insert.ensures.ok in
    (halved_is c.args.from items c.insert.new.self.items c.args.first cut within read before new).0

pub returns-then-first-last-clause-rest : goal.returns-then-first-last-clause-rest
returns-then-first-last-clause-rest c =
    let r = c.ranges.from in
    let items = c.args.spans.now.items in
    let cut = get_or c.deref.result.now c.args.first (span (pos 0) (pos 0)) in
    let f : FitsSigned w64 cut.from = search rules in
    let within : c.args.first < length items = search rules in
    let read = read_is c.deref.result.now items c.args.first (span (pos 0) (pos 0)) c.deref.ensures within in
    let before : cut.from <ℤ c.args.from = omega (arith, ints) in
    let new = simp to_z-of_z at c.in_ok-insert.ensures.ok in
    let same : c.args.first ≡ c.args.last = c.if-first-last.true in
    (halved_is c.args.from items c.insert.new.self.items c.args.first cut within read before new).1 ∙ ap (λ n. drop n items) same
