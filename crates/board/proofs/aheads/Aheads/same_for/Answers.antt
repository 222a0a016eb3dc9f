use Rattle.std.proofs.Common.{◌∙◌, [], ap, arith, length, sym}
use Rattle.board.specs.Logs.{no_spec}
use Rattle.board.proofs.Viewing.{element}
use Rattle.board.proofs.aheads.Aheads.same_for.Goals as goal

pub admit_same-requires-clause-a : goal.admit_same-requires-clause-a
admit_same-requires-clause-a c =
    let (specs, before, own, other) = c.requires.shape in
    let i = c.loop-i.i in
    let test = c.loop-i-test.true in
    let count = c.len-i-end.ensures in
    let size = ap length c.self.view_is in
    let n = own.0 in
    let m = before.0 in
    let a = element c.self.inside.aheads.items c.args.self.now i c.index-in-loop-i.result.now [] c.self.view_is (omega arith) c.index-in-loop-i.ensures in
    let past = element c.pasts.inside.pasts.items c.args.pasts.now i c.index.result.now [] c.pasts.view_is (omega arith) c.index.ensures in
    ap length past ∙ ((before.1 i no_spec (omega arith)).0 ∙ sym (ap length a ∙ own.1 i no_spec (omega arith)))

pub admit_same-requires-clause-b : goal.admit_same-requires-clause-b
admit_same-requires-clause-b c =
    let (specs, before, own, other) = c.requires.shape in
    let i = c.loop-i.i in
    let test = c.loop-i-test.true in
    let count = c.len-i-end.ensures in
    let size = ap length c.self.view_is in
    let n = own.0 in
    let m = before.0 in
    let k = other.0 in
    let b = element c.other.inside.aheads.items c.args.other.now i c.index-in-loop-i-2.result.now [] c.other.view_is (omega arith) c.index-in-loop-i-2.ensures in
    let past = element c.pasts.inside.pasts.items c.args.pasts.now i c.index.result.now [] c.pasts.view_is (omega arith) c.index.ensures in
    ap length past ∙ ((before.1 i no_spec (omega arith)).0 ∙ sym (ap length b ∙ other.1 i no_spec (omega arith)))
