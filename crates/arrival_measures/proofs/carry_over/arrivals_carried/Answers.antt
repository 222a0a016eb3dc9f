use Rattle.std.proofs.Common.{◌≡◌, ◌∙◌, ◌+◌, true, ap, sym, refl, arith}
use Rattle.std.proofs.lemmas.List.{nil_from_length}
use Rattle.gap_map.proofs.Following.{follows}
use Rattle.hour_sweep.specs.Hours.{point}
use Rattle.arrival_measures.specs.declared.carry_over.PassingRows.{PassingRows}
use Rattle.arrival_measures.specs.Crossing.{CarryParts, all_flags, flags_of}
use Rattle.arrival_measures.specs.Steps.{flags_in, is_faultless}
use Rattle.arrival_measures.proofs.Bare.{carried_over}
use Rattle.arrival_measures.proofs.Faultless.{flags_stay}
use Rattle.arrival_measures.proofs.Hours.{carry_is}
use Rattle.arrival_measures.proofs.Onward.{rows_all, rows_found}
use Rattle.arrival_measures.proofs.carry_over.arrivals_carried.Goals as goal

pub returns-then-approach_count-eq0-clause-carry : goal.returns-then-approach_count-eq0-clause-carry
returns-then-approach_count-eq0-clause-carry c = λ known before hour h is cut.
    carried_over c.args.config.now (nil_from_length c.args.config.now.approaches (omega arith)) known before hour c.args.rows.now c.args.stretches.now c.args.carry.now h is

pub returns-then-is_faultless-clause-carry : goal.returns-then-is_faultless-clause-carry
returns-then-is_faultless-clause-carry c = λ known before hour h is cut.
    let cfg = c.args.config.now in
    let rows = c.args.rows.now in
    let ss = c.args.stretches.now in
    let old = c.args.carry.now in
    let flags = c.carry.inside.flags.items in
    let s : PassingRows = record { rows = c.args.rows; passing = c.args.rows; stretches = c.args.stretches; first = c.first_of-first.result } in
    let first : s.first ≡ point hour = c.first_of-first.ensures (point hour) (point hour + 36000) (follows known (point hour) (point hour + 36000) ss h.are_stretches) (omega arith) in
    let told : all_flags flags ≡ flags_of known cfg (point hour) before = ap (λ (z : CarryParts). z.flags) c.carry.view_is ∙ is.flags_are in
    let none : is_faultless flags rows ≡ true = ap (λ zs. is_faultless zs rows) (sym c.deref.ensures.value) ∙ sym c.is_faultless.ensures ∙ c.if-is_faultless.true in
    let new : CarryParts = record { crossings = c.in_ok-crossings.crossings.items; flags = all_flags flags } in
    carry_is known cfg before hour rows ss old new (all_flags flags) h is (flags_stay known cfg before hour rows ss flags h told none)
    (c.in_ok-crossings.ensures known before hour (rows_all known cfg before hour old flags s h is told none refl first) cut
    (c.deref-then-is_faultless.ensures.value ∙ ap (λ (z : CarryParts). z.crossings) c.carry.view_is ∙ is.crossings_are))
    refl

pub returns-clause-carry : goal.returns-clause-carry
returns-clause-carry c = λ known before hour h is cut.
    let cfg = c.args.config.now in
    let rows = c.args.rows.now in
    let ss = c.args.stretches.now in
    let old = c.args.carry.now in
    let found = c.in_ok-found.found in
    let flags = c.deref-2.result.now in
    let s : PassingRows = record { rows = c.args.rows; passing = c.deref-3.result; stretches = c.args.stretches; first = c.first_of-first.result } in
    let first : s.first ≡ point hour = c.first_of-first.ensures (point hour) (point hour + 36000) (follows known (point hour) (point hour + 36000) ss h.are_stretches) (omega arith) in
    let told : all_flags flags ≡ flags_of known cfg (point hour) before = ap (λ zs. all_flags zs) c.deref-2.ensures.value ∙ ap (λ (z : CarryParts). z.flags) c.carry.view_is ∙ is.flags_are in
    let are = rows_found known cfg before hour old s found h is (c.in_ok-found.ensures.found known cfg before hour h is.earlier told) c.deref-3.ensures.value first in
    let new : CarryParts = record { crossings = c.in_ok-crossings-2.crossings.items; flags = all_flags c.put_flags.new.flags.items } in
    carry_is known cfg before hour rows ss old new (all_flags (flags_in flags found.flags)) h is (c.in_ok-found.ensures.flags known cfg before hour h is.earlier told)
    (c.in_ok-crossings-2.ensures known before hour are cut (c.deref-4.ensures.value ∙ ap (λ (z : CarryParts). z.crossings) c.carry.view_is ∙ is.crossings_are))
    (ap (λ zs. all_flags zs) (c.put_flags.ensures ∙ ap (λ zs. flags_in zs found.flags) (sym c.deref-2.ensures.value)))
