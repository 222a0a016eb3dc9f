use Rattle.std.proofs.Common.{refl, sym, subst, ◌≡◌, [], get_or, List, false}
use Rattle.gap_map.specs.declared.stretch.Stretch.{Stretch}
use Rattle.board.specs.Logs.{end_tenth, first_tenth}
use Rattle.rule_audit.specs.declared.lines.AuditLine.{AuditLine}
use Rattle.rule_audit.specs.Judged.{HasVerdict}
use Rattle.rule_audit.specs.Lines.{AreLinesOf}
use Rattle.rule_audit.specs.Pass.{AddsUpTo, log_of, obligations_in}
use Rattle.rule_audit.proofs.Adding.{upto_end, upto_start}
use Rattle.rule_audit.proofs.Tenths.{up_over}
use Rattle.gap_map.specs.Stretches.{known_at}
use Rattle.rule_audit.proofs.Walking.{cut_first, on_join, stretch_from, stretch_known, stretch_later, stretch_rest, stretch_some, stretch_within, stretches_over}
use Rattle.rule_audit.proofs.walk.judge_hour.Goals as goal

abbrev no_stretch : Stretch
no_stretch = record { from = 0; to = 0; known = false }

pub loop-stretch-init : goal.loop-stretch-init
loop-stretch-init c = λ e is.
    let h = c.args.hour.now in
    let all = obligations_in h c.args.known_before (first_tenth e.hour) (end_tenth e.hour) in
    let added : AddsUpTo (HasVerdict (log_of h e)) all all [] c.new-lines.result.items = rw c.new-lines.ensures.items (upto_start (HasVerdict (log_of h e)) all []) in
    (first_tenth e.hour, is.is_view.is_log.is_hour.follow, (λ t le. refl), cut_first e.hour h.rows.now h.stretches.now is.is_view.is_log.is_hour, added)

pub judge_stretch-requires-clause-range : goal.judge_stretch-requires-clause-range
judge_stretch-requires-clause-range c =
    let (e, is) = c.requires.some in
    let (x, follow, same, cut, added) = c.loop-stretch.invariant e is in
    stretch_some c.args.hour.now.stretches.now c.loop-stretch.stretch-index no_stretch x (end_tenth e.hour) c.loop-stretch-test.true follow

pub judge_stretch-requires-clause-known : goal.judge_stretch-requires-clause-known
judge_stretch-requires-clause-known c =
    let (e, is) = c.requires.some in
    let (x, follow, same, cut, added) = c.loop-stretch.invariant e is in
    stretch_known c.args.hour.now.stretches.now c.loop-stretch.stretch-index no_stretch x (end_tenth e.hour) c.loop-stretch-test.true follow same

pub judge_stretch-requires-clause-first : goal.judge_stretch-requires-clause-first
judge_stretch-requires-clause-first c =
    let (e, is) = c.requires.some in
    let (x, follow, same, cut, added) = c.loop-stretch.invariant e is in
    rw (stretch_from c.args.hour.now.stretches.now c.loop-stretch.stretch-index no_stretch x (end_tenth e.hour) c.loop-stretch-test.true follow) cut

pub judge_stretch-requires-clause-within : goal.judge_stretch-requires-clause-within
judge_stretch-requires-clause-within c = λ e is.
    let (x, follow, same, cut, added) = c.loop-stretch.invariant e is in
    stretch_within c.args.hour.now.stretches.now c.loop-stretch.stretch-index no_stretch x (end_tenth e.hour) c.loop-stretch-test.true follow

pub loop-stretch-preserved : goal.loop-stretch-preserved
loop-stretch-preserved c = λ e is.
    let h = c.args.hour.now in
    let ss = h.stretches.now in
    let j = c.loop-stretch.stretch-index in
    let s = get_or ss j no_stretch in
    let (x, follow, same, cut, added) = c.loop-stretch.invariant e is in
    let from : s.from ≡ x = stretch_from ss j no_stretch x (end_tenth e.hour) c.loop-stretch-test.true follow in
    let here = rw from at (c.in_ok-next.ensures.lines e is) in (
      s.to,
      stretch_rest ss j no_stretch x (end_tenth e.hour) c.loop-stretch-test.true follow,
      stretch_later ss j no_stretch x (end_tenth e.hour) c.loop-stretch-test.true follow same,
      c.in_ok-next.ensures.cut,
      on_join h e c.requires.ready.rises c.args.known_before c.loop-stretch.before s.known (first_tenth e.hour) x s.to [] c.loop-stretch.lines.items c.judge_stretch.new.lines.items added here,
    )

pub returns : goal.returns
returns c = λ e is.
    let h = c.args.hour.now in
    let (x, follow, same, cut, added) = c.loop-stretch.invariant e is in
    let last : x ≡ end_tenth e.hour = stretches_over h.stretches.now c.loop-stretch.stretch-index no_stretch x (end_tenth e.hour) c.loop-stretch-test.false follow in
    let none : obligations_in h c.loop-stretch.before x (end_tenth e.hour) ≡ [] = rw last (up_over (known_at h.stretches.now) h.specs.now h.rules.now h.rows.now c.loop-stretch.before (end_tenth e.hour)) in
    let all = obligations_in h c.args.known_before (first_tenth e.hour) (end_tenth e.hour) in
    let (ls, are, items) = upto_end (HasVerdict (log_of h e)) all (obligations_in h c.loop-stretch.before x (end_tenth e.hour)) [] c.loop-stretch.lines.items none added in
    subst (λ (ms : List AuditLine). AreLinesOf (HasVerdict (log_of h e)) all ms) (sym items) are
