use Rattle.std.proofs.Common.{arith, refl, sym, ◌+◌, ◌<◌, ◌≤◌, length, get_or, drop}
use Rattle.board.specs.Logs.{no_row}
use Rattle.rule_audit.specs.Obligations.{is_timed_by, row_obligations}
use Rattle.rule_audit.specs.Judged.{HasVerdict}
use Rattle.rule_audit.specs.Index.{no_rule}
use Rattle.rule_audit.specs.Pass.{log_of}
use Rattle.rule_audit.proofs.Adding.{row_rules, row_rules_over, upto_end, upto_same, upto_start, upto_step}
use Rattle.rule_audit.proofs.Indexing.{row_skip}
use Rattle.rule_audit.proofs.tenth.judge_timed.Goals as goal

pub rules-init : goal.rules-init
rules-init c =
    let h = c.args.hour.now in
    let row = get_or h.rows.now c.args.index no_row in
    let next = c.next-place.ensures (λ x. is_timed_by h.specs.now row (get_or h.rules.now x no_rule)) c.requires.timed in
    (next.within, next.passes, λ e is. upto_same (HasVerdict (log_of h e)) (row_obligations h.specs.now c.args.index row 1 h.rules.now) (row_obligations h.specs.now c.args.index row (c.next-place.result + 1) (drop c.next-place.result h.rules.now)) _ _ c.args.lines.now.items c.args.lines.now.items (row_skip h.specs.now c.args.index row h.rules.now 0 c.next-place.result (omega arith) next.within next.none) refl (upto_start (HasVerdict (log_of h e)) _ c.args.lines.now.items))

pub rules-smaller : goal.rules-smaller
rules-smaller c =
    let h = c.args.hour.now in
    let row = get_or h.rows.now c.args.index no_row in
    let next = c.next-place-in-rules.ensures (λ x. is_timed_by h.specs.now row (get_or h.rules.now x no_rule)) c.requires.timed in
    let more : c.rules.place + 1 ≤ c.next-place-in-rules.result = next.from in
    let lt : c.rules.place < length h.rules.now = c.rules-test.true in
    omega arith

pub rules-preserved : goal.rules-preserved
rules-preserved c =
    let h = c.args.hour.now in
    let row = get_or h.rows.now c.args.index no_row in
    let k = c.rules.place in
    let m = c.next-place-in-rules.result in
    let next = c.next-place-in-rules.ensures (λ x. is_timed_by h.specs.now row (get_or h.rules.now x no_rule)) c.requires.timed in (
      next.within,
      next.passes,
      λ e is.
          let Has = HasVerdict (log_of h e) in
          let all = row_obligations h.specs.now c.args.index row 1 h.rules.now in
          let step = upto_step Has all _ _ _ c.args.lines.now.items c.rules.lines.items c.judge_before.new.lines.items (row_rules h.specs.now c.args.index row h.rules.now k no_rule c.rules-test.true) (c.rules.invariant.2 e is) (c.in_ok-judge_before.ensures e is) in
          upto_same Has all all (row_obligations h.specs.now c.args.index row (m + 1) (drop m h.rules.now)) (row_obligations h.specs.now c.args.index row (k + 1 + 1) (drop (k + 1) h.rules.now)) c.args.lines.now.items c.judge_before.new.lines.items refl (sym (row_skip h.specs.now c.args.index row h.rules.now (k + 1) m next.from next.within next.none)) step,
    )

pub returns : goal.returns
returns c = λ e is.
    let h = c.args.hour.now in
    let row = get_or h.rows.now c.args.index no_row in
    upto_end (HasVerdict (log_of h e)) (row_obligations h.specs.now c.args.index row 1 h.rules.now) _ c.args.lines.now.items c.rules.lines.items (row_rules_over h.specs.now c.args.index row h.rules.now c.rules.place _ c.rules-test.false) (c.rules.invariant.2 e is)
