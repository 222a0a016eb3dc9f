use Rattle.std.proofs.Common.{arith, refl, ap, ◌∙◌, ◌≡◌, ◌+◌, ◌<◌, drop, get_or, length, ℕ}
use Rattle.board.specs.Logs.{no_row}
use Rattle.rule_audit.specs.Obligations.{rows_obligations}
use Rattle.rule_audit.specs.Judged.{HasVerdict}
use Rattle.rule_audit.specs.Pass.{log_of}
use Rattle.rule_audit.proofs.Adding.{upto_start, upto_step, upto_end, upto_same}
use Rattle.rule_audit.proofs.Dues.{known_rows}
use Rattle.rule_audit.proofs.Tenths.{cut_le, rows_from, rows_more, rows_over}
use Rattle.rule_audit.proofs.tenth.judge_rows.Goals as goal

pub loop-index-init : goal.loop-index-init
loop-index-init c = λ e is.
    let h = c.args.hour.now in
    upto_same (HasVerdict (log_of h e)) (rows_obligations h.specs.now h.rules.now c.args.at 0 h.rows.now) (rows_obligations h.specs.now h.rules.now c.args.at c.args.first (drop c.args.first h.rows.now)) _ _ c.args.lines.now.items c.args.lines.now.items (rows_from h.specs.now h.rules.now c.args.at h.rows.now c.args.first c.requires.first) refl (upto_start (HasVerdict (log_of h e)) _ c.args.lines.now.items)

pub judge_row-requires-clause-index : goal.judge_row-requires-clause-index
judge_row-requires-clause-index c = let top = c.requires.end.0 in omega arith

pub judge_row-requires-clause-known : goal.judge_row-requires-clause-known
judge_row-requires-clause-known c = known_rows c.args.hour.now c.args.at c.args.first c.args.end c.requires.known c.requires.first c.requires.end c.loop-index.index c.loop-index.auto.index c.loop-index-test.true

pub loop-index-preserved : goal.loop-index-preserved
loop-index-preserved c = λ e is.
    let h = c.args.hour.now in
    let i = c.loop-index.index in
    let top = c.requires.end.0 in
    let lt : i < length h.rows.now = omega arith in
    let low = c.requires.first.2 i c.loop-index.auto.index lt in
    let high = c.requires.end.1 i c.loop-index-test.true in
    let here : (get_or h.rows.now i no_row).at ≡ c.args.at = omega arith in
    upto_step (HasVerdict (log_of h e)) (rows_obligations h.specs.now h.rules.now c.args.at 0 h.rows.now) _ _ _ c.args.lines.now.items c.loop-index.lines.items _ (rows_more h.specs.now h.rules.now c.args.at h.rows.now i lt here) (c.loop-index.invariant e is) (c.in_ok-judge_row.ensures e is)

pub returns : goal.returns
returns c = λ e is.
    let h = c.args.hour.now in
    let le = cut_le h.rows.now c.args.at (c.args.at + 1) c.args.first c.args.end (omega arith) c.requires.first c.requires.end in
    let ends = c.loop-index.auto.index-end in
    let last : c.loop-index.index ≡ c.args.end = omega arith in
    upto_end (HasVerdict (log_of h e)) (rows_obligations h.specs.now h.rules.now c.args.at 0 h.rows.now) _ c.args.lines.now.items c.loop-index.lines.items (ap (λ (j : ℕ). rows_obligations h.specs.now h.rules.now c.args.at j (drop j h.rows.now)) last ∙ rows_over h.specs.now h.rules.now c.args.at h.rows.now c.args.end c.requires.end) (c.loop-index.invariant e is)
