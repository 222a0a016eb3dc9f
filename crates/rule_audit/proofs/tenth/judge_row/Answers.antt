use Rattle.std.proofs.Common.{arith, refl, subst, ◌≤◌, ◌<◌, ℕ, List, [], length, get_or}
use Rattle.std.proofs.lemmas.List.{get_or_default}
use Rattle.board.specs.Logs.{no_row}
use Rattle.rule_audit.specs.Obligations.{is_timed_by}
use Rattle.rule_audit.specs.Judged.{HasVerdict}
use Rattle.rule_audit.specs.Index.{no_rule, IsSkips}
use Rattle.rule_audit.specs.Pass.{log_of}
use Rattle.rule_audit.proofs.Adding.{adds_none}
use Rattle.rule_audit.proofs.Indexing.{none_timed_by, row_none, timed_skips}
use Rattle.rule_audit.proofs.tenth.judge_row.Goals as goal

pub judge_timed-requires-clause-timed : goal.judge_timed-requires-clause-timed
judge_timed-requires-clause-timed c =
    let h = c.args.hour.now in
    let row = get_or h.rows.now c.args.index no_row in
    let own = get_or h.own.now c.args.index 0 in
    let size = c.requires.ready.timed.0 in
    let lt : own < length h.timed.now = c.if-own-hour.true in
    subst (λ (xs : List ℕ). IsSkips (λ x. is_timed_by h.specs.now row (get_or h.rules.now x no_rule)) (length h.rules.now) xs) (get_or_default h.timed.now own [] c.index-hour-own.result lt) (timed_skips h.specs.now h.rules.now row own (c.requires.ready.own.1 c.args.index c.requires.index c.requires.known) (length h.specs.now) h.timed.now c.requires.ready.timed (omega arith) refl)

pub returns : goal.returns
returns c = λ e is.
    let h = c.args.hour.now in
    let row = get_or h.rows.now c.args.index no_row in
    let own = get_or h.own.now c.args.index 0 in
    let size = c.requires.ready.timed.0 in
    let over : length h.timed.now ≤ own = c.if-own-hour.false in
    rw (row_none h.specs.now c.args.index row h.rules.now (none_timed_by h.specs.now h.rules.now row own (c.requires.ready.own.1 c.args.index c.requires.index c.requires.known) (omega arith))) (adds_none (HasVerdict (log_of h e)) c.args.lines.now.items)
