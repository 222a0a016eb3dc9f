use Rattle.std.proofs.Common.{get_or}
use Rattle.event_codes.specs.Channels.{channel_in_table}
use Rattle.reach.proofs.Alone.{on_ok}
use Rattle.board.proofs.Tracks.{found_channel}
use Rattle.board.specs.Logs.{no_row, no_spec}
use Rattle.rule_audit.specs.declared.lines.Place.TheVariants.{BeforeRow}
use Rattle.rule_audit.specs.declared.rules.Rule.TheVariants.{Interval}
use Rattle.rule_audit.specs.Obligations.{obligation}
use Rattle.rule_audit.specs.Judged.{HasVerdict}
use Rattle.rule_audit.specs.Pass.{log_of}
use Rattle.rule_audit.proofs.Adding.{adds_one}
use Rattle.rule_audit.proofs.tenth.judge_interval.Goals as goal

pub interval_verdict-verdict-requires-clause-own : goal.interval_verdict-verdict-requires-clause-own
interval_verdict-verdict-requires-clause-own c =
    let row = get_or c.args.hour.now.rows.now c.args.index no_row in
    found_channel (get_or c.args.hour.now.specs.now c.args.item.now.spec no_spec).channel (channel_in_table row.code row.param) c.requires.own

pub returns : goal.returns
returns c =
    let row = get_or c.args.hour.now.rows.now c.args.index no_row in
    on_ok c.push_line.result _ _ (λ f e is. rw c.requires.own (adds_one (HasVerdict (log_of c.args.hour.now e)) (obligation c.args.number (Interval c.args.item.now) row.at (BeforeRow c.args.index)) c.interval_verdict-verdict.result c.args.lines.now.items _ (c.interval_verdict-verdict.ensures e is c.requires.known) (f (Interval c.args.item.now)))) c.push_line.ensures
