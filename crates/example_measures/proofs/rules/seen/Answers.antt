use Rattle.std.proofs.Common.{refl}
use Rattle.board.specs.Logs.{hour_log}
use Rattle.board.specs.Places.{IsLog}
use Rattle.board.proofs.Cases.{start_early}
use Rattle.rule_audit.proofs.Running.{runs_there}
use Rattle.rule_audit.proofs.Tracked.{channels_are}
use Rattle.example_measures.proofs.rules.seen.Goals as goal

pub start-requires : goal.start-requires
start-requires c = rw c.specs-specs.ensures.value (channels_are c.args.config.now c.specs-specs.ensures.sound)

pub end-requires-clause-specs : goal.end-requires-clause-specs
end-requires-clause-specs c = rw c.specs-specs.ensures.value (channels_are c.args.config.now c.specs-specs.ensures.sound)

pub pasts_hour-requires-clause-specs : goal.pasts_hour-requires-clause-specs
pasts_hour-requires-clause-specs c = rw c.specs-specs.ensures.value (channels_are c.args.config.now c.specs-specs.ensures.sound)

pub pasts_hour-requires-clause-hour : goal.pasts_hour-requires-clause-hour
pasts_hour-requires-clause-hour c = (0, c.requires, start_early c.specs-specs.result.now c.in_ok-before.before c.in_ok-before.ensures.shape c.in_ok-before.ensures.states)

pub new-requires-clause-log : goal.new-requires-clause-log
new-requires-clause-log c = (
  0,
  record {
    are_specs = rw c.specs-specs.ensures.value (channels_are c.args.config.now c.specs-specs.ensures.sound);
    is_hour = c.requires;
    early = start_early c.specs-specs.result.now c.in_ok-before.before c.in_ok-before.ensures.shape c.in_ok-before.ensures.states;
  },
)

pub returns : goal.returns
returns c =
    let specs = c.specs-specs.result.now in
    let rows = c.args.rows.now in
    let stretches = c.args.stretches.now in
    let before = c.in_ok-before.before in
    let after = c.in_ok-after.after in
    let early = start_early specs before c.in_ok-before.ensures.shape c.in_ok-before.ensures.states in
    let log : IsLog (hour_log 0 specs rows stretches before after) = record { are_specs = rw c.specs-specs.ensures.value (channels_are c.args.config.now c.specs-specs.ensures.sound); is_hour = c.requires; early = early } in (
      hour_log 0 specs rows stretches before after,
      record {
        is_view = record {
          same = c.in_ok-view.ensures 0 log;
          is_log = log;
        };
        same_specs = c.specs-specs.ensures.value;
        same_rows = refl;
        same_stretches = refl;
        runs = runs_there 0 specs rows stretches before c.in_ok-_later._later after c.requires c.in_ok-_later.ensures.pasts c.in_ok-_later.ensures.shape (c.in_ok-_later.ensures.early 0 c.requires) c.in_ok-after.ensures.states;
      },
    )
