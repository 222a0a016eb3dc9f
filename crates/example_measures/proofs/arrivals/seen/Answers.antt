use Rattle.std.proofs.Common.{rules, List, [], ◌∷◌, ap, length}
use Rattle.channel_tables.specs.declared.spec.Spec.{Spec}
use Rattle.board.specs.Logs.{HourLog, hour_log}
use Rattle.board.specs.Places.{IsLog}
use Rattle.board.proofs.Cases.{start_early}
use Rattle.example_measures.proofs.arrivals.seen.Goals as goal

pub new-requires-clause-log : goal.new-requires-clause-log
new-requires-clause-log c =
    let specs : List Spec = c.free.result ∷ c.free-2.result ∷ [] in (
      0,
      record {
        are_specs = search rules;
        is_hour = record { are_rows = c.requires.rows; follow = c.requires.stretches };
        early = start_early specs c.in_ok-before.before c.in_ok-before.ensures.shape c.in_ok-before.ensures.states;
      },
    )

pub returns : goal.returns
returns c =
    let specs : List Spec = c.free.result ∷ c.free-2.result ∷ [] in
    let log : IsLog (hour_log 0 specs c.args.rows.now c.args.stretches.now c.in_ok-before.before c.in_ok-after.after) =
    record {
      are_specs = search rules;
      is_hour = record { are_rows = c.requires.rows; follow = c.requires.stretches };
      early = start_early specs c.in_ok-before.before c.in_ok-before.ensures.shape c.in_ok-before.ensures.states;
    } in
    ap (λ (v : HourLog). length v.specs) (c.in_ok-view.ensures 0 log)
