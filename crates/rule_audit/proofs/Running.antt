-- Where the states after an hour are found, and all are admitted there, some history of the hour agrees.
use Rattle.std.proofs.Common.{refl, inl, inr, ℕ, ℤ, pos, ◌-ℤ◌, List, [], length, get_or, Option, arith}
use Rattle.std.proofs.lemmas.Int.{ints}
use Rattle.span_set.specs.declared.set.Span.{Span}
use Rattle.span_set.proofs.Sets.{int_cases}
use Rattle.reach.specs.Runs.{state}
use Rattle.sig_base.specs.declared.values.Row.{Row}
use Rattle.gap_map.specs.declared.stretch.Stretch.{Stretch}
use Rattle.channel_tables.specs.declared.spec.Spec.{Spec}
use Rattle.reach.proofs.Common.{colour_there}
use Rattle.board.specs.Hours.{AreEnds, ArePastsOf}
use Rattle.board.specs.Logs.{IsHour, end_tenth, hour_log, no_spec}
use Rattle.board.specs.Places.{AllEarly}
use Rattle.board.specs.Stops.{AreBefore}
use Rattle.rule_audit.specs.Judged.{HasRuns}

pub runs_there : (h : ℕ) (specs : List Spec) (rows : List Row) (ss : List Stretch) (before pasts : List (List (List Span))) (after : List (List (Option ℤ))) → IsHour h rows ss → ArePastsOf specs rows ss before pasts → AreBefore specs pasts → AllEarly (end_tenth h) pasts → AreEnds specs (pos (end_tenth h)) (length specs) after → HasRuns (hour_log h specs rows ss before after)
runs_there h specs rows ss before pasts after is are shape early ends i lt =
    let (goes, clamped) = are h is in
    let (u, (s, held, run)) = goes i lt in
    let limit : ℤ = pos (end_tenth h) -ℤ pos 36001 in
    let colours = (shape.1 i no_spec lt).0 in
    elim (int_cases u.entry limit) [
      | inr (_, le) ↦
          let there = (clamped i lt u).1 (inl ((s, held, run), le)) in
          let few = colour_there (get_or pasts i []) u there in
          (s, held, (u, run, (ends i lt u).1 (omega arith, early i u there)))
      | inl (_, less) ↦
          let there = (clamped i lt (state u.colour limit)).1 (inr (refl, (u.entry, (s, held, run), less))) in
          let few = colour_there (get_or pasts i []) (state u.colour limit) there in
          (s, held, (u, run, (ends i lt u).1 (omega arith, omega (arith, ints))))
    ]
