-- What the states before an hour and after it tell of the way back.
use Rattle.std.proofs.Common.{◌≡◌, refl, arith, inl, inr, ℕ, ℤ, ◌≤ℤ◌, ◌<◌, List, [], length, get_or, Option}
use Rattle.std.proofs.lemmas.Int.{ints}
use Rattle.span_set.specs.declared.set.Span.{Span}
use Rattle.colour_machine.specs.Rules.{Rules}
use Rattle.reach.specs.Runs.{State, state}
use Rattle.reach.specs.Past.{Holds}
use Rattle.reach.specs.Ahead.{Admits}
use Rattle.reach.proofs.Common.{not_later}
use Rattle.channel_path.specs.declared.moves.Move.{Move}
use Rattle.channel_path.specs.Walks.{AfterMoves, GoesThrough}
use Rattle.channel_tables.specs.Spec.{rules_of}
use Rattle.channel_tables.specs.declared.spec.Spec.{Spec}
use Rattle.sig_base.specs.declared.values.Row.{Row}
use Rattle.gap_map.specs.declared.stretch.Stretch.{Stretch}
use Rattle.board.specs.Channels.{track}
use Rattle.board.specs.Hours.{ArePastsOf}
use Rattle.board.specs.Logs.{IsHour, end_tenth, first_tenth, no_spec}
use Rattle.board.specs.Stops.{moves_at}
use Rattle.board.proofs.Plain.{after_hour}
use Rattle.board.proofs.Within.{hour_rows}

-- some state to which the moves lead has the colour of this one, and no later entry
abbrev pub HasEarlier : Rules → List (List Span) → List Move → State → Type 0
HasEarlier m before xs u = (v : State) × AfterMoves m before xs v × (v.colour ≡ u.colour) × (v.entry ≤ℤ u.entry)

-- what is admitted is admitted with an earlier entry too
pub admits_earlier : (after : List (Option ℤ)) (u v : State) → v.colour ≡ u.colour → v.entry ≤ℤ u.entry → Admits after u → Admits after v
admits_earlier after u v same le a = rw same (not_later (get_or after u.colour _) v.entry u.entry le a)

-- a state that is admitted, and is as late as one to which the moves lead, shows a run that goes through
pub goes_through : (m : Rules) (before reached : List (List Span)) (after : List (Option ℤ)) (xs : List Move) → ((u : State) → Holds reached u → HasEarlier m before xs u) → ((s : State) × Holds reached s × Admits after s) → GoesThrough m before after xs
goes_through m before reached after xs each (s, holds, admits) =
    let (v, leads, same, le) = each s holds in
    (v, leads, admits_earlier after s v same le admits)

-- the states after an hour, those older than an hour made one, are as late as those to which the moves lead
pub earlier_twin : (specs : List Spec) (rows : List Row) (ss : List Stretch) (h i : ℕ) (before reached : List (List (List Span))) (u : State) → IsHour h rows ss → i < length specs → ArePastsOf specs rows ss before reached → Holds (get_or reached i []) u → HasEarlier (rules_of (get_or specs i no_spec)) (get_or before i []) (moves_at specs rows ss i no_spec) u
earlier_twin specs rows ss h i before reached u is lt are holds =
    let k = track (get_or specs i no_spec) in
    let plain = λ (v : State). after_hour k (first_tenth h) (end_tenth h) rows ss (get_or before i []) is.follow (hour_rows h rows ss is) v in
    elim (((are h is).1 i lt u).0 holds) [
      | inl (there, _) ↦ (u, (plain u).1 there, refl, omega (arith, ints))
      | inr (at, (e, there, early)) ↦ (state u.colour e, (plain (state u.colour e)).1 there, refl, omega (arith, ints))
    ]
