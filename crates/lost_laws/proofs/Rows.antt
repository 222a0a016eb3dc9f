-- A line before a row, explained by a walk over its channel's moves.
use Rattle.std.proofs.Common.{◌≡◌, refl, ap, sym, ◌∙◌, subst, ◌↔◌, ℕ, ◌+◌, ◌<◌, pos, List, ◌∷◌, ◌++◌, length, length-append, take, drop, get_or, arith, Some}
use Rattle.std.proofs.lemmas.Bool.{eq-eqb}
use Rattle.std.proofs.lemmas.List.{drop_at, drop_more, get_or_at, take_at}
use Rattle.colour_machine.specs.Rules.{Goes}
use Rattle.reach.specs.Runs.{State}
use Rattle.sig_base.specs.declared.values.Row.{Row}
use Rattle.board.specs.History.{Event, Track, event_of, events_at}
use Rattle.board.specs.Logs.{no_row}
use Rattle.board.proofs.Bridge.{event_here}
use Rattle.board.proofs.Rows.{rows_split}
use Rattle.signal_log.specs.Log.{Log, track_at}
use Rattle.lost_rows.specs.Stills.{Spares}
use Rattle.lost_rows.specs.Lines.{ExplainsInterval, IntervalRule, KeptAt}
use Rattle.lost_laws.specs.Channels.{ChannelExplains, IsChannelsRow, asked_of}
use Rattle.lost_laws.specs.Walks.{EndsColour, IsPart, NeedsOfRow, Part, RowWalk, line_in, row_in}
use Rattle.lost_laws.proofs.Channels.{row_to}
use Rattle.lost_laws.proofs.Histories.{row_back}
use Rattle.lost_laws.proofs.Needs.{same_least}
use Rattle.lost_laws.proofs.Parts.{IsCutAt, completed_place, events_parts, reached_place}

module _ (log : Log) (p : Part) (rule : IntervalRule) (n : ℕ) (part : IsPart log p) (row : EndsColour log p rule n) where
  abbrev k : Track
  k = track_at log rule.channel

  abbrev x : ℕ
  x = (row_in p n).at

  abbrev given : List Event
  given = events_at log.rows x

  abbrev front : List Event
  front = events_at (take n p.rows) x

  abbrev back : List Event
  back = events_at (drop n p.rows) x

  abbrev no_row_event : Event
  no_row_event = record { code = 0; param = 0 }

  pub row_cut : IsCutAt log p x n
  row_cut = let (a, b, c, d) = rows_split p.from p.to n p.rows part.rows_in row.within in record { first = c; last = d; is_known = row.is_known; before = a; after = b }

  parts : given ≡ front ++ back
  parts = events_parts log p n x part row_cut.first row_cut.last

  pub front_is : take (length front) given ≡ front
  front_is = ap (λ es. take (length front) es) parts ∙ take_at front back (length front) refl

  pub back_is : drop (length front) given ≡ back
  back_is = ap (λ es. drop (length front) es) parts ∙ drop_at front back (length front) refl

  -- the row comes first of those that aren't before it
  row_first : (rest : List Event) × (back ≡ event_of (row_in p n) ∷ rest)
  row_first = (events_at (drop (n + 1) p.rows) x, ap (λ (rs : List Row). events_at rs x) (drop_more p.rows n no_row row.within) ∙ event_here (row_in p n) (drop (n + 1) p.rows) x (eq-eqb x x refl))

  row_is : get_or given (length front) no_row_event ≡ event_of (row_in p n)
  row_is =
      let (rest, first) = row_first in
      ap (λ es. get_or es (length front) no_row_event) (parts ∙ ap (λ es. front ++ es) first) ∙ get_or_at front (event_of (row_in p n)) rest no_row_event (length front) refl

  row_counts : length front < length given
  row_counts =
      let (rest, first) = row_first in
      let all = ap length (parts ∙ ap (λ es. front ++ es) first) in
      let size = length-append front (event_of (row_in p n) ∷ rest) in
      omega arith

  row_letter : k.letter (get_or given (length front) no_row_event).code (get_or given (length front) no_row_event).param ≡ Some row.letter
  row_letter = subst (λ (e : Event). k.letter e.code e.param ≡ Some row.letter) (sym row_is) row.is_letter

  channels_row : IsChannelsRow log (line_in p rule n)
  channels_row =
      let here = row_cut in
      let lt = here.last in
      let within = part.within in
      record {
        channel = row.channel;
        row = record { within = omega arith; is_known = row.is_known; row = row_counts };
        letter = row.letter;
        is_letter = row_letter;
      }

  -- the row keeps the rule where the rule's colour, which it ends, meets the bound
  kept_is : (v : State) → KeptAt log rule x (get_or given (length front) no_row_event) v ↔ Spares (asked_of rule) (pos x) v
  kept_is v = (
    λ kept same. kept same row.letter row.next row_letter (subst (λ (c : ℕ). Goes k.rules c row.letter row.next) (sym same) row.goes) (λ stays. row.leaves (stays ∙ same)),
    λ spares same l d is goes ne. spares same,
  )

  pub to_walk : (j : ℕ) → ChannelExplains log (line_in p rule n) j → RowWalk log p rule n j
  to_walk j (v, (a, b, sum, (c, d, sum1, (z, reached, to)), (e, f, sum2, (y, from, completed))), kept) =
      let r = asked_of rule in
      let one = (reached_place log p rule.channel x n part row_cut r a v).0 (c, d, sum1, (z, reached, rw front_is at to)) in
      let two = (completed_place log p rule.channel x n part row_cut b v).0 (e, f, sum2, (y, rw back_is at from, completed)) in
      (a, b, sum, (v, one, (kept_is v).0 kept, two))

  pub from_walk : (j : ℕ) → RowWalk log p rule n j → ChannelExplains log (line_in p rule n) j
  from_walk j (a, b, sum, (v, one, spares, two)) =
      let r = asked_of rule in
      let (c, d, sum1, (z, reached, to)) = (reached_place log p rule.channel x n part row_cut r a v).1 one in
      let (e, f, sum2, (y, from, completed)) = (completed_place log p rule.channel x n part row_cut b v).1 two in
      (v, (a, b, sum, (c, d, sum1, (z, reached, rw front_is to)), (e, f, sum2, (y, rw back_is from, completed))), (kept_is v).1 spares)

pub needs_row : NeedsOfRow
needs_row log p rule n k are has part row =
    let line = line_in p rule n in
    let is = channels_row log p rule n part row in
    same_least (ExplainsInterval log line) (RowWalk log p rule n) k
    (λ m explains. let (j, le, may) = row_to log line m is explains in (j, le, to_walk log p rule n part row j may))
    (λ j walk. row_back log line j are has is (from_walk log p rule n part row j walk))
