-- Some tenths of a store: their rows, and their stretches by what is known.
use Rattle.std.specs.Prelude.{◌≡◌, ℕ, ◌+◌, ◌*◌, ◌<◌, ◌≤◌, ◌^◌, pos, negsuc, ◌≤ℤ◌, ◌<ℤ◌, List, length, take, drop}
use Rattle.sig_base.specs.declared.values.Row.{Row}
use Rattle.sig_base.specs.HourRows.{AreRowsOf}
use Rattle.colour_machine.specs.Rules.{Rules}
use Rattle.gap_map.specs.declared.stretch.Stretch.{Stretch}
use Rattle.gap_map.specs.Stretches.{Alternate, FollowOn, IsCut}
use Rattle.channel_path.specs.declared.moves.Move.{Move}
use Rattle.channel_path.specs.Walks.{InOrder}
use Rattle.channel_path.specs.Places.{limit_of}
use Rattle.hour_store.specs.Store.{Store, is_known, rows_at}
use Rattle.channel_tables.specs.declared.spec.Spec.{Spec}
use Rattle.board.specs.Channels.{track}
use Rattle.board.specs.Moves.{RowsIn, own}
use Rattle.board.specs.Places.{since, upto}
use Rattle.signal_log.specs.Points.{rows_or_none}
use Rattle.channel_ways.specs.Moves.{IsAlone}
use Rattle.channel_ways.specs.declared.passage.Passing.{Passing}
use Rattle.strand_search.specs.declared.part.Part.{Part}
use Rattle.strand_search.specs.declared.cut.Cut.{Cut}

-- these rows and stretches are of the tenths from f up to t
pub record IsPart (f t : ℕ) (rows : List Row) (ss : List Stretch) : Type 0 where
  pub follow : FollowOn f t ss
  pub rows_in : RowsIn f t rows
  pub alternate : Alternate ss
  pub few : length rows < 2 ^ 32

abbrev pub IsPartOf : ℕ → ℕ → Part → Type 0
IsPartOf f t p = IsPart f t p.rows.now p.stretches.items

-- these are the rows of the hour, none where it isn't held, and its cut by what is known
pub record IsHourPart (s : Store) (hour : ℕ) (rows : List Row) (ss : List Stretch) : Type 0 where
  pub rows_are : rows ≡ rows_or_none (rows_at s hour)
  pub fit : AreRowsOf hour rows
  pub cut : IsCut (is_known s) (36000 * hour) (36000 * hour + 36000) ss

-- the part is cut at a place of tenth x, after the first n of its rows
pub record IsCutOf (rows : List Row) (ss : List Stretch) (x n : ℕ) (cut : Cut) : Type 0 where
  pub left_rows : cut.left.rows.now ≡ take n rows
  pub left_stretches : cut.left.stretches.items ≡ upto x ss
  pub right_rows : cut.right.rows.now ≡ drop n rows
  pub right_stretches : cut.right.stretches.items ≡ since x ss

-- a state that stands alone, entered before tenth low
pub record StandsAlone (m : Rules) (low : ℕ) (here : Passing) : Type 0 where
  pub alone : IsAlone here.only here.state
  pub colours : length here.only ≡ m.colours
  pub early : here.state.entry <ℤ pos low
  pub late : negsuc (2 ^ 39) ≤ℤ here.state.entry

-- the moves come after tenth low and end soon
abbrev pub GoOn : Rules → ℕ → List Move → Type 0
GoOn m low xs = InOrder m low xs × (limit_of low xs ≤ 2 ^ 38)

-- the channel's moves over the part
abbrev pub moves_over : Spec → Part → List Move
moves_over d p = own (track d) 0 p.rows.now p.stretches.items
