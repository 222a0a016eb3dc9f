-- The rows of an hour in chains: those of a phase or of a detector, one after another.
use Rattle.std.specs.Prelude.{◌≡◌, ℕ, ◌+◌, ◌*◌, ◌<◌, ◌≤◌, Bool, true, false, List, length, slice_index_or}
use Rattle.sig_base.specs.declared.values.Row.{Row}
use Rattle.board.specs.Logs.{no_row}
use Rattle.arrival_measures.specs.Arrivals.{is_on}
use Rattle.arrival_measures.specs.Own.{turns_green}
use Rattle.arrival_measures.specs.declared.chains.Chain.{Chain}
use Rattle.arrival_measures.specs.declared.chains.Chain.TheVariants.{Green, On}

-- the chain has the row: it begins or ends green of the phase, or the detector goes on
abbrev pub is_in : Chain → Row → Bool
is_in (Green p) x = turns_green p x
is_in (On d) x = is_on d x

-- its phase or detector
abbrev pub number_of : Chain → ℕ
number_of (Green p) = p
number_of (On d) = d

-- where a table of all chains has it: those of a phase and of the detector with its number side by side
abbrev pub cell_of : Chain → ℕ
cell_of (Green p) = 2 * p
cell_of (On d) = 2 * d + 1

-- this chain has the row, and no other
pub record IsOnlyIn (x : Row) (own : Chain) : Type 0 where
  pub has : is_in own x ≡ true
  pub only : (c : Chain) → is_in c x ≡ true → c ≡ own

-- m is the first place from k on of a row that passes, or the number of rows where none does
pub record IsNext (test : Row → Bool) (rows : List Row) (k m : ℕ) : Type 0 where
  pub from : k ≤ m
  pub within : m ≤ length rows
  pub none : (j : ℕ) → k ≤ j → j < m → test (slice_index_or rows j no_row) ≡ false
  pub passes : m < length rows → test (slice_index_or rows m no_row) ≡ true

-- the rows from place k on in chains: of each chain its first place, or the number of rows where the table doesn't go so far, and of each row of it the place of the next
pub record AreChains (rows : List Row) (k : ℕ) (heads next : List ℕ) : Type 0 where
  pub size : length next ≡ length rows
  pub first : (c : Chain) → number_of c < 256 → IsNext (is_in c) rows k (slice_index_or heads (cell_of c) (length rows))
  pub later : (c : Chain) (j : ℕ) → number_of c < 256 → k ≤ j → j < length rows → is_in c (slice_index_or rows j no_row) ≡ true → IsNext (is_in c) rows (j + 1) (slice_index_or next j 0)
