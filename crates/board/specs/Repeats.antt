-- Channels that have what the one before them has.
use Rattle.std.specs.Prelude.{◌≡◌, ℕ, ◌+◌, List, [], slice_index_or}
use Rattle.channel_path.specs.declared.moves.Move.{Move}
use Rattle.channel_tables.specs.declared.spec.Spec.{Spec}
use Rattle.board.specs.Stops.{rules_at}

-- the channel with this place has the machine and the moves of the one before it
pub record Repeats (specs : List Spec) (courses : List (List Move)) (i : ℕ) : Type 0 where
  pub last : ℕ
  pub place : last + 1 ≡ i
  pub rules : (d : Spec) → rules_at specs i d ≡ rules_at specs last d
  pub moves : slice_index_or courses i [] ≡ slice_index_or courses last []

-- at this place of the list stands the same as at the one before it
abbrev pub StandsTwice : {A : Type 0} → List (List A) → ℕ → Type 0
StandsTwice xs i = (j : ℕ) → j + 1 ≡ i → slice_index_or xs i [] ≡ slice_index_or xs j []
