-- The tables of what is only off or on: pedestrian detectors and preempt inputs.
use Rattle.std.specs.Prelude.{ℕ, [], ◌∷◌, codes}
use Rattle.channel_tables.specs.Table.{Table, line}

-- the table of a switch with these codes for off and on: they are the letters 0 and 1, and lead to the colours 0, off, and 1, on
abbrev pub switch_table : ℕ → ℕ → Table
switch_table off_code on_code = record {
  names = codes "Off" ∷ codes "On" ∷ [];
  signs = off_code ∷ on_code ∷ [];
  lines = line off_code (0 ∷ 1 ∷ []) 0 ∷ line on_code (0 ∷ 1 ∷ []) 1 ∷ [];
}

-- For contracts alone: 89 pedestrian detector off, 90 pedestrian detector on.
abbrev pub ped_detector_table : Table
ped_detector_table = switch_table 89 90

-- For contracts alone: 104 preempt call input off, 102 preempt call input on.
abbrev pub preempt_input_table : Table
preempt_input_table = switch_table 104 102
