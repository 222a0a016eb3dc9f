-- The table of a phase.
use Rattle.std.specs.Prelude.{ℕ, [], ◌∷◌, codes}
use Rattle.channel_tables.specs.Table.{Table, line}

-- the phase is inactive and shows red
abbrev pub red : ℕ
red = 0

-- the phase has become active, and its green hasn't begun
abbrev pub on : ℕ
on = 1

-- the phase shows green
abbrev pub green : ℕ
green = 2

-- the phase's green has been terminated, and its yellow hasn't begun
abbrev pub term : ℕ
term = 3

-- the phase shows yellow
abbrev pub yellow : ℕ
yellow = 4

-- the phase's yellow has ended, and no red clearance has begun
abbrev pub yellow_done : ℕ
yellow_done = 5

-- the phase's red clearance runs
abbrev pub clear : ℕ
clear = 6

-- the phase's red clearance has ended, and it isn't inactive yet
abbrev pub clear_done : ℕ
clear_done = 7

-- 0 phase on, 1 begin green, 7 green termination, 8 begin yellow, 9 end yellow, 10 begin red clearance, 11 end red clearance, 12 phase inactive: these are the letters 0 to 7.
-- A line from a colour to itself takes a row that a controller writes late, or once more; where a code has no line for a colour, its row is illegal there.
abbrev pub phase_table : Table
phase_table = record {
  names = codes "Red" ∷ codes "On" ∷ codes "Green" ∷ codes "Term" ∷ codes "Yellow" ∷ codes "YellowDone" ∷ codes "Clear" ∷ codes "ClearDone" ∷ [];
  signs = 0 ∷ 1 ∷ 7 ∷ 8 ∷ 9 ∷ 10 ∷ 11 ∷ 12 ∷ [];
  lines =
      line 0 (red ∷ yellow_done ∷ clear_done ∷ []) on ∷ line 0 (green ∷ []) green
      ∷ line 1 (red ∷ on ∷ term ∷ yellow_done ∷ clear_done ∷ []) green
      ∷ line 7 (green ∷ []) term ∷ line 7 (yellow ∷ []) yellow
      ∷ line 8 (green ∷ term ∷ []) yellow
      ∷ line 9 (yellow ∷ []) yellow_done ∷ line 9 (clear ∷ []) clear
      ∷ line 10 (yellow ∷ yellow_done ∷ []) clear
      ∷ line 11 (clear ∷ []) clear_done ∷ line 11 (red ∷ []) red
      ∷ line 12 (term ∷ yellow_done ∷ clear ∷ clear_done ∷ []) red ∷ line 12 (red ∷ []) red
      ∷ [];
}
