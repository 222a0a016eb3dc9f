-- The table of an overlap.
use Rattle.std.specs.Prelude.{ℕ, [], ◌∷◌, codes}
use Rattle.channel_tables.specs.Table.{Table, line}

-- the overlap shows green
abbrev pub green : ℕ
green = 1

-- 61 begin green, 62 begin trailing green, 63 begin yellow, 64 begin red clearance, 65 off, 66 dark: these are the letters 0 to 5;
-- off it is inactive and shows red, in the trailing green its green goes on after that of its phases, in the dark it shows nothing
abbrev pub overlap_table : Table
overlap_table =
    let off : ℕ = 0 in let trailing : ℕ = 2 in let yellow : ℕ = 3 in let clear : ℕ = 4 in let dark : ℕ = 5 in
    let any = off ∷ green ∷ trailing ∷ yellow ∷ clear ∷ dark ∷ [] in
    record {
      names = codes "Off" ∷ codes "Green" ∷ codes "Trailing" ∷ codes "Yellow" ∷ codes "Clear" ∷ codes "Dark" ∷ [];
      signs = 61 ∷ 62 ∷ 63 ∷ 64 ∷ 65 ∷ 66 ∷ [];
      lines =
          line 61 (off ∷ green ∷ trailing ∷ clear ∷ dark ∷ []) green
          ∷ line 62 (green ∷ []) trailing
          ∷ line 63 (green ∷ trailing ∷ []) yellow
          ∷ line 64 (yellow ∷ []) clear
          ∷ line 65 any off
          ∷ line 66 any dark
          ∷ [];
    }
