-- The table of a pedestrian signal.
use Rattle.std.specs.Prelude.{ℕ, [], ◌∷◌, codes}
use Rattle.channel_tables.specs.Table.{Table, line}

-- the pedestrian signal shows walk
abbrev pub walk : ℕ
walk = 1

-- 21 begin walk, 22 begin clearance, 23 begin solid don't walk, 24 dark: these are the letters 0 to 3; in the clearance don't walk flashes, in the dark nothing is shown
abbrev pub ped_table : Table
ped_table =
    let dont_walk : ℕ = 0 in let clearance : ℕ = 2 in let dark : ℕ = 3 in let any = dont_walk ∷ walk ∷ clearance ∷ dark ∷ [] in
    record {
      names = codes "DontWalk" ∷ codes "Walk" ∷ codes "Clearance" ∷ codes "Dark" ∷ [];
      signs = 21 ∷ 22 ∷ 23 ∷ 24 ∷ [];
      lines = line 21 any walk ∷ line 22 (walk ∷ []) clearance ∷ line 23 any dont_walk ∷ line 24 any dark ∷ [];
    }
