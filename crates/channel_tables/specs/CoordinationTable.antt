-- The table of the coordination.
use Rattle.std.specs.Prelude.{[], ◌∷◌, codes, map}
use Rattle.channel_tables.specs.Table.{Table, line}

-- code 150, coord cycle state change: the sign is its parameter, and so are the letter and the state that it leads to, from any state;
-- 0 the signal runs free, 1 in step with its plan, 2 to 4 in transition: adding time to cycles, taking time from them, dwelling; 5 local zero, 6 begin of pickup
abbrev pub coordination_table : Table
coordination_table =
    let states = 0 ∷ 1 ∷ 2 ∷ 3 ∷ 4 ∷ 5 ∷ 6 ∷ [] in
    record {
      names = codes "0" ∷ codes "1" ∷ codes "2" ∷ codes "3" ∷ codes "4" ∷ codes "5" ∷ codes "6" ∷ [];
      signs = states;
      lines = map (λ state. line state states state) states;
    }
