-- The table of a preempt's service.
use Rattle.std.specs.Prelude.{ℕ, [], ◌∷◌, codes}
use Rattle.channel_tables.specs.Table.{Table, line}

-- 105 preempt entry started, 106 begin track clearance, 107 begin dwell service, 111 begin exit interval: these are the letters 0 to 3;
-- at rest no service runs: none has begun, or its exit has; at the entry one has begun, and neither track clearance nor dwell
abbrev pub preempt_table : Table
preempt_table =
    let rest : ℕ = 0 in let entry : ℕ = 1 in let track : ℕ = 2 in let dwell : ℕ = 3 in let any = rest ∷ entry ∷ track ∷ dwell ∷ [] in
    record {
      names = codes "Rest" ∷ codes "Entry" ∷ codes "Track" ∷ codes "Dwell" ∷ [];
      signs = 105 ∷ 106 ∷ 107 ∷ 111 ∷ [];
      lines = line 105 any entry ∷ line 106 (entry ∷ track ∷ []) track ∷ line 107 (entry ∷ track ∷ dwell ∷ []) dwell ∷ line 111 any rest ∷ [];
    }
