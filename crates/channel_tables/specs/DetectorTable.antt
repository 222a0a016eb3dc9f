-- The table of detectors.
use Rattle.std.specs.Prelude.{ℕ, [], ◌∷◌, codes, map}
use Rattle.channel_tables.specs.Table.{Table, line}

-- 81 off, 82 on, 83 restored, 84 to 88 faults: these are the letters 0 to 7; in a fault, no row 81, 82 or 83 has come since it began
abbrev pub detector_table : Table
detector_table =
    let off : ℕ = 0 in let on : ℕ = 1 in let fault : ℕ = 2 in let any = off ∷ on ∷ fault ∷ [] in
    record {
      names = codes "Off" ∷ codes "On" ∷ codes "Fault" ∷ [];
      signs = 81 ∷ 82 ∷ 83 ∷ 84 ∷ 85 ∷ 86 ∷ 87 ∷ 88 ∷ [];
      lines =
          line 81 any off
          ∷ line 82 any on
          ∷ line 83 (off ∷ fault ∷ []) off ∷ line 83 (on ∷ []) on
          ∷ map (λ code. line code any fault) (84 ∷ 85 ∷ 86 ∷ 87 ∷ 88 ∷ []);
    }
