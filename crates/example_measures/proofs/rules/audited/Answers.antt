use Rattle.std.proofs.Common.{refl, ◌≡◌, ◌≤◌, ◌<◌, ◌∷◌, [], true, ℕ}
use Rattle.sig_base.specs.declared.values.Row.{Row}
use Rattle.gap_map.specs.declared.stretch.Stretch.{Stretch}
use Rattle.board.specs.Logs.{IsHour}
use Rattle.board.proofs.Cases.{whole_hour}
use Rattle.example_measures.proofs.rules.audited.Goals as goal

abbrev whole : Stretch
whole = record { from = 0; to = 36000; known = true }

two_rows_hour : (a b : Row) (yellow : ℕ) → a ≡ record { at = 1000; code = 1; param = 2 } → b ≡ record { at = yellow; code = 8; param = 2 } → 1000 ≤ yellow → yellow < 36000 → IsHour 0 (a ∷ b ∷ []) (whole ∷ [])
two_rows_hour a b yellow e f le lt = rw (e, f) (whole_hour (record { at = 1000; code = 1; param = 2 }) (record { at = yellow; code = 8; param = 2 }) whole le lt refl refl)

pub seen-requires : goal.seen-requires
seen-requires c = two_rows_hour c.row.result c.row-2.result c.args.yellow c.row.ensures c.row-2.ensures c.requires.low c.requires.high

pub audit_rows-requires-clause-view : goal.audit_rows-requires-clause-view
audit_rows-requires-clause-view c = c.in_ok-view.ensures
