-- Lines of what is to be judged in a store.
use Rattle.std.specs.Prelude.{◌≡◌, ◌⊎◌, ℕ, ◌-◌, ◌/◌, ◌&&◌, Bool, nat_lt, List, [], ◌∷◌}
use Rattle.hour_store.specs.Store.{Store, is_known}
use Rattle.board.specs.Logs.{first_tenth}
use Rattle.ring_config.specs.Settings.{Settings}
use Rattle.rule_audit.specs.declared.lines.AuditLine.{AuditLine}
use Rattle.rule_audit.specs.Rules.{rules_for}
use Rattle.rule_audit.specs.Obligations.{Obligation, obligations_from}
use Rattle.filling_pair.specs.Kept.{IsLineOf}
use Rattle.signal_log.specs.Rows.{hour_rows}

-- the tenth before this one is known; before tenth 0 there is none
abbrev pub is_known_before : (ℕ → Bool) → ℕ → Bool
is_known_before known t = nat_lt 0 t && known (t - 1)

-- what is to be judged in an hour of the store
unfoldable pub obligations_in : Settings → Store → ℕ → List Obligation
obligations_in c s hour = obligations_from (is_known s) c.specs (rules_for c) (hour_rows s hour) (is_known_before (is_known s) (first_tenth hour)) (first_tenth hour) 36000

-- the line is of one of the obligations
abbrev pub IsOfOne : AuditLine → List Obligation → Type 0
IsOfOne line [] = ⊥
IsOfOne line (o ∷ os) = ((o.number ≡ line.rule) × (o.at ≡ line.at) × (o.place ≡ line.place)) ⊎ IsOfOne line os

-- each obligation of a store has a line of one of the rules, at a place of a known tenth
abbrev pub ObligationsHaveLines : Type 0
ObligationsHaveLines = (c : Settings) (s : Store) (line : AuditLine) → IsOfOne line (obligations_in c s (line.at / 36000)) → IsLineOf s (rules_for c) line
