-- What keeps and what breaks the lines that a rule leaves undecided at a tenth.
use Rattle.std.specs.Prelude.{ℕ, ◌/◌, ◌==◌, ◌&&◌, Bool, List, [], ◌∷◌, filter}
use Rattle.hour_store.specs.Store.{Store}
use Rattle.ring_config.specs.Settings.{Settings}
use Rattle.rule_audit.specs.declared.lines.AuditLine.{AuditLine}
use Rattle.rule_audit.specs.Rules.{rules_for}
use Rattle.hour_work.specs.Counts.{is_undecided}
use Rattle.hour_work.specs.Verdicts.{AreAuditLines}
use Rattle.filling_pair.specs.declared.strands.Pair.{Pair}
use Rattle.filling_pair.specs.Asks.{IsPair}

-- the first pair is one of the first line, the second one of the second, and so on, as many as there are lines
abbrev pub ArePairsOf : Settings → Store → List AuditLine → List Pair → Type 0
ArePairsOf c s [] [] = Unit {0}
ArePairsOf c s (l ∷ ls) (p ∷ ps) = IsPair c.specs s (rules_for c) l p × ArePairsOf c s ls ps
ArePairsOf c s _ _ = ⊥

-- one pair for each line of the store's audit that says undecided, of the rule of this number at this tenth, in the order of the audit
abbrev pub ArePairsAt : Settings → Store → ℕ → ℕ → List Pair → Type 0
ArePairsAt c s rule at pairs =
    (lines : List AuditLine) × AreAuditLines c s (at / 36000) lines × ArePairsOf c s (filter (λ l. l.rule == rule && l.at == at && is_undecided l.verdict) lines) pairs

-- ---- For contracts alone

-- the line says undecided, of the rule of this number at this tenth
abbrev pub is_open_at : ℕ → ℕ → AuditLine → Bool
is_open_at rule at l = l.rule == rule && l.at == at && is_undecided l.verdict
