-- Lines added for obligations, part by part.
use Rattle.std.proofs.Common.{◌≡◌, refl, ap, sym, ◌∙◌, subst, ℕ, ◌+◌, ◌<◌, ◌≤◌, Bool, true, false, not, ◌&&◌, ◌||◌, List, [], ◌∷◌, ◌++◌, length, get_or, drop, append_assoc, append-nil}
use Rattle.std.proofs.lemmas.List.{drop_more, drop_all, get_or_default}
use Rattle.sig_base.specs.declared.values.Row.{Row}
use Rattle.sig_base.specs.declared.values.Verdict.{Verdict}
use Rattle.channel_tables.specs.declared.spec.Spec.{Spec}
use Rattle.board.specs.declared.clause.Term.{Term}
use Rattle.board.specs.Logs.{HourLog}
use Rattle.board.specs.Verdicts.{IsVerdict, Keeps, PassStates}
use Rattle.rule_audit.specs.declared.lines.AuditLine.{AuditLine}
use Rattle.rule_audit.specs.declared.lines.Place.TheVariants.{EndOfTenth}
use Rattle.rule_audit.specs.declared.rules.Rule.{Rule}
use Rattle.rule_audit.specs.declared.rules.Rule.TheVariants.{Interval, Conflict, Companion, Parents}
use Rattle.rule_audit.specs.Obligations.{Obligation, obligation, has_row_at, is_clause, is_due, terms_of, row_obligation, row_obligations, end_obligation, end_obligations}
use Rattle.rule_audit.specs.Judged.{HasVerdict}
use Rattle.rule_audit.specs.Lines.{AreLinesOf, lines_of}
use Rattle.rule_audit.specs.Pass.{Adds, AddsUpTo}
use Rattle.rule_audit.specs.Index.{no_rule}

module _ (Has : Obligation → Verdict → Type 0) where
  lines_join : (os ps : List Obligation) (ls ms : List AuditLine) → AreLinesOf Has os ls → AreLinesOf Has ps ms → AreLinesOf Has (os ++ ps) (ls ++ ms)
  lines_join [] ps ls ms e m = rw e m
  lines_join (o ∷ os) ps ls ms (x, has, (rest, r, e)) m = (x, has, (rest ++ ms, lines_join os ps rest ms r m, ap (λ (zs : List AuditLine). zs ++ ms) e ∙ append_assoc (lines_of o x) rest ms))

  pub adds_none : (old : List AuditLine) → Adds Has [] old old
  adds_none old = ([], refl, sym (append-nil old))

  pub adds_one : (o : Obligation) (x : Verdict) (old new : List AuditLine) → Has o x → new ≡ old ++ lines_of o x → Adds Has (o ∷ []) old new
  adds_one o x old new has e = (lines_of o x, (x, has, ([], refl, sym (append-nil (lines_of o x)))), e)

  pub adds_join : (os ps : List Obligation) (a b c : List AuditLine) → Adds Has os a b → Adds Has ps b c → Adds Has (os ++ ps) a c
  adds_join os ps a b c (ls, l, e) (ms, m, f) = (ls ++ ms, lines_join os ps ls ms l m, f ∙ (ap (λ (zs : List AuditLine). zs ++ ms) e ∙ append_assoc a ls ms))

  pub upto_start : (all : List Obligation) (old : List AuditLine) → AddsUpTo Has all all old old
  upto_start all old = ([], adds_none old, refl)

  pub upto_of : (all os rest : List Obligation) (old new : List AuditLine) → all ≡ os ++ rest → Adds Has os old new → AddsUpTo Has all rest old new
  upto_of all os rest old new e a = (os, a, sym e)

  pub upto_join : (a b c : List Obligation) (x y z : List AuditLine) → AddsUpTo Has a b x y → AddsUpTo Has b c y z → AddsUpTo Has a c x z
  upto_join a b c x y z (os, p, e) (ps, q, f) = (os ++ ps, adds_join os ps x y z p q, append_assoc os ps c ∙ (ap (λ (zs : List Obligation). os ++ zs) f ∙ e))

  pub upto_step : (all left os rest : List Obligation) (old now new : List AuditLine) → left ≡ os ++ rest → AddsUpTo Has all left old now → Adds Has os now new → AddsUpTo Has all rest old new
  upto_step all left os rest old now new e a b = upto_join all left rest old now new a (upto_of left os rest now new e b)

  pub upto_end : (all left : List Obligation) (old new : List AuditLine) → left ≡ [] → AddsUpTo Has all left old new → Adds Has all old new
  upto_end all left old new e (os, a, f) =
      let none : os ++ [] ≡ all = rw e at f in
      let whole : os ≡ all = rw append-nil at none in
      subst (λ (zs : List Obligation). Adds Has zs old new) whole a

  pub upto_same : (a b c d : List Obligation) (old new : List AuditLine) → a ≡ b → c ≡ d → AddsUpTo Has b d old new → AddsUpTo Has a c old new
  upto_same a b c d old new e f h = rw (e, f) h

-- a clause's verdict is that of its rule
pub clause_has : (log : HourLog) (n t : ℕ) (rule : Rule) (terms : List Term) (x : Verdict) → is_clause rule ≡ true → terms_of rule ≡ terms → IsVerdict x (PassStates log t) (Keeps terms) → HasVerdict log (obligation n rule t EndOfTenth) x
clause_has log n t (Interval item) terms x is e h = absurd (let bad : false ≡ true = is in cc)
clause_has log n t (Conflict a b cs) terms x is e h = rw (← e) at h
clause_has log n t (Companion p cs) terms x is e h = rw (← e) at h
clause_has log n t (Parents o cs) terms x is e h = rw (← e) at h

-- one rule more before a row, and at the end of a tenth
pub row_rules : (specs : List Spec) (i : ℕ) (r : Row) (rules : List Rule) (k : ℕ) (d : Rule) → k < length rules → row_obligations specs i r (k + 1) (drop k rules) ≡ row_obligation specs i r (k + 1) (get_or rules k d) ++ row_obligations specs i r (k + 1 + 1) (drop (k + 1) rules)
unfolding row_obligations
row_rules specs i r rules k d lt = ap (λ (xs : List Rule). row_obligations specs i r (k + 1) xs) (drop_more rules k d lt)

pub row_rules_over : (specs : List Spec) (i : ℕ) (r : Row) (rules : List Rule) (k n : ℕ) → length rules ≤ k → row_obligations specs i r n (drop k rules) ≡ []
unfolding row_obligations
row_rules_over specs i r rules k n le = ap (λ (xs : List Rule). row_obligations specs i r n xs) (drop_all k rules le)

pub end_rules : (specs : List Spec) (rows : List Row) (before : Bool) (t : ℕ) (rules : List Rule) (k : ℕ) (d : Rule) → k < length rules → end_obligations specs rows before t (k + 1) (drop k rules) ≡ end_obligation specs rows before t (k + 1) (get_or rules k d) ++ end_obligations specs rows before t (k + 1 + 1) (drop (k + 1) rules)
unfolding end_obligations
end_rules specs rows before t rules k d lt = ap (λ (xs : List Rule). end_obligations specs rows before t (k + 1) xs) (drop_more rules k d lt)

pub end_rules_over : (specs : List Spec) (rows : List Row) (before : Bool) (t : ℕ) (rules : List Rule) (k n : ℕ) → length rules ≤ k → end_obligations specs rows before t n (drop k rules) ≡ []
unfolding end_obligations
end_rules_over specs rows before t rules k n le = ap (λ (xs : List Rule). end_obligations specs rows before t n xs) (drop_all k rules le)

-- whether a clause is due, by the rows of the tenth alone
pub due_is : (specs : List Spec) (rows : List Row) (before : Bool) (t : ℕ) (rule : Rule) (terms : List Term) (here b : Bool) → is_clause rule ≡ true → terms_of rule ≡ terms → has_row_at specs rows t terms ≡ here → (not before || here) ≡ b → is_due specs rows before t rule ≡ b
due_is specs rows before t rule terms here b is e h f =
    ap (λ (c : Bool). c && (not before || has_row_at specs rows t (terms_of rule))) is
    ∙ (ap (λ (ts : List Term). not before || has_row_at specs rows t ts) e ∙ (ap (λ (c : Bool). not before || c) h ∙ f))

-- the rule at a place
pub rule_at : (rules : List Rule) (k : ℕ) (d x : Rule) → k < length rules → get_or rules k d ≡ x → get_or rules k no_rule ≡ x
rule_at rules k d x lt e = get_or_default rules k no_rule d lt ∙ e
