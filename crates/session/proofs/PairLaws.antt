-- The lines of an audit that say undecided, and their pairs.
use Rattle.std.proofs.Common.{◌≡◌, ◌∙◌, refl, ℕ, ◌+◌, ◌<◌, true, List, [], ◌∷◌, ◌++◌, length, get_or, take}
use Rattle.std.specs.Prelude.{◌==◌, ◌&&◌, filter}
use Rattle.std.proofs.lemmas.Bool.{and_parts}
use Rattle.std.proofs.lemmas.List.Elements.{filter_more}
use Rattle.hour_store.specs.Store.{Store}
use Rattle.ring_config.specs.Settings.{Settings}
use Rattle.rule_audit.specs.declared.lines.AuditLine.{AuditLine}
use Rattle.rule_audit.specs.Rules.{rules_for}
use Rattle.filling_pair.specs.declared.strands.Pair.{Pair}
use Rattle.filling_pair.specs.Asks.{IsPair}
use Rattle.hour_work.specs.Counts.{is_undecided}
use Rattle.session.specs.Pairs.{ArePairsOf, is_open_at}

-- a line more and its pair
pub pairs_more : (c : Settings) (s : Store) (ls : List AuditLine) (ps : List Pair) (l : AuditLine) (p : Pair) → ArePairsOf c s ls ps → IsPair c.specs s (rules_for c) l p → ArePairsOf c s (ls ++ l ∷ []) (ps ++ p ∷ [])
pairs_more c s [] [] l p h k = (k, tt)
pairs_more c s [] (q ∷ qs) l p h k = absurd h
pairs_more c s (x ∷ xs) [] l p h k = absurd h
pairs_more c s (x ∷ xs) (q ∷ qs) l p h k = (h.0, pairs_more c s xs qs l p h.1 k)

-- the next line is one of those that are looked for
pub open_more : (rule at : ℕ) (lines : List AuditLine) (i : ℕ) (d : AuditLine) → i < length lines → is_open_at rule at (get_or lines i d) ≡ true
    → filter (is_open_at rule at) (take (i + 1) lines) ≡ filter (is_open_at rule at) (take i lines) ++ get_or lines i d ∷ []
open_more rule at lines i d lt said = filter_more (is_open_at rule at) lines i d lt ∙ (rw said refl)

-- such a line says undecided
pub says_undecided : (rule at : ℕ) (l : AuditLine) → is_open_at rule at l ≡ true → is_undecided l.verdict ≡ true
says_undecided rule at l h = (and_parts (l.rule == rule && l.at == at) (is_undecided l.verdict) h).1
