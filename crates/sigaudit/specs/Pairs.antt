-- What is printed of lines that a rule leaves undecided.
use Rattle.std.specs.Prelude.{◌≡◌, ◌*◌, ◌&&◌, nat_le, nat_lt, if◌then◌else◌, ℕ, ℤ, pos, negsuc, List, codes, length, Option, Some, None, option_and_then}
use Rattle.hour_store.specs.Store.{Store}
use Rattle.ring_config.specs.Settings.{Settings}
use Rattle.row_reader.specs.Stamp.{both}
use Rattle.rule_audit.specs.Rules.{rules_for}
use Rattle.signal_log.specs.Log.{HasHistory, log_of}
use Rattle.filling_pair.specs.declared.strands.Pair.{Pair}
use Rattle.session.specs.Pairs.{ArePairsAt}
use Rattle.report_text.specs.Pairs.{found_text}

-- the tenth, if a window of so many hours has it
abbrev pub tenth_within : ℕ → ℤ → Option ℕ
tenth_within hours (pos at) = if nat_lt at (36000 * hours) then Some at else None
tenth_within hours (negsuc n) = None

-- a rule and a tenth, where one of the rules has the number and the window has the tenth
abbrev pub place_of : Settings → ℕ → Option ℤ → Option (ℕ × ℕ)
place_of c rule at =
    both (if nat_le 1 rule && nat_le rule (length (rules_for c)) then Some rule else None) (option_and_then (tenth_within c.window.hours) at)

-- the text of one pair for each line of the store's audit that says undecided there, in the order of the audit; a rule or a tenth that isn't there is answered by the line that there is nothing undecided
abbrev pub AreFound : Settings → Store → Option (ℕ × ℕ) → List ℕ → Type 0
AreFound c s None text = text ≡ codes "nothing undecided\n"
AreFound c s (Some p) text =
    (pairs : List Pair) × HasHistory (log_of c.specs s) × ArePairsAt c s p.0 p.1 pairs × (text ≡ found_text c p.0 p.1 pairs)

-- ---- For contracts alone

-- the number, if one of so many rules has it
abbrev pub rule_within : ℕ → ℕ → Option ℕ
rule_within count rule = if nat_le 1 rule && nat_le rule count then Some rule else None
