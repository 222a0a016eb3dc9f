-- How the lines of rules follow from their parts.
use Rattle.std.proofs.Common.{◌≡◌, ◌<◌, ◌≤◌, ◌+◌, ◌++◌, ◌∷◌, [], ℕ, List, length, drop, false, Result, refl, get_or, add-one}
use Rattle.std.specs.Prelude.{slice_index_or}
use Rattle.std.proofs.Math.Seq.{drop-cons}
use Rattle.std.proofs.lemmas.List.{drop_all}
use Rattle.outside.specs.Sink.{Puts, Stops, Taken, Writes}
use Rattle.outside.proofs.PutsFacts.{puts-then, stops-front, stops-then}
use Rattle.channel_tables.specs.declared.spec.Spec.{Spec}
use Rattle.rule_audit.specs.declared.rules.Rule.{Rule}
use Rattle.hour_work.specs.declared.counts.RuleCount.{RuleCount}
use Rattle.report_text.specs.Rules.{rule_name}
use Rattle.report_text.specs.Audit.{counts_from, counts_tail, is_none_counted, none_counted, rule_head, rule_line}

-- a rule that has verdicts
pub line_of_rule : (specs : List Spec) (number : ℕ) (rule : Rule) (n : RuleCount) → is_none_counted n ≡ false
    → rule_line specs number rule n ≡ rule_head number ++ (rule_name specs rule ++ counts_tail n)
line_of_rule specs number rule n e = rw e refl

-- the line was cut off in its head, or in the rule's name
pub head_stops : (specs : List Spec) (number : ℕ) (rule : Rule) (n : RuleCount) (w w' : Taken) → is_none_counted n ≡ false
    → Stops w w' (rule_head number) → Stops w w' (rule_line specs number rule n)
head_stops specs number rule n w w' e h = rw (line_of_rule specs number rule n e) (stops-front w w' (rule_head number) (rule_name specs rule ++ counts_tail n) h)

pub name_stops : (specs : List Spec) (number : ℕ) (rule : Rule) (n : RuleCount) (w w1 w2 : Taken) → is_none_counted n ≡ false
    → Writes w w1 (rule_head number) → Stops w1 w2 (rule_name specs rule) → Stops w w2 (rule_line specs number rule n)
name_stops specs number rule n w w1 w2 e h k =
    rw (line_of_rule specs number rule n e)
    (stops-then w w1 w2 (rule_head number) (rule_name specs rule ++ counts_tail n) h (stops-front w1 w2 (rule_name specs rule) (counts_tail n) k))

-- head and name were written, and then what stands after them
pub tail_puts : {T E : Type 0} (specs : List Spec) (number : ℕ) (rule : Rule) (n : RuleCount) (w w1 w2 w3 : Taken) (r : Result T E) → is_none_counted n ≡ false
    → Writes w w1 (rule_head number) → Writes w1 w2 (rule_name specs rule) → Puts w2 w3 (counts_tail n) r → Puts w w3 (rule_line specs number rule n) r
tail_puts specs number rule n w w1 w2 w3 r e h k p =
    rw (line_of_rule specs number rule n e)
    (puts-then w w1 w3 (rule_head number) (rule_name specs rule ++ counts_tail n) r h (puts-then w1 w2 w3 (rule_name specs rule) (counts_tail n) r k p))

-- the line of the next rule, and those of the rules after it
pub counts_step : (specs : List Spec) (counts : List RuleCount) (rules : List Rule) (i : ℕ) (d : Rule) → i < length rules
    → counts_from specs counts i (drop i rules) ≡ rule_line specs (i + 1) (get_or rules i d) (slice_index_or counts i none_counted) ++ counts_from specs counts (i + 1) (drop (i + 1) rules)
unfolding counts_from
counts_step specs counts rules i d h =
    let e : drop i rules ≡ get_or rules i d ∷ drop (i + 1) rules = rw add-one (drop-cons rules i d h) in
    rw e refl

pub counts_end : (specs : List Spec) (counts : List RuleCount) (rules : List Rule) (i : ℕ) → length rules ≤ i → counts_from specs counts i (drop i rules) ≡ []
unfolding counts_from
counts_end specs counts rules i h = rw (drop_all i rules h) refl

pub counts_next : (specs : List Spec) (counts counts' : List RuleCount) (rules : List Rule) (i : ℕ) (r : Rule) (n : RuleCount) → i < length rules
    → r ≡ get_or rules i r → n ≡ slice_index_or counts' i none_counted → counts' ≡ counts
    → counts_from specs counts i (drop i rules) ≡ rule_line specs (i + 1) r n ++ counts_from specs counts (i + 1) (drop (i + 1) rules)
counts_next specs counts counts' rules i r n h er en ec =
    let en' : n ≡ slice_index_or counts i none_counted = rw ec at en in
    rw (counts_step specs counts rules i r h, ← er, ← en') refl
