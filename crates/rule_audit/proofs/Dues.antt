-- The clauses that are due at the end of a tenth, one after another.
use Rattle.std.proofs.Common.{◌≡◌, refl, sym, ℕ, ◌+◌, ◌<◌, ◌≤◌, Bool, true, List, [], ◌∷◌, length, get_or, drop, arith}
use Rattle.gap_map.specs.Stretches.{known_at}
use Rattle.rule_audit.specs.declared.hour.AuditedHour.{AuditedHour}
use Rattle.rule_audit.specs.declared.lines.AuditLine.{AuditLine}
use Rattle.rule_audit.specs.Obligations.{end_obligations, is_due}
use Rattle.rule_audit.specs.Judged.{HasVerdict}
use Rattle.rule_audit.specs.Index.{no_rule, IsNext, IsNextDue}
use Rattle.rule_audit.specs.Pass.{log_of, row_at, AddsAfter, AddsIn, AddsUpTo, AreChannelsAt, Ends, IsCutAt, IsKnownRow, IsLogOf, IsReady}
use Rattle.rule_audit.proofs.Adding.{end_rules, end_rules_over, upto_end, upto_same, upto_start, upto_step}
use Rattle.rule_audit.proofs.Indexing.{due_next, due_none, due_there, end_skip, is_of_channel, IsNextOver}

-- the next of one channel
pub over_one : (p : ℕ → ℕ → Bool) (n c k m : ℕ) → IsNext (p c) n k m → IsNextOver p n (c ∷ []) 1 k m
over_one p n c k m next = record {
  from = next.from;
  within = next.within;
  none = λ x j a b lt. let first : j ≡ 0 = omega arith in rw first (next.none x a b);
  passes = λ lt. (0, omega arith, next.passes lt);
}

-- whether the rule with this place is due at the end of the tenth
abbrev pub is_due_at : AuditedHour → ℕ → ℕ → Bool
is_due_at h at x = is_due h.specs.now h.rows.now true at (get_or h.rules.now x no_rule)

-- the place k is the number of rules or that of one that is due, and the lines of those before it are added
pub record IsDueUpTo (h : AuditedHour) (at k : ℕ) (old new : List AuditLine) : Type 0 where
  pub within : k ≤ length h.rules.now
  pub due : k < length h.rules.now → is_due_at h at k ≡ true
  pub added : (e : Ends) → IsLogOf h e → AddsUpTo (HasVerdict (log_of h e)) (end_obligations h.specs.now h.rows.now true at 1 h.rules.now) (end_obligations h.specs.now h.rows.now true at (k + 1) (drop k h.rules.now)) old new

module _ (h : AuditedHour) (at : ℕ) where
  -- what is next for the channels of the rows is the next that is due
  pub due_at : (f t k m : ℕ) → IsCutAt h.rows.now at f → IsCutAt h.rows.now (at + 1) t → IsNextDue h.specs.now h.rules.now h.rows.now f t k m → IsNext (is_due_at h at) (length h.rules.now) k m
  due_at f t k m low high next = record {
    from = next.from;
    within = next.within;
    none = due_none h.specs.now h.rules.now h.rows.now at f t low high k m next;
    passes = due_there h.specs.now h.rules.now h.rows.now at f t low high k m next;
  }

  -- the rows of a known tenth
  pub known_rows : (f t : ℕ) → known_at h.stretches.now at ≡ true → IsCutAt h.rows.now at f → IsCutAt h.rows.now (at + 1) t → (j : ℕ) → f ≤ j → j < t → IsKnownRow h j
  known_rows f t known low high j a b =
      let top = high.0 in
      let p = low.2 j a (omega arith) in
      let q = high.1 j b in
      let same : (row_at h j).at ≡ at = omega arith in
      rw same known

  pub due_one : (c k m : ℕ) → IsReady h → known_at h.stretches.now at ≡ true → AreChannelsAt h at (c ∷ []) → IsNext (is_of_channel h.specs.now h.rules.now c) (length h.rules.now) k m → IsNext (is_due_at h at) (length h.rules.now) k m
  due_one c k m ready known (f, t, low, high, are) next = due_at f t k m low high (due_next h.specs.now h.rules.now h.rows.now h.own.now f t (λ j a b. let top = high.0 in ready.own.1 j (omega arith) (known_rows f t known low high j a b)) high.0 (c ∷ []) are k m (over_one (is_of_channel h.specs.now h.rules.now) (length h.rules.now) c k m next))

  pub due_first : (m : ℕ) (old : List AuditLine) → IsNext (is_due_at h at) (length h.rules.now) 0 m → IsDueUpTo h at m old old
  due_first m old next = record {
    within = next.within;
    due = next.passes;
    added = λ e is. upto_same (HasVerdict (log_of h e)) (end_obligations h.specs.now h.rows.now true at 1 h.rules.now) (end_obligations h.specs.now h.rows.now true at (m + 1) (drop m h.rules.now)) _ _ old old (end_skip h.specs.now h.rows.now true at h.rules.now 0 m (omega arith) next.within next.none) refl (upto_start (HasVerdict (log_of h e)) _ old);
  }

  pub due_more : (k m : ℕ) (old now new : List AuditLine) → k < length h.rules.now → IsDueUpTo h at k old now → AddsAfter h at k now new → IsNext (is_due_at h at) (length h.rules.now) (k + 1) m → IsDueUpTo h at m old new
  due_more k m old now new lt so adds next = record {
    within = next.within;
    due = next.passes;
    added = λ e is.
        let Has = HasVerdict (log_of h e) in
        let all = end_obligations h.specs.now h.rows.now true at 1 h.rules.now in
        let step = upto_step Has all _ _ _ old now new (end_rules h.specs.now h.rows.now true at h.rules.now k no_rule lt) (so.added e is) (adds e true is (λ _. so.due lt)) in
        upto_same Has all all (end_obligations h.specs.now h.rows.now true at (m + 1) (drop m h.rules.now)) (end_obligations h.specs.now h.rows.now true at (k + 1 + 1) (drop (k + 1) h.rules.now)) old new refl (sym (end_skip h.specs.now h.rows.now true at h.rules.now (k + 1) m next.from next.within next.none)) step;
  }

  pub due_last : (k : ℕ) (old new : List AuditLine) → length h.rules.now ≤ k → IsDueUpTo h at k old new → AddsIn h (end_obligations h.specs.now h.rows.now true at 1 h.rules.now) old new
  due_last k old new over so = λ e is. upto_end (HasVerdict (log_of h e)) (end_obligations h.specs.now h.rows.now true at 1 h.rules.now) _ old new (end_rules_over h.specs.now h.rows.now true at h.rules.now k _ over) (so.added e is)
