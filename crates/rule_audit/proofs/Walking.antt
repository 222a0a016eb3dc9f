-- The walk over the stretches of an hour.
use Rattle.std.proofs.Common.{suc, zero, ◌≡◌, ap, ◌∙◌, subst, inl, inr, ℕ, ◌+◌, ◌<◌, ◌≤◌, Bool, true, false, List, [], ◌∷◌, length, get_or, drop, Result, Ok, Err, IfOk, arith}
use Rattle.std.proofs.lemmas.Bool.{cases_lt}
use Rattle.std.proofs.lemmas.List.{drop_more, drop_all}
use Rattle.sig_base.specs.declared.values.Row.{Row}
use Rattle.event_codes.specs.Channels.{channel_in_table}
use Rattle.gap_map.specs.declared.stretch.Stretch.{Stretch}
use Rattle.gap_map.specs.Stretches.{FollowOn, known_at}
use Rattle.board.specs.Logs.{IsHour, end_tenth, first_tenth, no_row}
use Rattle.board.specs.Moves.{RowsIn}
use Rattle.board.proofs.Bridge.{known_here, known_there, late_end}
use Rattle.board.proofs.Within.{hour_rows}
use Rattle.rule_audit.specs.declared.hour.AuditedHour.{AuditedHour}
use Rattle.rule_audit.specs.declared.lines.AuditLine.{AuditLine}
use Rattle.rule_audit.specs.Judged.{HasVerdict}
use Rattle.rule_audit.specs.Index.{HasNoRule}
use Rattle.rule_audit.specs.Obligations.{Obligation, tenth_obligations}
use Rattle.rule_audit.specs.Pass.{Adds, AddsUpTo, AreUnruled, Ends, IsCutAt, Rises, log_of, obligations_in, row_at}
use Rattle.rule_audit.proofs.Adding.{upto_join, upto_of, upto_start}
use Rattle.rule_audit.proofs.Tenths.{cut_further, up_tenth, up_to_next, up_unknown}

pub if_ok : {A E : Type 0} → (r : Result A E) (P Q : A → Type 0) → ((a : A) → P a → Q a) → IfOk r P → IfOk r Q
if_ok (Ok a) P Q f h = f a h
if_ok (Err e) P Q f h = h

-- ---- rows

rows_low : (f t k : ℕ) (rows : List Row) → RowsIn f t rows → k < length rows → f ≤ (get_or rows k no_row).at
rows_low f t k [] h lt = absurd (omega arith)
rows_low f t zero (r ∷ rs) h lt = h.0
rows_low f t (suc k) (r ∷ rs) h lt = let a = h.0 in let b = rows_low r.at t k rs h.2 (omega arith) in omega arith

pub sorted : (f t j k : ℕ) (rows : List Row) → RowsIn f t rows → j ≤ k → k < length rows → (get_or rows j no_row).at ≤ (get_or rows k no_row).at
sorted f t j k [] h le lt = absurd (omega arith)
sorted f t zero zero (r ∷ rs) h le lt = omega arith
sorted f t zero (suc k) (r ∷ rs) h le lt = rows_low r.at t k rs h.2 (omega arith)
sorted f t (suc j) zero (r ∷ rs) h le lt = absurd (omega arith)
sorted f t (suc j) (suc k) (r ∷ rs) h le lt = sorted r.at t j k rs h.2 (omega arith) (omega arith)

pub hour_rises : (h : ℕ) (rows : List Row) (ss : List Stretch) → IsHour h rows ss → Rises rows
hour_rises h rows ss is j k le lt = sorted (first_tenth h) (end_tenth h) j k rows (hour_rows h rows ss is) le lt

pub cut_first : (h : ℕ) (rows : List Row) (ss : List Stretch) → IsHour h rows ss → IsCutAt rows (first_tenth h) 0
cut_first h rows ss is = (omega arith, (λ k lt. absurd (omega arith)), λ k le lt. rows_low (first_tenth h) (end_tenth h) k rows (hour_rows h rows ss is) lt)

-- one row more
pub unruled_more : (h : AuditedHour) (i j : ℕ) → AreUnruled h i j → HasNoRule h.specs.now h.rules.now (channel_in_table (row_at h j).code (row_at h j).param) → AreUnruled h i (j + 1)
unruled_more h i j none here k a b = elim (cases_lt k j) [
  | inl less ↦ none k a less
  | inr ge ↦ subst (λ (n : ℕ). HasNoRule h.specs.now h.rules.now (channel_in_table (row_at h n).code (row_at h n).param)) (let same : j ≡ k = omega arith in same) here
]

pub before_more : (h : AuditedHour) (i j t : ℕ) → ((k : ℕ) → i ≤ k → k < j → (row_at h k).at < t) → (row_at h j).at < t → (k : ℕ) → i ≤ k → k < j + 1 → (row_at h k).at < t
before_more h i j t before here k a b = elim (cases_lt k j) [
  | inl less ↦ before k a less
  | inr ge ↦ subst (λ (n : ℕ). (row_at h n).at < t) (let same : j ≡ k = omega arith in same) here
]

-- ---- stretches

-- the first of the stretches that are left
module _ (ss : List Stretch) (j : ℕ) (d : Stretch) (x t : ℕ) where
  follow_more : j < length ss → FollowOn x t (drop j ss) → FollowOn x t (get_or ss j d ∷ drop (j + 1) ss)
  follow_more lt f = subst (λ (zs : List Stretch). FollowOn x t zs) (drop_more ss j d lt) f

  pub stretch_from : j < length ss → FollowOn x t (drop j ss) → (get_or ss j d).from ≡ x
  stretch_from lt f = (follow_more lt f).0

  pub stretch_some : j < length ss → FollowOn x t (drop j ss) → (get_or ss j d).from < (get_or ss j d).to
  stretch_some lt f = let k = follow_more lt f in let a = k.0 in let b = k.1 in omega arith

  pub stretch_rest : j < length ss → FollowOn x t (drop j ss) → FollowOn (get_or ss j d).to t (drop (j + 1) ss)
  stretch_rest lt f = (follow_more lt f).2

  pub stretch_within : j < length ss → FollowOn x t (drop j ss) → (get_or ss j d).to ≤ t
  stretch_within lt f = late_end (get_or ss j d).to t (drop (j + 1) ss) (stretch_rest lt f)

  pub stretch_known : j < length ss → FollowOn x t (drop j ss) → ((y : ℕ) → x ≤ y → known_at ss y ≡ known_at (drop j ss) y) → (y : ℕ) → (get_or ss j d).from ≤ y → y < (get_or ss j d).to → known_at ss y ≡ (get_or ss j d).known
  stretch_known lt f same y le less =
      let from = stretch_from lt f in
      let low : x ≤ y = omega arith in
      same y low ∙ (ap (λ (zs : List Stretch). known_at zs y) (drop_more ss j d lt) ∙ known_here (get_or ss j d) (drop (j + 1) ss) x t y (follow_more lt f) low less)

  pub stretch_later : j < length ss → FollowOn x t (drop j ss) → ((y : ℕ) → x ≤ y → known_at ss y ≡ known_at (drop j ss) y) → (y : ℕ) → (get_or ss j d).to ≤ y → known_at ss y ≡ known_at (drop (j + 1) ss) y
  stretch_later lt f same y le =
      let from = stretch_from lt f in
      let some = stretch_some lt f in
      same y (omega arith) ∙ (ap (λ (zs : List Stretch). known_at zs y) (drop_more ss j d lt) ∙ known_there (get_or ss j d) (drop (j + 1) ss) y le)

  pub stretches_over : length ss ≤ j → FollowOn x t (drop j ss) → x ≡ t
  stretches_over le f = subst (λ (zs : List Stretch). FollowOn x t zs) (drop_all j ss le) f

-- ---- known tenths

module _ (h : AuditedHour) (e : Ends) (rises : Rises h.rows.now) where
  abbrev On : Bool → ℕ → Bool → ℕ → List AuditLine → List AuditLine → Type 0
  On b x c y old new = AddsUpTo (HasVerdict (log_of h e)) (obligations_in h b x (end_tenth e.hour)) (obligations_in h c y (end_tenth e.hour)) old new

  -- over rows without a rule
  pub on_over : (b : Bool) (from y z i j : ℕ) (old new : List AuditLine) → y ≤ z → z ≤ end_tenth e.hour → ((t : ℕ) → y ≤ t → t < z → known_at h.stretches.now t ≡ true) → IsCutAt h.rows.now y i → IsCutAt h.rows.now z j → AreUnruled h i j → On b from true y old new → On b from true z old new
  on_over b from y z i j old new le top known low high none a =
      let same : obligations_in h true y (end_tenth e.hour) ≡ obligations_in h true z (end_tenth e.hour) = up_to_next (known_at h.stretches.now) h.specs.now h.rules.now h.rows.now y z (end_tenth e.hour) i j le top known low high none in
      subst (λ (os : List Obligation). AddsUpTo (HasVerdict (log_of h e)) (obligations_in h b from (end_tenth e.hour)) os old new) same a

  -- over tenths without rows
  pub on_further : (b : Bool) (from y z i : ℕ) (old new : List AuditLine) → y ≤ z → z ≤ end_tenth e.hour → ((t : ℕ) → y ≤ t → t < z → known_at h.stretches.now t ≡ true) → IsCutAt h.rows.now y i → (i < length h.rows.now → z ≤ (get_or h.rows.now i no_row).at) → On b from true y old new → On b from true z old new
  on_further b from y z i old new le top known cut next a = on_over b from y z i i old new le top known cut (cut_further h.rows.now y z i rises le next cut) (λ k p q. absurd (omega arith)) a

  pub on_tenth : (b : Bool) (x : ℕ) (old new : List AuditLine) → x < end_tenth e.hour → known_at h.stretches.now x ≡ true → Adds (HasVerdict (log_of h e)) (tenth_obligations h.specs.now h.rules.now h.rows.now b x) old new → On b x true (x + 1) old new
  on_tenth b x old new lt known a =
      upto_of (HasVerdict (log_of h e)) (obligations_in h b x (end_tenth e.hour)) (tenth_obligations h.specs.now h.rules.now h.rows.now b x) (obligations_in h true (x + 1) (end_tenth e.hour)) old new (up_tenth (known_at h.stretches.now) h.specs.now h.rules.now h.rows.now b x (end_tenth e.hour) lt known) a

  pub on_join : (b c d : Bool) (x y z : ℕ) (old now new : List AuditLine) → On b x c y old now → On c y d z now new → On b x d z old new
  on_join b c d x y z old now new p q = upto_join (HasVerdict (log_of h e)) (obligations_in h b x (end_tenth e.hour)) (obligations_in h c y (end_tenth e.hour)) (obligations_in h d z (end_tenth e.hour)) old now new p q

  pub on_start : (b : Bool) (x : ℕ) (old : List AuditLine) → On b x b x old old
  on_start b x old = upto_start (HasVerdict (log_of h e)) (obligations_in h b x (end_tenth e.hour)) old

  pub on_unknown : (b : Bool) (x y : ℕ) (old : List AuditLine) → x < y → y ≤ end_tenth e.hour → ((t : ℕ) → x ≤ t → t < y → known_at h.stretches.now t ≡ false) → On b x false y old old
  on_unknown b x y old lt top known =
      let same : obligations_in h b x (end_tenth e.hour) ≡ obligations_in h false y (end_tenth e.hour) = up_unknown (known_at h.stretches.now) h.specs.now h.rules.now h.rows.now b x y (end_tenth e.hour) lt top known in
      rw same (on_start false y old)
