-- What is to be judged in an hour stands at a known tenth, before a row of that tenth or at its end.
use Rattle.std.proofs.Common.{◌≡◌, ℕ, zero, suc, pos, ◌+◌, ◌/◌, ◌<◌, ◌≤◌, inl, inr, Bool, true, false, nat_eq, ◌&&◌, List, [], ◌∷◌, length, get_or, refl, sym, ◌∙◌, subst, arith, Option, None}
use Rattle.std.specs.Prelude.{is_some, not}
use Rattle.std.proofs.lemmas.Bool.Decides.{eqb_tells}
use Rattle.sig_base.specs.declared.values.Row.{Row}
use Rattle.sig_base.specs.HourRows.{Shown}
use Rattle.sig_base.proofs.Each.{each_join, each_if, each_where, Each}
use Rattle.span_set.specs.Spans.{is_member}
use Rattle.channel_tables.specs.declared.spec.Spec.{Spec}
use Rattle.hour_store.specs.Store.{held_at, is_known}
use Rattle.board.specs.Logs.{first_tenth, no_row}
use Rattle.rule_audit.specs.declared.rules.Rule.{Rule}
use Rattle.rule_audit.specs.declared.lines.AuditLine.{AuditLine}
use Rattle.rule_audit.specs.declared.lines.Place.{Place}
use Rattle.rule_audit.specs.declared.lines.Place.TheVariants.{BeforeRow, EndOfTenth}
use Rattle.rule_audit.specs.Rules.{rules_for}
use Rattle.rule_audit.specs.Obligations.{Obligation, end_obligations, is_due, is_timed_by, obligation, obligations_from, row_obligations, rows_obligations, tenth_obligations}
use Rattle.filling_pair.specs.Kept.{IsPlaceOf}
use Rattle.signal_log.specs.Rows.{hour_rows}
use Rattle.filling_pair.specs.Lines.{IsOfOne, ObligationsHaveLines, is_known_before, obligations_in}

record IsJudged (known : ℕ → Bool) (rules : List Rule) (rows : List Row) (o : Obligation) : Type 0 where
  pub is_known : known o.at ≡ true
  pub place : IsPlaceOf rows o.at o.place
  pub from_one : 1 ≤ o.number
  pub number : o.number ≤ length rules

same_number : (a b : ℕ) → nat_eq a b ≡ true → a ≡ b
same_number a b e = elim (eqb_tells a b) [ inl (_, same) ↦ same | inr (other, _) ↦ absurd (let bad : true ≡ false = sym e ∙ other in cc) ]

module _ (P : Obligation → Type 0) (specs : List Spec) where
  each_row : (i : ℕ) (r : Row) (n : ℕ) (xs : List Rule) → ((m : ℕ) (x : Rule) → n ≤ m → m < n + length xs → P (obligation m x r.at (BeforeRow i))) → Each P (row_obligations specs i r n xs)
  unfolding row_obligations
  each_row i r n [] p = tt
  each_row i r n (x ∷ xs) p =
      each_join P _ (row_obligations specs i r (n + 1) xs)
      (each_if P (is_timed_by specs r x) (obligation n x r.at (BeforeRow i)) (p n x (omega arith) (omega arith)))
      (each_row i r (n + 1) xs (λ m y low high. p m y (omega arith) (omega arith)))

  each_end : (rows : List Row) (before : Bool) (t n : ℕ) (xs : List Rule) → ((m : ℕ) (x : Rule) → n ≤ m → m < n + length xs → P (obligation m x t EndOfTenth)) → Each P (end_obligations specs rows before t n xs)
  unfolding end_obligations
  each_end rows before t n [] p = tt
  each_end rows before t n (x ∷ xs) p =
      each_join P _ (end_obligations specs rows before t (n + 1) xs)
      (each_if P (is_due specs rows before t x) (obligation n x t EndOfTenth) (p n x (omega arith) (omega arith)))
      (each_end rows before t (n + 1) xs (λ m y low high. p m y (omega arith) (omega arith)))

  each_rows : (rules : List Rule) (t i : ℕ) (rs : List Row) → ((j m : ℕ) (x : Rule) → j < length rs → (get_or rs j no_row).at ≡ t → 1 ≤ m → m < 1 + length rules → P (obligation m x (get_or rs j no_row).at (BeforeRow (i + j)))) → Each P (rows_obligations specs rules t i rs)
  unfolding rows_obligations
  each_rows rules t i [] p = tt
  each_rows rules t i (r ∷ rs) p =
      each_join P _ (rows_obligations specs rules t (i + 1) rs)
      (each_where P (nat_eq r.at t) (row_obligations specs i r 1 rules) (λ e.
      let at : r.at ≡ t = same_number r.at t e in
      let here : i + 0 ≡ i = omega arith in
      each_row i r 1 rules (λ m x low high. subst (λ (k : ℕ). P (obligation m x r.at (BeforeRow k))) here (p 0 m x (omega arith) at low high))))
      (each_rows rules t (i + 1) rs (λ j m x lt at low high.
      let next : i + suc j ≡ (i + 1) + j = omega arith in
      subst (λ (k : ℕ). P (obligation m x (get_or rs j no_row).at (BeforeRow k))) next (p (suc j) m x (omega arith) at low high)))

all_placed : (known : ℕ → Bool) (specs : List Spec) (rules : List Rule) (rows : List Row) (before : Bool) (t n : ℕ) → Each (IsJudged known rules rows) (obligations_from known specs rules rows before t n)
unfolding obligations_from
all_placed known specs rules rows before t zero = tt
all_placed known specs rules rows before t (suc n) =
    let P = IsJudged known rules rows in
    each_join P _ (obligations_from known specs rules rows (known t) (t + 1) n)
    (each_where P (known t) (tenth_obligations specs rules rows before t) (λ is.
    each_join P (rows_obligations specs rules t 0 rows) (end_obligations specs rows before t 1 rules)
    (each_rows P specs rules t 0 rows (λ j m x lt at one few. record {
      is_known = subst (λ (k : ℕ). known k ≡ true) (sym at) is;
      place = (let same : 0 + j ≡ j = omega arith in subst (λ (k : ℕ). (k < length rows) × ((get_or rows k no_row).at ≡ (get_or rows j no_row).at)) (sym same) (lt, refl));
      from_one = one;
      number = omega arith;
    }))
    (each_end P specs rows before t 1 rules (λ m x one few. record {
      is_known = is;
      place = tt;
      from_one = one;
      number = omega arith;
    }))))
    (all_placed known specs rules rows (known t) (t + 1) n)

one_of : (P : Obligation → Type 0) (line : AuditLine) (os : List Obligation) → Each P os → IsOfOne line os → (o : Obligation) × P o × (o.number ≡ line.rule) × (o.at ≡ line.at) × (o.place ≡ line.place)
one_of P line [] p h = absurd h
one_of P line (o ∷ os) p h = elim h [ inl (a, b, d) ↦ (o, p.0, a, b, d) | inr rest ↦ one_of P line os p.1 rest ]

held_within : (hours : List (Option Shown)) (hour : ℕ) → is_some (get_or hours hour None) ≡ true → hour < length hours
held_within [] hour e = absurd (let bad : false ≡ true = e in cc)
held_within (o ∷ hours) zero e = omega arith
held_within (o ∷ hours) (suc hour) e = let k = held_within hours hour e in omega arith

pub and_left : (a b : Bool) → (a && not b) ≡ true → a ≡ true
and_left true b e = refl
and_left false b e = e

pub obligations_have_lines : ObligationsHaveLines
unfolding obligations_in
obligations_have_lines c s line h =
    let hour = line.at / 36000 in
    let rows = hour_rows s hour in
    let rules = rules_for c in
    let (o, p, number, at, place) = one_of (IsJudged (is_known s) rules rows) line (obligations_from (is_known s) c.specs rules rows (is_known_before (is_known s) (first_tenth hour)) (first_tenth hour) 36000) (all_placed (is_known s) c.specs rules rows (is_known_before (is_known s) (first_tenth hour)) (first_tenth hour) 36000) h in
    let known : is_known s line.at ≡ true = subst (λ (x : ℕ). is_known s x ≡ true) at p.is_known in
    let held = and_left (is_some (held_at s hour)) (is_member s.blanks (pos line.at)) known in
    let within = held_within s.hours hour held in
    let first = p.from_one in
    let last = p.number in
    record {
      some_rule = omega arith;
      last_rule = omega arith;
      placed = record {
        within = omega arith;
        is_known = known;
        place = subst (λ (x : ℕ). IsPlaceOf rows x line.place) at (subst (λ (q : Place). IsPlaceOf rows o.at q) place p.place);
      };
    }
