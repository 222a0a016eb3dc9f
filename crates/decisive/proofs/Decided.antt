-- The decisive window of an obligation, by its ends that were found.
use Rattle.std.proofs.Common.{◌≡◌, refl, ap, sym, ◌∙◌, subst, inl, inr, ◌↔◌, ℕ, suc, zero, ◌+◌, ◌<◌, ◌≤◌, Bool, true, false, List, [], ◌∷◌, length, take, map, get_or, arith, ◌||◌}
use Rattle.std.specs.List.{list_any}
use Rattle.std.proofs.lemmas.Bool.{cases_Bool, cases_eq, cases_lt}
use Rattle.sig_base.specs.declared.values.Row.{Row}
use Rattle.sig_base.specs.declared.values.Verdict.TheVariants.{Broken}
use Rattle.gap_map.specs.declared.stretch.Stretch.{Stretch}
use Rattle.gap_map.specs.Stretches.{known_at}
use Rattle.channel_tables.specs.declared.spec.Spec.{Spec}
use Rattle.event_codes.specs.Channels.{channel_in_table}
use Rattle.board.specs.declared.clause.Term.{Term}
use Rattle.board.specs.Channels.{is_channel}
use Rattle.board.specs.History.{Event, event_of, events_at}
use Rattle.board.specs.Logs.{no_row, no_spec}
use Rattle.board.specs.Places.{IsPlace}
use Rattle.board.proofs.Bridge.{event_not_here}
use Rattle.board.proofs.Rows.{rows_split}
use Rattle.board.proofs.Common.{event_here}
use Rattle.signal_log.specs.Log.{HasHistory, Log, window_end}
use Rattle.rule_audit.specs.declared.rules.Rule.{Rule}
use Rattle.rule_audit.specs.declared.rules.Rule.TheVariants.{Interval, Conflict, Companion, Parents}
use Rattle.rule_audit.specs.Obligations.{Obligation, is_row_of, is_row_of_some}
use Rattle.rule_audit.proofs.Walking.{sorted}
use Rattle.decisive.specs.declared.judge.Start.{Start}
use Rattle.decisive.specs.declared.parts.Part.{Part}
use Rattle.decisive.specs.Parts.{AllNone, parts_of, term_part}
use Rattle.decisive.specs.Breaks.{FitsParts}
use Rattle.decisive.specs.Candidates.{BeginsBy, EndsBy, FromLog, IsOwnRow, NoneBegins, NoneEnds, is_row_of_parts}
use Rattle.decisive.specs.Searches.{IsBeginAt, IsEndAt, NoBegin, NoEnd}
use Rattle.decisive.specs.Laws.{TellsOf}
use Rattle.decisive.specs.Window.{HasLogVerdict, HasRowAt, IsCandidate, IsGreatestTo, IsLeastFrom, is_row_of_rule, only}
use Rattle.decisive.proofs.Growing.{begins_none, ends_none}
use Rattle.decisive.proofs.Placing.{row_after, row_before}

-- ---- rows of a rule

pub or_false : (b : Bool) → (b || false) ≡ b
or_false b = elim (cases_Bool b) [ inl e ↦ rw e refl | inr e ↦ rw e refl ]

terms_any : (specs : List Spec) (r : Row) (terms : List Term) → is_row_of_some specs r terms ≡ is_row_of_parts specs (map term_part terms) r
terms_any specs r [] = refl
terms_any specs r (t ∷ ts) = ap (λ b. is_row_of specs r t.spec || b) (terms_any specs r ts)

pub row_of_rule : (specs : List Spec) (r : Row) (rule : Rule) → is_row_of_rule specs r rule ≡ is_row_of_parts specs (parts_of rule) r
row_of_rule specs r (Interval item) = sym (or_false (is_row_of specs r item.spec))
row_of_rule specs r (Conflict a b terms) = terms_any specs r terms
row_of_rule specs r (Companion p terms) = terms_any specs r terms
row_of_rule specs r (Parents o terms) = terms_any specs r terms

-- ---- rows by the events of their tenths

no_event : Event
no_event = record { code = 0; param = 0 }

event_in : (rows : List Row) (i w : ℕ) → i < length rows → (get_or rows i no_row).at ≡ w → (k : ℕ) × (k < length (events_at rows w)) × (get_or (events_at rows w) k no_event ≡ event_of (get_or rows i no_row))
event_in [] i w lt e = absurd (omega arith)
event_in (r ∷ rs) zero w lt e = (0, rw (event_here r rs w e) (omega arith), rw (event_here r rs w e) refl)
event_in (r ∷ rs) (suc i) w lt e =
    let (k, l, same) = event_in rs i w (omega arith) e in
    elim (cases_eq r.at w) [
      | inl is ↦ (suc k, rw (event_here r rs w is) (omega arith), rw (event_here r rs w is) same)
      | inr ne ↦ (k, rw (event_not_here r rs w ne) l, rw (event_not_here r rs w ne) same)
    ]

abbrev IsEventRow : List Row → ℕ → Event → Type 0
IsEventRow rows w e = (i : ℕ) × (i < length rows) × ((get_or rows i no_row).at ≡ w) × (event_of (get_or rows i no_row) ≡ e)

out_here : (r : Row) (rs : List Row) (w m : ℕ) → r.at ≡ w → ((k : ℕ) → k < length (events_at rs w) → IsEventRow rs w (get_or (events_at rs w) k no_event)) → m < length (event_of r ∷ events_at rs w) → IsEventRow (r ∷ rs) w (get_or (event_of r ∷ events_at rs w) m no_event)
out_here r rs w zero is rest l = (0, omega arith, is, refl)
out_here r rs w (suc m) is rest l = let (i, l2, at, same) = rest m (omega arith) in (suc i, omega arith, at, same)

event_out : (rows : List Row) (w k : ℕ) → k < length (events_at rows w) → IsEventRow rows w (get_or (events_at rows w) k no_event)
event_out [] w k lt = absurd (omega arith)
event_out (r ∷ rs) w k lt = elim (cases_eq r.at w) [
  | inl is ↦ subst (λ es. IsEventRow (r ∷ rs) w (get_or es k no_event)) (sym (event_here r rs w is)) (out_here r rs w k is (λ m l. event_out rs w m l) (subst (λ es. k < length es) (event_here r rs w is) lt))
  | inr ne ↦ let (i, l, at, same) = event_out rs w k (subst (λ es. k < length es) (event_not_here r rs w ne) lt) in (suc i, omega arith, at, same ∙ ap (λ es. get_or es k no_event) (sym (event_not_here r rs w ne)))
]

-- the same event stands at the tenth in the other rows
moved : (rows more : List Row) (w i : ℕ) → events_at rows w ≡ events_at more w → i < length rows → (get_or rows i no_row).at ≡ w → (m : ℕ) × (m < length more) × ((get_or more m no_row).at ≡ w) × (event_of (get_or more m no_row) ≡ event_of (get_or rows i no_row))
moved rows more w i e lt at =
    let (k, l, one) = event_in rows i w lt at in
    let (m, l2, at2, two) = event_out more w k (subst (λ es. k < length es) e l) in
    (m, l2, at2, two ∙ (ap (λ es. get_or es k no_event) (sym e) ∙ one))

by_event : List Spec → List Part → Event → Bool
by_event specs parts e = list_any (λ (p : Part). is_channel (get_or specs p.spec no_spec).channel (channel_in_table e.code e.param)) parts

row_event : (specs : List Spec) (parts : List Part) (r q : Row) → event_of r ≡ event_of q → is_row_of_parts specs parts r ≡ is_row_of_parts specs parts q
unfolding by_event
row_event specs parts r q e = ap (λ v. by_event specs parts v) e

module _ (log : Log) (o : Obligation) (rows0 : List Row) (j : ℕ) (fits : FitsParts log.specs (parts_of o.rule)) (has : HasHistory log) (all_known : (place : ℕ) → place < length log.rows → log.known (get_or log.rows place no_row).at ≡ true) (verdict : (a b : ℕ) → a ≤ o.at → o.at ≤ b → HasLogVerdict (only a b log) rows0 o Broken ↔ AllNone (only a b log) o.at j (parts_of o.rule)) where
  abbrev parts : List Part
  parts = parts_of o.rule

  abbrev x : ℕ
  x = o.at

  -- a candidate row is in what is told, and the other way round
  own_candidate : (f t i : ℕ) (rows : List Row) (ss : List Stretch) → TellsOf log rows ss f t → i < length rows → IsOwnRow log.specs parts rows ss i → HasRowAt log o.rule (get_or rows i no_row).at
  own_candidate f t i rows ss tells lt (known, own) =
      let w = (get_or rows i no_row).at in
      let (_, _, low, high) = rows_split f t i rows tells.rows_in lt in
      let there : log.known w ≡ true = sym (tells.same_known w low high) ∙ known in
      let (m, l, at, e) = moved rows log.rows w i (tells.same_rows w low high there) lt refl in
      record { place = m; within = l; at = at; own = (row_of_rule log.specs (get_or log.rows m no_row) o.rule ∙ (row_event log.specs parts (get_or log.rows m no_row) (get_or rows i no_row) e ∙ own)) }

  candidate_row : (f t w : ℕ) (rows : List Row) (ss : List Stretch) → TellsOf log rows ss f t → f ≤ w → w < t → HasRowAt log o.rule w → (i : ℕ) × (i < length rows) × ((get_or rows i no_row).at ≡ w) × IsOwnRow log.specs parts rows ss i
  candidate_row f t w rows ss tells low high row =
      let there : log.known w ≡ true = subst (λ (y : ℕ). log.known y ≡ true) row.at (all_known row.place row.within) in
      let (m, l, at, e) = moved log.rows rows w row.place (sym (tells.same_rows w low high there)) row.within row.at in (
        m,
        l,
        at,
        (
          subst (λ (y : ℕ). known_at ss y ≡ true) (sym at) (tells.same_known w low high ∙ there),
          row_event log.specs parts (get_or rows m no_row) (get_or log.rows row.place no_row) e ∙ (sym (row_of_rule log.specs (get_or log.rows row.place no_row) o.rule) ∙ row.own),
        ),
      )

  -- ---- the end

  module _ (start : Start) (f t n : ℕ) (rows : List Row) (ss : List Stretch) (tells : TellsOf log rows ss f t) (place : IsPlace f t rows ss x n) (rank : length (events_at (take n rows) x) ≡ j) (from : FromLog log start f 0) (in_window : t ≤ window_end log) where
    ends : (w : ℕ) → x ≤ w → w < t → EndsBy start log.specs parts x rows ss n w ↔ HasLogVerdict (only 0 w log) rows0 o Broken
    ends w le lt =
        let law = ends_none log parts fits has f t x n rows ss tells place in_window start w from le lt in
        let v = verdict 0 w (omega arith) le in (
          (λ e. v.1 (subst (λ (q : ℕ). AllNone (only 0 w log) x q parts) rank (law.0 e))),
          λ b. law.1 (subst (λ (q : ℕ). AllNone (only 0 w log) x q parts) (sym rank) (v.0 b)),
        )

    -- no candidate before row m, nor x itself
    none_before : (m v : ℕ) → (EndsBy start log.specs parts x rows ss n x → ⊥) → NoneEnds start log.specs parts x rows ss n m → v < t → ((i : ℕ) → i < length rows → (get_or rows i no_row).at < v → i < m) → (w : ℕ) → IsCandidate log o w → x ≤ w → w < v → HasLogVerdict (only 0 w log) rows0 o Broken → ⊥
    none_before m v not_x none small before w c le lt broken =
        let last = place.last in
        let first = place.first in
        let at_x : w ≡ x → ⊥ = λ e. not_x ((ends x (omega arith) last).1 (subst (λ (q : ℕ). HasLogVerdict (only 0 q log) rows0 o Broken) e broken)) in
        elim c [
          | inl one ↦ elim one [ inl e ↦ at_x e | inr e ↦ at_x (omega arith) ]
          | inr other ↦ elim other [
            | inl e ↦ absurd (omega arith)
            | inr row ↦
                let (i, l, at, own) = candidate_row f t w rows ss tells (omega arith) (omega arith) row in
                elim (cases_lt i n) [
                  | inl early ↦ let (_, up) = row_before f t x n i rows ss place early in at_x (omega arith)
                  | inr late ↦ none i late (before i l (omega arith)) own (subst (λ (q : ℕ). EndsBy start log.specs parts x rows ss n q) (sym at) ((ends w le (omega arith)).1 broken))
                ]
          ]
        ]

    pub end_is : (v : ℕ) → IsEndAt start log.specs parts x rows ss n v → IsLeastFrom (IsCandidate log o) (λ w. HasLogVerdict (only 0 w log) rows0 o Broken) x v × (v < t)
    end_is v found =
        let last = place.last in
        elim found [
          | inl (e, own) ↦ (
            record {
              candidate = inl (inl e);
              late = omega arith;
              holds = rw e ((ends x (omega arith) last).0 own);
              least = λ w c le lt. absurd (omega arith);
            },
            omega arith,
          )
          | inr (not_x, row) ↦
              let (low, high) = row_after f t x n row.row rows ss place row.low row.within in
              let at = row.at in (
                record {
                  candidate = inr (inr (subst (λ (q : ℕ). HasRowAt log o.rule q) (sym at) (own_candidate f t row.row rows ss tells row.within row.own)));
                  late = omega arith;
                  holds = (ends v (omega arith) (omega arith)).0 row.ends;
                  least = none_before row.row v not_x row.first (omega arith) (λ i l lt. elim (cases_lt i row.row) [
                    | inl less ↦ less
                    | inr ge ↦ let order = sorted f t row.row i rows tells.rows_in ge l in absurd (omega arith)
                  ]);
                },
                omega arith,
              )
        ]

    pub last_is : (v : ℕ) → v + 1 ≡ t → t ≡ window_end log → HasLogVerdict (only 0 v log) rows0 o Broken → NoEnd start log.specs parts x rows ss n v → IsLeastFrom (IsCandidate log o) (λ w. HasLogVerdict (only 0 w log) rows0 o Broken) x v × (v < t)
    last_is v e whole broken none =
        let last = place.last in
        let (not_x, rest) = none ((ends v (omega arith) (omega arith)).1 broken) in (
          record {
            candidate = inr (inl (e ∙ whole));
            late = omega arith;
            holds = broken;
            least = none_before (length rows) v not_x rest (omega arith) (λ i l lt. l);
          },
          omega arith,
        )

  -- ---- the begin

  module _ (f v n : ℕ) (rows : List Row) (ss : List Stretch) (tells : TellsOf log rows ss f (v + 1)) (place : IsPlace f (v + 1) rows ss x n) (rank : length (events_at (take n rows) x) ≡ j) (last : v < window_end log) where
    begins : (u : ℕ) → f ≤ u → u ≤ x → BeginsBy log.specs parts x rows ss n u ↔ HasLogVerdict (only u v log) rows0 o Broken
    begins u low le =
        let high = place.last in
        let law = begins_none log parts fits has f v x n rows ss tells place last u low le in
        let h = verdict u v le (omega arith) in (
          (λ e. h.1 (subst (λ (q : ℕ). AllNone (only u v log) x q parts) rank (law.0 e))),
          λ b. law.1 (subst (λ (q : ℕ). AllNone (only u v log) x q parts) (sym rank) (h.0 b)),
        )

    none_after_row : (m u : ℕ) → (BeginsBy log.specs parts x rows ss n x → ⊥) → NoneBegins log.specs parts x rows ss n m → f ≤ u → ((i : ℕ) → i < length rows → u < (get_or rows i no_row).at → m ≤ i) → (w : ℕ) → IsCandidate log o w → w ≤ x → u < w → HasLogVerdict (only w v log) rows0 o Broken → ⊥
    none_after_row m u not_x none low after w c le lt broken =
        let high = place.last in
        let first = place.first in
        let at_x : w ≡ x → ⊥ = λ e. not_x ((begins x first (omega arith)).1 (subst (λ (q : ℕ). HasLogVerdict (only q v log) rows0 o Broken) e broken)) in
        elim c [
          | inl one ↦ elim one [ inl e ↦ at_x e | inr e ↦ absurd (omega arith) ]
          | inr other ↦ elim other [
            | inl e ↦ at_x (omega arith)
            | inr row ↦
                let (i, l, at, own) = candidate_row f (v + 1) w rows ss tells (omega arith) (omega arith) row in
                elim (cases_lt i n) [
                  | inl early ↦ none i (after i l (omega arith)) early own (subst (λ (q : ℕ). BeginsBy log.specs parts x rows ss n q) (sym at) ((begins w (omega arith) le).1 broken))
                  | inr late ↦ let (down, _) = row_after f (v + 1) x n i rows ss place late l in at_x (omega arith)
                ]
          ]
        ]

    pub begin_is : (u : ℕ) → IsBeginAt log.specs parts x rows ss n u → IsGreatestTo (IsCandidate log o) (λ w. HasLogVerdict (only w v log) rows0 o Broken) x u
    begin_is u found =
        let first = place.first in
        let count = place.count in
        elim found [
          | inl (e, own) ↦ record {
            candidate = inl (inl e);
            early = omega arith;
            holds = rw e ((begins x first (omega arith)).0 own);
            greatest = λ w c le lt. absurd (omega arith);
          }
          | inr (not_x, row) ↦
              let (low, high) = row_before f (v + 1) x n row.row rows ss place row.within in
              let at = row.at in
              let within = row.within in
              record {
                candidate = inr (inr (subst (λ (q : ℕ). HasRowAt log o.rule q) (sym at) (own_candidate f (v + 1) row.row rows ss tells (omega arith) row.own)));
                early = omega arith;
                holds = (begins u (omega arith) (omega arith)).0 row.begins;
                greatest = none_after_row (row.row + 1) u not_x row.last (omega arith) (λ i l lt. elim (cases_lt row.row i) [
                  | inl more ↦ omega arith
                  | inr le ↦ let order = sorted f (v + 1) i row.row rows tells.rows_in le (omega arith) in absurd (omega arith)
                ]);
              }
        ]

    pub first_is : f ≡ 0 → HasLogVerdict (only 0 v log) rows0 o Broken → NoBegin log.specs parts x rows ss n 0 → IsGreatestTo (IsCandidate log o) (λ w. HasLogVerdict (only w v log) rows0 o Broken) x 0
    first_is e broken none =
        let (not_x, rest) = none ((begins 0 (omega arith) (omega arith)).1 broken) in
        record {
          candidate = inl (inr refl);
          early = omega arith;
          holds = broken;
          greatest = none_after_row 0 0 not_x rest (omega arith) (λ i l lt. omega arith);
        }
