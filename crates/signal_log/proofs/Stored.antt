-- What a store tells of the tenths and the rows of its window.
use Rattle.std.proofs.Common.{suc, zero, ◌≡◌, refl, ap, sym, ◌∙◌, subst, inl, inr, ℕ, ◌+◌, ◌*◌, ◌/◌, ◌<◌, ◌≤◌, Bool, true, false, List, [], ◌∷◌, ◌++◌, length, get_or, arith, Option, Some, None}
use Rattle.std.specs.Prelude.{filter, is_some, option_map}
use Rattle.std.proofs.lemmas.Bool.{cases_Bool}
use Rattle.std.proofs.lemmas.Bool.Decides.{eqb_tells}
use Rattle.std.proofs.lemmas.List.{append-nil, append_assoc}
use Rattle.std.proofs.lemmas.List.Elements.{filter_passes, All-get_or}
use Rattle.sig_base.specs.declared.values.Row.{Row}
use Rattle.sig_base.specs.HourRows.{AreRowsOf, Shown}
use Rattle.span_set.specs.declared.set.Span.{Span}
use Rattle.gap_map.specs.declared.stretch.Stretch.{Stretch}
use Rattle.gap_map.specs.Stretches.{IsCut, known_at, known_in}
use Rattle.gap_map.proofs.Cutting.{cut_same}
use Rattle.gap_map.proofs.Following.{known_at_is}
use Rattle.hour_store.specs.Store.{IsOfHour, IsStore, Store, held_at, is_known, known_rows, rows_at, rows_of}
use Rattle.signal_log.specs.Points.{HasHour, rows_or_none}
use Rattle.board.specs.History.{event_of, events_at}
use Rattle.board.specs.Moves.{RowsIn}
use Rattle.board.specs.Logs.{first_tenth, end_tenth, no_row}
use Rattle.board.proofs.Bridge.{event_not_here, none_at}
use Rattle.board.proofs.Cutting.{events_join, none_after}
use Rattle.board.proofs.Within.{rows_since, rise_rows}

abbrev pub rows_in : Option Shown → List Row
rows_in None = []
rows_in (Some h) = h.rows

pub rows_in_is : (o : Option Shown) → rows_in o ≡ rows_or_none (option_map (λ h. h.rows) o)
rows_in_is None = refl
rows_in_is (Some h) = refl

some_map : (o : Option Shown) → is_some (option_map (λ h. h.rows) o) ≡ is_some o
some_map None = refl
some_map (Some h) = refl

-- what is known of the tenths of an hour
pub known_hour : (s : Store) (hour x : ℕ) (rows : Option (List Row)) → rows_at s hour ≡ rows → first_tenth hour ≤ x → x < end_tenth hour → is_known s x ≡ known_in (is_some rows) s.blanks x
known_hour s hour x rows e l1 l2 =
    let at : x / 36000 ≡ hour = omega arith in
    let held : is_some (held_at s hour) ≡ is_some rows = sym (some_map (held_at s hour)) ∙ ap (λ (o : Option (List Row)). is_some o) e in
    rw (at, held) refl

-- the hour's cut by blanked ranges is the one by what the store knows
pub cut_known : (s : Store) (hour : ℕ) (rows : Option (List Row)) (blanks : List Span) (ss : List Stretch) → HasHour s hour rows blanks → IsCut (known_in (is_some rows) blanks) (36000 * hour) (36000 * hour + 36000) ss → IsCut (is_known s) (36000 * hour) (36000 * hour + 36000) ss
cut_known s hour rows blanks ss has cut = cut_same (known_in (is_some rows) blanks) (is_known s) (36000 * hour) (36000 * hour + 36000) ss (λ t low high. has.known t low (omega arith)) cut

-- and its stretches say the same
pub known_cut : (s : Store) (hour x : ℕ) (ss : List Stretch) → IsCut (is_known s) (36000 * hour) (36000 * hour + 36000) ss → first_tenth hour ≤ x → x < end_tenth hour → known_at ss x ≡ is_known s x
known_cut s hour x ss cut l1 l2 = known_at_is (is_known s) (36000 * hour) (36000 * hour + 36000) x ss cut.stretches l1 l2

-- rows in order
pub rows_end : (f t : ℕ) (rs : List Row) → RowsIn f t rs → f ≤ t
rows_end f t [] h = h
rows_end f t (r ∷ rs) h = let a = h.0 in let b = h.1 in omega arith

pub rows_join : (f m t : ℕ) (xs ys : List Row) → RowsIn f m xs → RowsIn m t ys → RowsIn f t (xs ++ ys)
rows_join f m t [] ys h g = rows_since m f t ys h g
rows_join f m t (r ∷ xs) ys h g = (h.0, (let a = rows_end m t ys g in let b = h.1 in omega arith), rows_join r.at m t xs ys h.2 g)

pub filter_yes : (P : ℕ → Bool) (r : Row) (rs : List Row) → P r.at ≡ true → filter (λ (x : Row). P x.at) (r ∷ rs) ≡ r ∷ filter (λ (x : Row). P x.at) rs
filter_yes P r rs e = rw e refl

pub filter_no : (P : ℕ → Bool) (r : Row) (rs : List Row) → P r.at ≡ false → filter (λ (x : Row). P x.at) (r ∷ rs) ≡ filter (λ (x : Row). P x.at) rs
filter_no P r rs e = rw e refl

pub rows_filter : (P : ℕ → Bool) (f t : ℕ) (rs : List Row) → RowsIn f t rs → RowsIn f t (filter (λ (x : Row). P x.at) rs)
rows_filter P f t [] h = h
rows_filter P f t (r ∷ rs) h = elim (cases_Bool (P r.at)) [
  | inl is ↦ rw (filter_yes P r rs is) (h.0, h.1, rows_filter P r.at t rs h.2)
  | inr not_is ↦ rw (filter_no P r rs not_is) (rows_since r.at f t (filter (λ (x : Row). P x.at) rs) h.0 (rows_filter P r.at t rs h.2))
]

-- at a tenth that passes no event is left out
pub events_filter : (P : ℕ → Bool) (rs : List Row) (x : ℕ) → P x ≡ true → events_at (filter (λ (y : Row). P y.at) rs) x ≡ events_at rs x
events_filter P [] x is = refl
events_filter P (r ∷ rs) x is = elim (eqb_tells r.at x) [
  | inl (test, e) ↦ rw (filter_yes P r rs (ap P e ∙ is)) (rw test (ap (λ es. event_of r ∷ es) (events_filter P rs x is)))
  | inr (_, ne) ↦ elim (cases_Bool (P r.at)) [
    | inl keep ↦ rw (filter_yes P r rs keep) (event_not_here r (filter (λ (y : Row). P y.at) rs) x ne ∙ (events_filter P rs x is ∙ sym (event_not_here r rs x ne)))
    | inr leave ↦ rw (filter_no P r rs leave) (events_filter P rs x is ∙ sym (event_not_here r rs x ne))
  ]
]

-- what is held stands at its own hour, the first being hour k
pub AreFrom : ℕ → List (Option Shown) → Type 0
AreFrom k hours = (j : ℕ) (h : Shown) → get_or hours j None ≡ Some h → IsOfHour (k + j) h

pub rest_from : (k : ℕ) (o : Option Shown) (hours : List (Option Shown)) → AreFrom k (o ∷ hours) → AreFrom (k + 1) hours
unfolding AreFrom
rest_from k o hours h j x e = let same : k + suc j ≡ k + 1 + j = omega arith in subst (λ (n : ℕ). IsOfHour n x) same (h (suc j) x e)

pub one_from : (k : ℕ) (o : Option Shown) (hours : List (Option Shown)) → AreFrom k (o ∷ hours) → RowsIn (36000 * k) (36000 * (k + 1)) (rows_in o)
unfolding AreFrom
one_from k None hours h = omega arith
one_from k (Some x) hours h =
    let of : IsOfHour (k + 0) x = h 0 x refl in
    let e : k + 0 ≡ k = omega arith in
    let rows : AreRowsOf k x.rows = subst (λ (n : ℕ). AreRowsOf n x.rows) e of.rows_are in
    let end : 36000 * k + 36000 ≡ 36000 * (k + 1) = omega arith in
    subst (λ (t : ℕ). RowsIn (36000 * k) t x.rows) end (rise_rows (36000 * k) (36000 * k + 36000) x.rows (omega arith) rows.rise)

pub rows_of_first : (o : Option Shown) (hours : List (Option Shown)) → rows_of (o ∷ hours) ≡ rows_in o ++ rows_of hours
rows_of_first None hours = refl
rows_of_first (Some h) hours = refl

-- the rows about an hour: those of the hours before it, its own, and those of the hours after it
Around : ℕ → ℕ → ℕ → List Row → List Row → Type 0
Around k j n rows all = (front : List Row) × (back : List Row) × (all ≡ front ++ (rows ++ back)) × RowsIn (36000 * k) (36000 * (k + j)) front × RowsIn (36000 * (k + j + 1)) (36000 * (k + n)) back

pub all_from : (k : ℕ) (hours : List (Option Shown)) → AreFrom k hours → RowsIn (36000 * k) (36000 * (k + length hours)) (rows_of hours)
all_from k [] h = omega arith
all_from k (o ∷ hours) h =
    let rest = all_from (k + 1) hours (rest_from k o hours h) in
    let end : 36000 * (k + 1 + length hours) ≡ 36000 * (k + suc (length hours)) = omega arith in
    rw (rows_of_first o hours) (rows_join (36000 * k) (36000 * (k + 1)) (36000 * (k + suc (length hours))) (rows_in o) (rows_of hours) (one_from k o hours h) (subst (λ (t : ℕ). RowsIn (36000 * (k + 1)) t (rows_of hours)) end rest))

around_from : (k j : ℕ) (hours : List (Option Shown)) → AreFrom k hours → j < length hours → Around k j (length hours) (rows_in (get_or hours j None)) (rows_of hours)
unfolding Around
around_from k j [] h lt = absurd (omega arith)
around_from k zero (o ∷ hours) h lt =
    let rest = all_from (k + 1) hours (rest_from k o hours h) in
    let start : 36000 * (k + 1) ≡ 36000 * (k + 0 + 1) = omega arith in
    let end : 36000 * (k + 1 + length hours) ≡ 36000 * (k + suc (length hours)) = omega arith in
    ([], rows_of hours, rows_of_first o hours, omega arith, subst (λ (f : ℕ). RowsIn f (36000 * (k + suc (length hours))) (rows_of hours)) start (subst (λ (t : ℕ). RowsIn (36000 * (k + 1)) t (rows_of hours)) end rest))
around_from k (suc j) (o ∷ hours) h lt =
    let (front, back, is, a, b) = around_from (k + 1) j hours (rest_from k o hours h) (omega arith) in
    let one = one_from k o hours h in
    let start : 36000 * (k + 1 + j + 1) ≡ 36000 * (k + suc j + 1) = omega arith in
    let mid : 36000 * (k + 1 + j) ≡ 36000 * (k + suc j) = omega arith in
    let end : 36000 * (k + 1 + length hours) ≡ 36000 * (k + suc (length hours)) = omega arith in
    let rows = rows_in (get_or hours j None) in (
      rows_in o ++ front,
      back,
      rows_of_first o hours ∙ (ap (λ rs. rows_in o ++ rs) is ∙ sym (append_assoc (rows_in o) front (rows ++ back))),
      rows_join (36000 * k) (36000 * (k + 1)) (36000 * (k + suc j)) (rows_in o) front one (subst (λ (t : ℕ). RowsIn (36000 * (k + 1)) t front) mid a),
      subst (λ (f : ℕ). RowsIn f (36000 * (k + suc (length hours))) back) start (subst (λ (t : ℕ). RowsIn (36000 * (k + 1 + j + 1)) t back) end b),
    )

pub from_store : (s : Store) → IsStore s → AreFrom 0 s.hours
unfolding AreFrom
from_store s is j h e = let same : j ≡ 0 + j = omega arith in subst (λ (n : ℕ). IsOfHour n h) same (is.in_place j h e)

-- the held rows about an hour
pub record IsAround (s : Store) (hour : ℕ) (rows : List Row) : Type 0 where
  pub front : List Row
  pub back : List Row
  pub parts : rows_of s.hours ≡ front ++ (rows ++ back)
  pub front_in : RowsIn 0 (first_tenth hour) front
  pub back_in : RowsIn (end_tenth hour) (36000 * length s.hours) back

pub around : (s : Store) (hour : ℕ) (rows : Option (List Row)) → IsStore s → hour < length s.hours → rows_at s hour ≡ rows → IsAround s hour (rows_or_none rows)
unfolding Around
around s hour rows is lt e =
    let (front, back, parts, a, b) = around_from 0 hour s.hours (from_store s is) lt in
    let own : rows_in (held_at s hour) ≡ rows_or_none rows = rows_in_is (held_at s hour) ∙ ap rows_or_none e in
    let e1 : 36000 * 0 ≡ 0 = omega arith in
    let e2 : 36000 * (0 + hour) ≡ first_tenth hour = omega arith in
    let e3 : 36000 * (0 + hour + 1) ≡ end_tenth hour = omega arith in
    let e4 : 36000 * (0 + length s.hours) ≡ 36000 * length s.hours = omega arith in
    record {
      front = front;
      back = back;
      parts = parts ∙ ap (λ rs. front ++ (rs ++ back)) own;
      front_in = subst (λ (t : ℕ). RowsIn 0 t front) e2 (subst (λ (f : ℕ). RowsIn f (36000 * (0 + hour)) front) e1 a);
      back_in = subst (λ (t : ℕ). RowsIn (end_tenth hour) t back) e4 (subst (λ (f : ℕ). RowsIn f (36000 * (0 + length s.hours)) back) e3 b);
    }

-- the known rows stand in order in the window
pub known_in_window : (s : Store) → IsStore s → RowsIn 0 (36000 * length s.hours) (known_rows s)
known_in_window s is =
    let all = all_from 0 s.hours (from_store s is) in
    let e1 : 36000 * 0 ≡ 0 = omega arith in
    let e4 : 36000 * (0 + length s.hours) ≡ 36000 * length s.hours = omega arith in
    rows_filter (is_known s) 0 (36000 * length s.hours) (rows_of s.hours) (subst (λ (t : ℕ). RowsIn 0 t (rows_of s.hours)) e4 (subst (λ (f : ℕ). RowsIn f (36000 * (0 + length s.hours)) (rows_of s.hours)) e1 all))

-- each at a known tenth
pub known_each : (s : Store) (n : ℕ) → n < length (known_rows s) → is_known s (get_or (known_rows s) n no_row).at ≡ true
known_each s n lt = All-get_or (λ (r : Row). is_known s r.at ≡ true) (known_rows s) n no_row lt (filter_passes (λ (r : Row). is_known s r.at) (rows_of s.hours))

-- the known tenths of an hour have the events of its rows
pub hour_events : (s : Store) (hour x : ℕ) (rows : Option (List Row)) → IsStore s → hour < length s.hours → rows_at s hour ≡ rows → first_tenth hour ≤ x → x < end_tenth hour → is_known s x ≡ true → events_at (known_rows s) x ≡ events_at (rows_or_none rows) x
hour_events s hour x rows is lt e l1 l2 known =
    let a = around s hour rows is lt e in
    let own = rows_or_none rows in
    events_filter (is_known s) (rows_of s.hours) x known ∙ (ap (λ rs. events_at rs x) a.parts ∙ (events_join a.front (own ++ a.back) x ∙ (ap (λ es. es ++ events_at (own ++ a.back) x) (none_after a.front 0 (first_tenth hour) x a.front_in l1) ∙ (events_join own a.back x ∙ (ap (λ es. events_at own x ++ es) (none_at a.back (end_tenth hour) (36000 * length s.hours) x a.back_in l2) ∙ append-nil (events_at own x))))))
