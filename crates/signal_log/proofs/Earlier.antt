-- A contradiction depends on the hours up to its row alone.
use Rattle.std.proofs.Common.{suc, zero, ◌≡◌, refl, ap, sym, ◌∙◌, subst, inl, inr, ℕ, ◌+◌, ◌-◌, ◌*◌, ◌<◌, ◌≤◌, Bool, List, [], ◌∷◌, ◌++◌, length, length-append, take, drop, get_or, arith, Option, None}
use Rattle.std.specs.Prelude.{filter, option_map}
use Rattle.std.proofs.lemmas.Bool.{cases_Bool, cases_lt}
use Rattle.std.proofs.lemmas.List.{append_assoc, get_or_append_left, get_or-append_right, take-append-le}
use Rattle.std.proofs.lemmas.List.Elements.{filter-append}
use Rattle.sig_base.specs.declared.values.Row.{Row}
use Rattle.sig_base.specs.HourRows.{Shown}
use Rattle.channel_tables.specs.declared.spec.Spec.{Spec}
use Rattle.hour_store.specs.Store.{IsStore, Store, is_known, known_rows, rows_of}
use Rattle.board.specs.History.{events_at}
use Rattle.board.specs.Channels.{AreSpecs}
use Rattle.board.specs.Moves.{RowsIn}
use Rattle.board.specs.Logs.{first_tenth, no_row}
use Rattle.board.proofs.Bridge.{agreeing_join}
use Rattle.board.proofs.Cutting.{none_after}
use Rattle.board.proofs.Rows.{rows_split}
use Rattle.board.proofs.Upto.{idle}
use Rattle.signal_log.specs.Log.{HasHistory, log_of, track_at}
use Rattle.signal_log.specs.Points.{rows_or_none}
use Rattle.signal_log.specs.Laws.{ContradictionStays, TellSame}
use Rattle.signal_log.proofs.Runs.{agreeing_known}
use Rattle.signal_log.proofs.Stored.{AreFrom, all_from, filter_no, filter_yes, from_store, one_from, rest_from, rows_filter, rows_in, rows_in_is, rows_join, rows_of_first}
use Rattle.signal_log.proofs.Joined.{history_runs}
use Rattle.signal_log.proofs.Contradicting.{rows_take}

-- the rows of the first hours, and those of the others
Parted : ℕ → ℕ → List (Option Shown) → Type 0
Parted k j hours = RowsIn (36000 * k) (36000 * (k + j)) (rows_of (take j hours)) × RowsIn (36000 * (k + j)) (36000 * (k + length hours)) (rows_of (drop j hours)) × (rows_of hours ≡ rows_of (take j hours) ++ rows_of (drop j hours))

parted : (k j : ℕ) (hours : List (Option Shown)) → AreFrom k hours → j ≤ length hours → Parted k j hours
unfolding Parted
parted k zero hours h le =
    let e : 36000 * k ≡ 36000 * (k + 0) = omega arith in
    (omega arith, subst (λ (f : ℕ). RowsIn f (36000 * (k + length hours)) (rows_of hours)) e (all_from k hours h), refl)
parted k (suc j) [] h le = absurd (omega arith)
parted k (suc j) (o ∷ hours) h le =
    let (a, b, c) = parted (k + 1) j hours (rest_from k o hours h) (omega arith) in
    let mid : 36000 * (k + 1 + j) ≡ 36000 * (k + suc j) = omega arith in
    let end : 36000 * (k + 1 + length hours) ≡ 36000 * (k + suc (length hours)) = omega arith in (
      rw (rows_of_first o (take j hours)) (rows_join (36000 * k) (36000 * (k + 1)) (36000 * (k + suc j)) (rows_in o) (rows_of (take j hours)) (one_from k o hours h) (subst (λ (t : ℕ). RowsIn (36000 * (k + 1)) t (rows_of (take j hours))) mid a)),
      subst (λ (f : ℕ). RowsIn f (36000 * (k + suc (length hours))) (rows_of (drop j hours))) mid (subst (λ (t : ℕ). RowsIn (36000 * (k + 1 + j)) t (rows_of (drop j hours))) end b),
      rows_of_first o hours ∙ (ap (λ rs. rows_in o ++ rs) c ∙ (sym (append_assoc (rows_in o) (rows_of (take j hours)) (rows_of (drop j hours))) ∙ ap (λ rs. rs ++ rows_of (drop j hours)) (sym (rows_of_first o (take j hours))))),
    )

-- the same rows of each hour
same_rows : (j : ℕ) (xs ys : List (Option Shown)) → j ≤ length xs → j ≤ length ys → ((i : ℕ) → i < j → option_map (λ (h : Shown). h.rows) (get_or xs i None) ≡ option_map (λ (h : Shown). h.rows) (get_or ys i None)) → rows_of (take j xs) ≡ rows_of (take j ys)
same_rows zero xs ys a b h = refl
same_rows (suc j) [] ys a b h = absurd (omega arith)
same_rows (suc j) (x ∷ xs) [] a b h = absurd (omega arith)
same_rows (suc j) (x ∷ xs) (y ∷ ys) a b h =
    let first : rows_in x ≡ rows_in y = rows_in_is x ∙ (ap rows_or_none (h 0 (omega arith)) ∙ sym (rows_in_is y)) in
    let rest = same_rows j xs ys (omega arith) (omega arith) (λ i lt. h (suc i) (omega arith)) in
    rows_of_first x (take j xs) ∙ (ap (λ rs. rs ++ rows_of (take j xs)) first ∙ (ap (λ rs. rows_in y ++ rs) rest ∙ sym (rows_of_first y (take j ys))))

same_filter : (P Q : ℕ → Bool) (f t : ℕ) (rs : List Row) → RowsIn f t rs → ((x : ℕ) → f ≤ x → x < t → P x ≡ Q x) → filter (λ (r : Row). P r.at) rs ≡ filter (λ (r : Row). Q r.at) rs
same_filter P Q f t [] h e = refl
same_filter P Q f t (r ∷ rs) h e =
    let here = e r.at h.0 h.1 in
    let rest = same_filter P Q r.at t rs h.2 (λ x l1 l2. e x (let a = h.0 in omega arith) l2) in
    elim (cases_Bool (P r.at)) [
      | inl is ↦ filter_yes P r rs is ∙ (ap (λ qs. r ∷ qs) rest ∙ sym (filter_yes Q r rs (sym here ∙ is)))
      | inr not_is ↦ filter_no P r rs not_is ∙ (rest ∙ sym (filter_no Q r rs (sym here ∙ not_is)))
    ]

-- the known rows of the first hours, and those of the others
record Halves (s : Store) (k : ℕ) (front : List Row) : Type 0 where
  pub back : List Row
  pub parts : known_rows s ≡ front ++ back
  pub front_in : RowsIn 0 (first_tenth k) front
  pub back_in : RowsIn (first_tenth k) (36000 * length s.hours) back

front_of : Store → ℕ → List Row
front_of s k = filter (λ (r : Row). is_known s r.at) (rows_of (take k s.hours))

halves : (s : Store) (k : ℕ) → IsStore s → k ≤ length s.hours → Halves s k (front_of s k)
unfolding Parted front_of
halves s k is le =
    let (a, b, c) = parted 0 k s.hours (from_store s is) le in
    let P = is_known s in
    let e1 : 36000 * 0 ≡ 0 = omega arith in
    let e2 : 36000 * (0 + k) ≡ first_tenth k = omega arith in
    let e3 : 36000 * (0 + length s.hours) ≡ 36000 * length s.hours = omega arith in
    let F = filter (λ (r : Row). P r.at) in
    record {
      back = F (rows_of (drop k s.hours));
      parts = ap F c ∙ filter-append (λ (r : Row). P r.at) (rows_of (take k s.hours)) (rows_of (drop k s.hours));
      front_in = rows_filter P 0 (first_tenth k) (rows_of (take k s.hours)) (subst (λ (t : ℕ). RowsIn 0 t (rows_of (take k s.hours))) e2 (subst (λ (f : ℕ). RowsIn f (36000 * (0 + k)) (rows_of (take k s.hours))) e1 a));
      back_in = rows_filter P (first_tenth k) (36000 * length s.hours) (rows_of (drop k s.hours)) (subst (λ (t : ℕ). RowsIn (first_tenth k) t (rows_of (drop k s.hours))) e3 (subst (λ (f : ℕ). RowsIn f (36000 * (0 + length s.hours)) (rows_of (drop k s.hours))) e2 b));
    }

same_fronts : (a b : Store) (k : ℕ) → IsStore a → k ≤ length a.hours → k ≤ length b.hours → TellSame a b 0 k → front_of a k ≡ front_of b k
unfolding Parted front_of
same_fronts a b k is la lb same =
    let (r, _, _) = parted 0 k a.hours (from_store a is) la in
    let e1 : 36000 * 0 ≡ 0 = omega arith in
    let e2 : 36000 * (0 + k) ≡ first_tenth k = omega arith in
    let inside : RowsIn 0 (first_tenth k) (rows_of (take k a.hours)) = subst (λ (t : ℕ). RowsIn 0 t (rows_of (take k a.hours))) e2 (subst (λ (f : ℕ). RowsIn f (36000 * (0 + k)) (rows_of (take k a.hours))) e1 r) in
    same_filter (is_known a) (is_known b) 0 (first_tenth k) (rows_of (take k a.hours)) inside (λ x l1 l2. same.known x (omega arith) l2) ∙ ap (λ rs. filter (λ (q : Row). is_known b q.at) rs) (same_rows k a.hours b.hours la lb (λ i lt. same.rows i (omega arith) lt))

-- a row before the point is one of the first hours
in_front : (front back : List Row) (n t end : ℕ) → RowsIn t end back → n < length (front ++ back) → (get_or (front ++ back) n no_row).at < t → n < length front
in_front front back n t end h lt early = elim (cases_lt n (length front)) [
  | inl small ↦ small
  | inr ge ↦
      let size : length (front ++ back) ≡ length front + length back = length-append front back in
      let here : get_or (front ++ back) n no_row ≡ get_or back (n - length front) no_row = get_or-append_right front back (length front) n no_row refl ge in
      let (_, _, low, _) = rows_split t end (n - length front) back h (omega arith) in
      let same : (get_or (front ++ back) n no_row).at ≡ (get_or back (n - length front) no_row).at = ap (λ (r : Row). r.at) here in
      absurd (omega arith)
]

-- some history agrees with rows before the point, whatever tenths are known after it
carried : (specs : List Spec) (a b : Store) (k : ℕ) (rows : List Row) → AreSpecs specs → k ≤ length a.hours → k ≤ length b.hours → RowsIn 0 (first_tenth k) rows → ((t : ℕ) → first_tenth 0 ≤ t → t < first_tenth k → is_known a t ≡ is_known b t) → HasHistory (record (log_of specs a) { rows = rows }) → HasHistory (record (log_of specs b) { rows = rows })
carried specs a b k rows are la lb h known has = (history_runs (record (log_of specs b) { rows = rows }) are).1 (λ i lt.
    let c = track_at (log_of specs a) i in
    let T = first_tenth k in
    let A = 36000 * length a.hours in
    let B = 36000 * length b.hours in
    let G = events_at rows in
    let (u, (s, bw, g)) = (history_runs (record (log_of specs a) { rows = rows }) are).0 has i lt in
    let (v, g1, _) = (agreeing_join c (is_known a) G 0 T A s u (omega arith) (omega arith)).0 g in
    let g2 = agreeing_known c (is_known a) (is_known b) G G 0 T s v (λ x l1 l2 is. (known x (omega arith) l2 ∙ is, refl)) g1 in
    let g3 = idle c (is_known b) G (B - T) T B v (omega arith) (λ y l1 l2. none_after rows 0 T y h l1) in
    (v, (s, bw, (agreeing_join c (is_known b) G 0 T B s v (omega arith) (omega arith)).1 (v, g2, g3))))

pub contradiction_stays : ContradictionStays
contradiction_stays specs a b k row are ia ib la lb same early p =
    let F = front_of a k in
    let ha = halves a k ia la in
    let hb = halves b k ib lb in
    let T = first_tenth k in
    let split_a : known_rows a ≡ F ++ ha.back = ha.parts in
    let split_b : known_rows b ≡ F ++ hb.back = hb.parts ∙ ap (λ rs. rs ++ hb.back) (sym (same_fronts a b k ia la lb same)) in
    let N = p.place in
    let at_row : row.at ≡ (get_or (F ++ ha.back) N no_row).at = ap (λ (r : Row). r.at) (p.is_row ∙ ap (λ rs. get_or rs N no_row) split_a) in
    let within : N < length (F ++ ha.back) = (let w = p.within in let s = ap length split_a in omega arith) in
    let small = in_front F ha.back N T (36000 * length a.hours) ha.back_in within (omega arith) in
    let first_a : (m : ℕ) → m ≤ N + 1 → take m (known_rows a) ≡ take m F = λ m le. ap (λ rs. take m rs) split_a ∙ take-append-le m F ha.back (omega arith) in
    let first_b : (m : ℕ) → m ≤ N + 1 → take m (known_rows b) ≡ take m F = λ m le. ap (λ rs. take m rs) split_b ∙ take-append-le m F hb.back (omega arith) in
    let here : get_or (known_rows a) N no_row ≡ get_or (known_rows b) N no_row = ap (λ rs. get_or rs N no_row) split_a ∙ (get_or_append_left F ha.back no_row N small ∙ (sym (get_or_append_left F hb.back no_row N small) ∙ sym (ap (λ rs. get_or rs N no_row) split_b))) in
    let told = same.known in
    let back : (t : ℕ) → first_tenth 0 ≤ t → t < T → is_known b t ≡ is_known a t = λ t l1 l2. sym (told t l1 l2) in
    let inside : (m : ℕ) → RowsIn 0 T (take m F) = λ m. rows_take 0 T m F ha.front_in in
    record {
      place = N;
      within = (let e = ap length split_b in let w = length-append F hb.back in omega arith);
      is_row = p.is_row ∙ here;
      none = λ has.
          let one = subst (λ (rs : List Row). HasHistory (record (log_of specs b) { rows = rs })) (first_b (N + 1) (omega arith)) has in
          let two = carried specs b a k (take (N + 1) F) are lb la (inside (N + 1)) back one in
          p.none (subst (λ (rs : List Row). HasHistory (record (log_of specs a) { rows = rs })) (sym (first_a (N + 1) (omega arith))) two);
      least = λ m le.
          let one = subst (λ (rs : List Row). HasHistory (record (log_of specs a) { rows = rs })) (first_a m (omega arith)) (p.least m le) in
          let two = carried specs a b k (take m F) are la lb (inside m) told one in
          subst (λ (rs : List Row). HasHistory (record (log_of specs b) { rows = rs })) (sym (first_b m (omega arith))) two;
    }
