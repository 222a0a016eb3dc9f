-- Places of what is told up to a tenth, or from one on.
use Rattle.std.proofs.Common.{◌≡◌, refl, ap, sym, ◌∙◌, subst, inl, inr, ℕ, suc, zero, ◌+◌, ◌-◌, ◌<◌, ◌≤◌, true, false, ltb, List, [], ◌∷◌, ◌++◌, length, take, drop, get_or, arith, take-append-drop}
use Rattle.std.specs.List.Sorted.{IsNonDecreasingBy, IsPartitionPoint}
use Rattle.std.proofs.lemmas.List.{length-take-le}
use Rattle.std.proofs.lemmas.List.Sorted.{IsNonDecreasingBy-from_default}
use Rattle.sig_base.specs.declared.values.Row.{Row}
use Rattle.gap_map.specs.declared.stretch.Stretch.{Stretch}
use Rattle.gap_map.proofs.Cutting.{nat_cases}
use Rattle.board.specs.History.{events_at}
use Rattle.board.specs.Logs.{no_row}
use Rattle.board.specs.Moves.{RowsIn, count_before}
use Rattle.board.specs.Places.{IsPlace, since, upto}
use Rattle.board.proofs.Bridge.{cut_rows}
use Rattle.board.proofs.Cutting.{events_join, none_after, since_in, upto_in, upto_known, since_known}
use Rattle.board.proofs.Rows.{rows_split}
use Rattle.board.proofs.Adding.{count_le}
use Rattle.rule_audit.proofs.Walking.{sorted}
use Rattle.decisive.specs.Candidates.{rows_from}
use Rattle.decisive.specs.Laws.{rows_to}
use Rattle.decisive.proofs.Since.{back, take_both}

-- rows before a place are counted up to any later tenth
pub count_over : (f g m n : ℕ) (rows : List Row) → n ≤ length rows → RowsIn f g (take n rows) → g ≤ m → n ≤ count_before m rows
count_over f g m zero rows le h few = omega arith
count_over f g m (suc n) [] le h few = absurd (omega arith)
count_over f g m (suc n) (r ∷ rows) le (a, b, h) few = elim (nat_cases r.at m) [ inl (test, _) ↦ rw test (let k = count_over r.at g m n rows (omega arith) h few in omega arith) | inr (_, ge) ↦ absurd (omega arith) ]

-- rows from a place on aren't
pub count_under : (x t m n : ℕ) (rows : List Row) → RowsIn x t (drop n rows) → m ≤ x → count_before m rows ≤ n
count_under x t m zero [] h le = omega arith
count_under x t m zero (r ∷ rows) (a, b, h) le = elim (nat_cases r.at m) [ inl (_, lt) ↦ absurd (omega arith) | inr (test, _) ↦ rw test (omega arith) ]
count_under x t m (suc n) [] h le = omega arith
count_under x t m (suc n) (r ∷ rows) h le = elim (nat_cases r.at m) [ inl (test, _) ↦ rw test (let k = count_under x t m n rows h le in omega arith) | inr (test, _) ↦ rw test (omega arith) ]

-- the rows of a range cut at a tenth, of those from a place on
drop_both : (x t w n : ℕ) (rows : List Row) → RowsIn x t (drop n rows) → x ≤ w → w < t → n ≤ count_before (w + 1) rows → RowsIn x (w + 1) (drop n (take (count_before (w + 1) rows) rows))
drop_both x t w zero rows h a b le = (cut_rows x (w + 1) t rows (omega arith) (omega arith) h).0
drop_both x t w (suc n) [] h a b le = absurd (omega arith)
drop_both x t w (suc n) (r ∷ rows) h a b le = elim (nat_cases r.at (w + 1)) [
  | inl (test, _) ↦ rw test (drop_both x t w n rows h a b (let more : suc n ≤ suc (count_before (w + 1) rows) = rw test at le in omega arith))
  | inr (test, ge) ↦ absurd (let bad : suc n ≤ 0 = rw test at le in omega arith)
]

pub place_upto : (f t x n w : ℕ) (rows : List Row) (ss : List Stretch) → IsPlace f t rows ss x n → x ≤ w → w < t → IsPlace f (w + 1) (rows_to w rows) (upto w ss) x n
place_upto f t x n w rows ss p le lt =
    let c = count_before (w + 1) rows in
    let over : n ≤ c = count_over f (x + 1) (w + 1) n rows p.count p.before (omega arith) in
    let first = p.first in
    let size : length (take c rows) ≡ c = length-take-le c rows (count_le (w + 1) rows) in
    record {
      stretches = upto_in f t w ss p.stretches (omega arith) lt;
      rows_in = (cut_rows f (w + 1) t rows (omega arith) (omega arith) p.rows_in).0;
      first = first;
      last = omega arith;
      is_known = sym (upto_known f t w x ss p.stretches (omega arith) lt first (omega arith)) ∙ p.is_known;
      count = omega arith;
      before = subst (λ rs. RowsIn f (x + 1) rs) (sym (take_both n c rows over)) p.before;
      after = drop_both x t w n rows p.after le lt over;
    }

pub take_part : (c n : ℕ) (rows : List Row) → c ≤ n → take (n - c) (drop c rows) ≡ drop c (take n rows)
take_part zero n rows le = let e : n - 0 ≡ n = omega arith in ap (λ q. take q rows) e
take_part (suc c) zero rows le = absurd (omega arith)
take_part (suc c) (suc n) [] le = nil (suc n - suc c)
  where
    nil : (q : ℕ) → take {A = Row} q [] ≡ []
    nil zero = refl
    nil (suc q) = refl
take_part (suc c) (suc n) (r ∷ rows) le = let e : suc n - suc c ≡ n - c = omega arith in ap (λ q. take q (drop c rows)) e ∙ take_part c n rows (omega arith)

-- of rows up to a place those from a tenth on
from_part : (f g u n : ℕ) (rows : List Row) → RowsIn f g (take n rows) → f ≤ u → u ≤ g → count_before u rows ≤ n → RowsIn u g (drop (count_before u rows) (take n rows))
from_part f g u n [] h a b le = rest n
  where
    rest : (m : ℕ) → RowsIn u g (drop 0 (take m []))
    rest zero = b
    rest (suc m) = b
from_part f g u zero (r ∷ rows) h a b le = elim (nat_cases r.at u) [ inl (test, _) ↦ absurd (let bad : suc (count_before u rows) ≤ 0 = rw test at le in omega arith) | inr (test, _) ↦ rw test b ]
from_part f g u (suc n) (r ∷ rows) (p, q, h) a b le = elim (nat_cases r.at u) [
  | inl (test, lt) ↦ rw test (from_part r.at g u n rows h (omega arith) b (let more : suc (count_before u rows) ≤ suc n = rw test at le in omega arith))
  | inr (test, ge) ↦ rw test (ge, q, h)
]

len_drop : (q : ℕ) (rs : List Row) → length (drop q rs) ≡ length rs - q
len_drop zero rs = omega arith
len_drop (suc q) [] = omega arith
len_drop (suc q) (z ∷ rs) = let h = len_drop q rs in omega arith

pub place_since : (f t x n u : ℕ) (rows : List Row) (ss : List Stretch) → IsPlace f t rows ss x n → f ≤ u → u ≤ x → IsPlace u t (rows_from u rows) (since u ss) x (n - count_before u rows)
place_since f t x n u rows ss p low le =
    let c = count_before u rows in
    let under : c ≤ n = count_under x t u n rows p.after le in
    let last = p.last in
    let count = p.count in
    let size = len_drop c rows in
    record {
      stretches = since_in f t u ss p.stretches low (omega arith);
      rows_in = (cut_rows f u t rows low (omega arith) p.rows_in).1;
      first = le;
      last = last;
      is_known = sym (since_known f t u x ss p.stretches low (omega arith) le last) ∙ p.is_known;
      count = omega arith;
      before = subst (λ rs. RowsIn u (x + 1) rs) (sym (take_part c n rows under)) (from_part f (x + 1) u n rows p.before low (omega arith) under);
      after = subst (λ rs. RowsIn x t rs) (back c n rows under) p.after;
    }

-- a row from the place on is no earlier, and in what is told
pub row_after : (f t x n i : ℕ) (rows : List Row) (ss : List Stretch) → IsPlace f t rows ss x n → n ≤ i → i < length rows → (x ≤ (get_or rows i no_row).at) × ((get_or rows i no_row).at < t)
row_after f t x n i rows ss p le lt = go n i rows p.after le lt
  where
    low : (a b k : ℕ) (rs : List Row) → RowsIn a b rs → k < length rs → (a ≤ (get_or rs k no_row).at) × ((get_or rs k no_row).at < b)
    low a b k rs h l = let (_, _, one, two) = rows_split a b k rs h l in (one, two)

    go : (m k : ℕ) (rs : List Row) → RowsIn x t (drop m rs) → m ≤ k → k < length rs → (x ≤ (get_or rs k no_row).at) × ((get_or rs k no_row).at < t)
    go zero k rs h l1 l2 = low x t k rs h l2
    go (suc m) k [] h l1 l2 = absurd (omega arith)
    go (suc m) zero (r ∷ rs) h l1 l2 = absurd (omega arith)
    go (suc m) (suc k) (r ∷ rs) h l1 l2 = go m k rs h (omega arith) (omega arith)

-- a row before the place is no later
pub row_before : (f t x n i : ℕ) (rows : List Row) (ss : List Stretch) → IsPlace f t rows ss x n → i < n → (f ≤ (get_or rows i no_row).at) × ((get_or rows i no_row).at ≤ x)
row_before f t x n i rows ss p lt = go f n i rows p.count p.before lt
  where
    go : (g m k : ℕ) (rs : List Row) → m ≤ length rs → RowsIn g (x + 1) (take m rs) → k < m → (g ≤ (get_or rs k no_row).at) × ((get_or rs k no_row).at ≤ x)
    go g zero k rs l0 h l = absurd (omega arith)
    go g (suc m) k [] l0 h l = absurd (omega arith)
    go g (suc m) zero (r ∷ rs) l0 (a, b, h) l = (a, omega arith)
    go g (suc m) (suc k) (r ∷ rs) l0 (a, b, h) l = let (one, two) = go r.at m k rs (omega arith) h (omega arith) in (omega arith, two)

-- the events before a place don't change where the rows before an earlier tenth are left out
pub rank_from : (f t x n u : ℕ) (rows : List Row) (ss : List Stretch) → IsPlace f t rows ss x n → f ≤ u → u ≤ x → length (events_at (take (n - count_before u rows) (rows_from u rows)) x) ≡ length (events_at (take n rows) x)
rank_from f t x n u rows ss p low le =
    let c = count_before u rows in
    let last = p.last in
    let under : c ≤ n = count_under x t u n rows p.after le in
    let (k1, k2, k3, k4) = cut_rows f u t rows low (omega arith) p.rows_in in
    let whole : take n rows ≡ take c rows ++ drop c (take n rows) = sym (ap (λ rs. rs ++ drop c (take n rows)) (sym (take_both c n rows under)) ∙ take-append-drop c (take n rows)) in
    let parts_same : length (events_at (take n rows) x) ≡ length (events_at (drop c (take n rows)) x) = ap (λ (rs : List Row). length (events_at rs x)) whole ∙ ap (λ es. length es) (events_join (take c rows) (drop c (take n rows)) x ∙ ap (λ es. es ++ events_at (drop c (take n rows)) x) (none_after (take c rows) f u x k1 le)) in
    ap (λ (rs : List Row). length (events_at rs x)) (take_part c n rows under) ∙ sym parts_same

pub rows_rise : (f t : ℕ) (rows : List Row) → RowsIn f t rows → IsNonDecreasingBy (λ (r : Row). r.at) rows
rows_rise f t rows h = IsNonDecreasingBy-from_default (λ (r : Row). r.at) rows no_row (λ i j le lt. sorted f t i j rows h le lt)

-- the place at which rows in order are told apart by a tenth
pub count_point : (y : ℕ) (rows : List Row) (i : ℕ) → i ≤ length rows → IsPartitionPoint (λ (r : Row). ltb r.at y ≡ true) (λ (r : Row). ltb r.at y ≡ false) rows i → i ≡ count_before y rows
count_point y [] i le at = omega arith
count_point y (r ∷ rows) zero le at = let late : ltb r.at y ≡ false = at.1 0 r (omega arith) (omega arith) in rw late refl
count_point y (r ∷ rows) (suc i) le at =
    let early : ltb r.at y ≡ true = at.0 0 r (omega arith) (omega arith) in
    let rest = count_point y rows i (omega arith) ((λ k d lo hi. at.0 (suc k) d (omega arith) (omega arith)), (λ k d lo hi. at.1 (suc k) d (omega arith) (omega arith))) in
    rw early (ap suc rest)
