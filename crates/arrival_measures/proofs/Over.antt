-- A cycle from row to row.
use Rattle.std.proofs.Common.{◌≡◌, ℕ, ◌+◌, ◌-◌, ◌^◌, ◌<◌, ◌≤◌, Bool, true, false, cond, List, [], ◌∷◌, ◌++◌, refl, ap, sym, ◌∙◌, arith, inl, inr, append_assoc, ltb, length, filter}
use Rattle.std.specs.Prelude.{All, count_by, ◌&&◌}
use Rattle.std.proofs.lemmas.List.{append-nil}
use Rattle.std.proofs.lemmas.List.Elements.{All-append, All-push, All-weaker}
use Rattle.std.proofs.lemmas.Bool.{cases_lt, lt-ltb, le-ltb, cond-true, cond-false}
use Rattle.sig_base.specs.declared.values.Row.{Row}
use Rattle.hour_sweep.specs.Hours.{AreOrdered}
use Rattle.hour_sweep.specs.Passes.{swept_rows}
use Rattle.hour_sweep.proofs.Orders.{below_end, end_of}
use Rattle.hour_sweep.specs.Sums.{capped}
use Rattle.hour_sweep.proofs.Adding.{capped-add}
use Rattle.hour_sweep.proofs.SumCommon.{capped_none}
use Rattle.arrival_measures.specs.declared.open.Open.{Open}
use Rattle.arrival_measures.specs.declared.in_tenth.InTenth.{InTenth}
use Rattle.arrival_measures.specs.Arrivals.{is_on, rows_within}
use Rattle.arrival_measures.specs.Green.{arrivals_in, green_arrivals_in, green_tenths_in, greens, shows_green}
use Rattle.arrival_measures.specs.Opens.{open_at}
use Rattle.arrival_measures.specs.InTenths.{in_tenth, ended, moved, with_row, tenth_after}
use Rattle.arrival_measures.proofs.Within.{within_before, within_none, within_empty, shows_on, shows_row}
use Rattle.arrival_measures.proofs.Counts.{arrivals_on, green_on, arrivals_off, arrivals_row, green_off}
use Rattle.arrival_measures.proofs.Tenths.{tenths_within, tenths_on, tenths_off}

abbrev cycle : ℕ → ℕ → ℕ → ℕ → Bool → Open
cycle a n g t b = record { from = a; arrivals = n; green = g; green_tenths = t; is_green = b }

abbrev tenth : Open → ℕ → ℕ → InTenth
tenth o t n = record { cycle = o; at = t; arrivals = n }

cycle_same : (a n g t n' g' t' : ℕ) (b b' : Bool) → n ≡ n' → g ≡ g' → t ≡ t' → b ≡ b' → cycle a n g t b ≡ cycle a n' g' t' b'
cycle_same a n g t n' g' t' b b' en eg et eb =
    ap (λ x. cycle a x g t b) en ∙ ap (λ x. cycle a n' x t b) eg ∙ ap (λ x. cycle a n' g' x b) et ∙ ap (λ x. cycle a n' g' t' x) eb

tenth_same : (o o' : Open) (t n n' : ℕ) → o ≡ o' → n ≡ n' → tenth o t n ≡ tenth o' t n'
tenth_same o o' t n n' eo en = ap (λ x. tenth x t n) eo ∙ ap (λ x. tenth o' t x) en

-- a cycle begins with nothing
pub open_nil : (p d a : ℕ) (rows : List Row) → record { from = a; arrivals = 0; green = 0; green_tenths = 0; is_green = false } ≡ open_at p d a a rows
unfolding open_at
open_nil p d a rows =
    let none = within_empty a a rows (omega arith) in
    let tenths = tenths_within (shows_green p a rows) a (a - a) in
    cycle_same a 0 0 0 (capped (arrivals_in d a a rows)) (capped (green_arrivals_in p d a a rows)) (green_tenths_in p a a rows) false (greens p false (rows_within a a rows))
    (sym (ap (λ zs. capped (length (filter (is_on d) zs))) none ∙ capped_none))
    (sym (ap (λ zs. capped (count_by (λ x. is_on d x && shows_green p a rows x.at) zs)) none ∙ capped_none))
    (omega arith)
    (sym (ap (λ zs. greens p false zs) none))

-- at the beginning of tenth t
first_tenth : (p d a t : ℕ) (o : Open) (rows : List Row) → o ≡ open_at p d a t rows → All (λ x. x.at < t) rows → tenth o t 0 ≡ in_tenth p d a t rows
unfolding open_at in_tenth shows_green
first_tenth p d a t o rows e h =
    tenth_same o _ t 0 (capped (arrivals_in d t (t + 1) rows))
    (e ∙ ap (λ zs. cycle a (capped (arrivals_in d a t rows)) (capped (green_arrivals_in p d a t rows)) (green_tenths_in p a t rows) (greens p false zs)) (within_before a t t (t + 1) rows (omega arith) (omega arith) h))
    (sym (ap (λ zs. capped (length (filter (is_on d) zs))) (within_none t (t + 1) rows h) ∙ capped_none))

capped_cond : (v : Bool) (n : ℕ) → cond v (capped n) 0 ≡ capped (cond v n 0)
capped_cond true n = refl
capped_cond false n = sym capped_none

ended_is : (p d a t u : ℕ) (rows : List Row) → a ≤ t → t < u → u < 2 ^ 32 → All (λ x. x.at ≤ t) rows → ended u (in_tenth p d a t rows) ≡ in_tenth p d a u rows
unfolding in_tenth ended
ended_is p d a t u rows le lt small h =
    let show = shows_green p a rows t in
    let here = arrivals_in d t (t + 1) rows in
    let within = tenths_within (shows_green p a rows) a (u - a) in
    let sum = tenths_on p a t u rows le (omega arith) h in
    tenth_same _ _ u 0 (capped (arrivals_in d u (u + 1) rows))
    (cycle_same a _ _ _ (capped (arrivals_in d a u rows)) (capped (green_arrivals_in p d a u rows)) (green_tenths_in p a u rows) show (shows_green p a rows u)
    (capped-add (arrivals_in d a t rows) here ∙ ap (λ n. capped n) (sym (arrivals_on d a t u rows le lt h)))
    (ap (λ n. capped (capped (green_arrivals_in p d a t rows) + n)) (capped_cond show here)
    ∙ capped-add (green_arrivals_in p d a t rows) (cond show here 0)
    ∙ ap (λ n. capped n) (sym (green_on p d a t u rows le lt h)))
    (omega (arith, sum, within))
    (sym (shows_on p a t u rows (omega arith) h)))
    (sym (ap (λ zs. capped (length (filter (is_on d) zs))) (within_none u (u + 1) rows (All-weaker (λ x. x.at ≤ t) (λ x. x.at < u) (λ x up. omega arith) rows h)) ∙ capped_none))

at_of : (p d a t : ℕ) (rows : List Row) → (in_tenth p d a t rows).at ≡ t
unfolding in_tenth
at_of p d a t rows = refl

moved_if : (w : InTenth) (u : ℕ) → moved u w ≡ cond (ltb w.at u) (ended u w) w
unfolding moved
moved_if w u = refl

moved_is : (p d a t u : ℕ) (rows : List Row) → a ≤ t → t ≤ u → u < 2 ^ 32 → All (λ x. x.at ≤ t) rows → moved u (in_tenth p d a t rows) ≡ in_tenth p d a u rows
moved_is p d a t u rows le up small h =
    let w = in_tenth p d a t rows in
    let at = at_of p d a t rows in
    moved_if w u ∙ elim (cases_lt t u) [
      | inl lt ↦ cond-true (ltb w.at u) (ended u w) w (lt-ltb w.at u (omega arith)) ∙ ended_is p d a t u rows le lt small h
      | inr ge ↦ cond-false (ltb w.at u) (ended u w) w (le-ltb w.at u (omega arith)) ∙ ap (λ s. in_tenth p d a s rows) (let same : t ≡ u = omega arith in same)
    ]

one_more : (m n : ℕ) → n ≤ 1 → capped (capped m + n) ≡ capped (m + n)
unfolding capped
one_more m n le = omega arith

cond_small : (v : Bool) → cond v 1 0 ≤ 1
cond_small true = omega arith
cond_small false = omega arith

row_is : (p d a : ℕ) (rows : List Row) (x : Row) → a ≤ x.at → with_row p d (in_tenth p d a x.at rows) x ≡ in_tenth p d a x.at (rows ++ x ∷ [])
unfolding in_tenth with_row
row_is p d a rows x le =
    let here = arrivals_in d x.at (x.at + 1) rows in
    tenth_same _ _ x.at _ (capped (arrivals_in d x.at (x.at + 1) (rows ++ x ∷ [])))
    (cycle_same a _ _ _ (capped (arrivals_in d a x.at (rows ++ x ∷ []))) (capped (green_arrivals_in p d a x.at (rows ++ x ∷ []))) (green_tenths_in p a x.at (rows ++ x ∷ [])) _ (shows_green p a (rows ++ x ∷ []) x.at)
    (ap (λ n. capped n) (sym (arrivals_off d a rows x)))
    (ap (λ n. capped n) (sym (green_off p d a rows x)))
    (sym (tenths_off p a rows x le))
    (sym (shows_row p a rows x le)))
    (one_more here (cond (is_on d x) 1 0) (cond_small (is_on d x)) ∙ ap (λ n. capped n) (sym (arrivals_row d rows x)))

-- row by row
swept_is : (p d a t to : ℕ) (before rows : List Row) → a ≤ t → to < 2 ^ 32 → All (λ x. x.at ≤ t) before → AreOrdered t to rows
    → moved to (swept_rows (tenth_after p d) rows (in_tenth p d a t before)) ≡ in_tenth p d a to (before ++ rows)
swept_is p d a t to before [] le small h order =
    moved_is p d a t to before le order small h ∙ ap (λ zs. in_tenth p d a to zs) (sym (append-nil before))
swept_is p d a t to before (x ∷ rows) le small h order =
    let lo = order.0 in
    let up = order.1 in
    let now : with_row p d (moved x.at (in_tenth p d a t before)) x ≡ in_tenth p d a x.at (before ++ x ∷ [])
    = ap (λ w. with_row p d w x) (moved_is p d a t x.at before le lo (omega arith) h) ∙ row_is p d a before x (omega arith) in
    ap (λ w. moved to (swept_rows (tenth_after p d) rows w)) now
    ∙ swept_is p d a x.at to (before ++ x ∷ []) rows (omega arith) small
    (All-push (λ z. z.at ≤ x.at) before x (All-weaker (λ z. z.at ≤ t) (λ z. z.at ≤ x.at) (λ z le. omega arith) before h) (omega arith))
    order.2
    ∙ ap (λ zs. in_tenth p d a to zs) (append_assoc before (x ∷ []) rows)

-- at the end of the rows
last_tenth : (p d a t : ℕ) (rows : List Row) → All (λ x. x.at < t) rows → (in_tenth p d a t rows).cycle ≡ open_at p d a t rows
unfolding open_at in_tenth shows_green
last_tenth p d a t rows h =
    ap (λ zs. cycle a (capped (arrivals_in d a t rows)) (capped (green_arrivals_in p d a t rows)) (green_tenths_in p a t rows) (greens p false zs)) (within_before a t (t + 1) t rows (omega arith) (omega arith) h)

pub over_is : (p d a t to : ℕ) (o : Open) (earlier rows : List Row) → o ≡ open_at p d a t earlier → a ≤ t → to < 2 ^ 32 → All (λ x. x.at < t) earlier → AreOrdered t to rows
    → (moved to (swept_rows (tenth_after p d) rows (tenth o t 0))).cycle ≡ open_at p d a to (earlier ++ rows)
over_is p d a t to o earlier rows e le small h order =
    let up = end_of t to rows order in
    ap (λ w. (moved to (swept_rows (tenth_after p d) rows w)).cycle) (first_tenth p d a t o earlier e h)
    ∙ ap (λ w. w.cycle) (swept_is p d a t to earlier rows le small (All-weaker (λ x. x.at < t) (λ x. x.at ≤ t) (λ x lt. omega arith) earlier h) order)
    ∙ last_tenth p d a to (earlier ++ rows) (All-append (λ x. x.at < to) earlier rows (All-weaker (λ x. x.at < t) (λ x. x.at < to) (λ x lt. omega arith) earlier h) (below_end t to rows order))
