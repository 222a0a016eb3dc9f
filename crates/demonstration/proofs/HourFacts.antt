-- The rows of an hour are one slice of rows that rise by their tenths.
use Rattle.std.proofs.Common.{◌≡◌, ◌≤◌, ◌<◌, ◌*◌, ℕ, zero, suc, Bool, true, false, List, [], ◌∷◌, length, take, drop, refl, sym, ap, ◌∙◌, arith, nat_lt, nat_le, filter}
use Rattle.std.specs.Prelude.{◌&&◌, All}
use Rattle.std.specs.List.Sorted.{IsNonDecreasingBy, IsPartitionPoint}
use Rattle.std.proofs.lemmas.Bool.Decides.{nat_tests}
use Rattle.std.proofs.lemmas.List.Elements.{All-weaker, filter_passes}
use Rattle.sig_base.specs.declared.values.Row.{Row}
use Rattle.demonstration.specs.Texts.{demo_rows, is_of_hour}
use Rattle.demonstration.proofs.OrderFacts.{ordered-climbs}

-- the row is at one of the tenths from one up to another
abbrev is_between : ℕ → ℕ → Row → Bool
is_between from to r = nat_le from r.at && nat_lt r.at to

too_early : (from to : ℕ) (r : Row) → r.at < from → is_between from to r ≡ false
too_early from to r h = grind (arith, nat_tests)

too_late : (from to : ℕ) (r : Row) → to ≤ r.at → is_between from to r ≡ false
too_late from to r h = grind (arith, nat_tests)

in_time : (from to : ℕ) (r : Row) → from ≤ r.at → r.at < to → is_between from to r ≡ true
in_time from to r h k = grind (arith, nat_tests)

-- so many rows are before the tenth, and the others aren't
abbrev IsCutAt : ℕ → List Row → ℕ → Type 0
IsCutAt tenth rows i = IsPartitionPoint (λ r. r.at < tenth) (λ r. tenth ≤ r.at) rows i

all_late : (from to : ℕ) (rows : List Row) → IsCutAt to rows 0 → filter (is_between from to) rows ≡ []
all_late from to [] h = refl
all_late from to (x ∷ xs) h =
    rw (too_late from to x (h.1 0 x (omega arith) (omega arith)))
    (all_late from to xs ((λ k d lo hi. absurd (omega arith)), (λ k d lo hi. h.1 (suc k) d (omega arith) (omega arith))))

one_less : (tenth i : ℕ) (x : Row) (xs : List Row) → IsCutAt tenth (x ∷ xs) (suc i) → IsCutAt tenth xs i
one_less tenth i x xs h = ((λ k d lo hi. h.0 (suc k) d (omega arith) (omega arith)), (λ k d lo hi. h.1 (suc k) d (omega arith) (omega arith)))

-- where no row is too early, the first ones are those between
front_is : (from to j : ℕ) (rows : List Row) → IsCutAt from rows 0 → j ≤ length rows → IsCutAt to rows j → take j rows ≡ filter (is_between from to) rows
front_is from to zero rows h le q = sym (all_late from to rows q)
front_is from to (suc j) [] h le q = absurd (omega arith)
front_is from to (suc j) (x ∷ xs) h le q =
    let here : is_between from to x ≡ true = in_time from to x (h.1 0 x (omega arith) (omega arith)) (q.0 0 x (omega arith) (omega arith)) in
    let late : IsCutAt from xs 0 = ((λ k d lo hi. absurd (omega arith)), (λ k d lo hi. h.1 (suc k) d (omega arith) (omega arith))) in
    rw here (ap (λ (l : List Row). x ∷ l) (front_is from to j xs late (omega arith) (one_less to j x xs q)))

-- the rows from one cut up to the other are those between
slice_is : (from to i j : ℕ) (rows : List Row) → i ≤ length rows → IsCutAt from rows i → j ≤ length (drop i rows) → IsCutAt to (drop i rows) j
    → take j (drop i rows) ≡ filter (is_between from to) rows
slice_is from to zero j rows le p lj q = front_is from to j rows p lj q
slice_is from to (suc i) j [] le p lj q = absurd (omega arith)
slice_is from to (suc i) j (x ∷ xs) le p lj q =
    rw (too_early from to x (p.0 0 x (omega arith) (omega arith))) (slice_is from to i j xs (omega arith) (one_less from i x xs p) lj q)

pub cut_twice : (from to i j : ℕ) (rows later here : List Row) → later ≡ drop i rows → here ≡ take j later → i ≤ length rows → IsCutAt from rows i
    → j ≤ length later → IsCutAt to later j → here ≡ filter (is_between from to) rows
cut_twice from to i j rows later here el eh le p lj q =
    eh ∙ ap (λ (l : List Row). take j l) el ∙ slice_is from to i j rows le p (rw el at lj) (rw el at q)

-- the rows of a demonstration rise by their tenths
pub demo-climbs : (hours : ℕ) → IsNonDecreasingBy (λ (r : Row). r.at) (demo_rows hours)
unfolding demo_rows
demo-climbs hours = ordered-climbs _

-- the tenths of an hour's rows are within the window
pub hour-within : (hour : ℕ) (rows : List Row) → hour < 168 → All (λ r. r.at < 36000 * 169) (filter (is_of_hour hour) rows)
hour-within hour rows h =
    All-weaker (λ (r : Row). is_of_hour hour r ≡ true) (λ r. r.at < 36000 * 169) (λ r e. grind (arith, nat_tests)) _ (filter_passes (is_of_hour hour) rows)
