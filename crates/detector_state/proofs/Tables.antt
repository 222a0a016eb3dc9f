-- The tables of the switch and of the detector with a fault.
use Rattle.std.proofs.Common.{suc, zero, ◌≡◌, refl, sym, ◌∙◌, ℕ, ◌<◌, ◌≤◌, nat_eq, if◌then◌else◌, Some, List, arith}
use Rattle.std.specs.Prelude.{slice_index}
use Rattle.sig_base.proofs.Common.{some_same}
use Rattle.colour_machine.specs.Rules.{Rules, Goes}
use Rattle.channel_tables.specs.Table.{table_rules}
use Rattle.channel_tables.specs.SwitchTables.{ped_detector_table}
use Rattle.channel_tables.specs.DetectorTable.{detector_table}
use Rattle.detector_state.specs.Free.{IsFree, IsMixed, IsOrdered, Order}
use Rattle.detector_state.specs.Tables.{TablesAreOrdered, fault_order, fault_rank, switch_order}

below_two : (P : ℕ → Type 0) → P 0 → P 1 → (n : ℕ) → n < 2 → P n
below_two P a b zero lt = a
below_two P a b (suc zero) lt = b
below_two P a b (suc (suc n)) lt = absurd (omega arith)

pub below_three : (P : ℕ → Type 0) → P 0 → P 1 → P 2 → (n : ℕ) → n < 3 → P n
below_three P a b c zero lt = a
below_three P a b c (suc zero) lt = b
below_three P a b c (suc (suc zero)) lt = c
below_three P a b c (suc (suc (suc n))) lt = absurd (omega arith)

pub below_eight : (P : ℕ → Type 0) → P 0 → P 1 → P 2 → P 3 → P 4 → P 5 → P 6 → P 7 → (n : ℕ) → n < 8 → P n
below_eight P a b c d e f g h zero lt = a
below_eight P a b c d e f g h (suc zero) lt = b
below_eight P a b c d e f g h (suc (suc zero)) lt = c
below_eight P a b c d e f g h (suc (suc (suc zero))) lt = d
below_eight P a b c d e f g h (suc (suc (suc (suc zero)))) lt = e
below_eight P a b c d e f g h (suc (suc (suc (suc (suc zero))))) lt = f
below_eight P a b c d e f g h (suc (suc (suc (suc (suc (suc zero)))))) lt = g
below_eight P a b c d e f g h (suc (suc (suc (suc (suc (suc (suc zero))))))) lt = h
below_eight P a b c d e f g h (suc (suc (suc (suc (suc (suc (suc (suc n)))))))) lt = absurd (omega arith)

module _ (m : Rules) (to : ℕ → ℕ → ℕ) (next : (c l : ℕ) → c < m.colours → l < m.letters → (m.next c l ≡ Some (to c l)) × (to c l < m.colours)) (floor : (c : ℕ) → c < m.colours → m.floor c ≡ 0) where
  goes_to : (c l : ℕ) → c < m.colours → l < m.letters → Goes m c l (to c l)
  goes_to c l few lt = (few, lt, (next c l few lt).0)

  is_free : IsFree m
  is_free = record { legal = λ c l few lt. (to c l, goes_to c l few lt, (next c l few lt).1); floor = floor }

  goes_is : (c l x : ℕ) → Goes m c l x → x ≡ to c l
  goes_is c l x (few, lt, e) = some_same x (to c l) (sym e ∙ (next c l few lt).0)

  module _ (o : Order) (keeps : (l c d : ℕ) → l < m.letters → c < m.colours → d < m.colours → o.rank c ≤ o.rank d → o.rank (to c l) ≤ o.rank (to d l)) where
    keep : (l c d x y : ℕ) → Goes m c l x → Goes m d l y → o.rank c ≤ o.rank d → o.rank x ≤ o.rank y
    keep l c d x y a b le = rw (goes_is c l x a, goes_is d l y b) (keeps l c d a.1 a.0 b.0 le)

-- the switch
switch_to : ℕ → ℕ → ℕ
switch_to c l = l

abbrev pub SwitchFits : Rules → Type 0
SwitchFits m = IsOrdered m switch_order × IsMixed m

-- a machine of two colours that each letter leads to its own, at once
pub switch_fits : (m : Rules) → m.colours ≡ 2 → m.letters ≡ 2 → m.next 0 0 ≡ Some 0 → m.next 0 1 ≡ Some 1 → m.next 1 0 ≡ Some 0 → m.next 1 1 ≡ Some 1 → ((c : ℕ) → m.floor c ≡ 0) → SwitchFits m
unfolding switch_to
switch_fits m cs ls e00 e01 e10 e11 none =
    let two : (c l : ℕ) → c < 2 → l < 2 → (m.next c l ≡ Some l) × (l < 2) = λ c l few lt. below_two (λ y. (m.next y l ≡ Some l) × (l < 2)) (below_two (λ j. (m.next 0 j ≡ Some j) × (j < 2)) (e00, omega arith) (e01, omega arith) l lt) (below_two (λ j. (m.next 1 j ≡ Some j) × (j < 2)) (e10, omega arith) (e11, omega arith) l lt) c few in
    let next : (c l : ℕ) → c < m.colours → l < m.letters → (m.next c l ≡ Some (switch_to c l)) × (switch_to c l < m.colours) = λ c l few lt. let (e, small) = two c l (omega (arith, cs)) (omega (arith, ls)) in (e, omega (arith, cs)) in
    let free = is_free m switch_to next (λ c few. none c) in
    let go : (c l : ℕ) → c < m.colours → l < m.letters → Goes m c l l = goes_to m switch_to next (λ c few. none c) in (
      record {
        free = free;
        on_colour = omega (arith, cs);
        least_colour = omega (arith, cs);
        greatest = λ c few. omega (arith, cs);
        alone = λ c few le. omega (arith, cs);
        lowest = λ c few. omega arith;
        keeps = keep m switch_to next (λ c few. none c) switch_order (λ l c d lt few few2 le. omega arith);
        falls = λ c few. go c 0 few (omega (arith, ls));
        rises = λ c few. go c 1 few (omega (arith, ls));
      },
      record { free = free; all = λ c d few lt. (d, go c d few (omega (arith, cs, ls))) },
    )

switch_parts : (floors : List ℕ) → ((c : ℕ) → slice_index floors c ≡ 0) → SwitchFits (table_rules ped_detector_table floors)
switch_parts floors none = switch_fits (table_rules ped_detector_table floors) refl refl refl refl refl refl none

-- the detector with a fault
fault_to : ℕ → ℕ → ℕ
fault_to c l = if nat_eq l 0 then 0 else if nat_eq l 1 then 1 else if nat_eq l 2 then (if nat_eq c 1 then 1 else 0) else 2

fault_next : (floors : List ℕ) (c l : ℕ) → c < 3 → l < 8 → ((table_rules detector_table floors).next c l ≡ Some (fault_to c l)) × (fault_to c l < 3)
unfolding fault_to
fault_next floors c l few lt =
    let m = table_rules detector_table floors in
    let P : ℕ → ℕ → Type 0 = λ y j. (m.next y j ≡ Some (fault_to y j)) × (fault_to y j < 3) in
    let one : (y : ℕ) → P y 0 → P y 1 → P y 2 → P y 3 → P y 4 → P y 5 → P y 6 → P y 7 → P y l = λ y a b c d e f g h. below_eight (λ j. P y j) a b c d e f g h l lt in
    below_three (λ y. P y l)
    (one 0 (refl, omega arith) (refl, omega arith) (refl, omega arith) (refl, omega arith) (refl, omega arith) (refl, omega arith) (refl, omega arith) (refl, omega arith))
    (one 1 (refl, omega arith) (refl, omega arith) (refl, omega arith) (refl, omega arith) (refl, omega arith) (refl, omega arith) (refl, omega arith) (refl, omega arith))
    (one 2 (refl, omega arith) (refl, omega arith) (refl, omega arith) (refl, omega arith) (refl, omega arith) (refl, omega arith) (refl, omega arith) (refl, omega arith))
    c few

fault_keeps : (l c d : ℕ) → l < 8 → c < 3 → d < 3 → fault_rank c ≤ fault_rank d → fault_rank (fault_to c l) ≤ fault_rank (fault_to d l)
unfolding fault_to
fault_keeps l c d lt few few2 =
    let P : ℕ → ℕ → ℕ → Type 0 = λ l c d. fault_rank c ≤ fault_rank d → fault_rank (fault_to c l) ≤ fault_rank (fault_to d l) in
    let two : (x y : ℕ) → x < 3 → y < 3 → P 2 x y = λ x y fx fy. below_three (λ a. P 2 a y) (below_three (λ b. P 2 0 b) (λ h. omega arith) (λ h. omega arith) (λ h. omega arith) y fy) (below_three (λ b. P 2 1 b) (λ h. omega arith) (λ h. omega arith) (λ h. omega arith) y fy) (below_three (λ b. P 2 2 b) (λ h. omega arith) (λ h. omega arith) (λ h. omega arith) y fy) x fx in
    below_eight (λ j. P j c d) (λ h. omega arith) (λ h. omega arith) (two c d few few2) (λ h. omega arith) (λ h. omega arith) (λ h. omega arith) (λ h. omega arith) (λ h. omega arith) l lt

pub fault_parts : (floors : List ℕ) → ((c : ℕ) → slice_index floors c ≡ 0) → IsOrdered (table_rules detector_table floors) fault_order × IsMixed (table_rules detector_table floors)
unfolding fault_to
fault_parts floors none =
    let m = table_rules detector_table floors in
    let next = fault_next floors in
    let free = is_free m fault_to next (λ c few. none c) in
    let go : (c l : ℕ) → c < 3 → l < 8 → Goes m c l (fault_to c l) = goes_to m fault_to next (λ c few. none c) in (
      record {
        free = free;
        on_colour = omega arith;
        least_colour = omega arith;
        greatest = below_three (λ c. fault_rank c ≤ fault_rank 1) (omega arith) (omega arith) (omega arith);
        alone = below_three (λ c. fault_rank 1 ≤ fault_rank c → c ≡ 1) (λ h. omega arith) (λ h. refl) (λ h. omega arith);
        lowest = below_three (λ c. fault_rank 2 ≤ fault_rank c) (omega arith) (omega arith) (omega arith);
        keeps = keep m fault_to next (λ c few. none c) fault_order fault_keeps;
        falls = λ c few. go c 3 few (omega arith);
        rises = λ c few. go c 1 few (omega arith);
      },
      record {
        free = free;
        all = λ c d few lt. below_three (λ x. (l : ℕ) × Goes m c l x) (0, go c 0 few (omega arith)) (1, go c 1 few (omega arith)) (3, go c 3 few (omega arith)) d lt;
      },
    )

pub tables_are_ordered : TablesAreOrdered
tables_are_ordered floors none = (switch_parts floors none, fault_parts floors none)
