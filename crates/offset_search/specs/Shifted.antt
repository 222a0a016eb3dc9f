-- The vehicles that meet green when each comes some seconds later in its cycle.
use Rattle.std.specs.Prelude.{ℕ, ◌+◌, ◌*◌, ◌/◌, ◌%◌, ◌≤◌, ◌<◌, nat_le, nat_lt, max, Bool, ◌&&◌, List, map, fold, count_by}
use Rattle.std.specs.List.{range_with_len}
use Rattle.offset_search.specs.declared.arrival.Arrival.{Arrival}

-- the vehicle meets green when it comes j seconds later, by the tenth of its cycle at which it comes then
unfoldable pub meets_green : Arrival → ℕ → Bool
meets_green a j = nat_le a.green ((a.offset + 10 * j) % a.length) && nat_lt ((a.offset + 10 * j) % a.length) a.yellow

-- for each shift j with 10 * j below the longest cycle's length, how many of the vehicles meet green when each comes j seconds later
unfoldable pub counts_of : List Arrival → List ℕ
counts_of arrivals =
    map (λ j. count_by (λ a. meets_green a j) arrivals) (range_with_len 0 ((fold (λ m a. max m a.length) 0 arrivals + 9) / 10))

-- ---- For contracts alone

-- the cycle is 1 to 3000 tenths long, and the vehicle, green and yellow have their places in it
pub record IsInCycle (a : Arrival) : Type 0 where
  pub some : 1 ≤ a.length
  pub few : a.length ≤ 3000
  pub in_cycle : a.offset < a.length
  pub in_order : a.green ≤ a.yellow
  pub yellow_in : a.yellow ≤ a.length

-- the tenth of its cycle at which the vehicle comes when it comes j seconds later
abbrev pub tenth_after : Arrival → ℕ → ℕ
tenth_after a j = (a.offset + 10 * j) % a.length

-- how many of the vehicles meet green when each comes j seconds later
abbrev pub count_after : List Arrival → ℕ → ℕ
count_after arrivals j = count_by (λ a. meets_green a j) arrivals

-- the length of the longest cycle, 0 without arrivals
abbrev pub longest : List Arrival → ℕ
longest arrivals = fold (λ m a. max m a.length) 0 arrivals
