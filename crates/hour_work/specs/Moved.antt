-- What two stores have in common at an hour point.
use Rattle.std.specs.Prelude.{◌≡◌, ◌<◌, ◌≤◌, ◌↔◌, ◌-ℤ◌, ◌<ℤ◌, ℕ, ℤ, pos, true, List, [], Option, length, map}
use Rattle.sig_base.specs.Numbers.{has_number, has_phase}
use Rattle.reach.specs.Runs.{State}
use Rattle.board.specs.Hours.{Clamped}
use Rattle.board.specs.Logs.{first_tenth}
use Rattle.hour_store.specs.Store.{IsStore, Store, is_known}
use Rattle.signal_log.specs.Log.{log_of, track_at}
use Rattle.signal_log.specs.States.{IsCompleted, IsReached}
use Rattle.service_cut.specs.Cut.{closing_at, served_from}
use Rattle.service_cut.specs.Parts.{part_of}
use Rattle.stop_bar.specs.Crossing.{Crossing as AtBar}
use Rattle.other_measures.specs.Peds.{ped_of}
use Rattle.other_measures.specs.Preempts.{preempt_of}
use Rattle.arrival_measures.specs.Crossing.{crossing_of}
use Rattle.board.specs.Places.{AreSamePasts}
use Rattle.ring_config.specs.Settings.{Settings}
use Rattle.ring_config.specs.Sound.{IsSound}
use Rattle.hour_work.specs.Points.{Carried, IsCarryAt, IsFutureAt, is_known_before}
use Rattle.hour_work.specs.Rows.{earlier_rows}
use Rattle.stop_bar.specs.All.{AreAtBars}

-- both say the same of the hours before a point: the same states of each channel, and the same of all else
pub record SaySame (a b : Carried) : Type 0 where
  pub pasts : AreSamePasts a.pasts b.pasts
  pub known : a.known ≡ b.known
  pub cuts : a.cuts ≡ b.cuts
  pub closing : a.closing ≡ b.closing
  pub splits : a.splits ≡ b.splits
  pub others : a.others ≡ b.others
  pub arrivals : a.arrivals ≡ b.arrivals

-- some run of the hours before point k that agrees with the store leads channel i to the state; an entry more than an hour and a tenth before the point counts as one of just so long ago
abbrev pub LeadsTo : Settings → Store → ℕ → ℕ → State → Type 0
LeadsTo c s k i u = Clamped (pos (first_tenth k) -ℤ pos 36001) (IsReached (log_of c.specs s) i (first_tenth k)) u

-- from the state, of any colour of its machine and entered before point k, channel i can go on to the window's end so that the store is met
abbrev pub CanGoOn : Settings → Store → ℕ → ℕ → State → Type 0
CanGoOn c s k i u = (u.colour < (track_at (log_of c.specs s) i).rules.colours) × (u.entry <ℤ pos (first_tenth k)) × IsCompleted (log_of c.specs s) i (first_tenth k) u

-- of both stores the same is said
abbrev pub Agree : {X : Type 0} → Store → Store → (Store → X) → Type 0
Agree s t of = of s ≡ of t

-- both stores say the same at point k of what came before: each channel can have come to the same states, where entries more than an hour and a tenth before the point count as one; the tenth before is known or isn't; and under way are the same service, yellow and cycle of each phase, the same services whose red window isn't over, the same at stop bars, of each pedestrian signal the same last walk with the first call since, of each preempt the same waiting call and the same last entry or exit with the first dwell since, and of each approach the same cycle so far and the same arrivals still to come
pub record IsSameCarry (c : Settings) (s t : Store) (k : ℕ) : Type 0 where
  pub states : (i : ℕ) (u : State) → i < length c.specs → LeadsTo c s k i u ↔ LeadsTo c t k i u
  pub known : Agree s t (λ x. is_known_before (is_known x) (first_tenth k))
  pub phases : (p : ℕ) → has_phase c.phases p ≡ true → Agree s t (λ x. part_of (is_known x) (first_tenth k) (earlier_rows x k) p)
  pub closing : Agree s t (λ x. closing_at (first_tenth k) (served_from (is_known x) c.phases [] (earlier_rows x k)))
  pub bars : (ats : List AtBar) × AreAtBars (log_of c.specs s) c (earlier_rows s k) k ats × AreAtBars (log_of c.specs t) c (earlier_rows t k) k ats
  pub peds : (p : ℕ) → has_number c.peds p ≡ true → Agree s t (λ x. ped_of (is_known x) (first_tenth k) (earlier_rows x k) p)
  pub preempts : (p : ℕ) → has_number c.preempts p ≡ true → Agree s t (λ x. preempt_of (is_known x) (first_tenth k) (earlier_rows x k) p)
  pub approaches : Agree s t (λ x. map (crossing_of (is_known x) (first_tenth k) (earlier_rows x k)) c.approaches)

-- at point k the same states of each channel can go on to the window's end by the one store and by the other
abbrev pub IsSameFuture : Settings → Store → Store → ℕ → Type 0
IsSameFuture c s t k = (i : ℕ) (u : State) → i < length c.specs → CanGoOn c s k i u ↔ CanGoOn c t k i u

-- stores of which one value says what came before a point say the same of it
abbrev pub CarryIsSame : Type 0
CarryIsSame = (c : Settings) (s t : Store) (k : ℕ) (carry : Carried) → IsCarryAt c s k carry → IsCarryAt c t k carry → IsSameCarry c s t k

-- and those that can be completed from the same states by one value can
abbrev pub FutureIsSame : Type 0
FutureIsSame = (c : Settings) (s t : Store) (k : ℕ) (future : List (List (Option ℤ))) → IsFutureAt c s k future → IsFutureAt c t k future → IsSameFuture c s t k

-- where up to a point of both windows both stores say the same, so do all values that say what the one and what the other says
abbrev pub CarriesAreOne : Type 0
CarriesAreOne = (c : Settings) (s t : Store) (k : ℕ) (a b : Carried) → IsSound c → IsStore s → IsStore t → k ≤ length s.hours → k ≤ length t.hours → IsCarryAt c s k a → IsCarryAt c t k b → IsSameCarry c s t k → SaySame a b

-- where from a point on both can be completed from the same states, values that admit those of the one and those of the other are equal
abbrev pub FuturesAreOne : Type 0
FuturesAreOne = (c : Settings) (s t : Store) (k : ℕ) (a b : List (List (Option ℤ))) → IsFutureAt c s k a → IsFutureAt c t k b → IsSameFuture c s t k → a ≡ b
