-- What crosses a point between two hours.
use Rattle.std.specs.Prelude.{ℕ, ◌≡◌, ◌<◌, ◌+◌, max, Bool, List, [], ◌∷◌, Option, Some, None, All, if◌then◌else◌}
use Rattle.sig_base.specs.declared.values.Row.{Row}
use Rattle.sig_base.specs.Numbers.{has_number}
use Rattle.hour_sweep.specs.Hours.{point}
use Rattle.hour_sweep.specs.Numbers.{table}
use Rattle.ring_config.specs.Settings.{Settings}
use Rattle.other_measures.specs.declared.peds.PedPart.{PedPart}
use Rattle.other_measures.specs.declared.preempts.PreemptPart.{PreemptPart}
use Rattle.other_measures.specs.Peds.{ped_of}
use Rattle.other_measures.specs.Preempts.{preempt_of}

-- what is under way of pedestrian signals and preempts at a point between two hours
pub record Crossing : Type 0 where
  pub peds : List (Option PedPart)
  pub preempts : List (Option PreemptPart)

-- how many places a table has in which each of these numbers stands at its own: up to the greatest
abbrev pub places : List ℕ → ℕ
places [] = 0
places (n ∷ ns) = max (n + 1) (places ns)

-- what is under way of all pedestrian signals, each at the place of its number
abbrev pub peds_of : (ℕ → Bool) → ℕ → Settings → List Row → List (Option PedPart)
peds_of known t c before = table (has_number c.peds) (places c.peds) (ped_of known t before)

-- what is under way of all preempts, each at the place of its number
abbrev pub preempts_of : (ℕ → Bool) → ℕ → Settings → List Row → List (Option PreemptPart)
preempts_of known t c before = table (has_number c.preempts) (places c.preempts) (preempt_of known t before)

-- these parts are what is under way of pedestrian signals and preempts at point k, where these are the known rows before it
pub record IsCarry (known : ℕ → Bool) (c : Settings) (before : List Row) (k : ℕ) (carry : Crossing) : Type 0 where
  pub earlier : All (λ x. x.at < point k) before
  pub peds_are : carry.peds ≡ peds_of known (point k) c before
  pub preempts_are : carry.preempts ≡ preempts_of known (point k) c before

-- the part of a number before any row
abbrev pub no_ped : List ℕ → ℕ → Option PedPart
no_ped peds p = if has_number peds p then Some (record { number = p; walk = None }) else None

abbrev pub no_preempt : List ℕ → ℕ → Option PreemptPart
no_preempt preempts p = if has_number preempts p then Some (record { number = p; call = None; service = None }) else None
