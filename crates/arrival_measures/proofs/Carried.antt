-- The points of an hour are told by what crosses the point before it.
use Rattle.std.proofs.Common.{◌≡◌, ℕ, Bool, List, ap, sym, ◌∙◌}
use Rattle.std.specs.Prelude.{All, flat_map}
use Rattle.sig_base.specs.declared.values.Row.{Row}
use Rattle.gap_map.specs.declared.stretch.Stretch.{Stretch}
use Rattle.hour_sweep.specs.Rows.{known_rows}
use Rattle.hour_sweep.specs.Hours.{IsHour}
use Rattle.ring_config.specs.Settings.{Settings}
use Rattle.ring_config.specs.Sound.{IsApproach}
use Rattle.arrival_measures.specs.Crossing.{CarryParts, IsCarry}
use Rattle.arrival_measures.specs.Faults.{arrivals_from}
use Rattle.arrival_measures.specs.Points.{points_at, points_from}
use Rattle.arrival_measures.proofs.Detecting.{arrivals_by}
use Rattle.arrival_measures.proofs.RowPoints.{points_kept}

-- two logs with the same rows of the hour, of which the same crosses the point before it, have the same points in it
pub points_same : (c : Settings) (p : ℕ) (hour : ℕ) (rows : List Row) (ss : List Stretch) (carry : CarryParts) → All (IsApproach c.phases) c.approaches → (f g : ℕ → Bool) (before first : List Row) → IsHour f hour rows ss → IsHour g hour rows ss → IsCarry f c before hour carry → IsCarry g c first hour carry → points_from f c p before (known_rows f rows) ≡ points_from g c p first (known_rows g rows)
points_same c p hour rows ss carry sound f g before first hf hg cf cg =
    let F = points_at p 0 c.approaches in
    sym (points_kept c p (arrivals_from f before (known_rows f rows)) sound)
    ∙ ap (λ zs. flat_map F zs) (arrivals_by f c before hour rows ss carry.flags hf cf.earlier cf.flags_are ∙ sym (arrivals_by g c first hour rows ss carry.flags hg cg.earlier cg.flags_are))
    ∙ points_kept c p (arrivals_from g first (known_rows g rows)) sound
