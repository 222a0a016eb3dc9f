-- Where there is no approach, what crosses the points of an hour stays the same.
use Rattle.std.proofs.Common.{◌≡◌, ℕ, ◌+◌, Bool, false, ◌&&◌, ltb, List, [], ◌++◌, map, refl, ap, sym, ◌∙◌}
use Rattle.std.specs.List.{list_any}
use Rattle.sig_base.specs.declared.values.Row.{Row}
use Rattle.sig_base.specs.Numbers.{has_number}
use Rattle.sig_base.proofs.Common.{and_false, clash}
use Rattle.gap_map.specs.declared.stretch.Stretch.{Stretch}
use Rattle.hour_sweep.proofs.Tables.{table_same}
use Rattle.hour_sweep.specs.Rows.{known_rows}
use Rattle.hour_sweep.specs.Hours.{IsHour, point}
use Rattle.ring_config.specs.Settings.{Settings, detectors}
use Rattle.ring_config.specs.declared.items.Approach.{Approach}
use Rattle.arrival_measures.specs.Crossing.{CarryParts, IsCarry, crossing_of, flag_of, flags_of, has_detector}
use Rattle.arrival_measures.proofs.Hours.{carry_is}

module _ (c : Settings) (bare : c.approaches ≡ []) where
  -- no detector is one of an approach, so none has a flag
  no_detector : (d : ℕ) → has_detector c d ≡ false
  no_detector d = ap (λ (zs : List Approach). ltb d 129 && list_any (λ a. has_number (detectors a) d) zs) bare ∙ and_false (ltb d 129)

  pub carried_over : (known : ℕ → Bool) (before : List Row) (hour : ℕ) (rows : List Row) (ss : List Stretch) (carry : CarryParts) → IsHour known hour rows ss → IsCarry known c before hour carry → IsCarry known c (before ++ known_rows known rows) (hour + 1) carry
  carried_over known before hour rows ss carry h is =
      let told = before ++ known_rows known rows in
      let flags : flags_of known c (point hour) before ≡ flags_of known c (point (hour + 1)) told = table_same (has_detector c) 129 (flag_of known (point hour) before) (flag_of known (point (hour + 1)) told) (λ p has. absurd (clash (has_detector c p) has (no_detector p))) in
      carry_is known c before hour rows ss carry carry carry.flags h is (is.flags_are ∙ flags)
      (is.crossings_are ∙ ap (λ zs. map (crossing_of known (point hour) before) zs) bare ∙ sym (ap (λ zs. map (crossing_of known (point (hour + 1)) told) zs) bare))
      refl
