-- What crosses the window's start, and the numbers of no row.
use Rattle.std.proofs.Common.{◌≡◌, ℕ, zero, suc, ◌+◌, ◌<◌, ◌≤◌, Bool, false, ◌&&◌, cond, List, [], ◌∷◌, Option, Some, None, map, refl, ap, sym, ◌∙◌, arith}
use Rattle.std.specs.List.{range_with_len}
use Rattle.std.proofs.lemmas.Bool.{lt-ltb}
use Rattle.sig_base.specs.declared.values.Row.{Row}
use Rattle.event_codes.specs.declared.channels.Kind.TheVariants.{Detector}
use Rattle.hour_sweep.specs.Numbers.{numbered}
use Rattle.service_cut.proofs.Rooms.{cycle_at_start}
use Rattle.hour_sweep.proofs.SumCommon.{capped_zero}
use Rattle.ring_config.specs.Settings.{Settings, is_tracked_as}
use Rattle.ring_config.specs.declared.items.Approach.{Approach}
use Rattle.arrival_measures.specs.declared.carry.Crossing.{Crossing}
use Rattle.arrival_measures.specs.declared.faults.Flag.{Flag}
use Rattle.arrival_measures.specs.Faults.{faulty}
use Rattle.arrival_measures.specs.Travel.{arrivals_at}
use Rattle.arrival_measures.specs.Crossing.{crossing_of, flag_of, flags_of, has_detector, open_with, pending_with}
use Rattle.arrival_measures.specs.Cycles.{numbers_of}
use Rattle.arrival_measures.specs.Hours.{no_cycles}
use Rattle.arrival_measures.specs.Steps.{no_crossing, no_flag, no_flags}

-- stands where a list has no approach
abbrev pub no_approach : Approach
no_approach = record { name = []; phase = 0; advance = None; stop_bar = None; travel = 0; high = record { num = 0; den = 0 } }

abbrev pub nothing_crosses : Approach → Crossing
nothing_crosses a = no_crossing

none_with : (known : ℕ → Bool) (a : Approach) (o : Option ℕ) → None ≡ open_with known 0 [] a o
none_with known a None = refl
none_with known a (Some d) = rw (cycle_at_start known a.phase) refl

none_pending : (known : ℕ → Bool) (a : Approach) (o : Option ℕ) → [] ≡ pending_with known 0 [] a o
unfolding arrivals_at
none_pending known a None = refl
none_pending known a (Some d) = refl

none_crosses : (known : ℕ → Bool) (a : Approach) → no_crossing ≡ crossing_of known 0 [] a
none_crosses known a =
    ap (λ o. let z : Crossing = record { begun = o; pending = [] } in z) (none_with known a a.advance)
    ∙ ap (λ ts. let z : Crossing = record { begun = open_with known 0 [] a a.advance; pending = ts } in z) (none_pending known a a.advance)

pub none_cross : (known : ℕ → Bool) (all : List Approach) → map nothing_crosses all ≡ map (crossing_of known 0 []) all
none_cross known [] = refl
none_cross known (a ∷ all) = ap (λ z. z ∷ map nothing_crosses all) (none_crosses known a) ∙ ap (λ zs. crossing_of known 0 [] a ∷ zs) (none_cross known all)

no_fault : (known : ℕ → Bool) (d : ℕ) → faulty known 0 [] d ≡ false
unfolding faulty
no_fault known d = refl

flag_same : (known : ℕ → Bool) (c : Settings) (d : ℕ) → d < 129 → no_flag c d ≡ numbered (has_detector c) (flag_of known 0 []) d
flag_same known c d lt =
    ap (λ v. cond (is_tracked_as c Detector d) (Some (let z : Flag = record { fault = v } in z)) None) (sym (no_fault known d))
    ∙ ap (λ v. cond (v && is_tracked_as c Detector d) (Some (flag_of known 0 [] d)) None) (sym (lt-ltb d 129 lt))

flags_same : (known : ℕ → Bool) (c : Settings) (a n : ℕ) → a + n ≤ 129 → map (no_flag c) (range_with_len a n) ≡ map (numbered (has_detector c) (flag_of known 0 [])) (range_with_len a n)
flags_same known c a zero le = refl
flags_same known c a (suc n) le =
    ap (λ z. z ∷ map (no_flag c) (range_with_len (a + 1) n)) (flag_same known c a (omega arith))
    ∙ ap (λ zs. numbered (has_detector c) (flag_of known 0 []) a ∷ zs) (flags_same known c (a + 1) n (omega arith))

pub no_flags_are : (known : ℕ → Bool) (c : Settings) → no_flags c ≡ flags_of known c 0 []
no_flags_are known c = flags_same known c 0 129 (omega arith)

-- of no cycle nothing is counted
pub no_numbers : (p d : ℕ) (rows : List Row) → no_cycles ≡ numbers_of p d rows []
unfolding numbers_of
no_numbers p d rows = rw (← capped_zero) refl
