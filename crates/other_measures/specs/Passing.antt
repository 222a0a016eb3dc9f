-- Rows that say nothing of a pedestrian signal, or of a preempt, are passed over.
use Rattle.std.specs.Prelude.{◌≡◌, ℕ, ◌==◌, ◌&&◌, ◌||◌, Bool, true, false}
use Rattle.std.proofs.Common.{refl}
use Rattle.sig_base.specs.declared.values.Row.{Row}
use Rattle.hour_sweep.specs.Numbers.{PassesOver}
use Rattle.other_measures.specs.Peds.{is_call, is_walk}
use Rattle.other_measures.specs.Preempts.{is_dwell, is_entry, is_exit, is_input}
use Rattle.other_measures.specs.Steps.{delay_by, event_by, ped_after, preempt_after}

-- the codes of a begin of walk and of a call
abbrev pub is_ped_code : ℕ → Bool
is_ped_code c = (c == 21) || (c == 45)

-- those of a preempt's call input, of an entry, of a begin of dwell and of an exit
abbrev pub is_preempt_code : ℕ → Bool
is_preempt_code c = (c == 102) || (c == 105) || (c == 107) || (c == 111)

either : (a b : Bool) → (a || b) ≡ false → (a ≡ false) × (b ≡ false)
either true b e = absurd (let w : true ≡ false = e in cc)
either false b e = (refl, e)

both_off : (a b : Bool) → b ≡ false → (a && b) ≡ false
both_off true b e = e
both_off false b e = refl

no_walk : (p : ℕ) (x : Row) → (x.code == 21) ≡ false → is_walk p x ≡ false
unfolding is_walk
no_walk p x e = both_off (x.param == p) (x.code == 21) e

no_call : (p : ℕ) (x : Row) → (x.code == 45) ≡ false → is_call p x ≡ false
unfolding is_call
no_call p x e = both_off (x.param == p) (x.code == 45) e

pub other_peds_pass : PassesOver is_ped_code ped_after delay_by
other_peds_pass x a e =
    let (w, c) = either (x.code == 21) (x.code == 45) e in
    let walk = no_walk a.number x w in
    let call = no_call a.number x c in
    (rw (walk, call) refl, rw walk refl)

no_input : (p : ℕ) (x : Row) → (x.code == 102) ≡ false → is_input p x ≡ false
unfolding is_input
no_input p x e = both_off (x.param == p) (x.code == 102) e

no_entry : (p : ℕ) (x : Row) → (x.code == 105) ≡ false → is_entry p x ≡ false
unfolding is_entry
no_entry p x e = both_off (x.param == p) (x.code == 105) e

no_dwell : (p : ℕ) (x : Row) → (x.code == 107) ≡ false → is_dwell p x ≡ false
unfolding is_dwell
no_dwell p x e = both_off (x.param == p) (x.code == 107) e

no_exit : (p : ℕ) (x : Row) → (x.code == 111) ≡ false → is_exit p x ≡ false
unfolding is_exit
no_exit p x e = both_off (x.param == p) (x.code == 111) e

pub other_preempts_pass : PassesOver is_preempt_code preempt_after event_by
other_preempts_pass x a e =
    let (abc, q) = either ((x.code == 102) || (x.code == 105) || (x.code == 107)) (x.code == 111) e in
    let (ab, d) = either ((x.code == 102) || (x.code == 105)) (x.code == 107) abc in
    let (i, n) = either (x.code == 102) (x.code == 105) ab in
    let input = no_input a.number x i in
    let entry = no_entry a.number x n in
    let dwell = no_dwell a.number x d in
    let exit = no_exit a.number x q in
    (rw (input, entry, dwell, exit) refl, rw (entry, exit) refl)
