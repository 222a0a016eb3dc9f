-- The hours that an edit moves are those between the points at which nothing changes.
use Rattle.std.proofs.Common.{◌≡◌, ◌∙◌, ◌⊎◌, inl, inr, ℕ, ◌+◌, ◌-◌, ◌<◌, ◌≤◌, Bool, Option, Some, None, List, [], true, false, length, get_or, sym, ap, subst, arith, OnOk, IfOk, Result, Ok, Err}
use Rattle.std.proofs.lemmas.Bool.{cases_lt}
use Rattle.sig_base.specs.declared.values.Applied.{Applied}
use Rattle.sig_base.specs.declared.values.EditError.{EditError}
use Rattle.hour_store.specs.Store.{IsStore, Store}
use Rattle.ring_config.specs.Settings.{Settings}
use Rattle.ring_config.specs.Sound.{IsSound}
use Rattle.signal_log.specs.Log.{HasHistory, log_of}
use Rattle.hour_work.specs.Moved.{IsSameCarry, IsSameFuture}
use Rattle.hour_work.specs.Numbers.{Numbers, patched}
use Rattle.hour_work.specs.Points.{Carried, IsCarryAt, IsFutureAt}
use Rattle.hour_work.proofs.MovedLaws.{carries_one, carry_same, future_same, futures_one, says_back}
use Rattle.hour_work.proofs.OneLaws.{one_report}
use Rattle.hour_work.proofs.PatchLaws.{patched-below, patched-past}
use Rattle.session.specs.Edits.{Change}
use Rattle.session.specs.Links.{Ahead, AllSettled, AreCarries, AreFutures, AreKept}
use Rattle.session.specs.declared.renew.Numbered.{Numbered}
use Rattle.session.specs.Moved.{AreMoved, KeepParts, Moves, Touches}
use Rattle.session.specs.Renewed.{AreNewCarries, AreNewFutures, IsRenewed, do_wait}
use Rattle.session.proofs.WaitLaws.{settled_patched}
use Rattle.session.proofs.KeptLaws.{carry_kept, future_kept, report_kept}

-- stands where a list has no carry
pub no_carry : Carried
no_carry = record { pasts = []; known = true; cuts = []; closing = []; splits = []; others = record { peds = []; preempts = [] }; arrivals = record { crossings = []; flags = [] } }

module _ (c : Settings) (s t : Store) (sound : IsSound c) (is : IsStore s) (is_new : IsStore t) (hours : length t.hours ≡ length s.hours) where
  -- where the same is kept, both stores say the same
  same_carry : (xs ys : List Carried) (k : ℕ) → AreCarries c s xs → AreCarries c t ys → k ≤ length s.hours → get_or ys k no_carry ≡ get_or xs k no_carry → IsSameCarry c s t k
  same_carry xs ys k are are_new le e = carry_same c s t k (get_or xs k no_carry) (carry_kept c s xs is are k no_carry le) (subst (λ (v : Carried). IsCarryAt c t k v) e (carry_kept c t ys is_new are_new k no_carry (omega arith)))

  same_future : (xs ys : List Ahead) (k : ℕ) → AreFutures c s xs → AreFutures c t ys → k ≤ length s.hours → get_or ys k [] ≡ get_or xs k [] → IsSameFuture c s t k
  same_future xs ys k are are_new le e = future_same c s t k (get_or xs k []) (future_kept c s xs is are k [] le) (subst (λ (v : Ahead). IsFutureAt c t k v) e (future_kept c t ys is_new are_new k [] (omega arith)))

  -- the points at the end of what is new
  pub end_same : (first last : ℕ) (xs fresh : List Carried) (to : ℕ) → to ≡ first + length fresh → AreCarries c s xs → AreNewCarries c t first last xs fresh → (to ≡ length s.hours) ⊎ IsSameCarry c s t to
  end_same first last xs fresh to te are new =
      let within = new.within in
      elim (cases_lt to (length s.hours)) [
        | inl below ↦ inr (same_carry xs (patched xs (first + 1) fresh) to are new.forth (omega arith) (new.same to no_carry (omega arith) (omega arith)))
        | inr end ↦ inl (omega arith)
      ]

  pub end_least : (first last : ℕ) (xs fresh : List Carried) (to k : ℕ) → to ≡ first + length fresh → AreCarries c s xs → AreNewCarries c t first last xs fresh → last < k → k < to → IsSameCarry c s t k → ⊥
  end_least first last xs fresh to k te are new low high same =
      let within = new.within in
      let kept = carry_kept c s xs is are k no_carry (omega arith) in
      let fresh_one = carry_kept c t (patched xs (first + 1) fresh) is_new new.forth k no_carry (omega arith) in
      new.differ k no_carry low (omega arith) (says_back (get_or xs k no_carry) (get_or (patched xs (first + 1) fresh) k no_carry) (carries_one c s t k (get_or xs k no_carry) (get_or (patched xs (first + 1) fresh) k no_carry) sound is is_new (omega arith) (omega arith) kept fresh_one same))

  -- the point at the start of what is new
  pub start_same : (first last : ℕ) (xs : List Ahead) (from : ℕ) (fresh : List Ahead) → last < length s.hours → AreFutures c s xs → AreNewFutures c t first last xs from fresh → (from ≡ 0) ⊎ IsSameFuture c s t from
  start_same first last xs from fresh lt are new =
      let size = new.size in
      elim (cases_lt 0 from) [
        | inl above ↦
            let at : from - 1 + 1 ≡ from = omega arith in
            let equal : get_or (patched xs from fresh) (from - 1 + 1) [] ≡ get_or xs (from - 1 + 1) [] = new.same (from - 1) [] (omega arith) in
            inr (same_future xs (patched xs from fresh) from are new.back (omega arith) (subst (λ (j : ℕ). get_or (patched xs from fresh) j [] ≡ get_or xs j []) at equal))
        | inr none ↦ inl (omega arith)
      ]

  pub start_greatest : (first last : ℕ) (xs : List Ahead) (from : ℕ) (fresh : List Ahead) (k : ℕ) → first < length s.hours → AreFutures c s xs → AreNewFutures c t first last xs from fresh → from < k → k ≤ first → IsSameFuture c s t k → ⊥
  start_greatest first last xs from fresh k lt are new low high same =
      let kept = future_kept c s xs is are k [] (omega arith) in
      let fresh_one = future_kept c t (patched xs from fresh) is_new new.back k [] (omega arith) in
      new.differ k [] low high (sym (futures_one c s t k (get_or xs k []) (get_or (patched xs from fresh) k []) kept fresh_one same))

  pub are_moved : (first last : ℕ) (waiting : List Bool) (xs : List Carried) (ys : List Ahead) (ps : List Numbers) (new_carries : List Carried) (from : ℕ) (new_futures : List Ahead) (moved : Applied) → first ≤ last → last < length s.hours → AreKept c s waiting xs ys ps
      → AreNewCarries c t first last xs new_carries → AreNewFutures c t first last ys from new_futures → moved.from ≡ from → moved.to ≡ first + length new_carries → AreMoved c s t first last moved
  are_moved first last waiting xs ys ps new_carries from new_futures moved order lt kept x y fe te =
      let low = y.low in
      let some = x.some in
      let within = x.within in
      record {
        from_low = omega arith;
        from_same = subst (λ (j : ℕ). (j ≡ 0) ⊎ IsSameFuture c s t j) (sym fe) (start_same first last ys from new_futures lt kept.back y);
        from_greatest = λ k above le same. start_greatest first last ys from new_futures k (omega arith) kept.back y (omega arith) le same;
        to_low = omega arith;
        to_high = omega arith;
        to_same = end_same first last xs new_carries moved.to te kept.forth x;
        to_least = λ k above below same. end_least first last xs new_carries moved.to k te kept.forth x above below same;
      }

-- ---- an edit that is made

pub moves_by : (c : Settings) (s t new : Store) (first last : ℕ) (change : Change) (result : Result Applied EditError) → Touches change first last → OnOk result ((new ≡ t) × HasHistory (log_of c.specs t)) → IfOk result (AreMoved c s t first last) → IfOk result (Moves c s new change)
moves_by c s t new first last change (Ok x) touched done moved = (first, last, touched, subst (λ (v : Store). AreMoved c s v first last x) (sym done.0) moved)
moves_by c s t new first last change (Err e) touched done moved = tt

-- the numbers of the hours that don't move stay, where none wait
pub keep_parts : (c : Settings) (s t : Store) (first : ℕ) (waiting : List Bool) (xs new_carries : List Carried) (ys : List Ahead) (from : ℕ) (new_futures : List Ahead) (ps : List Numbers) (start : ℕ) (marks : List Bool) (numbers : Option Numbered) (moved : Applied) → IsStore s → HasHistory (log_of c.specs s) → AreKept c s waiting xs ys ps → IsStore t → HasHistory (log_of c.specs t)
    → AllSettled waiting → IsRenewed c t waiting xs first new_carries ys from new_futures ps start marks numbers → do_wait numbers ≡ false → moved.from ≡ from → moved.to ≡ first + length new_carries → KeepParts c s t moved
keep_parts c s t first waiting xs new_carries ys from new_futures ps start marks None moved is has kept is_new has_new settled new plain fe te a b hour d old fresh out = absurd (cc)
keep_parts c s t first waiting xs new_carries ys from new_futures ps start marks (Some w) moved is has kept is_new has_new settled new plain fe te a b hour d old fresh out =
    let low = new.low in
    let (end, small, sums) = new.numbered in
    let room = new.part_room in
    let some = new.room in
    let count = new.marked in
    let one : a ≡ ps = one_report c s a ps has old (report_kept c s waiting xs ys ps is kept settled has) in
    let other : b ≡ patched ps start w.parts.items = one_report c t b (patched ps start w.parts.items) has_new fresh (report_kept c t (patched waiting start marks) (patched xs (first + 1) new_carries) (patched ys from new_futures) (patched ps start w.parts.items) is_new new.kept (settled_patched start waiting marks (omega arith) settled (new.settled plain)) has_new) in
    let stay : get_or (patched ps start w.parts.items) hour d ≡ get_or ps hour d = elim out [
      | inl below ↦ patched-below ps start w.parts.items hour d (omega arith) (omega arith)
      | inr past ↦ patched-past ps start w.parts.items hour d (omega arith) (omega arith)
    ] in
    ap (λ (qs : List Numbers). get_or qs hour d) other ∙ (stay ∙ sym (ap (λ (qs : List Numbers). get_or qs hour d) one))

-- what stays in the store that was to be made stays in the new one
pub keep_to : (c : Settings) (Keep : Store → Applied → Type 0) (t new : Store) (result : Result Applied EditError) → OnOk result ((new ≡ t) × HasHistory (log_of c.specs t)) → IfOk result (Keep t) → IfOk result (Keep new)
keep_to c Keep t new (Ok x) done stay = subst (λ (v : Store). Keep v x) (sym done.0) stay
keep_to c Keep t new (Err e) done stay = tt
