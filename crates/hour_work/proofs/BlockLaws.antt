-- Sums over blocks of hours.
use Rattle.std.proofs.Common.{◌≡◌, ◌∙◌, ◌⊎◌, inl, inr, ℕ, zero, suc, ◌+◌, ◌-◌, ◌*◌, ◌<◌, ◌≤◌, max, List, [], ◌∷◌, ◌++◌, get_or, length, length-append, length-drop, length-take, map, take, drop, refl, sym, ap, subst, arith}
use Rattle.std.specs.List.{All, fold}
use Rattle.std.proofs.lemmas.Bool.{cases_lt}
use Rattle.std.proofs.lemmas.List.{get_or-drop, get_or-take, get_or_append_left, map-append, same_lists, take_all, take_more}
use Rattle.std.proofs.lemmas.List.Elements.{All-drop, All-take}
use Rattle.std.proofs.Math.Seq.{take-add}
use Rattle.std.proofs.lemmas.List.Sums.{fold-append, sum_by-append}
use Rattle.std.proofs.Math.Seq.{get_or-append_seam}
use Rattle.hour_sweep.specs.Sums.{capped, merged}
use Rattle.hour_sweep.proofs.Adding.{capped_assoc, capped_none, greater_assoc, lesser_assoc}
use Rattle.hour_sweep.proofs.Merging.{merged_assoc, sum_nil}
use Rattle.split_measures.specs.declared.sums.PhaseSum.{PhaseSum}
use Rattle.split_measures.specs.declared.failures.SplitSum.{SplitSum}
use Rattle.split_measures.specs.Phases.{added}
use Rattle.split_measures.specs.Failures.{both_sums}
use Rattle.other_measures.specs.declared.sums.CoordSum.{CoordSum}
use Rattle.other_measures.specs.declared.sums.PedSum.{PedSum}
use Rattle.other_measures.specs.declared.sums.PreemptSum.{PreemptSum}
use Rattle.other_measures.specs.Hours.{OtherNumbers, no_numbers, others_added}
use Rattle.other_measures.specs.Sums.{coord_added, ped_added, preempt_added}
use Rattle.arrival_measures.specs.declared.sums.ArrivalSum.{ArrivalSum}
use Rattle.arrival_measures.specs.Hours.{added as arrivals_added}
use Rattle.hour_work.specs.declared.counts.RuleCount.{RuleCount}
use Rattle.hour_work.specs.Numbers.{AreBlocks, AreNewSums, AreSummed, FitHours, IsTotal, Numbers, Summed, block, count_sum, numbers_sum, patched, total_of}
use Rattle.hour_work.proofs.NumberLaws.{numbers_fit, total_more}
use Rattle.hour_work.proofs.PatchLaws.{all_patched, length-patched, patched-at, patched-below, patched-past}

-- ---- it doesn't matter in which order numbers are added

phases_assoc : (a b c : PhaseSum) → added (added a b) c ≡ added a (added b c)
phases_assoc a b c = rw (
  capped_assoc a.services b.services c.services,
  lesser_assoc a.least b.least c.least,
  greater_assoc a.greatest b.greatest c.greatest,
  capped_assoc a.sum b.sum c.sum,
  capped_assoc a.gap_out b.gap_out c.gap_out,
  capped_assoc a.max_out b.max_out c.max_out,
  capped_assoc a.force_off b.force_off c.force_off,
  capped_assoc a.unlogged b.unlogged c.unlogged,
  capped_assoc a.cycles b.cycles c.cycles,
  capped_assoc a.cycle_sum b.cycle_sum c.cycle_sum,
) refl

failures_assoc : (a b c : SplitSum) → both_sums (both_sums a b) c ≡ both_sums a (both_sums b c)
failures_assoc a b c = rw (
  capped_assoc a.fail b.fail c.fail,
  capped_assoc a.pass b.pass c.pass,
  capped_assoc a.undecided b.undecided c.undecided,
  capped_assoc a.left_open b.left_open c.left_open,
  capped_assoc a.fault b.fault c.fault,
) refl

arrivals_assoc : (a b c : ArrivalSum) → arrivals_added (arrivals_added a b) c ≡ arrivals_added a (arrivals_added b c)
arrivals_assoc a b c = rw (
  capped_assoc a.arrivals b.arrivals c.arrivals,
  capped_assoc a.green b.green c.green,
  capped_assoc a.not_green b.not_green c.not_green,
  capped_assoc a.undecided b.undecided c.undecided,
  capped_assoc a.unseen b.unseen c.unseen,
  capped_assoc a.fault b.fault c.fault,
  capped_assoc a.cycle_arrivals b.cycle_arrivals c.cycle_arrivals,
  capped_assoc a.cycle_green b.cycle_green c.cycle_green,
  capped_assoc a.green_tenths b.green_tenths c.green_tenths,
  capped_assoc a.cycle_tenths b.cycle_tenths c.cycle_tenths,
  capped_assoc a.actuations b.actuations c.actuations,
  capped_assoc a.red b.red c.red,
  capped_assoc a.not_red b.not_red c.not_red,
  capped_assoc a.red_undecided b.red_undecided c.red_undecided,
  capped_assoc a.red_fault b.red_fault c.red_fault,
) refl

peds_assoc : (a b c : PedSum) → ped_added (ped_added a b) c ≡ ped_added a (ped_added b c)
peds_assoc a b c = rw (
  capped_assoc a.walks b.walks c.walks,
  capped_assoc a.delays b.delays c.delays,
  capped_assoc a.sum b.sum c.sum,
  greater_assoc a.greatest b.greatest c.greatest,
  capped_assoc a.uncalled b.uncalled c.uncalled,
  capped_assoc a.partial b.partial c.partial,
  capped_assoc a.detector_on b.detector_on c.detector_on,
  capped_assoc a.detector_undecided b.detector_undecided c.detector_undecided,
) refl

preempts_assoc : (a b c : PreemptSum) → preempt_added (preempt_added a b) c ≡ preempt_added a (preempt_added b c)
preempts_assoc a b c = rw (
  capped_assoc a.entries b.entries c.entries,
  capped_assoc a.delays b.delays c.delays,
  capped_assoc a.sum b.sum c.sum,
  capped_assoc a.partial b.partial c.partial,
  capped_assoc a.dwells b.dwells c.dwells,
  capped_assoc a.dwell_sum b.dwell_sum c.dwell_sum,
  capped_assoc a.dwell_partial b.dwell_partial c.dwell_partial,
  capped_assoc a.input_on b.input_on c.input_on,
  capped_assoc a.input_undecided b.input_undecided c.input_undecided,
  capped_assoc a.rest b.rest c.rest,
  capped_assoc a.entry b.entry c.entry,
  capped_assoc a.track b.track c.track,
  capped_assoc a.dwell b.dwell c.dwell,
  capped_assoc a.undecided b.undecided c.undecided,
) refl

coordination_assoc : (a b c : CoordSum) → coord_added (coord_added a b) c ≡ coord_added a (coord_added b c)
coordination_assoc a b c = rw (
  capped_assoc (get_or a.tenths 0 0) (get_or b.tenths 0 0) (get_or c.tenths 0 0),
  capped_assoc (get_or a.tenths 1 0) (get_or b.tenths 1 0) (get_or c.tenths 1 0),
  capped_assoc (get_or a.tenths 2 0) (get_or b.tenths 2 0) (get_or c.tenths 2 0),
  capped_assoc (get_or a.tenths 3 0) (get_or b.tenths 3 0) (get_or c.tenths 3 0),
  capped_assoc (get_or a.tenths 4 0) (get_or b.tenths 4 0) (get_or c.tenths 4 0),
  capped_assoc (get_or a.tenths 5 0) (get_or b.tenths 5 0) (get_or c.tenths 5 0),
  capped_assoc (get_or a.tenths 6 0) (get_or b.tenths 6 0) (get_or c.tenths 6 0),
  capped_assoc a.undecided b.undecided c.undecided,
  capped_assoc a.patterns b.patterns c.patterns,
  capped_assoc a.cycle_changes b.cycle_changes c.cycle_changes,
  capped_assoc a.yields b.yields c.yields,
  capped_assoc a.begins b.begins c.begins,
) refl

others_assoc : (a b c : OtherNumbers) → others_added (others_added a b) c ≡ others_added a (others_added b c)
others_assoc a b c = rw (
  merged_assoc ped_added peds_assoc a.peds b.peds c.peds,
  merged_assoc preempt_added preempts_assoc a.preempts b.preempts c.preempts,
  coordination_assoc a.coordination b.coordination c.coordination,
) refl

counts_assoc : (a b c : RuleCount) → count_sum (count_sum a b) c ≡ count_sum a (count_sum b c)
counts_assoc a b c =
    let kept : (a.kept + b.kept) + c.kept ≡ a.kept + (b.kept + c.kept) = omega arith in
    let broken : (a.broken + b.broken) + c.broken ≡ a.broken + (b.broken + c.broken) = omega arith in
    let undecided : (a.undecided + b.undecided) + c.undecided ≡ a.undecided + (b.undecided + c.undecided) = omega arith in
    rw (kept, broken, undecided) refl

-- ---- and sums may be put together

-- where nothing changes what has been added once, the sums of both lists together are the sums of each together
module _ {A : Type 0} (put : A → A → A) (none : A) (assoc : (a b c : A) → put (put a b) c ≡ put a (put b c)) (right : (a b : A) → put (put a b) none ≡ put a b) where
  fold_from : (a : A) (xs : List A) → put a none ≡ a → fold put a xs ≡ put a (fold put none xs)
  fold_from a [] settled = sym settled
  fold_from a (x ∷ xs) settled =
      fold_from (put a x) xs (right a x)
      ∙ (assoc a x (fold put none xs)
      ∙ (ap (λ (b : A). put b (put x (fold put none xs))) (sym settled)
      ∙ (assoc a none (put x (fold put none xs))
      ∙ (ap (λ (b : A). put a b) (sym (assoc none x (fold put none xs)))
      ∙ ap (λ (b : A). put a b) (sym (fold_from (put none x) xs (right none x)))))))

  settled_fold : (a : A) (xs : List A) → put a none ≡ a → put (fold put a xs) none ≡ fold put a xs
  settled_fold a [] settled = settled
  settled_fold a (x ∷ xs) settled = settled_fold (put a x) xs (right a x)

  fold_join : (xs ys : List A) → put none none ≡ none → fold put none (xs ++ ys) ≡ put (fold put none xs) (fold put none ys)
  fold_join xs ys settled = fold-append put none xs ys ∙ fold_from (fold put none xs) ys (settled_fold none xs settled)

mapped_join : {A : Type 0} (put : A → A → A) (none : A) (of : Numbers → A) → ((a b c : A) → put (put a b) c ≡ put a (put b c)) → ((a b : A) → put (put a b) none ≡ put a b) → put none none ≡ none → (xs ys : List Numbers) → fold put none (map of (xs ++ ys)) ≡ put (fold put none (map of xs)) (fold put none (map of ys))
mapped_join put none of assoc right settled xs ys = ap (λ zs. fold put none zs) (map-append of xs ys) ∙ fold_join put none assoc right (map of xs) (map of ys) settled

coordination_right : (a b : CoordSum) → coord_added (coord_added a b) no_numbers.coordination ≡ coord_added a b
coordination_right a b = rw (
  capped_none (get_or a.tenths 0 0 + get_or b.tenths 0 0),
  capped_none (get_or a.tenths 1 0 + get_or b.tenths 1 0),
  capped_none (get_or a.tenths 2 0 + get_or b.tenths 2 0),
  capped_none (get_or a.tenths 3 0 + get_or b.tenths 3 0),
  capped_none (get_or a.tenths 4 0 + get_or b.tenths 4 0),
  capped_none (get_or a.tenths 5 0 + get_or b.tenths 5 0),
  capped_none (get_or a.tenths 6 0 + get_or b.tenths 6 0),
  capped_none (a.undecided + b.undecided),
  capped_none (a.patterns + b.patterns),
  capped_none (a.cycle_changes + b.cycle_changes),
  capped_none (a.yields + b.yields),
  capped_none (a.begins + b.begins),
) refl

others_right : (a b : OtherNumbers) → others_added (others_added a b) no_numbers ≡ others_added a b
others_right a b = rw (
  sum_nil ped_added (merged ped_added a.peds b.peds),
  sum_nil preempt_added (merged preempt_added a.preempts b.preempts),
  coordination_right a.coordination b.coordination,
) refl

others_none : others_added no_numbers no_numbers ≡ no_numbers
unfolding capped
others_none = refl

pub total_join : (xs ys : List Numbers) → total_of (xs ++ ys) ≡ numbers_sum (total_of xs) (total_of ys)
total_join xs ys =
    let h = sum_by-append (λ (n : Numbers). n.held_hours) xs ys in
    let r = sum_by-append (λ (n : Numbers). n.held_rows) xs ys in
    let k = sum_by-append (λ (n : Numbers). n.known_tenths) xs ys in
    let c = mapped_join (merged count_sum) [] (λ (n : Numbers). n.rules) (merged_assoc count_sum counts_assoc) (λ a b. sum_nil count_sum (merged count_sum a b)) refl xs ys in
    let p = mapped_join (merged added) [] (λ (n : Numbers). n.splits) (merged_assoc added phases_assoc) (λ a b. sum_nil added (merged added a b)) refl xs ys in
    let f = mapped_join (merged both_sums) [] (λ (n : Numbers). n.failures) (merged_assoc both_sums failures_assoc) (λ a b. sum_nil both_sums (merged both_sums a b)) refl xs ys in
    let o = mapped_join others_added no_numbers (λ (n : Numbers). n.others) others_assoc others_right others_none xs ys in
    let a = mapped_join (merged arrivals_added) [] (λ (n : Numbers). n.arrivals) (merged_assoc arrivals_added arrivals_assoc) (λ a b. sum_nil arrivals_added (merged arrivals_added a b)) refl xs ys in
    rw (h, r, k, c, p, f, o, a) refl

-- ---- blocks

-- the sums of so many hours fit them
pub total_fits : (n : ℕ) (xs : List Numbers) → n ≤ length xs → All (FitHours 1) xs → IsTotal (take n xs) (total_of (take n xs))
total_fits zero xs le small = record { sums = refl; fits = record { held_hours = omega arith; held_rows = omega arith; known_tenths = omega arith; rules = λ i d lt. absurd (omega arith) } }
total_fits (suc n) xs le small =
    let d = total_of [] in
    let more : n + 1 ≡ suc n = omega arith in
    let before = total_fits n xs (omega arith) small in
    let next = total_more (take n xs) (total_of (take n xs)) (get_or xs n d) before (small n d (omega arith)) in
    let list : take (suc n) xs ≡ take n xs ++ get_or xs n d ∷ [] = ap (λ (k : ℕ). take k xs) (sym more) ∙ take_more xs n d (omega arith) in
    let all : IsTotal (take (suc n) xs) (numbers_sum (total_of (take n xs)) (get_or xs n d)) = subst (λ (zs : List Numbers). IsTotal zs (numbers_sum (total_of (take n xs)) (get_or xs n d))) (sym list) next in
    subst (λ (t : Numbers). IsTotal (take (suc n) xs) t) all.sums all

pub all_fits : (xs : List Numbers) → All (FitHours 1) xs → IsTotal xs (total_of xs)
all_fits xs small = subst (λ (zs : List Numbers). IsTotal zs (total_of zs)) (take_all (length xs) xs (omega arith)) (total_fits (length xs) xs (omega arith) small)

pub length-block : (j : ℕ) (xs : List Numbers) → length (block j xs) ≤ 27
length-block j xs = rw length-take (omega arith)

-- the hours before a block, and then those of the block
pub blocks_more : (j : ℕ) (xs : List Numbers) → take (27 * (j + 1)) xs ≡ take (27 * j) xs ++ block j xs
blocks_more j xs = let n : 27 * (j + 1) ≡ 27 * j + 27 = omega arith in ap (λ (k : ℕ). take k xs) n ∙ take-add (27 * j) 27 xs

-- the sums of a block fit it
pub block_fits : (j : ℕ) (xs : List Numbers) → All (FitHours 1) xs → IsTotal (block j xs) (total_of (block j xs))
block_fits j xs small = all_fits (block j xs) (All-take (FitHours 1) 27 (drop (27 * j) xs) (All-drop (FitHours 1) (27 * j) xs small))

-- the sums with the hours of one block more
pub total_block : (j : ℕ) (xs : List Numbers) (total : Numbers) → All (FitHours 1) xs → IsTotal (take (27 * j) xs) total → IsTotal (take (27 * (j + 1)) xs) (numbers_sum total (total_of (block j xs)))
total_block j xs total small is =
    let one = block_fits j xs small in
    let sums = ap (λ (n : Numbers). numbers_sum n (total_of (block j xs))) is.sums ∙ sym (total_join (take (27 * j) xs) (block j xs)) in
    let fits = numbers_fit (length (take (27 * j) xs)) (length (block j xs)) total (total_of (block j xs)) is.fits one.fits in
    let both : IsTotal (take (27 * j) xs ++ block j xs) (numbers_sum total (total_of (block j xs))) = record { sums = sums; fits = rw length-append fits } in
    subst (λ (zs : List Numbers). IsTotal zs (numbers_sum total (total_of (block j xs)))) (sym (blocks_more j xs)) both

-- blocks before the first new hour, or after the last, stay
pub block_before : (xs : List Numbers) (from : ℕ) (ys : List Numbers) (j : ℕ) → from + length ys ≤ length xs → 27 * j + 27 ≤ from → block j (patched xs from ys) ≡ block j xs
block_before xs from ys j within before =
    let size = length-patched xs from ys within in
    same_lists (block j (patched xs from ys)) (block j xs) (rw (length-take, length-drop, size, length-take, length-drop) refl) (λ k d lt.
    let short : k < 27 = (let l = length-block j (patched xs from ys) in omega arith) in
    get_or-take 27 (drop (27 * j) (patched xs from ys)) k d short ∙ (get_or-drop (27 * j) (patched xs from ys) k d
    ∙ (patched-below xs from ys (27 * j + k) d (omega arith) (omega arith)
    ∙ (sym (get_or-drop (27 * j) xs k d) ∙ sym (get_or-take 27 (drop (27 * j) xs) k d short)))))

pub block_after : (xs : List Numbers) (from : ℕ) (ys : List Numbers) (j : ℕ) → from + length ys ≤ length xs → from + length ys ≤ 27 * j → block j (patched xs from ys) ≡ block j xs
block_after xs from ys j within after =
    let size = length-patched xs from ys within in
    same_lists (block j (patched xs from ys)) (block j xs) (rw (length-take, length-drop, size, length-take, length-drop) refl) (λ k d lt.
    let short : k < 27 = (let l = length-block j (patched xs from ys) in omega arith) in
    get_or-take 27 (drop (27 * j) (patched xs from ys)) k d short ∙ (get_or-drop (27 * j) (patched xs from ys) k d
    ∙ (patched-past xs from ys (27 * j + k) d (omega arith) (omega arith)
    ∙ (sym (get_or-drop (27 * j) xs k d) ∙ sym (get_or-take 27 (drop (27 * j) xs) k d short)))))

-- new sums in the place of those of before
pub blocks_new : (old new kept : List Numbers) (s : Summed) → length new ≡ length old → AreBlocks old kept → AreNewSums old new s → AreBlocks new (patched kept s.first s.blocks)
blocks_new old new kept s size are is =
    let all = are.all in
    let within = is.within in
    let room : s.first + length s.blocks ≤ length kept = omega arith in
    let width = length-patched kept s.first s.blocks room in
    record {
      all = omega arith;
      each = λ j d lt. elim (cases_lt j s.first) [
        | inl before ↦ patched-below kept s.first s.blocks j d (omega arith) before ∙ (are.each j d (omega arith) ∙ ap total_of (sym (is.stay j (inl before))))
        | inr from ↦ elim (cases_lt j (s.first + length s.blocks)) [
          | inl in_it ↦
              let i : j ≡ s.first + (j - s.first) = omega arith in
              let low : j - s.first < length s.blocks = omega arith in
              patched-at kept s.first s.blocks j (j - s.first) d (omega arith) i low ∙ (is.each (j - s.first) d low ∙ ap (λ (k : ℕ). total_of (block k new)) (sym i))
          | inr past ↦ patched-past kept s.first s.blocks j d (omega arith) past ∙ (are.each j d (omega arith) ∙ ap total_of (sym (is.stay j (inr past))))
        ]
      ];
    }

-- ---- the sums of a block, hour by hour

pub hour_fits : (xs : List Numbers) (k : ℕ) (part : Numbers) → All (FitHours 1) xs → k < length xs → ((d : Numbers) → part ≡ get_or xs k d) → FitHours 1 part
hour_fits xs k part small lt at = subst (λ (n : Numbers). FitHours 1 n) (sym (at part)) (small k part lt)

pub block_start : (xs : List Numbers) (s : ℕ) (total : Numbers) → IsTotal [] total → IsTotal (take (s - s) (drop s xs)) total
block_start xs s total is = let none : s - s ≡ 0 = omega arith in subst (λ (k : ℕ). IsTotal (take k (drop s xs)) total) (sym none) is

pub block_add : (xs : List Numbers) (s hour : ℕ) (total part : Numbers) → length xs ≤ 744 → s ≤ hour → hour < length xs → IsTotal (take (hour - s) (drop s xs)) total → FitHours 1 part → (m n : ℕ) × FitHours m total × FitHours n part × (m + n ≤ 744)
block_add xs s hour total part few from lt is one = (length (take (hour - s) (drop s xs)), 1, is.fits, one, rw (length-take, length-drop) (omega arith))

pub block_step : (xs : List Numbers) (s hour : ℕ) (total part new : Numbers) → s ≤ hour → hour < length xs → IsTotal (take (hour - s) (drop s xs)) total → ((d : Numbers) → part ≡ get_or xs hour d) → FitHours 1 part → new ≡ numbers_sum total part → IsTotal (take ((hour + 1) - s) (drop s xs)) new
block_step xs s hour total part new from lt is at one e =
    let i = hour - s in
    let next : (hour + 1) - s ≡ i + 1 = omega arith in
    let here : s + i ≡ hour = omega arith in
    let low : i < length (drop s xs) = rw length-drop (omega arith) in
    let item : get_or (drop s xs) i part ≡ part = get_or-drop s xs i part ∙ (ap (λ (k : ℕ). get_or xs k part) here ∙ sym (at part)) in
    let list : take ((hour + 1) - s) (drop s xs) ≡ take i (drop s xs) ++ part ∷ [] = ap (λ (k : ℕ). take k (drop s xs)) next ∙ (take_more (drop s xs) i part low ∙ ap (λ (n : Numbers). take i (drop s xs) ++ n ∷ []) item) in
    rw e (subst (λ (zs : List Numbers). IsTotal zs (numbers_sum total part)) (sym list) (total_more (take i (drop s xs)) total part is one))

pub block_end : (j hour : ℕ) (xs : List Numbers) (total : Numbers) → 27 * j ≤ hour → hour ≤ 27 * j + 27 → (27 * j + 27 ≤ hour) ⊎ (length xs ≤ hour) → IsTotal (take (hour - 27 * j) (drop (27 * j) xs)) total → IsTotal (block j xs) total
block_end j hour xs total from to end is =
    let same : take (hour - 27 * j) (drop (27 * j) xs) ≡ block j xs = elim end [
      | inl whole ↦ let n : hour - 27 * j ≡ 27 = omega arith in ap (λ (k : ℕ). take k (drop (27 * j) xs)) n
      | inr short ↦
          let size : length (drop (27 * j) xs) ≤ hour - 27 * j = rw length-drop (omega arith) in
          take_all (hour - 27 * j) (drop (27 * j) xs) size ∙ sym (take_all 27 (drop (27 * j) xs) (omega arith))
    ] in
    subst (λ (zs : List Numbers). IsTotal zs total) same is

pub blocks_push : (xs : List Numbers) (first place : ℕ) (items new : List Numbers) (one : Numbers) → first + length items ≡ place → ((i : ℕ) (d : Numbers) → i < length items → get_or items i d ≡ total_of (block (first + i) xs)) → IsTotal (block place xs) one → new ≡ items ++ one ∷ [] → (i : ℕ) (d : Numbers) → i < length new → get_or new i d ≡ total_of (block (first + i) xs)
blocks_push xs first place items new one size each is e i d lt =
    let all : i < length items + 1 = rw (e, length-append) at lt in
    let list = ap (λ (zs : List Numbers). get_or zs i d) e in
    elim (cases_lt i (length items)) [
      | inl below ↦ list ∙ (get_or_append_left items (one ∷ []) d i below ∙ each i d below)
      | inr last ↦
          let here : i ≡ length items = omega arith in
          let at : place ≡ first + i = omega arith in
          list ∙ (ap (λ (k : ℕ). get_or (items ++ one ∷ []) k d) here ∙ (get_or-append_seam items one [] d ∙ (is.sums ∙ ap (λ (k : ℕ). total_of (block k xs)) at)))
    ]

-- ---- the sums of all hours, block by block

pub over_add : (hours blocks : List Numbers) (place : ℕ) (total part : Numbers) → length hours ≤ 744 → All (FitHours 1) hours → AreBlocks hours blocks → place < length blocks → IsTotal (take (27 * place) hours) total → ((d : Numbers) → part ≡ get_or blocks place d) → (m n : ℕ) × FitHours m total × FitHours n part × (m + n ≤ 744)
over_add hours blocks place total part few small are lt is at =
    let same : part ≡ total_of (block place hours) = at part ∙ are.each place part lt in
    let fits = subst (λ (n : Numbers). FitHours (length (block place hours)) n) (sym same) (block_fits place hours small).fits in
    (length (take (27 * place) hours), length (block place hours), is.fits, fits, rw (length-take, length-take, length-drop) (omega arith))

pub over_step : (hours blocks : List Numbers) (place : ℕ) (total part new : Numbers) → All (FitHours 1) hours → AreBlocks hours blocks → place < length blocks → IsTotal (take (27 * place) hours) total → ((d : Numbers) → part ≡ get_or blocks place d) → new ≡ numbers_sum total part → IsTotal (take (27 * (place + 1)) hours) new
over_step hours blocks place total part new small are lt is at e =
    let same : part ≡ total_of (block place hours) = at part ∙ are.each place part lt in
    rw (e, same) (total_block place hours total small is)

pub over_end : (hours blocks : List Numbers) (place : ℕ) (total : Numbers) → AreBlocks hours blocks → length blocks ≤ place → IsTotal (take (27 * place) hours) total → total ≡ total_of hours
over_end hours blocks place total are done is =
    let all = are.all in
    is.sums ∙ ap total_of (take_all (27 * place) hours (omega arith))

-- the sums over the blocks from that of the first new hour up to that of the last
pub new_sums : (old parts : List Numbers) (from first count : ℕ) (blocks : List Numbers) → from + length parts ≤ length old → 27 * first ≤ from → from + length parts ≤ 27 * count → 27 * count ≤ (from + length parts) + 26 → first + length blocks ≡ max count first
    → ((i : ℕ) (d : Numbers) → i < length blocks → get_or blocks i d ≡ total_of (block (first + i) (patched old from parts))) → AreNewSums old (patched old from parts) (record { first = first; blocks = blocks; total = total_of (patched old from parts) })
new_sums old parts from first count blocks room low all few size each = record {
  sums = refl;
  within = omega arith;
  each = each;
  stay = λ j where_it_is. elim where_it_is [
    | inl before ↦ block_before old from parts j room (omega arith)
    | inr after ↦ block_after old from parts j room (omega arith)
  ];
}

-- the hours of a window with other numbers
pub summed_with : (hours parts kept : List Numbers) (from : ℕ) (old : Numbers) (s : Summed) → AreSummed hours kept old → from + length parts ≤ length hours → All (FitHours 1) parts → AreNewSums hours (patched hours from parts) s → AreSummed (patched hours from parts) (patched kept s.first s.blocks) s.total
summed_with hours parts kept from old s is within small new =
    let few = is.few in
    let size = length-patched hours from parts within in
    record {
      sums = new.sums;
      blocks = blocks_new hours (patched hours from parts) kept s size is.blocks new;
      few = omega arith;
      small = all_patched (FitHours 1) hours from parts is.small small;
    }
