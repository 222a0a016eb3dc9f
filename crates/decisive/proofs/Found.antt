-- The ends that the searches find are those of the decisive window.
use Rattle.std.proofs.Common.{sym, ◌∙◌, ◌↔◌, ℕ, suc, zero, ◌+◌, ◌<◌, ◌≤◌, pos, List, [], ◌∷◌, length, take, drop, get_or, arith}
use Rattle.sig_base.specs.declared.values.Row.{Row}
use Rattle.gap_map.specs.declared.stretch.Stretch.{Stretch}
use Rattle.channel_tables.specs.declared.spec.Spec.{Spec}
use Rattle.colour_machine.specs.Rules.{Rules}
use Rattle.span_set.specs.declared.set.Span.{Span}
use Rattle.reach.specs.Runs.{State}
use Rattle.channel_path.specs.Walks.{Walk}
use Rattle.channel_path.specs.declared.moves.Move.{Move}
use Rattle.board.specs.History.{events_at}
use Rattle.board.specs.Moves.{own}
use Rattle.board.specs.Places.{IsPlace, since, upto}
use Rattle.board.proofs.Bridge.{cut_rows}
use Rattle.board.proofs.Cutting.{since_in, upto_in, upto_known, since_known}
use Rattle.signal_log.specs.Log.{HasHistory, Log, track_at, window_end}
use Rattle.decisive.specs.Moves.{KeepsBy, NoneKeeps}
use Rattle.board.proofs.Common.{renumbered}
use Rattle.decisive.specs.declared.judge.Start.{Start}
use Rattle.decisive.specs.declared.judge.Start.TheVariants.{Free, Kept}
use Rattle.decisive.specs.declared.parts.Part.{Part}
use Rattle.decisive.specs.Parts.{AllNone, NoneIs, no_part}
use Rattle.decisive.specs.Breaks.{AllBreak, FitsPart, FitsParts, PartBreaks}
use Rattle.decisive.specs.Candidates.{FromLog, rows_from}
use Rattle.decisive.specs.Laws.{TellsOf, rows_to}
use Rattle.decisive.specs.Window.{only}
use Rattle.decisive.proofs.Numbers.{none_from}
use Rattle.decisive.proofs.Parted.{none_free, none_kept}

-- ---- judgements by moves are judgements by histories

none_after : (m : Rules) (sets : List (List Span)) (xs : List Move) (K : State → Type 0) (ys ys2 : List Move) → ((s u : State) → Walk m ys2 s u → Walk m ys s u) → NoneKeeps m sets xs K ys → NoneKeeps m sets xs K ys2
none_after m sets xs K ys ys2 two none v u a k r = none v u a k (two v u r)

pub part_by : (start : Start) (log : Log) (rows : List Row) (ss : List Stretch) (f u v x n : ℕ) (p : Part) → FitsParts log.specs (p ∷ []) → HasHistory log → TellsOf log rows ss f (v + 1) → IsPlace f (v + 1) rows ss x n → v < window_end log → FromLog log start f u → PartBreaks start log.specs x rows ss n p ↔ NoneIs (only u v log) x (length (events_at (take n rows) x)) p
part_by (Free g) log rows ss f u v x n p fits has tells place last (e1, e2) =
    let k = track_at log p.spec in
    let part = fits.each 0 (omega arith) in
    let follow = since_in f (v + 1) x ss tells.follow place.first place.last in
    let law = none_free log rows ss f v x n p.spec tells place p.keep fits.are has part.within part.hour last in
    let xs = own k 0 (take n rows) (upto x ss) in
    let a = own k 0 (drop n rows) (since x ss) in
    let b = own k n (drop n rows) (since x ss) in
    let K = KeepsBy p.keep (pos x) in
    rw (e1, e2) (
      (λ h. law.1 (none_from k.rules f xs xs K a b (λ s z w. w) (λ s z w. renumbered k x (v + 1) n 0 (drop n rows) (since x ss) s z follow place.after w) h)),
      λ h. none_from k.rules f xs xs K b a (λ s z w. w) (λ s z w. renumbered k x (v + 1) 0 n (drop n rows) (since x ss) s z follow place.after w) (law.0 h),
    )
part_by (Kept pasts) log rows ss f u v x n p fits has tells place last (e2, (point, e1, at)) =
    let k = track_at log p.spec in
    let part = fits.each 0 (omega arith) in
    let follow = since_in f (v + 1) x ss tells.follow place.first place.last in
    let law = none_kept log rows ss f v x n p.spec tells place pasts.now point p.keep fits.are has part.within part.hour last at e1 in
    let xs = own k 0 (take n rows) (upto x ss) in
    let a = own k 0 (drop n rows) (since x ss) in
    let b = own k n (drop n rows) (since x ss) in
    let K = KeepsBy p.keep (pos x) in
    let sets = get_or pasts.now p.spec [] in
    rw e2 (
      (λ h. law.1 (none_after k.rules sets xs K a b (λ s z w. renumbered k x (v + 1) n 0 (drop n rows) (since x ss) s z follow place.after w) h)),
      λ h. none_after k.rules sets xs K b a (λ s z w. renumbered k x (v + 1) 0 n (drop n rows) (since x ss) s z follow place.after w) (law.0 h),
    )

one_fits : (specs : List Spec) (parts : List Part) (k : ℕ) → FitsParts specs parts → k < length parts → FitsParts specs (get_or parts k no_part ∷ [])
one_fits specs parts k fits lt = record { are = fits.are; each = first }
  where
    first : (i : ℕ) → i < 1 → FitsPart specs (get_or (get_or parts k no_part ∷ []) i no_part)
    first zero l = fits.each k lt
    first (suc i) l = absurd (omega arith)

pub all_by : (start : Start) (log : Log) (parts : List Part) (rows : List Row) (ss : List Stretch) (f u v x n : ℕ) → FitsParts log.specs parts → HasHistory log → TellsOf log rows ss f (v + 1) → IsPlace f (v + 1) rows ss x n → v < window_end log → FromLog log start f u → AllBreak start log.specs parts x rows ss n ↔ AllNone (only u v log) x (length (events_at (take n rows) x)) parts
all_by start log parts rows ss f u v x n fits has tells place last from = (
  (λ h k lt. (part_by start log rows ss f u v x n (get_or parts k no_part) (one_fits log.specs parts k fits lt) has tells place last from).0 (h k lt)),
  λ h k lt. (part_by start log rows ss f u v x n (get_or parts k no_part) (one_fits log.specs parts k fits lt) has tells place last from).1 (h k lt),
)

-- ---- of what is told

pub tells_upto : (log : Log) (rows : List Row) (ss : List Stretch) (f t w : ℕ) → TellsOf log rows ss f t → f ≤ w → w < t → TellsOf log (rows_to w rows) (upto w ss) f (w + 1)
tells_upto log rows ss f t w tells low lt =
    let (k1, k2, k3, k4) = cut_rows f (w + 1) t rows (omega arith) (omega arith) tells.rows_in in
    record {
      follow = upto_in f t w ss tells.follow low lt;
      rows_in = k1;
      same_known = λ y l1 l2. sym (upto_known f t w y ss tells.follow low lt l1 l2) ∙ tells.same_known y l1 (omega arith);
      same_rows = λ y l1 l2 e. sym (k3 y l2) ∙ tells.same_rows y l1 (omega arith) e;
    }

pub tells_since : (log : Log) (rows : List Row) (ss : List Stretch) (f t u : ℕ) → TellsOf log rows ss f t → f ≤ u → u < t → TellsOf log (rows_from u rows) (since u ss) u t
tells_since log rows ss f t u tells low lt =
    let (k1, k2, k3, k4) = cut_rows f u t rows low (omega arith) tells.rows_in in
    record {
      follow = since_in f t u ss tells.follow low lt;
      rows_in = k2;
      same_known = λ y l1 l2. sym (since_known f t u y ss tells.follow low lt l1 l2) ∙ tells.same_known y (omega arith) l2;
      same_rows = λ y l1 l2 e. sym (k4 y l1) ∙ tells.same_rows y (omega arith) l2 e;
    }
