-- What is broken over some tenths stays so over more of them.
use Rattle.std.proofs.Common.{◌≡◌, refl, ap, sym, ◌∙◌, subst, ◌↔◌, ℕ, ◌+◌, ◌-◌, ◌<◌, ◌≤◌, true, List, length, take, get_or, arith}
use Rattle.sig_base.specs.declared.values.Row.{Row}
use Rattle.gap_map.specs.declared.stretch.Stretch.{Stretch}
use Rattle.board.specs.History.{events_at}
use Rattle.board.specs.Moves.{count_before}
use Rattle.board.specs.Places.{IsPlace, since, upto}
use Rattle.signal_log.specs.Log.{HasHistory, Log, window_end}
use Rattle.decisive.specs.declared.judge.Start.{Start}
use Rattle.decisive.specs.declared.judge.Start.TheVariants.{Free}
use Rattle.decisive.specs.declared.parts.Part.{Part}
use Rattle.decisive.specs.Parts.{AllNone, no_part}
use Rattle.decisive.specs.Breaks.{FitsParts}
use Rattle.decisive.specs.Candidates.{BeginsBy, BeginsByGrow, EndsBy, EndsByGrow, FromLog, rows_from}
use Rattle.decisive.specs.Laws.{TellsOf, rows_to}
use Rattle.decisive.specs.Window.{only}
use Rattle.decisive.proofs.Found.{all_by, tells_since, tells_upto}
use Rattle.decisive.proofs.Lawful.{less_only, states_stay, to_range}
use Rattle.decisive.proofs.Placing.{count_over, place_since, place_upto, rank_from}
use Rattle.decisive.proofs.Since.{take_both}

-- a state that the channel may have where more is known it may have where less is
none_grows : (log : Log) (parts : List Part) (a b c d x j : ℕ) → FitsParts log.specs parts → x < window_end log → log.known x ≡ true → c ≤ a → a ≤ x → x ≤ b → b ≤ d → AllNone (only a b log) x j parts → AllNone (only c d log) x j parts
none_grows log parts a b c d x j fits lt is l1 l2 l3 l4 none k small w may keeps =
    let known : (only a b log).known x ≡ true = rw (is, to_range a b x l2 l3) refl in
    let part = fits.each k small in
    let stay = (states_stay (only a b log) (only c d log) fits.are (less_only log a b c d l1 l4) x lt known).0 (get_or parts k no_part).spec j w part.within may in
    none k small w stay keeps

module _ (log : Log) (parts : List Part) (fits : FitsParts log.specs parts) (has : HasHistory log) (f t x n : ℕ) (rows : List Row) (ss : List Stretch) (tells : TellsOf log rows ss f t) (place : IsPlace f t rows ss x n) (in_window : t ≤ window_end log) where
  abbrev j : ℕ
  j = length (events_at (take n rows) x)

  there : log.known x ≡ true
  there = sym (tells.same_known x place.first place.last) ∙ place.is_known

  pub ends_none : (start : Start) (w : ℕ) → FromLog log start f 0 → x ≤ w → w < t → EndsBy start log.specs parts x rows ss n w ↔ AllNone (only 0 w log) x j parts
  ends_none start w from le lt =
      let first = place.first in
      let over : n ≤ count_before (w + 1) rows = count_over f (x + 1) (w + 1) n rows place.count place.before (omega arith) in
      let same : length (events_at (take n (rows_to w rows)) x) ≡ j = ap (λ (rs : List Row). length (events_at rs x)) (take_both n (count_before (w + 1) rows) rows over) in
      let law = all_by start log parts (rows_to w rows) (upto w ss) f 0 w x n fits has (tells_upto log rows ss f t w tells (omega arith) lt) (place_upto f t x n w rows ss place le lt) (omega arith) from in (
        (λ e. subst (λ (q : ℕ). AllNone (only 0 w log) x q parts) same (law.0 e)),
        λ h. law.1 (subst (λ (q : ℕ). AllNone (only 0 w log) x q parts) (sym same) h),
      )

  pub ends_grow : (start : Start) → FromLog log start f 0 → EndsByGrow start log.specs parts x rows ss n t
  ends_grow start from y z low le lt ends =
      let last = place.last in
      (ends_none start z from (omega arith) lt).1 (none_grows log parts 0 y 0 z x j fits (omega arith) there (omega arith) (omega arith) low le ((ends_none start y from low (omega arith)).0 ends))

module _ (log : Log) (parts : List Part) (fits : FitsParts log.specs parts) (has : HasHistory log) (f v x n : ℕ) (rows : List Row) (ss : List Stretch) (tells : TellsOf log rows ss f (v + 1)) (place : IsPlace f (v + 1) rows ss x n) (in_window : v < window_end log) where
  abbrev j2 : ℕ
  j2 = length (events_at (take n rows) x)

  pub begins_none : (u : ℕ) → f ≤ u → u ≤ x → BeginsBy log.specs parts x rows ss n u ↔ AllNone (only u v log) x j2 parts
  begins_none u low le =
      let high = place.last in
      let same = rank_from f (v + 1) x n u rows ss place low le in
      let law = all_by (Free u) log parts (rows_from u rows) (since u ss) u u v x (n - count_before u rows) fits has (tells_since log rows ss f (v + 1) u tells low (omega arith)) (place_since f (v + 1) x n u rows ss place low le) in_window (refl, refl) in (
        (λ e. subst (λ (q : ℕ). AllNone (only u v log) x q parts) same (law.0 e)),
        λ h. law.1 (subst (λ (q : ℕ). AllNone (only u v log) x q parts) (sym same) h),
      )

  begins_grow_in : BeginsByGrow log.specs parts x rows ss n f
  begins_grow_in y z low le high begins =
      let last = place.last in
      let known = sym (tells.same_known x place.first last) ∙ place.is_known in
      (begins_none z low (omega arith)).1 (none_grows log parts y v z v x j2 fits (omega arith) known le high (omega arith) (omega arith) ((begins_none y (omega arith) high).0 begins))

pub begins_grow : (log : Log) (parts : List Part) (f t v x n : ℕ) (rows : List Row) (ss : List Stretch) → FitsParts log.specs parts → HasHistory log → TellsOf log rows ss f t → IsPlace f t rows ss x n → x ≤ v → v < t → t ≤ window_end log → BeginsByGrow log.specs parts x (rows_to v rows) (upto v ss) n f
begins_grow log parts f t v x n rows ss fits has tells place le lt in_window =
    let first = place.first in
    begins_grow_in log parts fits has f v x n (rows_to v rows) (upto v ss) (tells_upto log rows ss f t v tells (omega arith) lt) (place_upto f t x n v rows ss place le lt) (omega arith)
