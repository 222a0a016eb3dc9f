-- The steps between the searches.
use Rattle.std.proofs.Common.{◌≡◌, refl, ap, sym, ◌∙◌, subst, ◌⊎◌, inl, inr, ℕ, ◌+◌, ◌<◌, ◌≤◌, true, List, [], length, take, get_or, arith}
use Rattle.sig_base.specs.declared.values.Row.{Row}
use Rattle.gap_map.specs.declared.stretch.Stretch.{Stretch}
use Rattle.rule_audit.specs.declared.lines.Place.{Place}
use Rattle.rule_audit.specs.declared.lines.Place.TheVariants.{BeforeRow, EndOfTenth}
use Rattle.gap_map.specs.Stretches.{known_at}
use Rattle.channel_tables.specs.declared.spec.Spec.{Spec}
use Rattle.hour_store.specs.Store.{Store}
use Rattle.board.specs.History.{events_at}
use Rattle.board.specs.Logs.{first_tenth, no_row}
use Rattle.board.specs.Moves.{RowsIn, count_before}
use Rattle.board.specs.Places.{IsPlace, upto}
use Rattle.board.proofs.Bridge.{cut_rows}
use Rattle.board.proofs.Rows.{place_before}
use Rattle.board.proofs.Within.{rows_since}
use Rattle.board.proofs.Adding.{count_le}
use Rattle.signal_log.specs.Log.{HasHistory, Log, log_of}
use Rattle.decisive.specs.declared.hours.HoursTold.{HoursTold}
use Rattle.decisive.specs.declared.hours.Placed.{Placed}
use Rattle.decisive.specs.declared.judge.Question.{Question}
use Rattle.decisive.specs.declared.judge.Start.{Start}
use Rattle.decisive.specs.declared.parts.Part.{Part}
use Rattle.decisive.specs.Breaks.{FitsParts}
use Rattle.decisive.specs.Candidates.{FromLog}
use Rattle.decisive.specs.Cuts.{IsCutAfter}
use Rattle.decisive.specs.Laws.{TellsOf, rows_to}
use Rattle.decisive.specs.Searches.{ArePlaced, IsBeginFound, IsEndFound, rank, rank_in}
use Rattle.decisive.specs.Lines.{place_in}
use Rattle.decisive.specs.Window.{IsPlaceIn}
use Rattle.decisive.specs.Tries.{IsBeginIn, NoBeginIn, PlacedBeginsGrow, PlacedEndsGrow}
use Rattle.decisive.proofs.Growing.{begins_grow, ends_grow}
use Rattle.decisive.proofs.Found.{tells_upto}
use Rattle.decisive.proofs.Placing.{count_over, place_upto, row_after}
use Rattle.decisive.proofs.Since.{take_both}

pub more_hours : (s : Store) (told : HoursTold) (f t k m x n : ℕ) → k ≤ m → ArePlaced s told f t k x n → ArePlaced s told f t m x n
more_hours s told f t k m x n le p = let small = p.are.few in record { are = record { tells = p.are.tells; few = omega arith }; place = p.place }

-- the end that was found is in what is told, which may be cut after it
pub found_in : (start : Start) (s : Store) (specs : List Spec) (parts : List Part) (hour x j v : ℕ) (placed : Placed) → (e : IsEndFound start s specs parts hour x j v placed) → (x ≤ v) × IsCutAfter (first_tenth e.next) placed.told.stretches.items v
found_in start s specs parts hour x j v placed e =
    let last = e.are.place.last in
    let ss = placed.told.stretches.items in
    elim e.found [
      | inl at ↦ elim at [
        | inl (same, own) ↦ (omega arith, (omega arith, inl (subst (λ (z : ℕ). known_at ss z ≡ true) (sym same) e.are.place.is_known)))
        | inr (not_x, row) ↦
            let (low, high) = row_after (first_tenth hour) (first_tenth e.next) x placed.place row.row placed.told.rows.items ss e.are.place row.low row.within in
            let at_row = row.at in
            (omega arith, (omega arith, inl (subst (λ (z : ℕ). known_at ss z ≡ true) (sym at_row) row.own.0)))
      ]
      | inr (all, end, none) ↦ (omega arith, (omega arith, inr end))
    ]

pub end_asked_in : (start : Start) (s : Store) (q : Question) (placed : Placed) (hour next k t : ℕ) → FitsParts q.specs.now q.parts.now → HasHistory (log_of q.specs.now s) → FromLog (log_of q.specs.now s) start (first_tenth hour) 0 → next ≤ length s.hours → ArePlaced s placed.told (first_tenth hour) (first_tenth next) k q.at placed.place → first_tenth next ≡ t → IsPlace (first_tenth hour) t placed.told.rows.items placed.told.stretches.items q.at placed.place × PlacedEndsGrow start q placed t
end_asked_in start s q placed hour next k t fits has from le p e = subst (λ (z : ℕ). IsPlace (first_tenth hour) z placed.told.rows.items placed.told.stretches.items q.at placed.place × PlacedEndsGrow start q placed z) e (p.place, ends_grow (log_of q.specs.now s) q.parts.now fits has (first_tenth hour) (first_tenth next) q.at placed.place placed.told.rows.items placed.told.stretches.items (p.are.tells q.specs.now) p.place (omega arith) start from)

pub begin_asked_in : (s : Store) (q : Question) (placed : Placed) (f t k v : ℕ) → FitsParts q.specs.now q.parts.now → HasHistory (log_of q.specs.now s) → q.at ≤ v → t ≤ first_tenth (length s.hours) → ArePlaced s placed.told f t k q.at placed.place → IsCutAfter t placed.told.stretches.items v → (u : ℕ) × IsPlace f u placed.told.rows.items placed.told.stretches.items q.at placed.place × IsCutAfter u placed.told.stretches.items v × PlacedBeginsGrow q placed v f
begin_asked_in s q placed f t k v fits has late le p cut = (t, p.place, cut, begins_grow (log_of q.specs.now s) q.parts.now f t v q.at placed.place placed.told.rows.items placed.told.stretches.items fits has (p.are.tells q.specs.now) p.place late cut.0 (omega arith))

pub begin_found : (s : Store) (q : Question) (placed : Placed) (h t k j v u : ℕ) → q.at ≤ v → ArePlaced s placed.told (first_tenth h) t k q.at placed.place → v < t → rank placed.told q.at placed.place ≡ j → IsBeginIn q placed v u ⊎ ((h ≡ 0) × (u ≡ 0) × NoBeginIn q placed v 0) → IsBeginFound s q.specs.now q.parts.now q.at j v u
begin_found s q placed h t k j v u late p lt same found =
    let first = p.place.first in
    let rows = placed.told.rows.items in
    let c = count_before (v + 1) rows in
    let over : placed.place ≤ c = count_over (first_tenth h) (q.at + 1) (v + 1) placed.place rows p.place.count p.place.before (omega arith) in
    record {
      rows = rows_to v rows;
      stretches = upto v placed.told.stretches.items;
      place = placed.place;
      first = h;
      tells = tells_upto (log_of q.specs.now s) rows placed.told.stretches.items (first_tenth h) t v (p.are.tells q.specs.now) (omega arith) lt;
      rank_is = ap (λ (rs : List Row). length (events_at rs q.at)) (take_both placed.place c rows over) ∙ same;
      is_place = place_upto (first_tenth h) t q.at placed.place v rows placed.told.stretches.items p.place late lt;
      found = found;
    }

-- what may be cut after a tenth may be where more is told before it
pub cut_more : (s : Store) (old new : HoursTold) (f g t k m x n p v : ℕ) → ArePlaced s old f t k x n → ArePlaced s new g t m x p → x ≤ v → IsCutAfter t old.stretches.items v → IsCutAfter t new.stretches.items v
cut_more s old new f g t k m x n p v one two le (lt, at) =
    let a = one.place.first in
    let b = two.place.first in
    let log = [] in
    (lt, elim at [ inl known ↦ inl ((two.are.tells log).same_known v (omega arith) lt ∙ (sym ((one.are.tells log).same_known v (omega arith) lt) ∙ known)) | inr last ↦ inr last ])

-- a place of a line in what is told
pub place_is : (log : Log) (rows : List Row) (ss : List Stretch) (f t x : ℕ) (place : Place) → TellsOf log rows ss f t → log.known x ≡ true → f ≤ x → x < t → IsPlaceIn rows x place → IsPlace f t rows ss x (place_in rows x place)
place_is log rows ss f t x (BeforeRow n) tells known low high (lt, at) =
    let here : known_at ss (get_or rows n no_row).at ≡ true = rw at (tells.same_known x low high ∙ known) in
    subst (λ (y : ℕ). IsPlace f t rows ss y n) at (place_before f t n rows ss tells.follow tells.rows_in lt here)
place_is log rows ss f t x EndOfTenth tells known low high h =
    let (k1, k2, k3, k4) = cut_rows f (x + 1) t rows (omega arith) (omega arith) tells.rows_in in
    record {
      stretches = tells.follow;
      rows_in = tells.rows_in;
      first = low;
      last = high;
      is_known = tells.same_known x low high ∙ known;
      count = count_le (x + 1) rows;
      before = k1;
      after = rows_since (x + 1) x t _ (omega arith) k2;
    }

pub rank_is : (f t x : ℕ) (rows : List Row) (place : Place) → RowsIn f t rows → f ≤ x → x < t → length (events_at (take (place_in rows x place) rows) x) ≡ rank_in rows x place
rank_is f t x rows (BeforeRow n) in_rows low high = refl
rank_is f t x rows EndOfTenth in_rows low high =
    let (k1, k2, k3, k4) = cut_rows f (x + 1) t rows (omega arith) (omega arith) in_rows in
    ap (λ es. length es) (sym (k3 x (omega arith)))
