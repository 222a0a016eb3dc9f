-- An hour's first row after which its channel has no state is the one at which the log contradicts itself.
use Rattle.std.proofs.Common.{◌≡◌, ap, sym, ◌∙◌, subst, ◌⊎◌, inl, inr, ℕ, ◌+◌, ◌*◌, ◌<◌, ◌≤◌, true, List, [], length, take, drop, get_or, get_or-take, take-take, arith, Option, Some}
use Rattle.std.specs.Prelude.{is_some}
use Rattle.std.proofs.lemmas.Bool.{cases_eq}
use Rattle.std.proofs.lemmas.List.{length-take-le}
use Rattle.colour_machine.specs.Rules.{IsMachine}
use Rattle.span_set.specs.declared.set.Span.{Span}
use Rattle.reach.specs.Runs.{State}
use Rattle.reach.specs.Past.{Holds}
use Rattle.sig_base.specs.declared.values.Row.{Row}
use Rattle.gap_map.specs.declared.stretch.Stretch.{Stretch}
use Rattle.gap_map.specs.Stretches.{IsCut, known_at, known_in}
use Rattle.channel_tables.specs.declared.spec.Spec.{Spec}
use Rattle.channel_tables.proofs.Machines.{spec_machine}
use Rattle.hour_store.specs.Store.{Store, is_known, known_rows}
use Rattle.board.specs.History.{Agreeing, Track, events_at}
use Rattle.board.specs.Channels.{AreSpecs, track}
use Rattle.board.specs.Moves.{RowsIn}
use Rattle.board.specs.Logs.{IsHour, first_tenth, end_tenth, no_row, no_spec}
use Rattle.board.specs.Hours.{IsAfterHour, IsHourStop}
use Rattle.board.specs.Places.{IsStop}
use Rattle.board.proofs.Bridge.{agreeing_join}
use Rattle.board.proofs.Rows.{place_after, place_before, rows_split}
use Rattle.board.proofs.Within.{hour_rows}
use Rattle.signal_log.specs.Log.{HasHistory, IsContradiction, first_rows, log_of}
use Rattle.signal_log.specs.Points.{ArePastsAt, HasHour, rows_or_none}
use Rattle.signal_log.proofs.Stored.{known_each, known_in_window}
use Rattle.signal_log.proofs.Joined.{history_runs}
use Rattle.signal_log.proofs.Hour.{SameIn, hour_same, run_back, run_on}
use Rattle.signal_log.proofs.Contradicting.{cut_run, earlier_events, fewer_rows, known_row, later_rows, place_run, rows_take, stand}

-- a channel that goes on, or stops at row n or a later one, has a run of the hour to the place before row n
reaches : (k : Track) (rows : List Row) (ss : List Stretch) (hour n : ℕ) (before : List (List Span)) → IsHour hour rows ss → n < length rows → known_at ss (get_or rows n no_row).at ≡ true → ((u : State) × IsAfterHour k rows ss (first_tenth hour) (end_tenth hour) before u) ⊎ ((y : ℕ) × (n ≤ y) × IsStop k rows ss (first_tenth hour) before y) → (v : State) × ((s : State) × Holds before s × Agreeing k (known_at ss) (events_at (take n rows)) (first_tenth hour) ((get_or rows n no_row).at + 1) s v)
reaches k rows ss hour n before is lt known (inl (u, (s, h, g))) =
    let (v, g1) = cut_run k (known_at ss) rows (first_tenth hour) (end_tenth hour) n s u (hour_rows hour rows ss is) lt known g in
    (v, (s, h, g1))
reaches k rows ss hour n before is lt known (inr (y, le, stop)) =
    let f = first_tenth hour in
    let t = end_tenth hour in
    let K = known_at ss in
    let in_order = hour_rows hour rows ss is in
    let (u, (s, h, to)) = stop.some in
    let g = (place_run k rows ss f t (get_or rows y no_row).at y s u (place_before f t y rows ss is.follow in_order stop.within stop.is_known)).1 to in
    elim (cases_eq n y) [
      | inl e ↦ (u, (s, h, subst (λ (z : ℕ). Agreeing k K (events_at (take z rows)) f ((get_or rows z no_row).at + 1) s u) (sym e) g))
      | inr ne ↦
          let size : length (take y rows) ≡ y = length-take-le y rows (let w = stop.within in omega arith) in
          let same : get_or (take y rows) n no_row ≡ get_or rows n no_row = get_or-take y rows n no_row (omega arith) in
          let (a, _, _, _) = rows_split f t y rows in_order stop.within in
          let (v, g1) = cut_run k K (take y rows) f ((get_or rows y no_row).at + 1) n s u a (omega arith) (ap (λ (r : Row). K r.at) same ∙ known) g in
          (v, (s, h, subst (λ (rs : List Row). Agreeing k K (events_at rs) f ((get_or rows n no_row).at + 1) s v) (take-take n y rows le) (subst (λ (r : Row). Agreeing k K (events_at (take n (take y rows))) f (r.at + 1) s v) same g1)))
    ]

pub contradicts : (specs : List Spec) (s : Store) (hour : ℕ) (rows : Option (List Row)) (blanks : List Span) (ss : List Stretch) (before : List (List (List Span))) (n : ℕ) → AreSpecs specs → HasHour s hour rows blanks → IsCut (known_in (is_some rows) blanks) (36000 * hour) (36000 * hour + 36000) ss → IsHour hour (rows_or_none rows) ss → ArePastsAt (log_of specs s) hour before → IsHourStop specs (rows_or_none rows) ss (first_tenth hour) (end_tenth hour) before (Some n) → IsContradiction (log_of specs s) (get_or (rows_or_none rows) n no_row)
contradicts specs s hour rows blanks ss before n are has cut is at ((i, lt, stop), least, each) =
    let own = rows_or_none rows in
    let log = log_of specs s in
    let zs = known_rows s in
    let known = is_known s in
    let given = events_at zs in
    let K = known_at ss in
    let f = first_tenth hour in
    let t = end_tenth hour in
    let T = 36000 * length s.hours in
    let x = (get_or own n no_row).at in
    let in_order = hour_rows hour own ss is in
    let (_, _, low, high) = rows_split f t n own in_order stop.within in
    let same = hour_same s hour rows blanks ss has cut in
    let here : known x ≡ true = sym (same x low high).0 ∙ stop.is_known in
    let row = known_row s hour n rows has.is_store has.within has.held stop.within here in
    let N = row.place in
    let at_x : (get_or zs N no_row).at ≡ x = ap (λ (r : Row). r.at) row.is_row in
    let sorted = known_in_window s has.is_store in
    let inside : t ≤ T = (let w = has.within in omega arith) in
    let late = later_rows T N zs sorted row.within in
    let late0 : RowsIn x T (drop N zs) = subst (λ (y : ℕ). RowsIn y T (drop N zs)) at_x late.0 in
    let late1 : RowsIn x T (drop (N + 1) zs) = subst (λ (y : ℕ). RowsIn y T (drop (N + 1) zs)) at_x late.1 in
    let same0 : SameIn K (events_at (take n own)) known (events_at (take N zs)) f (x + 1) = λ y l1 l2. ((same y l1 (omega arith)).0, λ there. sym (row.before y l1 there)) in
    let same1 : SameIn K (events_at (take (n + 1) own)) known (events_at (take (N + 1) zs)) f (x + 1) = λ y l1 l2. ((same y l1 (omega arith)).0, λ there. sym (row.past y l1 there)) in
    let laws : (j : ℕ) → j < length specs → IsMachine (track (get_or specs j no_spec)).rules = λ j small. spec_machine (get_or specs j no_spec) (are.fit j no_spec small) in
    let start : RowsIn 0 (x + 1) (take N zs) = (let (a, _, _, _) = rows_split 0 T N zs sorted row.within in subst (λ (y : ℕ). RowsIn 0 (y + 1) (take N zs)) at_x a) in
    let has_before : HasHistory (first_rows N log) = (history_runs (first_rows N log) are).1 (λ j small.
    let k = track (get_or specs j no_spec) in
    let stopped : ((u : State) × IsAfterHour k own ss f t (get_or before j []) u) ⊎ ((y : ℕ) × (n ≤ y) × IsStop k own ss f (get_or before j []) y) = elim (each j small) [ inl go ↦ inl go | inr (y, st) ↦ inr (y, least j y small st, st) ] in
    let (v, (a, h, g)) = reaches k own ss hour n (get_or before j []) is stop.within stop.is_known stopped in
    let (w, (b, bw, g1), _) = run_on k (laws j small) known given f (get_or before j []) (at.states j small) K (events_at (take n own)) (events_at (take N zs)) (x + 1) same0 (λ y l there. earlier_events zs N x T y late0 (omega arith)) (omega arith) a v h g in
    (w, (b, bw, stand k known (take N zs) x T b w start (omega arith) g1))) in
    record {
      place = N;
      within = row.within;
      is_row = sym row.is_row;
      none = λ all.
          let k = track (get_or specs i no_spec) in
          let (u, (b, bw, g)) = (history_runs (first_rows (N + 1) log) are).0 all i lt in
          let (v, g1, _) = (agreeing_join k known (events_at (take (N + 1) zs)) 0 (x + 1) T b u (omega arith) (omega arith)).0 g in
          let (w, (a, h, g2), _) = run_back k (laws i lt) known given f (get_or before i []) (at.states i lt) K (events_at (take (n + 1) own)) (events_at (take (N + 1) zs)) (x + 1) same1 (λ y l there. earlier_events zs (N + 1) x T y late1 (omega arith)) (omega arith) v (b, bw, g1) in
          let place = place_after f t n own ss (place_before f t n own ss is.follow in_order stop.within stop.is_known) stop.within in
          stop.none w (a, h, (place_run k own ss f t x (n + 1) a w place).0 g2);
      least = λ m le.
          let size : length (take N zs) ≡ N = length-take-le N zs (let w = row.within in omega arith) in
          let fewer = fewer_rows (first_rows N log) m are (rows_take 0 T N zs sorted) (λ q l. ap (λ (r : Row). known r.at) (get_or-take N zs q no_row (omega arith)) ∙ known_each s q (let w = row.within in omega arith)) has_before in
          subst (λ (rs : List Row). HasHistory (record log { rows = rs })) (take-take m N zs le) fewer;
    }
