-- The row at which a log contradicts itself.
use Rattle.std.proofs.Common.{suc, zero, ◌≡◌, refl, ap, sym, ◌∙◌, subst, inl, inr, ◌↔◌, ℕ, ◌+◌, ◌-◌, ◌<◌, ◌≤◌, Bool, true, List, [], ◌∷◌, ◌++◌, length, take, drop, get_or, take-append-drop, take_all, arith, Option}
use Rattle.std.specs.Prelude.{filter}
use Rattle.std.proofs.lemmas.Bool.{cases_eq, cases_lt}
use Rattle.std.proofs.lemmas.List.{append-nil, append_assoc, drop_more, get_or_at, take_at, take_more}
use Rattle.std.proofs.lemmas.List.Elements.{filter-append}
use Rattle.reach.specs.Runs.{State}
use Rattle.reach.proofs.Later.{then_iff}
use Rattle.sig_base.specs.declared.values.Row.{Row}
use Rattle.gap_map.specs.declared.stretch.Stretch.{Stretch}
use Rattle.gap_map.specs.Stretches.{known_at}
use Rattle.hour_store.specs.Store.{IsStore, Store, is_known, known_rows, rows_at, rows_of}
use Rattle.board.specs.History.{Agreeing, Track, events_at}
use Rattle.board.specs.Channels.{AreSpecs, track}
use Rattle.board.specs.Moves.{RowsIn}
use Rattle.board.specs.Logs.{first_tenth, no_row, no_spec}
use Rattle.board.specs.Places.{IsPlace, ToPlace, upto}
use Rattle.board.proofs.Bridge.{agreeing_join, none_at, own_walk}
use Rattle.board.proofs.Cutting.{events_join, none_after, to_walk, upto_in, upto_known}
use Rattle.board.proofs.Rows.{rows_split}
use Rattle.board.proofs.Upto.{idle}
use Rattle.signal_log.specs.Log.{HasHistory, Log, first_rows, window_end}
use Rattle.signal_log.specs.Points.{rows_or_none}
use Rattle.signal_log.proofs.Runs.{agreeing_known, place_join, upto_here, upto_other, upto_place}
use Rattle.signal_log.proofs.Stored.{around, events_filter, filter_yes, rows_end}
use Rattle.signal_log.proofs.Joined.{history_runs}

pub rows_take : (f t n : ℕ) (rs : List Row) → RowsIn f t rs → RowsIn f t (take n rs)
rows_take f t zero rs h = rows_end f t rs h
rows_take f t (suc n) [] h = h
rows_take f t (suc n) (r ∷ rs) h = (h.0, h.1, rows_take r.at t n rs h.2)

split_events : (rs : List Row) (m y : ℕ) → events_at rs y ≡ events_at (take m rs) y ++ events_at (drop m rs) y
split_events rs m y = ap (λ (zs : List Row). events_at zs y) (sym (take-append-drop m rs)) ∙ events_join (take m rs) (drop m rs) y

-- before the later rows the earlier ones tell all
pub earlier_events : (rs : List Row) (m x t y : ℕ) → RowsIn x t (drop m rs) → y < x → events_at rs y ≡ events_at (take m rs) y
earlier_events rs m x t y h lt = split_events rs m y ∙ (ap (λ es. events_at (take m rs) y ++ es) (none_at (drop m rs) x t y h lt) ∙ append-nil (events_at (take m rs) y))

-- up to a place in its own tenth
pub place_events : (rs : List Row) (m x t y : ℕ) → RowsIn x t (drop m rs) → y < x + 1 → upto_place (events_at rs) x (length (events_at (take m rs) x)) y ≡ events_at (take m rs) y
place_events rs m x t y h lt =
    let j = length (events_at (take m rs) x) in
    elim (cases_eq y x) [
      | inr ne ↦ upto_other (events_at rs) x j y ne ∙ earlier_events rs m x t y h (omega arith)
      | inl e ↦ rw e (upto_here (events_at rs) x j ∙ (ap (λ es. take j es) (split_events rs m x) ∙ take_at (events_at (take m rs) x) (events_at (drop m rs) x) j refl))
    ]

-- a run as far as the place before a known row
pub cut_run : (k : Track) (known : ℕ → Bool) (rs : List Row) (f t m : ℕ) (s u : State) → RowsIn f t rs → m < length rs → known (get_or rs m no_row).at ≡ true → Agreeing k known (events_at rs) f t s u → (v : State) × Agreeing k known (events_at (take m rs)) f ((get_or rs m no_row).at + 1) s v
cut_run k known rs f t m s u h lt is g =
    let x = (get_or rs m no_row).at in
    let (a, b, c, d) = rows_split f t m rs h lt in
    let j = length (events_at (take m rs) x) in
    let (v, g1, _) = (place_join k known (events_at rs) f x t j s u c d is).0 g in
    (v, agreeing_known k known known (upto_place (events_at rs) x j) (events_at (take m rs)) f (x + 1) s v (λ y l1 l2 there. (there, place_events rs m x t y b l2)) g1)

-- where no row is left it stands still
pub stand : (k : Track) (known : ℕ → Bool) (rs : List Row) (x t : ℕ) (s v : State) → RowsIn 0 (x + 1) rs → x < t → Agreeing k known (events_at rs) 0 (x + 1) s v → Agreeing k known (events_at rs) 0 t s v
stand k known rs x t s v h lt g = (agreeing_join k known (events_at rs) 0 (x + 1) t s v (omega arith) (omega arith)).1 (v, g, idle k known (events_at rs) (t - (x + 1)) (x + 1) t v (omega arith) (λ y l1 l2. none_after rs 0 (x + 1) y h l1))

-- without the last rows, whose tenths stay known, some run still agrees
fewer_run : (k : Track) (known : ℕ → Bool) (rs : List Row) (t m : ℕ) (s u : State) → RowsIn 0 t rs → ((n : ℕ) → n < length rs → known (get_or rs n no_row).at ≡ true) → Agreeing k known (events_at rs) 0 t s u → (v : State) × Agreeing k known (events_at (take m rs)) 0 t s v
fewer_run k known rs t m s u h each g = elim (cases_lt m (length rs)) [
  | inl lt ↦
      let (a, b, c, d) = rows_split 0 t m rs h lt in
      let (v, g1) = cut_run k known rs 0 t m s u h lt (each m lt) g in
      (v, stand k known (take m rs) (get_or rs m no_row).at t s v a d g1)
  | inr ge ↦ rw (take_all m rs ge) (u, g)
]

-- and some history
pub fewer_rows : (log : Log) (m : ℕ) → AreSpecs log.specs → RowsIn 0 (window_end log) log.rows → ((n : ℕ) → n < length log.rows → log.known (get_or log.rows n no_row).at ≡ true) → HasHistory log → HasHistory (first_rows m log)
fewer_rows log m are h each has = (history_runs (first_rows m log) are).1 (λ i lt.
    let (u, (s, bw, g)) = (history_runs log are).0 has i lt in
    let (v, g2) = fewer_run (track (get_or log.specs i no_spec)) log.known log.rows (window_end log) m s u h each g in
    (v, (s, bw, g2)))

length_more : (xs : List Row) (r : Row) (ys : List Row) → length xs < length (xs ++ r ∷ ys)
length_more [] r ys = omega arith
length_more (x ∷ xs) r ys = let k = length_more xs r ys in omega arith

-- known row n of an hour among the known rows of the window
pub record IsKnownRow (s : Store) (hour n : ℕ) (rows : List Row) : Type 0 where
  pub place : ℕ
  pub within : place < length (known_rows s)
  pub is_row : get_or (known_rows s) place no_row ≡ get_or rows n no_row
  pub before : (y : ℕ) → first_tenth hour ≤ y → is_known s y ≡ true → events_at (take place (known_rows s)) y ≡ events_at (take n rows) y
  pub past : (y : ℕ) → first_tenth hour ≤ y → is_known s y ≡ true → events_at (take (place + 1) (known_rows s)) y ≡ events_at (take (n + 1) rows) y

pub known_row : (s : Store) (hour n : ℕ) (rows : Option (List Row)) → IsStore s → hour < length s.hours → rows_at s hour ≡ rows → n < length (rows_or_none rows) → is_known s (get_or (rows_or_none rows) n no_row).at ≡ true → IsKnownRow s hour n (rows_or_none rows)
known_row s hour n rows is lt e small known =
    let own = rows_or_none rows in
    let r = get_or own n no_row in
    let a = around s hour rows is lt e in
    let F = filter (λ (x : Row). is_known s x.at) in
    let A = a.front ++ take n own in
    let D = drop (n + 1) own in
    let B = D ++ a.back in
    let mine : own ≡ take n own ++ (r ∷ D) = sym (take-append-drop n own) ∙ ap (λ (rs : List Row). take n own ++ rs) (drop_more own n no_row small) in
    let all : rows_of s.hours ≡ A ++ (r ∷ B) = a.parts ∙ (ap (λ (rs : List Row). a.front ++ (rs ++ a.back)) mine ∙ (ap (λ (rs : List Row). a.front ++ rs) (append_assoc (take n own) (r ∷ D) a.back) ∙ sym (append_assoc a.front (take n own) (r ∷ B)))) in
    let split : known_rows s ≡ F A ++ (r ∷ F B) = ap F all ∙ (filter-append (λ (x : Row). is_known s x.at) A (r ∷ B) ∙ ap (λ (rs : List Row). F A ++ rs) (filter_yes (is_known s) r B known)) in
    let N = length (F A) in
    let front : take N (known_rows s) ≡ F A = ap (λ (rs : List Row). take N rs) split ∙ take_at (F A) (r ∷ F B) N refl in
    let here : get_or (known_rows s) N no_row ≡ r = ap (λ (rs : List Row). get_or rs N no_row) split ∙ get_or_at (F A) r (F B) no_row N refl in
    let within : N < length (known_rows s) = (let size = ap length split in let more = length_more (F A) r (F B) in omega arith) in
    let early : (y : ℕ) → first_tenth hour ≤ y → is_known s y ≡ true → events_at (take N (known_rows s)) y ≡ events_at (take n own) y = λ y le there. ap (λ (rs : List Row). events_at rs y) front ∙ (events_filter (is_known s) A y there ∙ (events_join a.front (take n own) y ∙ ap (λ es. es ++ events_at (take n own) y) (none_after a.front 0 (first_tenth hour) y a.front_in le))) in
    record {
      place = N;
      within = within;
      is_row = here;
      before = early;
      past = λ y le there.
          let one : take (N + 1) (known_rows s) ≡ take N (known_rows s) ++ r ∷ [] = take_more (known_rows s) N no_row within ∙ ap (λ (x : Row). take N (known_rows s) ++ x ∷ []) here in
          let two : take (n + 1) own ≡ take n own ++ r ∷ [] = take_more own n no_row small in
          ap (λ (rs : List Row). events_at rs y) one ∙ (events_join (take N (known_rows s)) (r ∷ []) y ∙ (ap (λ es. es ++ events_at (r ∷ []) y) (early y le there) ∙ (sym (events_join (take n own) (r ∷ []) y) ∙ sym (ap (λ (rs : List Row). events_at rs y) two))));
    }

-- a run of the hour to a place, with the later rows left out
pub place_run : (k : Track) (rows : List Row) (ss : List Stretch) (f t x i : ℕ) (s v : State) → IsPlace f t rows ss x i → Agreeing k (known_at ss) (events_at (take i rows)) f (x + 1) s v ↔ ToPlace k rows ss f x i s v
place_run k rows ss f t x i s v p =
    let walk = own_walk k (known_at ss) (events_at (take i rows)) f (x + 1) 0 (take i rows) (upto x ss) s v (upto_in f t x ss p.stretches p.first p.last) p.before (λ y l1 l2. upto_known f t x y ss p.stretches p.first p.last l1 l2) (λ y l1 l2. refl) in
    let to = to_walk k rows ss f t x i s v p in
    then_iff walk (to.1, to.0)

pub later_rows : (t n : ℕ) (rs : List Row) → RowsIn 0 t rs → n < length rs → RowsIn (get_or rs n no_row).at t (drop n rs) × RowsIn (get_or rs n no_row).at t (drop (n + 1) rs)
later_rows t n rs h lt =
    let (_, b, _, _) = rows_split 0 t n rs h lt in
    let more : RowsIn (get_or rs n no_row).at t (get_or rs n no_row ∷ drop (n + 1) rs) = subst (λ (qs : List Row). RowsIn (get_or rs n no_row).at t qs) (drop_more rs n no_row lt) b in
    (b, more.2)
