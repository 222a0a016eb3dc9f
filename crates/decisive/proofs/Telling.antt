-- What a store tells of its hours.
use Rattle.std.proofs.Common.{◌≡◌, refl, ap, sym, ◌∙◌, subst, inl, inr, ℕ, suc, zero, ◌+◌, ◌*◌, ◌<◌, ◌≤◌, ◌||◌, ◌&&◌, nat_le, nat_lt, append-nil, List, [], ◌∷◌, ◌++◌, length, length-append, take, drop, arith, Option, Some, None}
use Rattle.std.specs.Prelude.{is_some, option_map, IfSome}
use Rattle.std.proofs.lemmas.Bool.{cases_lt}
use Rattle.sig_base.specs.declared.values.Row.{Row}
use Rattle.sig_base.specs.HourRows.{AreRowsOf}
use Rattle.gap_map.specs.declared.stretch.Stretch.{Stretch}
use Rattle.gap_map.specs.Stretches.{FollowOn, IsCut, known_at, known_in}
use Rattle.channel_tables.specs.declared.spec.Spec.{Spec}
use Rattle.gap_map.proofs.Following.{follows}
use Rattle.hour_store.specs.Store.{IsStore, Store, rows_at}
use Rattle.board.specs.History.{Event, events_at}
use Rattle.board.specs.Logs.{end_tenth, first_tenth}
use Rattle.board.specs.Moves.{RowsIn}
use Rattle.board.specs.Places.{IsPlace}
use Rattle.board.proofs.Bridge.{known_late, known_there, late_end, none_at}
use Rattle.board.proofs.Cutting.{events_join, none_after, drop_more_of, take_more_of}
use Rattle.board.proofs.Within.{rise_rows}
use Rattle.signal_log.specs.Log.{Log, log_of}
use Rattle.signal_log.specs.Points.{HasHour, rows_or_none}
use Rattle.signal_log.proofs.Hour.{hour_same}
use Rattle.signal_log.proofs.Stored.{known_hour, rows_join}
use Rattle.decisive.specs.Laws.{TellsOf}

pub hour_tells : (specs : List Spec) (s : Store) (hour : ℕ) (rows : List Row) (entry : Option (List Row)) (ss : List Stretch) → IsStore s → hour < length s.hours → rows_at s hour ≡ entry → rows ≡ rows_or_none entry → RowsIn (first_tenth hour) (end_tenth hour) rows → IsCut (known_in (is_some entry) s.blanks) (36000 * hour) (36000 * hour + 36000) ss → TellsOf (log_of specs s) rows ss (first_tenth hour) (first_tenth (hour + 1))
hour_tells specs s hour rows entry ss is lt held e in_rows cut =
    let next : end_tenth hour ≡ first_tenth (hour + 1) = omega arith in
    let has : HasHour s hour entry s.blanks = record { is_store = is; within = lt; held = held; known = λ t l1 l2. sym (known_hour s hour t entry held l1 (omega arith)) } in
    let same = hour_same s hour entry s.blanks ss has cut in
    record {
      follow = subst (λ (t : ℕ). FollowOn (first_tenth hour) t ss) next (follows (known_in (is_some entry) s.blanks) (36000 * hour) (36000 * hour + 36000) ss cut.stretches);
      rows_in = subst (λ (t : ℕ). RowsIn (first_tenth hour) t rows) next in_rows;
      same_known = λ y l1 l2. (same y l1 (omega arith)).0;
      same_rows = λ y l1 l2 there. ap (λ (rs : List Row). events_at rs y) e ∙ (same y l1 (omega arith)).1 there;
    }

pub rows_of_hour : (hour : ℕ) (rows : List Row) → AreRowsOf hour rows → RowsIn (first_tenth hour) (end_tenth hour) rows
rows_of_hour hour rows are = rise_rows (first_tenth hour) (end_tenth hour) rows (omega arith) are.rise

-- ---- hours one after another

follow_join : (f m t : ℕ) (ss next : List Stretch) → FollowOn f m ss → FollowOn m t next → FollowOn f t (ss ++ next)
follow_join f m t [] next h k = rw h k
follow_join f m t (s ∷ ss) next (a, b, h) k = (a, b, follow_join s.to m t ss next h k)

known_first : (f m t y : ℕ) (ss next : List Stretch) → FollowOn f m ss → FollowOn m t next → y < m → known_at (ss ++ next) y ≡ known_at ss y
known_first f m t y [] next h k lt = known_late next m t y k lt
known_first f m t y (s ∷ ss) next h k lt = ap (λ b. (s.known && (nat_le s.from y && nat_lt y s.to)) || b) (known_first s.to m t y ss next h.2 k lt)

known_next : (f m t y : ℕ) (ss next : List Stretch) → FollowOn f m ss → FollowOn m t next → m ≤ y → known_at (ss ++ next) y ≡ known_at next y
known_next f m t y [] next h k le = refl
known_next f m t y (s ∷ ss) next h k le = known_there s (ss ++ next) y (let e = late_end s.to m ss h.2 in omega arith) ∙ known_next s.to m t y ss next h.2 k le

none_more : (xs : List Event) (ys : List Event) → ys ≡ [] → xs ++ ys ≡ xs
none_more xs ys e = rw e (append-nil xs)

pub tells_join : (log : Log) (rows more : List Row) (ss next : List Stretch) (f m t : ℕ) → f ≤ m → m ≤ t → TellsOf log rows ss f m → TellsOf log more next m t → TellsOf log (rows ++ more) (ss ++ next) f t
tells_join log rows more ss next f m t l1 l2 one two = record {
  follow = follow_join f m t ss next one.follow two.follow;
  rows_in = rows_join f m t rows more one.rows_in two.rows_in;
  same_known = λ y a b. elim (cases_lt y m) [
    | inl lt ↦ known_first f m t y ss next one.follow two.follow lt ∙ one.same_known y a lt
    | inr ge ↦ known_next f m t y ss next one.follow two.follow ge ∙ two.same_known y ge b
  ];
  same_rows = λ y a b there. events_join rows more y ∙ elim (cases_lt y m) [
    | inl lt ↦ none_more (events_at rows y) (events_at more y) (none_at more m t y two.rows_in lt) ∙ one.same_rows y a lt there
    | inr ge ↦ rw (none_after rows f m y one.rows_in ge) (two.same_rows y ge b there)
  ];
}

pub some_map : {A B : Type 0} → (o : Option A) (f : A → B) (P : B → Type 0) → IfSome o (λ a. P (f a)) → IfSome (option_map f o) P
some_map None f P h = h
some_map (Some a) f P h = h

pub some_same : {A B : Type 0} → (o : Option A) (f : A → B) → is_some o ≡ is_some (option_map f o)
some_same None f = refl
some_same (Some a) f = refl

pub rows_of_entry : (hour : ℕ) (o : Option (List Row)) → IfSome o (AreRowsOf hour) → RowsIn (first_tenth hour) (end_tenth hour) (rows_or_none o)
rows_of_entry hour None h = omega arith
rows_of_entry hour (Some rows) h = rows_of_hour hour rows h

pub take_front : (q : ℕ) (xs ys : List Row) → q ≤ length xs → take q (xs ++ ys) ≡ take q xs
take_front zero xs ys l = refl
take_front (suc q) [] ys l = absurd (omega arith)
take_front (suc q) (z ∷ xs) ys l = ap (λ rs. z ∷ rs) (take_front q xs ys (omega arith))

drop_front : (q : ℕ) (xs ys : List Row) → q ≤ length xs → drop q (xs ++ ys) ≡ drop q xs ++ ys
drop_front zero xs ys l = refl
drop_front (suc q) [] ys l = absurd (omega arith)
drop_front (suc q) (z ∷ xs) ys l = drop_front q xs ys (omega arith)

-- a place in hours that go on
pub place_on : (f m t x n : ℕ) (rows more : List Row) (ss next : List Stretch) → IsPlace f m rows ss x n → m ≤ t → FollowOn m t next → RowsIn m t more → IsPlace f t (rows ++ more) (ss ++ next) x n
place_on f m t x n rows more ss next p le follow in_rows =
    let first = p.first in
    let last = p.last in
    let count = p.count in
    let size = length-append rows more in
    record {
      stretches = follow_join f m t ss next p.stretches follow;
      rows_in = rows_join f m t rows more p.rows_in in_rows;
      first = first;
      last = omega arith;
      is_known = known_first f m t x ss next p.stretches follow last ∙ p.is_known;
      count = omega arith;
      before = subst (λ rs. RowsIn f (x + 1) rs) (sym (take_front n rows more count)) p.before;
      after = subst (λ rs. RowsIn x t rs) (sym (drop_front n rows more count)) (rows_join x m t (drop n rows) more p.after in_rows);
    }

-- and one where hours come before
pub place_back : (f m t x n : ℕ) (rows more : List Row) (ss next : List Stretch) → IsPlace m t more next x n → f ≤ m → FollowOn f m ss → RowsIn f m rows → IsPlace f t (rows ++ more) (ss ++ next) x (length rows + n)
place_back f m t x n rows more ss next p le follow in_rows =
    let first = p.first in
    let last = p.last in
    let count = p.count in
    let size = length-append rows more in
    record {
      stretches = follow_join f m t ss next follow p.stretches;
      rows_in = rows_join f m t rows more in_rows p.rows_in;
      first = omega arith;
      last = last;
      is_known = known_next f m t x ss next follow p.stretches first ∙ p.is_known;
      count = omega arith;
      before = subst (λ rs. RowsIn f (x + 1) rs) (sym (take_more_of rows more n)) (rows_join f m (x + 1) rows (take n more) in_rows p.before);
      after = subst (λ rs. RowsIn x t rs) (sym (drop_more_of rows more n)) p.after;
    }
