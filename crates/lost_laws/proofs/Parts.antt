-- Parts of the window, and places in their known tenths.
use Rattle.std.proofs.Common.{◌≡◌, refl, ap, sym, ◌∙◌, subst, ◌↔◌, ℕ, ◌+◌, ◌<◌, ◌≤◌, Bool, true, List, ◌++◌, take, drop, take-append-drop, arith}
use Rattle.std.proofs.lemmas.List.{append-nil}
use Rattle.reach.specs.Runs.{State}
use Rattle.sig_base.specs.declared.values.Row.{Row}
use Rattle.gap_map.specs.Stretches.{known_at}
use Rattle.board.specs.History.{Event, Track, events_at, letters}
use Rattle.board.specs.Moves.{RowsIn}
use Rattle.board.specs.Places.{since}
use Rattle.board.proofs.Bridge.{late_end, none_at}
use Rattle.board.proofs.Cutting.{events_join, none_after, since_in, since_known}
use Rattle.signal_log.specs.Log.{IsBeforeWindow, Log, track_at, window_end}
use Rattle.lost_rows.specs.declared.asked.Asked.{Asked}
use Rattle.lost_rows.specs.Walks.{LostWalk, WalkedFrom, WalkedTo, nothing_asked}
use Rattle.lost_laws.specs.Tenths.{IsCompletedLosing, IsReachedLosing, Loses, LosesOver, letters_in}
use Rattle.lost_laws.specs.Walks.{CompletedOverPart, IsPart, NoneLostOutside, Part, ReachedOverPart, moves_before, moves_from}
use Rattle.lost_laws.proofs.Moves.{ranges_join, since_walk, upto_walk}
use Rattle.lost_laws.proofs.Ranges.{bare_walk, range_walk}

pub reached_over : ReachedOverPart
reached_over log p r i n j u part =
    let k = track_at log i in
    let given = events_at log.rows in
    let join = λ (s : State). ranges_join k log.known given r 0 p.from p.to j s u (omega arith) (late_end p.from p.to p.stretches part.follow) in
    let walk = λ (b : ℕ) (v : State). range_walk k log.known given r p.from p.to n b p.rows p.stretches v u part.follow part.rows_in part.known part.events in (
      (λ (s, early, w). let (a, b, sum, (v, front, back)) = (join s).0 w in (a, b, sum, (v, (s, early, front), (walk b v).0 back))),
      λ (a, b, sum, (v, (s, early, front), back)). (s, early, (join s).1 (a, b, sum, (v, front, (walk b v).1 back))),
    )

pub completed_over : CompletedOverPart
completed_over log p i n j s part =
    let k = track_at log i in
    let given = events_at log.rows in
    let join = λ (e : State). ranges_join k log.known given nothing_asked p.from p.to (window_end log) j s e (late_end p.from p.to p.stretches part.follow) part.within in
    let walk = λ (a : ℕ) (u : State). range_walk k log.known given nothing_asked p.from p.to n a p.rows p.stretches s u part.follow part.rows_in part.known part.events in (
      (λ (e, w). let (a, b, sum, (u, front, back)) = (join e).0 w in (b, a, omega arith, (u, (e, back), (walk a u).0 front))),
      λ (b, a, sum, (u, (e, back), front)). (e, (join e).1 (a, b, omega arith, (u, (walk a u).1 front, back))),
    )

no_tenths : (k : Track) (known : ℕ → Bool) (given : ℕ → List Event) (r : Asked) (f j : ℕ) (s u : State) → Loses k known given r f f j s u ↔ ((j ≡ 0) × (u ≡ s))
no_tenths k known given r f j s u = (
  λ (n, e, w). let none : n ≡ 0 = omega arith in subst (λ (z : ℕ). LosesOver k known given r f z j s u) none w,
  λ both. (0, omega arith, both),
)

pub none_outside : NoneLostOutside
none_outside log r i j s =
    let k = track_at log i in
    let given = events_at log.rows in (
      (
        (λ (z, early, w). let (none, same) = (no_tenths k log.known given r 0 j z s).0 w in (none, subst (λ (y : State). IsBeforeWindow k.rules y) (sym same) early)),
        λ (none, early). (s, early, (no_tenths k log.known given r 0 j s s).1 (none, refl)),
      ),
      (
        (λ (z, w). ((no_tenths k log.known given nothing_asked (window_end log) j s z).0 w).0),
        λ none. (s, (no_tenths k log.known given nothing_asked (window_end log) j s s).1 (none, refl)),
      ),
    )

-- a place in known tenth x of the part, between its first n rows and the others
pub record IsCutAt (log : Log) (p : Part) (x n : ℕ) : Type 0 where
  pub first : p.from ≤ x
  pub last : x < p.to
  pub is_known : log.known x ≡ true
  pub before : RowsIn p.from (x + 1) (take n p.rows)
  pub after : RowsIn x p.to (drop n p.rows)

-- what is given of each tenth, cut there
pub events_parts : (log : Log) (p : Part) (n y : ℕ) → IsPart log p → p.from ≤ y → y < p.to → events_at log.rows y ≡ events_at (take n p.rows) y ++ events_at (drop n p.rows) y
events_parts log p n y part l1 l2 = part.events y l1 l2 ∙ (ap (λ (rs : List Row). events_at rs y) (sym (take-append-drop n p.rows)) ∙ events_join (take n p.rows) (drop n p.rows) y)

module _ (log : Log) (p : Part) (i x n : ℕ) (part : IsPart log p) (cut : IsCutAt log p x n) where
  abbrev k : Track
  k = track_at log i

  abbrev given : ℕ → List Event
  given = events_at log.rows

  -- the channel comes to the place
  pub reached_place : (r : Asked) (j : ℕ) (v : State) → ((a b : ℕ) × (a + b ≡ j) × ((z : State) × IsReachedLosing log r i x a z × LostWalk k.rules r x (letters_in x (letters k (events_at (take n p.rows) x))) (x + 1) b z v)) ↔ WalkedFrom k.rules r (λ c s. IsReachedLosing log r i p.from c s) p.from (moves_before k p x n) (x + 1) j v
  reached_place r j v =
      let late = cut.first in
      let lt = cut.last in
      let earlier : (y : ℕ) → p.from ≤ y → y < x → given y ≡ events_at (take n p.rows) y = λ y l1 l2. events_parts log p n y part l1 (omega arith) ∙ (ap (λ es. events_at (take n p.rows) y ++ es) (none_at (drop n p.rows) x p.to y cut.after l2) ∙ append-nil (events_at (take n p.rows) y)) in
      let join = λ (a : ℕ) (s z : State). ranges_join k log.known given r 0 p.from x a s z (omega arith) late in
      let walk = λ (b : ℕ) (y : State). upto_walk k log.known given r p.from p.to x b (take n p.rows) p.stretches y v part.follow late lt cut.before cut.is_known (λ q l1 l2. part.known q l1 (omega arith)) earlier in (
        (λ (a, b, sum, (z, (s, early, w), to)).
            let (c, d, sum2, (y, front, back)) = (join a s z).0 w in
            (c, d + b, omega arith, (y, (s, early, front), (walk (d + b) y).0 (d, b, refl, (z, back, to))))),
        λ (c, m, sum, (y, (s, early, front), w)).
            let (d, b, sum2, (z, back, to)) = (walk m y).1 w in
            (c + d, b, omega arith, (z, (s, early, (join (c + d) s z).1 (c, d, refl, (y, front, back))), to)),
      )

  -- it goes on from there to the part's end
  pub since_place : (j : ℕ) (v u : State) → LostWalk k.rules nothing_asked (x + 1) (moves_from k p x n) p.to j v u ↔ ((a b : ℕ) × (a + b ≡ j) × ((z : State) × LostWalk k.rules nothing_asked (x + 1) (letters_in x (letters k (events_at (drop n p.rows) x))) (x + 1) a v z × Loses k log.known given nothing_asked (x + 1) p.to b z u))
  since_place j v u =
      let late = cut.first in
      let lt = cut.last in
      let later : (y : ℕ) → x + 1 ≤ y → y < p.to → given y ≡ events_at (drop n p.rows) y = λ y l1 l2. events_parts log p n y part (omega arith) l2 ∙ ap (λ es. es ++ events_at (drop n p.rows) y) (none_after (take n p.rows) p.from (x + 1) y cut.before l1) in
      let known_is : (y : ℕ) → x ≤ y → y < p.to → log.known y ≡ known_at (since x p.stretches) y = λ y l1 l2. part.known y (omega arith) l2 ∙ since_known p.from p.to x y p.stretches part.follow late lt l1 l2 in
      let walk = since_walk k log.known given nothing_asked x p.to n j (drop n p.rows) (since x p.stretches) v u (since_in p.from p.to x p.stretches part.follow late lt) cut.after lt (sym (known_is x (omega arith) lt) ∙ cut.is_known) (λ y l1 l2. known_is y (omega arith) l2) later in
      let bared = bare_walk k.rules nothing_asked (x + 1) (moves_from k p x n) p.to j v u in
      ((λ w. walk.0 (bared.0 w)), λ w. bared.1 (walk.1 w))

  -- and to the window's end
  pub completed_place : (j : ℕ) (v : State) → ((a b : ℕ) × (a + b ≡ j) × ((z : State) × LostWalk k.rules nothing_asked (x + 1) (letters_in x (letters k (events_at (drop n p.rows) x))) (x + 1) a v z × IsCompletedLosing log i (x + 1) b z)) ↔ WalkedTo k.rules (λ c u. IsCompletedLosing log i p.to c u) (x + 1) (moves_from k p x n) p.to j v
  completed_place j v =
      let lt = cut.last in
      let join = λ (b : ℕ) (z e : State). ranges_join k log.known given nothing_asked (x + 1) p.to (window_end log) b z e (omega arith) part.within in (
        (λ (a, b, sum, (z, from, (e, w))).
            let (c, d, sum2, (u, front, back)) = (join b z e).0 w in
            (d, a + c, omega arith, (u, (e, back), (since_place (a + c) v u).1 (a, c, refl, (z, from, front))))),
        λ (d, m, sum, (u, (e, back), w)).
            let (a, c, sum2, (z, from, front)) = (since_place m v u).0 w in
            (a, c + d, omega arith, (z, from, (e, (join (c + d) z e).1 (c, d, refl, (u, front, back))))),
      )
