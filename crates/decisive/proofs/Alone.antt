-- One channel where only some tenths are known.
use Rattle.std.proofs.Common.{◌≡◌, refl, sym, ℕ, ◌+◌, ◌<◌, ◌≤◌, pos, Bool, true, List, [], ◌∷◌, length, arith}
use Rattle.std.proofs.lemmas.Int.{ints}
use Rattle.std.proofs.lemmas.Bool.{and_parts}
use Rattle.reach.specs.Runs.{Fills, State}
use Rattle.reach.proofs.States.{fills_none}
use Rattle.reach.proofs.Arriving.{fills_later}
use Rattle.board.specs.History.{Agree, Agreeing, Event, Track, events_at, letters}
use Rattle.board.proofs.Bridge.{agreeing_join}
use Rattle.signal_log.specs.Log.{track_at, window_end}
use Rattle.signal_log.proofs.Stored.{events_filter}
use Rattle.signal_log.proofs.Runs.{agreeing_known, from_place, from_same, since_place, to_place, upto_place, upto_same}
use Rattle.signal_log.proofs.Joined.{after_events, events_after}
use Rattle.decisive.specs.Window.{is_from_to, only}
use Rattle.decisive.specs.Laws.{ChannelAlone, IsFree, LeadsOn, LeadsTo}
use Rattle.decisive.proofs.Less.{history_less}
use Rattle.decisive.proofs.Lawful.{in_range, more_whole, to_range}

-- where nothing is known, a run is any filling
vacuous : (K : ℕ → Bool) (given : ℕ → List ℕ) (f t : ℕ) (xs : List (List ℕ)) → f + length xs ≡ t → ((y : ℕ) → f ≤ y → y < t → K y ≡ true → ⊥) → Agree K given f xs
vacuous K given f t [] e h = tt
vacuous K given f t (x ∷ xs) e h = ((λ is. absurd (h f (omega arith) (omega arith) is)), vacuous K given (f + 1) t xs (omega arith) (λ y l1 l2. h y (omega arith) l2))

pub fills_agree : (k : Track) (K : ℕ → Bool) (given : ℕ → List Event) (f t : ℕ) (s u : State) → ((y : ℕ) → f ≤ y → y < t → K y ≡ true → ⊥) → Fills k.rules (pos f) (pos t) s u → Agreeing k K given f t s u
fills_agree k K given f t s u h (lists, e, r) = (lists, omega (arith, ints), (vacuous K (λ y. letters k (given y)) f t lists (omega (arith, ints)) h, r))

pub agree_fills : (k : Track) (K : ℕ → Bool) (given : ℕ → List Event) (f t : ℕ) (s u : State) → Agreeing k K given f t s u → Fills k.rules (pos f) (pos t) s u
agree_fills k K given f t s u (lists, e, (a, r)) = (lists, omega (arith, ints), r)

pub alone : ChannelAlone
alone log i u v x j w are has small low high last is =
    let less = only u v log in
    let k = track_at log i in
    let K = less.known in
    let G = events_at log.rows in
    let R = events_at less.rows in
    let T = window_end log in
    let here : K x ≡ true = rw (is, to_range u v x low high) refl in
    let yes : (y : ℕ) → u ≤ y → y ≤ v → log.known y ≡ true → K y ≡ true = λ y a b e. rw (e, to_range u v y a b) refl in
    let down : (y : ℕ) → K y ≡ true → log.known y ≡ true = λ y e. (and_parts (log.known y) (is_from_to u v y) e).0 in
    let inside : (y : ℕ) → K y ≡ true → is_from_to u v y ≡ true = λ y e. (and_parts (log.known y) (is_from_to u v y) e).1 in
    let same : (y : ℕ) → u ≤ y → y ≤ v → R y ≡ G y = λ y a b. events_filter (is_from_to u v) log.rows y (to_range u v y a b) in
    let all = more_whole log u v in
    let has2 = history_less log less.known less.rows are all.known all.rows has in
    let early : (y : ℕ) → 0 ≤ y → y < u → K y ≡ true → ⊥ = λ y a b e. let c = (in_range u v y (inside y e)).0 in omega arith in
    let late : (y : ℕ) → v + 1 ≤ y → y < T → K y ≡ true → ⊥ = λ y a b e. let c = (in_range u v y (inside y e)).1 in omega arith in (
      (λ m.
          let ((s, bw, g), (z, g2)) = after_events less i x j w small (omega arith) here m in
          let (a, p, q) = (agreeing_join k K (upto_place R x j) 0 u (x + 1) s w (omega arith) (omega arith)).0 g in
          let q2 = agreeing_known k K log.known (upto_place R x j) (upto_place G x j) u (x + 1) a w (λ y l1 l2 e. (yes y l1 (omega arith) e, upto_same R G x j y (same y l1 (omega arith)))) q in
          let (b, o, r) = (agreeing_join k K (from_place R x j) x (v + 1) T w z (omega arith) (omega arith)).0 g2 in
          let o2 = agreeing_known k K log.known (from_place R x j) (from_place G x j) x (v + 1) w b (λ y l1 l2 e. (yes y (omega arith) (omega arith) e, from_same R G x j y (same y (omega arith) (omega arith)))) o in
          let first : IsFree log i u a = (s, bw, agree_fills k K (upto_place R x j) 0 u s a p) in
          let to : LeadsTo log i u x j a w = (to_place k log.known G u x j a w low is).0 q2 in
          let (c, e, rest) = (since_place k log.known G x (v + 1) j w b (omega arith) is).0 o2 in
          let on : LeadsOn log i x j v w = (b, c, e, rest) in
          ((a, first, to), on)),
      λ ((a, (s, bw, f), to), (b, c, e, rest)).
          let q2 = (to_place k log.known G u x j a w low is).1 to in
          let q = agreeing_known k log.known K (upto_place G x j) (upto_place R x j) u (x + 1) a w (λ y l1 l2 e. (down y e, upto_same G R x j y (sym (same y l1 (omega arith))))) q2 in
          let g = (agreeing_join k K (upto_place R x j) 0 u (x + 1) s w (omega arith) (omega arith)).1 (a, fills_agree k K (upto_place R x j) 0 u s a early f, q) in
          let o2 = (since_place k log.known G x (v + 1) j w b (omega arith) is).1 (c, e, rest) in
          let o = agreeing_known k log.known K (from_place G x j) (from_place R x j) x (v + 1) w b (λ y l1 l2 e. (down y e, from_same G R x j y (sym (same y (omega arith) (omega arith))))) o2 in
          let stay : Fills k.rules (pos (v + 1)) (pos T) b b = fills_later k.rules (pos (v + 1)) (pos (v + 1)) (pos T) b b (omega (arith, ints)) ((fills_none k.rules (pos (v + 1)) b b).1 refl) in
          let g2 = (agreeing_join k K (from_place R x j) x (v + 1) T w b (omega arith) (omega arith)).1 (b, o, fills_agree k K (from_place R x j) (v + 1) T b b late stay) in
          events_after less i x j w are has2 small (omega arith) here (s, bw, g) (b, g2),
    )
