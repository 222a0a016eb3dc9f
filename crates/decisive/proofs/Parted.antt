-- An obligation channel by channel, and each channel by its moves.
use Rattle.std.proofs.Common.{◌≡◌, refl, ap, sym, ◌∙◌, subst, inl, inr, ◌↔◌, ℕ, suc, zero, ◌+◌, ◌<◌, ◌≤◌, ℤ, pos, ◌≤ℤ◌, ◌-ℤ◌, true, List, [], ◌∷◌, length, take, drop, map, get_or, take_at, drop_at, arith}
use Rattle.std.proofs.lemmas.Int.{ints}
use Rattle.std.proofs.lemmas.Bool.{cases_eq}
use Rattle.std.proofs.lemmas.List.{take-append-drop}
use Rattle.colour_machine.specs.Rules.{IsMachine, Rules}
use Rattle.colour_machine.specs.Mask.{Has}
use Rattle.span_set.specs.declared.set.Span.{Span}
use Rattle.sig_base.specs.declared.values.Row.{Row}
use Rattle.sig_base.specs.declared.values.Verdict.TheVariants.{Broken}
use Rattle.channel_tables.proofs.Machines.{spec_machine}
use Rattle.reach.specs.Runs.{State, Steps}
use Rattle.reach.specs.Past.{Holds}
use Rattle.reach.proofs.States.{fills_none}
use Rattle.gap_map.specs.declared.stretch.Stretch.{Stretch}
use Rattle.gap_map.specs.Stretches.{known_at}
use Rattle.channel_path.specs.Walks.{Walk}
use Rattle.ring_config.specs.declared.items.IntervalItem.{IntervalItem}
use Rattle.board.specs.declared.clause.Term.{Term}
use Rattle.board.specs.Channels.{AreSpecs}
use Rattle.board.specs.History.{Agreeing, Event, Track, events_at, letters}
use Rattle.board.specs.Hours.{Clamped}
use Rattle.board.specs.Logs.{first_tenth, no_spec}
use Rattle.board.specs.Moves.{own}
use Rattle.board.specs.Places.{IsPlace, since, upto}
use Rattle.board.specs.Verdicts.{AreWithin, IsVerdict, Keeps}
use Rattle.board.proofs.Alike.{agreeing_alike}
use Rattle.board.proofs.Bridge.{agreeing_join}
use Rattle.board.proofs.Cutting.{events_join, from_walk, to_walk}
use Rattle.signal_log.specs.Log.{HasHistory, IsBeforeWindow, Log, track_at, window_end}
use Rattle.signal_log.specs.Points.{ArePastsAt}
use Rattle.signal_log.specs.States.{AreAlike, IsReached, MayBeAfter, MayBeAtEnd, MayBeAtEndOf}
use Rattle.signal_log.proofs.Hour.{held_reached, reached_held}
use Rattle.signal_log.proofs.Joined.{after_events, end_of_one, events_after, one_end}
use Rattle.signal_log.proofs.Lawful.{meet_same}
use Rattle.signal_log.proofs.Runs.{agreeing_known, alike_later, from_place, from_same, since_place, to_place, upto_here, upto_other, upto_place, upto_same}
use Rattle.rule_audit.specs.Judged.{Closes, IsIntervalVerdict, KeepsInterval, Leaves}
use Rattle.decisive.specs.declared.channel_keep.Keep.{Keep}
use Rattle.decisive.specs.declared.channel_keep.Keep.TheVariants as keeps
use Rattle.decisive.specs.Moves.{KeepsBy, NoneKeeps, NoneKeepsFrom}
use Rattle.decisive.specs.Window.{only}
use Rattle.decisive.specs.Laws.{NoTermHolds, TellsOf}
use Rattle.decisive.specs.Parts.{AllNone, IsKeepWithin, NoneIs, term_part}
use Rattle.decisive.proofs.Less.{some_after}
use Rattle.decisive.proofs.Alone.{alone}
use Rattle.decisive.proofs.Clauses.{by_terms}
use Rattle.decisive.proofs.FreeStarts.{free_late}

-- ---- a tenth's end is after all its events

take_whole : {A : Type 0} → (j : ℕ) (xs : List A) → length xs ≤ j → take j xs ≡ xs
take_whole zero [] le = refl
take_whole zero (x ∷ xs) le = absurd (omega arith)
take_whole (suc j) [] le = refl
take_whole (suc j) (x ∷ xs) le = ap (λ ys. x ∷ ys) (take_whole j xs (omega arith))

drop_whole : {A : Type 0} → (j : ℕ) (xs : List A) → length xs ≤ j → drop j xs ≡ []
drop_whole zero [] le = refl
drop_whole zero (x ∷ xs) le = absurd (omega arith)
drop_whole (suc j) [] le = refl
drop_whole (suc j) (x ∷ xs) le = drop_whole j xs (omega arith)

pub end_after : (log : Log) (i x j : ℕ) (w : State) → AreSpecs log.specs → HasHistory log → i < length log.specs → x < window_end log → log.known x ≡ true → length (events_at log.rows x) ≤ j → MayBeAtEndOf log i x w ↔ MayBeAfter log i x j w
end_after log i x j w are has small lt is le =
    let k = track_at log i in
    let G = events_at log.rows in
    let same : (y : ℕ) → upto_place G x j y ≡ G y = λ y. elim (cases_eq y x) [
      | inl e ↦ subst (λ (z : ℕ). upto_place G x j z ≡ G z) (sym e) (upto_here G x j ∙ take_whole j (G x) le)
      | inr ne ↦ upto_other G x j y ne
    ] in
    let none : letters k (drop j (G x)) ≡ [] = ap (λ es. letters k es) (drop_whole j (G x) le) in
    let on = λ (u : State). since_place k log.known G x (window_end log) j w u lt is in (
      (λ m.
          let ((s, bw, g), (u, q)) = one_end log i x w small lt m in
          events_after log i x j w are has small lt is (
            s,
            bw,
            agreeing_known k log.known log.known G (upto_place G x j) 0 (x + 1) s w (λ y l1 l2 e. (e, sym (same y))) g,
          ) (u, (on u).1 (w, subst (λ (ls : List ℕ). Steps k.rules (pos x) w ls w) (sym none) refl, q))),
      λ m.
          let ((s, bw, g), (u, q)) = after_events log i x j w small lt is m in
          let (b, ev, r) = (on u).0 q in
          let e : b ≡ w = subst (λ (ls : List ℕ). Steps k.rules (pos x) w ls b) none ev in
          end_of_one log i x w are has small lt (
            s,
            bw,
            agreeing_known k log.known log.known (upto_place G x j) G 0 (x + 1) s w (λ y l1 l2 e2. (e2, same y)) g,
          ) (u, subst (λ (z : State). Agreeing k log.known G (x + 1) (window_end log) z u) e r),
    )

-- ---- obligations by their channels

pub interval_parts : (log : Log) (r : Row) (i x j : ℕ) (item : IntervalItem) → AreSpecs log.specs → HasHistory log → i ≡ item.spec → i < length log.specs → x < window_end log → log.known x ≡ true → r.at ≡ x → Leaves (get_or log.specs i no_spec) r item.colour → IsIntervalVerdict Broken (MayBeAfter log i x j) (Closes (get_or log.specs i no_spec) r item) (KeepsInterval (get_or log.specs i no_spec) r item) ↔ NoneIs log x j (record { spec = i; keep = keeps.Interval item.colour item.bound })
interval_parts log r i x j item are has e small lt is at leaves = (
  (λ (some, none) w m keeps. none w m (λ closes. rw at (keeps closes.0))),
  λ none.
      let nobody : (w : State) → MayBeAfter log i x j w → KeepsInterval (get_or log.specs i no_spec) r item w → ⊥ = λ w m keeps. none w m (λ same. rw at at (keeps (same, leaves))) in
      let (w, m) = some_after log i x j are has small lt is in (
        (w, m, elim (cases_eq w.colour item.colour) [ inl same ↦ (same, leaves) | inr ne ↦ absurd (nobody w m (λ closes. absurd (ne closes.0))) ]),
        nobody,
      ),
)

module _ (log : Log) (x j : ℕ) (are : AreSpecs log.specs) (has : HasHistory log) (lt : x < window_end log) (is : log.known x ≡ true) (le : length (events_at log.rows x) ≤ j) where
  terms_all : (terms : List Term) → AreWithin (length log.specs) terms → NoTermHolds log x terms → AllNone log x j (map term_part terms)
  terms_all [] within h k l = absurd (omega arith)
  terms_all (t ∷ ts) (small, within) (one, rest) zero l = λ w m keeps. one w ((end_after log t.spec x j w are has small lt is le).1 m) keeps
  terms_all (t ∷ ts) (small, within) (one, rest) (suc k) l = terms_all ts within rest k (omega arith)

  all_terms : (terms : List Term) → AreWithin (length log.specs) terms → AllNone log x j (map term_part terms) → NoTermHolds log x terms
  all_terms [] within h = tt
  all_terms (t ∷ ts) (small, within) h = (
    (λ w m keeps. h 0 (omega arith) w ((end_after log t.spec x j w are has small lt is le).0 m) keeps),
    all_terms ts within (λ k l. h (suc k) (omega arith)),
  )

  pub clause_parts : (terms : List Term) → AreWithin (length log.specs) terms → IsVerdict Broken (MayBeAtEnd log x) (Keeps terms) ↔ AllNone log x j (map term_part terms)
  clause_parts terms within = let both = by_terms log x terms are has within lt in ((λ v. terms_all terms within (both.0 v)), λ h. both.1 (all_terms terms within h))

-- ---- channels by their moves

keeps_alike : (m : Rules) (p at : ℤ) (v w : State) (keep : Keep) → AreAlike m p v w → p ≤ℤ at → IsKeepWithin keep → KeepsBy keep at v ↔ KeepsBy keep at w
keeps_alike m p at v w (keeps.Interval colour bound) al le within = let (same, ages) = meet_same m p at v w bound al le within in ((λ h e. ages.0 (h (same ∙ e))), λ h e. ages.1 (h (sym same ∙ e)))
keeps_alike m p at v w (keeps.Colours colours) (few, same, k) le within = (subst (λ (c : ℕ). Has colours c) (sym same), subst (λ (c : ℕ). Has colours c) same)

-- the events of a tenth before a place, and the others
events_to : (rows : List Row) (n x : ℕ) → take (length (events_at (take n rows) x)) (events_at rows x) ≡ events_at (take n rows) x
events_to rows n x =
    let j = length (events_at (take n rows) x) in
    ap (λ es. take j es) (ap (λ (rs : List Row). events_at rs x) (sym (take-append-drop n rows)) ∙ events_join (take n rows) (drop n rows) x) ∙ take_at (events_at (take n rows) x) (events_at (drop n rows) x) j refl

events_on : (rows : List Row) (n x : ℕ) → drop (length (events_at (take n rows) x)) (events_at rows x) ≡ events_at (drop n rows) x
events_on rows n x =
    let j = length (events_at (take n rows) x) in
    ap (λ es. drop j es) (ap (λ (rs : List Row). events_at rs x) (sym (take-append-drop n rows)) ∙ events_join (take n rows) (drop n rows) x) ∙ drop_at (events_at (take n rows) x) (events_at (drop n rows) x) j refl

module _ (log : Log) (rows : List Row) (ss : List Stretch) (f v x n i : ℕ) (tells : TellsOf log rows ss f (v + 1)) (place : IsPlace f (v + 1) rows ss x n) where
  abbrev k : Track
  k = track_at log i

  abbrev j : ℕ
  j = length (events_at (take n rows) x)

  abbrev G : ℕ → List Event
  G = events_at log.rows

  abbrev R : ℕ → List Event
  R = events_at rows

  low : f ≤ x
  low = place.first

  high : x < v + 1
  high = place.last

  here : known_at ss x ≡ true
  here = place.is_known

  pub there : log.known x ≡ true
  there = sym (tells.same_known x low high) ∙ here

  -- runs by the log are walks over the moves
  to_moves : (a w : State) → Agreeing k log.known (upto_place G x j) f (x + 1) a w ↔ Walk k.rules (own k 0 (take n rows) (upto x ss)) a w
  to_moves a w =
      let both = to_place k (known_at ss) R f x j a w low here in
      let walk = to_walk k rows ss f (v + 1) x n a w place in
      let swap = events_to rows n x in (
        (λ g.
            let g2 = agreeing_known k log.known (known_at ss) (upto_place G x j) (upto_place R x j) f (x + 1) a w (λ y l1 l2 e. let e2 = sym (tells.same_known y l1 (omega (arith, low, high))) ∙ e in (e2, upto_same G R x j y (sym (tells.same_rows y l1 (omega (arith, low, high)) e2)))) g in
            let (z, g3, ev) = both.0 g2 in
            walk.0 (z, g3, subst (λ (es : List Event). Steps k.rules (pos x) z (letters k es) w) swap ev)),
        λ q.
            let (z, g3, ev) = walk.1 q in
            let g2 = both.1 (z, g3, subst (λ (es : List Event). Steps k.rules (pos x) z (letters k es) w) (sym swap) ev) in
            agreeing_known k (known_at ss) log.known (upto_place R x j) (upto_place G x j) f (x + 1) a w (λ y l1 l2 e. (tells.same_known y l1 (omega (arith, low, high)) ∙ e, upto_same R G x j y (tells.same_rows y l1 (omega (arith, low, high)) e))) g2,
      )

  on_moves : (w b : State) → Agreeing k log.known (from_place G x j) x (v + 1) w b ↔ Walk k.rules (own k n (drop n rows) (since x ss)) w b
  on_moves w b =
      let both = since_place k (known_at ss) R x (v + 1) j w b high here in
      let walk = from_walk k rows ss f (v + 1) x n w b place in
      let swap = events_on rows n x in (
        (λ g.
            let g2 = agreeing_known k log.known (known_at ss) (from_place G x j) (from_place R x j) x (v + 1) w b (λ y l1 l2 e. let e2 = sym (tells.same_known y (omega (arith, low, high)) l2) ∙ e in (e2, from_same G R x j y (sym (tells.same_rows y (omega (arith, low, high)) l2 e2)))) g in
            let (z, ev, g3) = both.0 g2 in
            walk.0 (z, subst (λ (es : List Event). Steps k.rules (pos x) w (letters k es) z) swap ev, g3)),
        λ q.
            let (z, ev, g3) = walk.1 q in
            let g2 = both.1 (z, subst (λ (es : List Event). Steps k.rules (pos x) w (letters k es) z) (sym swap) ev, g3) in
            agreeing_known k (known_at ss) log.known (from_place R x j) (from_place G x j) x (v + 1) w b (λ y l1 l2 e. (tells.same_known y (omega (arith, low, high)) l2 ∙ e, from_same R G x j y (tells.same_rows y (omega (arith, low, high)) l2 e))) g2,
      )

  -- from any state with which the first tenth may begin
  pub none_free : (keep : Keep) → AreSpecs log.specs → HasHistory log → i < length log.specs → IsKeepWithin keep → v < window_end log → NoneIs (only f v log) x j (record { spec = i; keep = keep }) ↔ NoneKeepsFrom k.rules f (own k 0 (take n rows) (upto x ss)) (KeepsBy keep (pos x)) (own k n (drop n rows) (since x ss))
  none_free keep are has small within last =
      let laws : IsMachine k.rules = spec_machine (get_or log.specs i no_spec) (are.fit i no_spec small) in
      let one = λ (w : State). alone log i f v x j w are has small low (omega (arith, high)) last there in
      let to = λ (a w : State). to_place k log.known G f x j a w low there in
      let on = λ (w b : State). since_place k log.known G x (v + 1) j w b high there in (
        (λ none s w u free walk keeps rest.
            let (s0, b, fills) = free in
            let (c, g, ev) = (to s w).0 ((to_moves s w).1 walk) in
            let (d, ev2, g2) = (on w u).0 ((on_moves w u).1 rest) in
            none w ((one w).1 ((s, (s0, (b.0, b.2), fills), (c, g, ev)), (u, d, ev2, g2))) keeps),
        λ none w m keeps.
            let ((a, (s0, (few, early), fills), (c, g, ev)), (b, d, ev2, g2)) = (one w).0 m in
            let (a2, free, al) = free_late k f s0 a laws few early fills in
            let run = (to a w).1 (c, g, ev) in
            let (w2, run2, al2) = agreeing_alike k log.known (upto_place G x j) f (x + 1) a a2 w laws al run in
            let rest = (on w b).1 (d, ev2, g2) in
            let (b2, rest2, _) = agreeing_alike k log.known (from_place G x j) x (v + 1) w w2 b laws (alike_later k.rules (pos f) (pos x) w w2 (omega (arith, ints, low)) al2) rest in
            none a2 w2 b2 free ((to_moves a2 w2).0 run2) ((keeps_alike k.rules (pos f) (pos x) w w2 keep al2 (omega (arith, ints, low)) within).0 keeps) ((on_moves w2 b2).0 rest2),
      )

  -- from the states that are kept at a point
  pub none_kept : (pasts : List (List (List Span))) (point : ℕ) (keep : Keep) → AreSpecs log.specs → HasHistory log → i < length log.specs → IsKeepWithin keep → v < window_end log → ArePastsAt log point pasts → first_tenth point ≡ f → NoneIs (only 0 v log) x j (record { spec = i; keep = keep }) ↔ NoneKeeps k.rules (get_or pasts i []) (own k 0 (take n rows) (upto x ss)) (KeepsBy keep (pos x)) (own k n (drop n rows) (since x ss))
  none_kept pasts point keep are has small within last at first_is =
      let before = get_or pasts i [] in
      let laws : IsMachine k.rules = spec_machine (get_or log.specs i no_spec) (are.fit i no_spec small) in
      let one = λ (w : State). alone log i 0 v x j w are has small (omega arith) (omega (arith, high)) last there in
      let to = λ (a w : State). to_place k log.known G 0 x j a w (omega arith) there in
      let on = λ (w b : State). since_place k log.known G x (v + 1) j w b high there in
      let join = λ (a w : State). agreeing_join k log.known (upto_place G x j) 0 f (x + 1) a w (omega arith) (omega (arith, low)) in
      let first = λ (a z : State). agreeing_known k log.known log.known (upto_place G x j) G 0 f a z (λ y l1 l2 e. (e, upto_other G x j y (λ same. absurd (omega (arith, low))))) in
      let back = λ (a z : State). agreeing_known k log.known log.known G (upto_place G x j) 0 f a z (λ y l1 l2 e. (e, sym (upto_other G x j y (λ same. absurd (omega (arith, low)))))) in
      let states = subst (λ (t : ℕ). (u : State) → Holds before u ↔ Clamped (pos t -ℤ pos 36001) (IsReached log i t) u) first_is (at.states i small) in (
        (λ none w u (s, held, walk) keeps rest.
            let (z, (s0, bw, g0), al) = held_reached k laws log.known G f before states s held in
            let run = (to_moves s w).1 walk in
            let (w2, run2, al2) = agreeing_alike k log.known (upto_place G x j) f (x + 1) s z w laws al run in
            let rest1 = (on_moves w u).1 rest in
            let (b2, rest2, _) = agreeing_alike k log.known (from_place G x j) x (v + 1) w w2 u laws (alike_later k.rules (pos f) (pos x) w w2 (omega (arith, ints, low)) al2) rest1 in
            let (c, g, ev) = (to s0 w2).0 ((join s0 w2).1 (z, back s0 z g0, run2)) in
            let (d, ev2, g2) = (on w2 b2).0 rest2 in
            none w2 ((one w2).1 ((s0, (s0, bw, (fills_none k.rules (pos 0) s0 s0).1 refl), (c, g, ev)), (b2, d, ev2, g2))) ((keeps_alike k.rules (pos f) (pos x) w w2 keep al2 (omega (arith, ints, low)) within).0 keeps)),
        λ none w m keeps.
            let ((a, (s0, bw, fills), (c, g, ev)), (b, d, ev2, g2)) = (one w).0 m in
            let early : IsBeforeWindow k.rules a = subst (λ (q : State). IsBeforeWindow k.rules q) (sym ((fills_none k.rules (pos 0) s0 a).0 fills)) bw in
            let (z, g1, g3) = (join a w).0 ((to a w).1 (c, g, ev)) in
            let (s, held, al) = reached_held k laws log.known G f before states z (a, early, first a z g1) in
            let (w2, run2, al2) = agreeing_alike k log.known (upto_place G x j) f (x + 1) z s w laws al g3 in
            let rest = (on w b).1 (d, ev2, g2) in
            let (b2, rest2, _) = agreeing_alike k log.known (from_place G x j) x (v + 1) w w2 b laws (alike_later k.rules (pos f) (pos x) w w2 (omega (arith, ints, low)) al2) rest in
            none w2 b2 (s, held, (to_moves s w2).0 run2) ((keeps_alike k.rules (pos f) (pos x) w w2 keep al2 (omega (arith, ints, low)) within).0 keeps) ((on_moves w2 b2).0 rest2),
      )
