-- One history of the window is on at the fewest tenths, and one at the most.
use Rattle.std.proofs.Common.{suc, zero, ◌≡◌, refl, ap, sym, ◌∙◌, subst, inl, inr, ℕ, ◌+◌, ◌<◌, ◌≤◌, ◌-◌, ℤ, pos, ◌+ℤ◌, negsuc, List, [], ◌∷◌, length, map, take, get_or, arith}
use Rattle.std.proofs.lemmas.Int.{ints}
use Rattle.std.proofs.lemmas.Bool.{cases_eq}
use Rattle.std.proofs.lemmas.List.{length-map, length-take-le, take-map}
use Rattle.colour_machine.specs.Rules.{IsMachine, Rules}
use Rattle.channel_tables.proofs.Machines.{spec_machine}
use Rattle.reach.specs.Runs.{State, state, Run}
use Rattle.board.specs.Channels.{AreSpecs}
use Rattle.board.specs.Logs.{no_spec}
use Rattle.board.specs.History.{Agree, Event, History, Track, events_at, letters, start_of}
use Rattle.board.proofs.Joining.{Small}
use Rattle.board.proofs.Product.{agree_letters}
use Rattle.board.proofs.Tracks.{spec_lettered}
use Rattle.board.proofs.Plain.{agreeing_early}
use Rattle.signal_log.specs.Log.{AgreesWith, HasHistory, Log, track_at, window_end}
use Rattle.signal_log.specs.States.{IsAtEndOf, IsCompleted, IsReached}
use Rattle.signal_log.proofs.Joined.{IsCourse, end_of_one, history_runs, history_with, one_end, whole_course}
use Rattle.signal_log.proofs.Runs.{agreeing_colour}
use Rattle.detector_state.specs.Free.{IsFree, IsOrdered, Order}
use Rattle.detector_state.specs.Tells.{Extremes, IsGreatest, IsLeast, LooksBack}
use Rattle.detector_state.proofs.Free.{run_is}
use Rattle.detector_state.proofs.Filling.{agree_take, fill, fill-agrees, fill-length, fill-take, fill_above, fill_below, fill_small}

-- a run goes through a state after each tenth
run_upto : (m : Rules) (n : ℕ) (t : ℤ) (lists : List (List ℕ)) (s u : State) → Run m t s lists u → (v : State) × Run m t s (take n lists) v
run_upto m zero t lists s u r = (s, refl)
run_upto m (suc n) t [] s u r = (s, refl)
run_upto m (suc n) t (ls ∷ rest) s u (v, st, more) = let (w, part) = run_upto m n (t +ℤ pos 1) rest v u more in (w, (v, st, part))

module _ (log : Log) (i : ℕ) (are : AreSpecs log.specs) (lt : i < length log.specs) where
  abbrev k : Track
  k = track_at log i

  abbrev given : ℕ → List Event
  given = events_at log.rows

  -- a start and the letter d at unknown tenths make a course
  fill_course : (free : IsFree k.rules) (d : List ℕ) (c : ℕ) → Small k.rules.letters d → c < k.rules.colours → IsCourse log i (state c (negsuc 0)) (fill k log.known given d (window_end log) 0)
  unfolding IsCourse
  fill_course free d c small few = (
    (few, omega (arith, ints)),
    fill-length k log.known given d (window_end log) 0,
    fill-agrees k log.known given d (window_end log) 0,
    run_is k.rules free (pos 0) (fill k log.known given d (window_end log) 0) (state c (negsuc 0)) few (omega (arith, ints)) (fill_small k log.known given (spec_lettered (get_or log.specs i no_spec)) d (window_end log) 0 small),
  )

  -- the history has the course of channel i
  abbrev HasFill : List ℕ → ℕ → History → Type 0
  HasFill d c h = (start_of h i ≡ state c (negsuc 0)) × (map (letters k) h.events ≡ fill k log.known given d (window_end log) 0)

  fill_history : HasHistory log → (free : IsFree k.rules) (d : List ℕ) (c : ℕ) → Small k.rules.letters d → c < k.rules.colours → (h : History) × AgreesWith log h × HasFill d c h
  fill_history has free d c small few =
      let all = (history_runs log are).0 has in
      let (h, a, q) = history_with log are (λ n s lists. n ≡ i → (s ≡ state c (negsuc 0)) × (lists ≡ fill k log.known given d (window_end log) 0)) (λ n l. elim (cases_eq n i) [
        | inl e ↦ (state c (negsuc 0), fill k log.known given d (window_end log) 0, subst (λ (z : ℕ). IsCourse log z (state c (negsuc 0)) (fill k log.known given d (window_end log) 0)) (sym e) (fill_course free d c small few), (λ _. (refl, refl)))
        | inr ne ↦ let (u, w) = all n l in let (s, lists, one) = whole_course log n u w in (s, lists, one, (λ e. absurd (ne e)))
      ]) in
      (h, a, q i lt refl)

  -- what a history does up to the end of a tenth
  abbrev Upto : ℕ → State → List (List ℕ) → State → Type 0
  Upto x s lists v = (length lists ≡ x + 1) × Agree log.known (λ y. letters k (given y)) 0 lists × Run k.rules (pos 0) s lists v

  upto_end : (h : History) (x : ℕ) (v : State) → AgreesWith log h → x < window_end log → IsAtEndOf log h i x v → Upto x (start_of h i) (map (letters k) (take (x + 1) h.events)) v
  upto_end h x v a small r =
      let cover = a.covers in
      let l1 : length (map (letters k) (take (x + 1) h.events)) ≡ length (take (x + 1) h.events) = length-map (take (x + 1) h.events) (letters k) in
      let l2 : length (take (x + 1) h.events) ≡ x + 1 = length-take-le (x + 1) h.events (omega arith) in
      let e : take (x + 1) (map (letters k) h.events) ≡ map (letters k) (take (x + 1) h.events) = take-map (letters k) (x + 1) h.events in
      (l1 ∙ l2, subst (λ (ls : List (List ℕ)). Agree log.known (λ y. letters k (given y)) 0 ls) e (agree_take log.known (λ y. letters k (given y)) (x + 1) 0 (map (letters k) h.events) (agree_letters k log.known given 0 h.events a.agrees.agree)), r)

  fill_end : (d : List ℕ) (c x : ℕ) (h : History) (v : State) → AgreesWith log h → HasFill d c h → x < window_end log → IsAtEndOf log h i x v → Run k.rules (pos 0) (state c (negsuc 0)) (fill k log.known given d (x + 1) 0) v
  fill_end d c x h v a (es, el) small r =
      let e : map (letters k) (take (x + 1) h.events) ≡ fill k log.known given d (x + 1) 0 = sym (take-map (letters k) (x + 1) h.events) ∙ (ap (λ (ls : List (List ℕ)). take (x + 1) ls) el ∙ fill-take k log.known given d (window_end log) (x + 1) 0 (omega arith)) in
      subst (λ (s : State). Run k.rules (pos 0) s (fill k log.known given d (x + 1) 0) v) es (subst (λ (ls : List (List ℕ)). Run k.rules (pos 0) (start_of h i) ls v) e r)

  -- each history has a state at the end of each tenth
  pub some_end : (h : History) (x : ℕ) → AgreesWith log h → x < window_end log → (v : State) × IsAtEndOf log h i x v
  some_end h x a small =
      let (u, r) = a.agrees.legal i lt in
      let (v, q) = run_upto k.rules (x + 1) (pos 0) (map (letters k) h.events) (start_of h i) u r in
      (v, subst (λ (ls : List (List ℕ)). Run k.rules (pos 0) (start_of h i) ls v) (take-map (letters k) (x + 1) h.events) q)

  least : HasHistory log → (o : Order) → IsOrdered k.rules o → (h : History) × IsLeast log i o.on h
  least has o is =
      let (h, a, f) = fill_history has is.free (o.fall ∷ []) o.least ((is.falls o.least is.least_colour).1, tt) is.least_colour in (
        h,
        record {
          agrees = a;
          only = λ x small (v, r, on) h2 a2.
              let (w, r2) = some_end h2 x a2 small in
              let (len, ag, run) = upto_end h2 x w a2 small r2 in
              let begin = (a2.starts i lt).0 in
              let own = subst (λ (n : ℕ). Run k.rules (pos 0) (state o.least (negsuc 0)) (fill k log.known given (o.fall ∷ []) n 0) v) (sym len) (fill_end (o.fall ∷ []) o.least x h v a f small r) in
              let (few, le) = fill_below k o is log.known given (map (letters k) (take (x + 1) h2.events)) 0 (start_of h2 i) (state o.least (negsuc 0)) w v begin is.least_colour (is.lowest (start_of h2 i).colour begin) ag run own in
              (w, r2, is.alone w.colour few (subst (λ (c : ℕ). o.rank c ≤ o.rank w.colour) on le));
        },
      )

  greatest : HasHistory log → (o : Order) → IsOrdered k.rules o → (h : History) × IsGreatest log i o.on h
  greatest has o is =
      let (h, a, f) = fill_history has is.free (o.rise ∷ []) o.on ((is.rises o.on is.on_colour).1, tt) is.on_colour in (
        h,
        record {
          agrees = a;
          wherever = λ x small (h2, a2, (w, r2, on)).
              let (v, r) = some_end h x a small in
              let (len, ag, run) = upto_end h2 x w a2 small r2 in
              let begin = (a2.starts i lt).0 in
              let own = subst (λ (n : ℕ). Run k.rules (pos 0) (state o.on (negsuc 0)) (fill k log.known given (o.rise ∷ []) n 0) v) (sym len) (fill_end (o.rise ∷ []) o.on x h v a f small r) in
              let (few, le) = fill_above k o is log.known given (map (letters k) (take (x + 1) h2.events)) 0 (start_of h2 i) (state o.on (negsuc 0)) w v begin is.on_colour (is.greatest (start_of h2 i).colour begin) ag run own in
              (v, r, is.alone v.colour few (subst (λ (c : ℕ). o.rank c ≤ o.rank v.colour) on le));
        },
      )

pub extremes : Extremes
extremes log i o are has lt is = (least log i are lt has o is, greatest log i are lt has o is)

-- from a state that a free channel has, the rest of the window can be met
completed : (log : Log) (i x : ℕ) (v : State) → AreSpecs log.specs → i < length log.specs → x < window_end log → IsFree (track_at log i).rules → IsReached log i (x + 1) v → IsCompleted log i (x + 1) v
completed log i x v are lt small free (s, bw, g) =
    let k = track_at log i in
    let given = events_at log.rows in
    let n = window_end log - (x + 1) in
    let laws : IsMachine k.rules = spec_machine (get_or log.specs i no_spec) (are.fit i no_spec lt) in
    let few = (agreeing_colour k log.known given 0 (x + 1) s v laws g).0 bw.0 in
    let early = agreeing_early k log.known given 0 (x + 1) s v g bw.1 in
    let lists = fill k log.known given [] n (x + 1) in
    let len : length lists ≡ n = fill-length k log.known given [] n (x + 1) in
    let (u, run) = run_is k.rules free (pos (x + 1)) lists v few (omega (arith, ints)) (fill_small k log.known given (spec_lettered (get_or log.specs i no_spec)) [] n (x + 1) tt) in
    let whole : (x + 1) + length lists ≡ window_end log = omega arith in
    (u, (lists, whole, (fill-agrees k log.known given [] n (x + 1), run)))

pub look_back : LooksBack
look_back log i x v are has lt small free = (
  (λ may. (one_end log i x v lt small may).0),
  λ r. end_of_one log i x v are has lt small r (completed log i x v are lt small free r),
)
