-- Runs of the channels over the window, and the histories that they make.
use Rattle.std.proofs.Common.{suc, zero, ◌≡◌, refl, ap, sym, ◌∙◌, subst, inl, inr, ◌↔◌, ℕ, ◌+◌, ◌-◌, ◌<◌, ◌≤◌, pos, Bool, true, List, [], ◌∷◌, ◌++◌, length, length-append, length-drop, map, take, drop, get_or, take-append-drop, arith}
use Rattle.std.proofs.lemmas.Int.{ints}
use Rattle.std.proofs.lemmas.Bool.{cases_eq}
use Rattle.std.proofs.lemmas.List.{length-map, length-take-le, take_at, take-map}
use Rattle.reach.specs.Runs.{State, state, Steps, Run}
use Rattle.board.specs.History.{Agree, Agreeing, Event, History, events_at, letters, start_of}
use Rattle.board.specs.Channels.{AreSpecs}
use Rattle.board.specs.Logs.{no_spec}
use Rattle.board.proofs.Bridge.{agree_join, run_join, agreeing_first}
use Rattle.board.proofs.Joining.{letters_join, lists_joined, run_small}
use Rattle.board.proofs.Product.{agree_letters, choose}
use Rattle.board.proofs.Tracks.{tracks_are}
use Rattle.signal_log.specs.Log.{AgreesWith, HasHistory, IsBeforeWindow, Log, track_at, window_end}
use Rattle.signal_log.specs.States.{IsCompleted, IsReached, MayBeAfter, MayBeAtEnd, MayBeAtEndOf}
use Rattle.signal_log.proofs.Runs.{from_place, run_once, since_place, steps_join, steps_once, to_place, upto_place}

abbrev no_state : State
no_state = state 0 (pos 0)

-- a start and lists of letters of one channel over the window, which agree
unfoldable pub IsCourse : Log → ℕ → State → List (List ℕ) → Type 0
IsCourse log i s lists = IsBeforeWindow (track_at log i).rules s × (length lists ≡ window_end log) × Agree log.known (λ x. letters (track_at log i) (events_at log.rows x)) 0 lists × ((u : State) × Run (track_at log i).rules (pos 0) s lists u)

-- those of a channel of a history
pub history_course : (log : Log) (h : History) (i : ℕ) → AgreesWith log h → i < length log.specs → IsCourse log i (start_of h i) (map (letters (track_at log i)) h.events)
unfolding IsCourse
history_course log h i a lt =
    let k = track_at log i in
    let size : length (map (letters k) h.events) ≡ length h.events = length-map h.events (letters k) in
    (a.starts i lt, size ∙ a.covers, agree_letters k log.known (events_at log.rows) 0 h.events a.agrees.agree, a.agrees.legal i lt)

record Part : Type 0 where
  pub start : State
  pub lists : List (List ℕ)

abbrev no_part : Part
no_part = record { start = no_state; lists = [] }

-- courses of all channels are those of one history
pub history_with : (log : Log) → AreSpecs log.specs → (Q : ℕ → State → List (List ℕ) → Type 0) → ((i : ℕ) → i < length log.specs → (s : State) × (lists : List (List ℕ)) × IsCourse log i s lists × Q i s lists) → (h : History) × AgreesWith log h × ((i : ℕ) → i < length log.specs → Q i (start_of h i) (map (letters (track_at log i)) h.events))
unfolding IsCourse
history_with log are Q all =
    let n = length log.specs in
    let tracks = track_at log in
    let T = window_end log in
    let P : ℕ → Part → Type 0 = λ i p. IsCourse log i p.start p.lists × Q i p.start p.lists in
    let (ws, _, each) = choose no_part n P (λ i lt. let (s, lists, c, q) = all i lt in (record { start = s; lists = lists }, (c, q))) in
    let part = λ (i : ℕ). get_or ws i no_part in
    let (starts, _, same) = choose no_state n (λ (i : ℕ) (s : State). s ≡ (part i).start) (λ i lt. ((part i).start, refl)) in
    let (events, len, agree, bounded, maps) = lists_joined n tracks (tracks_are log.specs no_spec are) log.known (events_at log.rows) T 0 (λ i. (part i).lists) (λ i lt. (each i lt).0.1) (λ i lt. let (u, r) = (each i lt).0.3 in run_small (tracks i).rules (pos 0) (part i).lists (part i).start u r) (λ i lt. (each i lt).0.2) in
    let h : History = record { starts = starts; events = events } in
    let begin : (i : ℕ) → i < n → start_of h i ≡ (part i).start = λ i lt. same i lt in (
      h,
      record {
        covers = len;
        starts = λ i lt. subst (λ (s : State). IsBeforeWindow (tracks i).rules s) (sym (begin i lt)) (each i lt).0.0;
        agrees = record {
          legal = λ i lt. let (u, r) = (each i lt).0.3 in (u, subst (λ (s : State). Run (tracks i).rules (pos 0) s (map (letters (tracks i)) events) u) (sym (begin i lt)) (subst (λ (ls : List (List ℕ)). Run (tracks i).rules (pos 0) (part i).start ls u) (sym (maps i lt)) r));
          agree = agree;
          bounded = bounded;
        };
      },
      λ i lt. subst (λ (s : State). Q i s (map (letters (tracks i)) events)) (sym (begin i lt)) (subst (λ (ls : List (List ℕ)). Q i (part i).start ls) (sym (maps i lt)) (each i lt).1),
    )

-- a course leads to one state at each tenth, and on from it
pub course_cut : (log : Log) (i y : ℕ) (s v : State) (lists : List (List ℕ)) → y ≤ window_end log → IsCourse log i s lists → Run (track_at log i).rules (pos 0) s (take y lists) v → IsReached log i y v × IsCompleted log i y v
unfolding IsCourse
course_cut log i y s v lists le (bw, len, ag, (u, r)) q =
    let k = track_at log i in
    let L : ℕ → List ℕ = λ x. letters k (events_at log.rows x) in
    let cut : take y lists ++ drop y lists ≡ lists = take-append-drop y lists in
    let l1 : length (take y lists) ≡ y = length-take-le y lists (omega arith) in
    let l2 : length (drop y lists) ≡ length lists - y = length-drop y lists in
    let (a1, a2) = (agree_join log.known L 0 y (take y lists) (drop y lists) (omega arith)).0 (subst (λ (ws : List (List ℕ)). Agree log.known L 0 ws) (sym cut) ag) in
    let (w, r1, r2) = (run_join k.rules (pos 0) (pos y) (take y lists) (drop y lists) s u (omega (arith, ints))).0 (subst (λ (ws : List (List ℕ)). Run k.rules (pos 0) s ws u) (sym cut) r) in
    let same : w ≡ v = run_once k.rules (pos 0) (take y lists) s w v r1 q in
    ((s, bw, (take y lists, omega arith, (a1, q))), (u, (drop y lists, omega arith, (a2, subst (λ (z : State). Run k.rules (pos y) z (drop y lists) u) same r2))))

pub course_joined : (log : Log) (i y : ℕ) (v : State) → IsReached log i y v → IsCompleted log i y v → (s : State) × (lists : List (List ℕ)) × IsCourse log i s lists × Run (track_at log i).rules (pos 0) s (take y lists) v
unfolding IsCourse
course_joined log i y v (s, bw, (l1, e1, (a1, r1))) (u, (l2, e2, (a2, r2))) =
    let k = track_at log i in
    let L : ℕ → List ℕ = λ x. letters k (events_at log.rows x) in
    let size : length (l1 ++ l2) ≡ length l1 + length l2 = length-append l1 l2 in
    let front : take y (l1 ++ l2) ≡ l1 = take_at l1 l2 y (omega arith) in (
      s,
      l1 ++ l2,
      (bw, (omega arith), (agree_join log.known L 0 y l1 l2 e1).1 (a1, a2), (u, (run_join k.rules (pos 0) (pos y) l1 l2 s u (omega (arith, ints))).1 (v, r1, r2))),
      subst (λ (ls : List (List ℕ)). Run k.rules (pos 0) s ls v) (sym front) r1,
    )

course_whole : (log : Log) (i : ℕ) (s : State) (lists : List (List ℕ)) → IsCourse log i s lists → (u : State) × IsReached log i (window_end log) u
unfolding IsCourse
course_whole log i s lists (bw, len, ag, (u, r)) = (u, (s, bw, (lists, omega arith, (ag, r))))

pub whole_course : (log : Log) (i : ℕ) (u : State) → IsReached log i (window_end log) u → (s : State) × (lists : List (List ℕ)) × IsCourse log i s lists
unfolding IsCourse
whole_course log i u (s, bw, (lists, len, (ag, r))) = (s, lists, (bw, (omega arith), ag, (u, r)))

-- some history agrees exactly where some run of each channel does
pub history_runs : (log : Log) → AreSpecs log.specs → HasHistory log ↔ ((i : ℕ) → i < length log.specs → (u : State) × IsReached log i (window_end log) u)
history_runs log are = (
  (λ (h, a) i lt. course_whole log i (start_of h i) (map (letters (track_at log i)) h.events) (history_course log h i a lt)),
  λ all. let (h, a, _) = history_with log are (λ i s lists. Unit {0}) (λ i lt. let (u, r) = all i lt in let (s, lists, c) = whole_course log i u r in (s, lists, c, tt)) in (h, a),
)

-- the states at the end of a tenth are, channel by channel, those of runs that agree
pub at_end : (log : Log) (x : ℕ) (v : ℕ → State) → AreSpecs log.specs → x < window_end log → MayBeAtEnd log x v ↔ ((i : ℕ) → i < length log.specs → IsReached log i (x + 1) (v i) × IsCompleted log i (x + 1) (v i))
at_end log x v are lt = (
  (λ (h, a, ends) i small.
      let k = track_at log i in
      let e : map (letters k) (take (x + 1) h.events) ≡ take (x + 1) (map (letters k) h.events) = sym (take-map (letters k) (x + 1) h.events) in
      course_cut log i (x + 1) (start_of h i) (v i) (map (letters k) h.events) (omega arith) (history_course log h i a small) (subst (λ (ls : List (List ℕ)). Run k.rules (pos 0) (start_of h i) ls (v i)) e (ends i small))),
  λ all.
      let (h, a, ends) = history_with log are (λ i s lists. Run (track_at log i).rules (pos 0) s (take (x + 1) lists) (v i)) (λ i small. let (r, c) = all i small in course_joined log i (x + 1) (v i) r c) in
      (h, a, λ i small. let k = track_at log i in subst (λ (ls : List (List ℕ)). Run k.rules (pos 0) (start_of h i) ls (v i)) (take-map (letters k) (x + 1) h.events) (ends i small)),
)

-- the same of one channel
pub one_end : (log : Log) (i x : ℕ) (v : State) → i < length log.specs → x < window_end log → MayBeAtEndOf log i x v → IsReached log i (x + 1) v × IsCompleted log i (x + 1) v
one_end log i x v small lt (h, a, end) =
    let k = track_at log i in
    let e : map (letters k) (take (x + 1) h.events) ≡ take (x + 1) (map (letters k) h.events) = sym (take-map (letters k) (x + 1) h.events) in
    course_cut log i (x + 1) (start_of h i) v (map (letters k) h.events) (omega arith) (history_course log h i a small) (subst (λ (ls : List (List ℕ)). Run k.rules (pos 0) (start_of h i) ls v) e end)

pub end_of_one : (log : Log) (i x : ℕ) (v : State) → AreSpecs log.specs → HasHistory log → i < length log.specs → x < window_end log → IsReached log i (x + 1) v → IsCompleted log i (x + 1) v → MayBeAtEndOf log i x v
end_of_one log i x v are has small lt r c =
    let k = track_at log i in
    let all = (history_runs log are).0 has in
    let (h, a, q) = history_with log are (λ n s lists. n ≡ i → Run k.rules (pos 0) s (take (x + 1) lists) v) (λ n l. elim (cases_eq n i) [
      | inl e ↦ let (s, lists, one, p) = course_joined log i (x + 1) v r c in (s, lists, subst (λ (z : ℕ). IsCourse log z s lists) (sym e) one, (λ _. p))
      | inr ne ↦ let (u, w) = all n l in let (s, lists, one) = whole_course log n u w in (s, lists, one, (λ e. absurd (ne e)))
    ]) in
    (h, a, subst (λ (ls : List (List ℕ)). Run k.rules (pos 0) (start_of h i) ls v) (take-map (letters k) (x + 1) h.events) (q i small refl))

-- a run of the channel leads from before the window to the place after the first j events of known tenth x, and one from there to the window's end
abbrev pub IsReachedPlace : Log → ℕ → ℕ → ℕ → State → Type 0
IsReachedPlace log i x j v = (s : State) × IsBeforeWindow (track_at log i).rules s × Agreeing (track_at log i) log.known (upto_place (events_at log.rows) x j) 0 (x + 1) s v

abbrev pub IsCompletedPlace : Log → ℕ → ℕ → ℕ → State → Type 0
IsCompletedPlace log i x j v = (u : State) × Agreeing (track_at log i) log.known (from_place (events_at log.rows) x j) x (window_end log) v u

-- the state after the first events of a tenth, in a course
abbrev PassesEvents : Log → ℕ → ℕ → ℕ → State → State → List (List ℕ) → Type 0
PassesEvents log i x j v s lists = (a : State) × Run (track_at log i).rules (pos 0) s (take x lists) a × Steps (track_at log i).rules (pos x) a (letters (track_at log i) (take j (events_at log.rows x))) v

course_place : (log : Log) (i x j : ℕ) (s v : State) (lists : List (List ℕ)) → x < window_end log → log.known x ≡ true → IsCourse log i s lists → PassesEvents log i x j v s lists → IsReachedPlace log i x j v × IsCompletedPlace log i x j v
course_place log i x j s v lists lt is c (a, r, ev) =
    let k = track_at log i in
    let given = events_at log.rows in
    let ((s2, bw, g1), (u, g2)) = course_cut log i x s a lists (omega arith) c r in
    let (b, e, g3) = (agreeing_first k log.known given x (window_end log) a u lt is).0 g2 in
    let parts : letters k (given x) ≡ letters k (take j (given x)) ++ letters k (drop j (given x)) = ap (λ es. letters k es) (sym (take-append-drop j (given x))) ∙ letters_join k (take j (given x)) (drop j (given x)) in
    let (w, e1, e2) = (steps_join k.rules (pos x) (letters k (take j (given x))) (letters k (drop j (given x))) a b).0 (subst (λ (ls : List ℕ). Steps k.rules (pos x) a ls b) parts e) in
    let same : w ≡ v = steps_once k.rules (pos x) (letters k (take j (given x))) a w v e1 ev in (
      (s2, bw, (to_place k log.known given 0 x j s2 v (omega arith) is).1 (a, g1, ev)),
      (u, (since_place k log.known given x (window_end log) j v u lt is).1 (b, subst (λ (z : State). Steps k.rules (pos x) z (letters k (drop j (given x))) b) same e2, g3)),
    )

place_course : (log : Log) (i x j : ℕ) (v : State) → x < window_end log → log.known x ≡ true → IsReachedPlace log i x j v → IsCompletedPlace log i x j v → (s : State) × (lists : List (List ℕ)) × IsCourse log i s lists × PassesEvents log i x j v s lists
place_course log i x j v lt is (s, bw, g1) (u, g2) =
    let k = track_at log i in
    let given = events_at log.rows in
    let (a, p, e1) = (to_place k log.known given 0 x j s v (omega arith) is).0 g1 in
    let (b, e2, q) = (since_place k log.known given x (window_end log) j v u lt is).0 g2 in
    let parts : letters k (given x) ≡ letters k (take j (given x)) ++ letters k (drop j (given x)) = ap (λ es. letters k es) (sym (take-append-drop j (given x))) ∙ letters_join k (take j (given x)) (drop j (given x)) in
    let e : Steps k.rules (pos x) a (letters k (given x)) b = subst (λ (ls : List ℕ). Steps k.rules (pos x) a ls b) (sym parts) ((steps_join k.rules (pos x) (letters k (take j (given x))) (letters k (drop j (given x))) a b).1 (v, e1, e2)) in
    let g = (agreeing_first k log.known given x (window_end log) a u lt is).1 (b, e, q) in
    let (s2, lists, c, r) = course_joined log i x a (s, bw, p) (u, g) in
    (s2, lists, c, (a, r, e1))

-- a known tenth has what is given
agree_at : (known : ℕ → Bool) (given : ℕ → List Event) (t i y : ℕ) (xs : List (List Event)) → t + i ≡ y → i < length xs → known y ≡ true → Agree known given t xs → get_or xs i [] ≡ given y
agree_at known given t i y [] e lt is a = absurd (omega arith)
agree_at known given t zero y (x ∷ xs) e lt is (a, r) = let same : y ≡ t = omega arith in rw same (a (rw same at is))
agree_at known given t (suc i) y (x ∷ xs) e lt is (a, r) = agree_at known given (t + 1) i y xs (omega arith) (omega arith) is r

-- the states before the rows of a known tenth
pub after_events : (log : Log) (i x j : ℕ) (v : State) → i < length log.specs → x < window_end log → log.known x ≡ true → MayBeAfter log i x j v → IsReachedPlace log i x j v × IsCompletedPlace log i x j v
after_events log i x j v small lt is (h, agrees, (a, r, ev)) =
    let k = track_at log i in
    let e : map (letters k) (take x h.events) ≡ take x (map (letters k) h.events) = sym (take-map (letters k) x h.events) in
    let here : get_or h.events x [] ≡ events_at log.rows x = agree_at log.known (events_at log.rows) 0 x x h.events (omega arith) (let l = agrees.covers in omega arith) is agrees.agrees.agree in
    course_place log i x j (start_of h i) v (map (letters k) h.events) lt is (history_course log h i agrees small) (
      a,
      subst (λ (ls : List (List ℕ)). Run k.rules (pos 0) (start_of h i) ls a) e r,
      subst (λ (es : List Event). Steps k.rules (pos x) a (letters k (take j es)) v) here ev,
    )

pub events_after : (log : Log) (i x j : ℕ) (v : State) → AreSpecs log.specs → HasHistory log → i < length log.specs → x < window_end log → log.known x ≡ true → IsReachedPlace log i x j v → IsCompletedPlace log i x j v → MayBeAfter log i x j v
events_after log i x j v are has small lt is r c =
    let k = track_at log i in
    let all = (history_runs log are).0 has in
    let (h, agrees, q) = history_with log are (λ n s lists. n ≡ i → PassesEvents log i x j v s lists) (λ n l. elim (cases_eq n i) [
      | inl e ↦ let (s, lists, c, p) = place_course log i x j v lt is r c in (s, lists, subst (λ (z : ℕ). IsCourse log z s lists) (sym e) c, (λ _. p))
      | inr ne ↦ let (u, w) = all n l in let (s, lists, c) = whole_course log n u w in (s, lists, c, (λ e. absurd (ne e)))
    ]) in
    let (a, run, ev) = q i small refl in
    let here : get_or h.events x [] ≡ events_at log.rows x = agree_at log.known (events_at log.rows) 0 x x h.events (omega arith) (let l = agrees.covers in omega arith) is agrees.agrees.agree in
    (h, agrees, (a, subst (λ (ls : List (List ℕ)). Run k.rules (pos 0) (start_of h i) ls a) (take-map (letters k) x h.events) run, subst (λ (es : List Event). Steps k.rules (pos x) a (letters k (take j es)) v) (sym here) ev))
