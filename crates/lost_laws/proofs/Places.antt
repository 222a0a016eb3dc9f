-- Places among the tenths of a history, and the states there.
use Rattle.std.proofs.Common.{suc, zero, ◌≡◌, refl, ap, sym, ◌∙◌, subst, ◌⊎◌, inl, inr, ℕ, ◌+◌, ◌<◌, ◌≤◌, ℤ, pos, Bool, true, List, [], ◌∷◌, ◌++◌, length, map, take, drop, get_or, take-append-drop, arith, Option, Some, None}
use Rattle.std.proofs.lemmas.Int.{ints}
use Rattle.std.proofs.lemmas.Bool.{cases_lt}
use Rattle.std.proofs.lemmas.List.{length-map, length-take-le, map-append, get_or-map, get_or_past, drop_more}
use Rattle.reach.specs.Runs.{State, Steps, Run}
use Rattle.board.specs.History.{Agree, Event, Track, letters, put}
use Rattle.board.proofs.Bridge.{run_join}
use Rattle.signal_log.specs.Log.{Log, track_at}
use Rattle.signal_log.specs.States.{IsAfterEvents}
use Rattle.signal_log.proofs.Runs.{run_once, steps_once}
use Rattle.board.specs.History.{History, start_of}
use Rattle.lost_rows.specs.Marked.{LosesRows, Marked, MarkedHistory, events_of, plain}
use Rattle.lost_rows.specs.Lines.{no_event, tenth_of}

pub option_cases : (o : Option ℕ) → (o ≡ None) ⊎ ((l : ℕ) × (o ≡ Some l))
option_cases None = inl refl
option_cases (Some l) = inr (l, refl)

-- ---- letters

-- one event's letter, and the others
pub put_cut : (k : Track) (t : ℤ) (o : Option ℕ) (ls : List ℕ) (s u : State) → Steps k.rules t s (put o ls) u → (v : State) × Steps k.rules t s (put o []) v × Steps k.rules t v ls u
put_cut k t None ls s u a = (s, refl, a)
put_cut k t (Some l) ls s u (v, a, b) = (v, (v, a, refl), b)

pub put_join : (k : Track) (t : ℤ) (o : Option ℕ) (ls : List ℕ) (s v u : State) → Steps k.rules t s (put o []) v → Steps k.rules t v ls u → Steps k.rules t s (put o ls) u
put_join k t None ls s v u e b = subst (λ (z : State). Steps k.rules t z ls u) e b
put_join k t (Some l) ls s v u (w, a, e) b = (w, a, subst (λ (z : State). Steps k.rules t z ls u) e b)

-- ---- events

pub length-events_of : (es : List Marked) → length (events_of es) ≡ length es
length-events_of [] = refl
length-events_of (e ∷ es) = ap suc (length-events_of es)

pub take-events_of : (n : ℕ) (es : List Marked) → take n (events_of es) ≡ events_of (take n es)
take-events_of zero es = refl
take-events_of (suc n) [] = refl
take-events_of (suc n) (e ∷ es) = ap (λ xs. e.event ∷ xs) (take-events_of n es)

pub events_at_tenth : (h : MarkedHistory) (x : ℕ) → x < length h.tenths → get_or (plain h).events x [] ≡ events_of (tenth_of h x)
events_at_tenth h x lt = get_or-map events_of h.tenths x [] [] lt

-- where the history has such an event the tenth is one of its
pub tenth_within : (h : MarkedHistory) (x p : ℕ) → p < length (tenth_of h x) → x < length h.tenths
tenth_within h x p lt = elim (cases_lt x (length h.tenths)) [
  | inl less ↦ less
  | inr ge ↦ let none : tenth_of h x ≡ [] = get_or_past h.tenths x [] (omega arith) in absurd (let few = ap length none in omega arith)
]

-- ---- runs cut at a tenth

pub run_cut : (k : Track) (es : List (List Event)) (y : ℕ) (s u : State) → y ≤ length es → Run k.rules (pos 0) s (map (letters k) es) u → (v : State) × Run k.rules (pos 0) s (map (letters k) (take y es)) v × Run k.rules (pos y) v (map (letters k) (drop y es)) u
run_cut k es y s u le r =
    let parts : map (letters k) es ≡ map (letters k) (take y es) ++ map (letters k) (drop y es) = ap (λ ws. map (letters k) ws) (sym (take-append-drop y es)) ∙ map-append (letters k) (take y es) (drop y es) in
    let size : length (map (letters k) (take y es)) ≡ y = length-map (take y es) (letters k) ∙ length-take-le y es le in
    (run_join k.rules (pos 0) (pos y) (map (letters k) (take y es)) (map (letters k) (drop y es)) s u (omega (arith, ints))).0 (subst (λ (ls : List (List ℕ)). Run k.rules (pos 0) s ls u) parts r)

pub run_tenth : (k : Track) (es : List (List Event)) (y : ℕ) (v u : State) → y < length es → Run k.rules (pos y) v (map (letters k) (drop y es)) u → (b : State) × Steps k.rules (pos y) v (letters k (get_or es y [])) b × Run k.rules (pos (y + 1)) b (map (letters k) (drop (y + 1) es)) u
run_tenth k es y v u lt r = subst (λ (ws : List (List Event)). Run k.rules (pos y) v (map (letters k) ws) u) (drop_more es y [] lt) r

-- the events of a tenth before a place, the event there, and those after it
pub steps_cut : (k : Track) (t : ℤ) (es : List Marked) (p : ℕ) (a b : State) → p < length es → Steps k.rules t a (letters k (events_of es)) b → (v w : State) × Steps k.rules t a (letters k (take p (events_of es))) v × Steps k.rules t v (put (k.letter (get_or es p no_event).event.code (get_or es p no_event).event.param) []) w × Steps k.rules t w (letters k (events_of (drop (suc p) es))) b
steps_cut k t [] p a b lt r = absurd (omega arith)
steps_cut k t (e ∷ es) zero a b lt r =
    let (w, one, rest) = put_cut k t (k.letter e.event.code e.event.param) (letters k (events_of es)) a b r in
    (a, w, refl, one, rest)
steps_cut k t (e ∷ es) (suc p) a b lt r =
    let o = k.letter e.event.code e.event.param in
    let (z, one, rest) = put_cut k t o (letters k (events_of es)) a b r in
    let (v, w, before, here, after) = steps_cut k t es p z b (omega arith) rest in
    (v, w, put_join k t o (letters k (take p (events_of es))) a z v one before, here, after)

-- the state before the event with this place, and where the event leads
pub passes : (log : Log) (h : MarkedHistory) (k i x p : ℕ) → LosesRows log h k → i < length log.specs → p < length (tenth_of h x) → (v w : State) × IsAfterEvents log (plain h) i x p v × Steps (track_at log i).rules (pos x) v (put ((track_at log i).letter (get_or (tenth_of h x) p no_event).event.code (get_or (tenth_of h x) p no_event).event.param) []) w
passes log h k i x p loses small lt =
    let c = track_at log i in
    let es = (plain h).events in
    let within = tenth_within h x p lt in
    let size : length es ≡ length h.tenths = length-map h.tenths events_of in
    let (u, r) = loses.legal i small in
    let (a, before, after) = run_cut c es x (start_of (plain h) i) u (omega arith) r in
    let (b, here, rest) = run_tenth c es x a u (omega arith) after in
    let is = events_at_tenth h x within in
    let (v, w, one, two, three) = steps_cut c (pos x) (tenth_of h x) p a b lt (subst (λ (xs : List Event). Steps c.rules (pos x) a (letters c xs) b) is here) in
    (v, w, (a, before, subst (λ (xs : List Event). Steps c.rules (pos x) a (letters c (take p xs)) v) (sym is) one), two)

-- there is one state at a place
pub after_once : (log : Log) (h : History) (i x p : ℕ) (v w : State) → IsAfterEvents log h i x p v → IsAfterEvents log h i x p w → v ≡ w
after_once log h i x p v w (a, r, ev) (b, q, eq) =
    let c = track_at log i in
    let es = h.events in
    let same : b ≡ a = run_once c.rules (pos 0) (map (letters c) (take x es)) (start_of h i) b a q r in
    steps_once c.rules (pos x) (letters c (take p (get_or es x []))) a v w ev (subst (λ (z : State). Steps c.rules (pos x) z (letters c (take p (get_or es x []))) w) same eq)

-- ---- what is told

-- a known tenth has what is given
pub agree_at : {A : Type 0} → (d : A) (known : ℕ → Bool) (given : ℕ → A) (t i y : ℕ) (xs : List A) → t + i ≡ y → i < length xs → known y ≡ true → Agree known given t xs → get_or xs i d ≡ given y
agree_at d known given t i y [] e lt is a = absurd (omega arith)
agree_at d known given t zero y (x ∷ xs) e lt is (a, r) = let same : y ≡ t = omega arith in rw same (a (rw same at is))
agree_at d known given t (suc i) y (x ∷ xs) e lt is (a, r) = agree_at d known given (t + 1) i y xs (omega arith) (omega arith) is r
