-- Where less is known, or floors are lower, a history explains a line as well, with no more lost rows.
use Rattle.std.proofs.Common.{suc, zero, ◌≡◌, refl, ap, sym, ◌∙◌, subst, inl, inr, ℕ, ◌+◌, ◌*◌, ◌<◌, ◌≤◌, ℤ, pos, ◌+ℤ◌, Bool, true, false, if◌then◌else◌, List, [], ◌∷◌, length, map, take, get_or, arith, Option}
use Rattle.std.proofs.lemmas.Int.{ints}
use Rattle.std.proofs.lemmas.Bool.{cases_Bool}
use Rattle.reach.specs.Runs.{State, Step, Steps, Run}
use Rattle.board.specs.History.{Agree, AreEvents, Bounded, Event, Track, events_at, letters, put, start_of}
use Rattle.signal_log.specs.Log.{Log, track_at, window_end}
use Rattle.signal_log.specs.States.{IsAfterEvents}
use Rattle.lost_rows.specs.Marked.{AllLostAreEvents, LosesRows, LostAreEvents, LostAtKnown, Marked, MarkedHistory, events_of, lost_in, lost_of, plain, told}
use Rattle.lost_rows.specs.Lines.{IntervalRule, KeptAt, KeptInHistory, no_event, tenth_of}
use Rattle.lost_laws.specs.Less.{IsEased, LessNeedsNoMore, LessNeedsNoMoreAtEnds, TellsLess}
use Rattle.lost_laws.proofs.Places.{after_once, passes}
use Rattle.lost_laws.proofs.Making.{held_are, held_events, held_marks, held_none}

-- ---- easier machines

step_eased : (k c : Track) (t : ℤ) (s u : State) (l : ℕ) → IsEased c k → Step k.rules t s l u → Step c.rules t s l u
step_eased k c t s u l eased ((few, small, goes), moves) =
    let floor = eased.floor s.colour in (
      (subst (λ (n : ℕ). s.colour < n) (sym eased.colours) few, subst (λ (n : ℕ). l < n) (sym eased.letters) small, eased.next s.colour l ∙ goes),
      elim moves [ inl same ↦ inl same | inr (ne, at, old) ↦ inr (ne, at, omega (arith, ints)) ],
    )

steps_eased : (k c : Track) (t : ℤ) (s u : State) (ls : List ℕ) → IsEased c k → Steps k.rules t s ls u → Steps c.rules t s ls u
steps_eased k c t s u [] eased same = same
steps_eased k c t s u (l ∷ ls) eased (v, step, rest) = (v, step_eased k c t s v l eased step, steps_eased k c t v u ls eased rest)

letters_eased : (k c : Track) (es : List Event) → IsEased c k → letters c es ≡ letters k es
letters_eased k c [] eased = refl
letters_eased k c (e ∷ es) eased = ap (λ (o : Option ℕ). put o (letters c es)) (eased.letter e.code e.param) ∙ ap (λ ls. put (k.letter e.code e.param) ls) (letters_eased k c es eased)

events_eased : (k c : Track) (t : ℤ) (s u : State) (es : List Event) → IsEased c k → Steps k.rules t s (letters k es) u → Steps c.rules t s (letters c es) u
events_eased k c t s u es eased steps = subst (λ (ls : List ℕ). Steps c.rules t s ls u) (sym (letters_eased k c es eased)) (steps_eased k c t s u (letters k es) eased steps)

run_eased : (k c : Track) (t : ℤ) (s u : State) (ts : List (List Event)) → IsEased c k → Run k.rules t s (map (letters k) ts) u → Run c.rules t s (map (letters c) ts) u
run_eased k c t s u [] eased same = same
run_eased k c t s u (es ∷ ts) eased (v, steps, rest) = (v, events_eased k c t s v es eased steps, run_eased k c (t +ℤ pos 1) v u ts eased rest)

-- ---- tenths that aren't known

-- what was lost of such a tenth isn't lost
abbrev unlost : Bool → List Marked → List Marked
unlost known es = if known then es else held_marks (events_of es)

abbrev all_unlost : (ℕ → Bool) → ℕ → List (List Marked) → List (List Marked)
all_unlost known t [] = []
all_unlost known t (es ∷ ts) = unlost (known t) es ∷ all_unlost known (t + 1) ts

unlost_events : (known : Bool) (es : List Marked) → events_of (unlost known es) ≡ events_of es
unlost_events true es = refl
unlost_events false es = held_events (events_of es)

unlost_all_events : (known : ℕ → Bool) (t : ℕ) (ts : List (List Marked)) → map events_of (all_unlost known t ts) ≡ map events_of ts
unlost_all_events known t [] = refl
unlost_all_events known t (es ∷ ts) = ap (λ z. z ∷ map events_of (all_unlost known (t + 1) ts)) (unlost_events (known t) es) ∙ ap (λ zs. events_of es ∷ zs) (unlost_all_events known (t + 1) ts)

unlost_length : (known : ℕ → Bool) (t : ℕ) (ts : List (List Marked)) → length (all_unlost known t ts) ≡ length ts
unlost_length known t [] = refl
unlost_length known t (es ∷ ts) = ap suc (unlost_length known (t + 1) ts)

unlost_few : (known : Bool) (es : List Marked) → lost_of (unlost known es) ≤ lost_of es
unlost_few true es = omega arith
unlost_few false es = let none = held_none (events_of es) in omega arith

unlost_all_few : (known : ℕ → Bool) (t : ℕ) (ts : List (List Marked)) → lost_in (all_unlost known t ts) ≤ lost_in ts
unlost_all_few known t [] = omega arith
unlost_all_few known t (es ∷ ts) = let a = unlost_few (known t) es in let b = unlost_all_few known (t + 1) ts in omega arith

unlost_are : (known : Bool) (es : List Marked) → LostAreEvents es → LostAreEvents (unlost known es)
unlost_are true es h = h
unlost_are false es h = held_are (events_of es)

unlost_all_are : (known : ℕ → Bool) (t : ℕ) (ts : List (List Marked)) → AllLostAreEvents ts → AllLostAreEvents (all_unlost known t ts)
unlost_all_are known t [] h = tt
unlost_all_are known t (es ∷ ts) (one, h) = (unlost_are (known t) es one, unlost_all_are known (t + 1) ts h)

unlost_at_known : (known : ℕ → Bool) (t : ℕ) (ts : List (List Marked)) → LostAtKnown known t (all_unlost known t ts)
unlost_at_known known t [] = tt
unlost_at_known known t (es ∷ ts) = ((λ not. rw not (held_none (events_of es))), unlost_at_known known (t + 1) ts)

-- held events and lost ones are all
all_are : (es : List Marked) → AreEvents (told es) → LostAreEvents es → AreEvents (events_of es)
all_are [] h g = tt
all_are (e ∷ es) h (lost_is, g) = elim (cases_Bool e.lost) [
  | inl lost ↦ (lost_is lost, all_are es (rw lost at h) g)
  | inr held ↦ let both : AreEvents (e.event ∷ told es) = rw held at h in (both.0, all_are es both.1 g)
]

-- at the place of a known tenth nothing is changed
unlost_at : (known : ℕ → Bool) (t x y : ℕ) (ts : List (List Marked)) → t + x ≡ y → known y ≡ true → get_or (all_unlost known t ts) x [] ≡ get_or ts x []
unlost_at known t x y [] e is = refl
unlost_at known t zero y (es ∷ ts) e is = let now : t ≡ y = omega arith in let here : known t ≡ true = ap known now ∙ is in rw here refl
unlost_at known t (suc x) y (es ∷ ts) e is = unlost_at known (t + 1) x y ts (omega arith) is

-- at that of another nothing is lost
no_lost : (es : List Event) (q : ℕ) → (get_or (held_marks es) q no_event).lost ≡ true → ⊥
no_lost [] q lost = (let no : false ≡ true = lost in cc)
no_lost (e ∷ es) zero lost = (let no : false ≡ true = lost in cc)
no_lost (e ∷ es) (suc q) lost = no_lost es q lost

lost_known : (known : ℕ → Bool) (t x y q : ℕ) (ts : List (List Marked)) → t + x ≡ y → (get_or (get_or (all_unlost known t ts) x []) q no_event).lost ≡ true → known y ≡ true
lost_known known t x y q [] e lost = absurd (let no : false ≡ true = lost in cc)
lost_known known t zero y q (es ∷ ts) e lost =
    let now : t ≡ y = omega arith in
    elim (cases_Bool (known t)) [
      | inl is ↦ subst (λ (z : ℕ). known z ≡ true) now is
      | inr not ↦ absurd (no_lost (events_of es) q (rw not at lost))
    ]
lost_known known t (suc x) y q (es ∷ ts) e lost = lost_known known (t + 1) x y q ts (omega arith) lost

module _ (less more : Log) (tells : TellsLess less more) where
  less_agree : (t : ℕ) (ts : List (List Marked)) → Agree more.known (events_at more.rows) t (map told ts) → Agree less.known (events_at less.rows) t (map told (all_unlost less.known t ts))
  less_agree t [] agree = tt
  less_agree t (es ∷ ts) (here, agree) = ((λ is. rw is (here (tells.known t is) ∙ sym (tells.rows t is))), less_agree (t + 1) ts agree)

  less_bounded : (t : ℕ) (ts : List (List Marked)) → Agree more.known (events_at more.rows) t (map told ts) → Bounded more.known t (map events_of ts) → AllLostAreEvents ts → Bounded less.known t (map events_of (all_unlost less.known t ts))
  less_bounded t [] agree bounded events = tt
  less_bounded t (es ∷ ts) (here, agree) (bytes, bounded) (lost, events) = (
    λ not. subst AreEvents (sym (unlost_events (less.known t) es)) (elim (cases_Bool (more.known t)) [
      | inl is ↦ all_are es (subst AreEvents (sym (here is)) (tells.are_events t is)) lost
      | inr free ↦ bytes free
    ]),
    less_bounded (t + 1) ts agree bounded events,
  )

  -- the history with what was lost at such tenths unmarked
  abbrev pub lessened : MarkedHistory → MarkedHistory
  lessened h = record { starts = h.starts; tenths = all_unlost less.known 0 h.tenths }

  same_end : window_end less ≡ window_end more
  same_end = ap (λ n. 36000 * n) tells.hours

  pub less_loses : (h : MarkedHistory) (k : ℕ) → LosesRows more h k → LosesRows less (lessened h) (lost_in (all_unlost less.known 0 h.tenths))
  less_loses h k loses =
      let ts = h.tenths in
      let n = tells.channels in
      record {
        covers = unlost_length less.known 0 ts ∙ (loses.covers ∙ sym same_end);
        starts = λ i lt. let (few, early) = loses.starts i (omega arith) in (subst (λ (c : ℕ). (start_of (plain h) i).colour < c) (sym (tells.eased i (omega arith)).colours) few, early);
        legal = λ i lt. let (u, r) = loses.legal i (omega arith) in (u, subst (λ (ws : List (List Event)). Run (track_at less i).rules (pos 0) (start_of (plain h) i) (map (letters (track_at less i)) ws) u) (sym (unlost_all_events less.known 0 ts)) (run_eased (track_at more i) (track_at less i) (pos 0) (start_of (plain h) i) u (map events_of ts) (tells.eased i (omega arith)) r));
        agree = less_agree 0 ts loses.agree;
        bounded = less_bounded 0 ts loses.agree loses.bounded loses.events;
        at_known = unlost_at_known less.known 0 ts;
        events = unlost_all_are less.known 0 ts loses.events;
        count = refl;
      }

  -- the states are those of the history
  less_after : (h : MarkedHistory) (i x q : ℕ) (v : State) → i < length more.specs → IsAfterEvents more (plain h) i x q v → IsAfterEvents less (plain (lessened h)) i x q v
  less_after h i x q v small (a, run, steps) =
      let k = track_at more i in
      let c = track_at less i in
      let s = start_of (plain h) i in
      let eased = tells.eased i small in
      let same = sym (unlost_all_events less.known 0 h.tenths) in (
        a,
        subst (λ (ws : List (List Event)). Run c.rules (pos 0) s (map (letters c) (take x ws)) a) same (run_eased k c (pos 0) s a (take x (map events_of h.tenths)) eased run),
        subst (λ (ws : List (List Event)). Steps c.rules (pos x) a (letters c (take q (get_or ws x []))) v) same (events_eased k c (pos x) a v (take q (get_or (map events_of h.tenths) x [])) eased steps),
      )

  kept_less : (rule : IntervalRule) (x : ℕ) (e : Event) (v : State) → rule.channel < length more.specs → KeptAt more rule x e v → KeptAt less rule x e v
  kept_less rule x e v small kept same l d is (few, little, goes) ne =
      let eased = tells.eased rule.channel small in
      kept same l d (sym (eased.letter e.code e.param) ∙ is) (subst (λ (n : ℕ). v.colour < n) eased.colours few, subst (λ (n : ℕ). l < n) eased.letters little, sym (eased.next v.colour l) ∙ goes) ne

  -- a rule that is kept at an event of a known tenth is kept there
  less_kept : (rule : IntervalRule) (h : MarkedHistory) (k x q : ℕ) → rule.channel < length more.specs → LosesRows more h k → less.known x ≡ true → q < length (tenth_of h x) → KeptInHistory more rule h x q → KeptInHistory less rule (lessened h) x q
  less_kept rule h k x q small loses is lt kept v after =
      let (w, _, comes, _) = passes more h k rule.channel x q loses small lt in
      let same : w ≡ v = after_once less (plain (lessened h)) rule.channel x q w v (less_after h rule.channel x q w small comes) after in
      let here : get_or (all_unlost less.known 0 h.tenths) x [] ≡ tenth_of h x = unlost_at less.known 0 x x h.tenths (omega arith) is in
      subst (λ (es : List Marked). KeptAt less rule x (get_or es q no_event).event v) (sym here) (subst (λ (z : State). KeptAt less rule x (get_or (tenth_of h x) q no_event).event z) same (kept_less rule x (get_or (tenth_of h x) q no_event).event w small (kept w comes)))

pub less_interval : LessNeedsNoMore
less_interval less more line n tells small is (k, le, (h, loses, (p, lt, held, before, kept, earlier))) =
    let x = line.at in
    let ts = h.tenths in
    let few = unlost_all_few less.known 0 ts in
    let count = loses.count in
    let here : get_or (all_unlost less.known 0 ts) x [] ≡ tenth_of h x = unlost_at less.known 0 x x ts (omega arith) is in (
      lost_in (all_unlost less.known 0 ts),
      omega arith,
      (
        lessened less more tells h,
        less_loses less more tells h k loses,
        (
          p,
          subst (λ (es : List Marked). p < length es) (sym here) lt,
          subst (λ (es : List Marked). (get_or es p no_event).lost ≡ false) (sym here) held,
          subst (λ (es : List Marked). length (told (take p es)) ≡ line.before) (sym here) before,
          less_kept less more tells line.rule h k x p small loses is lt kept,
          λ y q order less_than lost.
              let known_is = lost_known less.known 0 y y q ts (omega arith) lost in
              let there : get_or (all_unlost less.known 0 ts) y [] ≡ tenth_of h y = unlost_at less.known 0 y y ts (omega arith) known_is in
              let within : q < length (tenth_of h y) = subst (λ (es : List Marked). q < length es) there less_than in
              less_kept less more tells line.rule h k y q small loses known_is within (earlier y q order within (subst (λ (es : List Marked). (get_or es q no_event).lost ≡ true) there lost)),
        ),
      ),
    )

pub less_clause : LessNeedsNoMoreAtEnds
less_clause less more line n tells (k, le, (h, loses, (v, ends, keeps))) =
    let ts = h.tenths in
    let few = unlost_all_few less.known 0 ts in
    let count = loses.count in
    let same = sym (unlost_all_events less.known 0 ts) in (
      lost_in (all_unlost less.known 0 ts),
      omega arith,
      (
        lessened less more tells h,
        less_loses less more tells h k loses,
        (
          v,
          (λ i lt.
              let n = tells.channels in
              let c = track_at less i in
              subst (λ (ws : List (List Event)). Run c.rules (pos 0) (start_of (plain h) i) (map (letters c) (take (line.at + 1) ws)) (v i)) same (run_eased (track_at more i) c (pos 0) (start_of (plain h) i) (v i) (take (line.at + 1) (map events_of ts)) (tells.eased i (omega arith)) (ends i (omega arith)))),
          keeps,
        ),
      ),
    )
