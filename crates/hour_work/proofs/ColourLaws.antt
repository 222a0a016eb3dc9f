-- What rows tell of a channel's colour, tenth by tenth.
use Rattle.std.proofs.Common.{◌≡◌, ◌≢◌, ◌∙◌, inl, inr, ℕ, ◌+◌, ◌<◌, ◌≤◌, ℤ, pos, ◌+ℤ◌, nat_eq, nat_le, Bool, true, false, List, [], ◌∷◌, ◌++◌, length, take, drop, map, Option, Some, None, refl, sym, ap, ap₂, subst, arith, take-append-drop, length-drop}
use Rattle.std.proofs.lemmas.Int.{ints}
use Rattle.std.proofs.lemmas.Bool.{cases_lt, le-leb, le-ltb, lt-leb, lt-ltb}
use Rattle.std.proofs.lemmas.Bool.Decides.{eqb_tells}
use Rattle.std.proofs.lemmas.List.{length-map, length-take-le, map-append, take-take}
use Rattle.sig_base.specs.declared.values.Row.{Row}
use Rattle.sig_base.proofs.Common.{and_false}
use Rattle.reach.specs.Runs.{Run, State, Step, Steps}
use Rattle.hour_sweep.specs.Hours.{AreOrdered}
use Rattle.arrival_measures.specs.Arrivals.{rows_within}
use Rattle.board.specs.History.{Agree, Event, History, Track, events_at, letters, put, start_of}
use Rattle.board.proofs.Bridge.{agree_join, run_join, event_here}
use Rattle.signal_log.specs.Log.{AgreesWith, Log, track_at, window_end}
use Rattle.arrival_measures.proofs.Within.{within_empty}

-- ---- the rows of some tenths

pub within_here : (a c : ℕ) (r : Row) (rs : List Row) → a ≤ r.at → r.at < c → rows_within a c (r ∷ rs) ≡ r ∷ rows_within a c rs
within_here a c r rs le lt = rw (le-leb a r.at le, lt-ltb r.at c lt) refl

pub within_low : (a c : ℕ) (r : Row) (rs : List Row) → r.at < a → rows_within a c (r ∷ rs) ≡ rows_within a c rs
within_low a c r rs lt = rw (lt-leb a r.at lt) refl

pub within_high : (a c : ℕ) (r : Row) (rs : List Row) → c ≤ r.at → rows_within a c (r ∷ rs) ≡ rows_within a c rs
within_high a c r rs le = rw (le-ltb r.at c le, and_false (nat_le a r.at)) refl

-- only later rows
pub none_within : (a c low end : ℕ) (rows : List Row) → c ≤ low → AreOrdered low end rows → rows_within a c rows ≡ []
none_within a c low end [] le order = refl
none_within a c low end (r ∷ rs) le order = let l = order.0 in within_high a c r rs (omega arith) ∙ none_within a c r.at end rs (omega arith) order.2

late_within : (a m c low end : ℕ) (rows : List Row) → a ≤ m → m ≤ low → AreOrdered low end rows → rows_within m c rows ≡ rows_within a c rows
late_within a m c low end [] am ml order = refl
late_within a m c low end (r ∷ rs) am ml order =
    let l = order.0 in
    let more = late_within a m c r.at end rs am (omega arith) order.2 in
    elim (cases_lt r.at c) [
      | inl lt ↦ within_here m c r rs (omega arith) lt ∙ (ap (λ zs. r ∷ zs) more ∙ sym (within_here a c r rs (omega arith) lt))
      | inr ge ↦ within_high m c r rs ge ∙ (more ∙ sym (within_high a c r rs ge))
    ]

pub within_join : (a m c low end : ℕ) (rows : List Row) → a ≤ m → m ≤ c → AreOrdered low end rows → rows_within a m rows ++ rows_within m c rows ≡ rows_within a c rows
within_join a m c low end [] am mc order = refl
within_join a m c low end (r ∷ rs) am mc order = elim (cases_lt r.at m) [
  | inl lt ↦
      let more = within_join a m c r.at end rs am mc order.2 in
      elim (cases_lt r.at a) [
        | inl before ↦ ap₂ (λ us vs. us ++ vs) (within_low a m r rs before) (within_low m c r rs lt) ∙ (more ∙ sym (within_low a c r rs before))
        | inr from ↦ ap₂ (λ us vs. us ++ vs) (within_here a m r rs from lt) (within_low m c r rs lt) ∙ (ap (λ zs. r ∷ zs) more ∙ sym (within_here a c r rs from (omega arith)))
      ]
  | inr ge ↦ let all : AreOrdered r.at end (r ∷ rs) = (omega arith, order.1, order.2) in ap₂ (λ us vs. us ++ vs) (none_within a m r.at end (r ∷ rs) ge all) (late_within a m c r.at end (r ∷ rs) am ge all)
]

within_elsewhere : (t : ℕ) (r : Row) (rs : List Row) → r.at ≢ t → rows_within t (t + 1) (r ∷ rs) ≡ rows_within t (t + 1) rs
within_elsewhere t r rs ne = elim (cases_lt r.at t) [
  | inl lt ↦ within_low t (t + 1) r rs lt
  | inr ge ↦ within_high t (t + 1) r rs (omega arith)
]

event_elsewhere : (r : Row) (rs : List Row) (t : ℕ) → nat_eq r.at t ≡ false → events_at (r ∷ rs) t ≡ events_at rs t
event_elsewhere r rs t e = rw e refl

-- ---- what rows tell

-- row by row
abbrev pub told : {A : Type 0} → (Row → A → A) → A → List Row → A
told after b [] = b
told after b (x ∷ xs) = told after (after x b) xs

pub told_join : {A : Type 0} (after : Row → A → A) (b : A) (xs ys : List Row) → told after b (xs ++ ys) ≡ told after (told after b xs) ys
told_join after b [] ys = refl
told_join after b (x ∷ xs) ys = told_join after (after x b) xs ys

-- what is told, of any type, stays true of the colour over each legal row of the channel, and over each row of another
pub record Tells {A : Type 0} (k : Track) (after : Row → A → A) (R : A → ℕ → Type 0) : Type 0 where
  pub step : (x : Row) (b : A) (t : ℤ) (v u : State) (l : ℕ) → k.letter x.code x.param ≡ Some l → Step k.rules t v l u → R b v.colour → R (after x b) u.colour
  pub other : (x : Row) (b : A) (c : ℕ) → k.letter x.code x.param ≡ None → R b c → R (after x b) c

module _ {A : Type 0} (k : Track) (after : Row → A → A) (R : A → ℕ → Type 0) (tells : Tells k after R) where
  put_told : (r : Row) (t : ℤ) (ls : List ℕ) (b : A) (v u : State) (o : Option ℕ) (to : A → A) → k.letter r.code r.param ≡ o → ((d : A) (z : State) → Steps k.rules t z ls u → R d z.colour → R (to d) u.colour) → Steps k.rules t v (put o ls) u → R b v.colour → R (to (after r b)) u.colour
  put_told r t ls b v u None to e more run h = more (after r b) v run (tells.other r b v.colour e h)
  put_told r t ls b v u (Some l) to e more run h = let (z, step, rest) = run in more (after r b) z rest (tells.step r b t v z l e step h)

  tenth_told : (t : ℕ) (rows : List Row) (b : A) (v u : State) → Steps k.rules (pos t) v (letters k (events_at rows t)) u → R b v.colour → R (told after b (rows_within t (t + 1) rows)) u.colour
  tenth_told t [] b v u run h = subst (λ (z : State). R b z.colour) (sym run) h
  tenth_told t (r ∷ rs) b v u run h = elim (eqb_tells r.at t) [
    | inl (test, e) ↦
        let steps = subst (λ (es : List Event). Steps k.rules (pos t) v (letters k es) u) (event_here r rs t test) run in
        let here = within_here t (t + 1) r rs (omega arith) (omega arith) in
        subst (λ (zs : List Row). R (told after b zs) u.colour) (sym here)
        (put_told r (pos t) (letters k (events_at rs t)) b v u (k.letter r.code r.param) (λ d. told after d (rows_within t (t + 1) rs)) refl (λ d z more g. tenth_told t rs d z u more g) steps h)
    | inr (test, ne) ↦
        let steps = subst (λ (es : List Event). Steps k.rules (pos t) v (letters k es) u) (event_elsewhere r rs t test) run in
        subst (λ (zs : List Row). R (told after b zs) u.colour) (sym (within_elsewhere t r rs ne)) (tenth_told t rs b v u steps h)
  ]

  -- over tenths that are all known
  run_told : (known : ℕ → Bool) (rows : List Row) (low end : ℕ) → AreOrdered low end rows → (es : List (List Event)) (a c : ℕ) (b : A) (v u : State) → a + length es ≡ c → ((t : ℕ) → a ≤ t → t < c → known t ≡ true) → Agree known (events_at rows) a es → Run k.rules (pos a) v (map (letters k) es) u → R b v.colour → R (told after b (rows_within a c rows)) u.colour
  run_told known rows low end order [] a c b v u e all agree run h =
      let none : rows_within a c rows ≡ [] = within_empty a c rows (omega arith) in
      subst (λ (zs : List Row). R (told after b zs) u.colour) (sym none) (subst (λ (z : State). R b z.colour) (sym run) h)
  run_told known rows low end order (x ∷ es) a c b v u e all agree run h =
      let (z, steps, rest) = run in
      let first = rows_within a (a + 1) rows in
      let given : x ≡ events_at rows a = agree.0 (all a (omega arith) (omega arith)) in
      let here = tenth_told a rows b v z (subst (λ (ys : List Event). Steps k.rules (pos a) v (letters k ys) z) given steps) h in
      let next : (pos a +ℤ pos 1) ≡ pos (a + 1) = omega (arith, ints) in
      let more = run_told known rows low end order es (a + 1) c (told after b first) z u (omega arith) (λ t lo hi. all t (omega arith) hi) agree.1 (subst (λ (y : ℤ). Run k.rules y z (map (letters k) es) u) next rest) here in
      let same : told after (told after b first) (rows_within (a + 1) c rows) ≡ told after b (rows_within a c rows) =
      sym (told_join after b first (rows_within (a + 1) c rows)) ∙ ap (λ zs. told after b zs) (within_join a (a + 1) c low end rows (omega arith) (omega arith) order) in
      subst (λ (d : A). R d u.colour) same more

-- ---- in a history

module _ (log : Log) (h : History) (agrees : AgreesWith log h) where
  first_length : (c : ℕ) → c ≤ window_end log → length (take c h.events) ≡ c
  first_length c le = length-take-le c h.events (let e = agrees.covers in omega arith)

  -- the state at the beginning of tenth a, and the run from there up to tenth c
  pub record IsCutAt (i a c : ℕ) (v : State) : Type 0 where
    pub between : State
    pub first : Run (track_at log i).rules (pos 0) (start_of h i) (map (letters (track_at log i)) (take a h.events)) between
    pub since : Run (track_at log i).rules (pos a) between (map (letters (track_at log i)) (drop a (take c h.events))) v

  pub cut_at : (i a c : ℕ) (v : State) → a ≤ c → c ≤ window_end log → Run (track_at log i).rules (pos 0) (start_of h i) (map (letters (track_at log i)) (take c h.events)) v → IsCutAt i a c v
  cut_at i a c v ac le run =
      let k = track_at log i in
      let es = take c h.events in
      let xs = map (letters k) (take a es) in
      let ys = map (letters k) (drop a es) in
      let size = first_length c le in
      let count : length xs ≡ a = length-map (take a es) (letters k) ∙ length-take-le a es (omega arith) in
      let cut : map (letters k) es ≡ xs ++ ys = ap (λ (ws : List (List Event)). map (letters k) ws) (sym (take-append-drop a es)) ∙ map-append (letters k) (take a es) (drop a es) in
      let at : (pos 0 +ℤ pos (length xs)) ≡ pos a = omega (arith, ints) in
      let (z, first, since) = (run_join k.rules (pos 0) (pos a) xs ys (start_of h i) v at).0 (subst (λ (ls : List (List ℕ)). Run k.rules (pos 0) (start_of h i) ls v) cut run) in
      record {
        between = z;
        first = subst (λ (ws : List (List Event)). Run k.rules (pos 0) (start_of h i) (map (letters k) ws) z) (take-take a c h.events ac) first;
        since = since;
      }

  agree_since : (a c : ℕ) → a ≤ c → c ≤ window_end log → Agree log.known (events_at log.rows) a (drop a (take c h.events))
  agree_since a c ac le =
      let es = take c h.events in
      let size = first_length c le in
      let part : length (take a es) ≡ a = length-take-le a es (omega arith) in
      let all = subst (λ (ws : List (List Event)). Agree log.known (events_at log.rows) 0 ws) (sym (take-append-drop c h.events)) agrees.agrees.agree in
      let first = ((agree_join log.known (events_at log.rows) 0 c es (drop c h.events) (omega arith)).0 all).0 in
      ((agree_join log.known (events_at log.rows) 0 a (take a es) (drop a es) (omega arith)).0 (subst (λ (ws : List (List Event)). Agree log.known (events_at log.rows) 0 ws) (sym (take-append-drop a es)) first)).1

  -- what the rows of known tenths tell of the channel's colour
  pub told_since : {A : Type 0} (i a c low end : ℕ) (after : Row → A → A) (R : A → ℕ → Type 0) → Tells (track_at log i) after R → AreOrdered low end log.rows → a ≤ c → c ≤ window_end log → ((t : ℕ) → a ≤ t → t < c → log.known t ≡ true) → (b : A) (v : State) (cut : IsCutAt i a c v) → R b cut.between.colour → R (told after b (rows_within a c log.rows)) v.colour
  told_since i a c low end after R tells order ac le all b v cut start =
      let es = take c h.events in
      let size = first_length c le in
      let count : a + length (drop a es) ≡ c = omega (arith, length-drop a es) in
      run_told (track_at log i) after R tells log.known log.rows low end order (drop a es) a c b cut.between v count all (agree_since a c ac le) cut.since start
