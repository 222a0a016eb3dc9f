-- A history that explains a line says of one channel that it explains it.
use Rattle.std.proofs.Common.{suc, zero, ◌≡◌, refl, ap, sym, ◌∙◌, subst, inl, inr, ℕ, ◌+◌, ◌-◌, ◌<◌, ◌≤◌, pos, true, false, List, [], ◌∷◌, ◌++◌, length, length-drop, map, take, drop, get_or, take-append-drop, arith, Option, Some}
use Rattle.std.proofs.lemmas.Bool.{cases_Bool}
use Rattle.std.proofs.lemmas.List.{length-map, length-take-le, map-append, take-map, drop-map, take-take, take_at, drop_at, get_or-take, get_or-map, get_or_at, drop_more}
use Rattle.reach.specs.Runs.{State, Step, Steps, Run}
use Rattle.board.specs.declared.clause.Term.{Term}
use Rattle.board.specs.History.{Agree, Event, Track, events_at, letters, put, start_of}
use Rattle.board.specs.Verdicts.{AreWithin, HoldOne, Keeps}
use Rattle.board.proofs.Bridge.{agree_join}
use Rattle.signal_log.specs.Log.{Log, track_at, window_end}
use Rattle.signal_log.specs.States.{IsAtEndOf}
use Rattle.signal_log.proofs.Runs.{run_once}
use Rattle.lost_rows.specs.declared.asked.Asked.{Asked}
use Rattle.lost_rows.specs.Walks.{LostWalk, nothing_asked}
use Rattle.lost_rows.specs.Marked.{LosesRows, Marked, MarkedHistory, events_of, lost_in, lost_of, plain, told}
use Rattle.lost_rows.specs.Lines.{ComesBefore, ExplainsInterval, IntervalLine, IntervalRule, KeptInHistory, no_event, tenth_of}
use Rattle.lost_laws.specs.Tenths.{IsCompletedLosing, IsReachedLosing, MayBeAtEndLosing, letters_in}
use Rattle.lost_laws.specs.Channels.{ChannelExplains, ClauseIsOfChannels, IntervalIsOfChannel, IsChannelsRow, asked_of, row_of}
use Rattle.lost_laws.proofs.Places.{agree_at, events_at_tenth, run_cut, run_tenth, steps_cut, take-events_of, tenth_within}
use Rattle.lost_laws.proofs.Reading.{AllSpared, KeptBy, Spared, all_spared_by, all_spared_free, spared_by, spared_free, tenth_walk, tenths_walk}

pub lost_in_join : (xs ys : List (List Marked)) → lost_in (xs ++ ys) ≡ lost_in xs + lost_in ys
lost_in_join [] ys = omega arith
lost_in_join (x ∷ xs) ys = let more = lost_in_join xs ys in omega arith

-- all lost ones are those before a tenth and those from it on
lost_cut : (ts : List (List Marked)) (y : ℕ) → lost_in (take y ts) + lost_in (drop y ts) ≡ lost_in ts
lost_cut ts y = sym (lost_in_join (take y ts) (drop y ts)) ∙ ap lost_in (take-append-drop y ts)

lost_tenth : (ts : List (List Marked)) (y : ℕ) → y < length ts → lost_of (get_or ts y []) + lost_in (drop (y + 1) ts) ≡ lost_in (drop y ts)
lost_tenth ts y lt = sym (ap lost_in (drop_more ts y [] lt))

-- those of a tenth before a held event, and those after it
lost_held : (es : List Marked) (p : ℕ) → p < length es → (get_or es p no_event).lost ≡ false → lost_of (take p es) + lost_of (drop (suc p) es) ≡ lost_of es
lost_held [] p lt held = absurd (omega arith)
lost_held (e ∷ es) zero lt held = rw held (omega arith)
lost_held (e ∷ es) (suc p) lt held =
    let more = lost_held es p (omega arith) held in
    elim (cases_Bool e.lost) [ inl lost ↦ rw lost (omega arith) | inr is ↦ rw is more ]

-- what is told of a tenth before a held event, of the event, and after it
pub told_held : (es : List Marked) (p : ℕ) → p < length es → (get_or es p no_event).lost ≡ false → told es ≡ told (take p es) ++ (get_or es p no_event).event ∷ told (drop (suc p) es)
told_held [] p lt held = absurd (omega arith)
told_held (e ∷ es) zero lt held = rw held refl
told_held (e ∷ es) (suc p) lt held =
    let more = told_held es p (omega arith) held in
    elim (cases_Bool e.lost) [ inl lost ↦ rw lost more | inr is ↦ rw is (ap (λ xs. e.event ∷ xs) more) ]

-- what is told of the tenths up to one, and of those from it on
agree_cut : (log : Log) (h : MarkedHistory) (k y : ℕ) → LosesRows log h k → y ≤ length h.tenths → Agree log.known (events_at log.rows) 0 (map told (take y h.tenths)) × Agree log.known (events_at log.rows) y (map told (drop y h.tenths))
agree_cut log h k y loses le =
    let ts = h.tenths in
    let parts : map told ts ≡ map told (take y ts) ++ map told (drop y ts) = ap (λ ws. map told ws) (sym (take-append-drop y ts)) ∙ map-append told (take y ts) (drop y ts) in
    let size : length (map told (take y ts)) ≡ y = length-map (take y ts) told ∙ length-take-le y ts le in
    (agree_join log.known (events_at log.rows) 0 y (map told (take y ts)) (map told (drop y ts)) (omega arith)).0 (subst (λ (ws : List (List Event)). Agree log.known (events_at log.rows) 0 ws) parts loses.agree)

-- the tenths before one
front_walk : (log : Log) (h : MarkedHistory) (k i y : ℕ) (r : Asked) (v : State) → LosesRows log h k → i < length log.specs → y ≤ length h.tenths → Run (track_at log i).rules (pos 0) (start_of (plain h) i) (map (letters (track_at log i)) (take y (plain h).events)) v → AllSpared (track_at log i) r 0 (start_of (plain h) i) (take y h.tenths) → (j : ℕ) × (j ≤ lost_in (take y h.tenths)) × IsReachedLosing log r i y j v
front_walk log h k i y r v loses small le run spared =
    let c = track_at log i in
    let ts = h.tenths in
    let s = start_of (plain h) i in
    let size : length (take y ts) ≡ y = length-take-le y ts le in
    let run2 : Run c.rules (pos 0) s (map (letters c) (map events_of (take y ts))) v = subst (λ (ws : List (List Event)). Run c.rules (pos 0) s (map (letters c) ws) v) (take-map events_of y ts) run in
    let (agree, _) = agree_cut log h k y loses le in
    let (j, few, walk) = tenths_walk c log.known (events_at log.rows) r 0 (take y ts) s v run2 agree spared in
    (j, few, (s, loses.starts i small, (length (take y ts), omega arith, walk)))

-- and those from it on
back_walk : (log : Log) (h : MarkedHistory) (k i y : ℕ) (v u : State) → LosesRows log h k → y ≤ length h.tenths → Run (track_at log i).rules (pos y) v (map (letters (track_at log i)) (drop y (plain h).events)) u → (j : ℕ) × (j ≤ lost_in (drop y h.tenths)) × IsCompletedLosing log i y j v
back_walk log h k i y v u loses le run =
    let c = track_at log i in
    let ts = h.tenths in
    let covers = loses.covers in
    let size : length (drop y ts) ≡ length ts - y = length-drop y ts in
    let run2 : Run c.rules (pos y) v (map (letters c) (map events_of (drop y ts))) u = subst (λ (ws : List (List Event)). Run c.rules (pos y) v (map (letters c) ws) u) (drop-map events_of y ts) run in
    let (_, agree) = agree_cut log h k y loses le in
    let (j, few, walk) = tenths_walk c log.known (events_at log.rows) nothing_asked y (drop y ts) v u run2 agree (all_spared_free c y (drop y ts) v) in
    (j, few, (u, (length (drop y ts), omega arith, walk)))

-- ---- clauses

-- the state of one channel at the end of a tenth
end_to : (log : Log) (h : MarkedHistory) (k x i : ℕ) (v : State) → LosesRows log h k → i < length log.specs → x < window_end log → IsAtEndOf log (plain h) i x v → (j : ℕ) × (j ≤ k) × MayBeAtEndLosing log x j i v
end_to log h k x i v loses small lt run =
    let c = track_at log i in
    let es = (plain h).events in
    let covers = loses.covers in
    let size : length es ≡ length h.tenths = length-map h.tenths events_of in
    let (u, r) = loses.legal i small in
    let (w, front, back) = run_cut c es (x + 1) (start_of (plain h) i) u (omega arith) r in
    let same : w ≡ v = run_once c.rules (pos 0) (map (letters c) (take (x + 1) es)) (start_of (plain h) i) w v front run in
    let (a, few, to) = front_walk log h k i (x + 1) nothing_asked v loses small (omega arith) run (all_spared_free c 0 (take (x + 1) h.tenths) (start_of (plain h) i)) in
    let (b, less, on) = back_walk log h k i (x + 1) v u loses (omega arith) (subst (λ (z : State). Run c.rules (pos (x + 1)) z (map (letters c) (drop (x + 1) es)) u) same back) in
    let all = lost_cut h.tenths (x + 1) in
    let count = loses.count in
    (a + b, omega arith, (a, b, refl, to, on))

term_to : (log : Log) (h : MarkedHistory) (k x : ℕ) (v : ℕ → State) (terms : List Term) → LosesRows log h k → x < window_end log → ((i : ℕ) → i < length log.specs → IsAtEndOf log (plain h) i x (v i)) → AreWithin (length log.specs) terms → Keeps terms v → (j : ℕ) × (j ≤ k) × HoldOne (MayBeAtEndLosing log x j) terms
term_to log h k x v [] loses lt ends within keeps = absurd keeps
term_to log h k x v (c ∷ cs) loses lt ends (small, within) (inl has) =
    let (j, le, may) = end_to log h k x c.spec (v c.spec) loses small lt (ends c.spec small) in
    (j, le, inl (v c.spec, may, has))
term_to log h k x v (c ∷ cs) loses lt ends (small, within) (inr keeps) =
    let (j, le, may) = term_to log h k x v cs loses lt ends within keeps in
    (j, le, inr may)

pub clause_to : ClauseIsOfChannels
clause_to log line n within lt (k, le, (h, loses, (v, ends, keeps))) =
    let (j, few, may) = term_to log h k line.at v line.terms loses lt ends within keeps in
    (j, omega arith, may)

-- ---- interval rules

-- a lost row before the line keeps what is asked
spared_row : (log : Log) (rule : IntervalRule) (h : MarkedHistory) (x y z q : ℕ) (a v : State) → y ≡ z → y < x → x ≤ length h.tenths → KeptInHistory log rule h z q → Run (track_at log rule.channel).rules (pos 0) (start_of (plain h) rule.channel) (map (letters (track_at log rule.channel)) (take y (map events_of (take x h.tenths)))) a → Steps (track_at log rule.channel).rules (pos z) a (letters (track_at log rule.channel) (take q (events_of (get_or (take x h.tenths) y [])))) v → KeptBy (track_at log rule.channel) (asked_of rule) z (get_or (get_or (take x h.tenths) y []) q no_event).event v
spared_row log rule h x y z q a v same lt le kept run steps =
    let c = track_at log rule.channel in
    let ts = h.tenths in
    let s = start_of (plain h) rule.channel in
    let here : get_or (take x ts) y [] ≡ tenth_of h z = get_or-take x ts y [] lt ∙ ap (λ n. get_or ts n []) same in
    let front : take y (map events_of (take x ts)) ≡ take z (plain h).events = ap (λ ws. take y ws) (sym (take-map events_of x ts)) ∙ (take-take y x (map events_of ts) (omega arith) ∙ ap (λ n. take n (map events_of ts)) same) in
    let run2 : Run c.rules (pos 0) s (map (letters c) (take z (plain h).events)) a = subst (λ (ws : List (List Event)). Run c.rules (pos 0) s (map (letters c) ws) a) front run in
    let there : events_of (get_or (take x ts) y []) ≡ get_or (plain h).events z [] = ap events_of here ∙ sym (events_at_tenth h z (omega arith)) in
    let steps2 : Steps c.rules (pos z) a (letters c (take q (get_or (plain h).events z []))) v = subst (λ (zs : List Event). Steps c.rules (pos z) a (letters c (take q zs)) v) there steps in
    subst (λ (zs : List Marked). KeptBy c (asked_of rule) z (get_or zs q no_event).event v) (sym here) (kept v (a, run2, steps2))

front_spared : (log : Log) (rule : IntervalRule) (h : MarkedHistory) (x p : ℕ) → x ≤ length h.tenths → ((y q : ℕ) → ComesBefore y q x p → q < length (tenth_of h y) → (get_or (tenth_of h y) q no_event).lost ≡ true → KeptInHistory log rule h y q) → AllSpared (track_at log rule.channel) (asked_of rule) 0 (start_of (plain h) rule.channel) (take x h.tenths)
front_spared log rule h x p le earlier = all_spared_by (track_at log rule.channel) (asked_of rule) 0 (take x h.tenths) (start_of (plain h) rule.channel) (λ y q z a v e l1 l2 lost run steps.
    let size : length (take x h.tenths) ≡ x = length-take-le x h.tenths le in
    let same : y ≡ z = omega arith in
    let here : get_or (take x h.tenths) y [] ≡ tenth_of h z = get_or-take x h.tenths y [] (omega arith) ∙ ap (λ n. get_or h.tenths n []) same in
    let within : q < length (tenth_of h z) = subst (λ (zs : List Marked). q < length zs) here l2 in
    let is : (get_or (tenth_of h z) q no_event).lost ≡ true = subst (λ (zs : List Marked). (get_or zs q no_event).lost ≡ true) here lost in
    spared_row log rule h x y z q a v same (omega arith) le (earlier z q (inl (omega arith)) within is) run steps)

tenth_spared : (log : Log) (rule : IntervalRule) (h : MarkedHistory) (x p : ℕ) (a : State) → p < length (tenth_of h x) → Run (track_at log rule.channel).rules (pos 0) (start_of (plain h) rule.channel) (map (letters (track_at log rule.channel)) (take x (plain h).events)) a → ((y q : ℕ) → ComesBefore y q x p → q < length (tenth_of h y) → (get_or (tenth_of h y) q no_event).lost ≡ true → KeptInHistory log rule h y q) → Spared (track_at log rule.channel) (asked_of rule) x a (take p (tenth_of h x))
tenth_spared log rule h x p a lt run earlier = spared_by (track_at log rule.channel) (asked_of rule) x (take p (tenth_of h x)) a (λ q v less lost steps.
    let c = track_at log rule.channel in
    let es = tenth_of h x in
    let size : length (take p es) ≡ p = length-take-le p es (omega arith) in
    let here : get_or (take p es) q no_event ≡ get_or es q no_event = get_or-take p es q no_event (omega arith) in
    let front : take q (events_of (take p es)) ≡ take q (get_or (plain h).events x []) = ap (λ zs. take q zs) (sym (take-events_of p es)) ∙ (take-take q p (events_of es) (omega arith) ∙ ap (λ zs. take q zs) (sym (events_at_tenth h x (tenth_within h x p lt)))) in
    let steps2 : Steps c.rules (pos x) a (letters c (take q (get_or (plain h).events x []))) v = subst (λ (zs : List Event). Steps c.rules (pos x) a (letters c zs) v) front steps in
    let is : (get_or es q no_event).lost ≡ true = subst (λ (e : Marked). e.lost ≡ true) here lost in
    subst (λ (e : Marked). KeptBy c (asked_of rule) x e.event v) (sym here) (earlier x q (inr (refl, omega arith)) (omega arith) is v (a, run, steps2)))

-- the line's row, and what comes after it
from_row : (k : Track) (x l g : ℕ) (e : Event) (given rest : List Event) (v w b : State) → given ≡ e ∷ rest → k.letter e.code e.param ≡ Some l → Steps k.rules (pos x) v (put (k.letter e.code e.param) []) w → LostWalk k.rules nothing_asked x (letters_in x (letters k rest)) (x + 1) g w b → LostWalk k.rules nothing_asked (x + 1) (letters_in x (letters k given)) (x + 1) g v b
from_row k x l g e given rest v w b parts is step walk =
    let (z, one, same) = (subst (λ (o : Option ℕ). Steps k.rules (pos x) v (put o []) w) is step) in
    let first : letters k given ≡ l ∷ letters k rest = ap (λ zs. letters k zs) parts ∙ ap (λ (o : Option ℕ). put o (letters k rest)) is in
    subst (λ (ls : List ℕ). LostWalk k.rules nothing_asked (x + 1) (letters_in x ls) (x + 1) g v b) (sym first) (0, g, omega arith, (v, w, refl, subst (λ (y : State). Step k.rules (pos x) v l y) (sym same) one, walk))

pub row_to : (log : Log) (line : IntervalLine) (k : ℕ) → IsChannelsRow log line → ExplainsInterval log line k → (j : ℕ) × (j ≤ k) × ChannelExplains log line j
row_to log line k is (h, loses, (p, lt, held, before, kept, earlier)) =
    let rule = line.rule in
    let i = rule.channel in
    let x = line.at in
    let c = track_at log i in
    let es = tenth_of h x in
    let given = events_at log.rows x in
    let s = start_of (plain h) i in
    let e = (get_or es p no_event).event in
    let within = tenth_within h x p lt in
    let covers = loses.covers in
    let size : length (plain h).events ≡ length h.tenths = length-map h.tenths events_of in
    let at = events_at_tenth h x within in
    let (u, r) = loses.legal i is.channel in
    let (a, run, after) = run_cut c (plain h).events x s u (omega arith) r in
    let (b, here, rest) = run_tenth c (plain h).events x a u (omega arith) after in
    let (v, w, one, two, three) = steps_cut c (pos x) es p a b lt (subst (λ (zs : List Event). Steps c.rules (pos x) a (letters c zs) b) at here) in
    let comes = subst (λ (zs : List Event). Steps c.rules (pos x) a (letters c (take p zs)) v) (sym at) one in
    let (j1, few1, to) = front_walk log h k i x (asked_of rule) a loses is.channel (omega arith) run (front_spared log rule h x p (omega arith) earlier) in
    let (j2, few2, walk) = tenth_walk c (asked_of rule) x (take p es) a v (subst (λ (zs : List Event). Steps c.rules (pos x) a (letters c zs) v) (take-events_of p es) one) (tenth_spared log rule h x p a lt run earlier) in
    let (j3, few3, on) = tenth_walk c nothing_asked x (drop (suc p) es) w b three (spared_free c x (drop (suc p) es) w) in
    let (j4, few4, last) = back_walk log h k i (x + 1) b u loses (omega arith) rest in
    let told_is : told es ≡ given =
    let size2 : length (map told h.tenths) ≡ length h.tenths = length-map h.tenths told in
    sym (get_or-map told h.tenths x [] [] within) ∙ agree_at [] log.known (events_at log.rows) 0 x x (map told h.tenths) (omega arith) (omega arith) is.row.is_known loses.agree in
    let parts : given ≡ told (take p es) ++ e ∷ told (drop (suc p) es) = sym told_is ∙ told_held es p lt held in
    let front : take line.before given ≡ told (take p es) = ap (λ zs. take line.before zs) parts ∙ take_at (told (take p es)) (e ∷ told (drop (suc p) es)) line.before before in
    let back : drop line.before given ≡ e ∷ told (drop (suc p) es) = ap (λ zs. drop line.before zs) parts ∙ drop_at (told (take p es)) (e ∷ told (drop (suc p) es)) line.before before in
    let row : row_of log line ≡ e = ap (λ zs. get_or zs line.before (record { code = 0; param = 0 })) parts ∙ get_or_at (told (take p es)) e (told (drop (suc p) es)) (record { code = 0; param = 0 }) line.before before in
    let letter : c.letter e.code e.param ≡ Some is.letter = subst (λ (z : Event). c.letter z.code z.param ≡ Some is.letter) row is.is_letter in
    let c1 = lost_cut h.tenths x in
    let c2 = lost_tenth h.tenths x within in
    let c3 = lost_held es p lt held in
    let count = loses.count in (
      j1 + j2 + (j3 + j4),
      omega arith,
      (
        v,
        (
          j1 + j2,
          j3 + j4,
          refl,
          (j1, j2, refl, (a, to, subst (λ (zs : List Event). LostWalk c.rules (asked_of rule) x (letters_in x (letters c zs)) (x + 1) j2 a v) (sym front) walk)),
          (j3, j4, refl, (b, from_row c x is.letter j3 e (drop line.before given) (told (drop (suc p) es)) v w b back letter two on, last)),
        ),
        subst (λ (z : Event). KeptBy c (asked_of rule) x z v) (sym row) (kept v (a, run, comes)),
      ),
    )

pub interval_to : IntervalIsOfChannel
interval_to log line n is (k, le, explains) =
    let (j, few, may) = row_to log line k is explains in
    (j, omega arith, may)
