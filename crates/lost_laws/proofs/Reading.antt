-- What a history of which rows were lost says of one channel.
use Rattle.std.proofs.Common.{suc, zero, ◌≡◌, ◌≢◌, refl, sym, ◌∙◌, subst, ◌⊎◌, inl, inr, ℕ, ◌+◌, ◌<◌, ◌≤◌, pos, Bool, true, List, [], ◌∷◌, length, map, take, get_or, arith, Option, Some, None}
use Rattle.std.proofs.lemmas.Int.{ints}
use Rattle.std.proofs.lemmas.Bool.{cases_Bool}
use Rattle.colour_machine.specs.Rules.{Rules, Goes}
use Rattle.reach.specs.Runs.{State, Step, Steps, Run}
use Rattle.reach.specs.Tests.{InBound}
use Rattle.board.specs.History.{Agree, Event, Track, letters, put}
use Rattle.lost_rows.specs.declared.asked.Asked.{Asked}
use Rattle.lost_rows.specs.Stills.{LostRow}
use Rattle.lost_rows.specs.Walks.{LostWalk, nothing_asked}
use Rattle.lost_rows.specs.Marked.{Marked, events_of, lost_in, lost_of, told}
use Rattle.lost_rows.specs.Lines.{no_event}
use Rattle.lost_laws.specs.Tenths.{LosesOver, letters_in}
use Rattle.lost_laws.proofs.Places.{put_cut, put_join}

-- the event, in this state of the channel at tenth x, keeps what is asked of lost rows
abbrev pub KeptBy : Track → Asked → ℕ → Event → State → Type 0
KeptBy k r x e v = v.colour ≡ r.colour → (l d : ℕ) → k.letter e.code e.param ≡ Some l → Goes k.rules v.colour l d → d ≢ v.colour → InBound r.bound (pos x) v.entry

-- so does each lost event of tenth x, from state s on
abbrev pub Spared : Track → Asked → ℕ → State → List Marked → Type 0
Spared k r x s [] = Unit {0}
Spared k r x s (e ∷ es) = ((e.lost ≡ true) → KeptBy k r x e.event s) × ((u : State) → Steps k.rules (pos x) s (put (k.letter e.event.code e.event.param) []) u → Spared k r x u es)

-- and each of the tenths from x on
abbrev pub AllSpared : Track → Asked → ℕ → State → List (List Marked) → Type 0
AllSpared k r x s [] = Unit {0}
AllSpared k r x s (es ∷ ts) = Spared k r x s es × ((u : State) → Steps k.rules (pos x) s (letters k (events_of es)) u → AllSpared k r (x + 1) u ts)

-- a lost event changes nothing of the channel, or is a lost row of it
lost_step : (k : Track) (r : Asked) (x : ℕ) (e : Event) (s v : State) (o : Option ℕ) → KeptBy k r x e s → k.letter e.code e.param ≡ o → Steps k.rules (pos x) s (put o []) v → (v ≡ s) ⊎ LostRow k.rules r (pos x) s v
lost_step k r x e s v None kept is same = inl same
lost_step k r x e s v (Some l) kept is (w, (g, c), same) = elim c [
  | inl stays ↦ inl (same ∙ stays)
  | inr (ne, at, old) ↦ inr (subst (λ (z : State). LostRow k.rules r (pos x) s z) (sym same) (l, (g, inr (ne, at, old)), ne, λ colour. kept colour l w.colour is g ne))
]

-- a lost row before a walk over a tenth
pub lost_first : (m : Rules) (r : Asked) (x : ℕ) (ls : List ℕ) (j : ℕ) (s v u : State) → LostRow m r (pos x) s v → LostWalk m r x (letters_in x ls) (x + 1) j v u → LostWalk m r x (letters_in x ls) (x + 1) (suc j) s u
lost_first m r x [] j s v u w rows = (pos x, omega (arith, ints), omega (arith, ints), (v, w, rows))
lost_first m r x (l ∷ ls) j s v u w (a, b, e, (y, z, rows, step, rest)) = (suc a, b, omega arith, (y, z, (pos x, omega (arith, ints), omega (arith, ints), (v, w, rows)), step, rest))

-- a held row before one
pub held_first : (k : Track) (r : Asked) (x : ℕ) (o : Option ℕ) (ls : List ℕ) (j : ℕ) (s v u : State) → Steps k.rules (pos x) s (put o []) v → LostWalk k.rules r x (letters_in x ls) (x + 1) j v u → LostWalk k.rules r x (letters_in x (put o ls)) (x + 1) j s u
held_first k r x None ls j s v u same walk = subst (λ (z : State). LostWalk k.rules r x (letters_in x ls) (x + 1) j z u) same walk
held_first k r x (Some l) ls j s v u (w, step, same) walk = (0, j, omega arith, (s, v, refl, subst (λ (z : State). Step k.rules (pos x) s l z) (sym same) step, walk))

-- the marked events of one tenth are a walk over the held ones
pub tenth_walk : (k : Track) (r : Asked) (x : ℕ) (es : List Marked) (s u : State) → Steps k.rules (pos x) s (letters k (events_of es)) u → Spared k r x s es → (j : ℕ) × (j ≤ lost_of es) × LostWalk k.rules r x (letters_in x (letters k (told es))) (x + 1) j s u
tenth_walk k r x [] s u same sp = (0, omega arith, same)
tenth_walk k r x (e ∷ es) s u steps (kept, sp) =
    let o = k.letter e.event.code e.event.param in
    let (v, one, rest) = put_cut k (pos x) o (letters k (events_of es)) s u steps in
    let (j, le, walk) = tenth_walk k r x es v u rest (sp v one) in
    elim (cases_Bool e.lost) [
      | inl lost ↦ rw lost (elim (lost_step k r x e.event s v o (kept lost) refl one) [
        | inl same ↦ (j, omega arith, subst (λ (z : State). LostWalk k.rules r x (letters_in x (letters k (told es))) (x + 1) j z u) same walk)
        | inr row ↦ (suc j, omega arith, lost_first k.rules r x (letters k (told es)) j s v u row walk)
      ])
      | inr held ↦ rw held (j, le, held_first k r x o (letters k (told es)) j s v u one walk)
    ]

-- the marked events of some tenths are a run with lost rows
pub tenths_walk : (k : Track) (known : ℕ → Bool) (given : ℕ → List Event) (r : Asked) (x : ℕ) (ts : List (List Marked)) (s u : State) → Run k.rules (pos x) s (map (letters k) (map events_of ts)) u → Agree known given x (map told ts) → AllSpared k r x s ts → (j : ℕ) × (j ≤ lost_in ts) × LosesOver k known given r x (length ts) j s u
tenths_walk k known given r x [] s u same agree sp = (0, omega arith, (refl, same))
tenths_walk k known given r x (es ∷ ts) s u (v, steps, run) (here, agree) (spared, sp) =
    let (b, less, rest) = tenths_walk k known given r (x + 1) ts v u run agree (sp v steps) in
    elim (cases_Bool (known x)) [
      | inl is ↦
          let (a, le, walk) = tenth_walk k r x es s v steps spared in
          (a + b, omega arith, (a, b, refl, (v, inl (is, subst (λ (gs : List Event). LostWalk k.rules r x (letters_in x (letters k gs)) (x + 1) a s v) (here is) walk), rest)))
      | inr not ↦ (b, omega arith, (0, b, omega arith, (v, inr (not, refl, (letters k (events_of es), steps)), rest)))
    ]

-- ---- what is asked of lost rows, place by place

pub spared_by : (k : Track) (r : Asked) (x : ℕ) (es : List Marked) (s : State) → ((q : ℕ) (v : State) → q < length es → (get_or es q no_event).lost ≡ true → Steps k.rules (pos x) s (letters k (take q (events_of es))) v → KeptBy k r x (get_or es q no_event).event v) → Spared k r x s es
spared_by k r x [] s h = tt
spared_by k r x (e ∷ es) s h = (
  λ lost. h 0 s (omega arith) lost refl,
  λ u one. spared_by k r x es u (λ q v lt lost rest. h (suc q) v (omega arith) lost (put_join k (pos x) (k.letter e.event.code e.event.param) (letters k (take q (events_of es))) s u v one rest)),
)

pub all_spared_by : (k : Track) (r : Asked) (x : ℕ) (ts : List (List Marked)) (s : State) → ((y q z : ℕ) (a v : State) → x + y ≡ z → y < length ts → q < length (get_or ts y []) → (get_or (get_or ts y []) q no_event).lost ≡ true → Run k.rules (pos x) s (map (letters k) (take y (map events_of ts))) a → Steps k.rules (pos z) a (letters k (take q (events_of (get_or ts y [])))) v → KeptBy k r z (get_or (get_or ts y []) q no_event).event v) → AllSpared k r x s ts
all_spared_by k r x [] s h = tt
all_spared_by k r x (es ∷ ts) s h = (
  spared_by k r x es s (λ q v lt lost steps. h 0 q x s v (omega arith) (omega arith) lt lost refl steps),
  λ u steps. all_spared_by k r (x + 1) ts u (λ y q z a v e l1 l2 lost run rest. h (suc y) q z a v (omega arith) (omega arith) l2 lost (u, steps, run) rest),
)

pub spared_free : (k : Track) (x : ℕ) (es : List Marked) (s : State) → Spared k nothing_asked x s es
spared_free k x es s = spared_by k nothing_asked x es s (λ q v lt lost steps same l d is goes ne. tt)

pub all_spared_free : (k : Track) (x : ℕ) (ts : List (List Marked)) (s : State) → AllSpared k nothing_asked x s ts
all_spared_free k x ts s = all_spared_by k nothing_asked x ts s (λ y q z a v e l1 l2 lost run steps same l d is goes ne. tt)

-- the same the other way round
pub spared_to : (k : Track) (r : Asked) (x : ℕ) (es : List Marked) (s : State) (q : ℕ) (v : State) → Spared k r x s es → q < length es → (get_or es q no_event).lost ≡ true → Steps k.rules (pos x) s (letters k (take q (events_of es))) v → KeptBy k r x (get_or es q no_event).event v
spared_to k r x [] s q v sp lt lost steps = absurd (omega arith)
spared_to k r x (e ∷ es) s zero v (kept, sp) lt lost same = subst (λ (z : State). KeptBy k r x e.event z) (sym same) (kept lost)
spared_to k r x (e ∷ es) s (suc q) v (kept, sp) lt lost steps =
    let (w, one, rest) = put_cut k (pos x) (k.letter e.event.code e.event.param) (letters k (take q (events_of es))) s v steps in
    spared_to k r x es w q v (sp w one) (omega arith) lost rest

pub all_spared_to : (k : Track) (r : Asked) (x : ℕ) (ts : List (List Marked)) (s : State) (y q z : ℕ) (a v : State) → AllSpared k r x s ts → x + y ≡ z → y < length ts → q < length (get_or ts y []) → (get_or (get_or ts y []) q no_event).lost ≡ true → Run k.rules (pos x) s (map (letters k) (take y (map events_of ts))) a → Steps k.rules (pos z) a (letters k (take q (events_of (get_or ts y [])))) v → KeptBy k r z (get_or (get_or ts y []) q no_event).event v
all_spared_to k r x [] s y q z a v sp e l1 l2 lost run steps = absurd (omega arith)
all_spared_to k r x (es ∷ ts) s zero q z a v (here, sp) e l1 l2 lost same steps =
    let now : x ≡ z = omega arith in
    subst (λ (t : ℕ). Steps k.rules (pos t) a (letters k (take q (events_of es))) v → KeptBy k r t (get_or es q no_event).event v) now (λ st. spared_to k r x es s q v here l2 lost (subst (λ (b : State). Steps k.rules (pos x) b (letters k (take q (events_of es))) v) same st)) steps
all_spared_to k r x (es ∷ ts) s (suc y) q z a v (here, sp) e l1 l2 lost (w, steps, run) rest = all_spared_to k r (x + 1) ts w y q z a v (sp w steps) (omega arith) (omega arith) l2 lost run rest
