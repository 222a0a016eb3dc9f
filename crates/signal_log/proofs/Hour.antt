-- An hour of one channel and its window: the states before the hour, and the runs over it.
use Rattle.std.proofs.Common.{◌≡◌, refl, ap, sym, ◌∙◌, subst, inl, inr, ◌↔◌, ℕ, ◌+◌, ◌*◌, ◌<◌, ◌≤◌, ℤ, pos, ◌+ℤ◌, ◌-ℤ◌, ◌<ℤ◌, Bool, true, List, [], length, get_or, arith, Option}
use Rattle.std.specs.Prelude.{is_some}
use Rattle.std.proofs.lemmas.Int.{ints}
use Rattle.colour_machine.specs.Rules.{Rules, IsMachine}
use Rattle.span_set.specs.declared.set.Span.{Span}
use Rattle.span_set.proofs.Sets.{int_cases}
use Rattle.reach.specs.Runs.{State, state}
use Rattle.reach.specs.Past.{Holds}
use Rattle.reach.specs.Ahead.{Admits}
use Rattle.reach.proofs.States.{state_same}
use Rattle.sig_base.specs.declared.values.Row.{Row}
use Rattle.gap_map.specs.declared.stretch.Stretch.{Stretch}
use Rattle.gap_map.specs.Stretches.{IsCut, known_at, known_in}
use Rattle.channel_tables.specs.declared.spec.Spec.{Spec}
use Rattle.channel_tables.proofs.Machines.{spec_machine}
use Rattle.hour_store.specs.Store.{IsStore, Store, is_known, known_rows, rows_at}
use Rattle.board.specs.History.{Agreeing, Event, Track, events_at}
use Rattle.board.specs.Channels.{AreSpecs, track}
use Rattle.board.specs.Logs.{first_tenth, end_tenth, no_spec}
use Rattle.board.specs.Hours.{AreClampedPasts, AreHourAheads, Clamped, IsAfterHour}
use Rattle.board.specs.Places.{AllEarly, AreAheadsOf}
use Rattle.board.specs.Stops.{AreBefore}
use Rattle.board.proofs.Alike.{Alike, agreeing_alike}
use Rattle.board.proofs.Bridge.{agreeing_join}
use Rattle.board.proofs.Plain.{agreeing_early}
use Rattle.signal_log.specs.Log.{IsBeforeWindow, log_of}
use Rattle.signal_log.specs.Points.{AreAheadsAt, ArePastsAt, HasHour, rows_or_none}
use Rattle.signal_log.proofs.Runs.{agreeing_colour, agreeing_known}
use Rattle.signal_log.proofs.Stored.{cut_known, hour_events, known_cut}

-- a run of the channel from before the window leads to the state at tenth t
abbrev pub Reached : Track → (ℕ → Bool) → (ℕ → List Event) → ℕ → State → Type 0
Reached k known given t u = (s : State) × IsBeforeWindow k.rules s × Agreeing k known given 0 t s u

pub reached_colour : (k : Track) (known : ℕ → Bool) (given : ℕ → List Event) (t : ℕ) (u : State) → IsMachine k.rules → Reached k known given t u → u.colour < k.rules.colours
reached_colour k known given t u laws (s, bw, g) = (agreeing_colour k known given 0 t s u laws g).0 bw.0

-- the hour tells of the tenths from f up to t what the window tells
abbrev pub SameIn : (ℕ → Bool) → (ℕ → List Event) → (ℕ → Bool) → (ℕ → List Event) → ℕ → ℕ → Type 0
SameIn K G known given f t = (x : ℕ) → f ≤ x → x < t → (K x ≡ known x) × (known x ≡ true → G x ≡ given x)

pub run_in : (k : Track) (K : ℕ → Bool) (G : ℕ → List Event) (known : ℕ → Bool) (given : ℕ → List Event) (f t a b : ℕ) (s u : State) → SameIn K G known given f t → f ≤ a → b ≤ t → Agreeing k K G a b s u ↔ Agreeing k known given a b s u
run_in k K G known given f t a b s u same la lb = (
  agreeing_known k K known G given a b s u (λ x l1 l2 is. let (e, g) = same x (omega arith) (omega arith) in (e ∙ is, g is)),
  agreeing_known k known K given G a b s u (λ x l1 l2 is. let (e, g) = same x (omega arith) (omega arith) in let is2 : known x ≡ true = sym e ∙ is in (is2, sym (g is2))),
)

module _ (k : Track) (laws : IsMachine k.rules) (known : ℕ → Bool) (given : ℕ → List Event) (f : ℕ) (before : List (List Span)) (states : (u : State) → Holds before u ↔ Clamped (pos f -ℤ pos 36001) (Reached k known given f) u) where
  -- each state that is held is alike to one that is reached
  pub held_reached : (s : State) → Holds before s → (r : State) × Reached k known given f r × Alike k.rules (pos f) s r
  held_reached s h = elim ((states s).0 h) [
    | inl (r, le) ↦ (s, r, (reached_colour k known given f s laws r, refl, inl refl))
    | inr (e, (x, r, lt)) ↦ (state s.colour x, r, (reached_colour k known given f (state s.colour x) laws r, refl, inr (omega (arith, ints), omega (arith, ints))))
  ]

  -- and the other way round
  pub reached_held : (r : State) → Reached k known given f r → (s : State) × Holds before s × Alike k.rules (pos f) r s
  reached_held r h = elim (int_cases r.entry (pos f -ℤ pos 36001)) [
    | inr (_, le) ↦ (r, (states r).1 (inl (h, le)), (reached_colour k known given f r laws h, refl, inl refl))
    | inl (_, lt) ↦ let s = state r.colour (pos f -ℤ pos 36001) in (s, (states s).1 (inr (refl, (r.entry, h, lt))), (reached_colour k known given f r laws h, refl, inr (omega (arith, ints), omega (arith, ints))))
  ]

  module _ (K : ℕ → Bool) (G given1 : ℕ → List Event) (y : ℕ) (same : SameIn K G known given1 f y) (early : (x : ℕ) → x < f → known x ≡ true → given x ≡ given1 x) (le : f ≤ y) where
    -- a run of the hour from a state that is held is one of the window, but for what is alike
    pub run_on : (s v : State) → Holds before s → Agreeing k K G f y s v → (w : State) × Reached k known given1 y w × Alike k.rules (pos f) v w
    run_on s v h g =
        let (r, (s0, bw, g0), a) = held_reached s h in
        let g1 = (run_in k K G known given1 f y f y s v same (omega arith) (omega arith)).0 g in
        let (w, g2, b) = agreeing_alike k known given1 f y s r v laws a g1 in
        let g3 = agreeing_known k known known given given1 0 f s0 r (λ x l1 l2 is. (is, early x l2 is)) g0 in
        (w, (s0, bw, (agreeing_join k known given1 0 f y s0 w (omega arith) le).1 (r, g3, g2)), b)

    pub run_back : (v : State) → Reached k known given1 y v → (w : State) × ((s : State) × Holds before s × Agreeing k K G f y s w) × Alike k.rules (pos f) v w
    run_back v (s0, bw, g) =
        let (r, g1, g2) = (agreeing_join k known given1 0 f y s0 v (omega arith) le).0 g in
        let g3 = agreeing_known k known known given1 given 0 f s0 r (λ x l1 l2 is. (is, sym (early x l2 is))) g1 in
        let (s, h, a) = reached_held r (s0, bw, g3) in
        let (w, g4, b) = agreeing_alike k known given1 f y r s v laws a g2 in
        (w, (s, h, (run_in k K G known given1 f y f y s w same (omega arith) (omega arith)).1 g4), b)

-- states that are alike are one when clamped later
clamp_to : (m : Rules) (p limit : ℤ) (P Q : State → Type 0) → p <ℤ (limit +ℤ pos 36001) → ((u : State) → P u → (v : State) × Q v × Alike m p u v) → (u : State) → Clamped limit P u → Clamped limit Q u
clamp_to m p limit P Q late to u c = elim c [
  | inl (h, le) ↦ let (v, q, (few, same, a)) = to u h in inl (elim a [ inl e ↦ subst (λ (z : State). Q z) e q | inr (x, y) ↦ absurd (omega (arith, ints)) ], le)
  | inr (e, (x, h, lt)) ↦
      let (v, q, (few, same, a)) = to (state u.colour x) h in
      let here : Q (state u.colour v.entry) = subst (λ (z : State). Q z) (state_same v (state u.colour v.entry) same refl) q in
      let below : v.entry <ℤ limit = elim a [ inl is ↦ let i : v.entry ≡ x = ap (λ (z : State). z.entry) is in omega (arith, ints) | inr (y, z) ↦ omega (arith, ints) ] in
      inr (e, (v.entry, here, below))
]

-- the states after the hour, one channel
pub after_point : (k : Track) (known : ℕ → Bool) (given : ℕ → List Event) (f t : ℕ) (rows : List Row) (ss : List Stretch) (before : List (List Span)) → IsMachine k.rules → f < t → SameIn (known_at ss) (events_at rows) known given f t → ((u : State) → Holds before u ↔ Clamped (pos f -ℤ pos 36001) (Reached k known given f) u) → (u : State) → Clamped (pos t -ℤ pos 36001) (IsAfterHour k rows ss f t before) u ↔ Clamped (pos t -ℤ pos 36001) (Reached k known given t) u
after_point k known given f t rows ss before laws lt same states u =
    let K = known_at ss in
    let G = events_at rows in (
      clamp_to k.rules (pos f) (pos t -ℤ pos 36001) (IsAfterHour k rows ss f t before) (Reached k known given t) (omega (arith, ints)) (λ v (s, h, g). run_on k laws known given f before states K G given t same (λ x l is. refl) (omega arith) s v h g) u,
      clamp_to k.rules (pos f) (pos t -ℤ pos 36001) (Reached k known given t) (IsAfterHour k rows ss f t before) (omega (arith, ints)) (λ v r. run_back k laws known given f before states K G given t same (λ x l is. refl) (omega arith) v r) u,
    )

-- what a cut hour tells of the store
pub cut_tells : (s : Store) (hour : ℕ) (rows : Option (List Row)) (ss : List Stretch) → IsStore s → hour < length s.hours → rows_at s hour ≡ rows → IsCut (is_known s) (36000 * hour) (36000 * hour + 36000) ss → SameIn (known_at ss) (events_at (rows_or_none rows)) (is_known s) (events_at (known_rows s)) (first_tenth hour) (end_tenth hour)
cut_tells s hour rows ss is lt held cut x l1 l2 = (known_cut s hour x ss cut l1 l2, λ there. sym (hour_events s hour x rows is lt held l1 l2 there))

pub hour_same : (s : Store) (hour : ℕ) (rows : Option (List Row)) (blanks : List Span) (ss : List Stretch) → HasHour s hour rows blanks → IsCut (known_in (is_some rows) blanks) (36000 * hour) (36000 * hour + 36000) ss → SameIn (known_at ss) (events_at (rows_or_none rows)) (is_known s) (events_at (known_rows s)) (first_tenth hour) (end_tenth hour)
hour_same s hour rows blanks ss has cut = cut_tells s hour rows ss has.is_store has.within has.held (cut_known s hour rows blanks ss has cut)

-- from one point to the next
pub pasts_at : (specs : List Spec) (s : Store) (hour : ℕ) (rows : Option (List Row)) (blanks : List Span) (ss : List Stretch) (before pasts : List (List (List Span))) → AreSpecs specs → HasHour s hour rows blanks → IsCut (known_in (is_some rows) blanks) (36000 * hour) (36000 * hour + 36000) ss → ArePastsAt (log_of specs s) hour before → AreBefore specs pasts → AllEarly (end_tenth hour) pasts → AreClampedPasts specs (rows_or_none rows) ss (first_tenth hour) (end_tenth hour) before pasts → ArePastsAt (log_of specs s) (hour + 1) pasts
pasts_at specs s hour rows blanks ss before pasts are has cut at shape early clamped =
    let next : end_tenth hour ≡ first_tenth (hour + 1) = omega arith in
    let same = hour_same s hour rows blanks ss has cut in
    record {
      shape = shape;
      early = subst (λ (t : ℕ). AllEarly t pasts) next early;
      states = λ i lt u.
          let k = track (get_or specs i no_spec) in
          let laws : IsMachine k.rules = spec_machine (get_or specs i no_spec) (are.fit i no_spec lt) in
          let one = clamped i lt u in
          let two = after_point k (is_known s) (events_at (known_rows s)) (first_tenth hour) (end_tenth hour) (rows_or_none rows) ss (get_or before i []) laws (omega arith) same (at.states i lt) u in
          subst (λ (t : ℕ). Holds (get_or pasts i []) u ↔ Clamped (pos t -ℤ pos 36001) (Reached k (is_known s) (events_at (known_rows s)) t) u) next ((λ h. two.0 (one.0 h)), λ c. one.1 (two.1 c));
    }

-- and back
pub aheads_at : (specs : List Spec) (s : Store) (hour : ℕ) (rows : Option (List Row)) (blanks : List Span) (ss : List Stretch) (after aheads : List (List (Option ℤ))) → AreSpecs specs → HasHour s hour rows blanks → IsCut (known_in (is_some rows) blanks) (36000 * hour) (36000 * hour + 36000) ss → AreAheadsAt (log_of specs s) (hour + 1) after → AreAheadsOf specs aheads → AreHourAheads specs (rows_or_none rows) ss (first_tenth hour) (end_tenth hour) after (length specs) aheads → AreAheadsAt (log_of specs s) hour aheads
aheads_at specs s hour rows blanks ss after aheads are has cut at shape steps = record {
  shape = shape;
  states = λ i lt u.
      let k = track (get_or specs i no_spec) in
      let laws : IsMachine k.rules = spec_machine (get_or specs i no_spec) (are.fit i no_spec lt) in
      let known = is_known s in
      let given = events_at (known_rows s) in
      let f = first_tenth hour in
      let t = end_tenth hour in
      let T = 36000 * length s.hours in
      let next : first_tenth (hour + 1) ≡ t = omega arith in
      let inside : t ≤ T = (let w = has.within in omega arith) in
      let same = hour_same s hour rows blanks ss has cut in
      let step = (steps i lt).1 u in
      let join = λ (w : State). agreeing_join k known given f t T u w (omega arith) inside in
      let there = λ (v : State). subst (λ (y : ℕ). Admits (get_or after i []) v ↔ ((v.colour < k.rules.colours) × (v.entry <ℤ pos y) × ((w : State) × Agreeing k known given y T v w))) next (at.states i lt v) in (
        (λ ad.
            let (early, (v, g, adv)) = step.0 ad in
            let (few, _, (w, g2)) = (there v).0 adv in
            let g1 = (run_in k (known_at ss) (events_at (rows_or_none rows)) known given f t f t u v same (omega arith) (omega arith)).0 g in
            ((agreeing_colour k known given f t u v laws g1).1 few, early, (w, (join w).1 (v, g1, g2)))),
        λ (few, early, (w, g)).
            let (v, g1, g2) = (join w).0 g in
            let g3 = (run_in k (known_at ss) (events_at (rows_or_none rows)) known given f t f t u v same (omega arith) (omega arith)).1 g1 in
            step.1 (early, (v, g3, (there v).1 ((agreeing_colour k known given f t u v laws g1).0 few, agreeing_early k known given f t u v g1 early, (w, g2)))),
      );
}
