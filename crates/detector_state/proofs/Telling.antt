-- The masks have the colours that are reached.
use Rattle.std.proofs.Common.{suc, zero, ◌≡◌, refl, ap, sym, ◌∙◌, subst, ◌↔◌, inl, inr, ℕ, ◌+◌, ◌<◌, ◌≤◌, ℤ, pos, negsuc, ◌≤ℤ◌, ◌<ℤ◌, Bool, true, false, if◌then◌else◌, List, [], ◌∷◌, length, arith}
use Rattle.std.proofs.lemmas.Int.{ints}
use Rattle.std.proofs.lemmas.Bool.{cases_Bool}
use Rattle.colour_machine.specs.Mask.{Has}
use Rattle.colour_machine.specs.Rules.{IsMachine, Leads, Rules}
use Rattle.reach.specs.Runs.{State, state, Steps}
use Rattle.board.specs.History.{Agree, Agreeing, Event, Track, letters}
use Rattle.board.proofs.Bridge.{agreeing_first, agreeing_join, agreeing_none}
use Rattle.board.proofs.Tracks.{Lettered}
use Rattle.board.proofs.Plain.{agreeing_early}
use Rattle.signal_log.proofs.Hour.{Reached}
use Rattle.signal_log.proofs.Runs.{agreeing_colour}
use Rattle.detector_state.specs.Free.{IsFree, IsMixed}
use Rattle.detector_state.proofs.Free.{run_is, step_goes}
use Rattle.detector_state.proofs.Filling.{fill, fill-agrees, fill-length, fill_small, letters_small}
use Rattle.detector_state.specs.Masks.{all_below}
use Rattle.detector_state.proofs.Masks.{after, after_is, has_all_below}

steps_lead : (m : Rules) (t : ℤ) (ls : List ℕ) (s u : State) → Steps m t s ls u → Leads m s.colour ls u.colour
steps_lead m t [] s u e = ap (λ (z : State). z.colour) (sym e)
steps_lead m t (l ∷ ls) s u (v, st, more) = (v.colour, st.0, steps_lead m t ls v u more)

lead_steps : (m : Rules) → IsFree m → (t : ℤ) (ls : List ℕ) (s : State) (d : ℕ) → s.entry ≤ℤ t → Leads m s.colour ls d → (u : State) × Steps m t s ls u × (u.colour ≡ d)
lead_steps m free t [] s d early e = (s, refl, e)
lead_steps m free t (l ∷ ls) s d early (x, g, more) =
    let (v, st, c, e) = step_goes m free t s l x early g in
    let (u, rest, f) = lead_steps m free t ls v d e (subst (λ (z : ℕ). Leads m z ls d) (sym c) more) in
    (u, (v, st, rest), f)

module _ (k : Track) (mixed : IsMixed k.rules) (laws : IsMachine k.rules) (lettered : Lettered k) (known : ℕ → Bool) (given : ℕ → List Event) where
  -- a run leads from before the window to the colour at tenth t
  abbrev pub ReachedColour : ℕ → ℕ → Type 0
  ReachedColour t c = (u : State) × Reached k known given t u × (u.colour ≡ c)

  few : k.rules.colours ≤ 16
  few = laws.few_colours

  abbrev pub after_one : ℕ → ℕ → ℕ
  after_one t mask = if known t then after k.rules mask (letters k (given t)) else all_below k.rules.colours

  abbrev pub IsReachedBy : ℕ → ℕ → Type 0
  IsReachedBy t mask = (c : ℕ) → Has mask c ↔ ReachedColour t c

  reached_early : (t : ℕ) (u : State) → Reached k known given t u → u.entry <ℤ pos t
  reached_early t u (s, bw, g) = agreeing_early k known given 0 t s u g bw.1

  reached_few : (t : ℕ) (u : State) → Reached k known given t u → u.colour < k.rules.colours
  reached_few t u (s, bw, g) = (agreeing_colour k known given 0 t s u laws g).0 bw.0

  -- one tenth more
  reached_on : (t : ℕ) (u v : State) → Reached k known given t u → Agreeing k known given t (t + 1) u v → Reached k known given (t + 1) v
  reached_on t u v (s, bw, g) h = (s, bw, (agreeing_join k known given 0 t (t + 1) s v (omega arith) (omega arith)).1 (u, g, h))

  reached_back : (t : ℕ) (v : State) → Reached k known given (t + 1) v → (u : State) × Reached k known given t u × Agreeing k known given t (t + 1) u v
  reached_back t v (s, bw, g) = let (u, g1, g2) = (agreeing_join k known given 0 t (t + 1) s v (omega arith) (omega arith)).0 g in (u, (s, bw, g1), g2)

  -- a known tenth
  known_tenth : (t mask : ℕ) → known t ≡ true → IsReachedBy t mask → IsReachedBy (t + 1) (after k.rules mask (letters k (given t)))
  known_tenth t mask held is d =
      let ls = letters k (given t) in
      let both = after_is k.rules few laws.stays ls mask d (letters_small k lettered (given t)) in
      let first = λ (u v : State). agreeing_first k known given t (t + 1) u v (omega arith) held in
      let none = λ (z v : State). agreeing_none k known given (t + 1) z v in (
        (λ h.
            let (c, hc, lead) = both.0 h in
            let (u, r, e) = (is c).0 hc in
            let early = reached_early t u r in
            let (v, st, f) = lead_steps k.rules mixed.free (pos t) ls u d (omega (arith, ints)) (subst (λ (z : ℕ). Leads k.rules z ls d) (sym e) lead) in
            (v, reached_on t u v r ((first u v).1 (v, st, (none v v).1 refl)), f)),
        λ (v, r, f).
            let (u, r0, g) = reached_back t v r in
            let (z, st, g2) = (first u v).0 g in
            let same : v ≡ z = (none z v).0 g2 in
            let lead = steps_lead k.rules (pos t) ls u z st in
            both.1 (u.colour, (is u.colour).1 (u, r0, refl), subst (λ (y : ℕ). Leads k.rules u.colour ls y) (ap (λ (s : State). s.colour) (sym same) ∙ f) lead),
      )

  -- an unknown one
  open_tenth : (t mask : ℕ) → known t ≡ false → ((c : ℕ) × ReachedColour t c) → IsReachedBy (t + 1) (all_below k.rules.colours)
  open_tenth t mask gap (c, (u, r, e)) d =
      let both = has_all_below k.rules.colours d few in (
        (λ h.
            let lt = both.0 h in
            let early : u.entry ≤ℤ pos t = (let e1 = reached_early t u r in omega (arith, ints)) in
            let (l, g) = mixed.all u.colour d (reached_few t u r) lt in
            let (v, st, f, _) = step_goes k.rules mixed.free (pos t) u l d early g in
            let agree : Agree known (λ x. letters k (given x)) t ((l ∷ []) ∷ []) = ((λ is. let bad : true ≡ false = sym is ∙ gap in absurd (cc)), tt) in
            (v, reached_on t u v r ((l ∷ []) ∷ [], omega arith, (agree, (v, (v, st, refl), refl))), f)),
        λ (v, r2, f). both.1 (subst (λ (z : ℕ). z < k.rules.colours) f (reached_few (t + 1) v r2)),
      )

  -- any
  pub tenth : (t mask : ℕ) → ((c : ℕ) × ReachedColour t c) → IsReachedBy t mask → IsReachedBy (t + 1) (after_one t mask)
  tenth t mask some is = elim (cases_Bool (known t)) [
    | inl held ↦ rw held (known_tenth t mask held is)
    | inr gap ↦ rw gap (open_tenth t mask gap some)
  ]

  -- there is always one
  pub some_reached : (t : ℕ) → (c : ℕ) × ReachedColour t c
  some_reached t =
      let s = state 0 (negsuc 0) in
      let lists = fill k known given [] t 0 in
      let one = laws.some_colour in
      let (u, run) = run_is k.rules mixed.free (pos 0) lists s (omega arith) (omega (arith, ints)) (fill_small k known given lettered [] t 0 tt) in
      let len : length lists ≡ t = fill-length k known given [] t 0 in
      (u.colour, (u, (s, (omega arith, omega (arith, ints)), (lists, omega arith, (fill-agrees k known given [] t 0, run))), refl))

  -- from tenth f on masks that go on so have the colours that are reached
  pub masks_go : (F : ℕ → ℕ) (n f : ℕ) → ((x : ℕ) → f ≤ x → x < f + n → F (x + 1) ≡ after_one x (F x)) → IsReachedBy f (F f) → IsReachedBy (f + n) (F (f + n))
  masks_go F zero f goes is = let e : f ≡ f + 0 = omega arith in subst (λ (t : ℕ). IsReachedBy t (F t)) e is
  masks_go F (suc n) f goes is =
      let x = f + n in
      let before = masks_go F n f (λ y l u. goes y l (omega arith)) is in
      let next = tenth x (F x) (some_reached x) before in
      let e : x + 1 ≡ f + suc n = omega arith in
      subst (λ (t : ℕ). IsReachedBy t (F t)) e (subst (λ (m : ℕ). IsReachedBy (x + 1) m) (sym (goes x (omega arith) (omega arith))) next)
