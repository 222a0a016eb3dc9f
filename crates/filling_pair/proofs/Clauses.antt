-- A clause is kept by strands where it is kept in their states.
use Rattle.std.proofs.Common.{◌≡◌, ◌≢◌, refl, sym, subst, inl, inr, ◌↔◌, ℕ, ◌+◌, ◌<◌, ◌≤◌, true, false, nat_eq, List, [], ◌∷◌, arith}
use Rattle.std.specs.Prelude.{if◌then◌else◌}
use Rattle.std.proofs.lemmas.Bool.Decides.{eqb_tells}
use Rattle.sig_base.specs.declared.values.Row.{Row}
use Rattle.colour_machine.specs.Mask.{Has}
use Rattle.reach.specs.Runs.{State}
use Rattle.board.specs.declared.clause.Term.{Term}
use Rattle.board.specs.Verdicts.{HasSpec, Keeps}
use Rattle.board.proofs.Bridge.{agreeing_join}
use Rattle.signal_log.specs.Log.{Log, track_at, window_end}
use Rattle.rule_audit.specs.declared.rules.Rule.{Rule}
use Rattle.rule_audit.specs.declared.rules.Rule.TheVariants.{Interval, Conflict, Companion, Parents}
use Rattle.rule_audit.specs.declared.lines.Place.TheVariants.{EndOfTenth}
use Rattle.filling_pair.specs.declared.strands.Strand.{Strand}
use Rattle.filling_pair.specs.Strands.{AreAllStrands, AreStrands, Ascend, HasStrand, IsAbout, IsStrand, Leads, events_with, start_of}
use Rattle.filling_pair.specs.Kept.{AreKept, HoldsIn, KeepsBy}
use Rattle.filling_pair.specs.Laws.{AllStand, KeptByStates}

-- ---- terms

holds_keeps : (terms : List Term) (i colour : ℕ) (v : ℕ → State) → colour ≡ (v i).colour → HoldsIn terms i colour → Keeps terms v
holds_keeps [] i colour v e h = h
holds_keeps (c ∷ cs) i colour v e h = elim h [
  | inl (same, has) ↦ inl (subst (λ (j : ℕ). Has c.colours (v j).colour) (sym same) (subst (λ (n : ℕ). Has c.colours n) e has))
  | inr rest ↦ inr (holds_keeps cs i colour v e rest)
]

keeps_holds : (terms : List Term) (v : ℕ → State) → Keeps terms v → (i : ℕ) × HasSpec i terms × HoldsIn terms i (v i).colour
keeps_holds [] v h = absurd h
keeps_holds (c ∷ cs) v h = elim h [
  | inl has ↦ (c.spec, inl refl, inl (refl, has))
  | inr rest ↦ let (i, there, holds) = keeps_holds cs v rest in (i, inr there, inr holds)
]

-- ---- states by channel

abbrev over : ℕ → State → (ℕ → State) → ℕ → State
over i w v j = if nat_eq i j then w else v j

over_here : (i : ℕ) (w : State) (v : ℕ → State) → over i w v i ≡ w
over_here i w v = elim (eqb_tells i i) [ inl (e, _) ↦ rw e refl | inr (_, ne) ↦ absurd (ne refl) ]

over_there : (i j : ℕ) (w : State) (v : ℕ → State) → i ≢ j → over i w v j ≡ v j
over_there i j w v ne = elim (eqb_tells i j) [ inl (_, e) ↦ absurd (ne e) | inr (e, _) ↦ rw e refl ]

has_low : (low i : ℕ) (ss : List Strand) → Ascend low ss → HasStrand i ss → low ≤ i
has_low low i [] h has = absurd has
has_low low i (z ∷ zs) h has = let a = h.0 in elim has [ inl e ↦ omega arith | inr rest ↦ let k = has_low (z.spec + 1) i zs h.1 rest in omega arith ]

module _ (log : Log) (rows : List Row) (t : ℕ) (within : t < window_end log) where
  abbrev All : List Strand → (ℕ → State) → Type 0
  All ss v = AllStand log rows t EndOfTenth ss v

  -- each strand comes to a state
  some_state : (z : Strand) → IsStrand log z → (w : State) × Leads log z (t + 1) w
  some_state z is =
      let (u, run) = is.legal in
      let (w, first, rest) = (agreeing_join (track_at log z.spec) (λ x. true) (events_with log z.fills) 0 (t + 1) (window_end log) (start_of z) u (omega arith) (omega arith)).0 run in
      (w, first)

  stand_over : (low i : ℕ) (w : State) (v : ℕ → State) (ss : List Strand) → i < low → Ascend low ss → All ss v → All ss (over i w v)
  stand_over low i w v [] lt h all = tt
  stand_over low i w v (z ∷ zs) lt h all =
      let a = h.0 in
      let same : over i w v z.spec ≡ v z.spec = over_there i z.spec w v (λ e. absurd (omega arith)) in
      (subst (λ (x : State). Leads log z (t + 1) x) (sym same) all.0, stand_over (z.spec + 1) i w v zs (omega arith) h.1 all.1)

  add_state : (z : Strand) (zs : List Strand) (w : State) (v : ℕ → State) → Ascend (z.spec + 1) zs → Leads log z (t + 1) w → All zs v → All (z ∷ zs) (over z.spec w v)
  add_state z zs w v h lead all = (subst (λ (x : State). Leads log z (t + 1) x) (sym (over_here z.spec w v)) lead, stand_over (z.spec + 1) z.spec w v zs (omega arith) h all)

  all_states : (low : ℕ) (ss : List Strand) → Ascend low ss → AreAllStrands log ss → (d : State) → (v : ℕ → State) × All ss v
  all_states low [] h are d = ((λ i. d), tt)
  all_states low (z ∷ zs) h are d =
      let (w, lead) = some_state z are.0 in
      let (v, all) = all_states (z.spec + 1) zs h.1 are.1 d in
      (over z.spec w v, add_state z zs w v h.1 lead all)

  module _ (terms : List Term) (rule : Rule) (by : (i : ℕ) (v : State) → KeepsBy log.specs rows EndOfTenth rule i v ↔ HoldsIn terms i v.colour) where
    kept_states : (low : ℕ) (ss : List Strand) → Ascend low ss → AreAllStrands log ss → AreKept log rows t EndOfTenth rule ss → (v : ℕ → State) × All ss v × ((i : ℕ) × HasStrand i ss × HoldsIn terms i (v i).colour)
    kept_states low [] h are kept = absurd kept
    kept_states low (z ∷ zs) h are kept = elim kept [
      | inl (w, lead, keeps) ↦
          let (v, all) = all_states (z.spec + 1) zs h.1 are.1 w in
          let holds : HoldsIn terms z.spec (over z.spec w v z.spec).colour = subst (λ (x : State). HoldsIn terms z.spec x.colour) (sym (over_here z.spec w v)) ((by z.spec w).0 keeps) in
          (over z.spec w v, add_state z zs w v h.1 lead all, (z.spec, inl refl, holds))
      | inr rest ↦
          let (v, all, (i, has, held)) = kept_states (z.spec + 1) zs h.1 are.1 rest in
          let (w, lead) = some_state z are.0 in
          let low_i = has_low (z.spec + 1) i zs h.1 has in
          let same : over z.spec w v i ≡ v i = over_there z.spec i w v (λ e. absurd (omega arith)) in
          (over z.spec w v, add_state z zs w v h.1 lead all, (i, inr has, subst (λ (x : State). HoldsIn terms i x.colour) (sym same) held))
    ]

    states_kept : (i : ℕ) (ss : List Strand) (v : ℕ → State) → All ss v → HasStrand i ss → HoldsIn terms i (v i).colour → AreKept log rows t EndOfTenth rule ss
    states_kept i [] v all has held = absurd has
    states_kept i (z ∷ zs) v all has held = elim has [
      | inl e ↦ inl (v z.spec, all.0, (by z.spec (v z.spec)).1 (subst (λ (j : ℕ). HoldsIn terms j (v j).colour) (sym e) held))
      | inr rest ↦ inr (states_kept i zs v all.1 rest held)
    ]

    kept_both : (ss : List Strand) → AreStrands log rule ss → ((i : ℕ) → HasSpec i terms → IsAbout rule i) → AreKept log rows t EndOfTenth rule ss ↔ ((v : ℕ → State) × All ss v × Keeps terms v)
    kept_both ss strands about = (
      λ kept. let (v, all, (i, has, held)) = kept_states 0 ss strands.ascend strands.each kept in (v, all, holds_keeps terms i (v i).colour v refl held),
      λ (v, all, keeps). let (i, there, held) = keeps_holds terms v keeps in states_kept i ss v all ((strands.channels i).1 (about i there)) held,
    )

pub kept_by_states : KeptByStates
kept_by_states log rows t (Interval item) ss clause strands within = absurd (let bad : false ≡ true = clause in cc)
kept_by_states log rows t (Conflict a b terms) ss clause strands within = kept_both log rows t within terms (Conflict a b terms) (λ i v. ((λ x. x), (λ x. x))) ss strands (λ i has. has)
kept_by_states log rows t (Companion p terms) ss clause strands within = kept_both log rows t within terms (Companion p terms) (λ i v. ((λ x. x), (λ x. x))) ss strands (λ i has. has)
kept_by_states log rows t (Parents o terms) ss clause strands within = kept_both log rows t within terms (Parents o terms) (λ i v. ((λ x. x), (λ x. x))) ss strands (λ i has. has)
