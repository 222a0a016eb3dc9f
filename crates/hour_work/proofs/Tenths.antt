-- Tenth by tenth, the colours that are reached are as the known rows tell.
use Rattle.std.proofs.Common.{suc, zero, ◌≡◌, refl, ap, sym, ◌∙◌, subst, inl, inr, ℕ, ◌+◌, ◌<◌, ◌≤◌, negsuc, Bool, true, false, cond, leb, nat_eq, ◌&&◌, List, [], ◌∷◌, ◌++◌, Some, None, append_assoc, arith}
use Rattle.std.specs.Prelude.{All}
use Rattle.std.proofs.lemmas.Int.{ints}
use Rattle.std.proofs.lemmas.Bool.{cases_Bool, cases_lt, eq-eqb}
use Rattle.std.proofs.lemmas.List.{append-nil}
use Rattle.std.proofs.lemmas.List.Elements.{All-cons, All-nil}
use Rattle.sig_base.specs.declared.values.Row.{Row}
use Rattle.colour_machine.specs.Rules.{IsMachine}
use Rattle.reach.specs.Runs.{State, state}
use Rattle.board.specs.History.{Track, events_at, letters}
use Rattle.board.specs.Moves.{RowsIn}
use Rattle.board.proofs.Bridge.{agreeing_none, none_at}
use Rattle.board.proofs.Cutting.{events_join, none_after}
use Rattle.board.proofs.Tracks.{Lettered}
use Rattle.board.proofs.Within.{rows_since}
use Rattle.signal_log.proofs.Stored.{rows_join}
use Rattle.hour_sweep.specs.Rows.{last, last_with, since}
use Rattle.hour_sweep.proofs.Known.{live_here}
use Rattle.hour_sweep.proofs.Places.{last-push, last_with_all}
use Rattle.detector_state.specs.Free.{IsMixed}
use Rattle.detector_state.specs.Masks.{all_below, image_below}
use Rattle.detector_state.proofs.Masks.{after, has_all_below}
use Rattle.detector_state.proofs.Telling.{IsReachedBy, after_one, some_reached, tenth}
use Rattle.arrival_measures.proofs.Counts.{and_true}
use Rattle.arrival_measures.specs.Faults.{begins_fault, faulty, faulty_since, is_of}
use Rattle.arrival_measures.proofs.Detecting.{lost_since, same_since}
use Rattle.hour_work.proofs.Masks.{IsDetector, IsTold, told_all, told_letter}

-- ---- what the rows tell

-- its own row tells of the detector
told_own : (known : ℕ → Bool) (t d : ℕ) (before : List Row) (x : Row) → t ≤ x.at → is_of d x ≡ true → faulty known t (before ++ x ∷ []) d ≡ begins_fault x.code
unfolding faulty
told_own known t d before x le own =
    ap (λ o. faulty_since known t o) (last-push (is_of d) before x ∙ ap (λ v. cond v (Some x) (last (is_of d) before)) own)
    ∙ ap (λ v. begins_fault x.code && v) (live_here known x.at t le)
    ∙ and_true (begins_fault x.code)

-- any other one doesn't
told_other : (known : ℕ → Bool) (t d : ℕ) (before : List Row) (x : Row) → is_of d x ≡ false → faulty known t (before ++ x ∷ []) d ≡ faulty known t before d
unfolding faulty
told_other known t d before x other = ap (λ o. faulty_since known t o) (last-push (is_of d) before x ∙ ap (λ v. cond v (Some x) (last (is_of d) before)) other)

-- a known tenth changes nothing
pub told_on : (known : ℕ → Bool) (t d : ℕ) (before : List Row) → known t ≡ true → faulty known (suc t) before d ≡ faulty known t before d
unfolding faulty
told_on known t d before e =
    let same : since known (suc t) ≡ since known t = rw e refl in
    same_since known (suc t) t (last (is_of d) before) same

-- after an unknown one nothing is told
told_lost : (known : ℕ → Bool) (t d : ℕ) (before : List Row) → All (λ z. z.at ≤ t) before → known t ≡ false → faulty known (suc t) before d ≡ false
unfolding faulty
told_lost known t d before low e = lost_since known t (suc t) (last_with (is_of d) before) (last_with_all (λ z. z.at ≤ t) (is_of d) before low) (omega arith) e

-- ---- rows before a tenth

rows_all : (f t : ℕ) (rows : List Row) → RowsIn f (suc t) rows → All (λ z. z.at ≤ t) rows
rows_all f t [] h = All-nil (λ z. z.at ≤ t)
rows_all f t (r ∷ rs) h = let lt = h.1 in All-cons (λ z. z.at ≤ t) r rs (omega (arith, lt)) (rows_all r.at t rs h.2)

-- the rows of the last tenth, and those before
record IsSplit (f t : ℕ) (rows : List Row) : Type 0 where
  pub first : List Row
  pub here : List Row
  pub joined : rows ≡ first ++ here
  pub before : RowsIn f t first
  pub at : RowsIn t (suc t) here

split : (f t : ℕ) (rows : List Row) → f ≤ t → RowsIn f (suc t) rows → IsSplit f t rows
split f t [] le h = record { first = []; here = []; joined = refl; before = le; at = omega arith }
split f t (r ∷ rs) le h = elim (cases_lt r.at t) [
  | inl lt ↦
      let more = split r.at t rs (omega arith) h.2 in
      record { first = r ∷ more.first; here = more.here; joined = ap (λ zs. r ∷ zs) more.joined; before = (h.0, lt, more.before); at = more.at }
  | inr ge ↦ record { first = []; here = r ∷ rs; joined = refl; before = le; at = (ge, h.1, h.2) }
]

module _ (k : Track) (mixed : IsMixed k.rules) (laws : IsMachine k.rules) (lettered : Lettered k) (machine : IsDetector k.rules) (d : ℕ)
    (own : (x : Row) → is_of d x ≡ true → (l : ℕ) × (k.letter x.code x.param ≡ Some l) × (l < 8) × (leb 3 l ≡ begins_fault x.code))
    (other : (x : Row) → is_of d x ≡ false → k.letter x.code x.param ≡ None)
    (known : ℕ → Bool) (rows : List Row) (end : ℕ) where
  -- what the rows before tell is what the set of colours says
  abbrev TellsOf : ℕ → List Row → ℕ → Type 0
  TellsOf t before mask = IsTold (faulty known t before d) mask

  -- ---- one tenth

  abbrev image : ℕ → ℕ → ℕ
  image mask l = image_below k.rules.next mask l k.rules.colours

  one_more : (t : ℕ) (before : List Row) (z : Row) (zs : List Row) (mask : ℕ) → TellsOf t ((before ++ z ∷ []) ++ zs) mask → TellsOf t (before ++ z ∷ zs) mask
  one_more t before z zs mask h =
      let same : (before ++ z ∷ []) ++ zs ≡ before ++ z ∷ zs = append_assoc before (z ∷ []) zs in
      subst (λ (rs : List Row). TellsOf t rs mask) same h

  rows_told : (t : ℕ) (before zs : List Row) (mask : ℕ) → RowsIn t (suc t) zs → TellsOf t before mask → TellsOf t (before ++ zs) (after k.rules mask (letters k (events_at zs t)))
  rows_told t before [] mask h told = subst (λ (rs : List Row). TellsOf t rs mask) (sym (append-nil before)) told
  rows_told t before (z ∷ zs) mask h told =
      let low = h.0 in
      let high = h.1 in
      let here : nat_eq z.at t ≡ true = eq-eqb z.at t (omega (arith, low, high)) in
      let later = rows_since z.at t (suc t) zs low h.2 in
      elim (cases_Bool (is_of d z)) [
        | inl is ↦
            let (l, e, lt, begins) = own z is in
            let tells = told_own known t d before z low is in
            let next : TellsOf t (before ++ z ∷ []) (image mask l) = subst (λ (b : Bool). IsTold b (image mask l)) (begins ∙ sym tells) (told_letter k.rules machine laws (faulty known t before d) mask l lt told) in
            rw (here, e) (one_more t before z zs (after k.rules (image mask l) (letters k (events_at zs t))) (rows_told t (before ++ z ∷ []) zs (image mask l) later next))
        | inr not_is ↦
            let none = other z not_is in
            let next : TellsOf t (before ++ z ∷ []) mask = subst (λ (b : Bool). IsTold b mask) (sym (told_other known t d before z not_is)) told in
            rw (here, none) (one_more t before z zs (after k.rules mask (letters k (events_at zs t))) (rows_told t (before ++ z ∷ []) zs mask later next))
      ]

  -- ---- all tenths

  abbrev pub IsMask : ℕ → ℕ → Type 0
  IsMask t mask = IsReachedBy k mixed laws lettered known (events_at rows) t mask

  -- a set of the colours that are reached at tenth t, and what the rows before tell
  abbrev pub HasMask : ℕ → List Row → Type 0
  HasMask t before = (mask : ℕ) × IsMask t mask × TellsOf t before mask

  first_mask : IsMask 0 (all_below k.rules.colours)
  first_mask c =
      let both = has_all_below k.rules.colours c laws.few_colours in (
        (λ h.
            let s = state c (negsuc 0) in
            (s, (s, (both.0 h, omega (arith, ints)), (agreeing_none k known (events_at rows) 0 s s).1 refl), refl)),
        λ (u, (s, bw, g), e).
            let same : u ≡ s = (agreeing_none k known (events_at rows) 0 s u).0 g in
            both.1 (subst (λ (n : ℕ). n < k.rules.colours) (ap (λ (z : State). z.colour) (sym same) ∙ e) bw.0),
      )

  none_told : faulty known 0 [] d ≡ false
  unfolding faulty
  none_told = refl

  start_mask : HasMask 0 []
  start_mask = (all_below k.rules.colours, first_mask, subst (λ (b : Bool). IsTold b (all_below k.rules.colours)) (sym none_told) (told_all k.rules machine laws))

  -- the events of a tenth are those of its rows
  tenth_events : (t : ℕ) (first here rest : List Row) → rows ≡ first ++ (here ++ rest) → RowsIn 0 t first → RowsIn (suc t) end rest → events_at rows t ≡ events_at here t
  tenth_events t first here rest e low high =
      ap (λ rs. events_at rs t) e
      ∙ events_join first (here ++ rest) t
      ∙ ap (λ es. es ++ events_at (here ++ rest) t) (none_after first 0 t t low (omega arith))
      ∙ events_join here rest t
      ∙ ap (λ es. events_at here t ++ es) (none_at rest (suc t) end t high (omega arith))
      ∙ append-nil (events_at here t)

  -- one tenth more
  next_told : (t : ℕ) (first here rest : List Row) (mask : ℕ) → rows ≡ first ++ (here ++ rest) → RowsIn 0 t first → RowsIn t (suc t) here → RowsIn (suc t) end rest → TellsOf t first mask → TellsOf (suc t) (first ++ here) (after_one k mixed laws lettered known (events_at rows) t mask)
  next_told t first here rest mask e low at high told = elim (cases_Bool (known t)) [
    | inl held ↦
        let events = tenth_events t first here rest e low high in
        let now = rows_told t first here mask at told in
        let on : TellsOf (suc t) (first ++ here) (after k.rules mask (letters k (events_at here t))) = subst (λ (b : Bool). IsTold b (after k.rules mask (letters k (events_at here t)))) (sym (told_on known t d (first ++ here) held)) now in
        rw (held, events) on
    | inr gap ↦
        let all = rows_all 0 t (first ++ here) (rows_join 0 t (suc t) first here low at) in
        rw gap (subst (λ (b : Bool). IsTold b (all_below k.rules.colours)) (sym (told_lost known t d (first ++ here) all gap)) (told_all k.rules machine laws))
  ]

  pub tenths_told : (t : ℕ) (low rest : List Row) → rows ≡ low ++ rest → RowsIn 0 t low → RowsIn t end rest → HasMask t low
  tenths_told zero [] rest e l h = start_mask
  tenths_told zero (r ∷ rs) rest e l h = absurd (let a = l.1 in omega (arith, a))
  tenths_told (suc t) low rest e l h =
      let parts = split 0 t low (omega arith) l in
      let whole : rows ≡ parts.first ++ (parts.here ++ rest) = e ∙ (ap (λ rs. rs ++ rest) parts.joined ∙ append_assoc parts.first parts.here rest) in
      let (mask, is, told) = tenths_told t parts.first (parts.here ++ rest) whole parts.before (rows_join t (suc t) end parts.here rest parts.at h) in
      let next = tenth k mixed laws lettered known (events_at rows) t mask (some_reached k mixed laws lettered known (events_at rows) t) is in
      let mask_on = after_one k mixed laws lettered known (events_at rows) t mask in
      let up : t + 1 ≡ suc t = omega arith in
      let tells = next_told t parts.first parts.here rest mask whole parts.before parts.at h told in
      (mask_on, subst (λ (n : ℕ). IsMask n mask_on) up next, subst (λ (rs : List Row). TellsOf (suc t) rs mask_on) (sym parts.joined) tells)
