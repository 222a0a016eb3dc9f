-- The specs that are wanted, and where each of them stands among these.
use Rattle.std.proofs.Common.{◌≡◌, ◌≢◌, refl, ap, sym, ◌∙◌, inl, inr, ℕ, ◌+◌, ◌<◌, Bool, true, false, List, [], ◌∷◌, ◌++◌, length, get_or, arith, add-one}
use Rattle.std.proofs.lemmas.Bool.{cases_eq}
use Rattle.std.proofs.lemmas.Grind.{common_steps}
use Rattle.std.proofs.lemmas.List.{length_push, get_or_default}
use Rattle.channel_path.specs.declared.moves.Move.{Move}
use Rattle.sig_base.specs.declared.values.Row.{Row}
use Rattle.gap_map.specs.declared.stretch.Stretch.{Stretch}
use Rattle.channel_tables.specs.declared.spec.Spec.{Spec}
use Rattle.board.specs.Channels.{AreSpecs, track}
use Rattle.board.specs.Courses.{AreAmong, AreCoursesAmong, AreCoursesFrom, chosen_before}
use Rattle.board.specs.Logs.{no_spec}
use Rattle.board.specs.Moves.{own}

pub chosen_one : (wanted : List Bool) (i : ℕ) → get_or wanted i false ≡ true → chosen_before wanted (i + 1) ≡ chosen_before wanted i + 1
chosen_one wanted i is = rw (add-one i, add-one (chosen_before wanted i), is) refl

pub chosen_none : (wanted : List Bool) (i : ℕ) → get_or wanted i false ≡ false → chosen_before wanted (i + 1) ≡ chosen_before wanted i
chosen_none wanted i is = rw (add-one, is) refl

-- an element that was read is the same at its place
pub told : (xs : List Bool) (i : ℕ) (x v : Bool) → i < length xs → x ≡ get_or xs i x → x ≡ v → get_or xs i false ≡ v
told xs i x v lt is e = sym (is ∙ get_or_default xs i x false lt) ∙ e

-- each of these is one of the first n specs
abbrev pub AreOf : List Spec → ℕ → List Spec → Type 0
AreOf specs n few = (j : ℕ) → j < length few → (k : ℕ) × (k < n) × ((d : Spec) → get_or few j d ≡ get_or specs k d)

pub pushed_before : (few : List Spec) (s : Spec) (j : ℕ) (d : Spec) → j < length few → get_or (few ++ s ∷ []) j d ≡ get_or few j d
pushed_before few s j d lt = grind (arith, common_steps)

pub pushed_here : (few : List Spec) (s : Spec) (j : ℕ) (d : Spec) → j ≡ length few → get_or (few ++ s ∷ []) j d ≡ s
pushed_here few s j d e = grind (arith, common_steps)

-- one spec more, that is wanted
pub of_more : (specs : List Spec) (n : ℕ) (few : List Spec) (s : Spec) → AreOf specs n few → ((d : Spec) → s ≡ get_or specs n d) → AreOf specs (n + 1) (few ++ s ∷ [])
of_more specs n few s of is j lt =
    let len = length_push few s in
    elim (cases_eq j (length few)) [
      | inl e ↦ (n, omega arith, λ d. pushed_here few s j d e ∙ is d)
      | inr ne ↦ let (k, below, at) = of j (omega arith) in (k, omega arith, λ d. pushed_before few s j d (omega arith) ∙ at d)
    ]

pub of_kept : (specs : List Spec) (n : ℕ) (few : List Spec) → AreOf specs n few → AreOf specs (n + 1) few
of_kept specs n few of j lt = let (k, below, at) = of j lt in (k, omega arith, at)

pub among_more : (specs : List Spec) (wanted : List Bool) (n : ℕ) (few : List Spec) (s : Spec) → length few ≡ chosen_before wanted n → AreAmong specs wanted n few → ((d : Spec) → s ≡ get_or specs n d) → AreAmong specs wanted (n + 1) (few ++ s ∷ [])
among_more specs wanted n few s count among is i d lt on =
    let len = length_push few s in
    elim (cases_eq i n) [
      | inl e ↦ rw e (omega arith, pushed_here few s (chosen_before wanted n) d (sym count) ∙ is d)
      | inr ne ↦ let (below, at) = among i d (omega arith) on in (omega arith, pushed_before few s (chosen_before wanted i) d below ∙ at)
    ]

pub among_kept : (specs : List Spec) (wanted : List Bool) (n : ℕ) (few : List Spec) → get_or wanted n false ≡ false → AreAmong specs wanted n few → AreAmong specs wanted (n + 1) few
among_kept specs wanted n few off among i d lt on = elim (cases_eq i n) [
  | inl e ↦ let bad : true ≡ false = sym (rw e at on) ∙ off in absurd (cc)
  | inr ne ↦ among i d (omega arith) on
]

apart : (a b c e : Spec) → a ≡ c → b ≡ e → c.channel ≢ e.channel → a.channel ≢ b.channel
apart a b c e p q h = rw (p, q) h

pub specs_more : (specs : List Spec) (n : ℕ) (few : List Spec) (s : Spec) → AreSpecs specs → n < length specs → AreSpecs few → AreOf specs n few → ((d : Spec) → s ≡ get_or specs n d) → AreSpecs (few ++ s ∷ [])
specs_more specs n few s are below old of is =
    let len = length_push few s in
    record {
      fit = λ i d lt. elim (cases_eq i (length few)) [
        | inl e ↦ rw (pushed_here few s i d e, is d) (are.fit n d below)
        | inr ne ↦ rw (pushed_before few s i d (omega arith)) (old.fit i d (omega arith))
      ];
      numbered = λ i d lt. elim (cases_eq i (length few)) [
        | inl e ↦ rw (pushed_here few s i d e, is d) (are.numbered n d below)
        | inr ne ↦ rw (pushed_before few s i d (omega arith)) (old.numbered i d (omega arith))
      ];
      distinct = λ i j d li lj other. elim (cases_eq i (length few)) [
        | inl e ↦
            let jb : j < length few = omega arith in
            let (k, kb, at) = of j jb in
            apart _ _ _ _ (pushed_here few s i d e ∙ is d) (pushed_before few s j d jb ∙ at d) (are.distinct n k d below (omega arith) (λ x. absurd (omega arith)))
        | inr ne ↦
            let ib : i < length few = omega arith in
            let (k, kb, at) = of i ib in
            elim (cases_eq j (length few)) [
              | inl f ↦ apart _ _ _ _ (pushed_before few s i d ib ∙ at d) (pushed_here few s j d f ∙ is d) (are.distinct k n d (omega arith) below (λ x. absurd (omega arith)))
              | inr nf ↦ rw (pushed_before few s i d ib, pushed_before few s j d (omega arith)) (old.distinct i j d ib (omega arith) other)
            ]
      ];
    }

pub courses_among : (specs : List Spec) (wanted : List Bool) (few : List Spec) (n : ℕ) (rows : List Row) (ss : List Stretch) (courses : List (List Move)) → AreAmong specs wanted (length specs) few → AreCoursesFrom few n rows ss courses → AreCoursesAmong specs wanted n rows ss courses
courses_among specs wanted few n rows ss courses among are i d lt on =
    let (below, at) = among i d lt on in
    ((let l = are.0 in omega arith), are.1 (chosen_before wanted i) d below ∙ rw at refl)

-- the moves of a spec that is wanted stand at its turn
pub turn_within : (specs : List Spec) (wanted : List Bool) (n : ℕ) (rows : List Row) (ss : List Stretch) (courses : List (List Move)) (i next : ℕ) → AreCoursesAmong specs wanted n rows ss courses → i < length specs → get_or wanted i false ≡ true → next ≡ chosen_before wanted i → next < length courses
turn_within specs wanted n rows ss courses i next are lt on e = rw e (are i no_spec lt on).0

pub turn_is : (specs : List Spec) (wanted : List Bool) (n : ℕ) (rows : List Row) (ss : List Stretch) (courses : List (List Move)) (i next : ℕ) (course : List Move) → AreCoursesAmong specs wanted n rows ss courses → i < length specs → get_or wanted i false ≡ true → next ≡ chosen_before wanted i → course ≡ get_or courses next course → (d : Spec) → course ≡ own (track (get_or specs i d)) n rows ss
turn_is specs wanted n rows ss courses i next course are lt on e is d =
    let (below, at) = are i d lt on in
    is ∙ (get_or_default courses next course [] (turn_within specs wanted n rows ss courses i next are lt on e) ∙ (ap (λ j. get_or courses j []) e ∙ at))

-- where none of these is there, none is wanted
pub none_among : (specs : List Spec) (wanted : List Bool) (few : List Spec) (n : ℕ) (rows : List Row) (ss : List Stretch) → length few ≡ 0 → AreAmong specs wanted (length specs) few → AreCoursesAmong specs wanted n rows ss []
none_among specs wanted few n rows ss none among i d lt on = let (below, at) = among i d lt on in absurd (omega arith)
