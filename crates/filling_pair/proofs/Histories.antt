-- Strands are part of a history that agrees.
use Rattle.std.proofs.Common.{suc, zero, ◌≡◌, refl, ap, ◌∙◌, subst, inl, inr, ℕ, ◌+◌, ◌<◌, true, IsTrue, List, [], ◌∷◌, length, map, get_or, arith}
use Rattle.std.proofs.lemmas.Bool.{cases_eq}
use Rattle.reach.specs.Runs.{State}
use Rattle.board.specs.History.{Agree, Event, History, events_at, letters, start_of as begins}
use Rattle.signal_log.specs.Log.{AgreesWith, Log, track_at}
use Rattle.signal_log.proofs.Joined.{IsCourse, history_course, history_with}
use Rattle.filling_pair.specs.declared.strands.Fill.{Fill}
use Rattle.filling_pair.specs.declared.strands.Strand.{Strand}
use Rattle.filling_pair.specs.Strands.{AreAllStrands, Ascend, IsStrand, events_with, start_of}
use Rattle.filling_pair.specs.Laws.{GoesAsAll, StrandsAreOfHistory}

-- the channel begins as the strand does, and its lists are those of the strand
abbrev IsAs : Log → Strand → State → List (List ℕ) → Type 0
IsAs log z s lists = (s ≡ start_of z) × Agree (λ x. true) (λ x. letters (track_at log z.spec) (events_with log z.fills x)) 0 lists

-- so for the strands of channel i
abbrev OwnedBy : Log → List Strand → ℕ → State → List (List ℕ) → Type 0
OwnedBy log [] i s lists = Unit {0}
OwnedBy log (z ∷ zs) i s lists = (z.spec ≡ i → IsAs log z s lists) × OwnedBy log zs i s lists

Course : Log → List Strand → ℕ → Type 0
Course log ss i = (s : State) × (lists : List (List ℕ)) × IsCourse log i s lists × OwnedBy log ss i s lists

with_known : (log : Log) (fs : List Fill) (x : ℕ) → IsTrue (log.known x) → events_with log fs x ≡ events_at log.rows x
with_known log fs x e = rw e refl

known_agree : (log : Log) (i t : ℕ) (fs : List Fill) (lists : List (List ℕ)) → Agree (λ x. true) (λ x. letters (track_at log i) (events_with log fs x)) t lists → Agree log.known (λ x. letters (track_at log i) (events_at log.rows x)) t lists
known_agree log i t fs [] a = tt
known_agree log i t fs (ls ∷ rest) (a, r) = ((λ known. a refl ∙ ap (letters (track_at log i)) (with_known log fs t known)), known_agree log i (t + 1) fs rest r)

none_later : (log : Log) (low i : ℕ) (ss : List Strand) (s : State) (lists : List (List ℕ)) → i < low → Ascend low ss → OwnedBy log ss i s lists
none_later log low i [] s lists lt h = tt
none_later log low i (z ∷ zs) s lists lt h = let a = h.0 in ((λ e. absurd (omega arith)), none_later log (z.spec + 1) i zs s lists (omega arith) h.1)

own_course : (log : Log) (z : Strand) (zs : List Strand) → IsStrand log z → Ascend (z.spec + 1) zs → Course log (z ∷ zs) z.spec
unfolding Course IsCourse
own_course log z zs is h =
    let (u, (lists, len, (a, r))) = is.legal in (
      start_of z,
      lists,
      (is.start, (omega arith), known_agree log z.spec 0 z.fills lists a, (u, r)),
      ((λ e. (refl, a)), none_later log (z.spec + 1) z.spec zs (start_of z) lists (omega arith) h),
    )

pick : (log : Log) (i low : ℕ) (ss : List Strand) → Ascend low ss → AreAllStrands log ss → (s : State) (lists : List (List ℕ)) → IsCourse log i s lists → Course log ss i
unfolding Course
pick log i low [] h are s lists c = (s, lists, c, tt)
pick log i low (z ∷ zs) h are s lists c = elim (cases_eq z.spec i) [
  | inl e ↦ let own = own_course log z zs are.0 h.1 in subst (λ (j : ℕ). (q : State) × (ls : List (List ℕ)) × IsCourse log j q ls × OwnedBy log (z ∷ zs) j q ls) e own
  | inr ne ↦ let (q, ls, d, o) = pick log i (z.spec + 1) zs h.1 are.1 s lists c in (q, ls, d, ((λ e. absurd (ne e)), o))
]

agree_at : (given : ℕ → List ℕ) (f : List Event → List ℕ) (events : List (List Event)) (x t : ℕ) → Agree (λ y. true) given x (map f events) → t < length events → f (get_or events t []) ≡ given (x + t)
agree_at given f [] x t a lt = absurd (omega arith)
agree_at given f (e ∷ es) x zero (a, r) lt = let same : x ≡ x + 0 = omega arith in a refl ∙ ap given same
agree_at given f (e ∷ es) x (suc t) (a, r) lt = let same : x + 1 + t ≡ x + suc t = omega arith in agree_at given f es (x + 1) t r (omega arith) ∙ ap given same

goes_as : (log : Log) (h : History) (ss : List Strand) → AgreesWith log h → AreAllStrands log ss → ((i : ℕ) → i < length log.specs → OwnedBy log ss i (begins h i) (map (letters (track_at log i)) h.events)) → GoesAsAll log h ss
goes_as log h [] a are own = tt
goes_as log h (z ∷ zs) a (is, rest) own =
    let (begin, lists) = (own z.spec is.spec).0 refl in
    let covers = a.covers in (
      record {
        begin = begin;
        same = λ t lt. let zero_t : 0 + t ≡ t = omega arith in agree_at (λ x. letters (track_at log z.spec) (events_with log z.fills x)) (letters (track_at log z.spec)) h.events 0 t lists (omega arith) ∙ ap (λ (x : ℕ). letters (track_at log z.spec) (events_with log z.fills x)) zero_t;
      },
      goes_as log h zs a rest (λ i lt. (own i lt).1),
    )

pub strands_are_of_history : StrandsAreOfHistory
unfolding Course
strands_are_of_history log rule ss are (h0, a0) strands =
    let (h, a, own) = history_with log are (OwnedBy log ss) (λ i lt. pick log i 0 ss strands.ascend strands.each (begins h0 i) (map (letters (track_at log i)) h0.events) (history_course log h0 i a0 lt)) in
    (h, a, goes_as log h ss a strands.each own)
