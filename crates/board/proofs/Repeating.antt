-- What an hour makes of a channel that has what the one before it has.
use Rattle.std.proofs.Common.{◌≡◌, ◌∙◌, refl, ap, sym, inl, inr, ◌↔◌, ℕ, ℤ, pos, ◌+◌, ◌-◌, ◌-ℤ◌, ◌<◌, ◌<ℤ◌, arith, List, [], length, get_or, Option, Some, None}
use Rattle.std.proofs.lemmas.Bool.{cases_eq}
use Rattle.std.proofs.lemmas.List.{get_or_default}
use Rattle.span_set.specs.declared.set.Span.{Span}
use Rattle.colour_machine.specs.Rules.{Rules}
use Rattle.reach.specs.Runs.{State}
use Rattle.reach.specs.Past.{Holds}
use Rattle.reach.specs.Ahead.{Admits}
use Rattle.reach.proofs.Later.{then_iff}
use Rattle.channel_path.specs.declared.moves.Move.{Move}
use Rattle.channel_path.specs.Walks.{AfterMoves, BeforeMoves}
use Rattle.channel_path.specs.Places.{EntersBefore}
use Rattle.channel_tables.specs.declared.spec.Spec.{Spec}
use Rattle.sig_base.specs.declared.values.Row.{Row}
use Rattle.gap_map.specs.declared.stretch.Stretch.{Stretch}
use Rattle.gap_map.specs.Stretches.{FollowOn}
use Rattle.board.specs.Channels.{track}
use Rattle.board.specs.Courses.{AreCourses}
use Rattle.board.specs.Hours.{AreHourAheads, Clamped, IsAfterHour, IsBeforeHour}
use Rattle.board.specs.Logs.{IsHour, end_tenth, first_tenth, no_spec}
use Rattle.board.specs.Moves.{RowsIn}
use Rattle.board.specs.Repeats.{Repeats, StandsTwice}
use Rattle.board.specs.Stops.{GoesOnAt, IsFirst, IsFirstStop, StopRow, StopsAtRow, Survives, moves_at, rules_at}
use Rattle.board.proofs.Keeping.{AreClampedTo, clamped_same}
use Rattle.board.proofs.Plain.{after_hour, before_hour, hour_before}
use Rattle.board.proofs.Within.{hour_rows}

-- what stands before this place, under the name of the place before it
pub stands_last : {A : Type 0} (xs : List A) (i j : ℕ) (x d : A) → j + 1 ≡ i → length xs ≡ i → x ≡ get_or xs (i - 1) x → x ≡ get_or xs j d
stands_last xs i j x d at count is = let same : i - 1 ≡ j = omega arith in (rw same at is) ∙ get_or_default xs j x d (omega arith)

-- one place more that does what an earlier one does
first_again : (GoesOn : ℕ → Type 0) (Stops : ℕ → ℕ → Type 0) (n j : ℕ) (o : Option ℕ) → j < n → (GoesOn j → GoesOn n) → ((x : ℕ) → Stops j x → Stops n x) → ((x : ℕ) → Stops n x → Stops j x) → IsFirst GoesOn Stops n o → IsFirst GoesOn Stops (n + 1) o
first_again GoesOn Stops n j None below goes stops back all = λ i lt. elim (cases_eq i n) [ inl e ↦ rw e (goes (all j below)) | inr ne ↦ all i (omega arith) ]
first_again GoesOn Stops n j (Some x) below goes stops back ((i, lt, stop), least, each) = (
  (i, omega arith, stop),
  (λ k y lk s. elim (cases_eq k n) [ inl e ↦ least j y below (back y (rw e at s)) | inr ne ↦ least k y (omega arith) s ]),
  λ k lk. elim (cases_eq k n) [
    | inl e ↦ rw e (elim (each j below) [ inl g ↦ inl (goes g) | inr (y, s) ↦ inr (y, stops y s) ])
    | inr ne ↦ each k (omega arith)
  ],
)

same_survives : (m n : Rules) (a b : List (List Span)) (xs ys : List Move) → m ≡ n → a ≡ b → xs ≡ ys → Survives n b ys → Survives m a xs
same_survives m n a b xs ys e f g h = rw (e, f, g) h

same_stops : (m n : Rules) (a b : List (List Span)) (xs ys : List Move) (x : ℕ) → m ≡ n → a ≡ b → xs ≡ ys → StopRow n b ys x → StopRow m a xs x
same_stops m n a b xs ys x e f g h = rw (e, f, g) h

same_after : (m n : Rules) (a b : List (List Span)) (xs ys : List Move) (u : State) → m ≡ n → a ≡ b → xs ≡ ys → AfterMoves n b ys u ↔ AfterMoves m a xs u
same_after m n a b xs ys u e f g = rw (e, f, g) ((λ h. h), λ h. h)

same_before : (m n : Rules) (a b new : List (Option ℤ)) (xs ys : List Move) (first : ℕ) → m ≡ n → a ≡ b → xs ≡ ys → ((s : State) → Admits new s ↔ ((EntersBefore ys s × BeforeMoves n b ys s) × (s.entry <ℤ pos first))) → (s : State) → Admits new s ↔ ((EntersBefore xs s × BeforeMoves m a xs s) × (s.entry <ℤ pos first))
same_before m n a b new xs ys first e f g h = rw (e, f, g) h

-- the moves of the hour are those of the courses
same_moves : (specs : List Spec) (rows : List Row) (ss : List Stretch) (courses : List (List Move)) (i : ℕ) (again : Repeats specs courses i) → AreCourses specs rows ss courses → i < length specs → (d : Spec) → moves_at specs rows ss i d ≡ moves_at specs rows ss again.last d
same_moves specs rows ss courses i again are lt d = let at = again.place in sym (are.1 i d lt) ∙ (again.moves ∙ are.1 again.last d (omega arith))

-- the first stop with one channel more that has the states before the hour of the one before it too
pub stop_again : (specs : List Spec) (rows : List Row) (ss : List Stretch) (courses : List (List Move)) (before : List (List (List Span))) (i : ℕ) (stop : Option ℕ) → Repeats specs courses i → StandsTwice before i → AreCourses specs rows ss courses → i < length specs → IsFirstStop specs rows ss before i stop → IsFirstStop specs rows ss before (i + 1) stop
stop_again specs rows ss courses before i stop again twice are lt first d =
    let j = again.last in
    let at = again.place in
    let m = again.rules d in
    let a = twice j at in
    let xs = same_moves specs rows ss courses i again are lt d in
    first_again (GoesOnAt specs rows ss before d) (StopsAtRow specs rows ss before d) i j stop (omega arith)
    (same_survives (rules_at specs i d) (rules_at specs j d) (get_or before i []) (get_or before j []) (moves_at specs rows ss i d) (moves_at specs rows ss j d) m a xs)
    (λ x. same_stops (rules_at specs i d) (rules_at specs j d) (get_or before i []) (get_or before j []) (moves_at specs rows ss i d) (moves_at specs rows ss j d) x m a xs)
    (λ x. same_stops (rules_at specs j d) (rules_at specs i d) (get_or before j []) (get_or before i []) (moves_at specs rows ss j d) (moves_at specs rows ss i d) x (sym m) (sym a) (sym xs))
    (first d)

-- its states after the hour, those older than an hour made one
pub clamped_again : (specs : List Spec) (rows : List Row) (ss : List Stretch) (courses : List (List Move)) (before pasts : List (List (List Span))) (i : ℕ) (new : List (List Span)) (again : Repeats specs courses i) → StandsTwice before i → AreCourses specs rows ss courses → i < length specs → new ≡ get_or pasts again.last [] → AreClampedTo specs rows ss before i pasts → (h : ℕ) → IsHour h rows ss → (u : State) → Holds new u ↔ Clamped (pos (end_tenth h) -ℤ pos 36001) (IsAfterHour (track (get_or specs i no_spec)) rows ss (first_tenth h) (end_tenth h) (get_or before i [])) u
clamped_again specs rows ss courses before pasts i new again twice are lt is old h hour u =
    let j = again.last in
    let at = again.place in
    let f = first_tenth h in
    let t = end_tenth h in
    let there = λ (v : State). after_hour (track (get_or specs j no_spec)) f t rows ss (get_or before j []) hour.follow (hour_rows h rows ss hour) v in
    let here = λ (v : State). after_hour (track (get_or specs i no_spec)) f t rows ss (get_or before i []) hour.follow (hour_rows h rows ss hour) v in
    let both = λ (v : State). same_after (rules_at specs i no_spec) (rules_at specs j no_spec) (get_or before i []) (get_or before j []) (moves_at specs rows ss i no_spec) (moves_at specs rows ss j no_spec) v (again.rules no_spec) (twice j at) (same_moves specs rows ss courses i again are lt no_spec) in
    let was : Holds new u ↔ Clamped (pos t -ℤ pos 36001) (IsAfterHour (track (get_or specs j no_spec)) rows ss f t (get_or before j [])) u = rw is (old h hour j (omega arith) u) in
    then_iff was (clamped_same (pos t -ℤ pos 36001) (IsAfterHour (track (get_or specs j no_spec)) rows ss f t (get_or before j [])) (IsAfterHour (track (get_or specs i no_spec)) rows ss f t (get_or before i [])) (λ v. then_iff ((there v).1, (there v).0) (then_iff (both v) (here v))) u)

-- and its colours
pub colours_again : {A : Type 0} (specs : List Spec) (courses : List (List Move)) (all : List (List A)) (i : ℕ) (new : List A) (again : Repeats specs courses i) → new ≡ get_or all again.last [] → ((k : ℕ) (d : Spec) → k < i → length (get_or all k []) ≡ (rules_at specs k d).colours) → (d : Spec) → length new ≡ (rules_at specs i d).colours
colours_again specs courses all i new again is old d = let at = again.place in ap length is ∙ (old again.last d (omega arith) ∙ sym (ap (λ (m : Rules). m.colours) (again.rules d)))

-- what it admits before the hour, where after it the same is admitted as of the one before it
pub ahead_again : (specs : List Spec) (rows : List Row) (ss : List Stretch) (courses : List (List Move)) (f t : ℕ) (after aheads : List (List (Option ℤ))) (i : ℕ) (new : List (Option ℤ)) (again : Repeats specs courses i) → StandsTwice after i → AreCourses specs rows ss courses → i < length specs → FollowOn f t ss → RowsIn f t rows → new ≡ get_or aheads again.last [] → AreHourAheads specs rows ss f t after i aheads → (s : State) → Admits new s ↔ ((s.entry <ℤ pos f) × IsBeforeHour (track (get_or specs i no_spec)) rows ss f t (get_or after i []) s)
ahead_again specs rows ss courses f t after aheads i new again twice are lt follow in_rows is old =
    let j = again.last in
    let at = again.place in
    let there = hour_before specs rows ss j (get_or specs j no_spec) no_spec (moves_at specs rows ss j no_spec) after (get_or after j []) new f refl refl refl f t refl follow in_rows (rw is (old j (omega arith)).1) in
    before_hour specs rows ss i (get_or specs i no_spec) no_spec (moves_at specs rows ss i no_spec) after (get_or after i []) new f refl refl refl (same_before (rules_at specs i no_spec) (rules_at specs j no_spec) (get_or after i []) (get_or after j []) new (moves_at specs rows ss i no_spec) (moves_at specs rows ss j no_spec) f (again.rules no_spec) (twice j at) (same_moves specs rows ss courses i again are lt no_spec) there) f t refl follow in_rows
