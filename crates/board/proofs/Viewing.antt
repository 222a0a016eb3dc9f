-- What a view of an hour holds of each channel, and the search for a place among its moves.
use Rattle.std.proofs.Common.{◌≡◌, ap, subst, sym, ◌∙◌, inl, inr, ◌↔◌, ℕ, ◌+◌, ◌<◌, ◌≤◌, ℤ, pos, Bool, true, false, IsTrue, List, [], ◌∷◌, ◌++◌, length, take, drop, get_or, arith, Option, Some}
use Rattle.std.proofs.lemmas.Bool.{cases_eq, cases_lt}
use Rattle.std.proofs.lemmas.Grind.{common_steps}
use Rattle.std.proofs.lemmas.List.{get_or_default}
use Rattle.channel_path.specs.declared.moves.Move.{Move}
use Rattle.channel_path.specs.declared.moves.Move.TheVariants.{Letter}
use Rattle.channel_path.specs.Places.{PathLog, limit_of, TakesFrom, SeesPassing}
use Rattle.channel_tables.specs.declared.any.AnyMachine.{AnyMachine}
use Rattle.channel_tables.specs.Any.{any_rules}
use Rattle.reach.specs.declared.seen.Test.{Test}
use Rattle.reach.specs.declared.seen.Seen.{Seen}
use Rattle.span_set.specs.declared.set.Span.{Span}
use Rattle.board.specs.Courses.{AreCourses, CourseLog}
use Rattle.board.specs.Logs.{HourLog, first_tenth, hour_log, no_spec}
use Rattle.board.proofs.Hours.{moves_order}
use Rattle.channel_tables.specs.declared.spec.Spec.{Spec}
use Rattle.channel_path.specs.Walks.{InOrder, EnteredBefore}
use Rattle.board.specs.Stops.{rules_at}
use Rattle.board.specs.Places.{ArePaths, IsBefore, IsPathOf, IsLog, IsSplit, IsView}

pub went_up : (at : ℤ) (o : Option ℕ) (xs : List Move) (low high mid : ℕ) (b : Bool) → mid < length xs → (IsTrue b ↔ IsBefore at o (get_or xs mid (Letter 0 0 0))) → b ≡ true → ((j : ℕ) → IsSplit at o xs j → (low ≤ j) × (j ≤ high)) → (j : ℕ) → IsSplit at o xs j → (mid + 1 ≤ j) × (j ≤ high)
went_up at o xs low high mid b lt e is_yes i j s = elim (cases_lt mid j) [ inl l ↦ (omega arith, (i j s).1) | inr ge ↦ absurd (s.2 mid ge lt (e.0 is_yes)) ]

pub went_down : (at : ℤ) (o : Option ℕ) (xs : List Move) (low high mid : ℕ) (b : Bool) → (IsTrue b ↔ IsBefore at o (get_or xs mid (Letter 0 0 0))) → b ≡ false → ((j : ℕ) → IsSplit at o xs j → (low ≤ j) × (j ≤ high)) → (j : ℕ) → IsSplit at o xs j → (low ≤ j) × (j ≤ mid)
went_down at o xs low high mid b e is_no i j s = elim (cases_lt mid j) [ inl l ↦ absurd (let is_yes = e.1 (s.1 mid l) in let bad : true ≡ false = sym is_yes ∙ is_no in cc) | inr ge ↦ ((i j s).0, ge) ]

pub some_le : (i n : ℕ) → Some i ≡ Some n → i ≤ n
some_le i n e = let same : i ≡ n = cc in omega arith

pub element : {A : Type 0} → (xs ys : List A) (i : ℕ) (x d : A) → xs ≡ ys → i < length ys → x ≡ get_or xs i x → x ≡ get_or ys i d
element xs ys i x d e lt is = is ∙ (ap (λ zs. get_or zs i x) e ∙ get_or_default ys i x d lt)

-- the courses of what a value has inside are those of the value
pub courses_as : (log own : CourseLog) (specs : List Spec) (list : List (List Move)) → own ≡ log → log.specs ≡ specs → AreCourses own.specs own.rows own.stretches list → AreCourses specs log.rows log.stretches list
courses_as log own specs list e same are = subst (λ (ds : List Spec). AreCourses ds log.rows log.stretches list) same (subst (λ (x : CourseLog). AreCourses x.specs x.rows x.stretches list) e are)

-- and so is the log of the hour
pub log_as : (hour : ℕ) (log own : CourseLog) (specs : List Spec) (before : List (List (List Span))) (after : List (List (Option ℤ))) → own ≡ log → log.specs ≡ specs → hour_log hour own.specs own.rows own.stretches before after ≡ hour_log hour specs log.rows log.stretches before after
log_as hour log own specs before after e same = ap (λ (x : CourseLog). hour_log hour x.specs x.rows x.stretches before after) e ∙ ap (λ (ds : List Spec). hour_log hour ds log.rows log.stretches before after) same

-- one path more
pub paths_more : (log : HourLog) (n : ℕ) (paths : List (PathLog AnyMachine)) (path : PathLog AnyMachine) → length paths ≡ n → ArePaths log n paths → ((d : Spec) → IsPathOf log n d path) → ArePaths log (n + 1) (paths ++ path ∷ [])
paths_more log n paths path l a b i d e lt = elim (cases_eq i n) [
  | inl same ↦ let at : get_or (paths ++ path ∷ []) i e ≡ path = grind (arith, common_steps) in rw (at, same) (b d)
  | inr ne ↦ let below : i < n = omega arith in let b2 : i < length paths = omega arith in let at : get_or (paths ++ path ∷ []) i e ≡ get_or paths i e = grind (arith, common_steps) in rw at (a i d e below)
]

-- the path with this number
pub path_at : (log : HourLog) (paths : List (PathLog AnyMachine)) (i : ℕ) (d : Spec) (path : PathLog AnyMachine) → IsView log paths → path ≡ get_or paths i path → i < length log.specs → IsPathOf log i d path
path_at log paths i d path is at lt = let k = is.are_paths i d path lt in let same : get_or paths i path ≡ path = sym at in rw same at k

-- what a path sees is what its channel's runs say
pub path_sees : (log : HourLog) (i : ℕ) (path : PathLog AnyMachine) (j x : ℕ) (test : Test) (seen : Seen) → IsLog log → IsPathOf log i no_spec path → ((low at : ℕ) → EnteredBefore path.before low → InOrder (any_rules path.machine) low path.moves → limit_of low (take j path.moves) ≤ at + 1 → TakesFrom (at + 1) (drop j path.moves) → test.at ≡ pos at → SeesPassing (any_rules path.machine) path.before path.after (take j path.moves) (drop j path.moves) test seen) → test.at ≡ pos x → limit_of (first_tenth log.hour) (take j path.moves) ≤ x + 1 → TakesFrom (x + 1) (drop j path.moves) → SeesPassing (rules_at log.specs i no_spec) (get_or log.before i []) (get_or log.after i []) (take j path.moves) (drop j path.moves) test seen
path_sees log i path j x test seen is own sees same a b =
    let k = rw (own.same_rules, own.same_before, own.same_after) at sees in
    let order : InOrder (rules_at log.specs i no_spec) (first_tenth log.hour) path.moves = rw own.same_moves (moves_order (get_or log.specs i no_spec) log.rows log.stretches log.hour is.is_hour) in
    k (first_tenth log.hour) x (is.early i) order a b same
