-- Rows and the fills between them, tenth by tenth.
use Rattle.std.proofs.Common.{◌≡◌, ◌≢◌, refl, sym, ap, ◌∙◌, subst, inl, inr, ◌↔◌, ℕ, ◌+◌, ◌<◌, ◌≤◌, Bool, true, nat_eq, List, [], ◌∷◌, ◌++◌, length, Option, Some, None, arith}
use Rattle.std.proofs.lemmas.Bool.{cases_Bool}
use Rattle.std.proofs.lemmas.Bool.Decides.{eqb_tells}
use Rattle.std.proofs.lemmas.List.{append-nil}
use Rattle.colour_machine.specs.Rules.{Rules}
use Rattle.sig_base.specs.declared.values.Row.{Row}
use Rattle.gap_map.proofs.Cutting.{nat_cases}
use Rattle.reach.specs.Runs.{State}
use Rattle.channel_path.specs.declared.moves.Move.{Move}
use Rattle.channel_path.specs.Walks.{Walk}
use Rattle.board.specs.History.{Agree, Agreeing, Event, Track, event_of, events_at, letters}
use Rattle.board.specs.Moves.{RowsIn, letter_moves, with_letter}
use Rattle.board.proofs.Bridge.{event_not_here, none_at, rows_walk}
use Rattle.board.proofs.Cutting.{events_join}
use Rattle.signal_log.proofs.Stored.{rows_join}
use Rattle.filling_pair.specs.declared.strands.Fill.{Fill}
use Rattle.filling_pair.specs.Strands.{row_of, rows_of}
use Rattle.filling_pair.specs.Walking.{MovesBy, Walks, before, merged, since}
use Rattle.filling_pair.proofs.Passing.{before_first, before_none, since_all, since_first}

-- ---- walks over rows are runs by tenth

with_one : (m : Rules) (o : Option ℕ) (at i : ℕ) (ms : List Move) (Q : State → Type 0) (s u : State) → ((v : State) → Q v ↔ Walk m ms v u) → ((v : State) × MovesBy m at o s v × Q v) ↔ Walk m (with_letter o at i ms) s u
with_one m None at i ms Q s u h = (λ (v, e, q). subst (λ (z : State). Walk m ms z u) e ((h v).0 q), λ w. (s, refl, (h s).1 w))
with_one m (Some l) at i ms Q s u h = (λ (v, e, q). (v, e, (h v).0 q), λ (v, e, w). (v, e, (h v).1 w))

walks_moves : (k : Track) (i : ℕ) (rs : List Row) (s u : State) → Walks k rs s u ↔ Walk k.rules (letter_moves k i rs) s u
walks_moves k i [] s u = (λ e. e, λ e. e)
walks_moves k i (r ∷ rs) s u = with_one k.rules (k.letter r.code r.param) r.at i (letter_moves k (i + 1) rs) (λ v. Walks k rs v u) s u (λ v. walks_moves k (i + 1) rs v u)

agree_letters : (known : ℕ → Bool) (given given2 : ℕ → List ℕ) (f t : ℕ) (xs : List (List ℕ)) → f + length xs ≡ t → ((x : ℕ) → f ≤ x → x < t → given x ≡ given2 x) → Agree known given f xs → Agree known given2 f xs
agree_letters known given given2 f t [] e g a = tt
agree_letters known given given2 f t (x ∷ xs) e g (a, r) =
    (λ is_known. a is_known ∙ g f (omega arith) (omega arith), agree_letters known given given2 (f + 1) t xs (omega arith) (λ y l1 l2. g y (omega arith) l2) r)

-- only the channel's letters matter
pub agreeing_letters : (k : Track) (known : ℕ → Bool) (given given2 : ℕ → List Event) (f t : ℕ) (s u : State) → ((x : ℕ) → f ≤ x → x < t → letters k (given x) ≡ letters k (given2 x)) → Agreeing k known given f t s u ↔ Agreeing k known given2 f t s u
agreeing_letters k known given given2 f t s u g = (
  λ (lists, len, (a, r)). (lists, len, (agree_letters known (λ x. letters k (given x)) (λ x. letters k (given2 x)) f t lists len g a, r)),
  λ (lists, len, (a, r)). (lists, len, (agree_letters known (λ x. letters k (given2 x)) (λ x. letters k (given x)) f t lists len (λ x l1 l2. sym (g x l1 l2)) a, r)),
)

pub walks_agree : (k : Track) (t : ℕ) (rows : List Row) (s u : State) → RowsIn 0 t rows → Walks k rows s u ↔ Agreeing k (λ x. true) (events_at rows) 0 t s u
walks_agree k t rows s u h =
    let w = rows_walk k (λ x. true) (events_at rows) t 0 t 0 rows s u (omega arith) h (λ x l1 l2. refl) (λ x l1 l2. refl) in
    let m = walks_moves k 0 rows s u in
    (λ a. w.1 (m.0 a), λ b. m.1 (w.0 b))

-- ---- the fills before a tenth, and the others

pub rows_apart : (t : ℕ) (fs : List Fill) → rows_of (before t fs) ++ rows_of (since t fs) ≡ rows_of fs
rows_apart t [] = refl
rows_apart t (f ∷ fs) = elim (nat_cases f.at t) [
  | inl (_, lt) ↦ rw (before_first t f fs lt, since_first t f fs lt) (ap (λ (xs : List Row). row_of f ∷ xs) (rows_apart t fs))
  | inr (_, le) ↦ rw (before_none t f fs le, since_all t f fs le) refl
]

events_apart : (t : ℕ) (fs : List Fill) (x : ℕ) → events_at (rows_of (before t fs)) x ++ events_at (rows_of (since t fs)) x ≡ events_at (rows_of fs) x
events_apart t fs x = sym (events_join (rows_of (before t fs)) (rows_of (since t fs)) x) ∙ ap (λ (rs : List Row). events_at rs x) (rows_apart t fs)

since_in : (t f end : ℕ) (fs : List Fill) → t ≤ end → RowsIn f end (rows_of fs) → RowsIn t end (rows_of (since t fs))
since_in t f end [] le h = le
since_in t f end (x ∷ fs) le h = elim (nat_cases x.at t) [
  | inl (_, lt) ↦ rw (since_first t x fs lt) (since_in t x.at end fs le h.2)
  | inr (_, ge) ↦ rw (since_all t x fs ge) (ge, h.1, h.2)
]

before_in : (b m f end : ℕ) (fs : List Fill) → b ≤ m → f ≤ m → RowsIn f end (rows_of fs) → RowsIn f m (rows_of (before b fs))
before_in b m f end [] le low h = low
before_in b m f end (x ∷ fs) le low h = elim (nat_cases x.at b) [
  | inl (_, lt) ↦ rw (before_first b x fs lt) (h.0, omega arith, before_in b m x.at end fs le (omega arith) h.2)
  | inr (_, ge) ↦ rw (before_none b x fs ge) low
]

-- ---- the rows with the fills between them

pub merged_in : (b m end f : ℕ) (rs : List Row) (fs : List Fill) → b ≤ m → m ≤ end → RowsIn f m rs → RowsIn f end (rows_of fs) → RowsIn f m (merged b rs fs)
merged_in b m end f [] fs le late h g = before_in b m f end fs le h g
merged_in b m end f (r ∷ rs) fs le late h g =
    let a = h.0 in
    let lt = h.1 in
    rows_join f r.at m (rows_of (before r.at fs)) (r ∷ merged b rs (since r.at fs)) (before_in r.at r.at f end fs (omega arith) a g)
    (omega arith, lt, merged_in b m end r.at rs (since r.at fs) le late h.2 (since_in r.at f end fs (omega arith) g))

nil_left : (xs ys : List Event) → xs ++ ys ≡ [] → xs ≡ []
nil_left [] ys e = refl
nil_left (x ∷ xs) ys e = absurd (cc)

nil_right : (xs ys : List Event) → xs ++ ys ≡ [] → ys ≡ []
nil_right [] ys e = e
nil_right (x ∷ xs) ys e = absurd (cc)

event_first : (r : Row) (xs ys : List Row) (x : ℕ) → events_at xs x ≡ events_at ys x → events_at (r ∷ xs) x ≡ events_at (r ∷ ys) x
event_first r xs ys x e = elim (cases_Bool (nat_eq r.at x)) [ inl q ↦ rw q (ap (λ (zs : List Event). event_of r ∷ zs) e) | inr q ↦ rw q e ]

-- at a tenth without fills stand the rows
pub rows_there : (b : ℕ) (rs : List Row) (fs : List Fill) (x : ℕ) → events_at (rows_of fs) x ≡ [] → events_at (merged b rs fs) x ≡ events_at rs x
rows_there b [] fs x e = nil_left (events_at (rows_of (before b fs)) x) (events_at (rows_of (since b fs)) x) (events_apart b fs x ∙ e)
rows_there b (r ∷ rs) fs x e =
    let first = nil_left (events_at (rows_of (before r.at fs)) x) (events_at (rows_of (since r.at fs)) x) (events_apart r.at fs x ∙ e) in
    let rest = nil_right (events_at (rows_of (before r.at fs)) x) (events_at (rows_of (since r.at fs)) x) (events_apart r.at fs x ∙ e) in
    let next = merged b rs (since r.at fs) in
    events_join (rows_of (before r.at fs)) (r ∷ next) x
    ∙ (ap (λ (zs : List Event). zs ++ events_at (r ∷ next) x) first ∙ event_first r next rs x (rows_there b rs (since r.at fs) x rest))

no_first : (r : Row) (rs : List Row) (x : ℕ) → events_at (r ∷ rs) x ≡ [] → (r.at ≢ x) × (events_at rs x ≡ [])
no_first r rs x e = elim (eqb_tells r.at x) [
  | inl (q, _) ↦ let bad : event_of r ∷ events_at rs x ≡ [] = rw q at e in absurd (cc)
  | inr (q, ne) ↦ (ne, rw q at e)
]

-- at a tenth without rows stand the fills
pub fills_there : (b end f : ℕ) (rs : List Row) (fs : List Fill) (x : ℕ) → x < b → b ≤ end → RowsIn f end rs → RowsIn f end (rows_of fs) → events_at rs x ≡ [] → events_at (merged b rs fs) x ≡ events_at (rows_of fs) x
fills_there b end f [] fs x lt le h g e =
    let none : events_at (rows_of (since b fs)) x ≡ [] = none_at (rows_of (since b fs)) b end x (since_in b f end fs le g) lt in
    sym (append-nil (events_at (rows_of (before b fs)) x)) ∙ (ap (λ (zs : List Event). events_at (rows_of (before b fs)) x ++ zs) (sym none) ∙ events_apart b fs x)
fills_there b end f (r ∷ rs) fs x lt le h g e =
    let (ne, rest) = no_first r rs x e in
    let late = h.1 in
    let next = merged b rs (since r.at fs) in
    let later : RowsIn r.at end (rows_of (since r.at fs)) = since_in r.at f end fs (omega arith) g in
    events_join (rows_of (before r.at fs)) (r ∷ next) x
    ∙ (ap (λ (zs : List Event). events_at (rows_of (before r.at fs)) x ++ zs) (event_not_here r next x ne ∙ fills_there b end r.at rs (since r.at fs) x lt le h.2 later rest) ∙ events_apart r.at fs x)
