-- The moves of a channel cut an hour into quiet ranges and gaps.
use Rattle.std.proofs.Common.{◌≡◌, ◌⊎◌, inl, inr, ℕ, ◌+◌, ◌<◌, ◌≤◌, Bool, true, Option, Some, None, List, [], ◌∷◌, ◌++◌, take, drop, refl, ap, sym, subst, ◌∙◌, arith}
use Rattle.std.proofs.lemmas.Bool.{cases_Bool, cases_lt}
use Rattle.std.proofs.lemmas.Bool.Decides.{eqb_tells}
use Rattle.sig_base.specs.declared.values.Row.{Row}
use Rattle.gap_map.specs.declared.stretch.Stretch.{Stretch}
use Rattle.gap_map.specs.Stretches.{FollowOn, known_at}
use Rattle.channel_path.specs.declared.moves.Move.{Move}
use Rattle.board.specs.History.{Event, Track, events_at, letters}
use Rattle.board.specs.Moves.{RowsIn, count_before, letter_moves, own}
use Rattle.board.proofs.Bridge.{event_not_here, none_at, cut_rows, known_here, known_there, late_end}
use Rattle.detector_state.specs.Ranges.{IsQuiet, IsCutBy}

-- a row of another channel has no letter at any tenth
pub passed : (k : Track) (r : Row) (rs : List Row) (x : ℕ) → k.letter r.code r.param ≡ None → letters k (events_at (r ∷ rs) x) ≡ letters k (events_at rs x)
passed k r rs x none = elim (eqb_tells r.at x) [
  | inl (e, _) ↦ rw (e, none) refl
  | inr (e, _) ↦ rw e refl
]

pub option_cases : (o : Option ℕ) → (o ≡ None) ⊎ ((z : ℕ) × (o ≡ Some z))
option_cases None = inl refl
option_cases (Some z) = inr (z, refl)

module _ (k : Track) (known : ℕ → Bool) (given : ℕ → List Event) (b : ℕ) where
  -- the rows of a known stretch, and what comes after them
  rows_cut : (a g u n : ℕ) (rs : List Row) (ms : List Move) → a ≤ g → g ≤ u → RowsIn g u rs → ((x : ℕ) → a ≤ x → x < u → known x ≡ true) → ((x : ℕ) → a < x → x < u → letters k (given x) ≡ letters k (events_at rs x))
      → ((c : ℕ) → a ≤ c → c ≤ u → IsQuiet k known given c u → IsCutBy k known given c b ms) → IsCutBy k known given a b (letter_moves k n rs ++ ms)
  rows_cut a g u n [] ms le up h kn same then = then a (omega arith) (omega arith) (λ t l lt. (kn t l lt, λ more. same t more lt))
  rows_cut a g u n (r ∷ rs) ms le up h kn same then =
      let low = h.0 in
      let high = h.1 in
      elim (option_cases (k.letter r.code r.param)) [
        | inl e ↦ rw e (rows_cut a r.at u (n + 1) rs ms (omega arith) (omega arith) h.2 kn (λ x l lt. same x l lt ∙ passed k r rs x e) then)
        | inr (z, e) ↦ rw e (
          omega arith,
          omega arith,
          (λ t l lt. (kn t l (omega arith), λ more. same t more (omega arith) ∙ ap (λ es. letters k es) (none_at (r ∷ rs) r.at u t (omega arith, h.1, h.2) lt))),
          (λ t l lt. absurd (omega arith)),
          rows_cut r.at r.at u (n + 1) rs ms (omega arith) (omega arith) h.2 (λ x l lt. kn x (omega arith) lt) (λ x l lt. same x (omega arith) lt ∙ ap (λ es. letters k es) (event_not_here r rs x (λ q. absurd (omega arith)))) (λ c l lt q. then c (omega arith) lt q),
        )
      ]

  own_cut : (a f n : ℕ) (rows : List Row) (ss : List Stretch) → a ≤ f → IsQuiet k known given a f → FollowOn f b ss → RowsIn f b rows → ((x : ℕ) → f ≤ x → x < b → known x ≡ known_at ss x) → ((x : ℕ) → f ≤ x → x < b → given x ≡ events_at rows x) → IsCutBy k known given a b (own k n rows ss)
  own_cut a f n rows [] le q st h kn gv = let same : f ≡ b = st in (omega arith, subst (λ (z : ℕ). IsQuiet k known given a z) same q)
  own_cut a f n rows (s ∷ ss) le q st h kn gv =
      let first = st.0 in
      let lt = st.1 in
      let end = late_end s.to b ss st.2 in
      let c = count_before s.to rows in
      let (k1, k2, k3, k4) = cut_rows f s.to b rows (omega arith) end h in
      let known_later = λ (x : ℕ) (from : s.to ≤ x) (up : x < b). kn x (omega arith) up ∙ known_there s ss x from in
      let given_later = λ (x : ℕ) (from : s.to ≤ x) (up : x < b). gv x (omega arith) up ∙ k4 x from in
      elim (cases_Bool s.known) [
        | inl e ↦ rw e (rows_cut a f s.to n (take c rows) (own k (n + c) (drop c rows) ss) le (omega arith) k1
            (λ x l u. elim (cases_lt x f) [ inl early ↦ (q x l early).0 | inr from ↦ kn x from (omega arith) ∙ known_here s ss f b x st from u ∙ e ])
            (λ x l u. elim (cases_lt x f) [
              | inl early ↦ (q x (omega arith) early).1 l ∙ sym (ap (λ es. letters k es) (none_at (take c rows) f s.to x k1 early))
              | inr from ↦ ap (λ es. letters k es) (gv x from (omega arith) ∙ k3 x u)
            ])
            (λ d l u quiet. own_cut d s.to (n + c) (drop c rows) ss u quiet st.2 k2 known_later given_later))
        | inr e ↦ rw e (
          omega arith,
          omega arith,
          (λ t l u. q t l (omega arith)),
          (λ t l u. kn t (omega arith) (omega arith) ∙ known_here s ss f b t st (omega arith) u ∙ e),
          own_cut s.to s.to (n + c) (drop c rows) ss (omega arith) (λ t l u. absurd (omega arith)) st.2 k2 known_later given_later,
        )
      ]

pub hour_cut : (k : Track) (rows : List Row) (ss : List Stretch) (f b : ℕ) → FollowOn f b ss → RowsIn f b rows → IsCutBy k (known_at ss) (events_at rows) f b (own k 0 rows ss)
hour_cut k rows ss f b st h = own_cut k (known_at ss) (events_at rows) b f f 0 rows ss (omega arith) (λ t l u. absurd (omega arith)) st h (λ x l u. refl) (λ x l u. refl)
