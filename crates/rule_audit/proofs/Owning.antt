-- Of which channel the rows of an hour are, by the channels' moves.
use Rattle.std.proofs.Common.{suc, ◌≡◌, refl, ap, sym, ◌∙◌, subst, ◌⊎◌, inl, inr, ℕ, ◌+◌, ◌-◌, ◌<◌, Bool, true, false, ◌||◌, nat_eq, Option, Some, None, List, [], ◌∷◌, length, take, drop, get_or, set, length-drop, get_or-drop, get_or-set_other, get_or-set_same, arith}
use Rattle.std.specs.List.{All, list_any}
use Rattle.std.proofs.lemmas.Bool.{cases_Bool, cases_eq, cases_lt, eq-eqb, eqb-true, ne_eqb, or_left, or_right}
use Rattle.std.proofs.lemmas.List.{get_or-take, get_or_default, length-set, length-take-le}
use Rattle.std.proofs.lemmas.List.Folds.{list_any-append, list_any_at, list_any_more, Any-from_list_any}
use Rattle.sig_base.specs.declared.values.Row.{Row}
use Rattle.sig_base.proofs.Common.{clash, or_cases}
use Rattle.event_codes.specs.declared.channels.Channel.{Channel}
use Rattle.event_codes.specs.Channels.{channel_in_table}
use Rattle.channel_path.specs.declared.moves.Move.{Move}
use Rattle.channel_path.specs.declared.moves.Move.TheVariants.{Letter, Gap}
use Rattle.channel_tables.specs.declared.spec.Spec.{Spec}
use Rattle.channel_tables.specs.Letters.{letter_with}
use Rattle.channel_tables.proofs.Places.{channel_letter}
use Rattle.gap_map.specs.declared.stretch.Stretch.{Stretch}
use Rattle.gap_map.specs.Stretches.{FollowOn, known_at}
use Rattle.board.specs.Channels.{is_channel, track}
use Rattle.board.specs.History.{Track}
use Rattle.board.specs.Logs.{HourLog, end_tenth, first_tenth, no_row, no_spec}
use Rattle.board.specs.Moves.{RowsIn, count_before, letter_moves, own, stretch_moves, with_letter}
use Rattle.board.specs.Places.{IsLog, upto}
use Rattle.board.specs.Stops.{moves_at}
use Rattle.board.proofs.Adding.{count_le}
use Rattle.board.proofs.Rows.{about_row}
use Rattle.board.proofs.Tracks.{found_channel, letter_here, spec_letter}
use Rattle.board.proofs.Within.{hour_rows}
use Rattle.ring_config.proofs.TrackLaws.{or_true}
use Rattle.rule_audit.specs.declared.rules.Rule.{Rule}
use Rattle.rule_audit.specs.Index.{has_row, is_row, AreOwn, HasNoRule, IsWritten}
use Rattle.rule_audit.specs.Pass.{FitsRule}
use Rattle.rule_audit.proofs.Indexing.{none_ruled}

-- ---- the rows of a channel's moves

module _ (k : Track) where
  -- row j is one of the channel's
  abbrev IsLettered : List Row → ℕ → Type 0
  IsLettered rows j = (j < length rows) × ((l : ℕ) × (k.letter (get_or rows j no_row).code (get_or rows j no_row).param ≡ Some l))

  with_row : (o : Option ℕ) (at i n : ℕ) (ms : List Move) → has_row n (with_letter o at i ms) ≡ true → ((i ≡ n) × ((l : ℕ) × (o ≡ Some l))) ⊎ (has_row n ms ≡ true)
  with_row None at i n ms h = inr h
  with_row (Some l) at i n ms h = elim (or_cases (nat_eq i n) (has_row n ms) h) [ inl is ↦ inl (eqb-true i n is, (l, refl)) | inr more ↦ inr more ]

  rows_lettered : (i n : ℕ) (rows : List Row) → has_row n (letter_moves k i rows) ≡ true → (j : ℕ) × (n ≡ i + j) × IsLettered rows j
  rows_lettered i n [] h = absurd (cc)
  rows_lettered i n (r ∷ rs) h = elim (with_row (k.letter r.code r.param) r.at i n (letter_moves k (i + 1) rs) h) [
    | inl (e, is) ↦ (0, omega arith, (omega arith, is))
    | inr more ↦ let (j, e, (lt, is)) = rows_lettered (i + 1) n rs more in (suc j, omega arith, (omega arith, is))
  ]

  own_lettered : (i n : ℕ) (rows : List Row) (ss : List Stretch) → has_row n (own k i rows ss) ≡ true → (j : ℕ) × (n ≡ i + j) × IsLettered rows j
  own_lettered i n rows [] h = absurd (cc)
  own_lettered i n rows (s ∷ ss) h =
      let c = count_before s.to rows in
      let le = count_le s.to rows in
      let size : length (take c rows) ≡ c = length-take-le c rows le in
      let rest : length (drop c rows) ≡ length rows - c = length-drop c rows in
      let one = stretch_moves k i (take c rows) s in
      let two = own k (i + c) (drop c rows) ss in
      elim (or_cases (has_row n one) (has_row n two) (sym (list_any-append (is_row n) one two) ∙ h)) [
        | inl here ↦ elim (cases_Bool s.known) [
          | inl known ↦ let (j, e, (lt, is)) = rows_lettered i n (take c rows) (rw known at here) in (j, e, (omega arith, rw (get_or-take c rows j no_row (omega arith)) at is))
          | inr off ↦ let bad : false ≡ true = rw off at here in absurd (cc)
        ]
        | inr there ↦ let (j, e, (lt, is)) = own_lettered (i + c) n (drop c rows) ss there in (c + j, omega arith, (omega arith, rw (get_or-drop c rows j no_row) at is))
      ]

  own_there : (f t n : ℕ) (rows : List Row) (ss : List Stretch) → FollowOn f t ss → RowsIn f t rows → known_at ss (get_or rows n no_row).at ≡ true → IsLettered rows n → has_row n (own k 0 rows ss) ≡ true
  own_there f t n rows ss follow rise known (lt, (l, is)) =
      let at = (get_or rows n no_row).at in
      let front = own k 0 (take n rows) (upto at ss) in
      let (rest, e) = about_row k f t n l rows ss follow rise lt known is in
      ap (has_row n) e ∙ (list_any-append (is_row n) front (Letter at l n ∷ rest) ∙ or_right (has_row n front) _ (or_left (nat_eq n n) _ (eq-eqb n n refl)))

-- ---- writing a place

or_none : (b : Bool) → (b || false) ≡ b
or_none true = refl
or_none false = refl

module _ (moves : List Move) (i : ℕ) (d : Move) (lt : i < length moves) where
  pub letter_there : (at l m : ℕ) → get_or moves i d ≡ Letter at l m → has_row m moves ≡ true
  letter_there at l m e = list_any_at (is_row m) moves i d lt (rw e (eq-eqb m m refl))

  -- the moves so far, and one more
  module _ (place : ℕ) (old new : List ℕ) (is : IsWritten (take i moves) place old new) where
    pub written_letter : (at l m : ℕ) → m < length old → get_or moves i d ≡ Letter at l m → IsWritten (take (i + 1) moves) place old (set new m place)
    written_letter at l m less e = (
      length-set new m place ∙ is.0,
      λ n. rw (list_any_more (is_row n) moves i d lt, e) (elim (cases_eq n m) [
        | inl same ↦ rw (same, eq-eqb m m refl, or_true (has_row m (take i moves))) (get_or-set_same new m place 0 (let size = is.0 in omega arith))
        | inr other ↦ rw (get_or-set_other new m n place 0 other, ne_eqb m n (λ same. other (sym same)), or_none (has_row n (take i moves))) (is.1 n)
      ]),
    )

    pub written_gap : (f t : ℕ) → get_or moves i d ≡ Gap f t → IsWritten (take (i + 1) moves) place old new
    written_gap f t e = (is.0, λ n. rw (list_any_more (is_row n) moves i d lt, e, or_none (has_row n (take i moves))) (is.1 n))

-- ---- the places of the channels

-- the moves of the channel with this place
abbrev pub moves_of : HourLog → ℕ → List Move
moves_of log i = moves_at log.specs log.rows log.stretches i no_spec

-- by the moves of the first p channels: the row has the place of one of them, or the number of specs where each of which it is has no rule
abbrev pub IsOwnUpTo : HourLog → List Rule → ℕ → ℕ → ℕ → Type 0
IsOwnUpTo log rules p n s = ((s < p) × (has_row n (moves_of log s) ≡ true)) ⊎ ((s ≡ length log.specs) × ((i : ℕ) → i < p → has_row n (moves_of log i) ≡ true → HasNoRule log.specs rules (Some (get_or log.specs i no_spec).channel)))

-- each row
abbrev pub AreOwnUpTo : HourLog → List Rule → ℕ → List ℕ → Type 0
AreOwnUpTo log rules p own = (length own ≡ length log.rows) × ((n : ℕ) → n < length log.rows → IsOwnUpTo log rules p n (get_or own n 0))

module _ (log : HourLog) where
  -- a row of the moves is one of the channel, and the other way round
  pub row_channel : (i n : ℕ) → has_row n (moves_of log i) ≡ true → (n < length log.rows) × (channel_in_table (get_or log.rows n no_row).code (get_or log.rows n no_row).param ≡ Some (get_or log.specs i no_spec).channel)
  row_channel i n h =
      let s = get_or log.specs i no_spec in
      let (j, e, (lt, (l, is))) = own_lettered (track s) 0 n log.rows log.stretches h in
      let same : j ≡ n = omega arith in
      let here = (spec_letter s (get_or log.rows j no_row).code (get_or log.rows j no_row).param l is).0 in
      (omega arith, rw same at here)

  channel_row : (i n : ℕ) → IsLog log → n < length log.rows → known_at log.stretches (get_or log.rows n no_row).at ≡ true → channel_in_table (get_or log.rows n no_row).code (get_or log.rows n no_row).param ≡ Some (get_or log.specs i no_spec).channel → has_row n (moves_of log i) ≡ true
  channel_row i n is lt known here =
      let s = get_or log.specs i no_spec in
      let r = get_or log.rows n no_row in
      let (l, letter, few) = channel_letter r.code r.param s.channel here in
      own_there (track s) (first_tenth log.hour) (end_tenth log.hour) n log.rows log.stretches is.is_hour.follow (hour_rows log.hour log.rows log.stretches is.is_hour) known (lt, (l, letter_here s r.code r.param here ∙ (ap (λ (o : Option Channel). letter_with o r.code r.param) here ∙ letter)))

  module _ (rules : List Rule) where
    keep : (p n s : ℕ) → (has_row n (moves_of log p) ≡ true → HasNoRule log.specs rules (Some (get_or log.specs p no_spec).channel)) → IsOwnUpTo log rules p n s → IsOwnUpTo log rules (p + 1) n s
    keep p n s here own = elim own [
      | inl (lt, has) ↦ inl (omega arith, has)
      | inr (last, none) ↦ inr (
        last,
        λ i lt has. elim (cases_lt i p) [
          | inl less ↦ none i less has
          | inr ge ↦ let same : i ≡ p = omega arith in rw same (here (rw same at has))
        ],
      )
    ]

    -- the next channel has no rule
    pub own_kept : (p : ℕ) (own : List ℕ) → HasNoRule log.specs rules (Some (get_or log.specs p no_spec).channel) → AreOwnUpTo log rules p own → AreOwnUpTo log rules (p + 1) own
    own_kept p own none (size, each) = (size, λ n lt. keep p n (get_or own n 0) (λ _. none) (each n lt))

    -- its place is written
    pub own_written : (p : ℕ) (old new : List ℕ) → IsWritten (moves_of log p) p old new → AreOwnUpTo log rules p old → AreOwnUpTo log rules (p + 1) new
    own_written p old new (same, at) (size, each) = (
      same ∙ size,
      λ n lt. elim (cases_Bool (has_row n (moves_of log p))) [
        | inl has ↦ let e : get_or new n 0 ≡ p = rw has at (at n) in rw e (inl (omega arith, has))
        | inr off ↦ let e : get_or new n 0 ≡ get_or old n 0 = rw off at (at n) in rw e (keep p n (get_or old n 0) (λ has. absurd (clash (has_row n (moves_of log p)) has off)) (each n lt))
      ],
    )

    -- all are done
    pub own_done : (own : List ℕ) → IsLog log → All (FitsRule log.specs) rules → AreOwnUpTo log rules (length log.specs) own → AreOwn log.specs rules log.rows log.stretches own
    own_done own is fit (size, each) = (
      size,
      λ n lt known.
          let o = channel_in_table (get_or log.rows n no_row).code (get_or log.rows n no_row).param in
          let p : Spec → Bool = λ s. is_channel s.channel o in
          elim (each n lt) [
            | inl (less, has) ↦ inl (less, (row_channel (get_or own n 0) n has).1)
            | inr (last, none) ↦ inr (
              last,
              elim (cases_Bool (list_any p log.specs)) [
                | inl some ↦
                    let (i, s, li, at, on) = Any-from_list_any p log.specs some in
                    let there : get_or log.specs i no_spec ≡ s = get_or_default log.specs i no_spec s li ∙ at in
                    let here : o ≡ Some (get_or log.specs i no_spec).channel = found_channel (get_or log.specs i no_spec).channel o (rw there on) in
                    subst (λ (z : Option Channel). HasNoRule log.specs rules z) (sym here) (none i li (channel_row i n is lt known here))
                | inr off ↦ none_ruled log.specs o (λ i li. elim (cases_Bool (p (get_or log.specs i no_spec))) [ inl on ↦ absurd (clash (list_any p log.specs) (list_any_at p log.specs i no_spec li on) off) | inr other ↦ other ]) rules fit
              ],
            )
          ],
    )
