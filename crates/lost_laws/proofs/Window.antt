-- The whole window as one part, from the states before it to those that are admitted at its end.
use Rattle.std.proofs.Common.{◌≡◌, refl, subst, inl, inr, ◌↔◌, ℕ, ◌+◌, ◌<◌, ℤ, pos, List, [], ◌∷◌, length, take, drop, get_or, arith, Option}
use Rattle.span_set.specs.declared.set.Span.{Span}
use Rattle.colour_machine.specs.Mask.{Has}
use Rattle.colour_machine.specs.Rules.{IsMachine}
use Rattle.reach.specs.Runs.{State}
use Rattle.channel_path.specs.declared.moves.Move.{Move}
use Rattle.gap_map.specs.declared.stretch.Stretch.{Stretch}
use Rattle.channel_tables.proofs.Machines.{spec_machine}
use Rattle.board.specs.declared.clause.Term.{Term}
use Rattle.board.specs.History.{Track, events_at, letters}
use Rattle.board.specs.Channels.{AreSpecs}
use Rattle.board.specs.Logs.{no_spec}
use Rattle.board.specs.Verdicts.{AreWithin}
use Rattle.signal_log.specs.Log.{Log, track_at, window_end}
use Rattle.lost_rows.specs.declared.asked.Asked.{Asked}
use Rattle.lost_rows.specs.Stills.{Spares}
use Rattle.lost_rows.specs.Walks.{AfterLostMoves, BeforeLostMoves, LostWalk, WalkedFrom, WalkedTo, nothing_asked}
use Rattle.lost_laws.specs.Tenths.{IsCompletedLosing, IsReachedLosing}
use Rattle.lost_laws.specs.Channels.{asked_of}
use Rattle.lost_laws.specs.Walks.{AreEndsOf, IsPart, NeedsOfWindowEnd, NeedsOfWindowRow, Part, RowExplained, RowWalk, SomeTerm, TermExplained, TermWalk, moves_before, moves_from, row_in, whole_window}
use Rattle.lost_laws.proofs.Ends.{end_cut, needs_end}
use Rattle.lost_laws.proofs.Good.{IsGood, later_good, letters_good, loses_good}
use Rattle.lost_laws.proofs.Parts.{IsCutAt, none_outside, reached_place, since_place}
use Rattle.lost_laws.proofs.Rows.{needs_row, row_cut}

module _ (log : Log) (ss : List Stretch) (i : ℕ) (before : List (List Span)) (after : List (Option ℤ)) (are : AreSpecs log.specs) (small : i < length log.specs) (part : IsPart log (whole_window log ss)) (ends : AreEndsOf log i before after) where
  abbrev k : Track
  k = track_at log i

  abbrev whole : Part
  whole = whole_window log ss

  laws : IsMachine k.rules
  laws = spec_machine (get_or log.specs i no_spec) (are.fit i no_spec small)

  -- the moves from the window's begin on
  pub from_start : (r : Asked) (xs : List Move) (b j : ℕ) (v : State) → WalkedFrom k.rules r (λ c s. IsReachedLosing log r i 0 c s) 0 xs b j v ↔ AfterLostMoves k.rules r 0 xs b j before v
  from_start r xs b j v = (
    λ (c, m, sum, (s, reached, walk)).
        let (none, early) = (none_outside log r i c s).0.0 reached in
        let all : m ≡ j = omega arith in
        (s, (ends.starts s).1 early, subst (λ (z : ℕ). LostWalk k.rules r 0 xs b z s v) all walk),
    λ (s, held, walk). (0, j, omega arith, (s, (none_outside log r i 0 s).0.1 (refl, (ends.starts s).0 held), walk)),
  )

  -- the states to which they lead
  reached_good : (r : Asked) (x n j : ℕ) (v : State) → IsCutAt log whole x n → WalkedFrom k.rules r (λ c s. IsReachedLosing log r i 0 c s) 0 (moves_before k whole x n) (x + 1) j v → IsGood k.rules (x + 1) v
  reached_good r x n j v cut walk =
      let (a, b, sum, (z, (s, early, w), to)) = (reached_place log whole i x n part cut r j v).1 walk in
      letters_good k.rules r x x (letters k (events_at (take n log.rows) x)) b z v laws to (later_good k.rules x z (loses_good k log.known (events_at log.rows) r 0 x a s z laws w early))

  -- the moves up to the window's end
  pub to_end : (x n j : ℕ) (v : State) → IsCutAt log whole x n → IsGood k.rules (x + 1) v → WalkedTo k.rules (λ c u. IsCompletedLosing log i (window_end log) c u) (x + 1) (moves_from k whole x n) (window_end log) j v ↔ BeforeLostMoves k.rules nothing_asked (x + 1) (moves_from k whole x n) (window_end log) j after v
  to_end x n j v cut good = (
    λ (c, m, sum, (u, completed, walk)).
        let none = (none_outside log nothing_asked i c u).1.0 completed in
        let all : m ≡ j = omega arith in
        let (a, b, sum2, (z, from, rest)) = (since_place log whole i x n part cut m v u).0 walk in
        let on = letters_good k.rules nothing_asked (x + 1) x (letters k (events_at (drop n log.rows) x)) a v z laws from good in
        let last = loses_good k log.known (events_at log.rows) nothing_asked (x + 1) (window_end log) b z u laws rest on in
        (u, (ends.ends u).1 last, subst (λ (y : ℕ). LostWalk k.rules nothing_asked (x + 1) (moves_from k whole x n) (window_end log) y v u) all walk),
    λ (u, admitted, walk). (0, j, omega arith, (u, (none_outside log nothing_asked i 0 u).1.1 refl, walk)),
  )

  -- what explains a line there, by the states of the window's ends or by sets and latest entries
  pub explained_is : (r : Asked) (x n j : ℕ) (Keeps : State → Type 0) → IsCutAt log whole x n → ((a b : ℕ) × (a + b ≡ j) × ((v : State) × WalkedFrom k.rules r (λ c s. IsReachedLosing log r i 0 c s) 0 (moves_before k whole x n) (x + 1) a v × Keeps v × WalkedTo k.rules (λ c u. IsCompletedLosing log i (window_end log) c u) (x + 1) (moves_from k whole x n) (window_end log) b v)) ↔ ((a b : ℕ) × (a + b ≡ j) × ((v : State) × AfterLostMoves k.rules r 0 (moves_before k whole x n) (x + 1) a before v × Keeps v × BeforeLostMoves k.rules nothing_asked (x + 1) (moves_from k whole x n) (window_end log) b after v))
  explained_is r x n j Keeps cut = (
    λ (a, b, sum, (v, one, keeps, two)). (a, b, sum, (v, (from_start r (moves_before k whole x n) (x + 1) a v).0 one, keeps, (to_end x n b v cut (reached_good r x n a v cut one)).0 two)),
    λ (a, b, sum, (v, one, keeps, two)).
        let first = (from_start r (moves_before k whole x n) (x + 1) a v).1 one in
        (a, b, sum, (v, first, keeps, (to_end x n b v cut (reached_good r x n a v cut first)).1 two)),
  )

-- the same least number
least_is : (P Q : ℕ → Type 0) (n : ℕ) → ((j : ℕ) → P j ↔ Q j) → (P n × ((k : ℕ) → k < n → P k → ⊥)) ↔ (Q n × ((k : ℕ) → k < n → Q k → ⊥))
least_is P Q n is = (
  λ (p, none). ((is n).0 p, λ k lt q. none k lt ((is k).1 q)),
  λ (q, none). ((is n).1 q, λ k lt p. none k lt ((is k).0 p)),
)

pub needs_window_row : NeedsOfWindowRow
needs_window_row log ss before after rule n k are has part row ends =
    let whole = whole_window log ss in
    let x = (row_in whole n).at in
    let needs = needs_row log whole rule n k are has part row in
    let least = least_is (RowWalk log whole rule n) (RowExplained log ss before after rule n) k (λ j. explained_is log ss rule.channel before after are row.channel part ends (asked_of rule) x n j (Spares (asked_of rule) (pos x)) (row_cut log whole rule n part row)) in
    ((λ w. least.0 (needs.0 w)), λ w. needs.1 (least.1 w))

terms_are : (log : Log) (ss : List Stretch) (before : ℕ → List (List Span)) (after : ℕ → List (Option ℤ)) (x n j : ℕ) (terms : List Term) → AreSpecs log.specs → IsPart log (whole_window log ss) → IsCutAt log (whole_window log ss) x n → AreWithin (length log.specs) terms → ((i : ℕ) → i < length log.specs → AreEndsOf log i (before i) (after i)) → SomeTerm (TermWalk log (whole_window log ss) x n j) terms ↔ SomeTerm (TermExplained log ss before after x n j) terms
terms_are log ss before after x n j [] are part cut within ends = (λ none. none, λ none. none)
terms_are log ss before after x n j (c ∷ cs) are part cut (small, within) ends =
    let one = explained_is log ss c.spec (before c.spec) (after c.spec) are small part (ends c.spec small) nothing_asked x n j (λ v. Has c.colours v.colour) cut in
    let more = terms_are log ss before after x n j cs are part cut within ends in (
      λ some. elim some [ inl walk ↦ inl (one.0 walk) | inr others ↦ inr (more.0 others) ],
      λ some. elim some [ inl walk ↦ inl (one.1 walk) | inr others ↦ inr (more.1 others) ],
    )

pub needs_window_end : NeedsOfWindowEnd
needs_window_end log ss before after line n k are has part end within ends =
    let whole = whole_window log ss in
    let needs = needs_end log whole line n k are has part end within in
    let least = least_is (λ j. SomeTerm (TermWalk log whole line.at n j) line.terms) (λ j. SomeTerm (TermExplained log ss before after line.at n j) line.terms) k (λ j. terms_are log ss before after line.at n j line.terms are part (end_cut log whole line.at n part end) within ends) in
    ((λ w. least.0 (needs.0 w)), λ w. needs.1 (least.1 w))
