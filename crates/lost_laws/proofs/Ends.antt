-- A line at the end of a tenth, explained by a walk over the moves of a term's channel.
use Rattle.std.proofs.Common.{◌≡◌, refl, ap, ◌∙◌, subst, inl, inr, ◌↔◌, ℕ, ◌+◌, ◌<◌, pos, List, [], ◌∷◌, ◌++◌, take, drop, arith}
use Rattle.std.proofs.lemmas.List.{append-nil}
use Rattle.reach.specs.Runs.{State}
use Rattle.sig_base.specs.declared.values.Row.{Row}
use Rattle.board.specs.declared.clause.Term.{Term}
use Rattle.board.specs.History.{Event, events_at}
use Rattle.board.specs.Moves.{RowsIn}
use Rattle.board.specs.Verdicts.{HoldOne}
use Rattle.board.proofs.Bridge.{none_at}
use Rattle.signal_log.specs.Log.{Log, track_at, window_end}
use Rattle.lost_rows.specs.Walks.{WalkedFrom, WalkedTo, nothing_asked}
use Rattle.lost_rows.specs.Lines.{ExplainsClause}
use Rattle.lost_laws.specs.Tenths.{IsCompletedLosing, IsReachedLosing, MayBeAtEndLosing}
use Rattle.lost_laws.specs.Walks.{IsKnownEnd, IsPart, NeedsOfEnd, Part, SomeTerm, TermWalk, moves_before, moves_from}
use Rattle.lost_laws.proofs.Channels.{clause_to}
use Rattle.lost_laws.proofs.Histories.{term_back}
use Rattle.lost_laws.proofs.Moves.{last_tenth, ranges_join}
use Rattle.lost_laws.proofs.Needs.{same_least}
use Rattle.lost_laws.proofs.Parts.{IsCutAt, completed_place, events_parts, reached_place}
use Rattle.lost_laws.proofs.Ranges.{none_lost}

rows_late : (x t : ℕ) (rows : List Row) → RowsIn (x + 1) t rows → RowsIn x t rows
rows_late x t [] h = omega arith
rows_late x t (r ∷ rows) (ge, lt, rest) = (omega arith, lt, rest)

module _ (log : Log) (p : Part) (x n : ℕ) (part : IsPart log p) (end : IsKnownEnd log p x n) where
  abbrev given : List Event
  given = events_at log.rows x

  pub end_cut : IsCutAt log p x n
  end_cut = record { first = end.first; last = end.last; is_known = end.is_known; before = end.before; after = rows_late x p.to (drop n p.rows) end.after }

  none_later : events_at (drop n p.rows) x ≡ []
  none_later = none_at (drop n p.rows) (x + 1) p.to x end.after (omega arith)

  given_is : given ≡ events_at (take n p.rows) x
  given_is = events_parts log p n x part end.first end.last ∙ (ap (λ es. events_at (take n p.rows) x ++ es) none_later ∙ append-nil (events_at (take n p.rows) x))

  -- the channel comes to the end of the tenth
  pub reached_end : (i a : ℕ) (v : State) → IsReachedLosing log nothing_asked i (x + 1) a v ↔ WalkedFrom (track_at log i).rules nothing_asked (λ c s. IsReachedLosing log nothing_asked i p.from c s) p.from (moves_before (track_at log i) p x n) (x + 1) a v
  reached_end i a v =
      let k = track_at log i in
      let join = λ (s : State). ranges_join k log.known (events_at log.rows) nothing_asked 0 x (x + 1) a s v (omega arith) (omega arith) in
      let last = λ (d : ℕ) (z : State). rw given_is at (last_tenth k log.known (events_at log.rows) nothing_asked x d z v end.is_known) in
      let place = reached_place log p i x n part end_cut nothing_asked a v in (
        (λ (s, early, w). let (c, d, sum, (z, front, back)) = (join s).0 w in place.0 (c, d, sum, (z, (s, early, front), (last d z).0 back))),
        λ w. let (c, d, sum, (z, (s, early, front), back)) = place.1 w in (s, early, (join s).1 (c, d, sum, (z, front, (last d z).1 back))),
      )

  -- and goes on from there
  pub completed_end : (i b : ℕ) (v : State) → IsCompletedLosing log i (x + 1) b v ↔ WalkedTo (track_at log i).rules (λ c u. IsCompletedLosing log i p.to c u) (x + 1) (moves_from (track_at log i) p x n) p.to b v
  completed_end i b v =
      let k = track_at log i in
      let place = rw none_later at (completed_place log p i x n part end_cut b v) in (
        (λ completed. place.0 (0, b, omega arith, (v, refl, completed))),
        λ w.
            let (c, d, sum, (z, rows, completed)) = place.1 w in
            let (none, same) = (none_lost k.rules nothing_asked (pos (x + 1)) c v z).0 rows in
            let all : d ≡ b = omega arith in
            subst (λ (q : State). IsCompletedLosing log i (x + 1) b q) same (subst (λ (m : ℕ). IsCompletedLosing log i (x + 1) m z) all completed),
      )

  pub to_terms : (terms : List Term) (j : ℕ) → HoldOne (MayBeAtEndLosing log x j) terms → SomeTerm (TermWalk log p x n j) terms
  to_terms [] j none = none
  to_terms (c ∷ cs) j (inl (v, (a, b, sum, one, two), has)) = inl (a, b, sum, (v, (reached_end c.spec a v).0 one, has, (completed_end c.spec b v).0 two))
  to_terms (c ∷ cs) j (inr more) = inr (to_terms cs j more)

  pub from_terms : (terms : List Term) (j : ℕ) → SomeTerm (TermWalk log p x n j) terms → HoldOne (MayBeAtEndLosing log x j) terms
  from_terms [] j none = none
  from_terms (c ∷ cs) j (inl (a, b, sum, (v, one, has, two))) = inl (v, (a, b, sum, (reached_end c.spec a v).1 one, (completed_end c.spec b v).1 two), has)
  from_terms (c ∷ cs) j (inr more) = inr (from_terms cs j more)

pub needs_end : NeedsOfEnd
needs_end log p line n k are has part end within =
    let lt : line.at < window_end log = (let a = end.last in let b = part.within in omega arith) in
    same_least (ExplainsClause log line) (λ j. SomeTerm (TermWalk log p line.at n j) line.terms) k
    (λ m explains. let (j, le, hold) = clause_to log line m within lt (m, omega arith, explains) in (j, le, to_terms log p line.at n part end line.terms j hold))
    (λ j walk. term_back log line j are has within lt (from_terms log p line.at n part end line.terms j walk))
