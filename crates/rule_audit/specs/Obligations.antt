-- What is to be judged in an hour, tenth by tenth.
use Rattle.std.specs.Prelude.{ℕ, suc, zero, ◌+◌, ◌&&◌, ◌||◌, not, Bool, true, false, nat_eq, if◌then◌else◌, List, [], ◌∷◌, ◌++◌, slice_index_or}
use Rattle.std.specs.List.{list_any}
use Rattle.sig_base.specs.declared.values.Row.{Row}
use Rattle.event_codes.specs.Channels.{channel_in_table}
use Rattle.channel_tables.specs.declared.spec.Spec.{Spec}
use Rattle.board.specs.declared.clause.Term.{Term}
use Rattle.board.specs.Channels.{is_channel}
use Rattle.board.specs.Logs.{no_spec}
use Rattle.rule_audit.specs.declared.rules.Rule.{Rule}
use Rattle.rule_audit.specs.declared.rules.Rule.TheVariants.{Interval, Conflict, Companion, Parents}
use Rattle.rule_audit.specs.declared.lines.Place.{Place}
use Rattle.rule_audit.specs.declared.lines.Place.TheVariants.{BeforeRow, EndOfTenth}

-- what is to be judged: a rule, by its number, at a place of a tenth; a place before a row has the row's place in the hour, from 0
pub record Obligation : Type 0 where
  pub number : ℕ
  pub rule : Rule
  pub at : ℕ
  pub place : Place

-- an obligation by its four parts
abbrev pub obligation : ℕ → Rule → ℕ → Place → Obligation
obligation n rule t p = record { number = n; rule = rule; at = t; place = p }

-- the row is of the channel with this place among the specs
abbrev pub is_row_of : List Spec → Row → ℕ → Bool
is_row_of specs r i = is_channel (slice_index_or specs i no_spec).channel (channel_in_table r.code r.param)

-- the rule is one on durations of the row's channel
abbrev pub is_timed_by : List Spec → Row → Rule → Bool
is_timed_by specs r (Interval item) = is_row_of specs r item.spec
is_timed_by specs r _ = false

-- the rule is a clause: a conflict, a companion or a parents rule
abbrev pub is_clause : Rule → Bool
is_clause (Interval item) = false
is_clause _ = true

-- the terms of a rule that is a clause
abbrev pub terms_of : Rule → List Term
terms_of (Interval item) = []
terms_of (Conflict a b terms) = terms
terms_of (Companion p terms) = terms
terms_of (Parents o terms) = terms

-- the row is of a term's channel
abbrev pub is_row_of_some : List Spec → Row → List Term → Bool
is_row_of_some specs r terms = list_any (λ c. is_row_of specs r c.spec) terms

-- before row i: each interval rule of its channel; the first of the rules has number n
unfoldable pub row_obligations : List Spec → ℕ → Row → ℕ → List Rule → List Obligation
row_obligations specs i r n [] = []
row_obligations specs i r n (x ∷ xs) = (if is_timed_by specs r x then obligation n x r.at (BeforeRow i) ∷ [] else []) ++ row_obligations specs i r (n + 1) xs

-- before the rows of tenth t, row by row; the first of the rows has place i
unfoldable pub rows_obligations : List Spec → List Rule → ℕ → ℕ → List Row → List Obligation
rows_obligations specs rules t i [] = []
rows_obligations specs rules t i (r ∷ rs) =
    (if nat_eq r.at t then row_obligations specs i r 1 rules else []) ++ rows_obligations specs rules t (i + 1) rs

-- at the end of tenth t: each clause, where the tenth begins a known stretch or has a row of one of the clause's channels; the first of the rules has number n, and `before` says whether the tenth before is known
unfoldable pub end_obligations : List Spec → List Row → Bool → ℕ → ℕ → List Rule → List Obligation
end_obligations specs rows before t n [] = []
end_obligations specs rows before t n (x ∷ xs) =
    (if is_clause x && (not before || list_any (λ r. nat_eq r.at t && is_row_of_some specs r (terms_of x)) rows) then obligation n x t EndOfTenth ∷ [] else [])
    ++ end_obligations specs rows before t (n + 1) xs

-- what is to be judged at the n tenths from t on: at each known one durations before its rows, and then clauses at its end; `before` says whether the tenth before t is known
unfoldable pub obligations_from : (ℕ → Bool) → List Spec → List Rule → List Row → Bool → ℕ → ℕ → List Obligation
obligations_from known specs rules rows before t zero = []
obligations_from known specs rules rows before t (suc n) =
    (if known t then rows_obligations specs rules t 0 rows ++ end_obligations specs rows before t 1 rules else [])
    ++ obligations_from known specs rules rows (known t) (t + 1) n

-- ---- For contracts alone

-- before row i: the rule with number n, where it is an interval rule of the row's channel
abbrev pub row_obligation : List Spec → ℕ → Row → ℕ → Rule → List Obligation
row_obligation specs i r n x = if is_timed_by specs r x then obligation n x r.at (BeforeRow i) ∷ [] else []

-- some row at the tenth is of a term's channel
abbrev pub has_row_at : List Spec → List Row → ℕ → List Term → Bool
has_row_at specs rows t terms = list_any (λ r. nat_eq r.at t && is_row_of_some specs r terms) rows

-- a clause is judged at the end of a tenth that begins a known stretch, and of one that has a row of one of its channels; `before` says whether the tenth before is known
abbrev pub is_due : List Spec → List Row → Bool → ℕ → Rule → Bool
is_due specs rows before t x = is_clause x && (not before || has_row_at specs rows t (terms_of x))

-- at the end of tenth t: the rule with number n, where it is due
abbrev pub end_obligation : List Spec → List Row → Bool → ℕ → ℕ → Rule → List Obligation
end_obligation specs rows before t n x = if is_due specs rows before t x then obligation n x t EndOfTenth ∷ [] else []

-- what is to be judged at a known tenth: durations before its rows, and then clauses at its end
abbrev pub tenth_obligations : List Spec → List Rule → List Row → Bool → ℕ → List Obligation
tenth_obligations specs rules rows before t = rows_obligations specs rules t 0 rows ++ end_obligations specs rows before t 1 rules
