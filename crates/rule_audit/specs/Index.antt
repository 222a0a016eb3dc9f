-- The rules by channel: which rule comes next for it, and of which channel each row is.
use Rattle.std.specs.Prelude.{◌≡◌, ◌⊎◌, ℕ, ◌+◌, ◌-◌, ◌<◌, ◌≤◌, Bool, true, false, nat_eq, if◌then◌else◌, Option, Some, List, [], length, slice_index_or}
use Rattle.std.specs.List.{list_any}
use Rattle.sig_base.specs.declared.values.Row.{Row}
use Rattle.event_codes.specs.declared.channels.Channel.{Channel}
use Rattle.event_codes.specs.Channels.{channel_in_table}
use Rattle.channel_path.specs.declared.moves.Move.{Move}
use Rattle.channel_path.specs.declared.moves.Move.TheVariants.{Letter, Gap}
use Rattle.channel_tables.specs.declared.spec.Spec.{Spec}
use Rattle.gap_map.specs.declared.stretch.Stretch.{Stretch}
use Rattle.gap_map.specs.Stretches.{known_at}
use Rattle.board.specs.Channels.{is_channel}
use Rattle.board.specs.Logs.{no_row, no_spec}
use Rattle.rule_audit.specs.declared.rules.Rule.{Rule}
use Rattle.rule_audit.specs.declared.rules.Rule.TheVariants.{Interval, Conflict, Companion, Parents}

-- stands where a list has no rule
abbrev pub no_rule : Rule
no_rule = Companion 0 []

-- m is the first place from k on, of the n places, that passes, or n where none does
pub record IsNext (p : ℕ → Bool) (n k m : ℕ) : Type 0 where
  pub from : k ≤ m
  pub within : m ≤ n
  pub none : (x : ℕ) → k ≤ x → x < m → p x ≡ false
  pub passes : m < n → p m ≡ true

-- the list has these from its end to its start
abbrev pub IsSkips : (ℕ → Bool) → ℕ → List ℕ → Type 0
IsSkips p n xs = (length xs ≡ n + 1) × ((k : ℕ) → k ≤ n → IsNext p n k (slice_index_or xs (n - k) 0))

-- an interval rule of the channel
abbrev pub is_timed_on : List Spec → Option Channel → Rule → Bool
is_timed_on specs o (Interval item) = is_channel (slice_index_or specs item.spec no_spec).channel o
is_timed_on specs o (Conflict a b terms) = false
is_timed_on specs o (Companion p terms) = false
is_timed_on specs o (Parents p terms) = false

-- a clause with a term of the channel
abbrev pub is_clause_on : List Spec → Option Channel → Rule → Bool
is_clause_on specs o (Interval item) = false
is_clause_on specs o (Conflict a b terms) = list_any (λ c. is_channel (slice_index_or specs c.spec no_spec).channel o) terms
is_clause_on specs o (Companion p terms) = list_any (λ c. is_channel (slice_index_or specs c.spec no_spec).channel o) terms
is_clause_on specs o (Parents p terms) = list_any (λ c. is_channel (slice_index_or specs c.spec no_spec).channel o) terms

-- the one or the other, by place
abbrev pub is_picked : List Spec → List Rule → Bool → Channel → ℕ → Bool
is_picked specs rules clauses c x = if clauses then is_clause_on specs (Some c) (slice_index_or rules x no_rule) else is_timed_on specs (Some c) (slice_index_or rules x no_rule)

-- a list for each channel
abbrev pub AreSkips : List Spec → List Rule → Bool → ℕ → List (List ℕ) → Type 0
AreSkips specs rules clauses n lists = (length lists ≡ n) × ((s : ℕ) → s < n → IsSkips (is_picked specs rules clauses (slice_index_or specs s no_spec).channel) (length rules) (slice_index_or lists s []))

-- no rule is of the channel: neither an interval rule nor a clause with a term of it
abbrev pub HasNoRule : List Spec → List Rule → Option Channel → Type 0
HasNoRule specs rules o = (x : ℕ) → x < length rules → (is_timed_on specs o (slice_index_or rules x no_rule) ≡ false) × (is_clause_on specs o (slice_index_or rules x no_rule) ≡ false)

-- the row is of the channel with this place, or no rule is of its channel where that is the number of specs
abbrev pub IsOwn : List Spec → List Rule → Row → ℕ → Type 0
IsOwn specs rules r s = ((s < length specs) × (channel_in_table r.code r.param ≡ Some (slice_index_or specs s no_spec).channel)) ⊎ ((s ≡ length specs) × HasNoRule specs rules (channel_in_table r.code r.param))

-- each row of a known tenth
abbrev pub AreOwn : List Spec → List Rule → List Row → List Stretch → List ℕ → Type 0
AreOwn specs rules rows ss own = (length own ≡ length rows) × ((i : ℕ) → i < length rows → known_at ss (slice_index_or rows i no_row).at ≡ true → IsOwn specs rules (slice_index_or rows i no_row) (slice_index_or own i 0))

-- the move is a letter, and this is its row
abbrev pub is_row : ℕ → Move → Bool
is_row n (Letter at l m) = nat_eq m n
is_row n (Gap f t) = false

-- the row is that of a letter among the moves
abbrev pub has_row : ℕ → List Move → Bool
has_row n moves = list_any (is_row n) moves

-- the place stands at the rows of the moves, and at the others what stood there before
abbrev pub IsWritten : List Move → ℕ → List ℕ → List ℕ → Type 0
IsWritten moves place old new = (length new ≡ length old) × ((n : ℕ) → slice_index_or new n 0 ≡ (if has_row n moves then place else slice_index_or old n 0))

-- the row is of a channel of the clause with this place
abbrev pub is_due_by : List Spec → List Rule → Row → ℕ → Bool
is_due_by specs rules r x = is_clause_on specs (channel_in_table r.code r.param) (slice_index_or rules x no_rule)

-- m is the first place from k on of a clause with a channel of one of the rows from f up to t, or the number of rules
pub record IsNextDue (specs : List Spec) (rules : List Rule) (rows : List Row) (f t k m : ℕ) : Type 0 where
  pub from : k ≤ m
  pub within : m ≤ length rules
  pub none : (x j : ℕ) → k ≤ x → x < m → f ≤ j → j < t → is_due_by specs rules (slice_index_or rows j no_row) x ≡ false
  pub passes : m < length rules → (j : ℕ) × (f ≤ j) × (j < t) × (is_due_by specs rules (slice_index_or rows j no_row) m ≡ true)

-- by the places of the rows' channels among n specs: the channels of the rows from row f up to row t that have a rule, and no other
pub record AreChannels (own : List ℕ) (n f t : ℕ) (channels : List ℕ) : Type 0 where
  pub within : (k : ℕ) → k < length channels → slice_index_or channels k 0 < n
  pub rows : (k : ℕ) → k < length channels → (j : ℕ) × (f ≤ j) × (j < t) × (slice_index_or own j 0 ≡ slice_index_or channels k 0)
  pub all : (j : ℕ) → f ≤ j → j < t → slice_index_or own j 0 < n → (k : ℕ) × (k < length channels) × (slice_index_or channels k 0 ≡ slice_index_or own j 0)
