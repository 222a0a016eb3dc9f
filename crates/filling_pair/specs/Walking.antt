-- One channel's walk over known rows, with fills put between them.
use Rattle.std.specs.Prelude.{◌≡◌, ◌↔◌, ℕ, zero, suc, ◌+◌, ◌-◌, ◌*◌, ◌/◌, ◌<◌, pos, nat_lt, Bool, ◌&&◌, not, if◌then◌else◌, Option, Some, None, is_some, List, [], ◌∷◌, ◌++◌, length, filter, take}
use Rattle.event_codes.specs.declared.channels.Channel.{Channel}
use Rattle.event_codes.specs.Channels.{channel_in_table}
use Rattle.channel_tables.specs.Any.{any_rules}
use Rattle.channel_tables.specs.Letters.{letter_in_table}
use Rattle.colour_machine.specs.Rules.{Rules}
use Rattle.sig_base.specs.declared.values.Row.{Row}
use Rattle.span_set.specs.declared.set.Span.{Span}
use Rattle.span_set.specs.Spans.{is_member}
use Rattle.reach.specs.Runs.{State, Step, state}
use Rattle.hour_store.specs.Store.{Store, is_known}
use Rattle.board.specs.Channels.{is_channel}
use Rattle.board.specs.History.{Track}
use Rattle.board.specs.Moves.{count_before}
use Rattle.channel_tables.specs.declared.spec.Spec.{Spec}
use Rattle.rule_audit.specs.declared.lines.AuditLine.{AuditLine}
use Rattle.rule_audit.specs.declared.lines.Place.{Place}
use Rattle.rule_audit.specs.declared.lines.Place.TheVariants.{BeforeRow, EndOfTenth}
use Rattle.filling_pair.specs.declared.strands.Fill.{Fill}
use Rattle.filling_pair.specs.declared.strands.Strand.{Strand}
use Rattle.filling_pair.specs.declared.step.Stand.{Stand}
use Rattle.filling_pair.specs.declared.step.Follower.{Follower}
use Rattle.filling_pair.specs.declared.walk.Cursor.{Cursor}
use Rattle.filling_pair.specs.Strands.{AreFills, rows_of, start_of}
use Rattle.filling_pair.specs.Kept.{StandsAtLine, line_rows}
use Rattle.signal_log.specs.Rows.{hour_rows}

-- ---- steps

abbrev pub state_of : Stand → State
state_of s = state s.colour s.entry

-- the letter of the channel that the code and the parameter are
abbrev pub letter_on : Channel → ℕ → ℕ → Option ℕ
letter_on c code param = if is_channel c (channel_in_table code param) then letter_in_table code param else None

-- the track that is followed
abbrev pub track_of : Follower → Track
track_of f = record { rules = any_rules f.machine; letter = letter_on f.channel }

-- exactly this state comes of it, or none does
abbrev pub IsEnd : Rules → (State → Type 0) → Option Stand → Type 0
IsEnd m P None = (u : State) → P u → ⊥
IsEnd m P (Some s) = (s.colour < m.colours) × ((u : State) → P u ↔ (u ≡ state_of s))

-- the colour is one of the machine's
abbrev pub Fits : Rules → Option Stand → Type 0
Fits m None = Unit {0}
Fits m (Some s) = s.colour < m.colours

abbrev pub IsFit : Follower → Option Stand → Type 0
IsFit f o = Fits (any_rules f.machine) o

-- it holds in the state, of which there is one
abbrev pub In : Option Stand → (State → Type 0) → Type 0
In None P = ⊥
In (Some s) P = P (state_of s)

-- the letter, where there is one, leads from state s to state v
abbrev pub MovesBy : Rules → ℕ → Option ℕ → State → State → Type 0
MovesBy m t None s v = v ≡ s
MovesBy m t (Some l) s v = Step m (pos t) s l v

abbrev pub Moves : Track → Row → State → State → Type 0
Moves k r s v = MovesBy k.rules r.at (k.letter r.code r.param) s v

-- the rows, one after another, lead from state s to state u
abbrev pub Walks : Track → List Row → State → State → Type 0
Walks k [] s u = u ≡ s
Walks k (r ∷ rs) s u = (v : State) × Moves k r s v × Walks k rs v u

-- the rows lead on from the one state to the other, whatever comes after them
abbrev pub Carries : Follower → List Row → Option Stand → Option Stand → Type 0
Carries f rows here new = (more : List Row) (u : State) → In here (λ s. Walks (track_of f) (rows ++ more) s u) ↔ In new (λ s. Walks (track_of f) more s u)

-- ---- fills between rows

-- the first fills, as far as they are before the tenth, and those from the first on that isn't
abbrev pub before : ℕ → List Fill → List Fill
before t [] = []
before t (f ∷ fs) = if nat_lt f.at t then f ∷ before t fs else []

abbrev pub since : ℕ → List Fill → List Fill
since t [] = []
since t (f ∷ fs) = if nat_lt f.at t then since t fs else f ∷ fs

-- the rows, before each the fills that are before its tenth, and after all the fills that are before tenth b
abbrev pub merged : ℕ → List Row → List Fill → List Row
merged b [] fs = rows_of (before b fs)
merged b (r ∷ rs) fs = rows_of (before r.at fs) ++ (r ∷ merged b rs (since r.at fs))

-- the walk that is left leads to the state
abbrev pub Remains : Track → ℕ → List Row → Option Stand → List Fill → State → Type 0
Remains k b rows here fs u = In here (λ s. Walks k (merged b rows fs) s u)

-- going over the rows leads on from the one cursor to the other, whatever rows come after them
abbrev pub Passes : Follower → List Row → Cursor → Cursor → Type 0
Passes f rows old new = (b : ℕ) (more : List Row) (u : State) → Remains (track_of f) b (rows ++ more) old.here old.fills.now u ↔ Remains (track_of f) b more new.here new.fills.now u

-- ---- the rows of the channel

-- a row of the channel at a tenth that isn't blanked
abbrev pub is_own : Track → List Span → Row → Bool
is_own k blanks r = is_some (k.letter r.code r.param) && not (is_member blanks (pos r.at))

abbrev pub own_of : Track → List Span → List Row → List Row
own_of k blanks rows = filter (is_own k blanks) rows

-- those of n hours
abbrev pub own_hours : Track → Store → ℕ → ℕ → List Row
own_hours k s hour zero = []
own_hours k s hour (suc n) = own_of k s.blanks (hour_rows s hour) ++ own_hours k s (hour + 1) n

-- how many rows of the hour are before the place of tenth t
abbrev pub count_to : List Row → ℕ → Place → ℕ
count_to rows t (BeforeRow n) = n
count_to rows t EndOfTenth = count_before (t + 1) rows

-- ---- what a follower's channel has

abbrev pub own_rows : Follower → List Span → List Row → List Row
own_rows f blanks rows = own_of (track_of f) blanks rows

-- in an hour of a store, and in the hours from one up to another
abbrev pub rows_in : Follower → Store → ℕ → List Row
rows_in f s hour = own_of (track_of f) s.blanks (hour_rows s hour)

abbrev pub rows_between : Follower → Store → ℕ → ℕ → List Row
rows_between f s from to = own_hours (track_of f) s from (to - from)

-- in the line's hour before its place
abbrev pub rows_to_place : Follower → Store → AuditLine → List Row
rows_to_place f s line = own_of (track_of f) s.blanks (take (count_to (line_rows s line) line.at line.place) (line_rows s line))

-- in the whole window
abbrev pub all_rows : Follower → Store → List Row
all_rows f s = own_hours (track_of f) s 0 (length s.hours)

-- exactly this state is come to from the cursor by the rows up to the place, with the fills before its tenth
abbrev pub IsNoted : Follower → Store → AuditLine → Cursor → Option Stand → Type 0
IsNoted f s line old there = (u : State) → Remains (track_of f) line.at (rows_to_place f s line) old.here old.fills.now u ↔ In there (λ z. u ≡ z)

-- exactly this state is come to by the strand at the line's place
abbrev pub IsFollowed : Follower → Store → AuditLine → Strand → Option Stand → Type 0
IsFollowed f s line z there = (u : State) → Walks (track_of f) (merged line.at (own_hours (track_of f) s 0 (line.at / 36000) ++ rows_to_place f s line) z.fills) (start_of z) u ↔ In there (λ v. u ≡ v)

-- the strand leads over the whole window
abbrev pub LeadsOn : Follower → Store → Strand → Type 0
LeadsOn f s z = (u : State) × Walks (track_of f) (merged (36000 * length s.hours) (all_rows f s) z.fills) (start_of z) u

-- these can be fills of the channel at the tenths from one on
abbrev pub FillsFrom : Follower → Store → ℕ → List Fill → Type 0
FillsFrom f s low fs = AreFills (track_of f) (is_known s) low (36000 * length s.hours) fs

-- exactly this state is that of the strand at the line's place
abbrev pub IsStood : List Spec → Store → AuditLine → Strand → Option Stand → Type 0
IsStood specs s line z there = (v : State) → StandsAtLine specs s line z v ↔ In there (λ x. v ≡ x)
