-- What a value stands for, key by key; none where it isn't good.
use Rattle.std.specs.Prelude.{ℕ, ℤ, pos, ◌+◌, ◌-◌, ◌/◌, ◌^◌, ◌+ℤ◌, int_le, ◌&&◌, ◌||◌, ◌==◌, not, Bool, false, nat_le, if◌then◌else◌, List, [], ◌∷◌, ◌++◌, length, codes, decimal, filter, fold, bit_or, Option, Some, None, option_map, option_and_then, unwrap_or, position}
use Rattle.std.specs.Int.{bit_at}
use Rattle.std.specs.List.{list_any, list_all, range_with_len}
use Rattle.std.specs.Str.{bytes_eq}
use Rattle.toml.specs.Data.{Data, table, Items, no_items, item, Members, as_str, as_integer, as_bool, as_array}
use Rattle.sig_base.specs.Window.{Span}
use Rattle.sig_base.specs.declared.values.PhaseItem.{PhaseItem}
use Rattle.sig_base.specs.Numbers.{has_number, has_phase}
use Rattle.event_codes.specs.declared.channels.Kind.{Kind}
use Rattle.event_codes.specs.declared.channels.Kind.TheVariants as kinds
use Rattle.event_codes.specs.declared.channels.Channel.{Channel}
use Rattle.channel_tables.specs.Tables.{table_of}
use Rattle.row_reader.specs.Signal.{is_signal}
use Rattle.row_reader.specs.Stamp.{hour_stamp_of}
use Rattle.ring_config.specs.declared.items.Pair.{Pair}
use Rattle.ring_config.specs.declared.items.Named.{Named}

-- a value, where it passes a test
abbrev pub passing : {X : Type 0} → (X → Bool) → Option X → Option X
passing test None = None
passing test (Some x) = if test x then Some x else None

-- a whole number, where it is from low to high
abbrev pub within : ℕ → ℕ → Option ℤ → Option ℕ
within low high (Some (pos n)) = if nat_le low n && nat_le n high then Some n else None
within low high _ = None

-- a value that is a whole number from low to high
unfoldable pub whole : ℕ → ℕ → Data → Option ℕ
whole low high d = within low high (as_integer d)

-- a value that is true or false
unfoldable pub yes_or_no : Data → Option Bool
yes_or_no d = as_bool d

-- ---- texts

-- a value that is a signal's identifier
unfoldable pub signal : Data → Option (List ℕ)
signal d = passing is_signal (as_str d)

-- a byte that a name may have: a letter, a digit, `_` or `-`
abbrev pub is_name_byte : ℕ → Bool
is_name_byte b = ((nat_le 48 b && nat_le b 57) || (nat_le 65 b && nat_le b 90)) || ((nat_le 97 b && nat_le b 122) || (b == 95 || b == 45))

-- a value that is the name of an approach: a text of 1 to 32 of these bytes
unfoldable pub name : Data → Option (List ℕ)
name d = passing (λ text. (nat_le 1 (length text) && nat_le (length text) 32) && list_all is_name_byte text) (as_str d)

-- ---- the window

-- a value that is the day and the hour at which the window starts
unfoldable pub start : Data → Option (ℤ × ℕ)
start d = option_and_then hour_stamp_of (as_str d)

-- a value that is the number of hours of the window that starts at this day and hour: 1 to 744, and the day of the last one is at most 9999-12-31
unfoldable pub window : ℤ × ℕ → Data → Option Span
window first d =
    option_and_then (λ hours. if int_le (first.0 +ℤ pos ((first.1 + hours - 1) / 24)) (pos 2932896)
    then Some (record { day = first.0; hour = first.1; hours = hours }) else None) (whole 1 744 d)

-- ---- phases

-- a value that is the number of a configured phase
unfoldable pub configured : List PhaseItem → Data → Option ℕ
configured phases d = passing (has_phase phases) (whole 1 16 d)

-- the pair is of phases a and b, in either order
abbrev pub is_pair : Pair → ℕ → ℕ → Bool
is_pair p a b = (p.a == a && p.b == b) || (p.a == b && p.b == a)

-- one of the pairs is of phases a and b
abbrev pub has_pair : List Pair → ℕ → ℕ → Bool
has_pair pairs a b = list_any (λ p. is_pair p a b) pairs

-- values that are distinct configured phases, with those found before
unfoldable pub phases_from : List PhaseItem → List ℕ → Items → Option (List ℕ)
phases_from phases found no_items = Some found
phases_from phases found (item d ds) =
    option_and_then (λ n. phases_from phases (found ++ n ∷ []) ds) (passing (λ n. not (has_number found n)) (configured phases d))

-- a set of phases as a number: bit n - 1 for phase n
unfoldable pub mask_of : List ℕ → ℕ
mask_of numbers = fold (λ mask n. bit_or mask (2 ^ (n - 1))) 0 numbers

-- the phases of such a set, ascending
abbrev pub phases_in : ℕ → List ℕ
phases_in mask = filter (λ n. bit_at mask (n - 1) == 1) (range_with_len 1 16)

-- a value that is a set of 1 to 8 distinct configured phases
unfoldable pub parents : List PhaseItem → Data → Option ℕ
parents phases d = option_map mask_of (passing (λ found. nat_le 1 (length found) && nat_le (length found) 8) (option_and_then (phases_from phases []) (as_array d)))

-- ---- channels and colours

-- the word for a kind of channel that has floors and interval rules
abbrev pub kind_word : Kind → Option (List ℕ)
kind_word kinds.Phase = Some (codes "phase ")
kind_word kinds.Ped = Some (codes "ped ")
kind_word kinds.Overlap = Some (codes "overlap ")
kind_word kinds.PreemptService = Some (codes "preempt ")
kind_word _ = None

-- the text names the channel: the word of its kind, one space and its number
abbrev pub is_named : List ℕ → Channel → Bool
is_named text c = unwrap_or (option_map (λ word. bytes_eq text (word ++ decimal c.number)) (kind_word c.kind)) false

-- the first of the channels that the text names, counted from i
unfoldable pub named_from : ℕ → List Channel → List ℕ → Option Named
named_from i [] text = None
named_from i (c ∷ cs) text = if is_named text c then Some (record { spec = i; kind = c.kind }) else named_from (i + 1) cs text

-- a value that names a channel: its place among the specs, and its kind
unfoldable pub channel : List Channel → Data → Option Named
channel channels d = option_and_then (named_from 0 channels) (as_str d)

-- a value that names a colour of a kind of channel
unfoldable pub colour : Kind → Data → Option ℕ
colour kind d = option_and_then (λ text. position (λ name. bytes_eq text name) (table_of kind).names) (as_str d)

-- ---- arrays of tables

-- values that are tables, with those found before
unfoldable pub tables_from : List Members → Items → Option (List Members)
tables_from found no_items = Some found
tables_from found (item (table ms) ds) = tables_from (found ++ ms ∷ []) ds
tables_from found (item _ ds) = None

-- a value that is an array of tables
unfoldable pub tables : Data → Option (List Members)
tables d = option_and_then (tables_from []) (as_array d)

-- ---- For contracts alone: parts of these values

-- a text of 1 to 32 bytes that each pass a test
abbrev pub is_short_text : (ℕ → Bool) → List ℕ → Bool
is_short_text test text = (nat_le 1 (length text) && nat_le (length text) 32) && list_all test text

-- the day of the last hour of a window
abbrev pub last_day : ℤ × ℕ → ℕ → ℤ
last_day first hours = first.0 +ℤ pos ((first.1 + hours - 1) / 24)

-- a window of so many hours, where its last day is at most 9999-12-31
abbrev pub window_from : ℤ × ℕ → ℕ → Option Span
window_from first hours =
    if int_le (last_day first hours) (pos 2932896) then Some (record { day = first.0; hour = first.1; hours = hours }) else None

-- a value that is another configured phase than a, of which no barred pair is with a
abbrev pub partner : List PhaseItem → List Pair → ℕ → Data → Option ℕ
partner phases barred a d = passing (λ b. not (b == a || has_pair barred a b)) (configured phases d)

-- a value that is a configured phase and isn't among those found
abbrev pub next_phase : List PhaseItem → List ℕ → Data → Option ℕ
next_phase phases found d = passing (λ n. not (has_number found n)) (configured phases d)

-- an overlap has 1 to 8 parents
abbrev pub few_parents : List ℕ → Bool
few_parents found = nat_le 1 (length found) && nat_le (length found) 8

-- the text is the word and the number
abbrev pub is_word_and : Option (List ℕ) → ℕ → List ℕ → Bool
is_word_and word number text = unwrap_or (option_map (λ w. bytes_eq text (w ++ decimal number)) word) false

-- the colour of this name, of a kind of channel
abbrev pub colour_of : Kind → List ℕ → Option ℕ
colour_of kind text = position (λ name. bytes_eq text name) (table_of kind).names
