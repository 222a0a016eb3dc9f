-- Which letter of its channel's machine a row is.
use Rattle.std.specs.Prelude.{ℕ, ◌≡◌, ◌≤◌, Option, option_and_then}
use Rattle.event_codes.specs.declared.channels.Channel.{Channel}
use Rattle.event_codes.specs.declared.channels.Kind.{Kind}
use Rattle.event_codes.specs.declared.channels.Kind.TheVariants.{Phase, Ped, Overlap, Detector, PedDetector, PreemptInput, PreemptService, Coordination}
use Rattle.event_codes.specs.Channels.{channel_in_table}
use Rattle.channel_tables.specs.Table.{place_of}
use Rattle.channel_tables.specs.Tables.{table_of}

-- what a row of a channel of this kind is told apart by: its code, but in the coordination, whose rows have one code, its parameter
abbrev pub sign_of : Kind → ℕ → ℕ → ℕ
sign_of Coordination code param = param
sign_of _ code param = code

-- the letter of a row with this code and parameter in the table of its channel, where there is one
abbrev pub letter_in_table : ℕ → ℕ → Option ℕ
letter_in_table code param = option_and_then (λ c. place_of (sign_of c.kind code param) (table_of c.kind).signs) (channel_in_table code param)

-- For contracts alone: the letter of a row by its channel.
abbrev pub letter_with : Option Channel → ℕ → ℕ → Option ℕ
letter_with channel code param = option_and_then (λ c. place_of (sign_of c.kind code param) (table_of c.kind).signs) channel

-- a number that a channel of this kind can have
abbrev pub IsNumber : Kind → ℕ → Type 0
IsNumber Phase n = (1 ≤ n) × (n ≤ 16)
IsNumber Ped n = (1 ≤ n) × (n ≤ 16)
IsNumber Overlap n = (1 ≤ n) × (n ≤ 16)
IsNumber Detector n = (1 ≤ n) × (n ≤ 128)
IsNumber PedDetector n = (1 ≤ n) × (n ≤ 16)
IsNumber PreemptInput n = (1 ≤ n) × (n ≤ 16)
IsNumber PreemptService n = (1 ≤ n) × (n ≤ 16)
IsNumber Coordination n = n ≡ 0
