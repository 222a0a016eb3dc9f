-- Which device a row speaks of.
use Rattle.std.specs.Prelude.{ℕ, ◌==◌, ◌&&◌, nat_eq, nat_lt, Bool, false, List, [], ◌∷◌, Option, Some, None, if◌then◌else◌}
use Rattle.std.specs.List.{list_any}
use Rattle.std.specs.Option.{option_map_or}
use Rattle.event_codes.specs.Cells.{kind_number}
use Rattle.event_codes.specs.declared.channels.Channel.{Channel}
use Rattle.event_codes.specs.declared.channels.Kind.{Kind}
use Rattle.event_codes.specs.declared.channels.Kind.TheVariants.{Phase, Ped, Overlap, Detector, PedDetector, PreemptInput, PreemptService, Coordination}
use Rattle.event_codes.specs.declared.channels.Group.{Group}
use Rattle.event_codes.specs.declared.channels.Group.TheVariants.{Of, Alone}

-- a line of the table: these codes, with a parameter from least to most, are of this kind
pub record Line : Type 0 where
  pub kind : Kind
  pub codes_of : List ℕ
  pub least : ℕ
  pub most : ℕ

-- a line of the table by its four parts
abbrev pub line : Kind → List ℕ → ℕ → ℕ → Line
line kind cs least most = record { kind = kind; codes_of = cs; least = least; most = most }

-- the table of channels: which codes and parameters are of which kind
abbrev pub channel_lines : List Line
channel_lines =
    line Phase (0 ∷ 1 ∷ 7 ∷ 8 ∷ 9 ∷ 10 ∷ 11 ∷ 12 ∷ []) 1 16
    ∷ line Ped (21 ∷ 22 ∷ 23 ∷ 24 ∷ []) 1 16
    ∷ line Overlap (61 ∷ 62 ∷ 63 ∷ 64 ∷ 65 ∷ 66 ∷ []) 1 16
    ∷ line Detector (81 ∷ 82 ∷ 83 ∷ 84 ∷ 85 ∷ 86 ∷ 87 ∷ 88 ∷ []) 1 128
    ∷ line PedDetector (89 ∷ 90 ∷ []) 1 16
    ∷ line PreemptInput (102 ∷ 104 ∷ []) 1 16
    ∷ line PreemptService (105 ∷ 106 ∷ 107 ∷ 111 ∷ []) 1 16
    ∷ line Coordination (150 ∷ []) 0 6
    ∷ []

-- the number of a channel of this kind: the parameter, but 0 for the coordination, whose parameter is its new state
abbrev pub number_of : Kind → ℕ → ℕ
number_of Coordination param = 0
number_of _ param = param

-- the channel of this kind, where the parameter is from least to most
abbrev pub numbered_channel : Kind → ℕ → ℕ → ℕ → Option Channel
numbered_channel kind least most param =
    if nat_lt param least then None else if nat_lt most param then None else Some (record { kind = kind; number = number_of kind param })

-- the channel by the first line that has the code
abbrev pub channel_by : List Line → ℕ → ℕ → Option Channel
channel_by [] code param = None
channel_by (x ∷ xs) code param =
    if list_any (λ c. nat_eq c code) x.codes_of then numbered_channel x.kind x.least x.most param else channel_by xs code param

-- the channel of a row with this code and parameter
abbrev pub channel_in_table : ℕ → ℕ → Option Channel
channel_in_table code param = channel_by channel_lines code param

-- both groups are one: that of one channel, or of one code and parameter that have no channel
unfoldable pub same_group : Group → Group → Bool
same_group (Of c) (Of d) = (kind_number c.kind == kind_number d.kind) && (c.number == d.number)
same_group (Alone code param) (Alone other_code other_param) = (code == other_code) && (param == other_param)
same_group _ _ = false

-- For contracts alone: the group of a row with this code and parameter, for finding repeats: its channel where it has one, else its code and parameter.
abbrev pub group_in_table : ℕ → ℕ → Group
group_in_table code param = option_map_or Of (channel_in_table code param) (Alone code param)
