-- A number of its own for each channel.
use Rattle.std.specs.Prelude.{◌+◌, ◌*◌, ℕ}
use Rattle.event_codes.specs.declared.channels.Channel.{Channel}
use Rattle.event_codes.specs.declared.channels.Kind.{Kind}
use Rattle.event_codes.specs.declared.channels.Kind.TheVariants.{Phase, Ped, Overlap, Detector, PedDetector, PreemptInput, PreemptService, Coordination}

-- a number of its own for each kind of channel
abbrev pub kind_number : Kind → ℕ
kind_number Phase = 0
kind_number Ped = 1
kind_number Overlap = 2
kind_number Detector = 3
kind_number PedDetector = 4
kind_number PreemptInput = 5
kind_number PreemptService = 6
kind_number Coordination = 7

-- the channel's place in a table of all channels
abbrev pub cell_of : Channel → ℕ
cell_of c = c.number * 8 + kind_number c.kind
