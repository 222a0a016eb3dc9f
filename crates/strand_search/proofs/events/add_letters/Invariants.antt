use Rattle.std.proofs.Common.{take}
use Rattle.board.specs.Channels.{track}
use Rattle.strand_search.specs.Events.{AddsLetters}
use Rattle.strand_search.proofs.events.add_letters.Given as goal

abbrev pub invariant-loop-letter : goal.invariant-loop-letter
invariant-loop-letter l = AddsLetters (track l.spec) (take l.letter-index l.letters) l.fn.rows.items l.rows.items
