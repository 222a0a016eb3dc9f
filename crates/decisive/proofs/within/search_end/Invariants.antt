use Rattle.std.proofs.Common.{◌≡◌, ◌<◌, ◌≤◌, length}
use Rattle.board.specs.Logs.{first_tenth}
use Rattle.decisive.specs.Searches.{ArePlaced, rank}
use Rattle.sig_base.specs.Reads.{Grow}
use Rattle.decisive.proofs.within.search_end.Given as goal

abbrev pub invariant-loop-next : goal.invariant-loop-next
invariant-loop-next g l = (l.fn.hour < l.next) × (l.next ≤ length l.store.hours) × ArePlaced l.store l.placed.told (first_tenth l.fn.hour) (first_tenth l.next) l.next l.question.at l.placed.place × (rank l.placed.told l.question.at l.placed.place ≡ rank l.initial.placed.told l.question.at l.initial.placed.place) × Grow l.initial.reads l.reads
