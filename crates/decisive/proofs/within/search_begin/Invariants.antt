use Rattle.std.proofs.Common.{◌≡◌, ◌+◌, ◌-◌, ◌≤◌, ℕ, length}
use Rattle.board.specs.Logs.{first_tenth}
use Rattle.decisive.specs.Cuts.{IsCutAfter}
use Rattle.decisive.specs.Searches.{ArePlaced, rank}
use Rattle.sig_base.specs.Reads.{Grow}
use Rattle.decisive.proofs.within.search_begin.Given as goal

abbrev pub invariant-loop-back : goal.invariant-loop-back
invariant-loop-back g l = (l.back ≤ l.fn.hour) × ((t : ℕ) × (t ≤ first_tenth (length l.store.hours)) × ArePlaced l.store l.placed.told (first_tenth (l.fn.hour - l.back)) t (744 + l.back) l.question.at l.placed.place × IsCutAfter t l.placed.told.stretches.items l.fn.end) × (rank l.placed.told l.question.at l.placed.place ≡ rank l.initial.placed.told l.question.at l.initial.placed.place) × Grow l.initial.reads l.reads
