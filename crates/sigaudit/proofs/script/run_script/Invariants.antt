use Rattle.std.proofs.Common.{◌≡◌, ◌+◌, ◌≤◌, length, Some}
use Rattle.outside.specs.Shelf.{Files}
use Rattle.script_lines.specs.Lines.{lines_of}
use Rattle.sig_base.specs.Reads.{Grow}
use Rattle.sigaudit.specs.Counting.{ArePlain}
use Rattle.sigaudit.specs.Run.{world, NeverFall}
use Rattle.sigaudit.proofs.CountFacts.{IsCountedOn}
use Rattle.sigaudit.proofs.ScriptFacts.{IsOn}
use Rattle.sigaudit.proofs.script.run_script.Given as goal

-- no fault came, the lines so far were taken and opened hours as they say, and those of the rest of the script are left
abbrev pub invariant-loop-rest : goal.invariant-loop-rest
invariant-loop-rest g l = record {
  room : l.number + length l.rest ≤ length l.script;
  files : g.S.Shelf.files l.shelf ≡ g.S.Shelf.files l.fn.shelf;
  config : l.session.config ≡ l.fn.session.config;
  failed : (g.S.Shelf.counts l.shelf).failed ≡ (g.S.Shelf.counts l.fn.shelf).failed;
  faults : (g.K.Sink.taken l.sink).faults ≡ (g.K.Sink.taken l.fn.sink).faults;
  never : NeverFall (world (g.S.Shelf.counts l.fn.shelf) (g.K.Sink.taken l.fn.sink)) (world (g.S.Shelf.counts l.shelf) (g.K.Sink.taken l.sink));
  grow : Grow l.fn.reads l.reads;
  told : (files : Files) → g.S.Shelf.files l.fn.shelf ≡ Some files →
      IsOn files l.fn.session.config (lines_of l.fn.script) l.fn.session.store (world (g.S.Shelf.counts l.fn.shelf) (g.K.Sink.taken l.fn.sink)) (world (g.S.Shelf.counts l.shelf) (g.K.Sink.taken l.sink)) (l.number + 1) (lines_of l.rest) l.session.store l.refused;
  opens : (files : Files) → g.S.Shelf.files l.fn.shelf ≡ Some files → ArePlain l.fn.session.config (lines_of l.fn.script) →
      IsCountedOn files l.fn.session.config (lines_of l.fn.script) l.fn.session.store (l.number + 1) (lines_of l.rest) l.session.store l.fn.session.waiting l.session.waiting l.fn.reads l.reads;
}

abbrev pub decreases-loop-rest : goal.decreases-loop-rest
decreases-loop-rest g l = length l.rest
