use Rattle.std.proofs.Common.{◌≡◌, ◌∙◌, ◌<◌, ◌+◌, sym, refl, arith, length, subst, Ok, Err}
use Rattle.std.proofs.lemmas.Bool.{eqb-true}
use Rattle.ring_config.specs.Settings.{Settings}
use Rattle.script_lines.specs.Words.{said}
use Rattle.script_lines.specs.Lines.{lines_of}
use Rattle.script_lines.proofs.LineLaws.{after_shorter, nonempty}
use Rattle.sigaudit.specs.Script.{IsTurn}
use Rattle.sigaudit.specs.Run.{world, Takes}
use Rattle.sigaudit.proofs.GrowFacts.{grow_same, grow_on}
use Rattle.sigaudit.proofs.TakeFacts.{never_on, never_still}
use Rattle.sigaudit.specs.Counting.{AreCountedFor, IsPlain, LineTally}
use Rattle.sigaudit.proofs.CountFacts.{counted_start, line_counted, line_plain, lines_counted}
use Rattle.sigaudit.proofs.ScriptFacts.{is_on_start, line_more, line_cut, cut_caused, lines_done}
use Rattle.sigaudit.proofs.script.run_script.Goals as goal

pub loop-rest-init : goal.loop-rest-init
loop-rest-init g c = record {
  room = omega arith;
  files = refl;
  config = refl;
  failed = refl;
  faults = refl;
  never = never_still _ _;
  grow = grow_same c.args.reads.now;
  told = λ files told. is_on_start files c.args.session.now.config (lines_of c.args.script.now) c.args.session.now.store (world (g.S.Shelf.counts c.args.shelf.now) (g.K.Sink.taken c.args.sink.now)) 1 refl;
  opens = λ files told plain. counted_start files c.args.session.now.config (lines_of c.args.script.now) c.args.session.now.store 1 c.args.session.now.waiting c.args.reads.now refl;
}

pub loop-rest-smaller : goal.loop-rest-smaller
loop-rest-smaller g c =
    let some : 0 < length c.loop-rest.rest.now = nonempty c.loop-rest.rest.now c.is_empty.result c.is_empty.ensures c.loop-rest-test.true in
    rw (c.split_line.ensures.rest) (omega (arith, after_shorter c.loop-rest.rest.now some))

pub returns-in-Err-clause-transcript : goal.returns-in-Err-clause-transcript
returns-in-Err-clause-transcript g c = λ files told.
    let some : 0 < length c.loop-rest.rest.now = nonempty c.loop-rest.rest.now c.is_empty.result c.is_empty.ensures c.loop-rest-test.true in
    let i = c.loop-rest.invariant in
    let turn = subst (λ (k : Settings). Takes (IsTurn files k (c.loop-rest.number + 1) (said k.window c.split_line.result.0.now) c.loop-rest.session.store) (world (g.S.Shelf.counts c.loop-rest.shelf) (g.K.Sink.taken c.loop-rest.sink)) (world (g.S.Shelf.counts c.take_line.new.shelf) (g.K.Sink.taken c.take_line.new.sink)) c.take_line.new.session.store (Err c.in-Err.stopped)) i.config (c.in-Err.ensures.turn files (i.files ∙ told)) in
    line_cut files c.args.session.now.config (lines_of c.args.script.now) c.args.session.now.store (c.loop-rest.number + 1) c.loop-rest.rest.now c.split_line.result.0.now (world (g.S.Shelf.counts c.args.shelf.now) (g.K.Sink.taken c.args.sink.now)) (world (g.S.Shelf.counts c.loop-rest.shelf) (g.K.Sink.taken c.loop-rest.sink)) (world (g.S.Shelf.counts c.take_line.new.shelf) (g.K.Sink.taken c.take_line.new.sink)) c.loop-rest.session.store c.take_line.new.session.store c.loop-rest.refused c.in-Err.stopped
    some c.split_line.ensures.line i.failed (i.told files told) turn

pub returns-in-Err-clause-cause : goal.returns-in-Err-clause-cause
returns-in-Err-clause-cause g c = cut_caused (world (g.S.Shelf.counts c.args.shelf.now) (g.K.Sink.taken c.args.sink.now)) (world (g.S.Shelf.counts c.loop-rest.shelf) (g.K.Sink.taken c.loop-rest.sink)) (world (g.S.Shelf.counts c.take_line.new.shelf) (g.K.Sink.taken c.take_line.new.sink)) c.in-Err.stopped c.loop-rest.invariant.failed c.loop-rest.invariant.faults c.in-Err.ensures.cause

pub returns-in-Err-clause-never_fall : goal.returns-in-Err-clause-never_fall
returns-in-Err-clause-never_fall g c = never_on (world (g.S.Shelf.counts c.args.shelf.now) (g.K.Sink.taken c.args.sink.now)) (world (g.S.Shelf.counts c.loop-rest.shelf) (g.K.Sink.taken c.loop-rest.sink)) (world (g.S.Shelf.counts c.take_line.new.shelf) (g.K.Sink.taken c.take_line.new.sink)) c.loop-rest.invariant.never c.in-Err.ensures.never_fall

pub returns-in-Err-clause-grow : goal.returns-in-Err-clause-grow
returns-in-Err-clause-grow g c = grow_on _ _ _ c.loop-rest.invariant.grow c.in-Err.ensures.grow

pub loop-rest-preserved : goal.loop-rest-preserved
loop-rest-preserved g c =
    let some : 0 < length c.loop-rest.rest.now = nonempty c.loop-rest.rest.now c.is_empty.result c.is_empty.ensures c.loop-rest-test.true in
    let i = c.loop-rest.invariant in
    record {
      room = rw (c.split_line.ensures.rest) (omega (arith, after_shorter c.loop-rest.rest.now some, i.room));
      files = c.in-Ok.ensures.files ∙ i.files;
      config = c.in-Ok.ensures.config ∙ i.config;
      failed = c.in-Ok.ensures.cause.0 ∙ i.failed;
      faults = c.in-Ok.ensures.cause.1 ∙ i.faults;
      never = never_on _ _ _ i.never c.in-Ok.ensures.never_fall;
      grow = grow_on _ _ _ i.grow c.in-Ok.ensures.grow;
      told = λ files told.
          let turn = subst (λ (k : Settings). Takes (IsTurn files k (c.loop-rest.number + 1) (said k.window c.split_line.result.0.now) c.loop-rest.session.store) (world (g.S.Shelf.counts c.loop-rest.shelf) (g.K.Sink.taken c.loop-rest.sink)) (world (g.S.Shelf.counts c.take_line.new.shelf) (g.K.Sink.taken c.take_line.new.sink)) c.take_line.new.session.store (Ok c.in-Ok.is_refused)) i.config (c.in-Ok.ensures.turn files (i.files ∙ told)) in
          line_more files c.args.session.now.config (lines_of c.args.script.now) c.args.session.now.store (c.loop-rest.number + 1) (c.loop-rest.number + 1 + 1) c.loop-rest.rest.now c.split_line.result.0.now c.split_line.result.1.now (world (g.S.Shelf.counts c.args.shelf.now) (g.K.Sink.taken c.args.sink.now)) (world (g.S.Shelf.counts c.loop-rest.shelf) (g.K.Sink.taken c.loop-rest.sink)) (world (g.S.Shelf.counts c.take_line.new.shelf) (g.K.Sink.taken c.take_line.new.sink)) c.loop-rest.session.store c.take_line.new.session.store c.loop-rest.refused c.in-Ok.is_refused
          some c.split_line.ensures.line c.split_line.ensures.rest refl (i.told files told) turn;
      opens = λ files told plain.
          let cfg = c.args.session.now.config in
          let lines = lines_of c.args.script.now in
          let line = c.split_line.result.0.now in
          let s = c.loop-rest.session.store in
          let on = i.opens files told plain in
          let is_plain = line_plain files cfg lines c.args.session.now.store s (c.loop-rest.number + 1) c.loop-rest.rest.now line c.args.session.now.waiting c.loop-rest.session.waiting c.args.reads.now c.loop-rest.reads some c.split_line.ensures.line plain on in
          let turn = subst (λ (k : Settings). Takes (IsTurn files k (c.loop-rest.number + 1) (said k.window line) s) (world (g.S.Shelf.counts c.loop-rest.shelf) (g.K.Sink.taken c.loop-rest.sink)) (world (g.S.Shelf.counts c.take_line.new.shelf) (g.K.Sink.taken c.take_line.new.sink)) c.take_line.new.session.store (Ok c.in-Ok.is_refused)) i.config (c.in-Ok.ensures.turn files (i.files ∙ told)) in
          let counts = subst (λ (k : Settings). IsPlain k (said k.window line) → AreCountedFor c.loop-rest.session.waiting c.take_line.new.session.waiting (LineTally files k (said k.window line) s) c.loop-rest.reads c.take_line.new.reads) i.config (c.in-Ok.ensures.opens files (i.files ∙ told)) is_plain in
          line_counted files cfg lines c.args.session.now.store (c.loop-rest.number + 1) (c.loop-rest.number + 1 + 1) c.loop-rest.rest.now line c.split_line.result.1.now (world (g.S.Shelf.counts c.loop-rest.shelf) (g.K.Sink.taken c.loop-rest.sink)) (world (g.S.Shelf.counts c.take_line.new.shelf) (g.K.Sink.taken c.take_line.new.sink)) s c.take_line.new.session.store c.in-Ok.is_refused c.args.session.now.waiting c.loop-rest.session.waiting c.take_line.new.session.waiting c.args.reads.now c.loop-rest.reads c.take_line.new.reads
          some c.split_line.ensures.line c.split_line.ensures.rest refl on turn counts;
    }

pub returns-clause-transcript : goal.returns-clause-transcript
returns-clause-transcript g c = λ files told.
    let none : length c.loop-rest.rest.now ≡ 0 = eqb-true (length c.loop-rest.rest.now) 0 (sym c.is_empty.ensures ∙ c.loop-rest-test.false) in
    let i = c.loop-rest.invariant in
    lines_done files c.args.session.now.config (lines_of c.args.script.now) c.args.session.now.store (c.loop-rest.number + 1) c.loop-rest.rest.now (world (g.S.Shelf.counts c.args.shelf.now) (g.K.Sink.taken c.args.sink.now)) (world (g.S.Shelf.counts c.loop-rest.shelf) (g.K.Sink.taken c.loop-rest.sink)) c.loop-rest.session.store c.loop-rest.refused none i.failed (i.told files told)

pub returns-clause-opens : goal.returns-clause-opens
returns-clause-opens g c = λ files told plain.
    let none : length c.loop-rest.rest.now ≡ 0 = eqb-true (length c.loop-rest.rest.now) 0 (sym c.is_empty.ensures ∙ c.loop-rest-test.false) in
    lines_counted files c.args.session.now.config (lines_of c.args.script.now) c.args.session.now.store c.loop-rest.session.store (c.loop-rest.number + 1) c.loop-rest.rest.now c.args.session.now.waiting c.loop-rest.session.waiting c.args.reads.now c.loop-rest.reads none (c.loop-rest.invariant.opens files told plain)
