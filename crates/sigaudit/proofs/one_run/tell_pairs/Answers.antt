use Rattle.row_reader.specs.Stamp.{stamp_in}
use Rattle.sigaudit.specs.Pairs.{AreFound, place_of}
use Rattle.sigaudit.proofs.GrowFacts.{grow_on}
use Rattle.sigaudit.proofs.PairFacts.{pairs_shown, shown_cause, shown_never}
use Rattle.sigaudit.proofs.one_run.tell_pairs.Goals as goal

pub returns-in-Ok-clause-told : goal.returns-in-Ok-clause-told
returns-in-Ok-clause-told g c = λ files told.
    pairs_shown files c.args.config c.args.asked.0 c.args.asked.1.now c.args.script.now c.in-Ok.session c.in-Ok.refused (g.S.Shelf.counts c.args.shelf.now) (g.S.Shelf.counts c.carry_out.new.shelf) (g.K.Sink.taken c.args.sink.now) (g.K.Sink.taken c.show_pairs.new.sink) c.show_pairs.result c.in-Ok.ensures.cause (c.in-Ok.ensures.told files told) c.show_pairs.ensures.ended c.show_pairs.ensures.text

pub returns-in-Ok-clause-cause : goal.returns-in-Ok-clause-cause
returns-in-Ok-clause-cause g c =
    let s = c.in-Ok.session in
    shown_cause (AreFound s.config s.store (place_of s.config c.args.asked.0 (stamp_in s.config.window c.args.asked.1.now))) c.in-Ok.refused (g.S.Shelf.counts c.args.shelf.now) (g.S.Shelf.counts c.carry_out.new.shelf) (g.K.Sink.taken c.args.sink.now) (g.K.Sink.taken c.show_pairs.new.sink) c.show_pairs.result c.in-Ok.ensures.cause c.show_pairs.ensures.ended c.show_pairs.ensures.text

pub returns-in-Ok-clause-never_fall : goal.returns-in-Ok-clause-never_fall
returns-in-Ok-clause-never_fall g c =
    let s = c.in-Ok.session in
    shown_never (AreFound s.config s.store (place_of s.config c.args.asked.0 (stamp_in s.config.window c.args.asked.1.now))) (g.S.Shelf.counts c.args.shelf.now) (g.S.Shelf.counts c.carry_out.new.shelf) (g.K.Sink.taken c.args.sink.now) (g.K.Sink.taken c.show_pairs.new.sink) c.show_pairs.result c.in-Ok.ensures.never_fall c.show_pairs.ensures.text

pub returns-in-Ok-clause-grow : goal.returns-in-Ok-clause-grow
returns-in-Ok-clause-grow g c = grow_on _ _ _ c.in-Ok.ensures.grow c.show_pairs.ensures.grow
