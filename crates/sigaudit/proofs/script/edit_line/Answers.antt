use Rattle.std.proofs.Common.{◌≡◌, ◌∙◌, false, sym, ap}
use Rattle.ring_config.specs.Settings.{Settings}
use Rattle.session.specs.Edits.{change_of, step_of}
use Rattle.sigaudit.specs.Script.{is_edit_memory, IsEdited}
use Rattle.sigaudit.proofs.TakeFacts.{by_nothing}
use Rattle.sigaudit.specs.Counting.{AreCountedFor, EditTally}
use Rattle.sigaudit.proofs.CountFacts.{edit_counted, on_ok, refusal_counted}
use Rattle.sigaudit.proofs.EditFacts.{edit_cut, edit_made, edit_refused, names_row}
use Rattle.sigaudit.proofs.script.edit_line.Goals as goal

pub returns-in-Ok-put_applied-clause-turn : goal.returns-in-Ok-put_applied-clause-turn
returns-in-Ok-put_applied-clause-turn g c =
    edit_made c.args.session.now.config c.args.number c.args.loaded c.args.session.now.store c.apply.new.self.store (change_of c.args.edit) (step_of c.args.session.now.store (change_of c.args.edit)) c.in-Ok.applied _ _ c.in-Ok.ensures.step c.in-Ok.ensures.moved c.in-Ok-put_applied.ensures

pub returns-in-Err-put_applied-clause-turn : goal.returns-in-Err-put_applied-clause-turn
returns-in-Err-put_applied-clause-turn g c =
    edit_cut c.args.session.now.config c.args.number c.args.loaded c.args.session.now.store c.apply.new.self.store (change_of c.args.edit) (step_of c.args.session.now.store (change_of c.args.edit)) c.in-Ok.applied _ _ c.in-Ok.ensures.step c.in-Ok.ensures.moved c.in-Err-put_applied.ensures

pub returns-then-is_edit_memory-clause-turn : goal.returns-then-is_edit_memory-clause-turn
returns-then-is_edit_memory-clause-turn g c =
    by_nothing (IsEdited c.args.session.now.config c.args.number c.args.loaded c.args.session.now.store (change_of c.args.edit)) (g.K.Sink.taken c.args.sink.now) c.apply.new.self.store

pub refuse-requires : goal.refuse-requires
refuse-requires g c =
    let same = c.config.ensures.value ∙ c.in-Err.ensures.config in
    names_row c.args.session.now.config c.config.result.now.window c.args.session.now.store c.apply.new.self.store (change_of c.args.edit) c.in-Err.error (ap (λ (k : Settings). k.window) same)
    (c.config.ensures.hours ∙ ap (λ (k : Settings). k.window.hours) c.in-Err.ensures.config) c.in-Err.ensures.step

pub returns-else-is_edit_memory : goal.returns-else-is_edit_memory
returns-else-is_edit_memory g c =
    let ne : is_edit_memory c.in-Err.error ≡ false = sym c.is_edit_memory.ensures ∙ c.if-is_edit_memory.false in
    record {
      turn = edit_refused c.args.session.now.config c.config.result.now c.args.number c.args.loaded c.args.session.now.store c.apply.new.self.store (change_of c.args.edit) (step_of c.args.session.now.store (change_of c.args.edit)) c.in-Err.error _ _ c.refuse.result ne (c.config.ensures.value ∙ c.in-Err.ensures.config) c.in-Err.ensures.step c.refuse.ensures;
      config = c.in-Err.ensures.config;
      opens = on_ok c.refuse.result (AreCountedFor c.args.session.now.waiting c.apply.new.self.waiting (EditTally c.args.session.now.config c.args.session.now.store (change_of c.args.edit)) c.args.reads.now c.apply.new.reads)
          (refusal_counted c.args.session.now.config c.args.session.now.store c.apply.new.self.store (change_of c.args.edit) (step_of c.args.session.now.store (change_of c.args.edit)) c.in-Err.error c.args.session.now.waiting c.apply.new.self.waiting c.args.reads.now c.apply.new.reads ne c.in-Err.ensures.step c.in-Err.ensures.opens);
      grow = c.in-Err.ensures.grow;
    }

pub returns-in-Ok-put_applied-clause-opens : goal.returns-in-Ok-put_applied-clause-opens
returns-in-Ok-put_applied-clause-opens g c =
    edit_counted c.args.session.now.config c.args.session.now.store c.apply.new.self.store (change_of c.args.edit) c.in-Ok.applied c.args.session.now.waiting c.apply.new.self.waiting c.args.reads.now c.apply.new.reads c.in-Ok.ensures.step c.in-Ok.ensures.moved c.in-Ok.ensures.opens
