use Rattle.std.proofs.Common.{◌∙◌, ap}
use Rattle.sig_base.specs.Window.{Span}
use Rattle.ring_config.specs.Settings.{Settings}
use Rattle.script_lines.specs.Seen.{seen}
use Rattle.script_lines.specs.Words.{said}
use Rattle.sigaudit.proofs.CountFacts.{line_read}
use Rattle.sigaudit.proofs.script.take_line.Goals as goal

pub returns-clause-opens : goal.returns-clause-opens
returns-clause-opens g c = λ files told.
    let window = c.window.ensures ∙ ap (λ (k : Settings). k.window) c.config.ensures.value in
    let read = c.read_line-said.ensures ∙ ap (λ (w : Span). said w c.args.line.now) window in
    line_read files c.args.session.now.config (seen c.read_line-said.result) (said c.args.session.now.config.window c.args.line.now) c.args.session.now.store c.args.session.now.waiting c.take_said.new.session.waiting c.args.reads.now c.take_said.new.reads c.take_said.result read (c.take_said.ensures.opens files told)
