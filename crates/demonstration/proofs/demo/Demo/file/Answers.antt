use Rattle.std.proofs.Common.{sym, ◌∙◌}
use Rattle.demonstration.proofs.TextFacts.{config-there, hour-there, none-there, script-there}
use Rattle.demonstration.proofs.demo.Demo.file.Goals as goal

pub returns-then-eq : goal.returns-then-eq
returns-then-eq c =
    config-there c.args.self.now c.args.name.now c.new-out.result.items c.put_config.new.out.items (sym c.eq.ensures ∙ c.if-eq.true) c.new-out.ensures.items c.in_ok-put_config.ensures

pub returns-then-eq-2 : goal.returns-then-eq-2
returns-then-eq-2 c =
    script-there c.args.self.now c.args.name.now c.new-out.result.items c.put_script.new.out.items (sym c.eq.ensures ∙ c.if-eq.false) (sym c.eq-2.ensures ∙ c.if-eq-2.true) c.new-out.ensures.items c.in_ok-put_script.ensures

pub returns-in_ok-put_hour-in-Some : goal.returns-in_ok-put_hour-in-Some
returns-in_ok-put_hour-in-Some c =
    hour-there c.args.self.now c.in-Some.hour c.args.name.now c.new-out.result.items c.put_hour.new.out.items (sym c.eq.ensures ∙ c.if-eq.false) (sym c.eq-2.ensures ∙ c.if-eq-2.false)
    (rw c.self.view_is at c.in-Some.ensures.value) c.new-out.ensures.items c.in_ok-put_hour-in-Some.ensures

pub returns-in-None : goal.returns-in-None
returns-in-None c =
    none-there c.args.self.now c.args.name.now (sym c.eq.ensures ∙ c.if-eq.false) (sym c.eq-2.ensures ∙ c.if-eq-2.false) (rw c.self.view_is at c.in-None.ensures.value)
