use Rattle.demonstration.specs.Texts.{config_text}
use Rattle.demonstration.proofs.TextFacts.{three}
use Rattle.demonstration.proofs.demo.Demo.put_config.Goals as goal

pub returns : goal.returns
unfolding config_text
returns c =
    let digits = rw (c.as_bytes.ensures.value, c.format.ensures.text, c.self.view_is) at c.in_ok-extend_from_slice-2.ensures.items in
    three c.args.out.now.items c.extend_from_slice.new.self.items c.extend_from_slice-2.new.self.items c.extend_from_slice-3.new.self.items _ _ _
    c.in_ok-extend_from_slice.ensures.items digits c.in_ok-extend_from_slice-3.ensures.items
