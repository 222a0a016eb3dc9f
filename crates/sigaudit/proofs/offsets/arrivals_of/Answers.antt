use Rattle.std.proofs.Common.{◌∙◌, ap}
use Rattle.std.specs.Prelude.{flat_map}
use Rattle.std.proofs.lemmas.List.{take_all}
use Rattle.sigaudit.specs.Offsets.{arrivals_in}
use Rattle.sigaudit.proofs.OffsetFacts.{flat_item, item_in_order}
use Rattle.sigaudit.proofs.offsets.arrivals_of.Goals as goal

pub add_arrivals-requires : goal.add_arrivals-requires
add_arrivals-requires c = item_in_order c.args.diagrams.now c.loop-diagram.diagram-index c.diagram-item.result c.requires c.loop-diagram-test.true c.diagram-item.is

pub loop-diagram-preserved : goal.loop-diagram-preserved
loop-diagram-preserved c =
    flat_item (arrivals_in c.args.place) c.args.diagrams.now c.loop-diagram.diagram-index c.diagram-item.result c.loop-diagram.arrivals.items c.add_arrivals.new.arrivals.items
    c.loop-diagram-test.true c.diagram-item.is c.loop-diagram.invariant c.in_ok-add_arrivals.ensures

pub returns : goal.returns
returns c = c.loop-diagram.invariant ∙ ap (λ zs. flat_map (arrivals_in c.args.place) zs) (take_all c.loop-diagram.diagram-index c.args.diagrams.now c.loop-diagram-test.false)
