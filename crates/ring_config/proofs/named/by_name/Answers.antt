use Rattle.std.proofs.Common.{◌∙◌, refl}
use Rattle.std.specs.Vec.Iter.{into_iter_items}
use Rattle.ring_config.proofs.NamedLaws.{next_named}
use Rattle.ring_config.proofs.named.by_name.Goals as goal

pub loop-approach-preserved : goal.loop-approach-preserved
loop-approach-preserved c =
    let same_items = c.in_ok-name.ensures.items_if_clones_equal (λ x y e. e) in
    let next = next_named (λ k. k.items) _ (λ k l. refl) c.loop-approach.named.entries c.insert.new.self.entries c.in_ok-name.name c.in-Some.approach (into_iter_items c.loop-approach.approach-iterator) (into_iter_items c.next.new.self) c.args.approaches.items
    c.requires c.loop-approach.invariant.named c.loop-approach.invariant.left c.in-Some.ensures.steps.0 (same_items ∙ c.bytes.ensures) c.in_ok-insert.ensures.entries in
    record { left = next.0; named = next.1 }
