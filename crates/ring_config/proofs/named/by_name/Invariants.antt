use Rattle.std.proofs.Common.{◌≡◌, ◌++◌, map}
use Rattle.std.specs.Vec.Iter.{into_iter_items}
use Rattle.ring_config.proofs.named.by_name.Given as goal

abbrev pub invariant-loop-approach : goal.invariant-loop-approach
invariant-loop-approach l = record {
  left : map (λ e. e.1) l.named.entries ++ into_iter_items l.approach-iterator ≡ l.fn.approaches.items;
  named : map (λ e. e.0.items) l.named.entries ≡ map (λ e. e.1.name) l.named.entries;
}
