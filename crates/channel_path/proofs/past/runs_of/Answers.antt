use Rattle.std.proofs.Common.{arith, refl, ◌≡◌, ◌∙◌, ap, ◌+◌, ◌++◌, ◌∷◌, []}
use Rattle.std.proofs.lemmas.List.{length_push}
use Rattle.channel_path.specs.declared.moves.Move.TheVariants.{Letter}
use Rattle.channel_path.proofs.Keeping.{few_before, runs_more, count_more}
use Rattle.channel_path.proofs.past.runs_of.Goals as goal

pub count_on-count-requires : goal.count_on-count-requires
count_on-count-requires c =
    let few = few_before c.args.moves.now c.loop-i.i in
    let count = c.loop-i.invariant.count in
    omega arith

pub loop-i-preserved : goal.loop-i-preserved
loop-i-preserved c =
    let i = c.loop-i.invariant in
    let items : c.push.new.self.items ≡ c.loop-i.runs.items ++ c.loop-i.count ∷ [] = c.in_ok-push.ensures.items in
    record {
      size = rw items (length_push _ _ ∙ ap (λ n. n + 1) i.size);
      count = c.count_on-count.ensures ∙ count_more c.args.moves.now c.loop-i.i (Letter 0 0 0) c.loop-i.count c.loop-i-test.true i.count;
      runs = rw items (runs_more c.args.moves.now c.loop-i.i c.loop-i.count c.loop-i.count c.loop-i.runs.items (omega arith) i.size i.count refl i.runs);
    }
