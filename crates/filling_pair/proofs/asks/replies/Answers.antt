use Rattle.std.proofs.Common.{◌∙◌}
use Rattle.filling_pair.proofs.Growing.{grow_on, grow_same}
use Rattle.filling_pair.proofs.Replying.{ask_fits, next_reply, no_reply, none_yet}
use Rattle.filling_pair.proofs.asks.replies.Goals.{in-Some+in_ok-strand+in-Some-2+in_ok-push-in-Some-2, in_default}
use Rattle.filling_pair.proofs.asks.replies.Goals as goal

pub reply-requires-clause-ask : goal.reply-requires-clause-ask
reply-requires-clause-ask g c = ask_fits c.args.specs.now c.args.asks.now c.in-Some.ask c.requires.asks (c.in-Some.ensures.1)

pub loop-spec-init : goal.loop-spec-init
loop-spec-init g c = record {
  replies = rw c.new-strands.ensures (none_yet c.args.specs.now c.args.store.now c.args.line.now c.args.asks.now);
  grow = grow_same c.args.reads.now;
}

pub loop-spec-preserved : goal.loop-spec-preserved
loop-spec-preserved g c = elim c.match-ask_of.branch [
  | in-Some+in_ok-strand+in-Some-2+in_ok-push-in-Some-2 w ↦
      let replied = rw w.in-Some-2.is at w.in_ok-strand.ensures.strand in
      let mine = w.in-Some.ensures in
      record {
        replies = next_reply c.args.specs.now c.args.store.now c.args.line.now c.args.asks.now c.loop-spec.spec c.loop-spec.strands c.match-ask_of.strands w.in-Some-2.strand w.in-Some.ask (w.strands-is ∙ w.in_ok-push-in-Some-2.ensures.ok) mine.0 mine.1 replied c.loop-spec.invariant.replies;
        grow = rw w.reads-is (grow_on c.args.reads.now c.loop-spec.reads w.reply.new.reads c.loop-spec.invariant.grow w.in_ok-strand.ensures.grow);
      }
  | in_default w ↦
      let none = w.in_default.ensures in
      record {
        replies = rw w.strands-is (no_reply c.args.specs.now c.args.store.now c.args.line.now c.args.asks.now c.loop-spec.spec c.loop-spec.strands none c.loop-spec.invariant.replies);
        grow = rw w.reads-is c.loop-spec.invariant.grow;
      }
]
