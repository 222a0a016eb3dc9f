use Rattle.std.proofs.Common.{ℕ, List, [], sym, subst, ◌+◌, get_or, length}
use Rattle.board.specs.Logs.{no_spec}
use Rattle.rule_audit.specs.Index.{AreSkips, IsSkips, is_picked}
use Rattle.rule_audit.proofs.Indexing.{each_more, length_more}
use Rattle.rule_audit.proofs.index.all_skips.Goals as goal

pub loop-i-preserved : goal.loop-i-preserved
loop-i-preserved c =
    let specs = c.args.specs.now in
    let rules = c.args.rules.now in
    let i = c.loop-i.i in
    let (size, each) = c.loop-i.invariant in
    subst (λ (xs : List (List ℕ)). AreSkips specs rules c.args.clauses (i + 1) xs) (sym {A = List (List ℕ)} c.in_ok-push.ensures.items) (length_more c.loop-i.lists.items i _ size, each_more (λ k x. IsSkips (is_picked specs rules c.args.clauses (get_or specs k no_spec).channel) (length rules) x) c.loop-i.lists.items i _ [] size each c.in_ok-skips_of.ensures)
