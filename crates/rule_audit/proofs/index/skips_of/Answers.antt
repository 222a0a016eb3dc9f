use Rattle.std.proofs.Common.{arith, ℕ, List, ◌≡◌, ◌∙◌, sym, subst, ◌+◌, ◌-◌, ◌<◌, ◌≤◌, true, false, get_or, length}
use Rattle.rule_audit.specs.Index.{is_picked, IsNext}
use Rattle.rule_audit.proofs.Indexing.{each_more, length_more, next_here, next_none}
use Rattle.rule_audit.proofs.index.skips_of.Goals as goal
use Rattle.rule_audit.proofs.index.skips_of.Goals.{then-is_picked, else-is_picked}

pub loop-turn-preserved : goal.loop-turn-preserved
loop-turn-preserved c =
    let n = length c.args.rules.now in
    let p = is_picked c.args.specs.now c.args.rules.now c.args.clauses c.args.channel in
    let turn = c.loop-turn.turn in
    let (size, top, last, each) = c.loop-turn.invariant in
    let lt : turn < n = c.loop-turn-test.true in
    let k : ℕ = n - (turn + 1) in
    let same : n - 1 - turn ≡ k = omega arith in
    let there : IsNext p n (n - (turn + 1)) c.if-is_picked.last = elim c.if-is_picked.branch [
      | then-is_picked w ↦ subst (λ (m : ℕ). IsNext p n k m) (sym (w.last-is ∙ same)) (next_here p n k (omega arith) (subst (λ (x : ℕ). p x ≡ true) same (sym c.is_picked.ensures ∙ w.if-is_picked.true)))
      | else-is_picked w ↦ subst (λ (m : ℕ). IsNext p n k m) (sym w.last-is) (next_none p n k c.loop-turn.last (omega arith) (subst (λ (x : ℕ). p x ≡ false) same (sym c.is_picked.ensures ∙ w.if-is_picked.false)) (subst (λ (x : ℕ). IsNext p n x c.loop-turn.last) (let e : n - turn ≡ k + 1 = omega arith in e) last))
    ] in
    subst (λ (xs : List ℕ). (length xs ≡ turn + 1 + 1) × (turn + 1 ≤ n) × IsNext p n (n - (turn + 1)) c.if-is_picked.last × ((j : ℕ) → j < turn + 1 + 1 → IsNext p n (n - j) (get_or xs j 0))) (sym c.in_ok-push.ensures.items) (length_more c.loop-turn.next.items (turn + 1) c.if-is_picked.last size, omega arith, there, each_more (λ j x. IsNext p n (n - j) x) c.loop-turn.next.items (turn + 1) c.if-is_picked.last 0 size each there)
