use Rattle.std.proofs.Common.{◌≡◌, ◌∙◌, ℕ, ◌+◌, ◌<◌, ◌≤◌, suc, List, [], ◌∷◌, ◌++◌, ap, arith, get_or, length, set, subst, sym, take}
use Rattle.hour_work.specs.declared.counts.RuleCount.{RuleCount}
use Rattle.hour_work.specs.Numbers.{FitsCount, count_sum}
use Rattle.hour_sweep.specs.Sums.{merged}
use Rattle.hour_sweep.proofs.Merging.{length-past, length-within, step_past, step_within, sum_nil, within_same}
use Rattle.hour_work.proofs.numbers.add_counts.Goals as goal
use Rattle.hour_work.proofs.numbers.add_counts.Goals.{then-i-len, else-i-len+in_ok-push}

pub loop-i-init : goal.loop-i-init
loop-i-init c = sym (sum_nil count_sum c.args.total.now.items)

pub count_sum-requires : goal.count_sum-requires
count_sum-requires c =
    let (m, n, fits, more, few) = c.requires in
    let z : RuleCount = record { kept = 0; broken = 0; undecided = 0 } in
    let xs = c.args.total.now.items in
    let ys = c.args.more.now in
    let i = c.loop-i.i in
    let d = c.index.result.now in
    let size : c.len.result ≡ length c.loop-i.total.items = c.len.ensures ∙ c.loop-i.total.ok.0 in
    let same : length c.loop-i.total.items ≡ length (merged count_sum xs (take i ys)) = ap length c.loop-i.invariant in
    let there : i < length (merged count_sum xs (take i ys)) = omega arith in
    let lt = length-within count_sum xs ys i there in
    let own : d ≡ get_or xs i d = c.index.ensures ∙ (ap (λ (zs : List RuleCount). get_or zs i d) c.loop-i.invariant ∙ within_same count_sum xs ys i d lt) in
    (m, n, subst (λ (r : RuleCount). FitsCount m r) (sym own) (fits i d lt), more i z c.loop-i-test.true, few)

pub loop-i-preserved : goal.loop-i-preserved
loop-i-preserved c =
    let xs = c.args.total.now.items in
    let ys = c.args.more.now in
    let i = c.loop-i.i in
    let z : RuleCount = record { kept = 0; broken = 0; undecided = 0 } in
    let old = merged count_sum xs (take i ys) in
    let next : suc i ≡ i + 1 = omega arith in
    let size : c.len.result ≡ length c.loop-i.total.items = c.len.ensures ∙ c.loop-i.total.ok.0 in
    let same : length c.loop-i.total.items ≡ length old = ap length c.loop-i.invariant in
    elim c.if-i-len.branch [
      | then-i-len w ↦
          let d = w.index.result.now in
          let here = w.if-i-len.true in
          let there : i < length old = omega arith in
          let lt = length-within count_sum xs ys i there in
          let sum : w.count_sum.result ≡ count_sum (get_or old i d) (get_or ys i z) = w.count_sum.ensures ∙ ap (λ (r : RuleCount). count_sum r (get_or ys i z)) (w.index.ensures ∙ ap (λ (rs : List RuleCount). get_or rs i d) c.loop-i.invariant) in
          rw w.total-is (ap (λ (rs : List RuleCount). set rs i w.count_sum.result) c.loop-i.invariant
          ∙ (ap (λ (r : RuleCount). set old i r) sum
          ∙ (step_within count_sum xs ys i d z lt c.loop-i-test.true
          ∙ ap (λ (n : ℕ). merged count_sum xs (take n ys)) next)))
      | else-i-len+in_ok-push w ↦
          let out = w.if-i-len.false in
          let there : length old ≤ i = omega arith in
          let past = length-past count_sum xs ys i there in
          rw w.total-is (w.in_ok-push.ensures.items
          ∙ (ap (λ (rs : List RuleCount). rs ++ get_or ys i z ∷ []) c.loop-i.invariant
          ∙ (step_past count_sum xs ys i z past c.loop-i-test.true
          ∙ ap (λ (n : ℕ). merged count_sum xs (take n ys)) next)))
    ]
