use Rattle.std.proofs.Common.{◌≡◌, ◌∙◌, ℕ, ◌+◌, ◌<◌, ◌≤◌, suc, [], ◌∷◌, ◌++◌, ap, arith, get_or, length, set, sym, take}
use Rattle.hour_sweep.specs.Sums.{merged}
use Rattle.hour_sweep.proofs.Merging.{length-past, length-within, step_past, step_within, sum_nil}
use Rattle.hour_sweep.proofs.each.add_each.Goals as goal
use Rattle.hour_sweep.proofs.each.add_each.Goals.{then-i-len, else-i-len+in_ok-push}

pub loop-i-init : goal.loop-i-init
loop-i-init g c = sym (sum_nil g.T.Sum.both c.args.total.now.items)

pub loop-i-preserved : goal.loop-i-preserved
loop-i-preserved g c =
    let f = g.T.Sum.both in
    let xs = c.args.total.now.items in
    let ys = c.args.more.now in
    let i = c.loop-i.i in
    let old = merged f xs (take i ys) in
    let next : suc i ≡ i + 1 = omega arith in
    let size : c.len.result ≡ length c.loop-i.total.items = c.len.ensures ∙ c.loop-i.total.ok.0 in
    let same : length c.loop-i.total.items ≡ length old = ap length c.loop-i.invariant in
    elim c.if-i-len.branch [
      | then-i-len w ↦
          let d = w.index.result.now in
          let e = w.index-more-i.result in
          let here = w.if-i-len.true in
          let there : i < length old = omega arith in
          let lt = length-within f xs ys i there in
          let sum : w.sum.result ≡ f (get_or old i d) (get_or ys i e) = w.sum.ensures ∙ (ap (λ r. f r w.index-more-i.result) (w.index.ensures ∙ ap (λ rs. get_or rs i d) c.loop-i.invariant) ∙ ap (λ r. f (get_or old i d) r) w.index-more-i.is) in
          rw w.total-is (ap (λ rs. set rs i w.sum.result) c.loop-i.invariant
          ∙ (ap (λ r. set old i r) sum
          ∙ (step_within f xs ys i d e lt c.loop-i-test.true
          ∙ ap (λ (n : ℕ). merged f xs (take n ys)) next)))
      | else-i-len+in_ok-push w ↦
          let e = w.index-more-i-else-i-len.result in
          let out = w.if-i-len.false in
          let there : length old ≤ i = omega arith in
          let past = length-past f xs ys i there in
          rw w.total-is (w.in_ok-push.ensures.items
          ∙ (ap (λ rs. rs ++ e ∷ []) c.loop-i.invariant
          ∙ (ap (λ r. old ++ r ∷ []) w.index-more-i-else-i-len.is
          ∙ (step_past f xs ys i e past c.loop-i-test.true
          ∙ ap (λ (n : ℕ). merged f xs (take n ys)) next))))
    ]
