use Rattle.std.proofs.Common.{◌≡◌, ◌∙◌, ℕ, ◌+◌, ◌-◌, length, get_or, refl, subst, arith}
use Rattle.std.proofs.lemmas.List.{get_or_default}
use Rattle.arrival_measures.specs.Chains.{AreChains}
use Rattle.arrival_measures.proofs.Chaining.{chains_made, chains_none, chains_skip, chains_put}
use Rattle.arrival_measures.proofs.chains.Chains.new.Goals as goal

pub loop-place-init : goal.loop-place-init
loop-place-init c = chains_none c.args.rows.now (length c.args.rows.now) c.new-heads.result.items c.in_ok-next.next.items refl c.new-heads.ensures.items (c.in_ok-next.ensures.items_if_clones_equal (λ y e. e))

pub loop-place-preserved-in-Some : goal.loop-place-preserved-in-Some
loop-place-preserved-in-Some c =
    let rows = c.args.rows.now in
    let heads = c.loop-place.heads.items in
    let made = c.make_cell.new.heads.items in
    let next = c.loop-place.next.items in
    let cell = c.cell-cell.result in
    let k : ℕ = c.loop-place.place - 1 in
    let same : c.loop-place.place ≡ k + 1 = omega arith in
    let old = chains_made rows (k + 1) heads made next c.in_ok-make_cell.ensures.same (subst (λ (i : ℕ). AreChains rows i heads next) same c.loop-place.invariant) in
    let low = c.in_ok-make_cell.ensures.within in
    let was : c.index.result.now ≡ get_or made cell (length rows) = c.index.ensures ∙ get_or_default made cell c.index.result.now (length rows) low in
    let is = c.cell-cell.ensures.cell in
    rw (was, is) (chains_put rows k made next c.in-Some.chain (omega arith) (omega arith) c.cell-cell.ensures.number c.in-Some.ensures old)

pub loop-place-preserved : goal.loop-place-preserved
loop-place-preserved c =
    let rows = c.args.rows.now in
    let heads = c.loop-place.heads.items in
    let next = c.loop-place.next.items in
    let k : ℕ = c.loop-place.place - 1 in
    let same : c.loop-place.place ≡ k + 1 = omega arith in
    chains_skip rows k heads next c.in_default.ensures (subst (λ (i : ℕ). AreChains rows i heads next) same c.loop-place.invariant)
