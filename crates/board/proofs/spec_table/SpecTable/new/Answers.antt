use Rattle.std.proofs.Common.{arith, refl, sym, ◌≡◌, subst, set, get_or, ◌+◌, ℕ, List, length}
use Rattle.std.proofs.lemmas.List.{length-replicate, length-set}
use Rattle.board.specs.Logs.{no_spec}
use Rattle.board.specs.SpecPlaces.{AreCells, HaveCells}
use Rattle.board.proofs.Cells.{cells_empty, cells_more}
use Rattle.board.proofs.spec_table.SpecTable.new.Goals as goal

pub loop-i-init : goal.loop-i-init
loop-i-init c =
    let specs = c.args.specs.now in
    let made = c.in_ok-cells.ensures.items_if_clones_equal (λ y e. e) in
    let n = c.cell_count.result in (
      subst (λ (cells : List ℕ). HaveCells specs (length specs) (length cells)) (sym made) (subst (λ (k : ℕ). HaveCells specs (length specs) k) (sym (length-replicate {A = ℕ} n 65535)) c.cell_count.ensures),
      subst (λ (cells : List ℕ). AreCells specs 0 cells) (sym made) (cells_empty specs n),
    )

pub loop-i-preserved : goal.loop-i-preserved
loop-i-preserved c =
    let specs = c.args.specs.now in
    let own = (get_or specs c.loop-i.i no_spec).channel in
    let (have, are) = c.loop-i.invariant in
    let more = cells_more specs c.loop-i.i c.loop-i.cells.items own (have c.loop-i.i (omega arith)) refl are in (
      subst (λ (n : ℕ). HaveCells specs (length specs) n) (sym (length-set c.loop-i.cells.items c.cell.result c.loop-i.i)) have,
      subst (λ (k : ℕ). AreCells specs (c.loop-i.i + 1) (set c.loop-i.cells.items k c.loop-i.i)) (sym c.cell.ensures.cell) more,
    )

pub returns : goal.returns
returns c =
    let few = c.requires in
    let over = c.loop-i-test.false in
    let (have, are) = c.loop-i.invariant in
    let last : c.loop-i.i ≡ length c.args.specs.now = omega arith in
    (omega arith, have, subst (λ (n : ℕ). AreCells c.args.specs.now n c.loop-i.cells.items) last are)
