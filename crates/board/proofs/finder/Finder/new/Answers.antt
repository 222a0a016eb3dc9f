use Rattle.std.proofs.Common.{◌≡◌, ◌∙◌, ap, arith, ℕ, List, length, get_or, replicate}
use Rattle.std.proofs.lemmas.List.{get_or-replicate, length-replicate}
use Rattle.channel_tables.specs.declared.spec.Spec.{Spec}
use Rattle.board.specs.declared.finder.Kept.{Kept}
use Rattle.board.specs.Finding.{AreKept, IsFound}
use Rattle.board.proofs.finder.Finder.new.Goals as goal

-- one answer, so many times
all_one : (specs : List Spec) (n : ℕ) (one : Kept) (kept : List Kept) → kept ≡ replicate n one → IsFound specs one.code one.param one.found → AreKept specs kept
all_one specs n one kept made found i d lt =
    let size : length kept ≡ n = ap length made ∙ length-replicate {A = Kept} n one in
    let at : get_or kept i d ≡ one = ap (λ xs. get_or xs i d) made ∙ get_or-replicate {A = Kept} n i one d (omega arith) in
    rw at found

pub returns : goal.returns
returns c =
    let first : Kept = record { code = 0; param = 0; found = c.find-found.result } in
    (c.in_ok-table.ensures, all_one c.args.specs.now c.min.result first c.in_ok-kept.kept.items (c.in_ok-kept.ensures.items_if_clones_equal (λ y e. e)) c.find-found.ensures)
