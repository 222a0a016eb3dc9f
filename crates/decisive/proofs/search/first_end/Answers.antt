use Rattle.std.proofs.Common.{subst, ℕ}
use Rattle.rule_audit.proofs.Walking.{if_ok}
use Rattle.decisive.specs.Tries.{IsEndRow, NoEndRow}
use Rattle.decisive.proofs.Judging.{both_map}
use Rattle.decisive.proofs.Nearest.{end_sought, nearest_end, none_end}
use Rattle.decisive.proofs.search.first_end.Goals as goal

pub nearest_tenth-requires : goal.nearest_tenth-requires
nearest_tenth-requires c = let (f, t, is, fits, grow) = c.requires.told in record { sought = end_sought c.args.question.now c.args.told.now f t is c.args.start fits grow }

pub returns : goal.returns
returns c =
    let (f, t, is, fits, grow) = c.requires.told in
    let q = c.args.question.now in
    let told = c.args.told.now in
    let start = c.args.start in
    if_ok c.nearest_tenth.result _ _ (λ r h. both_map r _ (NoEndRow start.now q told) _ (IsEndRow start.now q told) (none_end q told f t is start) (λ y (i, near, at). subst (λ (w : ℕ). IsEndRow start.now q told w) at (nearest_end q told f t is start i near)) h) c.nearest_tenth.ensures
