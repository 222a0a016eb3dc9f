use Rattle.std.proofs.Common.{subst, ℕ}
use Rattle.rule_audit.proofs.Walking.{if_ok}
use Rattle.decisive.specs.Tries.{IsBeginRow, NoBeginRow}
use Rattle.decisive.proofs.Judging.{both_map}
use Rattle.decisive.proofs.Nearest.{begin_sought, nearest_begin, none_begin}
use Rattle.decisive.proofs.search.last_begin.Goals as goal

pub nearest_tenth-requires : goal.nearest_tenth-requires
nearest_tenth-requires c = let (f, t, is, cut, grow) = c.requires.told in record { sought = begin_sought c.args.question.now c.args.told.now f t is c.args.last c.requires.late cut grow }

pub returns : goal.returns
returns c =
    let (f, t, is, cut, grow) = c.requires.told in
    let q = c.args.question.now in
    let told = c.args.told.now in
    let v = c.args.last in
    if_ok c.nearest_tenth.result _ _ (λ r h. both_map r _ (NoBeginRow q told v) _ (IsBeginRow q told v) (none_begin q told f t is v c.requires.late cut.0) (λ y (i, near, at). subst (λ (u : ℕ). IsBeginRow q told v u) at (nearest_begin q told f t is v c.requires.late cut.0 i near)) h) c.nearest_tenth.ensures
