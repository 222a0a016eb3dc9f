use Rattle.std.proofs.Common.{arith, refl, rules, sym, subst, ◌≡◌, ◌+◌, ◌≤◌, length}
use Rattle.sig_base.specs.declared.values.Row.{Row}
use Rattle.decisive.specs.Tries.{IsCandidateRow, IsNearest, IsOwnAt, IsTrail}
use Rattle.decisive.proofs.Judging.{none_map}
use Rattle.decisive.proofs.Nearest.{row_low, trail_push, trail_skip, trail_tried}
use Rattle.decisive.proofs.search.step.Goals as goal

pub row_from-requires-clause-place : goal.row_from-requires-clause-place
row_from-requires-clause-place c = c.requires.sought.is_told.place.count

pub is_candidate-requires-clause-parts : goal.is_candidate-requires-clause-parts
is_candidate-requires-clause-parts c = c.requires.sought.is_told.parts

pub is_candidate-requires-clause-follow : goal.is_candidate-requires-clause-follow
is_candidate-requires-clause-follow c =
    let sought = c.requires.sought in
    (sought.low, sought.high, sought.is_told.place.stretches, subst (λ (r : Row). sought.low ≤ r.at) (sym c.row_from.ensures) (row_low c.args.question.now c.args.told.now sought.low sought.high sought.is_told c.args.aim.now c.args.i c.requires.within))

pub try_last-requires-clause-trail : goal.try_last-requires-clause-trail
try_last-requires-clause-trail c =
    let own : IsOwnAt c.args.aim.now c.args.question.now c.args.told.now c.args.i = subst (λ (r : Row). IsCandidateRow c.args.question.now c.args.told.now r) c.row_from.ensures (c.is_candidate.ensures.0 (rw c.if-not-is_candidate.false refl)) in
    let within = c.requires.within in
    (c.args.i + 1, omega arith, trail_push c.args.aim.now c.args.question.now c.args.told.now c.args.trail.now (record { found = c.push.new.self; tried = c.args.trail.now.tried }) c.args.i c.requires.trail own c.in_ok-push.ensures.items refl)

pub try_last-requires-clause-untried : goal.try_last-requires-clause-untried
try_last-requires-clause-untried c =
    let some = c.requires.trail.some in
    let size : length c.push.new.self.items ≡ length c.args.trail.now.found.items + 1 = search rules in
    omega arith

pub returns-then-not-is_candidate : goal.returns-then-not-is_candidate
returns-then-not-is_candidate c = trail_skip c.args.aim.now c.args.question.now c.args.told.now c.args.trail.now c.args.i c.requires.trail (λ own.
    let t = c.is_candidate.ensures.1 (subst (λ (r : Row). IsCandidateRow c.args.question.now c.args.told.now r) (sym c.row_from.ensures) own) in
    absurd (cc))

pub returns-then-len-trail : goal.returns-then-len-trail
returns-then-len-trail c =
    let own : IsOwnAt c.args.aim.now c.args.question.now c.args.told.now c.args.i = subst (λ (r : Row). IsCandidateRow c.args.question.now c.args.told.now r) c.row_from.ensures (c.is_candidate.ensures.0 (rw c.if-not-is_candidate.false refl)) in
    trail_push c.args.aim.now c.args.question.now c.args.told.now c.args.trail.now (record { found = c.push.new.self; tried = c.args.trail.now.tried }) c.args.i c.requires.trail own c.in_ok-push.ensures.items refl

pub returns : goal.returns
returns c =
    let own : IsOwnAt c.args.aim.now c.args.question.now c.args.told.now c.args.i = subst (λ (r : Row). IsCandidateRow c.args.question.now c.args.told.now r) c.row_from.ensures (c.is_candidate.ensures.0 (rw c.if-not-is_candidate.false refl)) in
    let pushed = trail_push c.args.aim.now c.args.question.now c.args.told.now c.args.trail.now (record { found = c.push.new.self; tried = c.args.trail.now.tried }) c.args.i c.requires.trail own c.in_ok-push.ensures.items refl in
    let size : c.len-trail.result ≡ length c.push.new.self.items = search rules in
    none_map c.in_ok-hit.hit _ (IsTrail c.args.aim.now c.args.question.now c.args.told.now (record { found = c.push.new.self; tried = c.len-trail.result }) (c.args.i + 1)) (IsNearest c.args.aim.now c.args.question.now c.args.told.now) (λ none. trail_tried c.args.aim.now c.args.question.now c.args.told.now (record { found = c.push.new.self; tried = c.args.trail.now.tried }) (record { found = c.push.new.self; tried = c.len-trail.result }) (c.args.i + 1) pushed none refl size) c.in_ok-hit.ensures
