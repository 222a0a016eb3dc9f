use Rattle.std.proofs.Common.{arith, ◌∙◌, subst, ◌/◌, ℕ}
use Rattle.board.specs.Logs.{first_tenth}
use Rattle.decisive.specs.declared.judge.Start.TheVariants.{Kept}
use Rattle.decisive.specs.Searches.{IsBeginFound, IsEndFound}
use Rattle.decisive.proofs.Finished.{found_in, more_hours}
use Rattle.decisive.proofs.GrowLaws.{grow_on}
use Rattle.decisive.proofs.window.search_window.Goals as goal

pub search_begin-requires-clause-late : goal.search_begin-requires-clause-late
search_begin-requires-clause-late g c =
    let q = c.args.question.now in
    (found_in (Kept c.args.before) c.args.store.now q.specs.now q.parts.now (q.at / 36000) q.at _ c.in_ok-end.end c.in_ok-end.placed c.in_ok-end.ensures.found).0

pub search_begin-requires-clause-place : goal.search_begin-requires-clause-place
search_begin-requires-clause-place g c =
    let q = c.args.question.now in
    let s = c.args.store.now in
    let hour = q.at / 36000 in
    let placed = c.in_ok-end.placed in
    let end = c.in_ok-end.ensures.found in
    let (low, cut) = found_in (Kept c.args.before) s q.specs.now q.parts.now hour q.at _ c.in_ok-end.end placed end in
    let few = c.search_end.ensures.store.few in
    let next = end.within in
    (first_tenth end.next, omega arith, more_hours s placed.told (first_tenth hour) (first_tenth end.next) end.next 744 q.at placed.place (omega arith) end.are, cut)

pub returns-in_err-end-clause-grow : goal.returns-in_err-end-clause-grow
returns-in_err-end-clause-grow g c = grow_on _ _ _ c.placed_in.ensures.grow c.search_end.ensures.grow

pub returns-in_err-begin-clause-grow : goal.returns-in_err-begin-clause-grow
returns-in_err-begin-clause-grow g c = grow_on _ _ _ c.placed_in.ensures.grow (grow_on _ _ _ c.search_end.ensures.grow c.search_begin.ensures.grow)

pub returns-clause-grow : goal.returns-clause-grow
returns-clause-grow g c = grow_on _ _ _ c.placed_in.ensures.grow (grow_on _ _ _ c.search_end.ensures.grow c.search_begin.ensures.grow)

pub returns-clause-found : goal.returns-clause-found
returns-clause-found g c =
    let q = c.args.question.now in
    let s = c.args.store.now in
    let placed = c.in_ok-end.placed in
    let end = c.in_ok-end.ensures.found in
    let rank_is = c.in_ok-first.ensures.rank in
    record {
      placed = placed;
      end = subst (λ (j : ℕ). IsEndFound (Kept c.args.before) s q.specs.now q.parts.now (q.at / 36000) q.at j c.in_ok-end.end placed) rank_is end;
      begin = subst (λ (j : ℕ). IsBeginFound s q.specs.now q.parts.now q.at j c.in_ok-end.end c.in_ok-begin.begin) (end.rank_is ∙ rank_is) c.in_ok-begin.ensures.found;
    }
