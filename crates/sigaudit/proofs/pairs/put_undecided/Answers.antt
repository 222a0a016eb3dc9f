use Rattle.std.proofs.Common.{◌≡◌, ◌∙◌, sym, None, Some}
use Rattle.row_reader.specs.Stamp.{stamp_in}
use Rattle.sigaudit.specs.Pairs.{place_of}
use Rattle.sigaudit.proofs.StopFacts.{fault_at}
use Rattle.sigaudit.proofs.PairFacts.{found_there, is_none-of, nothing_stops}
use Rattle.sigaudit.proofs.pairs.put_undecided.Goals as goal

pub returns-in-Some-clause-text : goal.returns-in-Some-clause-text
returns-in-Some-clause-text g c =
    let s = c.args.session.now in
    let place = place_of s.config c.args.rule (stamp_in s.config.window c.args.at.now) in
    let value : c.place_of.result ≡ place = rw c.config.ensures.value at c.place_of.ensures.value in
    let there : place ≡ Some (c.in-Some.rule, c.in-Some.at) = sym value ∙ c.in-Some.is in
    found_there s.config s.store place c.in-Some.rule c.in-Some.at _ _ c.put_place.result there c.put_place.ensures.text

pub returns-in_err-put_nothing-clause-text : goal.returns-in_err-put_nothing-clause-text
returns-in_err-put_nothing-clause-text g c =
    let s = c.args.session.now in
    let place = place_of s.config c.args.rule (stamp_in s.config.window c.args.at.now) in
    let value : c.place_of.result ≡ place = rw c.config.ensures.value at c.place_of.ensures.value in
    let none : place ≡ None = sym value ∙ is_none-of c.place_of.result c.in_default.not-Some in
    rw (fault_at c.from_residual.result c.from_residual.ensures.1) (nothing_stops s.config s.store place _ _ none c.in_err-put_nothing.ensures)
