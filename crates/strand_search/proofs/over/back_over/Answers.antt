use Rattle.std.proofs.Common.{◌≡◌, ◌∙◌, subst, sym, List}
use Rattle.gap_ways.specs.declared.states.Fill.{Fill}
use Rattle.channel_tables.specs.Spec.{rules_of}
use Rattle.strand_search.specs.Events.{AreLettersOf}
use Rattle.strand_search.specs.Parts.{moves_over}
use Rattle.strand_search.proofs.Ranging.{back_adds, letters_fit, moves_order}
use Rattle.strand_search.proofs.over.back_over.Goals as goal

pub source_of-requires-clause-order : goal.source_of-requires-clause-order
source_of-requires-clause-order c =
    let (f, t, is, early, end) = c.requires.part in
    let p = c.args.part.now in
    let same : c.moves.result.now ≡ moves_over c.args.spec.now p = c.moves.ensures ∙ c.in_ok-course.ensures in
    moves_order c.args.spec.now f t p c.moves.result.now is same c.args.before.now early

pub add_letters-requires-clause-letters : goal.add_letters-requires-clause-letters
add_letters-requires-clause-letters c =
    let (f, t, is, early, end) = c.requires.part in
    let p = c.args.part.now in
    let same : c.moves.result.now ≡ moves_over c.args.spec.now p = c.moves.ensures ∙ c.in_ok-course.ensures in
    subst (λ (fs : List Fill). AreLettersOf (rules_of c.args.spec.now) fs) (sym c.deref.ensures.value) (letters_fit c.args.spec.now f t p c.moves.result.now is same c.new-letters.result.items c.source_of.new.letters.items c.new-letters.ensures.items c.in_ok-source.source c.args.target end c.in_ok-source.ensures.way)

pub returns-clause-way : goal.returns-clause-way
returns-clause-way c f t is =
    let p = c.args.part.now in
    let same : c.moves.result.now ≡ moves_over c.args.spec.now p = c.moves.ensures ∙ c.in_ok-course.ensures in
    back_adds c.args.spec.now f t p c.moves.result.now is same c.new-letters.result.items c.source_of.new.letters.items c.new-letters.ensures.items c.deref.result.now c.args.rows.now.items c.add_letters.new.rows.items c.in_ok-source.source c.args.target c.deref.ensures.value c.in_ok-source.ensures.way c.in_ok-add_letters.ensures
