use Rattle.std.proofs.Common.{arith, ◌≡◌, ◌∙◌, [], ◌∷◌, ◌++◌, get_or, true, false, sym, ap, ◌+◌}
use Rattle.std.proofs.lemmas.List.{get_or_default, length_push}
use Rattle.channel_tables.specs.declared.spec.Spec.{Spec}
use Rattle.board.specs.Logs.{no_spec}
use Rattle.board.proofs.Among.{among_kept, among_more, chosen_none, chosen_one, of_kept, of_more, specs_more}
use Rattle.board.proofs.again.specs_among.Goals as goal

pub loop-i-preserved-then-not-wanted-i : goal.loop-i-preserved-then-not-wanted-i
loop-i-preserved-then-not-wanted-i c =
    let specs = c.args.specs.now in let wanted = c.args.wanted.now in
    let i = c.loop-i.i in
    let inv = c.loop-i.invariant in
    let few = c.loop-i.few.items in
    let off : get_or wanted i false ≡ false = c.if-not-wanted-i.true in
    record {
      count = inv.count ∙ sym (chosen_none wanted i off);
      specs = inv.specs;
      of = of_kept specs i few inv.of;
      places = among_kept specs wanted i few off inv.places;
    }

pub loop-i-preserved : goal.loop-i-preserved
loop-i-preserved c =
    let specs = c.args.specs.now in let wanted = c.args.wanted.now in
    let i = c.loop-i.i in
    let inv = c.loop-i.invariant in
    let few = c.loop-i.few.items in
    let lt = c.loop-i-test.true in
    let s = get_or specs i no_spec in
    let is = λ (d : Spec). get_or_default specs i no_spec d lt in
    let on : get_or wanted i false ≡ true = c.if-not-wanted-i.false in
    let items : c.push.new.self.items ≡ few ++ s ∷ [] = c.in_ok-push.ensures.items in
    record {
      count = rw items (length_push few s ∙ ap (λ n. n + 1) inv.count ∙ sym (chosen_one wanted i on));
      specs = rw items (specs_more specs i few s c.requires.specs lt inv.specs inv.of is);
      of = rw items (of_more specs i few s inv.of is);
      places = rw items (among_more specs wanted i few s inv.count inv.places is);
    }

pub returns-clause-places : goal.returns-clause-places
returns-clause-places c = λ i d lt on. c.loop-i.invariant.places i d (let ge = c.loop-i-test.false in omega arith) on
