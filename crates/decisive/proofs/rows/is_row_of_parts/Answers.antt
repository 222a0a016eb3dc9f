use Rattle.std.proofs.Common.{subst, sym, ◌<◌, length}
use Rattle.std.proofs.lemmas.List.{get_or_default}
use Rattle.decisive.specs.declared.parts.Part.{Part}
use Rattle.decisive.specs.Parts.{no_part}
use Rattle.decisive.proofs.rows.is_row_of_parts.Goals as goal

pub is_of-requires : goal.is_of-requires
is_of-requires c = subst (λ (p : Part). p.spec < length c.args.specs.now) (sym (get_or_default c.args.parts.now c.loop-i.i _ no_part c.loop-i-test.true)) ((c.requires.each c.loop-i.i c.loop-i-test.true).within)
