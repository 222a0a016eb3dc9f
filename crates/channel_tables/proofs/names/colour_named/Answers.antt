use Rattle.std.proofs.Common.{refl, arith, ap, Some}
use Rattle.channel_tables.proofs.Distinct.{one_name, name_below}
use Rattle.channel_tables.proofs.names.colour_named.Goals as goal

pub returns-then-is_name-clause-every : goal.returns-then-is_name-clause-every
returns-then-is_name-clause-every c = λ k h. ap Some (one_name c.args.kind c.loop-colour.colour k c.args.name.now (c.if-is_name.ensures.0 refl) h)

pub returns-clause-every : goal.returns-clause-every
returns-clause-every c = λ k h. absurd (c.loop-colour.invariant k (let b = name_below c.args.kind k c.args.name.now h in let f = c.loop-colour-test.false in omega arith) h)
