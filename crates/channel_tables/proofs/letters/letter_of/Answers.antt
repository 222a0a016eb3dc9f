use Rattle.std.proofs.Common.{◌≡◌, refl, sym, ◌∙◌, Some}
use Rattle.event_codes.specs.Channels.{channel_in_table}
use Rattle.channel_tables.proofs.Places.{channel_letter}
use Rattle.channel_tables.proofs.letters.letter_of.Goals as goal

pub returns-in-Some-clause-there : goal.returns-in-Some-clause-there
returns-in-Some-clause-there c =
    let e : channel_in_table c.args.code c.args.param ≡ Some c.in-Some.channel = sym c.channel_of.ensures ∙ c.in-Some.is in
    let h = channel_letter c.args.code c.args.param c.in-Some.channel e in
    rw (c.letter_of_kind.ensures, h.1, e) (λ _. refl, λ _. refl)
