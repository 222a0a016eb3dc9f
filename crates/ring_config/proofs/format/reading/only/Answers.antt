use Rattle.std.proofs.Common.{◌≡◌, ◌∙◌, sym, true, false, refl}
use Rattle.ring_config.specs.Reading.{only, all_among}
use Rattle.ring_config.specs.Seen.{entry_seen}
use Rattle.ring_config.proofs.KeyLaws.{keys_among}
use Rattle.ring_config.proofs.format.reading.only.Goals as goal

pub returns-then-all_among : goal.returns-then-all_among
unfolding only
returns-then-all_among c =
    let known : all_among c.args.listed.now (entry_seen c.args.entry.now).members ≡ true = sym (keys_among c.args.listed.now c.args.entry.now.members.now.entries) ∙ sym c.all_among.ensures ∙ c.if-all_among.true in
    rw known refl

pub returns-else-all_among : goal.returns-else-all_among
unfolding only
returns-else-all_among c =
    let unknown : all_among c.args.listed.now (entry_seen c.args.entry.now).members ≡ false = sym (keys_among c.args.listed.now c.args.entry.now.members.now.entries) ∙ sym c.all_among.ensures ∙ c.if-all_among.false in
    rw (unknown, c.place.ensures) refl
