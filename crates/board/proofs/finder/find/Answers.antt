use Rattle.std.proofs.Common.{ap, ◌∙◌, get_or}
use Rattle.std.proofs.lemmas.List.{get_or_default}
use Rattle.channel_tables.specs.declared.spec.Spec.{Spec}
use Rattle.board.specs.Logs.{no_spec}
use Rattle.board.proofs.Tracks.{letter_of_channel, letter_of_none, no_letter}
use Rattle.board.proofs.finder.find.Goals as goal

pub returns-in_err-place : goal.returns-in_err-place
returns-in_err-place c = rw c.from_residual-in_err-place.ensures (λ i d lt. letter_of_none (get_or c.args.specs.now i d) c.args.code c.args.param c.in_ok-channel.channel c.in_ok-channel.ensures (λ e. c.in_err-place.ensures c.args.specs.now c.requires i lt (ap (λ (s : Spec). s.channel) (get_or_default c.args.specs.now i no_spec d lt) ∙ e)))

pub returns-in_err-letter : goal.returns-in_err-letter
returns-in_err-letter c = rw c.from_residual-in_err-letter.ensures (λ i d lt. no_letter (get_or c.args.specs.now i d) c.args.code c.args.param c.in_ok-channel.channel c.in_ok-channel.ensures c.in_err-letter.ensures)

pub returns : goal.returns
returns c =
    let there = c.in_ok-place.ensures c.args.specs.now c.requires in
    (there.0, λ d. letter_of_channel (get_or c.args.specs.now c.in_ok-place.place d) c.args.code c.args.param c.in_ok-letter.letter c.in_ok-channel.channel c.in_ok-channel.ensures c.in_ok-letter.ensures (ap (λ (s : Spec). s.channel) (get_or_default c.args.specs.now c.in_ok-place.place d no_spec there.0) ∙ there.1))
