-- The channel of a text, as the code looks for it.
use Rattle.std.proofs.Common.{◌≡◌, ℕ, ◌+◌, ◌<◌, ◌≤◌, true, false, List, length, get_or, drop, Some, None, refl}
use Rattle.std.proofs.lemmas.List.{drop_more, drop_all}
use Rattle.event_codes.specs.declared.channels.Channel.{Channel}
use Rattle.ring_config.specs.Values.{is_named, named_from}

pub named_here : (i : ℕ) (channels : List Channel) (text : List ℕ) (d : Channel) → i < length channels → is_named text (get_or channels i d) ≡ true → named_from i (drop i channels) text ≡ Some (record { spec = i; kind = (get_or channels i d).kind })
unfolding named_from
named_here i channels text d lt t = rw (drop_more channels i d lt, t) refl

pub named_later : (i : ℕ) (channels : List Channel) (text : List ℕ) (d : Channel) → i < length channels → is_named text (get_or channels i d) ≡ false → named_from i (drop i channels) text ≡ named_from (i + 1) (drop (i + 1) channels) text
unfolding named_from
named_later i channels text d lt f = rw (drop_more channels i d lt, f) refl

pub named_nowhere : (i : ℕ) (channels : List Channel) (text : List ℕ) → length channels ≤ i → named_from i (drop i channels) text ≡ None
unfolding named_from
named_nowhere i channels text le = rw (drop_all i channels le) refl
