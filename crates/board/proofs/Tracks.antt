-- Distinct channels make tracks whose runs join.
use Rattle.std.proofs.Common.{◌≡◌, ◌≢◌, refl, ap, sym, ◌∙◌, inl, inr, ℕ, ◌<◌, true, nat_eq, List, length, get_or, Option, Some, None}
use Rattle.std.proofs.lemmas.Bool.{cases_Bool, and_parts, eqb-true, eq-eqb}
use Rattle.std.proofs.lemmas.List.{get_or_default}
use Rattle.sig_base.proofs.Common.{some_same}
use Rattle.event_codes.specs.declared.channels.Channel.{Channel}
use Rattle.event_codes.specs.Cells.{kind_number}
use Rattle.event_codes.specs.Channels.{channel_in_table}
use Rattle.channel_tables.specs.declared.spec.Spec.{Spec}
use Rattle.channel_tables.specs.Letters.{letter_in_table, letter_with, sign_of}
use Rattle.channel_tables.specs.Table.{place_of}
use Rattle.channel_tables.specs.Tables.{table_of}
use Rattle.event_codes.proofs.Numbered.{channel_same, kind_same}
use Rattle.channel_tables.proofs.Places.{channel_letter}
use Rattle.channel_tables.proofs.Rows.{letter_row}
use Rattle.board.specs.History.{AreTracks, Track}
use Rattle.board.specs.Channels.{is_channel, letter_in, track, AreSpecs}

-- the test of a channel tells
pub found_channel : (c : Channel) (o : Option Channel) → is_channel c o ≡ true → o ≡ Some c
found_channel c None e = absurd (cc)
found_channel c (Some d) e =
    let p = and_parts (nat_eq (kind_number c.kind) (kind_number d.kind)) (nat_eq c.number d.number) e in
    let same : c ≡ d = channel_same c d (kind_same c.kind d.kind (eqb-true (kind_number c.kind) (kind_number d.kind) p.0)) (eqb-true c.number d.number p.1) in
    ap (λ x. Some x) (sym same)

pub own_channel : (c : Channel) → is_channel c (Some c) ≡ true
own_channel c = rw (eq-eqb (kind_number c.kind) (kind_number c.kind) refl, eq-eqb c.number c.number refl) refl

-- a letter of the spec is that of a row of its channel
pub spec_letter : (s : Spec) (c p l : ℕ) → letter_in s c p ≡ Some l → (channel_in_table c p ≡ Some s.channel) × (letter_in_table c p ≡ Some l)
spec_letter s c p l e = elim (cases_Bool (is_channel s.channel (channel_in_table c p))) [
  | inl is ↦ (found_channel s.channel (channel_in_table c p) is, rw is at e)
  | inr other ↦ let bad : None ≡ Some l = rw other at e in absurd (cc)
]

pub letter_here : (s : Spec) (c p : ℕ) → channel_in_table c p ≡ Some s.channel → letter_in s c p ≡ letter_in_table c p
letter_here s c p e = let is : is_channel s.channel (channel_in_table c p) ≡ true = rw e (own_channel s.channel) in rw is refl

pub letter_elsewhere : (s : Spec) (c p : ℕ) → (channel_in_table c p ≡ Some s.channel → ⊥) → letter_in s c p ≡ None
letter_elsewhere s c p absent = elim (cases_Bool (is_channel s.channel (channel_in_table c p))) [
  | inl is ↦ absurd (absent (found_channel s.channel (channel_in_table c p) is))
  | inr other ↦ rw other refl
]

-- each letter of the track is one of its machine's
abbrev pub Lettered : Track → Type 0
Lettered k = (c p l : ℕ) → k.letter c p ≡ Some l → l < k.rules.letters

pub spec_lettered : (s : Spec) → Lettered (track s)
spec_lettered s c p l e =
    let (here, letter) = spec_letter s c p l e in
    let (j, place, few) = channel_letter c p s.channel here in
    let with : letter_in_table c p ≡ letter_with (Some s.channel) c p = ap (λ o. letter_with o c p) here in
    let same : l ≡ j = some_same l j (sym letter ∙ (with ∙ place)) in
    rw same few

-- no event is of two of the specs
abbrev pub Apart : List Spec → Type 0
Apart specs = (i j : ℕ) (d e : Spec) (c p l : ℕ) → i < length specs → j < length specs → i ≢ j → letter_in (get_or specs i d) c p ≡ Some l → letter_in (get_or specs j e) c p ≡ None

pub specs_apart : (specs : List Spec) → AreSpecs specs → Apart specs
specs_apart specs are i j d e c p l li lj ne m =
    let there : get_or specs j e ≡ get_or specs j d = get_or_default specs j e d lj in
    let here = (spec_letter (get_or specs i d) c p l m).0 in
    rw there (letter_elsewhere (get_or specs j d) c p (λ other. are.distinct i j d li lj ne (some_same (get_or specs i d).channel (get_or specs j d).channel (sym here ∙ other))))

-- the letter of an event whose channel is known
abbrev pub own_letter : Channel → ℕ → ℕ → Option ℕ
own_letter channel c p = place_of (sign_of channel.kind c p) (table_of channel.kind).signs

pub letter_of_channel : (s : Spec) (c p l : ℕ) (channel : Channel) → Some channel ≡ channel_in_table c p → Some l ≡ own_letter channel c p → s.channel ≡ channel → letter_in s c p ≡ Some l
letter_of_channel s c p l channel here letter same = letter_here s c p (sym here ∙ ap (λ x. Some x) (sym same)) ∙ (ap (λ o. letter_with o c p) (sym here) ∙ sym letter)

pub no_letter : (s : Spec) (c p : ℕ) (channel : Channel) → Some channel ≡ channel_in_table c p → None ≡ own_letter channel c p → letter_in s c p ≡ None
no_letter s c p channel here none =
    let all : letter_in_table c p ≡ None = ap (λ o. letter_with o c p) (sym here) ∙ sym none in
    elim (cases_Bool (is_channel s.channel (channel_in_table c p))) [ inl is ↦ rw is all | inr other ↦ rw other refl ]

pub letter_of_none : (s : Spec) (c p : ℕ) (channel : Channel) → Some channel ≡ channel_in_table c p → s.channel ≢ channel → letter_in s c p ≡ None
letter_of_none s c p channel here other = letter_elsewhere s c p (λ e. other (some_same s.channel channel (sym e ∙ sym here)))

-- what the joining of runs asks of the tracks
pub tracks_are : (specs : List Spec) (d : Spec) → AreSpecs specs → AreTracks (length specs) (λ i. track (get_or specs i d))
tracks_are specs d are = record {
  event = λ i l lt small.
      let s = get_or specs i d in
      let (c, p, byte, two, here, letter) = letter_row s.channel l (are.numbered i d lt) small in
      (record { code = c; param = p }, (byte, two), letter_here s c p here ∙ letter);
  apart = λ i j a l li lj ne m. specs_apart specs are i j d d a.code a.param l li lj ne m;
}
