-- Lemmas that several crates use.
use Rattle.std.proofs.Common.{◌≡◌, inl, inr, ℕ, nat_lt, Some, refl, subst}
use Rattle.std.proofs.lemmas.Bool.{cases_Bool}
use Rattle.event_codes.specs.declared.channels.Channel.{Channel}
use Rattle.event_codes.specs.declared.channels.Kind.{Kind}
use Rattle.event_codes.specs.Channels.{number_of, numbered_channel}

pub numbered : (kind : Kind) (least most param : ℕ) (channel : Channel) → numbered_channel kind least most param ≡ Some channel → channel.number ≡ number_of channel.kind param
numbered kind least most param channel e = elim (cases_Bool (nat_lt param least)) [
  | inl t ↦ let k = rw t at e in absurd (cc)
  | inr f ↦ let k = rw f at e in elim (cases_Bool (nat_lt most param)) [
    | inl u ↦ let j = rw u at k in absurd (cc)
    | inr v ↦
        let made : Channel = record { kind = kind; number = number_of kind param } in
        let j : Some made ≡ Some channel = rw v at k in
        let same : made ≡ channel = cc in
        subst (λ (x : Channel). x.number ≡ number_of x.kind param) same refl
  ]
]
