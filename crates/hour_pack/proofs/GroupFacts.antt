-- Rows of one group have one parameter, but for those of the coordination.
use Rattle.std.proofs.Common.{◌≡◌, ◌≢◌, ◌∙◌, ℕ, Bool, true, false, List, [], ◌∷◌, Option, Some, None, refl, sym, arith, inl, inr, if◌then◌else◌, nat_lt}
use Rattle.std.specs.Prelude.{◌⊎◌, nat_eq}
use Rattle.std.specs.List.{AllByRecursion, list_any}
use Rattle.std.specs.Option.{option_map_or}
use Rattle.std.proofs.lemmas.Bool.Decides.{nat_tests}
use Rattle.sig_base.specs.declared.values.Row.{Row}
use Rattle.event_codes.specs.declared.channels.Channel.{Channel}
use Rattle.event_codes.specs.declared.channels.Kind.{Kind}
use Rattle.event_codes.specs.declared.channels.Kind.TheVariants.{Coordination}
use Rattle.event_codes.specs.declared.channels.Group.TheVariants.{Of, Alone}
use Rattle.event_codes.specs.Channels.{Line, channel_lines, channel_by, channel_in_table, number_of, numbered_channel}
use Rattle.event_codes.specs.Channels.{same_group}
use Rattle.row_reader.specs.Repeats.{group_of_row}
use Rattle.event_codes.proofs.Groups.{same_group-is}

chosen : (b : Bool) (x y z : Option Channel) → (if b then x else y) ≡ z → ((b ≡ true) × (x ≡ z)) ⊎ ((b ≡ false) × (y ≡ z))
chosen true x y z e = inl (refl, e)
chosen false x y z e = inr (refl, e)

none-some : (c : Channel) → None ≡ Some c → ⊥
none-some c e = cc

-- a line of the coordination has its one code; any other numbers its channels by the parameter
abbrev NumbersByParam : Line → Type 0
NumbersByParam x = ((x.kind ≡ Coordination) × (x.codes_of ≡ 150 ∷ [])) ⊎ ((x.kind ≢ Coordination) × ((p : ℕ) → number_of x.kind p ≡ p))

-- and so of a channel
abbrev IsNumbered : ℕ → ℕ → Channel → Type 0
IsNumbered code param c = ((c.kind ≡ Coordination) × (code ≡ 150)) ⊎ ((c.kind ≢ Coordination) × (c.number ≡ param))

all-lines : AllByRecursion NumbersByParam channel_lines
all-lines = (
  inr (λ e. cc, λ p. refl),
  (
    inr (λ e. cc, λ p. refl),
    (
      inr (λ e. cc, λ p. refl),
      (
        inr (λ e. cc, λ p. refl),
        (inr (λ e. cc, λ p. refl), (inr (λ e. cc, λ p. refl), (inr (λ e. cc, λ p. refl), (inl (refl, refl), tt)))),
      ),
    ),
  ),
)

numbered-is : (kind : Kind) (least most param : ℕ) (c : Channel) → numbered_channel kind least most param ≡ Some c → c ≡ record { kind = kind; number = number_of kind param }
numbered-is kind least most param c e =
    elim (chosen (nat_lt param least) None (if nat_lt most param then None else Some (record { kind = kind; number = number_of kind param })) (Some c) e) [
      | inl p ↦ absurd (none-some c p.1)
      | inr p ↦ elim (chosen (nat_lt most param) None (Some (record { kind = kind; number = number_of kind param })) (Some c) p.1) [
        | inl q ↦ absurd (none-some c q.1)
        | inr q ↦ some-is (record { kind = kind; number = number_of kind param }) c q.1
      ]
    ]
  where
    some-is : (a b : Channel) → Some a ≡ Some b → b ≡ a
    some-is a b e = cc

only-code : (codes : List ℕ) (code : ℕ) → codes ≡ 150 ∷ [] → list_any (λ c. nat_eq c code) codes ≡ true → code ≡ 150
only-code codes code e h =
    let t : list_any (λ c. nat_eq c code) (150 ∷ []) ≡ true = rw e at h in
    grind (arith, nat_tests, t)

by-line : (x : Line) (code param : ℕ) (c : Channel) → NumbersByParam x → list_any (λ k. nat_eq k code) x.codes_of ≡ true
    → c ≡ record { kind = x.kind; number = number_of x.kind param } → IsNumbered code param c
by-line x code param c (inl p) h e = rw e (inl (p.0, only-code x.codes_of code p.1 h))
by-line x code param c (inr p) h e = rw e (inr (p.0, p.1 param))

numbered : (xs : List Line) (code param : ℕ) (c : Channel) → AllByRecursion NumbersByParam xs → channel_by xs code param ≡ Some c → IsNumbered code param c
numbered [] code param c h e = absurd (none-some c e)
numbered (x ∷ xs) code param c h e =
    elim (chosen (list_any (λ k. nat_eq k code) x.codes_of) (numbered_channel x.kind x.least x.most param) (channel_by xs code param) (Some c) e) [
      | inl p ↦ by-line x code param c h.0 p.0 (numbered-is x.kind x.least x.most param c p.1)
      | inr p ↦ numbered xs code param c h.1 p.1
    ]

-- one channel of two rows
one-channel : (a b m n : ℕ) (c : Channel) → IsNumbered a m c → IsNumbered b n c → (m ≡ n) ⊎ ((a ≡ 150) × (b ≡ 150))
one-channel a b m n c (inl p) (inl q) = inr (p.1, q.1)
one-channel a b m n c (inl p) (inr q) = absurd (q.0 p.0)
one-channel a b m n c (inr p) (inl q) = absurd (p.0 q.0)
one-channel a b m n c (inr p) (inr q) = inl (sym p.1 ∙ q.1)

one-group : (a b m n : ℕ) (c d : Option Channel) → channel_in_table a m ≡ c → channel_in_table b n ≡ d → option_map_or Of c (Alone a m) ≡ option_map_or Of d (Alone b n)
    → (m ≡ n) ⊎ ((a ≡ 150) × (b ≡ 150))
one-group a b m n None None hc hd e = let same : m ≡ n = cc in inl same
one-group a b m n None (Some d) hc hd e = absurd cc
one-group a b m n (Some c) None hc hd e = absurd cc
one-group a b m n (Some c) (Some d) hc hd e =
    let same : c ≡ d = cc in
    one-channel a b m n c (numbered channel_lines a m c all-lines hc) (numbered channel_lines b n c all-lines (rw same hd))

-- rows of one group
pub group-param : (a b : Row) → same_group (group_of_row a) (group_of_row b) ≡ true → (a.param ≡ b.param) ⊎ ((a.code ≡ 150) × (b.code ≡ 150))
unfolding group_of_row
group-param a b h =
    one-group a.code b.code a.param b.param (channel_in_table a.code a.param) (channel_in_table b.code b.param) refl refl
    ((same_group-is (group_of_row a) (group_of_row b)).0 h)

pub group-apart : (a b : Row) → a.param ≢ b.param → (a.code ≡ 150 → b.code ≡ 150 → ⊥) → same_group (group_of_row a) (group_of_row b) ≡ false
group-apart a b n m = by (same_group (group_of_row a) (group_of_row b)) refl
  where
    no : (a.param ≡ b.param) ⊎ ((a.code ≡ 150) × (b.code ≡ 150)) → ⊥
    no (inl e) = n e
    no (inr p) = m p.0 p.1

    by : (t : Bool) → same_group (group_of_row a) (group_of_row b) ≡ t → t ≡ false
    by true e = absurd (no (group-param a b e))
    by false e = refl
