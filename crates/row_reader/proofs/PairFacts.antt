-- Rows without a channel, by their code and parameter.
use Rattle.std.proofs.Common.{◌≡◌, ℕ, Bool, true, false, List, Option, Some, arith, refl, sym, ◌∙◌, if◌then◌else◌}
use Rattle.std.specs.Prelude.{◌==◌, ◌&&◌, cond, nat_lt}
use Rattle.std.specs.declared.cmp.Ordering.TheVariants.{Less, Equal, Greater}
use Rattle.std.specs.Ordering.{is_eq, nat_cmp, ordering_then}
use Rattle.std.proofs.lemmas.Bool.Decides.{nat_tests}
use Rattle.event_codes.specs.declared.channels.Group.{Group}
use Rattle.event_codes.specs.declared.channels.Group.TheVariants.{Of, Alone}
use Rattle.sig_base.specs.declared.values.Row.{Row}
use Rattle.event_codes.specs.Channels.{same_group}
use Rattle.row_reader.specs.Repeats.{group_of_row}
use Rattle.row_reader.specs.Last.{looked_up, pair_cmp}

go : (p q r s : Bool) → (p ≡ true → q ≡ false) → (r ≡ true → s ≡ false)
    → is_eq (ordering_then (cond p Less (cond q Equal Greater)) (cond r Less (cond s Equal Greater))) ≡ (q && s)
go true q r s h k = rw (h refl) refl
go false true true s h k = sym (k refl)
go false true false true h k = refl
go false true false false h k = refl
go false false r s h k = refl

apart : (a c : ℕ) → nat_lt a c ≡ true → (a == c) ≡ false
apart a c e = grind (arith, nat_tests, e)

-- two are equal where both parts are
pair_same : (a b c d : ℕ) → is_eq (ordering_then (nat_cmp a c) (nat_cmp b d)) ≡ ((a == c) && (b == d))
pair_same a b c d = go (nat_lt a c) (a == c) (nat_lt b d) (b == d) (apart a c) (apart b d)

pick : (b c : Bool) (x y : Option Row) → b ≡ c → cond b x y ≡ (if c then x else y)
pick true true x y e = refl
pick true false x y e = cc
pick false true x y e = cc
pick false false x y e = refl

-- the look-ups after a row without a channel was noted
pub noted-alone : (cells : List (Option Row)) (old new : ℕ × ℕ → Option Row) (row : Row) (code param : ℕ) → group_of_row row ≡ Alone code param
    → ((q : ℕ × ℕ) → new q ≡ cond (is_eq (pair_cmp (code, param) q)) (Some row) (old q))
    → (g : Group) → looked_up cells new g ≡ (if same_group (group_of_row row) g then Some row else looked_up cells old g)
unfolding same_group
noted-alone cells old new row code param e u (Of c) = rw e refl
noted-alone cells old new row code param e u (Alone k p) =
    rw e (u (k, p) ∙ pick (is_eq (pair_cmp (code, param) (k, p))) _ (Some row) (old (k, p)) (pair_same code param k p))
