-- A table that fits is a machine.
use Rattle.std.proofs.Common.{◌≡◌, inl, inr, ℕ, ◌<◌, true, nat_eq, nat_lt, ◌&&◌, not, Some, List, [], ◌∷◌, length, arith}
use Rattle.std.specs.List.{list_any}
use Rattle.std.proofs.lemmas.Bool.{and_parts, ltb-true, cases_Bool}
use Rattle.colour_machine.specs.Rules.{IsMachine}
use Rattle.channel_tables.specs.Table.{Line, Table, place_of, is_letter, next_by, is_apart, lines_fit, table_fits, table_rules, AreFloors}

pub stays_below : (n : ℕ) (signs : List ℕ) (xs : List Line) (c l d : ℕ) → lines_fit n signs xs ≡ true → next_by signs xs c l ≡ Some d → d < n
stays_below n signs [] c l d h e = absurd (cc)
stays_below n signs (x ∷ xs) c l d h e =
    let p = and_parts (nat_lt x.to n) (list_any (λ s. nat_eq s x.sign) signs && not (list_any (λ k. not (nat_lt k n)) x.legal_in) && is_apart x xs && lines_fit n signs xs) h in
    let q = and_parts (list_any (λ s. nat_eq s x.sign) signs && not (list_any (λ k. not (nat_lt k n)) x.legal_in) && is_apart x xs) (lines_fit n signs xs) p.1 in
    elim (cases_Bool (is_letter (place_of x.sign signs) l && list_any (λ y. nat_eq y c) x.legal_in)) [
      | inl t ↦ let k = rw t at e in let same : x.to ≡ d = cc in rw (← same) (ltb-true x.to n p.0)
      | inr f ↦ stays_below n signs xs c l d q.1 (rw f at e)
    ]

pub table_laws : (t : Table) (floors : List ℕ) → table_fits t ≡ true → AreFloors floors → IsMachine (table_rules t floors)
table_laws t floors h low =
    let a = and_parts (nat_lt 0 (length t.names)) (nat_lt (length t.names) 17 && (nat_lt (length t.signs) 33 && lines_fit (length t.names) t.signs t.lines)) h in
    let b = and_parts (nat_lt (length t.names) 17) (nat_lt (length t.signs) 33 && lines_fit (length t.names) t.signs t.lines) a.1 in
    let c = and_parts (nat_lt (length t.signs) 33) (lines_fit (length t.names) t.signs t.lines) b.1 in
    let some = ltb-true 0 (length t.names) a.0 in
    let few = ltb-true (length t.names) 17 b.0 in
    let signs = ltb-true (length t.signs) 33 c.0 in
    record {
      some_colour = omega arith;
      few_colours = omega arith;
      few_letters = omega arith;
      stays = λ k l d _ _ e. stays_below (length t.names) t.signs t.lines k l d c.1 e;
      low_floor = λ k _. low k;
    }
