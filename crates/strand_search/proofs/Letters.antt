-- The row of a letter.
use Rattle.std.proofs.Common.{◌≡◌, refl, sym, ap, ◌∙◌, subst, inl, inr, ℕ, zero, suc, ◌+◌, ◌<◌, ◌≤◌, ◌^◌, ℤ, pos, negsuc, ◌<ℤ◌, ◌≤ℤ◌, nat_eq, List, [], ◌∷◌, ◌++◌, length, get_or, take, append_assoc, Option, Some, arith}
use Rattle.std.specs.List.{list_any}
use Rattle.std.proofs.lemmas.Int.{ints}
use Rattle.std.proofs.lemmas.Bool.{cases_Bool, eqb-true}
use Rattle.std.proofs.lemmas.List.{take_more}
use Rattle.event_codes.specs.declared.channels.Channel.{Channel}
use Rattle.event_codes.specs.declared.channels.Kind.{Kind}
use Rattle.event_codes.specs.declared.channels.Kind.TheVariants.{Phase, Ped, Overlap, Detector, PedDetector, PreemptInput, PreemptService, Coordination}
use Rattle.event_codes.specs.Channels.{Line, channel_by, channel_lines, number_of}
use Rattle.colour_machine.specs.Rules.{Rules}
use Rattle.sig_base.specs.declared.values.Row.{Row}
use Rattle.sig_base.proofs.Common.{some_same}
use Rattle.event_codes.proofs.Common.{numbered}
use Rattle.channel_tables.specs.declared.spec.Spec.{Spec}
use Rattle.channel_tables.specs.Letters.{IsNumber, letter_in_table, letter_with, sign_of}
use Rattle.channel_tables.specs.Table.{place_from, place_of}
use Rattle.channel_tables.specs.Tables.{table_of}
use Rattle.channel_tables.proofs.Rows.{letter_row}
use Rattle.board.specs.Channels.{letter_in}
use Rattle.board.specs.History.{Track}
use Rattle.board.proofs.Tracks.{letter_here}
use Rattle.gap_ways.specs.declared.states.Fill.{Fill}
use Rattle.strand_search.specs.Fillings.{AreFillRows}
use Rattle.strand_search.specs.Events.{AddsLetters, AreLettersOf}
use Rattle.strand_search.proofs.Pieces.{fill_rows_join}

-- ---- the sign at a letter's place
place_low : (k n l : ℕ) (xs : List ℕ) → place_from k n xs ≡ Some l → k ≤ l
place_low k n l [] e = absurd (cc)
place_low k n l (x ∷ xs) e = elim (cases_Bool (nat_eq x n)) [
  | inl t ↦ let here : Some k ≡ Some l = rw t at e in let same : k ≡ l = cc in omega arith
  | inr f ↦ let q = place_low (k + 1) n l xs (rw f at e) in omega arith
]

sign_from : (k n l : ℕ) (xs : List ℕ) → place_from k n xs ≡ Some (k + l) → get_or xs l 0 ≡ n
sign_from k n l [] e = absurd (cc)
sign_from k n zero (x ∷ xs) e = elim (cases_Bool (nat_eq x n)) [
  | inl t ↦ eqb-true x n t
  | inr f ↦ let low = place_low (k + 1) n (k + 0) xs (rw f at e) in absurd (omega arith)
]
sign_from k n (suc l) (x ∷ xs) e = elim (cases_Bool (nat_eq x n)) [
  | inl t ↦ let here : Some k ≡ Some (k + suc l) = rw t at e in let same = some_same k (k + suc l) here in absurd (omega arith)
  | inr f ↦ let sum : k + suc l ≡ k + 1 + l = omega arith in sign_from (k + 1) n l xs (rw f at e ∙ ap (λ (z : ℕ). Some z) sum)
]

by_lines : (xs : List Line) (code param : ℕ) (c : Channel) → channel_by xs code param ≡ Some c → c.number ≡ number_of c.kind param
by_lines [] code param c e = absurd (cc)
by_lines (x ∷ xs) code param c e = elim (cases_Bool (list_any (λ s. nat_eq s code) x.codes_of)) [
  | inl t ↦ numbered x.kind x.least x.most param c (rw t at e)
  | inr f ↦ by_lines xs code param c (rw f at e)
]

-- the coordination apart, a row's parameter is its channel's number, and its sign its code
plain : (kind : Kind) (code param : ℕ) → (kind ≡ Coordination → ⊥) → (number_of kind param ≡ param) × (sign_of kind code param ≡ code)
plain Phase code param other = (refl, refl)
plain Ped code param other = (refl, refl)
plain Overlap code param other = (refl, refl)
plain Detector code param other = (refl, refl)
plain PedDetector code param other = (refl, refl)
plain PreemptInput code param other = (refl, refl)
plain PreemptService code param other = (refl, refl)
plain Coordination code param other = absurd (other refl)

pub letter_at : (d : Spec) (l sign : ℕ) → IsNumber d.channel.kind d.channel.number → (d.channel.kind ≡ Coordination → ⊥) → l < length (table_of d.channel.kind).signs → sign ≡ get_or (table_of d.channel.kind).signs l 0 → letter_in d sign d.channel.number ≡ Some l
letter_at d l sign number other few is =
    let (code, param, byte, two, here, letter) = letter_row d.channel l number few in
    let (same_number, same_sign) = plain d.channel.kind code param other in
    let with : letter_in_table code param ≡ letter_with (Some d.channel) code param = ap (λ (o : Option Channel). letter_with o code param) here in
    let place : place_of (sign_of d.channel.kind code param) (table_of d.channel.kind).signs ≡ Some (0 + l) = sym with ∙ (letter ∙ ap (λ (z : ℕ). Some z) (omega arith)) in
    let sign_is : get_or (table_of d.channel.kind).signs l 0 ≡ sign_of d.channel.kind code param = sign_from 0 (sign_of d.channel.kind code param) l (table_of d.channel.kind).signs place in
    let code_is : sign ≡ code = is ∙ (sign_is ∙ same_sign) in
    let param_is : d.channel.number ≡ param = by_lines channel_lines code param d.channel here ∙ same_number in
    subst (λ (z : ℕ). letter_in d z d.channel.number ≡ Some l) (sym code_is) (subst (λ (z : ℕ). letter_in d code z ≡ Some l) (sym param_is) (letter_here d code param here ∙ letter))

-- ---- lists of letters
pub letter_fits : (m : Rules) (xs : List Fill) (i : ℕ) (d : Fill) → i < length xs → AreLettersOf m xs → ((get_or xs i d).letter < m.letters) × (pos 0 ≤ℤ (get_or xs i d).at) × ((get_or xs i d).at <ℤ pos (2 ^ 32))
letter_fits m [] i d lt a = absurd (omega arith)
letter_fits m (x ∷ xs) zero d lt (l, p, q, a) = (l, p, q)
letter_fits m (x ∷ xs) (suc i) d lt (l, p, q, a) = letter_fits m xs i d (omega arith) a

pub letters_more : (k : Track) (xs : List Fill) (i : ℕ) (d : Fill) (old rows new : List Row) (r : Row) → i < length xs → (get_or xs i d).at ≡ pos r.at → k.letter r.code r.param ≡ Some (get_or xs i d).letter → new ≡ rows ++ r ∷ [] → AddsLetters k (take i xs) old rows → AddsLetters k (take (i + 1) xs) old new
letters_more k xs i d old rows new r lt at letter e (qs, q, a) =
    let all = fill_rows_join k (take i xs) (get_or xs i d ∷ []) qs (r ∷ []) a (at, letter, tt) in
    (qs ++ r ∷ [], e ∙ (ap (λ (z : List Row). z ++ r ∷ []) q ∙ append_assoc old qs (r ∷ [])), subst (λ (z : List Fill). AreFillRows k z (qs ++ r ∷ [])) (sym (take_more xs i d lt)) all)

-- a tenth of a window as it is kept in a row
pub natural : (e : ℤ) → pos 0 ≤ℤ e → e <ℤ pos (2 ^ 32) → (n : ℕ) × (e ≡ pos n) × (n < 2 ^ 32)
natural (pos n) low high = (n, refl, omega (arith, ints))
natural (negsuc n) low high = absurd (omega (arith, ints))
