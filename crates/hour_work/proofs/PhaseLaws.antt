-- What the rows of a phase tell of its colour: whether it is green, and that it is yellow.
use Rattle.std.proofs.Common.{◌≡◌, ◌∙◌, inl, inr, ℕ, ◌+◌, ◌≤◌, ℤ, nat_eq, nat_lt, Bool, true, false, not, ◌&&◌, ◌||◌, if◌then◌else◌, List, [], ◌∷◌, Option, Some, None, refl, sym, ap, ap₂, subst, arith}
use Rattle.std.specs.Prelude.{◌==◌}
use Rattle.std.specs.List.{list_any}
use Rattle.std.proofs.lemmas.Bool.{and_parts, cases_Bool, eq-eqb, eqb-true, ltb-true, not-true}
use Rattle.sig_base.specs.declared.values.Row.{Row}
use Rattle.sig_base.proofs.Common.{some_same}
use Rattle.sig_base.proofs.Each.{Each}
use Rattle.event_codes.specs.declared.channels.Channel.{Channel}
use Rattle.event_codes.specs.declared.channels.Kind.{Kind}
use Rattle.event_codes.specs.declared.channels.Kind.TheVariants.{Phase}
use Rattle.event_codes.specs.Channels.{Line as CodeLine, channel_by, channel_in_table, channel_lines, number_of, numbered_channel}
use Rattle.event_codes.proofs.Common.{numbered}
use Rattle.channel_tables.specs.declared.spec.Spec.{Spec}
use Rattle.channel_tables.specs.Spec.{rules_of}
use Rattle.channel_tables.specs.Table.{Line, is_letter, next_by, place_from, place_of}
use Rattle.channel_tables.specs.Tables.{table_of}
use Rattle.channel_tables.specs.Letters.{letter_in_table, letter_with}
use Rattle.channel_tables.specs.PhaseTable.{phase_table, yellow}
use Rattle.reach.specs.Runs.{State, Step}
use Rattle.board.specs.Channels.{letter_in, track}
use Rattle.board.proofs.Tracks.{letter_here, spec_letter}
use Rattle.service_cut.specs.Signs.{code_sign, is_end, is_yellow, sign}
use Rattle.arrival_measures.specs.Green.{green_after, greens}
use Rattle.arrival_measures.specs.Judged.{is_green, phase_channel}
use Rattle.hour_work.proofs.ColourLaws.{Tells, told}

-- ---- the table

abbrev pub all_ok : (ℕ → Bool) → List ℕ → Bool
all_ok ok [] = true
all_ok ok (y ∷ ys) = ok y && all_ok ok ys

any_ok : (ok : ℕ → Bool) (ys : List ℕ) (c : ℕ) → all_ok ok ys ≡ true → list_any (λ y. nat_eq y c) ys ≡ true → ok c ≡ true
any_ok ok [] c all some = absurd (cc)
any_ok ok (y ∷ ys) c all some =
    let parts = and_parts (ok y) (all_ok ok ys) all in
    elim (cases_Bool (nat_eq y c)) [
      | inl is ↦ subst (λ (z : ℕ). ok z ≡ true) (eqb-true y c is) parts.0
      | inr not_here ↦ any_ok ok ys c parts.1 (rw not_here at some)
    ]

letter_is : (o : Option ℕ) (l : ℕ) → is_letter o l ≡ true → o ≡ Some l
letter_is None l e = absurd (cc)
letter_is (Some k) l e = ap (λ (v : ℕ). Some v) (eqb-true k l e)

-- the line that says where a letter leads
record IsLine (Q : Line → Type 0) (signs : List ℕ) (c l d : ℕ) : Type 0 where
  pub line : Line
  pub has : Q line
  pub place : place_of line.sign signs ≡ Some l
  pub legal : list_any (λ y. nat_eq y c) line.legal_in ≡ true
  pub leads : line.to ≡ d

line_of : (Q : Line → Type 0) (signs : List ℕ) (xs : List Line) (c l d : ℕ) → Each Q xs → next_by signs xs c l ≡ Some d → IsLine Q signs c l d
line_of Q signs [] c l d q e = absurd (cc)
line_of Q signs (x ∷ xs) c l d q e = elim (cases_Bool (is_letter (place_of x.sign signs) l && list_any (λ y. nat_eq y c) x.legal_in)) [
  | inl t ↦
      let parts = and_parts (is_letter (place_of x.sign signs) l) (list_any (λ y. nat_eq y c) x.legal_in) t in
      let to : Some x.to ≡ Some d = rw t at e in
      record { line = x; has = q.0; place = letter_is (place_of x.sign signs) l parts.0; legal = parts.1; leads = cc }
  | inr f ↦ line_of Q signs xs c l d q.1 (rw f at e)
]

place_low : (k n : ℕ) (xs : List ℕ) (l : ℕ) → place_from k n xs ≡ Some l → k ≤ l
place_low k n [] l e = absurd (cc)
place_low k n (x ∷ xs) l e = elim (cases_Bool (nat_eq x n)) [
  | inl t ↦ let same : k ≡ l = some_same k l (rw t at e) in omega arith
  | inr f ↦ let more = place_low (k + 1) n xs l (rw f at e) in omega arith
]

-- two signs with one place are one
place_one : (k n m : ℕ) (xs : List ℕ) (l : ℕ) → place_from k n xs ≡ Some l → place_from k m xs ≡ Some l → n ≡ m
place_one k n m [] l e f = absurd (cc)
place_one k n m (x ∷ xs) l e f = elim (cases_Bool (nat_eq x n)) [
  | inl a ↦
      let same : k ≡ l = some_same k l (rw a at e) in
      elim (cases_Bool (nat_eq x m)) [
        | inl b ↦ sym (eqb-true x n a) ∙ eqb-true x m b
        | inr b ↦ let low = place_low (k + 1) m xs l (rw b at f) in absurd (omega arith)
      ]
  | inr a ↦ elim (cases_Bool (nat_eq x m)) [
    | inl b ↦ let same : k ≡ l = some_same k l (rw b at f) in let low = place_low (k + 1) n xs l (rw a at e) in absurd (omega arith)
    | inr b ↦ place_one (k + 1) n m xs l (rw a at e) (rw b at f)
  ]
]

-- ---- the phase of a row

channel_number : (xs : List CodeLine) (code param : ℕ) (channel : Channel) → channel_by xs code param ≡ Some channel → channel.number ≡ number_of channel.kind param
channel_number [] code param channel e = absurd (cc)
channel_number (x ∷ xs) code param channel e = elim (cases_Bool (list_any (λ c. nat_eq c code) x.codes_of)) [
  | inl t ↦ numbered x.kind x.least x.most param channel (rw t at e)
  | inr f ↦ channel_number xs code param channel (rw f at e)
]

pub in_phase : (p : ℕ) → 1 ≤ p → p ≤ 16 → numbered_channel Phase 1 16 p ≡ Some (phase_channel p)
in_phase p low high = elim (cases_Bool (nat_lt p 1)) [
  | inl t ↦ let a = ltb-true p 1 t in absurd (omega arith)
  | inr f ↦ elim (cases_Bool (nat_lt 16 p)) [ inl t ↦ let a = ltb-true 16 p t in absurd (omega arith) | inr g ↦ rw (f, g) refl ]
]

-- ---- green and yellow, by the code

abbrev same_bool : Bool → Bool → Bool
same_bool true b = b
same_bool false b = not b

same_is : (a b : Bool) → same_bool a b ≡ true → a ≡ b
same_is true b e = sym e
same_is false b e = sym (not-true b e)

abbrev green_by : ℕ → Bool → Bool
green_by code g = if code == 1 then true else (if code == 7 || code == 8 then false else g)

abbrev green_ok : ℕ → ℕ → ℕ → Bool
green_ok code to c = same_bool (is_green to) (green_by code (is_green c))

green_lines : Each (λ x. all_ok (green_ok x.sign x.to) x.legal_in ≡ true) phase_table.lines
green_lines = (refl, (refl, (refl, (refl, (refl, (refl, (refl, (refl, (refl, (refl, (refl, (refl, (refl, tt)))))))))))))

abbrev yellow_by : ℕ → Bool → Bool
yellow_by code b = if is_yellow (code_sign code) then true else (if is_end (code_sign code) then false else b)

abbrev pub yellow_ok : ℕ → ℕ → ℕ → Bool
yellow_ok code to c = if is_yellow (code_sign code) then to == yellow else (if is_end (code_sign code) then true else (not (c == yellow) || to == yellow))

pub yellow_lines : Each (λ x. all_ok (yellow_ok x.sign x.to) x.legal_in ≡ true) phase_table.lines
yellow_lines = (refl, (refl, (refl, (refl, (refl, (refl, (refl, (refl, (refl, (refl, (refl, (refl, (refl, tt)))))))))))))

green_code_kept : (code : ℕ) (b : Bool) → (code ≡ 1 → ⊥) → (code ≡ 7 → ⊥) → (code ≡ 8 → ⊥) → green_by code b ≡ b
green_code_kept code b one seven eight = elim (cases_Bool (code == 1)) [
  | inl t ↦ absurd (one (eqb-true code 1 t))
  | inr f ↦ elim (cases_Bool (code == 7)) [
    | inl t ↦ absurd (seven (eqb-true code 7 t))
    | inr g ↦ elim (cases_Bool (code == 8)) [ inl t ↦ absurd (eight (eqb-true code 8 t)) | inr h ↦ rw (f, g, h) refl ]
  ]
]

not_yellow : (a b d e : Bool) → is_yellow (if a then code_sign 1 else (if b then code_sign 7 else (if d then code_sign 9 else (if e then code_sign 4 else code_sign 0)))) ≡ true → ⊥
not_yellow true b d e h = absurd (cc)
not_yellow false true d e h = absurd (cc)
not_yellow false false true e h = absurd (cc)
not_yellow false false false true h = absurd (cc)
not_yellow false false false false h = absurd (cc)

pub yellow_code : (code : ℕ) → is_yellow (code_sign code) ≡ true → code ≡ 8
yellow_code code e = elim (cases_Bool (code == 8)) [
  | inl t ↦ eqb-true code 8 t
  | inr f ↦ absurd (not_yellow (code == 1) (code == 7) ((code == 9) || (code == 10)) ((code == 4) || (code == 5) || (code == 6)) (rw f at e))
]

-- where the phase was yellow it still is, but for an end of yellow
yellow_next : (y e b : Bool) (to c : ℕ) → (if y then to == yellow else (if e then true else (not (c == yellow) || to == yellow))) ≡ true → (b ≡ true → c ≡ yellow) → (if y then true else (if e then false else b)) ≡ true → to ≡ yellow
yellow_next true e b to c okay h after = eqb-true to yellow okay
yellow_next false true b to c okay h after = absurd (cc)
yellow_next false false b to c okay h after = eqb-true to yellow (rw (eq-eqb c yellow (h after)) at okay)

yellow_kept : (y e b : Bool) → y ≡ false → (if y then true else (if e then false else b)) ≡ true → b ≡ true
yellow_kept true e b f h = absurd (cc)
yellow_kept false true b f h = absurd (cc)
yellow_kept false false b f h = h

-- ---- the same by the row

pub sign_own : (p : ℕ) (x : Row) → x.param ≡ p → sign p x ≡ code_sign x.code
unfolding sign
sign_own p x e = rw (eq-eqb x.param p e) refl

pub sign_other : (p : ℕ) (x : Row) → (x.param == p) ≡ false → sign p x ≡ code_sign 0
unfolding sign
sign_other p x f = rw f refl

green_own : (p : ℕ) (x : Row) (g : Bool) → x.param ≡ p → green_after p x g ≡ green_by x.code g
green_own p x g e = rw (eq-eqb x.param p e) refl

green_other : (p : ℕ) (x : Row) (g : Bool) → (x.param == p) ≡ false → green_after p x g ≡ g
green_other p x g f = rw f refl

abbrev pub yellow_after : ℕ → Row → Bool → Bool
yellow_after p x b = if is_yellow (sign p x) then true else (if is_end (sign p x) then false else b)

yellow_own : (p : ℕ) (x : Row) (b : Bool) → x.param ≡ p → yellow_after p x b ≡ yellow_by x.code b
yellow_own p x b e = rw (sign_own p x e) refl

yellow_other : (p : ℕ) (x : Row) (b : Bool) → (x.param == p) ≡ false → yellow_after p x b ≡ b
yellow_other p x b f = rw (sign_other p x f) refl

-- a row 8 ends green
pub yellow_ends : (p : ℕ) (y : Row) (g : Bool) → is_yellow (sign p y) ≡ true → green_after p y g ≡ false
yellow_ends p y g is = elim (cases_Bool (y.param == p)) [
  | inl t ↦
      let number : y.param ≡ p = eqb-true y.param p t in
      let code : y.code ≡ 8 = yellow_code y.code (rw (sign_own p y number) at is) in
      green_own p y g number ∙ ap (λ (c : ℕ). green_by c g) code
  | inr f ↦ absurd (let bad = rw (sign_other p y f) at is in cc)
]

pub greens_told : (p : ℕ) (g : Bool) (xs : List Row) → greens p g xs ≡ told (green_after p) g xs
greens_told p g [] = refl
greens_told p g (x ∷ xs) = greens_told p (green_after p x g) xs

module _ (s : Spec) (p : ℕ) (is : s.channel ≡ phase_channel p) (low : 1 ≤ p) (high : p ≤ 16) where
  -- a legal row is the phase's own, and passes each test that all lines of the table pass
  pub step_ok : (ok : ℕ → ℕ → ℕ → Bool) → Each (λ x. all_ok (ok x.sign x.to) x.legal_in ≡ true) phase_table.lines → (code param l : ℕ) (t : ℤ) (v u : State) → letter_in s code param ≡ Some l → Step (rules_of s) t v l u → (param ≡ p) × (ok code u.colour v.colour ≡ true)
  step_ok ok lines code param l t v u e step =
      let (here, letter) = spec_letter s code param l e in
      let there : channel_in_table code param ≡ Some (phase_channel p) = here ∙ ap (λ (x : Channel). Some x) is in
      let number : p ≡ param = channel_number channel_lines code param (phase_channel p) there in
      let kind : s.channel.kind ≡ Phase = ap (λ (x : Channel). x.kind) is in
      let place : place_of code phase_table.signs ≡ Some l = sym (ap (λ (o : Option Channel). letter_with o code param) there) ∙ letter in
      let goes : next_by phase_table.signs phase_table.lines v.colour l ≡ Some u.colour = subst (λ (k : Kind). next_by (table_of k).signs (table_of k).lines v.colour l ≡ Some u.colour) kind step.0.2 in
      let found = line_of (λ x. all_ok (ok x.sign x.to) x.legal_in ≡ true) phase_table.signs phase_table.lines v.colour l u.colour lines goes in
      let x = found.line in
      let same : x.sign ≡ code = place_one 0 x.sign code phase_table.signs l found.place place in
      let okay : ok x.sign x.to v.colour ≡ true = any_ok (ok x.sign x.to) x.legal_in v.colour found.has found.legal in
      (sym number, subst (λ (n : ℕ). ok n u.colour v.colour ≡ true) same (subst (λ (d : ℕ). ok x.sign d v.colour ≡ true) found.leads okay))

  -- a row of the phase with one of its codes has a letter
  pub no_code : (x : Row) (code l : ℕ) → channel_in_table code p ≡ Some (phase_channel p) → letter_in_table code p ≡ Some l → x.param ≡ p → letter_in s x.code x.param ≡ None → x.code ≡ code → ⊥
  no_code x code l channel letter number none same =
      let own : channel_in_table code p ≡ Some s.channel = channel ∙ ap (λ (y : Channel). Some y) (sym is) in
      let some : letter_in s code p ≡ Some l = letter_here s code p own ∙ letter in
      let bad : Some l ≡ None = sym some ∙ (ap₂ (λ (m : ℕ) (n : ℕ). letter_in s m n) (sym same) (sym number) ∙ none) in
      cc

  green_kept : (x : Row) (b : Bool) → letter_in s x.code x.param ≡ None → green_after p x b ≡ b
  green_kept x b none = elim (cases_Bool (x.param == p)) [
    | inl t ↦
        let number : x.param ≡ p = eqb-true x.param p t in
        let e = in_phase p low high in
        green_own p x b number ∙ green_code_kept x.code b (no_code x 1 1 e (rw e refl) number none) (no_code x 7 2 e (rw e refl) number none) (no_code x 8 3 e (rw e refl) number none)
    | inr f ↦ green_other p x b f
  ]

  pub green_tells : Tells (track s) (green_after p) (λ b c. is_green c ≡ b)
  green_tells = record {
    step = λ x b t v u l e step h.
        let (number, okay) = step_ok green_ok green_lines x.code x.param l t v u e step in
        same_is (is_green u.colour) (green_by x.code (is_green v.colour)) okay ∙ (ap (λ (g : Bool). green_by x.code g) h ∙ sym (green_own p x b number));
    other = λ x b c e h. h ∙ sym (green_kept x b e);
  }

  yellow_stays : (x : Row) (b : Bool) → letter_in s x.code x.param ≡ None → yellow_after p x b ≡ true → b ≡ true
  yellow_stays x b none after = elim (cases_Bool (x.param == p)) [
    | inl t ↦
        let number : x.param ≡ p = eqb-true x.param p t in
        let e = in_phase p low high in
        elim (cases_Bool (is_yellow (code_sign x.code))) [
          | inl y ↦ absurd (no_code x 8 3 e (rw e refl) number none (yellow_code x.code y))
          | inr f ↦ yellow_kept (is_yellow (code_sign x.code)) (is_end (code_sign x.code)) b f (sym (yellow_own p x b number) ∙ after)
        ]
    | inr f ↦ sym (yellow_other p x b f) ∙ after
  ]

  pub yellow_tells : Tells (track s) (yellow_after p) (λ b c. b ≡ true → c ≡ yellow)
  yellow_tells = record {
    step = λ x b t v u l e step h after.
        let (number, okay) = step_ok yellow_ok yellow_lines x.code x.param l t v u e step in
        yellow_next (is_yellow (code_sign x.code)) (is_end (code_sign x.code)) b u.colour v.colour okay h (sym (yellow_own p x b number) ∙ after);
    other = λ x b c e h after. h (yellow_stays x b e after);
  }
