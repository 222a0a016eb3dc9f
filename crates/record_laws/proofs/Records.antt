-- What one record of a log file says.
use Rattle.std.proofs.Common.{inl, inr, ◌≡◌, ◌≢◌, ℕ, ◌+◌, ◌*◌, ◌<◌, ◌≤◌, Bool, true, false, List, [], ◌∷◌, length, Option, Some, None, Result, Ok, Err, refl, sym, ap, subst, ◌∙◌, arith, if◌then◌else◌}
use Rattle.std.specs.Prelude.{◌==◌, ◌&&◌, nat_le, nat_lt, ℤ, pos, negsuc}
use Rattle.std.specs.Str.{bytes_eq}
use Rattle.std.proofs.lemmas.Bool.{eqb-true, le-leb, leb-true, ltb-true, ltb-false}
use Rattle.std.proofs.lemmas.Bool.Decides.{nat_tests}
use Rattle.std.proofs.lemmas.Int.{ints}
use Rattle.std.proofs.lemmas.Slice.Eq.{bytes_eq-Decides}
use Rattle.csv.specs.Records.{field_at}
use Rattle.sig_base.proofs.Common.{is_less}
use Rattle.sig_base.specs.declared.values.Row.{Row}
use Rattle.row_reader.specs.declared.row_error.RowError.{RowError}
use Rattle.row_reader.specs.declared.row_error.RowError.TheVariants.{TooManyRows, Fields, WrongSignal, Stamp, OutsideHour, Code, Param, Memory}
use Rattle.row_reader.specs.Number.{number_of}
use Rattle.row_reader.specs.Rows.{Wanted, at_in_hour, field, on_some, record_row, row_of}
use Rattle.row_reader.specs.Stamp.{stamp_in}
use Rattle.row_reader.specs.Trim.{trimmed}
use Rattle.record_laws.specs.Records.{AreFields, Fails, GivesRow, IsAt, IsOfHour, IsRefused, RecordsAreRefused, RecordsGiveRows}

-- ---- the hour

-- what is known of a tenth by its place in the hour
abbrev IsPlaced : ℕ → ℤ → Option ℕ → Type 0
IsPlaced hour z (Some at) = (z ≡ pos at) × IsOfHour hour z
IsPlaced hour z None = ¬ IsOfHour hour z

placed : (hour : ℕ) (z : ℤ) → IsPlaced hour z (at_in_hour hour z)
placed hour (pos n) = go (nat_le (36000 * hour) n) (nat_lt n (36000 * hour + 36000)) refl refl
  where
    go : (a b : Bool) → nat_le (36000 * hour) n ≡ a → nat_lt n (36000 * hour + 36000) ≡ b → IsPlaced hour (pos n) (if a && b then Some n else None)
    go true true p q =
        let low : 36000 * hour ≤ n = leb-true _ _ p in
        let high : n < 36000 * hour + 36000 = ltb-true _ _ q in
        (refl, (omega (arith, ints), omega (arith, ints)))
    go true false p q = λ h. let high : 36000 * hour + 36000 ≤ n = ltb-false _ _ q in omega (arith, ints, h.1)
    go false b p q = λ h.
        let low : 36000 * hour ≤ n = omega (arith, ints, h.0) in
        let bad = sym (le-leb _ _ low) ∙ p in cc
placed hour (negsuc n) = λ h. omega (arith, ints, h.0)

in_place : (hour at : ℕ) → IsOfHour hour (pos at) → at_in_hour hour (pos at) ≡ Some at
in_place hour at h =
    let low : 36000 * hour ≤ at = omega (arith, ints, h.0) in
    let high : at < 36000 * hour + 36000 = omega (arith, ints, h.1) in
    rw (le-leb (36000 * hour) at low, is_less at (36000 * hour + 36000) high) refl

out_of_place : (hour : ℕ) (z : ℤ) → (¬ IsOfHour hour z) → at_in_hour hour z ≡ None
out_of_place hour z out = go (at_in_hour hour z) (placed hour z)
  where
    go : (o : Option ℕ) → IsPlaced hour z o → o ≡ None
    go None p = refl
    go (Some at) p = absurd (out p.1)

-- ---- the tests one after the other

-- the row of a tenth, a code and a parameter, or the refusal where the parameter is none
abbrev param_on : ℕ → Option ℕ → ℕ → ℕ → Result Row RowError
param_on number param at code = on_some param (Param number) (λ param. Ok (record { at = at; code = code; param = param }))

-- the same, where the code may be none
abbrev code_on : ℕ → Option ℕ → Option ℕ → ℕ → Result Row RowError
code_on number code param at = on_some code (Code number) (λ code. param_on number param at code)

-- the same, where the tenth may lie outside the hour
abbrev hour_on : ℕ → Option ℕ → Option ℕ → Option ℕ → Result Row RowError
hour_on number at code param = on_some at (OutsideHour number) (λ at. code_on number code param at)

-- the same, where the stamp may be none
abbrev stamp_on : ℕ → Option ℤ → (ℤ → Option ℕ) → Option ℕ → Option ℕ → Result Row RowError
stamp_on number stamp hour code param = on_some stamp (Stamp number) (λ tenth. hour_on number (hour tenth) code param)

-- the same, where the signal may be another one
abbrev chain : ℕ → Bool → Option ℤ → (ℤ → Option ℕ) → Option ℕ → Option ℕ → Result Row RowError
chain number same stamp hour code param = if same then stamp_on number stamp hour code param else Err (WrongSignal number)

module _ (number : ℕ) (same : Bool) (stamp : Option ℤ) (hour : ℤ → Option ℕ) (code param : Option ℕ) where
  chain_signal : same ≡ false → chain number same stamp hour code param ≡ Err (WrongSignal number)
  chain_signal a = rw a refl

  chain_stamp : same ≡ true → stamp ≡ None → chain number same stamp hour code param ≡ Err (Stamp number)
  chain_stamp a b = rw (a, b) refl

  chain_hour : (z : ℤ) → same ≡ true → stamp ≡ Some z → hour z ≡ None → chain number same stamp hour code param ≡ Err (OutsideHour number)
  chain_hour z a b c = rw (a, b, c) refl

  chain_code : (z : ℤ) (at : ℕ) → same ≡ true → stamp ≡ Some z → hour z ≡ Some at → code ≡ None → chain number same stamp hour code param ≡ Err (Code number)
  chain_code z at a b c d = rw (a, b, c, d) refl

  chain_param : (z : ℤ) (at value : ℕ) → same ≡ true → stamp ≡ Some z → hour z ≡ Some at → code ≡ Some value → param ≡ None → chain number same stamp hour code param ≡ Err (Param number)
  chain_param z at value a b c d e = rw (a, b, c, d, e) refl

  chain_row : (z : ℤ) (row : Row) → same ≡ true → stamp ≡ Some z → hour z ≡ Some row.at → code ≡ Some row.code → param ≡ Some row.param → chain number same stamp hour code param ≡ Ok row
  chain_row z row a b c d e = rw (a, b, c, d, e) refl

-- ---- four fields

differs : (a b : List ℕ) → a ≢ b → bytes_eq a b ≡ false
differs a b other = go (bytes_eq a b) refl
  where
    go : (t : Bool) → bytes_eq a b ≡ t → t ≡ false
    go true e = absurd (other ((bytes_eq-Decides a b).0 e))
    go false e = refl

four_same : {A : Type 0} (f : List ℕ → List ℕ → List ℕ → List ℕ → A) (a b c d w x y z : List ℕ) → (a ∷ b ∷ c ∷ d ∷ []) ≡ (w ∷ x ∷ y ∷ z ∷ []) → f a b c d ≡ f w x y z
four_same f a b c d w x y z e = cc

-- a record of four fields is judged by them
by_fields : (w : Wanted) (headers number : ℕ) (fields : List (List ℕ)) (signal stamp code param : List ℕ) → (number == headers + 400001) ≡ false → AreFields fields signal stamp code param → record_row w headers number fields ≡ row_of w number signal stamp code param
unfolding field_at
by_fields w headers number [] signal stamp code param room four = absurd (cc)
by_fields w headers number (a ∷ []) signal stamp code param room four = absurd (cc)
by_fields w headers number (a ∷ b ∷ []) signal stamp code param room four = absurd (cc)
by_fields w headers number (a ∷ b ∷ c ∷ []) signal stamp code param room four = absurd (cc)
by_fields w headers number (a ∷ b ∷ c ∷ d ∷ []) signal stamp code param room four =
    rw room (four_same (row_of w number) (trimmed a) (trimmed b) (trimmed c) (trimmed d) signal stamp code param four)
by_fields w headers number (a ∷ b ∷ c ∷ d ∷ e ∷ es) signal stamp code param room four = absurd (cc)

four_fields : (fields : List (List ℕ)) → length fields ≡ 4 → AreFields fields (field fields 0) (field fields 1) (field fields 2) (field fields 3)
unfolding field_at
four_fields [] e = absurd (omega arith)
four_fields (a ∷ []) e = absurd (omega arith)
four_fields (a ∷ b ∷ []) e = absurd (omega arith)
four_fields (a ∷ b ∷ c ∷ []) e = absurd (omega arith)
four_fields (a ∷ b ∷ c ∷ d ∷ []) e = refl
four_fields (a ∷ b ∷ c ∷ d ∷ x ∷ xs) e = absurd (omega arith)

-- ---- what comes out of the tests

-- what the outcome says of the record, where there is room
abbrev IsTold : Wanted → ℕ → List (List ℕ) → Result Row RowError → Type 0
IsTold w number fields (Ok row) = GivesRow w fields row
IsTold w number fields (Err error) = Fails w number fields error

module _ (w : Wanted) (number : ℕ) (fields : List (List ℕ)) (code param : List ℕ) where
  told_param : (at value : ℕ) (o : Option ℕ) → IsAt w fields (pos at) code param → number_of 1 9 255 code ≡ Some value → number_of 1 9 65535 param ≡ o
      → IsTold w number fields (param_on number o at value)
  told_param at value None is c e = (refl, (code, param, pos at, value, is, c, e))
  told_param at value (Some x) is c e = record { code = code; param = param; at_is = is; code_is = c; param_is = e }

  told_code : (at : ℕ) (o : Option ℕ) → IsAt w fields (pos at) code param → number_of 1 9 255 code ≡ o → IsTold w number fields (code_on number o (number_of 1 9 65535 param) at)
  told_code at None is e = (refl, (code, param, pos at, is, e))
  told_code at (Some value) is e = told_param at value (number_of 1 9 65535 param) is e refl

  told_hour : (stamp : List ℕ) (z : ℤ) (o : Option ℕ) → AreFields fields w.signal stamp code param → stamp_in w.window stamp ≡ Some z → IsPlaced w.hour z o
      → IsTold w number fields (hour_on number o (number_of 1 9 255 code) (number_of 1 9 65535 param))
  told_hour stamp z None four e out = (refl, (stamp, code, param, z, four, e, out))
  told_hour stamp z (Some at) four e is =
      let here : IsAt w fields z code param = record { stamp = stamp; four = four; stamp_is = e; hour = is.1 } in
      told_code at (number_of 1 9 255 code) (subst (λ (y : ℤ). IsAt w fields y code param) is.0 here) refl

  told_stamp : (stamp : List ℕ) (o : Option ℤ) → AreFields fields w.signal stamp code param → stamp_in w.window stamp ≡ o
      → IsTold w number fields (stamp_on number o (at_in_hour w.hour) (number_of 1 9 255 code) (number_of 1 9 65535 param))
  told_stamp stamp None four e = (refl, (stamp, code, param, four, e))
  told_stamp stamp (Some z) four e = told_hour stamp z (at_in_hour w.hour z) four e (placed w.hour z)

  told_fields : (signal stamp : List ℕ) → AreFields fields signal stamp code param → IsTold w number fields (row_of w number signal stamp code param)
  told_fields signal stamp four = go (bytes_eq signal w.signal) refl
    where
      go : (b : Bool) → bytes_eq signal w.signal ≡ b → IsTold w number fields (chain number b (stamp_in w.window stamp) (at_in_hour w.hour) (number_of 1 9 255 code) (number_of 1 9 65535 param))
      go true e = told_stamp stamp (stamp_in w.window stamp) (subst (λ (x : List ℕ). AreFields fields x stamp code param) ((bytes_eq-Decides signal w.signal).0 e) four) refl
      go false e = (refl, (signal, stamp, code, param, four, λ same. let bad = sym ((bytes_eq-Decides signal w.signal).1 same) ∙ e in cc))

-- what the outcome says of the record
abbrev pub Outcome : Wanted → ℕ → ℕ → List (List ℕ) → Result Row RowError → Type 0
Outcome w rows number fields (Ok row) = (rows ≢ 400000) × GivesRow w fields row
Outcome w rows number fields (Err error) = IsRefused w rows number fields error

with_room : (w : Wanted) (rows number : ℕ) (fields : List (List ℕ)) (r : Result Row RowError) → rows ≢ 400000 → IsTold w number fields r → Outcome w rows number fields r
with_room w rows number fields (Ok row) room told = (room, told)
with_room w rows number fields (Err error) room told = inr (room, told)

module _ (w : Wanted) (headers rows number : ℕ) (fields : List (List ℕ)) (counted : number ≡ headers + rows + 1) where
  pub record_told : Outcome w rows number fields (record_row w headers number fields)
  record_told = go (number == headers + 400001) refl
    where
      sized : (b : Bool) → (length fields == 4) ≡ b → IsTold w number fields (if b then row_of w number (field fields 0) (field fields 1) (field fields 2) (field fields 3) else Err (Fields number))
      sized true e = told_fields w number fields (field fields 2) (field fields 3) (field fields 0) (field fields 1) (four_fields fields (eqb-true _ _ e))
      sized false e = (refl, grind (arith, nat_tests))

      go : (b : Bool) → (number == headers + 400001) ≡ b → Outcome w rows number fields (if b then Err TooManyRows else (if length fields == 4 then row_of w number (field fields 0) (field fields 1) (field fields 2) (field fields 3) else Err (Fields number)))
      go true e =
          let full : number ≡ headers + 400001 = eqb-true _ _ e in
          inl (omega arith, refl)
      go false e =
          let not_full : number ≢ headers + 400001 = grind (arith, nat_tests) in
          let room : rows ≢ 400000 = λ full. not_full (omega arith) in
          with_room w rows number fields _ room (sized (length fields == 4) refl)

  full_test : rows ≡ 400000 → (number == headers + 400001) ≡ true
  full_test full = let n : number ≡ headers + 400001 = omega arith in grind (arith, nat_tests)

  room_test : rows ≢ 400000 → (number == headers + 400001) ≡ false
  room_test room = let n : number ≢ headers + 400001 = λ e. room (omega arith) in grind (arith, nat_tests)

  -- the record by its fields
  judged : rows ≢ 400000 → (signal stamp code param : List ℕ) → AreFields fields signal stamp code param
      → record_row w headers number fields ≡ chain number (bytes_eq signal w.signal) (stamp_in w.window stamp) (at_in_hour w.hour) (number_of 1 9 255 code) (number_of 1 9 65535 param)
  judged room signal stamp code param four = by_fields w headers number fields signal stamp code param (room_test room) four

  same_signal : bytes_eq w.signal w.signal ≡ true
  same_signal = (bytes_eq-Decides w.signal w.signal).1 refl

  gives : rows ≢ 400000 → (row : Row) → GivesRow w fields row → record_row w headers number fields ≡ Ok row
  gives room row h =
      let a = h.at_is in
      judged room w.signal a.stamp h.code h.param a.four
      ∙ chain_row number (bytes_eq w.signal w.signal) (stamp_in w.window a.stamp) (at_in_hour w.hour) (number_of 1 9 255 h.code) (number_of 1 9 65535 h.param) (pos row.at) row same_signal a.stamp_is (in_place w.hour row.at a.hour) h.code_is h.param_is

  -- a tenth of the hour has a place
  place : (z : ℤ) → IsOfHour w.hour z → (at : ℕ) × (at_in_hour w.hour z ≡ Some at)
  place z of_hour = go (at_in_hour w.hour z) (placed w.hour z)
    where
      go : (o : Option ℕ) → IsPlaced w.hour z o → (at : ℕ) × (o ≡ Some at)
      go None out = absurd (out of_hour)
      go (Some at) is = (at, refl)

  fails : rows ≢ 400000 → (error : RowError) → Fails w number fields error → record_row w headers number fields ≡ Err error
  fails room (Fields n) h =
      let size : (length fields == 4) ≡ false = grind (arith, nat_tests, h.1) in
      rw (room_test room, size) (ap (λ (x : ℕ). Err (Fields x)) (sym h.0))
  fails room (WrongSignal n) (at, (signal, stamp, code, param, four, other)) =
      judged room signal stamp code param four ∙ chain_signal number (bytes_eq signal w.signal) (stamp_in w.window stamp) (at_in_hour w.hour) (number_of 1 9 255 code) (number_of 1 9 65535 param) (differs signal w.signal other) ∙ ap (λ (x : ℕ). Err (WrongSignal x)) (sym at)
  fails room (Stamp n) (at, (stamp, code, param, four, none)) =
      judged room w.signal stamp code param four ∙ chain_stamp number (bytes_eq w.signal w.signal) (stamp_in w.window stamp) (at_in_hour w.hour) (number_of 1 9 255 code) (number_of 1 9 65535 param) same_signal none ∙ ap (λ (x : ℕ). Err (Stamp x)) (sym at)
  fails room (OutsideHour n) (at, (stamp, code, param, z, four, is, out)) =
      judged room w.signal stamp code param four ∙ chain_hour number (bytes_eq w.signal w.signal) (stamp_in w.window stamp) (at_in_hour w.hour) (number_of 1 9 255 code) (number_of 1 9 65535 param) z same_signal is (out_of_place w.hour z out) ∙ ap (λ (x : ℕ). Err (OutsideHour x)) (sym at)
  fails room (Code n) (at, (code, param, z, is, none)) =
      let p = place z is.hour in
      judged room w.signal is.stamp code param is.four ∙ chain_code number (bytes_eq w.signal w.signal) (stamp_in w.window is.stamp) (at_in_hour w.hour) (number_of 1 9 255 code) (number_of 1 9 65535 param) z p.0 same_signal is.stamp_is p.1 none ∙ ap (λ (x : ℕ). Err (Code x)) (sym at)
  fails room (Param n) (at, (code, param, z, value, is, some, none)) =
      let p = place z is.hour in
      judged room w.signal is.stamp code param is.four ∙ chain_param number (bytes_eq w.signal w.signal) (stamp_in w.window is.stamp) (at_in_hour w.hour) (number_of 1 9 255 code) (number_of 1 9 65535 param) z p.0 value same_signal is.stamp_is p.1 some none ∙ ap (λ (x : ℕ). Err (Param x)) (sym at)
  fails room TooManyRows h = absurd h
  fails room Memory h = absurd h

  refused : (error : RowError) → IsRefused w rows number fields error → record_row w headers number fields ≡ Err error
  refused error (inl q) = rw (full_test q.0) (ap (λ (x : RowError). Err x) (sym q.1))
  refused error (inr q) = fails q.0 error q.1

  -- the record has the outcome that says what holds of it
  pub record_is : (r : Result Row RowError) → Outcome w rows number fields r → record_row w headers number fields ≡ r
  record_is (Ok row) h = gives h.0 row h.1
  record_is (Err error) h = refused error h

pub rows_given : RecordsGiveRows
rows_given w headers rows fields row = (
  λ e. subst (λ (r : Result Row RowError). Outcome w rows (headers + rows + 1) fields r) e (record_told w headers rows (headers + rows + 1) fields refl),
  λ h. record_is w headers rows (headers + rows + 1) fields refl (Ok row) h,
)

pub rows_refused : RecordsAreRefused
rows_refused w headers rows fields error = (
  λ e. subst (λ (r : Result Row RowError). Outcome w rows (headers + rows + 1) fields r) e (record_told w headers rows (headers + rows + 1) fields refl),
  λ h. record_is w headers rows (headers + rows + 1) fields refl (Err error) h,
)
