-- What the file of an hour gives are rows of that hour, whatever its bytes.
use Rattle.std.proofs.Common.{◌≡◌, ◌≢◌, ◌∙◌, ◌⊎◌, inl, inr, ℕ, zero, suc, ℤ, pos, negsuc, ◌+◌, ◌*◌, ◌<◌, ◌≤◌, Bool, true, false, if◌then◌else◌, nat_le, nat_lt, List, [], ◌∷◌, ◌++◌, length, take, drop, Option, Some, None, Result, Ok, Err, refl, sym, ap, subst, arith, append_assoc, append-nil, length-append}
use Rattle.std.specs.Prelude.{◌==◌, ◌&&◌}
use Rattle.std.specs.Str.{bytes_eq}
use Rattle.std.specs.Int.{w32, from_be_bytes}
use Rattle.std.proofs.lemmas.Bool.{and_parts, eqb-true, ltb-true, ltb-false}
use Rattle.std.proofs.lemmas.Bool.Decides.{nat_tests}
use Rattle.sig_base.specs.HourRows.{AreRowsOf, RiseIn, Shown}
use Rattle.sig_base.specs.Window.{Span}
use Rattle.sig_base.specs.declared.values.Row.{Row}
use Rattle.row_reader.specs.declared.row_error.RowError.{RowError}
use Rattle.row_reader.specs.declared.row_error.RowError.TheVariants as log_fault
use Rattle.row_reader.specs.Number.{number_of}
use Rattle.row_reader.specs.Order.{AreWithin, in_row_order, rows_from}
use Rattle.row_reader.specs.Order.{rows_at as rows_of_tenth}
use Rattle.row_reader.specs.Repeats.{IsPartOf, is_repeat, without_repeats}
use Rattle.row_reader.specs.Rows.{Wanted, at_in_hour, field, good_rows, is_header, on_row, on_rows, on_some, record_row, row_of, rows_after, rows_of, shown_of}
use Rattle.row_reader.specs.Stamp.{stamp_in}
use Rattle.row_reader.proofs.OrderFacts.{rows_from-rise_in}
use Rattle.row_reader.proofs.ReadFacts.{within-more}
use Rattle.row_reader.proofs.RepeatFacts.{kept-count, kept-part}
use Rattle.hour_pack.specs.declared.pack_error.PackError.{PackError}
use Rattle.hour_pack.specs.declared.pack_error.PackError.TheVariants as pack_fault
use Rattle.hour_pack.specs.Reading.{◌>>=◌, after_head, at_end, code_at, count_at, few_rows, fresh, hour_rows, number_at, param_at, reading, row_at, rows_at, tenth_at, tenth_by}
use Rattle.hour_pack.proofs.Bytes.{bind_ok, chosen, ok_is}
use Rattle.hour_pack.proofs.OrderFacts.{rise-wider}

-- the rows are of this hour
abbrev pub IsShownOf : ℕ → Shown → Type 0
IsShownOf hour shown = (shown.hour ≡ hour) × AreRowsOf hour shown.rows

no_value : {A : Type 0} (e : PackError) (x : A) → Err e ≡ Ok x → ⊥
no_value e x h = cc

-- ---- a packed hour

tenth_in : (row to last : ℕ) (bytes : List ℕ) (p : ℕ × List ℕ) → tenth_at row to last bytes ≡ Ok p → (last ≤ p.0) × (p.0 < to)
unfolding tenth_at
tenth_in row to last bytes p e =
    let a = bind_ok (number_at row bytes) (tenth_by row to last) p e in
    elim (chosen (nat_lt (last + a.0.0) to) (Ok (last + a.0.0, a.0.1)) (Err (pack_fault.Row row)) (Ok p) a.2) [
      | inl q ↦
          let lt : last + a.0.0 < to = ltb-true _ _ q.0 in
          let low : last ≤ last + a.0.0 = omega arith in
          subst (λ (x : ℕ × List ℕ). (last ≤ x.0) × (x.0 < to)) (ok_is (last + a.0.0, a.0.1) p q.1) (low, lt)
      | inr q ↦ absurd (no_value (pack_fault.Row row) p q.1)
    ]

abbrev made_row : ℕ → ℕ → ℕ → Row
made_row at code param = record { at = at; code = code; param = param }

row_is : (to last : ℕ) (p q : Row × List ℕ) → p ≡ q → (last ≤ p.0.at) × (p.0.at < to) → (last ≤ q.0.at) × (q.0.at < to)
row_is to last p q e h = rw (← e) h

row_in : (to last : ℕ) (kept : List Row) (bytes : List ℕ) (p : Row × List ℕ) → row_at to last kept bytes ≡ Ok p → (last ≤ p.0.at) × (p.0.at < to)
unfolding row_at
row_in to last kept bytes p e =
    let place : ℕ = length kept + 1 in
    let a = bind_ok (tenth_at place to last bytes) (λ at. code_at at.1 >>= λ code. param_at place code.1 >>= λ param. fresh kept (made_row at.0 code.0 param.0) param.1) p e in
    let b = bind_ok (code_at a.0.1) (λ code. param_at place code.1 >>= λ param. fresh kept (made_row a.0.0 code.0 param.0) param.1) p a.2 in
    let c = bind_ok (param_at place b.0.1) (λ param. fresh kept (made_row a.0.0 b.0.0 param.0) param.1) p b.2 in
    let made : Row = made_row a.0.0 b.0.0 c.0.0 in
    elim (chosen (is_repeat kept made) (Err (pack_fault.Row place)) (Ok (made, c.0.1)) (Ok p) c.2) [
      | inl q ↦ absurd (no_value (pack_fault.Row place) p q.1)
      | inr q ↦ row_is to last (made, c.0.1) p (ok_is (made, c.0.1) p q.1) (tenth_in place to last bytes a.0 a.1)
    ]

-- the rows behind those that are kept
record MoreRows (left to last : ℕ) (kept rows : List Row) : Type 0 where
  pub more : List Row
  pub all : rows ≡ kept ++ more
  pub count : length more ≡ left
  pub rise : RiseIn last to more

more_rows : (left to last : ℕ) (kept : List Row) (bytes : List ℕ) (p : List Row × List ℕ) → rows_at left to last kept bytes ≡ Ok p → MoreRows left to last kept p.0
unfolding rows_at
more_rows zero to last kept bytes p e = subst (λ (x : List Row × List ℕ). MoreRows 0 to last kept x.0) (ok_is (kept, bytes) p e) (record {
  more = [];
  all = sym (append-nil kept);
  count = refl;
  rise = tt;
})
more_rows (suc left) to last kept bytes p e =
    let a = bind_ok (row_at to last kept bytes) (λ row. rows_at left to row.0.at (kept ++ row.0 ∷ []) row.1) p e in
    let first = row_in to last kept bytes a.0 a.1 in
    let others = more_rows left to a.0.0.at (kept ++ a.0.0 ∷ []) a.0.1 p a.2 in
    record {
      more = a.0.0 ∷ others.more;
      all = others.all ∙ append_assoc kept (a.0.0 ∷ []) others.more;
      count = ap suc others.count;
      rise = (first.0, first.1, others.rise);
    }

count_few : (bytes : List ℕ) (p : ℕ × List ℕ) → count_at bytes ≡ Ok p → p.0 ≤ 400000
unfolding count_at
count_few bytes p e =
    let found : ℕ × List ℕ = (from_be_bytes w32 (take 4 bytes), drop 4 bytes) in
    elim (chosen (nat_lt (length bytes) 4) (Err pack_fault.Short) (few_rows found) (Ok p) e) [
      | inl q ↦ absurd (no_value pack_fault.Short p q.1)
      | inr q ↦ elim (chosen (nat_lt 400000 found.0) (Err pack_fault.TooManyRows) (Ok found) (Ok p) q.1) [
        | inl r ↦ absurd (no_value pack_fault.TooManyRows p r.1)
        | inr r ↦
            let le : found.0 ≤ 400000 = ltb-false _ _ r.0 in
            subst (λ (x : ℕ × List ℕ). x.0 ≤ 400000) (ok_is found p r.1) le
      ]
    ]

hour_rows_are : (hour : ℕ) (bytes : List ℕ) (rows : List Row) → hour < 744 → hour_rows hour bytes ≡ Ok rows → AreRowsOf hour rows
unfolding hour_rows
hour_rows_are hour bytes rows in_range e =
    let a = bind_ok (count_at bytes) (λ count. rows_at count.0 (36000 * hour + 36000) (36000 * hour) [] count.1 >>= at_end) rows e in
    let b = bind_ok (rows_at a.0.0 (36000 * hour + 36000) (36000 * hour) [] a.0.1) at_end rows a.2 in
    let few = count_few bytes a.0 a.1 in
    let m = more_rows a.0.0 (36000 * hour + 36000) (36000 * hour) [] a.0.1 b.0 b.1 in
    elim (chosen (length b.0.1 == 0) (Ok b.0.0) (Err pack_fault.Extra) (Ok rows) b.2) [
      | inl q ↦
          let same : m.more ≡ rows = sym m.all ∙ ok_is b.0.0 rows q.1 in
          let count = m.count in
          subst (λ (xs : List Row). AreRowsOf hour xs) same (record { in_range = in_range; few = omega arith; rise = m.rise })
      | inr q ↦ absurd (no_value pack_fault.Extra rows q.1)
    ]

-- the rows of a packed hour are rows of that hour
pub packed_rows_are : (signal : List ℕ) (window : Span) (hour : ℕ) (bytes : List ℕ) (rows : List Row) → hour < 744 → reading signal window hour bytes ≡ Ok rows → AreRowsOf hour rows
unfolding reading
packed_rows_are signal window hour bytes rows in_range e =
    let a = bind_ok (after_head signal window hour bytes) (hour_rows hour) rows e in
    hour_rows_are hour a.0 rows in_range a.2

-- ---- a log

some_value : {A B : Type 0} (o : Option A) (refusal : RowError) (more : A → Result B RowError) (y : B) → on_some o refusal more ≡ Ok y → (x : A) × (o ≡ Some x) × (more x ≡ Ok y)
some_value None refusal more y e = absurd (cc)
some_value (Some x) refusal more y e = (x, refl, e)

row_value : (r : Result Row RowError) (more : Row → Result (List Row) RowError) (y : List Row) → on_row r more ≡ Ok y → (x : Row) × (r ≡ Ok x) × (more x ≡ Ok y)
row_value (Ok x) more y e = (x, refl, e)
row_value (Err refusal) more y e = absurd (cc)

not_read : {A : Type 0} (e : RowError) (x : A) → Err e ≡ Ok x → ⊥
not_read e x h = cc

abbrev good_row : Row → Result Row RowError
good_row row = Ok row

abbrev good : List Row → Result (List Row) RowError
good rows = Ok rows

-- the tenth is one of the hour
abbrev IsTenthOf : ℕ → ℕ → Type 0
IsTenthOf hour at = (36000 * hour ≤ at) × (at < 36000 * hour + 36000)

same_row : (a b : Row) → good_row a ≡ good_row b → a ≡ b
same_row a b h = cc

tenth_as : (hour : ℕ) (a b : Row) → good_row a ≡ good_row b → IsTenthOf hour a.at → IsTenthOf hour b.at
tenth_as hour a b e h = subst (λ (r : Row). IsTenthOf hour r.at) (same_row a b e) h

at_bounds : (hour : ℕ) (z : ℤ) (at : ℕ) → at_in_hour hour z ≡ Some at → IsTenthOf hour at
at_bounds hour (pos n) at e = go (nat_le (36000 * hour) n) (nat_lt n (36000 * hour + 36000)) refl refl e
  where
    go : (a b : Bool) → nat_le (36000 * hour) n ≡ a → nat_lt n (36000 * hour + 36000) ≡ b → (if a && b then Some n else None) ≡ Some at → IsTenthOf hour at
    go true true p q e =
        let same : n ≡ at = cc in
        let low : 36000 * hour ≤ n = grind (arith, nat_tests) in
        subst (λ (x : ℕ). IsTenthOf hour x) same (low, ltb-true _ _ q)
    go true false p q e = absurd (cc)
    go false b p q e = absurd (cc)
at_bounds hour (negsuc n) at e = absurd (cc)

row_within : (w : Wanted) (number : ℕ) (signal stamp code param : List ℕ) (row : Row) → row_of w number signal stamp code param ≡ Ok row → IsTenthOf w.hour row.at
row_within w number signal stamp code param row e =
    let of_param : ℕ → ℕ → Result Row RowError = λ at c. on_some (number_of 1 9 65535 param) (log_fault.Param number) (λ p. good_row (made_row at c p)) in
    let of_code : ℕ → Result Row RowError = λ at. on_some (number_of 1 9 255 code) (log_fault.Code number) (λ c. of_param at c) in
    let of_tenth : ℤ → Result Row RowError = λ tenth. on_some (at_in_hour w.hour tenth) (log_fault.OutsideHour number) of_code in
    let of_stamp : Result Row RowError = on_some (stamp_in w.window stamp) (log_fault.Stamp number) of_tenth in
    elim (chosen (bytes_eq signal w.signal) of_stamp (Err (log_fault.WrongSignal number)) (Ok row) e) [
      | inl q ↦
          let a = some_value (stamp_in w.window stamp) (log_fault.Stamp number) of_tenth row q.1 in
          let b = some_value (at_in_hour w.hour a.0) (log_fault.OutsideHour number) of_code row a.2 in
          let c = some_value (number_of 1 9 255 code) (log_fault.Code number) (λ c. of_param b.0 c) row b.2 in
          let d = some_value (number_of 1 9 65535 param) (log_fault.Param number) (λ p. good_row (made_row b.0 c.0 p)) row c.2 in
          tenth_as w.hour (made_row b.0 c.0 d.0) row d.2 (at_bounds w.hour a.0 b.0 b.1)
      | inr q ↦ absurd (not_read (log_fault.WrongSignal number) row q.1)
    ]

-- after some records: how many rows there are, and that they are in the hour
record AreSoFar (w : Wanted) (headers : ℕ) (rows : List Row) (number : ℕ) : Type 0 where
  pub count : headers + length rows + 1 ≡ number
  pub few : length rows ≤ 400000
  pub within : AreWithin (36000 * w.hour) (36000 * w.hour + 36000) rows

record AreGood (w : Wanted) (rows : List Row) : Type 0 where
  pub few : length rows ≤ 400000
  pub within : AreWithin (36000 * w.hour) (36000 * w.hour + 36000) rows

record IsNext (w : Wanted) (headers number : ℕ) (row : Row) : Type 0 where
  pub room : (number == headers + 400001) ≡ false
  pub tenth : IsTenthOf w.hour row.at

record_in : (w : Wanted) (headers number : ℕ) (fields : List (List ℕ)) (row : Row) → record_row w headers number fields ≡ Ok row → IsNext w headers number row
record_in w headers number fields row e =
    let one : Result Row RowError = row_of w number (field fields 0) (field fields 1) (field fields 2) (field fields 3) in
    let rest : Result Row RowError = if length fields == 4 then one else Err (log_fault.Fields number) in
    elim (chosen (number == headers + 400001) (Err log_fault.TooManyRows) rest (Ok row) e) [
      | inl q ↦ absurd (not_read log_fault.TooManyRows row q.1)
      | inr q ↦ elim (chosen (length fields == 4) one (Err (log_fault.Fields number)) (Ok row) q.1) [
        | inl p ↦ record { room = q.0; tenth = row_within w number (field fields 0) (field fields 1) (field fields 2) (field fields 3) row p.1 }
        | inr p ↦ absurd (not_read (log_fault.Fields number) row p.1)
      ]
    ]

one_more : (w : Wanted) (headers : ℕ) (rows : List Row) (number : ℕ) (row : Row) → AreSoFar w headers rows number → IsNext w headers number row → AreSoFar w headers (rows ++ row ∷ []) (number + 1)
one_more w headers rows number row so next =
    let l : length (rows ++ row ∷ []) ≡ length rows + 1 = length-append rows (row ∷ []) in
    let c = so.count in
    let f = so.few in
    let room : length rows ≢ 400000 = λ full. let at : number ≡ headers + 400001 = omega arith in let yes_it_is : (number == headers + 400001) ≡ true = grind (arith, nat_tests) in absurd (let bad = sym yes_it_is ∙ next.room in cc) in
    record {
      count = omega arith;
      few = omega arith;
      within = within-more (36000 * w.hour) (36000 * w.hour + 36000) rows row so.within next.tenth.0 next.tenth.1;
    }

after_header : (w : Wanted) (headers : ℕ) (rows : List Row) (number : ℕ) (fields : List (List ℕ)) → is_header number fields ≡ true → AreSoFar w headers rows number → AreSoFar w 1 rows (number + 1)
after_header w headers rows number fields is so =
    let first : number ≡ 1 = eqb-true _ _ (and_parts (number == 1) _ is).0 in
    let c = so.count in
    record { count = omega arith; few = so.few; within = so.within }

good_after : (w : Wanted) (headers : ℕ) (rows : List Row) (number : ℕ) (rs : List (List (List ℕ))) (out : List Row) → AreSoFar w headers rows number → rows_after w headers rows number rs ≡ Ok out → AreGood w out
unfolding rows_after
good_after w headers rows number [] out so e =
    let is : good rows ≡ Ok out = e in
    let same : rows ≡ out = cc in
    subst (λ (xs : List Row). AreGood w xs) same (record { few = so.few; within = so.within })
good_after w headers rows number (r ∷ rs) out so e =
    elim (chosen (is_header number r) (rows_after w 1 rows (number + 1) rs) (on_row (record_row w headers number r) (λ row. rows_after w headers (rows ++ row ∷ []) (number + 1) rs)) (Ok out) e) [
      | inl q ↦ good_after w 1 rows (number + 1) rs out (after_header w headers rows number r q.0 so) q.1
      | inr q ↦
          let a = row_value (record_row w headers number r) (λ row. rows_after w headers (rows ++ row ∷ []) (number + 1) rs) out q.1 in
          good_after w headers (rows ++ a.0 ∷ []) (number + 1) rs out (one_more w headers rows number a.0 so (record_in w headers number r a.0 a.1)) a.2
    ]

-- rows in row order are no more than they were
none_from : (n t : ℕ) → length (rows_from n t []) ≡ 0
unfolding rows_from
none_from zero t = refl
none_from (suc n) t = none_from n (t + 1)

tenth_of_more : (t : ℕ) (x : Row) (xs : List Row) → ((x.at ≡ t) × (rows_of_tenth t (x ∷ xs) ≡ x ∷ rows_of_tenth t xs)) ⊎ ((x.at ≢ t) × (rows_of_tenth t (x ∷ xs) ≡ rows_of_tenth t xs))
tenth_of_more t x xs = go (x.at == t) refl
  where
    go : (b : Bool) → (x.at == t) ≡ b → ((x.at ≡ t) × (rows_of_tenth t (x ∷ xs) ≡ x ∷ rows_of_tenth t xs)) ⊎ ((x.at ≢ t) × (rows_of_tenth t (x ∷ xs) ≡ rows_of_tenth t xs))
    go true e = inl (eqb-true _ _ e, rw e refl)
    go false e = inr (grind (arith, nat_tests), rw e refl)

earlier_from : (n t : ℕ) (x : Row) (xs : List Row) → x.at < t → rows_from n t (x ∷ xs) ≡ rows_from n t xs
unfolding rows_from
earlier_from zero t x xs lt = refl
earlier_from (suc n) t x xs lt =
    let later = earlier_from n (t + 1) x xs (omega arith) in
    elim (tenth_of_more t x xs) [
      | inl q ↦ let at = q.0 in absurd (omega arith)
      | inr q ↦ rw (q.1, later) refl
    ]

one_from : (n t : ℕ) (x : Row) (xs : List Row) → length (rows_from n t (x ∷ xs)) ≤ length (rows_from n t xs) + 1
unfolding rows_from
one_from zero t x xs = omega arith
one_from (suc n) t x xs = elim (tenth_of_more t x xs) [
  | inl q ↦
      let at = q.0 in
      let later = earlier_from n (t + 1) x xs (omega arith) in
      let parts : rows_from (suc n) t (x ∷ xs) ≡ x ∷ rows_from (suc n) t xs = rw (q.1, later) refl in
      rw parts (omega arith)
  | inr q ↦
      let others = one_from n (t + 1) x xs in
      let a = length-append (rows_of_tenth t xs) (rows_from n (t + 1) (x ∷ xs)) in
      let b = length-append (rows_of_tenth t xs) (rows_from n (t + 1) xs) in
      rw q.1 (omega arith)
]

few_from : (n t : ℕ) (xs : List Row) → length (rows_from n t xs) ≤ length xs
few_from n t [] = let none = none_from n t in omega arith
few_from n t (x ∷ xs) = let a = one_from n t x xs in let b = few_from n t xs in omega arith

-- rows that are left out don't disturb the order
part_rises : (from to : ℕ) (xs ys : List Row) → IsPartOf xs ys → RiseIn from to ys → RiseIn from to xs
part_rises from to xs [] part h = subst (λ (zs : List Row). RiseIn from to zs) (sym part) tt
part_rises from to xs (y ∷ ys) part h = elim part [
  | inl rest ↦ rise-wider y.at to from to xs h.0 (omega arith) (part_rises y.at to xs ys rest h.2)
  | inr (rest, e, is) ↦ subst (λ (zs : List Row). RiseIn from to zs) (sym e) (h.0, h.1, part_rises y.at to rest ys is h.2)
]

shown_are : (w : Wanted) (rows : List Row) → w.hour < 744 → AreGood w rows → IsShownOf w.hour (shown_of w.hour rows)
shown_are w rows in_range are =
    let ordered : List Row = in_row_order w.hour rows in
    let f = are.few in
    let a : length ordered ≤ length rows = few_from 36000 (36000 * w.hour) rows in
    let b = kept-count ordered in (
      refl,
      record {
        in_range = in_range;
        few = omega arith;
        rise = part_rises (36000 * w.hour) (36000 * w.hour + 36000) (without_repeats ordered) ordered (kept-part ordered) (rows_from-rise_in 36000 (36000 * w.hour) rows are.within);
      },
    )

-- the rows of a log are rows of the hour that is wanted
pub log_rows_are : (w : Wanted) (bytes : List ℕ) (shown : Shown) → w.hour < 744 → rows_of w bytes ≡ Ok shown → IsShownOf w.hour shown
log_rows_are w bytes shown in_range e = go (good_rows w bytes) refl e
  where
    go : (r : Result (List Row) RowError) → good_rows w bytes ≡ r → on_rows w.hour r ≡ Ok shown → IsShownOf w.hour shown
    go (Ok rows) is e =
        let start : AreSoFar w 0 [] 1 = record { count = refl; few = omega arith; within = tt } in
        let same : shown_of w.hour rows ≡ shown = cc in
        subst (λ (x : Shown). IsShownOf w.hour x) same (shown_are w rows in_range (good_after w 0 [] 1 _ rows start is))
    go (Err refusal) is e = absurd (cc)
