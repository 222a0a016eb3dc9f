-- A row and its bytes; rows and theirs.
use Rattle.std.proofs.Common.{◌≡◌, ◌≤◌, ◌<◌, ◌+◌, ◌-◌, ◌^◌, ℕ, zero, suc, true, false, List, [], ◌∷◌, ◌++◌, length, Ok, Err, refl, sym, ap, ◌∙◌, arith, inl, inr, nat_lt, append_assoc, append-nil}
use Rattle.std.specs.List.{AllByRecursion}
use Rattle.std.proofs.lemmas.Bool.{lt-ltb, ltb-true}
use Rattle.sig_base.specs.declared.values.Row.{Row}
use Rattle.sig_base.specs.HourRows.{RiseIn}
use Rattle.row_reader.specs.Repeats.{is_repeat, HasNoRepeat}
use Rattle.hour_pack.specs.declared.pack_error.PackError.{PackError}
use Rattle.hour_pack.specs.declared.pack_error.PackError.TheVariants.{Row as BadRow}
use Rattle.hour_pack.specs.Grammar.{AreBytes, IsEvent, row_bytes, rows_bytes}
use Rattle.hour_pack.specs.Number.{number_bytes}
use Rattle.hour_pack.specs.Reading.{◌>>=◌, number_at, tenth_at, tenth_by, code_at, param_at, param_by, fresh, row_at, rows_at}
use Rattle.hour_pack.proofs.Bytes.{chosen, bind_ok, ok_is, Takes, takes-then}
use Rattle.hour_pack.proofs.NumberFacts.{number_takes, number_again, not_count}

-- ---- the tenth

pub record TenthTakes (to last : ℕ) (bytes : List ℕ) (at : ℕ) (rest : List ℕ) : Type 0 where
  pub takes : Takes bytes (number_bytes (at - last)) rest
  pub low : last ≤ at
  pub high : at < to

tenth-is : (to last : ℕ) (bytes : List ℕ) (p q : ℕ × List ℕ) → p ≡ q → TenthTakes to last bytes p.0 p.1 → TenthTakes to last bytes q.0 q.1
tenth-is to last bytes p q e h = rw (← e) h

pub tenth-takes : (row to last : ℕ) (bytes : List ℕ) (at : ℕ) (rest : List ℕ) → AreBytes bytes → tenth_at row to last bytes ≡ Ok (at, rest) → TenthTakes to last bytes at rest
unfolding tenth_at
tenth-takes row to last bytes at rest fits e =
    let a = bind_ok (number_at row bytes) (tenth_by row to last) (at, rest) e in
    let n = number_takes row bytes a.0.0 a.0.1 fits a.1 in
    elim (chosen (nat_lt (last + a.0.0) to) (Ok (last + a.0.0, a.0.1)) (Err (BadRow row)) (Ok (at, rest)) a.2) [
      | inl p ↦
          let back : (last + a.0.0) - last ≡ a.0.0 = omega arith in
          tenth-is to last bytes (last + a.0.0, a.0.1) (at, rest) (ok_is (last + a.0.0, a.0.1) (at, rest) p.1) (record {
            takes = rw back n.takes;
            low = omega arith;
            high = ltb-true _ _ p.0;
          })
      | inr p ↦ absurd (not_count (BadRow row) (at, rest) p.1)
    ]

pub tenth-again : (row to last at : ℕ) (rest : List ℕ) → last ≤ at → at < to → at < last + 2 ^ 21
    → tenth_at row to last (number_bytes (at - last) ++ rest) ≡ Ok (at, rest)
unfolding tenth_at
tenth-again row to last at rest low high near =
    let sum : last + (at - last) ≡ at = omega arith in
    let t : nat_lt at to ≡ true = lt-ltb at to high in
    rw (number_again row (at - last) rest (omega arith), sum, t) refl

-- ---- the code and the parameter

pub code-takes : (bytes : List ℕ) (code : ℕ) (rest : List ℕ) → AreBytes bytes → code_at bytes ≡ Ok (code, rest) → Takes bytes (code ∷ []) rest × (code < 256)
code-takes [] code rest fits e = absurd cc
code-takes (b ∷ bytes) code rest fits e =
    let same : (b, bytes) ≡ (code, rest) = ok_is (b, bytes) (code, rest) e in
    code-is (b ∷ bytes) (b, bytes) (code, rest) same (record { parts = refl; rest_fits = fits.1 }, fits.0)
  where
    code-is : (all : List ℕ) (p q : ℕ × List ℕ) → p ≡ q → Takes all (p.0 ∷ []) p.1 × (p.0 < 256) → Takes all (q.0 ∷ []) q.1 × (q.0 < 256)
    code-is all p q e h = rw (← e) h

pub param-takes : (row : ℕ) (bytes : List ℕ) (param : ℕ) (rest : List ℕ) → AreBytes bytes → param_at row bytes ≡ Ok (param, rest)
    → Takes bytes (number_bytes param) rest × (param < 65536)
unfolding param_at
param-takes row bytes param rest fits e =
    let a = bind_ok (number_at row bytes) (param_by row) (param, rest) e in
    let n = number_takes row bytes a.0.0 a.0.1 fits a.1 in
    elim (chosen (nat_lt a.0.0 65536) (Ok a.0) (Err (BadRow row)) (Ok (param, rest)) a.2) [
      | inl p ↦ param-is bytes a.0 (param, rest) (ok_is a.0 (param, rest) p.1) (n.takes, ltb-true _ _ p.0)
      | inr p ↦ absurd (not_count (BadRow row) (param, rest) p.1)
    ]
  where
    param-is : (all : List ℕ) (p q : ℕ × List ℕ) → p ≡ q → Takes all (number_bytes p.0) p.1 × (p.0 < 65536) → Takes all (number_bytes q.0) q.1 × (q.0 < 65536)
    param-is all p q e h = rw (← e) h

pub param-again : (row param : ℕ) (rest : List ℕ) → param < 65536 → param_at row (number_bytes param ++ rest) ≡ Ok (param, rest)
unfolding param_at
param-again row param rest small =
    let t : nat_lt param 65536 ≡ true = lt-ltb param 65536 small in
    rw (number_again row param rest (omega arith), t) refl

-- ---- a row

pub record RowTakes (to last : ℕ) (kept : List Row) (bytes : List ℕ) (row : Row) (rest : List ℕ) : Type 0 where
  pub takes : Takes bytes (row_bytes last row) rest
  pub low : last ≤ row.at
  pub high : row.at < to
  pub event : IsEvent row
  pub new : is_repeat kept row ≡ false

not_row : (e : PackError) (x : Row × List ℕ) → Err e ≡ Ok x → ⊥
not_row e x h = cc

row-is : (to last : ℕ) (kept : List Row) (bytes : List ℕ) (p q : Row × List ℕ) → p ≡ q → RowTakes to last kept bytes p.0 p.1 → RowTakes to last kept bytes q.0 q.1
row-is to last kept bytes p q e h = rw (← e) h

abbrev pub made_row : ℕ → ℕ → ℕ → Row
made_row at code param = record { at = at; code = code; param = param }

pub row-takes : (to last : ℕ) (kept : List Row) (bytes : List ℕ) (row : Row) (rest : List ℕ) → AreBytes bytes → row_at to last kept bytes ≡ Ok (row, rest)
    → RowTakes to last kept bytes row rest
unfolding row_at
row-takes to last kept bytes row rest fits e =
    let place : ℕ = length kept + 1 in
    let a = bind_ok (tenth_at place to last bytes) (λ at. code_at at.1 >>= λ code. param_at place code.1 >>= λ param. fresh kept (made_row at.0 code.0 param.0) param.1) (row, rest) e in
    let b = bind_ok (code_at a.0.1) (λ code. param_at place code.1 >>= λ param. fresh kept (made_row a.0.0 code.0 param.0) param.1) (row, rest) a.2 in
    let c = bind_ok (param_at place b.0.1) (λ param. fresh kept (made_row a.0.0 b.0.0 param.0) param.1) (row, rest) b.2 in
    let made : Row = made_row a.0.0 b.0.0 c.0.0 in
    let ta = tenth-takes place to last bytes a.0.0 a.0.1 fits a.1 in
    let tb = code-takes a.0.1 b.0.0 b.0.1 ta.takes.rest_fits b.1 in
    let tc = param-takes place b.0.1 c.0.0 c.0.1 tb.0.rest_fits c.1 in
    elim (chosen (is_repeat kept made) (Err (BadRow place)) (Ok (made, c.0.1)) (Ok (row, rest)) c.2) [
      | inl p ↦ absurd (not_row (BadRow place) (row, rest) p.1)
      | inr p ↦ row-is to last kept bytes (made, c.0.1) (row, rest) (ok_is (made, c.0.1) (row, rest) p.1) (record {
        takes = takes-then bytes (number_bytes (a.0.0 - last)) a.0.1 (b.0.0 ∷ number_bytes c.0.0) c.0.1 ta.takes
            (takes-then a.0.1 (b.0.0 ∷ []) b.0.1 (number_bytes c.0.0) c.0.1 tb.0 tc.0);
        low = ta.low;
        high = ta.high;
        event = record { code = tb.1; param = tc.1 };
        new = p.0;
      })
    ]

pub row-read : (to last : ℕ) (kept : List Row) (row : Row) (rest : List ℕ) → last ≤ row.at → row.at < to → row.at < last + 2 ^ 21 → IsEvent row
    → row_at to last kept (row_bytes last row ++ rest) ≡ fresh kept row rest
unfolding row_at
row-read to last kept row rest low high near event =
    let regrouped : row_bytes last row ++ rest ≡ number_bytes (row.at - last) ++ (row.code ∷ (number_bytes row.param ++ rest)) = simp append_assoc in
    ap (row_at to last kept) regrouped
    ∙ rw (tenth-again (length kept + 1) to last row.at (row.code ∷ (number_bytes row.param ++ rest)) low high near, param-again (length kept + 1) row.param rest event.param) refl

pub row-again : (to last : ℕ) (kept : List Row) (row : Row) (rest : List ℕ) → last ≤ row.at → row.at < to → row.at < last + 2 ^ 21 → IsEvent row → is_repeat kept row ≡ false
    → row_at to last kept (row_bytes last row ++ rest) ≡ Ok (row, rest)
row-again to last kept row rest low high near event new = row-read to last kept row rest low high near event ∙ rw new refl

-- ---- rows

pub record RowsTake (left to last : ℕ) (kept : List Row) (bytes : List ℕ) (rows : List Row) (rest : List ℕ) : Type 0 where
  pub more : List Row
  pub all : rows ≡ kept ++ more
  pub takes : Takes bytes (rows_bytes last more) rest
  pub count : length more ≡ left
  pub rise : RiseIn last to more
  pub events : AllByRecursion IsEvent more
  pub new : HasNoRepeat kept more

rows-is : (left to last : ℕ) (kept : List Row) (bytes : List ℕ) (p q : List Row × List ℕ) → p ≡ q → RowsTake left to last kept bytes p.0 p.1 → RowsTake left to last kept bytes q.0 q.1
rows-is left to last kept bytes p q e h = rw (← e) h

pub rows-take : (left to last : ℕ) (kept : List Row) (bytes : List ℕ) (rows : List Row) (rest : List ℕ) → AreBytes bytes
    → rows_at left to last kept bytes ≡ Ok (rows, rest) → RowsTake left to last kept bytes rows rest
unfolding rows_at
rows-take zero to last kept bytes rows rest fits e =
    rows-is 0 to last kept bytes (kept, bytes) (rows, rest) (ok_is (kept, bytes) (rows, rest) e) (record {
      more = [];
      all = sym (append-nil kept);
      takes = record { parts = refl; rest_fits = fits };
      count = refl;
      rise = tt;
      events = tt;
      new = tt;
    })
rows-take (suc left) to last kept bytes rows rest fits e =
    let a = bind_ok (row_at to last kept bytes) (λ row. rows_at left to row.0.at (kept ++ row.0 ∷ []) row.1) (rows, rest) e in
    let first = row-takes to last kept bytes a.0.0 a.0.1 fits a.1 in
    let others = rows-take left to a.0.0.at (kept ++ a.0.0 ∷ []) a.0.1 rows rest first.takes.rest_fits a.2 in
    record {
      more = a.0.0 ∷ others.more;
      all = others.all ∙ append_assoc kept (a.0.0 ∷ []) others.more;
      takes = takes-then bytes (row_bytes last a.0.0) a.0.1 (rows_bytes a.0.0.at others.more) rest first.takes others.takes;
      count = ap suc others.count;
      rise = (first.low, first.high, others.rise);
      events = (first.event, others.events);
      new = (first.new, others.new);
    }

pub rows-again : (to last : ℕ) (kept more : List Row) (rest : List ℕ) → to ≤ last + 2 ^ 21 → RiseIn last to more → AllByRecursion IsEvent more → HasNoRepeat kept more
    → rows_at (length more) to last kept (rows_bytes last more ++ rest) ≡ Ok (kept ++ more, rest)
unfolding rows_at
rows-again to last kept [] rest near rise events new = ap (λ (xs : List Row). Ok (xs, rest)) (sym (append-nil kept))
rows-again to last kept (row ∷ more) rest near rise events new =
    let regrouped : rows_bytes last (row ∷ more) ++ rest ≡ row_bytes last row ++ (rows_bytes row.at more ++ rest) = append_assoc (row_bytes last row) (rows_bytes row.at more) rest in
    ap (rows_at (suc (length more)) to last kept) regrouped
    ∙ rw (row-again to last kept row (rows_bytes row.at more ++ rest) rise.0 rise.1 (omega (arith, rise.1)) events.0 new.0)
    (rows-again to row.at (kept ++ row ∷ []) more rest (omega (arith, rise.0)) rise.2 events.1 new.1
    ∙ ap (λ (xs : List Row). Ok (xs, rest)) (append_assoc kept (row ∷ []) more))
