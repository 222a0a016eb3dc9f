-- What begins as a row, and is none.
use Rattle.std.proofs.Common.{◌≡◌, ◌≤◌, ◌<◌, ◌+◌, ◌-◌, ◌^◌, ℕ, zero, suc, false, List, [], ◌∷◌, ◌++◌, length, Result, Ok, Err, refl, sym, ap, ◌∙◌, arith, inl, inr, nat_lt, append_assoc, append-nil}
use Rattle.std.specs.Prelude.{◌⊎◌}
use Rattle.std.specs.List.{AllByRecursion}
use Rattle.std.proofs.lemmas.Bool.{le-ltb, ltb-false}
use Rattle.sig_base.specs.declared.values.Row.{Row}
use Rattle.sig_base.specs.HourRows.{RiseIn}
use Rattle.row_reader.specs.Repeats.{is_repeat, HasNoRepeat}
use Rattle.hour_pack.specs.declared.pack_error.PackError.{PackError}
use Rattle.hour_pack.specs.declared.pack_error.PackError.TheVariants.{Short}
use Rattle.hour_pack.specs.declared.pack_error.PackError.TheVariants.{Row as BadRow}
use Rattle.hour_pack.specs.Faults.{IsBadRow, bad_since, past_hour, bad_param, large_param, repeated, IsCutRow, in_since, before_code, in_param, last_tenth}
use Rattle.hour_pack.specs.Grammar.{AreBytes, IsEvent, row_bytes, rows_bytes}
use Rattle.hour_pack.specs.Number.{number_bytes}
use Rattle.hour_pack.specs.Reading.{◌>>=◌, number_at, tenth_at, tenth_by, code_at, param_at, param_by, fresh, row_at, rows_at}
use Rattle.hour_pack.proofs.Bytes.{chosen, bind_err, Takes, takes-then}
use Rattle.hour_pack.proofs.NumberFacts.{number_takes, number_again}
use Rattle.hour_pack.proofs.NumberFaults.{NumberFails, number-fails, open-short, bad-number}
use Rattle.hour_pack.proofs.RowFacts.{made_row, TenthTakes, tenth-takes, tenth-again, code-takes, param-takes, row-takes, row-read, row-again}

-- a row failed, as it may
abbrev pub RowFails : ℕ → ℕ → List Row → List ℕ → PackError → Type 0
RowFails to last kept bytes e = ((e ≡ Short) × IsCutRow to last bytes) ⊎ ((e ≡ BadRow (length kept + 1)) × IsBadRow to last kept bytes)

pub failed : {A : Type 0} (r : Result A PackError) (d e : PackError) → r ≡ Err d → r ≡ Err e → e ≡ d
failed r d e h k = let f : Err d ≡ Err e = sym h ∙ k in cc

pub not_failed : {A : Type 0} (r : Result A PackError) (x : A) (e : PackError) → r ≡ Ok x → r ≡ Err e → ⊥
not_failed r x e h k = let f : Ok x ≡ Err e = sym h ∙ k in cc

-- ---- the tenth

by-since : (to last : ℕ) (kept : List Row) (bytes : List ℕ) (e : PackError) → NumberFails (length kept + 1) bytes e → RowFails to last kept bytes e
by-since to last kept bytes e (inl p) = inl (p.0, in_since p.1)
by-since to last kept bytes e (inr p) = inr (p.0, bad_since p.1)

tenth-fails : (to last : ℕ) (kept : List Row) (bytes : List ℕ) (e : PackError) → AreBytes bytes → tenth_at (length kept + 1) to last bytes ≡ Err e → RowFails to last kept bytes e
unfolding tenth_at
tenth-fails to last kept bytes e fits h =
    let place : ℕ = length kept + 1 in
    elim (bind_err (number_at place bytes) (tenth_by place to last) e h) [
      | inl p ↦ by-since to last kept bytes e (number-fails place bytes e p)
      | inr p ↦
          let n = number_takes place bytes p.0.0 p.0.1 fits p.1 in
          elim (chosen (nat_lt (last + p.0.0) to) (Ok (last + p.0.0, p.0.1)) (Err (BadRow place)) (Err e) p.2) [
            | inl q ↦ absurd (not_failed (Ok (last + p.0.0, p.0.1)) (last + p.0.0, p.0.1) e refl q.1)
            | inr q ↦ inr (failed {A = ℕ × List ℕ} (Err (BadRow place)) (BadRow place) e refl q.1, past_hour p.0.0 p.0.1 n.small n.takes.parts (ltb-false _ _ q.0))
          ]
    ]

-- ---- the code and the parameter

code-fails : (to last : ℕ) (kept : List Row) (bytes : List ℕ) (at : ℕ) (rest : List ℕ) (e : PackError) → last ≤ at → at < to → bytes ≡ number_bytes (at - last) ++ rest
    → code_at rest ≡ Err e → RowFails to last kept bytes e
code-fails to last kept bytes at [] e low high parts h =
    inl (failed {A = ℕ × List ℕ} (Err Short) Short e refl h, before_code at low high (parts ∙ append-nil (number_bytes (at - last))))
code-fails to last kept bytes at (b ∷ rest) e low high parts h = absurd (not_failed (Ok (b, rest)) (b, rest) e refl h)

by-param : (to last : ℕ) (kept : List Row) (bytes : List ℕ) (at code : ℕ) (rest : List ℕ) (e : PackError) → last ≤ at → at < to
    → bytes ≡ number_bytes (at - last) ++ code ∷ rest → NumberFails (length kept + 1) rest e → RowFails to last kept bytes e
by-param to last kept bytes at code rest e low high parts (inl p) = inl (p.0, in_param at code rest low high parts p.1)
by-param to last kept bytes at code rest e low high parts (inr p) = inr (p.0, bad_param at code rest low high parts p.1)

param-fails : (to last : ℕ) (kept : List Row) (bytes : List ℕ) (at code : ℕ) (rest : List ℕ) (e : PackError) → last ≤ at → at < to
    → bytes ≡ number_bytes (at - last) ++ code ∷ rest → AreBytes rest → param_at (length kept + 1) rest ≡ Err e → RowFails to last kept bytes e
unfolding param_at
param-fails to last kept bytes at code rest e low high parts fits h =
    let place : ℕ = length kept + 1 in
    elim (bind_err (number_at place rest) (param_by place) e h) [
      | inl p ↦ by-param to last kept bytes at code rest e low high parts (number-fails place rest e p)
      | inr p ↦
          let n = number_takes place rest p.0.0 p.0.1 fits p.1 in
          elim (chosen (nat_lt p.0.0 65536) (Ok p.0) (Err (BadRow place)) (Err e) p.2) [
            | inl q ↦ absurd (not_failed (Ok p.0) p.0 e refl q.1)
            | inr q ↦ inr (
              failed {A = ℕ × List ℕ} (Err (BadRow place)) (BadRow place) e refl q.1,
              large_param at code p.0.0 p.0.1 low high (omega (arith, ltb-false _ _ q.0)) n.small
                  (parts ∙ ap (λ (xs : List ℕ). number_bytes (at - last) ++ code ∷ xs) n.takes.parts),
            )
          ]
    ]

-- ---- a row

fresh-fails : (to last : ℕ) (kept : List Row) (bytes : List ℕ) (row : Row) (rest : List ℕ) (e : PackError) → last ≤ row.at → row.at < to → IsEvent row
    → bytes ≡ row_bytes last row ++ rest → fresh kept row rest ≡ Err e → RowFails to last kept bytes e
fresh-fails to last kept bytes row rest e low high event parts h =
    elim (chosen (is_repeat kept row) (Err (BadRow (length kept + 1))) (Ok (row, rest)) (Err e) h) [
      | inl p ↦ inr (failed {A = Row × List ℕ} (Err (BadRow (length kept + 1))) (BadRow (length kept + 1)) e refl p.1, repeated row rest low high event parts p.0)
      | inr p ↦ absurd (not_failed (Ok (row, rest)) (row, rest) e refl p.1)
    ]

behind-code : (to last : ℕ) (kept : List Row) (bytes : List ℕ) (at code : ℕ) (rest : List ℕ) (e : PackError) → last ≤ at → at < to → code < 256
    → Takes bytes (number_bytes (at - last) ++ code ∷ []) rest
    → (param_at (length kept + 1) rest >>= λ param. fresh kept (made_row at code param.0) param.1) ≡ Err e → RowFails to last kept bytes e
behind-code to last kept bytes at code rest e low high small takes h =
    let parts : bytes ≡ number_bytes (at - last) ++ code ∷ rest = takes.parts ∙ append_assoc (number_bytes (at - last)) (code ∷ []) rest in
    elim (bind_err (param_at (length kept + 1) rest) (λ param. fresh kept (made_row at code param.0) param.1) e h) [
      | inl p ↦ param-fails to last kept bytes at code rest e low high parts takes.rest_fits p
      | inr p ↦
          let n = param-takes (length kept + 1) rest p.0.0 p.0.1 takes.rest_fits p.1 in
          let whole = takes-then bytes (number_bytes (at - last) ++ code ∷ []) rest (number_bytes p.0.0) p.0.1 takes n.0 in
          let row : Row = made_row at code p.0.0 in
          let regrouped : (number_bytes (at - last) ++ code ∷ []) ++ number_bytes p.0.0 ≡ row_bytes last row = append_assoc (number_bytes (at - last)) (code ∷ []) (number_bytes p.0.0) in
          fresh-fails to last kept bytes row p.0.1 e low high (record { code = small; param = n.1 })
          (whole.parts ∙ ap (λ (xs : List ℕ). xs ++ p.0.1) regrouped) p.2
    ]

behind-tenth : (to last : ℕ) (kept : List Row) (bytes : List ℕ) (at : ℕ) (rest : List ℕ) (e : PackError) → TenthTakes to last bytes at rest
    → (code_at rest >>= λ code. param_at (length kept + 1) code.1 >>= λ param. fresh kept (made_row at code.0 param.0) param.1) ≡ Err e → RowFails to last kept bytes e
behind-tenth to last kept bytes at rest e t h =
    elim (bind_err (code_at rest) (λ code. param_at (length kept + 1) code.1 >>= λ param. fresh kept (made_row at code.0 param.0) param.1) e h) [
      | inl p ↦ code-fails to last kept bytes at rest e t.low t.high t.takes.parts p
      | inr p ↦
          let c = code-takes rest p.0.0 p.0.1 t.takes.rest_fits p.1 in
          behind-code to last kept bytes at p.0.0 p.0.1 e t.low t.high c.1
          (takes-then bytes (number_bytes (at - last)) rest (p.0.0 ∷ []) p.0.1 t.takes c.0) p.2
    ]

pub row-fails : (to last : ℕ) (kept : List Row) (bytes : List ℕ) (e : PackError) → AreBytes bytes → row_at to last kept bytes ≡ Err e → RowFails to last kept bytes e
unfolding row_at
row-fails to last kept bytes e fits h =
    let place : ℕ = length kept + 1 in
    elim (bind_err (tenth_at place to last bytes) (λ at. code_at at.1 >>= λ code. param_at place code.1 >>= λ param. fresh kept (made_row at.0 code.0 param.0) param.1) e h) [
      | inl p ↦ tenth-fails to last kept bytes e fits p
      | inr p ↦ behind-tenth to last kept bytes p.0.0 p.0.1 e (tenth-takes place to last bytes p.0.0 p.0.1 fits p.1) p.2
    ]

-- ---- and the other way round

-- behind the tenth
at-tenth : (to last : ℕ) (kept : List Row) (at : ℕ) (rest : List ℕ) → last ≤ at → at < to → to ≤ last + 2 ^ 21
    → row_at to last kept (number_bytes (at - last) ++ rest)
    ≡ (code_at rest >>= λ code. param_at (length kept + 1) code.1 >>= λ param. fresh kept (made_row at code.0 param.0) param.1)
unfolding row_at
at-tenth to last kept at rest low high near = rw (tenth-again (length kept + 1) to last at rest low high (omega arith)) refl

pub cut-row : (to last : ℕ) (kept : List Row) (bytes : List ℕ) → to ≤ last + 2 ^ 21 → IsCutRow to last bytes → row_at to last kept bytes ≡ Err Short
unfolding row_at tenth_at param_at
cut-row to last kept bytes near (in_since h) = rw (open-short (length kept + 1) bytes h) refl
cut-row to last kept bytes near (before_code at low high parts) =
    ap (row_at to last kept) (parts ∙ sym (append-nil (number_bytes (at - last))))
    ∙ at-tenth to last kept at [] low high near
cut-row to last kept bytes near (in_param at code rest low high parts h) =
    ap (row_at to last kept) parts
    ∙ at-tenth to last kept at (code ∷ rest) low high near
    ∙ rw (open-short (length kept + 1) rest h) refl

pub bad-row : (to last : ℕ) (kept : List Row) (bytes : List ℕ) → to ≤ last + 2 ^ 21 → IsBadRow to last kept bytes → row_at to last kept bytes ≡ Err (BadRow (length kept + 1))
unfolding row_at tenth_at param_at
bad-row to last kept bytes near (bad_since h) = rw (bad-number (length kept + 1) bytes h) refl
bad-row to last kept bytes near (past_hour since rest small parts h) =
    let t : nat_lt (last + since) to ≡ false = le-ltb (last + since) to h in
    ap (row_at to last kept) parts ∙ rw (number_again (length kept + 1) since rest small, t) refl
bad-row to last kept bytes near (bad_param at code rest low high parts h) =
    ap (row_at to last kept) parts
    ∙ at-tenth to last kept at (code ∷ rest) low high near
    ∙ rw (bad-number (length kept + 1) rest h) refl
bad-row to last kept bytes near (large_param at code param rest low high large small parts) =
    let t : nat_lt param 65536 ≡ false = le-ltb param 65536 (omega arith) in
    ap (row_at to last kept) parts
    ∙ at-tenth to last kept at (code ∷ (number_bytes param ++ rest)) low high near
    ∙ rw (number_again (length kept + 1) param rest small, t) refl
bad-row to last kept bytes near (repeated row rest low high event parts h) =
    ap (row_at to last kept) parts ∙ row-read to last kept row rest low high (omega arith) event ∙ rw h refl

pub fails-again : (to last : ℕ) (kept : List Row) (bytes : List ℕ) (e : PackError) → to ≤ last + 2 ^ 21 → RowFails to last kept bytes e → row_at to last kept bytes ≡ Err e
fails-again to last kept bytes e near (inl p) = rw p.0 (cut-row to last kept bytes near p.1)
fails-again to last kept bytes e near (inr p) = rw p.0 (bad-row to last kept bytes near p.1)

-- ---- rows

-- so many rows failed behind some of them
pub record RowsFail (left to last : ℕ) (kept : List Row) (bytes : List ℕ) (e : PackError) : Type 0 where
  pub more : List Row
  pub rest : List ℕ
  pub takes : Takes bytes (rows_bytes last more) rest
  pub fewer : length more < left
  pub rise : RiseIn last to more
  pub events : AllByRecursion IsEvent more
  pub new : HasNoRepeat kept more
  pub here : RowFails to (last_tenth last more) (kept ++ more) rest e

pub rows-fail : (left to last : ℕ) (kept : List Row) (bytes : List ℕ) (e : PackError) → AreBytes bytes → rows_at left to last kept bytes ≡ Err e
    → RowsFail left to last kept bytes e
unfolding rows_at
rows-fail zero to last kept bytes e fits h = absurd (not_failed (Ok (kept, bytes)) (kept, bytes) e refl h)
rows-fail (suc left) to last kept bytes e fits h =
    elim (bind_err (row_at to last kept bytes) (λ row. rows_at left to row.0.at (kept ++ row.0 ∷ []) row.1) e h) [
      | inl p ↦ record {
        more = [];
        rest = bytes;
        takes = record { parts = refl; rest_fits = fits };
        fewer = omega arith;
        rise = tt;
        events = tt;
        new = tt;
        here = rw (append-nil kept) (row-fails to last kept bytes e fits p);
      }
      | inr p ↦
          let first = row-takes to last kept bytes p.0.0 p.0.1 fits p.1 in
          let others = rows-fail left to p.0.0.at (kept ++ p.0.0 ∷ []) p.0.1 e first.takes.rest_fits p.2 in
          record {
            more = p.0.0 ∷ others.more;
            rest = others.rest;
            takes = takes-then bytes (row_bytes last p.0.0) p.0.1 (rows_bytes p.0.0.at others.more) others.rest first.takes others.takes;
            fewer = omega (arith, others.fewer);
            rise = (first.low, first.high, others.rise);
            events = (first.event, others.events);
            new = (first.new, others.new);
            here = rw (append_assoc kept (p.0.0 ∷ []) others.more) at others.here;
          }
    ]

pub last-low : (last to : ℕ) (rows : List Row) → RiseIn last to rows → last ≤ last_tenth last rows
last-low last to [] h = omega arith
last-low last to (r ∷ rs) h = omega (arith, h.0, last-low r.at to rs h.2)

pub rows-fail-again : (left to last : ℕ) (kept more : List Row) (rest : List ℕ) (e : PackError) → to ≤ last + 2 ^ 21 → length more < left
    → RiseIn last to more → AllByRecursion IsEvent more → HasNoRepeat kept more → row_at to (last_tenth last more) (kept ++ more) rest ≡ Err e
    → rows_at left to last kept (rows_bytes last more ++ rest) ≡ Err e
unfolding rows_at
rows-fail-again zero to last kept more rest e near fewer rise events new h = absurd (omega arith)
rows-fail-again (suc left) to last kept [] rest e near fewer rise events new h =
    let here : row_at to last kept rest ≡ Err e = rw (append-nil kept) at h in
    rw here refl
rows-fail-again (suc left) to last kept (row ∷ more) rest e near fewer rise events new h =
    let regrouped : rows_bytes last (row ∷ more) ++ rest ≡ row_bytes last row ++ (rows_bytes row.at more ++ rest) = append_assoc (row_bytes last row) (rows_bytes row.at more) rest in
    let behind : row_at to (last_tenth row.at more) ((kept ++ row ∷ []) ++ more) rest ≡ Err e = rw (append_assoc kept (row ∷ []) more) h in
    ap (rows_at (suc left) to last kept) regrouped
    ∙ rw (row-again to last kept row (rows_bytes row.at more ++ rest) rise.0 rise.1 (omega (arith, rise.1)) events.0 new.0)
    (rows-fail-again left to row.at (kept ++ row ∷ []) more rest e (omega (arith, rise.0)) (omega (arith, fewer)) rise.2 events.1 new.1 behind)
