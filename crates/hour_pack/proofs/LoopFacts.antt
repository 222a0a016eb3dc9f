-- How the rows that are left go on with each row that is read.
use Rattle.std.proofs.Common.{◌≡◌, ◌≤◌, ◌<◌, ◌+◌, ◌-◌, ℕ, suc, Bool, true, false, if◌then◌else◌, length, List, [], ◌∷◌, ◌++◌, Result, Ok, Err, refl, sym, ◌∙◌, arith}
use Rattle.sig_base.specs.declared.values.Row.{Row}
use Rattle.hour_pack.specs.declared.pack_error.PackError.{PackError}
use Rattle.hour_pack.specs.declared.pack_error.PackError.TheVariants.{NotPacked, Short, WrongSignal, WrongHour, TooManyRows, Extra, Memory}
use Rattle.hour_pack.specs.declared.pack_error.PackError.TheVariants.{Row as BadRow}
use Rattle.row_reader.specs.Repeats.{is_repeat}
use Rattle.hour_pack.specs.Reading.{◌>>=◌, IsFault, any_row_at, code_at, fresh, param_at, row_at, rows_at, tenth_at, with_row}
use Rattle.hour_pack.proofs.RowFacts.{made_row}

-- the fault that was read may be answered
pub is_fault : {A : Type 0} (read : Result A PackError) (e : PackError) → read ≡ Err e → IsFault read e
is_fault read NotPacked h = h
is_fault read Short h = h
is_fault read WrongSignal h = h
is_fault read WrongHour h = h
is_fault read TooManyRows h = h
is_fault read (BadRow n) h = h
is_fault read Extra h = h
is_fault read Memory h = tt

-- the fault that was read may be answered for what goes on from there
pub fault_on : {A B : Type 0} (read : Result A PackError) (total : Result B PackError) (e : PackError) → ((f : PackError) → read ≡ Err f → total ≡ Err f)
    → IsFault read e → IsFault total e
fault_on read total NotPacked on h = on NotPacked h
fault_on read total Short on h = on Short h
fault_on read total WrongSignal on h = on WrongSignal h
fault_on read total WrongHour on h = on WrongHour h
fault_on read total TooManyRows on h = on TooManyRows h
fault_on read total (BadRow n) on h = on (BadRow n) h
fault_on read total Extra on h = on Extra h
fault_on read total Memory on h = tt

-- ---- a row is read, and then it may be a repeat

abbrev Numbers : Type 0
Numbers = Result (ℕ × List ℕ) PackError

abbrev Read : Type 0
Read = Result (Row × List ℕ) PackError

abbrev read : ℕ → ℕ → ℕ × List ℕ → Read
read at code p = Ok (made_row at code p.0, p.1)

read-param : (kept : List Row) (at code : ℕ) (param : Numbers)
    → (param >>= read at code >>= λ r. fresh kept r.0 r.1) ≡ (param >>= λ p. fresh kept (made_row at code p.0) p.1)
read-param kept at code (Ok p) = refl
read-param kept at code (Err e) = refl

read-code : (kept : List Row) (place at : ℕ) (code : Numbers)
    → (code >>= (λ c. param_at place c.1 >>= read at c.0) >>= λ r. fresh kept r.0 r.1)
    ≡ (code >>= λ c. param_at place c.1 >>= λ p. fresh kept (made_row at c.0 p.0) p.1)
read-code kept place at (Ok c) = read-param kept at c.0 (param_at place c.1)
read-code kept place at (Err e) = refl

read-at : (kept : List Row) (place : ℕ) (at : Numbers)
    → (at >>= (λ a. code_at a.1 >>= λ c. param_at place c.1 >>= read a.0 c.0) >>= λ r. fresh kept r.0 r.1)
    ≡ (at >>= λ a. code_at a.1 >>= λ c. param_at place c.1 >>= λ p. fresh kept (made_row a.0 c.0 p.0) p.1)
read-at kept place (Ok a) = read-code kept place a.0 (code_at a.1)
read-at kept place (Err e) = refl

-- a row is read, and then it isn't to be a repeat
read_first : (to last : ℕ) (kept : List Row) (bytes : List ℕ)
    → row_at to last kept bytes ≡ (any_row_at (length kept + 1) to last bytes >>= λ r. fresh kept r.0 r.1)
unfolding any_row_at row_at
read_first to last kept bytes = sym (read-at kept (length kept + 1) (tenth_at (length kept + 1) to last bytes))

pub not_read : (to last : ℕ) (kept : List Row) (bytes : List ℕ) (e : PackError) → any_row_at (length kept + 1) to last bytes ≡ Err e
    → row_at to last kept bytes ≡ Err e
not_read to last kept bytes e h = read_first to last kept bytes ∙ rw h refl

ok-else : {A : Type 0} (b : Bool) (e : PackError) (x y : A) → (if b then Err e else Ok x) ≡ Ok y → (b ≡ false) × (y ≡ x)
ok-else true e x y h = cc
ok-else false e x y h = (refl, cc)

err-else : {A B : Type 0} (b : Bool) (e f : PackError) (x : A) (y : B) → (if b then Err e else Ok x) ≡ Err f → (if b then Err e else Ok y) ≡ Err f
err-else true e f x y h = let q : e ≡ f = cc in rw q refl
err-else false e f x y h = cc

-- the row that was read was put behind those that are kept
pub put_behind : (to last : ℕ) (kept : List Row) (bytes : List ℕ) (row : Row) (after : List ℕ) (all : List Row)
    → any_row_at (length kept + 1) to last bytes ≡ Ok (row, after) → with_row kept row ≡ Ok all
    → (row_at to last kept bytes ≡ Ok (row, after)) × (all ≡ kept ++ row ∷ [])
put_behind to last kept bytes row after all h w =
    let new = ok-else (is_repeat kept row) (BadRow (length kept + 1)) (kept ++ row ∷ []) all w in
    (read_first to last kept bytes ∙ rw (h, new.0) refl, new.1)

-- the row that was read is a repeat
pub repeats : (to last : ℕ) (kept : List Row) (bytes : List ℕ) (row : Row) (after : List ℕ) (e : PackError)
    → any_row_at (length kept + 1) to last bytes ≡ Ok (row, after) → with_row kept row ≡ Err e → row_at to last kept bytes ≡ Err e
repeats to last kept bytes row after e h w =
    let both : Row × List ℕ = (row, after) in
    read_first to last kept bytes ∙ rw h (err-else (is_repeat kept row) (BadRow (length kept + 1)) e (kept ++ row ∷ []) both w)

-- one row more
pub goes_on : (to last : ℕ) (kept : List Row) (count i : ℕ) (bytes : List ℕ) (row : Row) (after : List ℕ) (total : Result (List Row × List ℕ) PackError)
    → i < count → row_at to last kept bytes ≡ Ok (row, after) → rows_at (count - i) to last kept bytes ≡ total
    → rows_at (count - (i + 1)) to row.at (kept ++ row ∷ []) after ≡ total
unfolding rows_at
goes_on to last kept count i bytes row after total lt h so_far =
    let k : count - i ≡ suc (count - (i + 1)) = omega arith in
    let one : rows_at (count - i) to last kept bytes ≡ rows_at (count - (i + 1)) to row.at (kept ++ row ∷ []) after = rw (k, h) refl in
    sym one ∙ so_far

-- a row with a fault
pub ends : (to last : ℕ) (kept : List Row) (count i : ℕ) (bytes : List ℕ) (e : PackError) (total : Result (List Row × List ℕ) PackError)
    → i < count → row_at to last kept bytes ≡ Err e → rows_at (count - i) to last kept bytes ≡ total → total ≡ Err e
unfolding rows_at
ends to last kept count i bytes e total lt h so_far =
    let k : count - i ≡ suc (count - (i + 1)) = omega arith in
    let one : rows_at (count - i) to last kept bytes ≡ Err e = rw (k, h) refl in
    sym so_far ∙ one

-- no row is left
pub is_done : (to last : ℕ) (kept : List Row) (count i : ℕ) (bytes : List ℕ) (total : Result (List Row × List ℕ) PackError)
    → count ≤ i → rows_at (count - i) to last kept bytes ≡ total → total ≡ Ok (kept, bytes)
unfolding rows_at
is_done to last kept count i bytes total le so_far =
    let k : count - i ≡ 0 = omega arith in
    let one : rows_at (count - i) to last kept bytes ≡ Ok (kept, bytes) = rw k refl in
    sym so_far ∙ one
