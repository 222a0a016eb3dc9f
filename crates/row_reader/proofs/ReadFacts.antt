-- What the loop over the records knows.
use Rattle.std.proofs.Common.{◌≡◌, ◌≤◌, ◌<◌, ◌+◌, ℕ, Bool, true, false, List, [], ◌∷◌, ◌++◌, Option, Some, Result, Ok, Err, Bor, length, get_or, arith, refl, ◌∙◌, inl, inr}
use Rattle.std.proofs.lemmas.Bool.{cases_Bool, cases_lt}
use Rattle.std.proofs.lemmas.Bool.Decides.{nat_tests}
use Rattle.std.specs.Prelude.{◌&&◌, nat_le}
use Rattle.std.proofs.lemmas.List.{get_or_append_left, get_or_push, length_push}
use Rattle.std.specs.List.Sorted.{IsNonDecreasingBy}
use Rattle.csv.specs.Machine.{Read, next_record, ends_at_end}
use Rattle.csv.specs.Reading.{Ready, Reached, ReadRecord, default_config, source_of}
use Rattle.csv.specs.declared.reader.Reader.{Reader}
use Rattle.csv.specs.declared.parser.State.{State}
use Rattle.csv.specs.declared.reader.Trim.TheVariants as trim
use Rattle.csv.proofs.ReadFacts.{rows-end, rows-more}
use Rattle.sig_base.specs.declared.values.Row.{Row}
use Rattle.row_reader.specs.Order.{AreWithin}
use Rattle.row_reader.specs.CsvRest.{rest_records}
use Rattle.row_reader.specs.Rows.{Wanted, is_header, record_row, rows_after, good_rows, IsRefusal}
use Rattle.row_reader.specs.declared.row_error.RowError.TheVariants.{TooManyRows, Fields, WrongSignal, Stamp, OutsideHour, Code, Param, Memory}
use Rattle.row_reader.specs.declared.row_error.RowError.{RowError}
use Rattle.row_reader.proofs.CsvRestFacts.{rest_records-some, rest_records-none, next-shorter}

abbrev pub known : Bor (List ℕ) → Option (List ℕ)
known s = Some s.now

-- the reader stands before the record of this number, after these rows and so many headers
pub record IsAt (w : Wanted) (bytes : List ℕ) (r : Reader (Bor (List ℕ))) (headers : ℕ) (rows : List Row) (n : ℕ) : Type 0 where
  pub trims : r.trim ≡ trim.None
  pub ready : Ready r
  pub config : r.config ≡ default_config
  pub between : ends_at_end r.state ≡ false
  pub rest : List ℕ
  pub source : source_of known r ≡ Some rest
  pub same : good_rows w bytes ≡ rows_after w headers rows n (rest_records default_config r.state rest)

-- what a read shows of the text
pub record Took (a b : Reader (Bor (List ℕ))) (rest : List ℕ) (fields : List (List ℕ)) : Type 0 where
  pub left : List ℕ
  pub source : source_of known b ≡ Some left
  pub between : ends_at_end b.state ≡ false
  pub first : rest_records default_config a.state rest ≡ fields ∷ rest_records default_config b.state left

first-of : (s s2 : State) (xs z : List ℕ) (fields : List (List ℕ)) (p : Read)
    → ends_at_end s ≡ false → next_record default_config s [] [] xs ≡ Some p → fields ≡ p.0 → p.1 ≡ s2 → p.2 ≡ z
    → (ends_at_end s2 ≡ false) × (rest_records default_config s xs ≡ fields ∷ rest_records default_config s2 z)
first-of s s2 xs z fields p b e ef es ez =
    let k = next-shorter default_config xs s p b e in
    rw (ef, ← es, ← ez) (k.0, rest_records-some default_config s xs p b e)

took : (w : Wanted) (bytes : List ℕ) (a b : Reader (Bor (List ℕ))) (headers : ℕ) (rows : List Row) (n : ℕ) (fields : List (List ℕ))
    → (h : IsAt w bytes a headers rows n) → ReadRecord known a b true fields → Took a b h.rest fields
unfolding Reached
took w bytes a b headers rows n fields h r =
    let m = rows-more known a b fields default_config a.state h.rest h.rest [] h.config h.source (refl, refl) r in
    let q = m.2 in
    let f = first-of a.state b.state h.rest m.0 fields q.0 h.between q.1 q.2 q.3.0 q.3.1 in
    record { left = m.0; source = m.1; between = f.0; first = f.1 }

-- a row was read
pub read-on : (w : Wanted) (bytes : List ℕ) (a b : Reader (Bor (List ℕ))) (headers : ℕ) (rows : List Row) (n : ℕ) (fields : List (List ℕ)) (row : Row)
    → IsAt w bytes a headers rows n → ReadRecord known a b true fields → b.first ≡ true → is_header n fields ≡ false → record_row w headers n fields ≡ Ok row
    → IsAt w bytes b headers (rows ++ row ∷ []) (n + 1)
unfolding rows_after
read-on w bytes a b headers rows n fields row h r first plain e =
    let t = took w bytes a b headers rows n fields h r in
    record {
      trims = r.3 ∙ h.trims;
      ready = inl first;
      config = r.2 ∙ h.config;
      between = t.between;
      rest = t.left;
      source = t.source;
      same = h.same ∙ (rw (t.first, plain, e) refl);
    }

-- a record was refused
pub read-refused : (w : Wanted) (bytes : List ℕ) (a b : Reader (Bor (List ℕ))) (headers : ℕ) (rows : List Row) (n : ℕ) (fields : List (List ℕ)) (error : RowError)
    → IsAt w bytes a headers rows n → ReadRecord known a b true fields → is_header n fields ≡ false → record_row w headers n fields ≡ Err error → good_rows w bytes ≡ Err error
unfolding rows_after
read-refused w bytes a b headers rows n fields error h r plain e =
    let t = took w bytes a b headers rows n fields h r in
    h.same ∙ (rw (t.first, plain, e) refl)

-- no record was left
pub read-ended : (w : Wanted) (bytes : List ℕ) (a b : Reader (Bor (List ℕ))) (headers : ℕ) (rows : List Row) (n : ℕ) (fields : List (List ℕ))
    → IsAt w bytes a headers rows n → ReadRecord known a b false fields → good_rows w bytes ≡ Ok rows
unfolding rows_after
read-ended w bytes a b headers rows n fields h r =
    let e = rows-end known a b fields default_config h.rest h.config h.source r in
    h.same ∙ (rw (rest_records-none default_config a.state h.rest e) refl)

-- a header was read
pub read-header : (w : Wanted) (bytes : List ℕ) (a b : Reader (Bor (List ℕ))) (headers : ℕ) (rows : List Row) (n : ℕ) (fields : List (List ℕ))
    → IsAt w bytes a headers rows n → ReadRecord known a b true fields → b.first ≡ true → is_header n fields ≡ true
    → IsAt w bytes b 1 rows (n + 1)
unfolding rows_after
read-header w bytes a b headers rows n fields h r first head =
    let t = took w bytes a b headers rows n fields h r in
    record {
      trims = r.3 ∙ h.trims;
      ready = inl first;
      config = r.2 ∙ h.config;
      between = t.between;
      rest = t.left;
      source = t.source;
      same = h.same ∙ (rw (t.first, head) refl);
    }

-- one more row of the hour
pub within-more : (from to : ℕ) (rows : List Row) (row : Row) → AreWithin from to rows → from ≤ row.at → row.at < to → AreWithin from to (rows ++ row ∷ [])
within-more from to [] row h a b = (a, b, tt)
within-more from to (r ∷ rs) row h a b = (h.0, h.1, within-more from to rs row h.2 a b)

pub is_refusal : {A : Type 0} (want : Result A RowError) (e : RowError) → want ≡ Err e → IsRefusal want e
is_refusal want TooManyRows h = h
is_refusal want (Fields n) h = h
is_refusal want (WrongSignal n) h = h
is_refusal want (Stamp n) h = h
is_refusal want (OutsideHour n) h = h
is_refusal want (Code n) h = h
is_refusal want (Param n) h = h
is_refusal want Memory h = tt

-- no row is before the one in front of it, and none is after this tenth
abbrev pub RisesTo : ℕ → List Row → Type 0
RisesTo last rows = IsNonDecreasingBy (λ (r : Row). r.at) rows × ((i : ℕ) (d : Row) → i < length rows → (get_or rows i d).at ≤ last)

rise-below : (last : ℕ) (rows : List Row) (row : Row) (i : ℕ) (d : Row) → RisesTo last rows → last ≤ row.at → i < length (rows ++ row ∷ []) → (get_or (rows ++ row ∷ []) i d).at ≤ row.at
rise-below last rows row i d h le lt =
    let len = length_push rows row in
    elim (cases_lt i (length rows)) [
      | inl below ↦ rw (get_or_append_left rows (row ∷ []) d i below) (let b = h.1 i d below in omega arith)
      | inr above ↦ rw (get_or_push rows row d i (omega arith)) (omega arith)
    ]

rise-on : (last : ℕ) (rows : List Row) (row : Row) → RisesTo last rows → last ≤ row.at → RisesTo row.at (rows ++ row ∷ [])
rise-on last rows row h le =
    let len = length_push rows row in (
      λ i j d ij lt. elim (cases_lt j (length rows)) [
        | inl below ↦ rw (get_or_append_left rows (row ∷ []) d i (omega arith), get_or_append_left rows (row ∷ []) d j below) (h.0 i j d ij below)
        | inr above ↦ rw (get_or_push rows row d j (omega arith)) (rise-below last rows row i d h le (omega arith))
      ],
      λ i d lt. rise-below last rows row i d h le lt,
    )

-- one row more, where so far they rise and it isn't before the last
pub rise-more : (last : ℕ) (rows : List Row) (row : Row) (rise : Bool) → (rise ≡ true → RisesTo last rows) → (rise && nat_le last row.at) ≡ true → RisesTo row.at (rows ++ row ∷ [])
rise-more last rows row rise h is = elim (cases_Bool rise) [
  | inl on ↦ let t : nat_le last row.at ≡ true = rw on at is in rise-on last rows row (h on) (grind (arith, nat_tests, t))
  | inr off ↦ let bad : false ≡ true = rw off at is in absurd (cc)
]
