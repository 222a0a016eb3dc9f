-- What the records of a log file say.
use Rattle.std.proofs.Common.{inl, inr, ◌≡◌, ◌≢◌, ◌⊎◌, ℕ, suc, ◌+◌, ◌≤◌, Bool, true, false, List, [], ◌∷◌, ◌++◌, map, length, All, Result, Ok, Err, refl, sym, ap, subst, ◌∙◌, arith, append-nil, append_assoc, length-append}
use Rattle.std.specs.Prelude.{◌==◌, ◌||◌, zip, codes}
use Rattle.std.specs.Char.{to_ascii_lowercase}
use Rattle.std.specs.Str.{bytes_eq}
use Rattle.std.proofs.lemmas.Bool.Decides.{nat_tests}
use Rattle.std.proofs.lemmas.List.Elements.{All-cons, All-head, All-nil, All-tail}
use Rattle.std.proofs.lemmas.Slice.Eq.{bytes_eq-Decides}
use Rattle.csv.specs.Reading.{default_config, records, strip_bom}
use Rattle.csv.specs.Records.{field_at}
use Rattle.sig_base.proofs.Common.{clash, or_cases}
use Rattle.sig_base.specs.declared.values.Row.{Row}
use Rattle.row_reader.specs.declared.row_error.RowError.{RowError}
use Rattle.row_reader.specs.Rows.{Wanted, is_header, is_word, on_row, record_row, rows_after}
use Rattle.row_reader.specs.Trim.{trimmed}
use Rattle.record_laws.specs.Records.{GivesRow, IsRefused}
use Rattle.record_laws.specs.Files.{AreRefused, FilesAreRefused, FilesGiveRows, GiveRows, IsHeader}
use Rattle.record_laws.proofs.Records.{Outcome, record_is, record_told}

-- ---- the header

or_second : (a b : Bool) → b ≡ true → (a || b) ≡ true
or_second true b e = refl
or_second false b e = e

word_test : (text word : List ℕ) → text ≡ word → bytes_eq text word ≡ true
word_test text word e = (bytes_eq-Decides text word).1 e

header_is : (fields : List (List ℕ)) → is_header 1 fields ≡ true → IsHeader fields
unfolding field_at
header_is [] e = absurd (cc)
header_is (f ∷ fs) e =
    let lower : List ℕ = map to_ascii_lowercase (trimmed f) in
    elim (or_cases (bytes_eq lower (codes "signalid")) (bytes_eq lower (codes "locationidentifier")) e) [
      | inl q ↦ (trimmed f, map trimmed fs, refl, inl ((bytes_eq-Decides lower (codes "signalid")).0 q))
      | inr q ↦ (trimmed f, map trimmed fs, refl, inr ((bytes_eq-Decides lower (codes "locationidentifier")).0 q))
    ]

word_is : (text : List ℕ) → (map to_ascii_lowercase text ≡ codes "signalid") ⊎ (map to_ascii_lowercase text ≡ codes "locationidentifier") → (is_word (codes "signalid") text || is_word (codes "locationidentifier") text) ≡ true
word_is text (inl q) = rw (word_test (map to_ascii_lowercase text) (codes "signalid") q) refl
word_is text (inr q) =
    let lower : List ℕ = map to_ascii_lowercase text in
    or_second (bytes_eq lower (codes "signalid")) (bytes_eq lower (codes "locationidentifier")) (word_test lower (codes "locationidentifier") q)

same_first : {A : Type 0} (a b : A) (more others : List A) → (a ∷ more) ≡ (b ∷ others) → a ≡ b
same_first a b more others e = cc

header_test : (fields : List (List ℕ)) → IsHeader fields → is_header 1 fields ≡ true
unfolding field_at
header_test [] (first, others, e, word) = absurd (cc)
header_test (f ∷ fs) (first, others, e, word) =
    let same : trimmed f ≡ first = same_first (trimmed f) first (map trimmed fs) others e in
    subst (λ (x : List ℕ). (is_word (codes "signalid") x || is_word (codes "locationidentifier") x) ≡ true) (sym same) (word_is first word)

no_header_test : (fields : List (List ℕ)) → (¬ IsHeader fields) → is_header 1 fields ≡ false
no_header_test fields none = go (is_header 1 fields) refl
  where
    go : (b : Bool) → is_header 1 fields ≡ b → b ≡ false
    go true e = absurd (none (header_is fields e))
    go false e = refl

-- the first of these records, of which this is the number, is no header
abbrev BeginsPlain : ℕ → List (List (List ℕ)) → Type 0
BeginsPlain number rs = (fields : List (List ℕ)) (more : List (List (List ℕ))) → rs ≡ fields ∷ more → is_header number fields ≡ false

later_plain : (number : ℕ) (rs : List (List (List ℕ))) → 2 ≤ number → BeginsPlain number rs
later_plain number rs h fields more e = let t : (number == 1) ≡ false = grind (arith, nat_tests) in rw t refl

-- ---- each record the row of its place

abbrev Pair : Wanted → List (List ℕ) × Row → Type 0
Pair w pair = GivesRow w pair.0 pair.1

record AreEach (w : Wanted) (body : List (List (List ℕ))) (rows : List Row) : Type 0 where
  pub count : length body ≡ length rows
  pub each : All (Pair w) (zip body rows)

module _ (w : Wanted) where
  each_none : AreEach w [] []
  each_none = record { count = refl; each = All-nil (Pair w) }

  each_more : (r : List (List ℕ)) (row : Row) (rs : List (List (List ℕ))) (rows : List Row) → GivesRow w r row → AreEach w rs rows → AreEach w (r ∷ rs) (row ∷ rows)
  each_more r row rs rows g h = record { count = ap suc h.count; each = All-cons (Pair w) (r, row) (zip rs rows) g h.each }

  each_first : (r : List (List ℕ)) (row : Row) (rs : List (List (List ℕ))) (rows : List Row) → AreEach w (r ∷ rs) (row ∷ rows) → GivesRow w r row
  each_first r row rs rows h = All-head (Pair w) (r, row) (zip rs rows) h.each

  each_rest : (r : List (List ℕ)) (row : Row) (rs : List (List (List ℕ))) (rows : List Row) → AreEach w (r ∷ rs) (row ∷ rows) → AreEach w rs rows
  each_rest r row rs rows h = record { count = (let c = h.count in omega arith); each = All-tail (Pair w) (r, row) (zip rs rows) h.each }

-- ---- records behind a header, or without one

-- rows that come after some, of all these records
record AreGiven (w : Wanted) (acc : List Row) (rs : List (List (List ℕ))) (out : List Row) : Type 0 where
  pub rows : List Row
  pub is : out ≡ acc ++ rows
  pub few : length acc + length rs ≤ 400000
  pub each : AreEach w rs rows

-- the first of these records that is refused, after so many headers and some rows
record IsRefusal (w : Wanted) (headers : ℕ) (acc : List Row) (rs : List (List (List ℕ))) (error : RowError) : Type 0 where
  pub before : List (List (List ℕ))
  pub fields : List (List ℕ)
  pub after : List (List (List ℕ))
  pub rows : List Row
  pub parts : rs ≡ before ++ fields ∷ after
  pub each : AreEach w before rows
  pub count : ℕ
  pub count_is : count ≡ length acc + length rows
  pub few : count ≤ 400000
  pub number : ℕ
  pub number_is : number ≡ headers + count + 1
  pub refused : IsRefused w count number fields error

abbrev After : Wanted → ℕ → List Row → List (List (List ℕ)) → Result (List Row) RowError → Type 0
After w headers acc rs (Ok out) = AreGiven w acc rs out
After w headers acc rs (Err error) = IsRefusal w headers acc rs error

module _ (w : Wanted) (headers : ℕ) (acc : List Row) (r : List (List ℕ)) (rs : List (List (List ℕ))) where
  one_more : (row : Row) (x : Result (List Row) RowError) → GivesRow w r row → After w headers (acc ++ row ∷ []) rs x → After w headers acc (r ∷ rs) x
  one_more row (Ok out) g o =
      let l : length (acc ++ row ∷ []) ≡ length acc + 1 = length-append acc (row ∷ []) in
      let f = o.few in
      record { rows = row ∷ o.rows; is = o.is ∙ append_assoc acc (row ∷ []) o.rows; few = omega arith; each = each_more w r row rs o.rows g o.each }
  one_more row (Err error) g o =
      let l : length (acc ++ row ∷ []) ≡ length acc + 1 = length-append acc (row ∷ []) in
      let c = o.count_is in
      record {
        before = r ∷ o.before;
        fields = o.fields;
        after = o.after;
        rows = row ∷ o.rows;
        parts = ap (λ (x : List (List (List ℕ))). r ∷ x) o.parts;
        each = each_more w r row o.before o.rows g o.each;
        count = o.count;
        count_is = omega arith;
        few = o.few;
        number = o.number;
        number_is = o.number_is;
        refused = o.refused;
      }

  one_step : (number : ℕ) → number ≡ headers + length acc + 1 → length acc ≤ 400000 → (x : Result Row RowError) (more : Row → Result (List Row) RowError)
      → ((row : Row) → length acc ≢ 400000 → After w headers (acc ++ row ∷ []) rs (more row)) → Outcome w (length acc) number r x → After w headers acc (r ∷ rs) (on_row x more)
  one_step number counted few (Ok row) more rest o = one_more row (more row) o.1 (rest row o.0)
  one_step number counted few (Err error) more rest o = record {
    before = [];
    fields = r;
    after = rs;
    rows = [];
    parts = refl;
    each = each_none w;
    count = length acc;
    count_is = omega arith;
    few = few;
    number = number;
    number_is = counted;
    refused = o;
  }

told_after : (w : Wanted) (headers : ℕ) (acc : List Row) (number : ℕ) (rs : List (List (List ℕ))) → BeginsPlain number rs → number ≡ headers + length acc + 1 → length acc ≤ 400000
    → After w headers acc rs (rows_after w headers acc number rs)
unfolding rows_after
told_after w headers acc number [] plain counted few = record { rows = []; is = sym (append-nil acc); few = omega arith; each = each_none w }
told_after w headers acc number (r ∷ rs) plain counted few =
    let rest = λ (row : Row) (room : length acc ≢ 400000).
    let l : length (acc ++ row ∷ []) ≡ length acc + 1 = length-append acc (row ∷ []) in
    told_after w headers (acc ++ row ∷ []) (number + 1) rs (later_plain (number + 1) rs (omega arith)) (omega arith) (omega arith) in
    let told = one_step w headers acc r rs number counted few (record_row w headers number r) (λ row. rows_after w headers (acc ++ row ∷ []) (number + 1) rs) rest
    (record_told w headers (length acc) number r counted) in
    rw (plain r rs refl) told

-- a record that is no header, and those after it
after_one : (w : Wanted) (headers : ℕ) (acc : List Row) (number : ℕ) (r : List (List ℕ)) (rs : List (List (List ℕ))) (x : Result Row RowError) → is_header number r ≡ false → record_row w headers number r ≡ x
    → rows_after w headers acc number (r ∷ rs) ≡ on_row x (λ row. rows_after w headers (acc ++ row ∷ []) (number + 1) rs)
unfolding rows_after
after_one w headers acc number r rs x plain e =
    rw plain (ap (λ (y : Result Row RowError). on_row y (λ row. rows_after w headers (acc ++ row ∷ []) (number + 1) rs)) e)

given_after : (w : Wanted) (headers : ℕ) (acc : List Row) (number : ℕ) (rs : List (List (List ℕ))) (rows : List Row) → BeginsPlain number rs → number ≡ headers + length acc + 1
    → length acc + length rs ≤ 400000 → AreEach w rs rows → rows_after w headers acc number rs ≡ Ok (acc ++ rows)
unfolding rows_after
given_after w headers acc number [] [] plain counted few h = ap (λ (x : List Row). Ok x) (sym (append-nil acc))
given_after w headers acc number [] (row ∷ rows) plain counted few h = let c = h.count in absurd (omega arith)
given_after w headers acc number (r ∷ rs) [] plain counted few h = let c = h.count in absurd (omega arith)
given_after w headers acc number (r ∷ rs) (row ∷ rows) plain counted few h =
    let l : length (acc ++ row ∷ []) ≡ length acc + 1 = length-append acc (row ∷ []) in
    let room : length acc ≢ 400000 = λ e. omega arith in
    let one = record_is w headers (length acc) number r counted (Ok row) (room, each_first w r row rs rows h) in
    after_one w headers acc number r rs (Ok row) (plain r rs refl) one
    ∙ given_after w headers (acc ++ row ∷ []) (number + 1) rs rows (later_plain (number + 1) rs (omega arith)) (omega arith) (omega arith) (each_rest w r row rs rows h)
    ∙ ap (λ (x : List Row). Ok x) (append_assoc acc (row ∷ []) rows)

moved : (w : Wanted) (count number count2 number2 : ℕ) (fields : List (List ℕ)) (error : RowError) → count ≡ count2 → number ≡ number2 → IsRefused w count number fields error → IsRefused w count2 number2 fields error
moved w count number count2 number2 fields error c n h = subst (λ (x : ℕ). IsRefused w count2 x fields error) n (subst (λ (x : ℕ). IsRefused w x number fields error) c h)

refused_after : (w : Wanted) (headers : ℕ) (acc : List Row) (number : ℕ) (before : List (List (List ℕ))) (fields : List (List ℕ)) (after : List (List (List ℕ))) (rows : List Row) (error : RowError)
    → BeginsPlain number (before ++ fields ∷ after) → number ≡ headers + length acc + 1 → length acc + length rows ≤ 400000 → AreEach w before rows
    → (count at : ℕ) → count ≡ length acc + length rows → at ≡ headers + count + 1 → IsRefused w count at fields error
    → rows_after w headers acc number (before ++ fields ∷ after) ≡ Err error
unfolding rows_after
refused_after w headers acc number [] fields after [] error plain counted few h count at c n refused =
    let here : IsRefused w (length acc) number fields error = moved w count at (length acc) number fields error (omega arith) (omega arith) refused in
    after_one w headers acc number fields after (Err error) (plain fields after refl) (record_is w headers (length acc) number fields counted (Err error) here)
refused_after w headers acc number [] fields after (row ∷ rows) error plain counted few h count at c n refused = let e = h.count in absurd (omega arith)
refused_after w headers acc number (r ∷ rs) fields after [] error plain counted few h count at c n refused = let e = h.count in absurd (omega arith)
refused_after w headers acc number (r ∷ rs) fields after (row ∷ rows) error plain counted few h count at c n refused =
    let rest : List (List (List ℕ)) = rs ++ fields ∷ after in
    let l : length (acc ++ row ∷ []) ≡ length acc + 1 = length-append acc (row ∷ []) in
    let room : length acc ≢ 400000 = λ e. omega arith in
    let one = record_is w headers (length acc) number r counted (Ok row) (room, each_first w r row rs rows h) in
    after_one w headers acc number r rest (Ok row) (plain r rest refl) one
    ∙ refused_after w headers (acc ++ row ∷ []) (number + 1) rs fields after rows error (later_plain (number + 1) rest (omega arith)) (omega arith) (omega arith) (each_rest w r row rs rows h) count at (omega arith) n refused

-- ---- the file

abbrev FileOutcome : Wanted → List (List (List ℕ)) → Result (List Row) RowError → Type 0
FileOutcome w recs (Ok rows) = GiveRows w recs rows
FileOutcome w recs (Err error) = AreRefused w recs error

-- none of these records comes first and is a header
abbrev NoHeader : List (List (List ℕ)) → Type 0
NoHeader recs = (first : List (List ℕ)) (others : List (List (List ℕ))) → recs ≡ first ∷ others → ¬ IsHeader first

module _ (w : Wanted) where
  from_header : (r : List (List ℕ)) (rs : List (List (List ℕ))) (x : Result (List Row) RowError) → IsHeader r → After w 1 [] rs x → FileOutcome w (r ∷ rs) x
  from_header r rs (Ok out) is o =
      let e = o.each in
      let f = o.few in
      subst (λ (y : List Row). GiveRows w (r ∷ rs) y) (sym o.is) (record { body = rs; behind = inl (r, refl, is); few = omega arith; count = e.count; each = e.each })
  from_header r rs (Err error) is o =
      let e = o.each in
      let f = o.few in
      let c = o.count_is in
      let n = o.number_is in
      let l = e.count in
      record {
        before = r ∷ o.before;
        fields = o.fields;
        after = o.after;
        rows = o.rows;
        parts = ap (λ (y : List (List (List ℕ))). r ∷ y) o.parts;
        good = record { body = o.before; behind = inl (r, refl, is); few = omega arith; count = e.count; each = e.each };
        no_header = λ none. cc;
        refused = moved w o.count o.number (length o.rows) (length (r ∷ o.before) + 1) o.fields error (omega arith) (omega arith) o.refused;
      }

  from_whole : (rs : List (List (List ℕ))) (x : Result (List Row) RowError) → NoHeader rs → After w 0 [] rs x → FileOutcome w rs x
  from_whole rs (Ok out) none o =
      let e = o.each in
      let f = o.few in
      subst (λ (y : List Row). GiveRows w rs y) (sym o.is) (record { body = rs; behind = inr (refl, none); few = omega arith; count = e.count; each = e.each })
  from_whole rs (Err error) none o =
      let e = o.each in
      let f = o.few in
      let c = o.count_is in
      let n = o.number_is in
      let l = e.count in
      let rest : List (List (List ℕ)) = o.fields ∷ o.after in
      record {
        before = o.before;
        fields = o.fields;
        after = o.after;
        rows = o.rows;
        parts = o.parts;
        good = record {
          body = o.before;
          behind = inr (refl, λ first others is. none first (others ++ rest) (o.parts ∙ ap (λ (y : List (List (List ℕ))). y ++ rest) is));
          few = omega arith;
          count = e.count;
          each = e.each;
        };
        no_header = λ is. none o.fields o.after (o.parts ∙ ap (λ (y : List (List (List ℕ))). y ++ rest) is);
        refused = moved w o.count o.number (length o.rows) (length o.before + 1) o.fields error (omega arith) (omega arith) o.refused;
      }

  file_told : (recs : List (List (List ℕ))) → FileOutcome w recs (rows_after w 0 [] 1 recs)
  unfolding rows_after
  file_told [] = from_whole [] (rows_after w 0 [] 1 []) (λ first others e. absurd (cc)) (told_after w 0 [] 1 [] (λ fields more e. absurd (cc)) refl (omega arith))
  file_told (r ∷ rs) = go (is_header 1 r) refl
    where
      go : (b : Bool) → is_header 1 r ≡ b → FileOutcome w (r ∷ rs) (rows_after w 0 [] 1 (r ∷ rs))
      go true e = rw e (from_header r rs (rows_after w 1 [] 2 rs) (header_is r e) (told_after w 1 [] 2 rs (later_plain 2 rs (omega arith)) refl (omega arith)))
      go false e =
          let plain : BeginsPlain 1 (r ∷ rs) = λ fields more is. subst (λ (y : List (List ℕ)). is_header 1 y ≡ false) (same_first r fields rs more is) e in
          let none : NoHeader (r ∷ rs) = λ first others is header. clash (is_header 1 first) (header_test first header) (plain first others is) in
          from_whole (r ∷ rs) (rows_after w 0 [] 1 (r ∷ rs)) none (told_after w 0 [] 1 (r ∷ rs) plain refl (omega arith))

  behind_header : (r : List (List ℕ)) (rs : List (List (List ℕ))) → IsHeader r → rows_after w 0 [] 1 (r ∷ rs) ≡ rows_after w 1 [] 2 rs
  unfolding rows_after
  behind_header r rs is = rw (header_test r is) refl

  plain_of : (recs : List (List (List ℕ))) → NoHeader recs → BeginsPlain 1 recs
  plain_of recs none fields more e = no_header_test fields (none fields more e)

  -- records of which none is a header and comes first, and then another one that is none
  plain_before : (before : List (List (List ℕ))) (fields : List (List ℕ)) (after : List (List (List ℕ))) → NoHeader before → (before ≡ [] → ¬ IsHeader fields) → NoHeader (before ++ fields ∷ after)
  plain_before [] fields after none last first others e is = last refl (subst (λ (y : List (List ℕ)). IsHeader y) (let same : first ≡ fields = cc in same) is)
  plain_before (b ∷ bs) fields after none last first others e is = none b bs refl (subst (λ (y : List (List ℕ)). IsHeader y) (let same : first ≡ b = cc in same) is)

  rows_are : (recs : List (List (List ℕ))) (rows : List Row) → GiveRows w recs rows → rows_after w 0 [] 1 recs ≡ Ok rows
  rows_are recs rows g =
      let e : AreEach w g.body rows = record { count = g.count; each = g.each } in
      let f = g.few in
      elim g.behind [
        | inl (header, parts, is) ↦
            ap (λ (y : List (List (List ℕ))). rows_after w 0 [] 1 y) parts ∙ behind_header header g.body is
            ∙ given_after w 1 [] 2 g.body rows (later_plain 2 g.body (omega arith)) refl (omega arith) e
        | inr (same, none) ↦
            given_after w 0 [] 1 recs rows (plain_of recs none) refl (rw same (omega arith)) (subst (λ (y : List (List (List ℕ))). AreEach w y rows) (sym same) e)
      ]

  refusal_is : (recs : List (List (List ℕ))) (error : RowError) → AreRefused w recs error → rows_after w 0 [] 1 recs ≡ Err error
  refusal_is recs error g =
      let good = g.good in
      let e : AreEach w good.body g.rows = record { count = good.count; each = good.each } in
      let f = good.few in
      let c = good.count in
      elim good.behind [
        | inl (header, parts, is) ↦
            let all : recs ≡ header ∷ (good.body ++ g.fields ∷ g.after) = g.parts ∙ ap (λ (y : List (List (List ℕ))). y ++ g.fields ∷ g.after) parts in
            let l : length g.before ≡ suc (length good.body) = ap length parts in
            ap (λ (y : List (List (List ℕ))). rows_after w 0 [] 1 y) all ∙ behind_header header (good.body ++ g.fields ∷ g.after) is
            ∙ refused_after w 1 [] 2 good.body g.fields g.after g.rows error (later_plain 2 (good.body ++ g.fields ∷ g.after) (omega arith)) refl (omega arith) e (length g.rows) (length g.before + 1) (omega arith) (omega arith) g.refused
        | inr (same, none) ↦
            let l : length g.before ≡ length good.body = ap length same in
            ap (λ (y : List (List (List ℕ))). rows_after w 0 [] 1 y) g.parts
            ∙ refused_after w 0 [] 1 g.before g.fields g.after g.rows error (plain_of (g.before ++ g.fields ∷ g.after) (plain_before g.before g.fields g.after none g.no_header)) refl (omega arith)
            (subst (λ (y : List (List (List ℕ))). AreEach w y g.rows) (sym same) e) (length g.rows) (length g.before + 1) (omega arith) (omega arith) g.refused
      ]

pub files_give : FilesGiveRows
files_give w bytes rows =
    let recs : List (List (List ℕ)) = records default_config (strip_bom bytes) in (
      λ e. subst (λ (x : Result (List Row) RowError). FileOutcome w recs x) e (file_told w recs),
      rows_are w recs rows,
    )

pub files_refused : FilesAreRefused
files_refused w bytes error =
    let recs : List (List (List ℕ)) = records default_config (strip_bom bytes) in (
      λ e. subst (λ (x : Result (List Row) RowError). FileOutcome w recs x) e (file_told w recs),
      refusal_is w recs error,
    )
