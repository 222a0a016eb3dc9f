-- Rows that are written one after the other.
use Rattle.std.proofs.Common.{◌≡◌, ◌≤◌, ◌<◌, ◌+◌, ◌*◌, ℕ, List, [], ◌∷◌, ◌++◌, length, drop, get_or, Ok, sym, ap, ◌∙◌, arith, append_assoc, append-nil}
use Rattle.std.specs.List.{AllByRecursion}
use Rattle.std.specs.Int.{w32, to_be_bytes}
use Rattle.std.proofs.Math.ListN.{drop_of_length-le}
use Rattle.sig_base.specs.declared.values.Row.{Row}
use Rattle.sig_base.specs.HourRows.{AreRowsOf, RiseIn}
use Rattle.sig_base.specs.Window.{Span}
use Rattle.sig_base.proofs.Common.{next_row}
use Rattle.row_reader.specs.Repeats.{HasNoRepeat}
use Rattle.hour_pack.specs.Grammar.{IsEvent, head_bytes, packed, row_bytes, rows_bytes}
use Rattle.hour_pack.specs.Reading.{reading}
use Rattle.hour_pack.proofs.ReadingFacts.{reading-again}

-- what is written and what is left are all of it
pub record IsPut (to : ℕ) (whole : List ℕ) (rows : List Row) (out : List ℕ) (last : ℕ) (rest : List Row) : Type 0 where
  pub told : out ++ rows_bytes last rest ≡ whole
  pub rise : RiseIn last to rest
  pub near : to ≤ last + 36000
  pub events : AllByRecursion IsEvent rest → AllByRecursion IsEvent rows

-- the next row is no earlier than the last one, and less than an hour later
pub put-near : (to : ℕ) (whole : List ℕ) (rows : List Row) (out : List ℕ) (last i : ℕ) (d : Row) → i < length rows
    → IsPut to whole rows out last (drop i rows) → (last ≤ (get_or rows i d).at) × ((get_or rows i d).at < last + 36000)
put-near to whole rows out last i d within h =
    let k : IsPut to whole rows out last (get_or rows i d ∷ drop (i + 1) rows) = rw (next_row rows i d within) at h in
    (k.rise.0, omega (arith, k.rise.1, k.near))

pub put-on : (to : ℕ) (whole : List ℕ) (rows : List Row) (out new : List ℕ) (last i : ℕ) (d : Row) → i < length rows
    → IsPut to whole rows out last (drop i rows) → new ≡ out ++ row_bytes last (get_or rows i d) → IsEvent (get_or rows i d)
    → IsPut to whole rows new (get_or rows i d).at (drop (i + 1) rows)
put-on to whole rows out new last i d within h e event =
    let row : Row = get_or rows i d in
    let k : IsPut to whole rows out last (row ∷ drop (i + 1) rows) = rw (next_row rows i d within) at h in
    record {
      told = ap (λ (xs : List ℕ). xs ++ rows_bytes row.at (drop (i + 1) rows)) e
          ∙ append_assoc out (row_bytes last row) (rows_bytes row.at (drop (i + 1) rows)) ∙ k.told;
      rise = k.rise.2;
      near = omega (arith, k.rise.0, k.near);
      events = λ rest. k.events (event, rest);
    }

-- nothing is left
pub put-end : (to : ℕ) (whole : List ℕ) (rows : List Row) (out : List ℕ) (last i : ℕ) → length rows ≤ i
    → IsPut to whole rows out last (drop i rows) → (out ≡ whole) × AllByRecursion IsEvent rows
put-end to whole rows out last i h k =
    let e : drop i rows ≡ [] = drop_of_length-le rows h in
    let m : IsPut to whole rows out last [] = rw e at k in
    (sym (append-nil out) ∙ m.told, m.events tt)

-- all parts, one after the other
packed-of : (signal : List ℕ) (window : Span) (hour : ℕ) (rows : List Row) (head counted all : List ℕ)
    → head ≡ [] ++ head_bytes signal window hour → counted ≡ head ++ to_be_bytes w32 (length rows) → all ≡ counted ++ rows_bytes (36000 * hour) rows
    → all ≡ packed signal window hour rows
unfolding packed
packed-of signal window hour rows head counted all ea eb ec =
    ec ∙ ap (λ (xs : List ℕ). xs ++ rows_bytes (36000 * hour) rows) (eb ∙ ap (λ (xs : List ℕ). xs ++ to_be_bytes w32 (length rows)) ea)

pub packed-is : (signal : List ℕ) (window : Span) (hour h : ℕ) (rows rs : List Row) (empty head count counted all : List ℕ)
    → h ≡ hour → rs ≡ rows → empty ≡ [] → head ≡ empty ++ head_bytes signal window h → count ≡ to_be_bytes w32 (length rs) → counted ≡ head ++ count
    → all ≡ counted ++ rows_bytes (36000 * h) rs → all ≡ packed signal window hour rows
packed-is signal window hour h rows rs empty head count counted all eh er ee ea ec eb es =
    let at_hour : all ≡ counted ++ rows_bytes (36000 * hour) rows = rw (eh, er) at es in
    let at_head : head ≡ [] ++ head_bytes signal window hour = rw (ee, eh) at ea in
    let number : count ≡ to_be_bytes w32 (length rows) = rw er at ec in
    packed-of signal window hour rows head counted all at_head (eb ∙ ap (λ (xs : List ℕ). head ++ xs) number) at_hour

pub packed-again : (signal : List ℕ) (window : Span) (hour : ℕ) (rows rs : List Row) (text : List ℕ)
    → text ≡ packed signal window hour rows → AreRowsOf hour rows → rs ≡ rows → AllByRecursion IsEvent rs → HasNoRepeat [] rows
    → reading signal window hour text ≡ Ok rows
packed-again signal window hour rows rs text e of_hour er events no_repeat =
    let those : AllByRecursion IsEvent rows = rw er at events in
    ap (reading signal window hour) e ∙ reading-again signal window hour rows (record { of_hour = of_hour; events = those; no_repeat = no_repeat })
