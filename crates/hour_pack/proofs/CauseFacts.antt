-- Where a cause is there, its fault is read.
use Rattle.std.proofs.Common.{◌≡◌, ◌≢◌, ◌≤◌, ◌<◌, ◌-◌, ◌*◌, ◌↔◌, ℕ, Bool, true, false, List, [], ◌∷◌, ◌++◌, length, take, drop, Result, Ok, Err, refl, sym, ap, ◌∙◌, arith, inl, inr, nat_lt, nat_eq, if◌then◌else◌, append_assoc}
use Rattle.std.specs.Prelude.{◌⊎◌}
use Rattle.std.specs.List.{starts_with}
use Rattle.std.specs.Int.{w32, to_be_bytes}
use Rattle.std.proofs.lemmas.Bool.{lt-ltb}
use Rattle.std.proofs.lemmas.List.{take-append-le}
use Rattle.sig_base.specs.declared.values.Row.{Row}
use Rattle.sig_base.specs.Window.{Span}
use Rattle.hour_pack.specs.declared.pack_error.PackError.{PackError}
use Rattle.hour_pack.specs.declared.pack_error.PackError.TheVariants.{NotPacked, Short, WrongSignal, WrongHour, TooManyRows, Extra, Memory}
use Rattle.hour_pack.specs.declared.pack_error.PackError.TheVariants.{Row as BadRow}
use Rattle.hour_pack.specs.Faults.{Differs, EndsWithin, IsBadRow, bad_since, past_hour, bad_param, large_param, repeated, Begins, EndsEarly, in_head, in_count, in_row, hour_end, last_tenth, HasCause}
use Rattle.hour_pack.specs.Grammar.{AreBytes, ArePackable, head_bytes, hour_part, mark, packed, row_bytes, rows_bytes, signal_part}
use Rattle.hour_pack.specs.Number.{number_bytes}
use Rattle.hour_pack.specs.Reading.{◌>>=◌, after_head, after_mark, after_part, at_end, count_at, few_rows, hour_rows, reading, row_at, rows_at}
use Rattle.hour_pack.proofs.Bytes.{bind_is, bind_fails}
use Rattle.hour_pack.proofs.NumberFaults.{bad-more}
use Rattle.hour_pack.proofs.PartFacts.{starts, head-again, count-read, count-again, part-again}
use Rattle.hour_pack.proofs.PartFaults.{part-short, part-wrong, differs-split, differs-more, ends-split}
use Rattle.hour_pack.proofs.RowFaults.{RowFails, fails-again, rows-fail-again, last-low}
use Rattle.hour_pack.proofs.ReadingFacts.{reading-read, reading-takes, reading-again}
use Rattle.hour_pack.proofs.ReadingFaults.{end-extra, reading-fails, if-short}

-- ---- the head, step by step

abbrev behind_signal : Span → ℕ → List ℕ → Result (List ℕ) PackError
behind_signal window hour body = after_part WrongHour (hour_part window hour) body

abbrev behind_length : List ℕ → Span → ℕ → List ℕ → Result (List ℕ) PackError
behind_length signal window hour body = after_part WrongSignal signal body >>= behind_signal window hour

abbrev behind_mark : List ℕ → Span → ℕ → List ℕ → Result (List ℕ) PackError
behind_mark signal window hour body = after_part WrongSignal (length signal ∷ []) body >>= behind_length signal window hour

mark-on : (signal : List ℕ) (window : Span) (hour : ℕ) (rest : List ℕ) → after_head signal window hour (mark ++ rest) ≡ behind_mark signal window hour rest
unfolding after_head
mark-on signal window hour rest = refl

length-on : (signal : List ℕ) (window : Span) (hour : ℕ) (rest : List ℕ) → behind_mark signal window hour ((length signal ∷ []) ++ rest) ≡ behind_length signal window hour rest
length-on signal window hour rest =
    bind_is (after_part WrongSignal (length signal ∷ []) ((length signal ∷ []) ++ rest)) rest (behind_length signal window hour) (part-again WrongSignal (length signal ∷ []) rest)

signal-on : (signal : List ℕ) (window : Span) (hour : ℕ) (rest : List ℕ) → behind_length signal window hour (signal ++ rest) ≡ behind_signal window hour rest
signal-on signal window hour rest =
    bind_is (after_part WrongSignal signal (signal ++ rest)) rest (behind_signal window hour) (part-again WrongSignal signal rest)

wrong-signal : (signal : List ℕ) (window : Span) (hour : ℕ) (rest : List ℕ) → Differs (signal_part signal) rest → behind_mark signal window hour rest ≡ Err WrongSignal
wrong-signal signal window hour rest d = by (differs-split (length signal ∷ []) signal rest d)
  where
    by : Differs (length signal ∷ []) rest ⊎ ((more : List ℕ) × (rest ≡ (length signal ∷ []) ++ more) × Differs signal more) → behind_mark signal window hour rest ≡ Err WrongSignal
    by (inl c) = bind_fails (after_part WrongSignal (length signal ∷ []) rest) (behind_length signal window hour) WrongSignal (part-wrong WrongSignal (length signal ∷ []) rest c)
    by (inr p) =
        ap (behind_mark signal window hour) p.1 ∙ length-on signal window hour p.0
        ∙ bind_fails (after_part WrongSignal signal p.0) (behind_signal window hour) WrongSignal (part-wrong WrongSignal signal p.0 p.2)

short-signal : (signal : List ℕ) (window : Span) (hour : ℕ) (rest : List ℕ) → EndsWithin (signal ++ hour_part window hour) rest → behind_length signal window hour rest ≡ Err Short
short-signal signal window hour rest h = by (ends-split signal (hour_part window hour) rest h)
  where
    by : EndsWithin signal rest ⊎ ((more : List ℕ) × (rest ≡ signal ++ more) × EndsWithin (hour_part window hour) more) → behind_length signal window hour rest ≡ Err Short
    by (inl c) = bind_fails (after_part WrongSignal signal rest) (behind_signal window hour) Short (part-short WrongSignal signal rest c)
    by (inr p) =
        ap (behind_length signal window hour) p.1 ∙ signal-on signal window hour p.0 ∙ part-short WrongHour (hour_part window hour) p.0 p.2

short-head : (signal : List ℕ) (window : Span) (hour : ℕ) (rest : List ℕ) → EndsWithin (signal_part signal ++ hour_part window hour) rest → behind_mark signal window hour rest ≡ Err Short
short-head signal window hour rest h = by (ends-split (length signal ∷ []) (signal ++ hour_part window hour) rest h)
  where
    by : EndsWithin (length signal ∷ []) rest ⊎ ((more : List ℕ) × (rest ≡ (length signal ∷ []) ++ more) × EndsWithin (signal ++ hour_part window hour) more)
        → behind_mark signal window hour rest ≡ Err Short
    by (inl c) = bind_fails (after_part WrongSignal (length signal ∷ []) rest) (behind_length signal window hour) Short (part-short WrongSignal (length signal ∷ []) rest c)
    by (inr p) = ap (behind_mark signal window hour) p.1 ∙ length-on signal window hour p.0 ∙ short-signal signal window hour p.0 p.2

-- ---- the head and what is behind it

head-fault : (signal : List ℕ) (window : Span) (hour : ℕ) (bytes : List ℕ) (e : PackError) → after_head signal window hour bytes ≡ Err e → reading signal window hour bytes ≡ Err e
unfolding reading
head-fault signal window hour bytes e h = bind_fails (after_head signal window hour bytes) (hour_rows hour) e h

not-packed : (signal : List ℕ) (window : Span) (hour : ℕ) (bytes : List ℕ) → take 4 bytes ≢ mark → after_head signal window hour bytes ≡ Err NotPacked
unfolding after_head
not-packed signal window hour bytes n =
    bind_fails (after_mark bytes) (behind_mark signal window hour) NotPacked (no (starts_with nat_eq bytes mark) (λ t. n (ap (take 4) (starts bytes mark t))))
  where
    no : (b : Bool) → (b ≡ true → ⊥) → (if b then Ok (drop 4 bytes) else Err NotPacked) ≡ Err NotPacked
    no true h = absurd (h refl)
    no false h = refl

body-fault : (signal : List ℕ) (window : Span) (hour : ℕ) (body : List ℕ) (e : PackError) → hour_rows hour body ≡ Err e
    → reading signal window hour (head_bytes signal window hour ++ body) ≡ Err e
unfolding reading
body-fault signal window hour body e h =
    bind_is (after_head signal window hour (head_bytes signal window hour ++ body)) body (hour_rows hour) (head-again signal window hour body) ∙ h

count-fault : (hour : ℕ) (body : List ℕ) (e : PackError) → count_at body ≡ Err e → hour_rows hour body ≡ Err e
unfolding hour_rows
count-fault hour body e h = bind_fails (count_at body) (λ count. rows_at count.0 (hour_end hour) (36000 * hour) [] count.1 >>= at_end) e h

rows-fault : (hour count : ℕ) (rest : List ℕ) (e : PackError) → count ≤ 400000 → rows_at count (hour_end hour) (36000 * hour) [] rest ≡ Err e
    → hour_rows hour (to_be_bytes w32 count ++ rest) ≡ Err e
unfolding hour_rows
rows-fault hour count rest e few h =
    bind_is (count_at (to_be_bytes w32 count ++ rest)) (count, rest) (λ count. rows_at count.0 (hour_end hour) (36000 * hour) [] count.1 >>= at_end) (count-again count rest few)
    ∙ bind_fails (rows_at count (hour_end hour) (36000 * hour) [] rest) at_end e h

few-fault : (count : ℕ) (rest : List ℕ) → 400000 < count → few_rows (count, rest) ≡ Err TooManyRows
few-fault count rest h = let t : nat_lt 400000 count ≡ true = lt-ltb 400000 count h in rw t refl

-- ---- rows

begins-fault : (signal : List ℕ) (window : Span) (hour : ℕ) (bytes : List ℕ) (e : PackError) (b : Begins signal window hour bytes)
    → RowFails (hour_end hour) (last_tenth (36000 * hour) b.rows) b.rows b.rest e → reading signal window hour bytes ≡ Err e
begins-fault signal window hour bytes e b f =
    let head : List ℕ = head_bytes signal window hour in
    let text : List ℕ = to_be_bytes w32 b.count in
    let written : List ℕ = rows_bytes (36000 * hour) b.rows in
    let parts : bytes ≡ head ++ (text ++ (written ++ b.rest)) = b.parts ∙ append_assoc (head ++ text) written b.rest ∙ append_assoc head text (written ++ b.rest) in
    let low = last-low (36000 * hour) (hour_end hour) b.rows b.packable.of_hour.rise in
    let here : row_at (hour_end hour) (last_tenth (36000 * hour) b.rows) b.rows b.rest ≡ Err e =
    fails-again (hour_end hour) (last_tenth (36000 * hour) b.rows) b.rows b.rest e (omega (arith, low)) f in
    ap (reading signal window hour) parts
    ∙ body-fault signal window hour (text ++ (written ++ b.rest)) e
    (rows-fault hour b.count (written ++ b.rest) e b.few
    (rows-fail-again b.count (hour_end hour) (36000 * hour) [] b.rows b.rest e (omega arith) b.fewer b.packable.of_hour.rise b.packable.events b.packable.no_repeat here))

-- ---- all causes

early-fault : (signal : List ℕ) (window : Span) (hour : ℕ) (bytes : List ℕ) → EndsEarly signal window hour bytes → reading signal window hour bytes ≡ Err Short
early-fault signal window hour bytes (in_head rest k h) =
    ap (reading signal window hour) k ∙ head-fault signal window hour (mark ++ rest) Short (mark-on signal window hour rest ∙ short-head signal window hour rest h)
early-fault signal window hour bytes (in_count rest k h) =
    ap (reading signal window hour) k ∙ body-fault signal window hour rest Short (count-fault hour rest Short (if-short rest h))
early-fault signal window hour bytes (in_row b h) = begins-fault signal window hour bytes Short b (inl (refl, h))

pub cause-fault : (signal : List ℕ) (window : Span) (hour : ℕ) (bytes : List ℕ) (e : PackError) → HasCause signal window hour bytes e → reading signal window hour bytes ≡ Err e
cause-fault signal window hour bytes NotPacked h = head-fault signal window hour bytes NotPacked (not-packed signal window hour bytes h)
cause-fault signal window hour bytes Short h = early-fault signal window hour bytes h
cause-fault signal window hour bytes WrongSignal h =
    ap (reading signal window hour) h.1
    ∙ head-fault signal window hour (mark ++ h.0) WrongSignal (mark-on signal window hour h.0 ∙ wrong-signal signal window hour h.0 h.2)
cause-fault signal window hour bytes WrongHour h =
    let behind : List ℕ = signal_part signal ++ h.0 in
    ap (reading signal window hour) (h.1 ∙ append_assoc mark (signal_part signal) h.0)
    ∙ head-fault signal window hour (mark ++ behind) WrongHour
    (mark-on signal window hour behind ∙ length-on signal window hour (signal ++ h.0) ∙ signal-on signal window hour h.0
    ∙ part-wrong WrongHour (hour_part window hour) h.0 h.2)
cause-fault signal window hour bytes TooManyRows h =
    let text : List ℕ = to_be_bytes w32 h.0 in
    ap (reading signal window hour) (h.4 ∙ append_assoc (head_bytes signal window hour) text h.1)
    ∙ body-fault signal window hour (text ++ h.1) TooManyRows
    (count-fault hour (text ++ h.1) TooManyRows (count-read h.0 h.1 h.3 ∙ few-fault h.0 h.1 h.2))
cause-fault signal window hour bytes (BadRow n) h = begins-fault signal window hour bytes (BadRow n) h.0 (inr (ap (λ (k : ℕ). BadRow k) h.1, h.2))
cause-fault signal window hour bytes Extra h =
    ap (reading signal window hour) h.4 ∙ reading-read signal window hour h.0 (h.1 ∷ h.2) h.3 ∙ end-extra h.0 h.1 h.2
cause-fault signal window hour bytes Memory h = absurd h

pub causes-exact : (signal : List ℕ) (window : Span) (hour : ℕ) (bytes : List ℕ) (e : PackError) → hour < 744 → AreBytes bytes
    → (reading signal window hour bytes ≡ Err e) ↔ HasCause signal window hour bytes e
causes-exact signal window hour bytes e in_range fits =
    (reading-fails signal window hour bytes e in_range fits, cause-fault signal window hour bytes e)

-- ---- whatever follows

bad-row-more : (to last : ℕ) (kept : List Row) (bytes more : List ℕ) → IsBadRow to last kept bytes → IsBadRow to last kept (bytes ++ more)
bad-row-more to last kept bytes more (bad_since h) = bad_since (bad-more bytes more h)
bad-row-more to last kept bytes more (past_hour since rest small parts h) =
    past_hour since (rest ++ more) small (ap (λ (xs : List ℕ). xs ++ more) parts ∙ append_assoc (number_bytes since) rest more) h
bad-row-more to last kept bytes more (bad_param at code rest low high parts h) =
    bad_param at code (rest ++ more) low high (ap (λ (xs : List ℕ). xs ++ more) parts ∙ append_assoc (number_bytes (at - last)) (code ∷ rest) more) (bad-more rest more h)
bad-row-more to last kept bytes more (large_param at code param rest low high large small parts) =
    large_param at code param (rest ++ more) low high large small
    (ap (λ (xs : List ℕ). xs ++ more) parts ∙ append_assoc (number_bytes (at - last)) (code ∷ (number_bytes param ++ rest)) more
    ∙ ap (λ (xs : List ℕ). number_bytes (at - last) ++ code ∷ xs) (append_assoc (number_bytes param) rest more))
bad-row-more to last kept bytes more (repeated row rest low high event parts h) =
    repeated row (rest ++ more) low high event (ap (λ (xs : List ℕ). xs ++ more) parts ∙ append_assoc (row_bytes last row) rest more) h

abbrev begins-more : (signal : List ℕ) (window : Span) (hour : ℕ) (bytes more : List ℕ) → Begins signal window hour bytes → Begins signal window hour (bytes ++ more)
begins-more signal window hour bytes more b = record {
  count = b.count;
  rows = b.rows;
  rest = b.rest ++ more;
  few = b.few;
  fewer = b.fewer;
  packable = b.packable;
  parts = ap (λ (xs : List ℕ). xs ++ more) b.parts
      ∙ append_assoc (head_bytes signal window hour ++ to_be_bytes w32 b.count ++ rows_bytes (36000 * hour) b.rows) b.rest more;
}

pub cause-more : (signal : List ℕ) (window : Span) (hour : ℕ) (bytes more : List ℕ) (e : PackError) → 4 ≤ length bytes → e ≢ Short
    → HasCause signal window hour bytes e → HasCause signal window hour (bytes ++ more) e
cause-more signal window hour bytes more NotPacked long n h = λ k. h (sym (take-append-le 4 bytes more long) ∙ k)
cause-more signal window hour bytes more Short long n h = absurd (n refl)
cause-more signal window hour bytes more WrongSignal long n h =
    (h.0 ++ more, ap (λ (xs : List ℕ). xs ++ more) h.1 ∙ append_assoc mark h.0 more, differs-more (signal_part signal) h.0 more h.2)
cause-more signal window hour bytes more WrongHour long n h =
    (h.0 ++ more, ap (λ (xs : List ℕ). xs ++ more) h.1 ∙ append_assoc (mark ++ signal_part signal) h.0 more, differs-more (hour_part window hour) h.0 more h.2)
cause-more signal window hour bytes more TooManyRows long n h =
    (h.0, h.1 ++ more, h.2, h.3, ap (λ (xs : List ℕ). xs ++ more) h.4 ∙ append_assoc (head_bytes signal window hour ++ to_be_bytes w32 h.0) h.1 more)
cause-more signal window hour bytes more (BadRow k) long n h =
    (begins-more signal window hour bytes more h.0, h.1, bad-row-more (hour_end hour) (last_tenth (36000 * hour) h.0.rows) h.0.rows h.0.rest more h.2)
cause-more signal window hour bytes more Extra long n h =
    (h.0, h.1, h.2 ++ more, h.3, ap (λ (xs : List ℕ). xs ++ more) h.4 ∙ append_assoc (packed signal window hour h.0) (h.1 ∷ h.2) more)
cause-more signal window hour bytes more Memory long n h = absurd h

pub faults-stay : (signal : List ℕ) (window : Span) (hour : ℕ) (bytes more : List ℕ) (e : PackError) → hour < 744 → AreBytes bytes → 4 ≤ length bytes → e ≢ Short
    → reading signal window hour bytes ≡ Err e → reading signal window hour (bytes ++ more) ≡ Err e
faults-stay signal window hour bytes more e in_range fits long n h =
    cause-fault signal window hour (bytes ++ more) e (cause-more signal window hour bytes more e long n (reading-fails signal window hour bytes e in_range fits h))

-- ---- cuts

not_both : (r : Result (List Row) PackError) (x : List Row) (e : PackError) → r ≡ Ok x → r ≡ Err e → ⊥
not_both r x e h k = let f : Ok x ≡ Err e = sym h ∙ k in cc

is_short : (e : PackError) → (e ≡ Short) ⊎ (e ≢ Short)
is_short NotPacked = inr (λ k. cc)
is_short Short = inl refl
is_short WrongSignal = inr (λ k. cc)
is_short WrongHour = inr (λ k. cc)
is_short TooManyRows = inr (λ k. cc)
is_short (BadRow n) = inr (λ k. cc)
is_short Extra = inr (λ k. cc)
is_short Memory = inr (λ k. cc)

pub cuts-short : (signal : List ℕ) (window : Span) (hour : ℕ) (rows : List Row) (bytes : List ℕ) (byte : ℕ) (more : List ℕ) → ArePackable hour rows
    → packed signal window hour rows ≡ bytes ++ byte ∷ more → AreBytes bytes → 4 ≤ length bytes → reading signal window hour bytes ≡ Err Short
cuts-short signal window hour rows bytes byte more packable k fits long = by (reading signal window hour bytes) refl
  where
    all : reading signal window hour (bytes ++ byte ∷ more) ≡ Ok rows
    all = ap (reading signal window hour) (sym k) ∙ reading-again signal window hour rows packable

    fault : (e : PackError) → reading signal window hour bytes ≡ Err e → (e ≡ Short) ⊎ (e ≢ Short) → reading signal window hour bytes ≡ Err Short
    fault e h (inl p) = h ∙ ap (λ (d : PackError). Err d) p
    fault e h (inr n) = absurd (not_both _ rows e all (faults-stay signal window hour bytes (byte ∷ more) e packable.of_hour.in_range fits long n h))

    by : (r : Result (List Row) PackError) → reading signal window hour bytes ≡ r → reading signal window hour bytes ≡ Err Short
    by (Ok others) h =
        let p = reading-takes signal window hour bytes others packable.of_hour.in_range fits h in
        let longer : reading signal window hour (bytes ++ byte ∷ more) ≡ Err Extra =
        ap (λ (xs : List ℕ). reading signal window hour (xs ++ byte ∷ more)) p.1 ∙ reading-read signal window hour others (byte ∷ more) p.0 ∙ end-extra others byte more in
        absurd (not_both _ rows Extra all longer)
    by (Err e) h = fault e h (is_short e)
