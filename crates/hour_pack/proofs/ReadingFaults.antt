-- Each fault comes exactly where it has its cause.
use Rattle.std.proofs.Common.{◌≡◌, ◌≢◌, ◌≤◌, ◌<◌, ◌*◌, ℕ, true, false, List, [], ◌∷◌, ◌++◌, length, take, drop, Ok, Err, refl, sym, ap, ◌∙◌, arith, inl, inr, nat_lt, nat_eq, append_assoc}
use Rattle.std.specs.Prelude.{◌==◌}
use Rattle.std.specs.List.{starts_with}
use Rattle.std.specs.Int.{w32, from_be_bytes, to_be_bytes}
use Rattle.std.proofs.lemmas.Bool.{lt-ltb, ltb-true, ltb-false}
use Rattle.std.proofs.lemmas.Bool.Decides.{nat_tests}
use Rattle.sig_base.specs.declared.values.Row.{Row}
use Rattle.sig_base.specs.Window.{Span}
use Rattle.hour_pack.specs.declared.pack_error.PackError.{PackError}
use Rattle.hour_pack.specs.declared.pack_error.PackError.TheVariants.{NotPacked, Short, WrongSignal, WrongHour, TooManyRows, Extra}
use Rattle.hour_pack.specs.Faults.{Begins, in_head, in_count, in_row, hour_end, last_tenth, HasCause}
use Rattle.hour_pack.specs.Grammar.{AreBytes, ArePackable, head_bytes, hour_part, mark, packed, rows_bytes, signal_part}
use Rattle.hour_pack.specs.Reading.{◌>>=◌, after_head, after_mark, after_part, at_end, count_at, few_rows, hour_rows, reading, rows_at}
use Rattle.hour_pack.proofs.Bytes.{chosen, bind_err, takes-then}
use Rattle.hour_pack.proofs.PartFacts.{mark-takes, part-takes, head-takes, four, four-small, count-takes}
use Rattle.hour_pack.proofs.PartFaults.{PartFails, part-fails, differs-front, differs-behind, ends-front, ends-behind}
use Rattle.hour_pack.proofs.RowFacts.{rows-take}
use Rattle.hour_pack.proofs.RowFaults.{RowFails, rows-fail, failed, not_failed}
use Rattle.hour_pack.proofs.ReadingFacts.{packed-parts, body_bytes}

-- ---- a fault of the head has its cause

mark-fails : (bytes : List ℕ) (e : PackError) → after_mark bytes ≡ Err e → (e ≡ NotPacked) × (take 4 bytes ≢ mark)
mark-fails bytes e h =
    elim (chosen (starts_with nat_eq bytes mark) (Ok (drop 4 bytes)) (Err NotPacked) (Err e) h) [
      | inl p ↦ absurd (not_failed (Ok (drop 4 bytes)) (drop 4 bytes) e refl p.1)
      | inr p ↦ (failed {A = List ℕ} (Err NotPacked) NotPacked e refl p.1, λ k. other bytes k p.0)
    ]
  where
    other : (bytes : List ℕ) → take 4 bytes ≡ mark → starts_with nat_eq bytes mark ≡ false → ⊥
    other bytes k h = let t : starts_with nat_eq bytes mark ≡ true = rw k refl in cc

by-length : (signal : List ℕ) (window : Span) (hour : ℕ) (bytes a : List ℕ) (e : PackError) → bytes ≡ mark ++ a
    → PartFails WrongSignal (length signal ∷ []) a e → HasCause signal window hour bytes e
by-length signal window hour bytes a e k (inl p) =
    rw p.0 (in_head a k (ends-front (length signal ∷ []) (signal ++ hour_part window hour) a p.1))
by-length signal window hour bytes a e k (inr p) = rw p.0 (a, k, differs-front (length signal ∷ []) signal a p.1)

by-signal : (signal : List ℕ) (window : Span) (hour : ℕ) (bytes a b : List ℕ) (e : PackError) → bytes ≡ mark ++ a → a ≡ (length signal ∷ []) ++ b
    → PartFails WrongSignal signal b e → HasCause signal window hour bytes e
by-signal signal window hour bytes a b e k j (inl p) =
    rw p.0 (in_head a k (rw j (ends-behind (length signal ∷ []) (signal ++ hour_part window hour) b (ends-front signal (hour_part window hour) b p.1))))
by-signal signal window hour bytes a b e k j (inr p) =
    rw p.0 (a, k, rw j (differs-behind (length signal ∷ []) signal b p.1))

by-hour : (signal : List ℕ) (window : Span) (hour : ℕ) (bytes a c : List ℕ) (e : PackError) → bytes ≡ mark ++ a → a ≡ signal_part signal ++ c
    → PartFails WrongHour (hour_part window hour) c e → HasCause signal window hour bytes e
by-hour signal window hour bytes a c e k j (inl p) = rw p.0 (in_head a k (rw j (ends-behind (signal_part signal) (hour_part window hour) c p.1)))
by-hour signal window hour bytes a c e k j (inr p) =
    rw p.0 (c, k ∙ ap (λ (xs : List ℕ). mark ++ xs) j ∙ sym (append_assoc mark (signal_part signal) c), p.1)

head-fails : (signal : List ℕ) (window : Span) (hour : ℕ) (bytes : List ℕ) (e : PackError) → AreBytes bytes
    → after_head signal window hour bytes ≡ Err e → HasCause signal window hour bytes e
unfolding after_head
head-fails signal window hour bytes e fits h =
    elim (bind_err (after_mark bytes) (λ body. after_part WrongSignal (length signal ∷ []) body >>= λ body. after_part WrongSignal signal body >>= λ body. after_part WrongHour (hour_part window hour) body) e h) [
      | inl p ↦ let m = mark-fails bytes e p in rw m.0 m.1
      | inr p ↦
          let a = mark-takes bytes p.0 fits p.1 in
          elim (bind_err (after_part WrongSignal (length signal ∷ []) p.0) (λ body. after_part WrongSignal signal body >>= λ body. after_part WrongHour (hour_part window hour) body) e p.2) [
            | inl q ↦ by-length signal window hour bytes p.0 e a.parts (part-fails WrongSignal (length signal ∷ []) p.0 e q)
            | inr q ↦
                let b = part-takes WrongSignal (length signal ∷ []) p.0 q.0 a.rest_fits q.1 in
                elim (bind_err (after_part WrongSignal signal q.0) (λ body. after_part WrongHour (hour_part window hour) body) e q.2) [
                  | inl r ↦ by-signal signal window hour bytes p.0 q.0 e a.parts b.parts (part-fails WrongSignal signal q.0 e r)
                  | inr r ↦
                      let c = part-takes WrongSignal signal q.0 r.0 b.rest_fits r.1 in
                      by-hour signal window hour bytes p.0 r.0 e a.parts (takes-then p.0 (length signal ∷ []) q.0 signal r.0 b c).parts
                      (part-fails WrongHour (hour_part window hour) r.0 e r.2)
                ]
          ]
    ]

-- ---- a fault behind the head has its cause

count-fails : (signal : List ℕ) (window : Span) (hour : ℕ) (bytes body : List ℕ) (e : PackError) → bytes ≡ head_bytes signal window hour ++ body → AreBytes body
    → count_at body ≡ Err e → HasCause signal window hour bytes e
unfolding count_at
count-fails signal window hour bytes body e k fits h =
    let found : ℕ × List ℕ = (from_be_bytes w32 (take 4 body), drop 4 body) in
    elim (chosen (nat_lt (length body) 4) (Err Short) (few_rows found) (Err e) h) [
      | inl p ↦ rw (failed {A = ℕ × List ℕ} (Err Short) Short e refl p.1) (in_count body k (ltb-true _ _ p.0))
      | inr p ↦
          let f = four body fits (ltb-false _ _ p.0) in
          elim (chosen (nat_lt 400000 found.0) (Err TooManyRows) (Ok found) (Err e) p.1) [
            | inl q ↦ rw (failed {A = ℕ × List ℕ} (Err TooManyRows) TooManyRows e refl q.1) (
              found.0,
              found.1,
              ltb-true _ _ q.0,
              four-small body fits,
              k ∙ ap (λ (xs : List ℕ). head_bytes signal window hour ++ xs) f.parts ∙ sym (append_assoc (head_bytes signal window hour) (to_be_bytes w32 found.0) found.1),
            )
            | inr q ↦ absurd (not_failed (Ok found) found e refl q.1)
          ]
    ]

abbrev begun : (signal : List ℕ) (window : Span) (hour : ℕ) (bytes body : List ℕ) (count : ℕ) (rest : List ℕ) (rows : List Row) (more : List ℕ)
    → bytes ≡ head_bytes signal window hour ++ body → body ≡ to_be_bytes w32 count ++ rest → rest ≡ rows_bytes (36000 * hour) rows ++ more
    → count ≤ 400000 → length rows < count → ArePackable hour rows → Begins signal window hour bytes
begun signal window hour bytes body count rest rows more k j i few fewer packable =
    let head : List ℕ = head_bytes signal window hour in
    let text : List ℕ = to_be_bytes w32 count in
    let written : List ℕ = rows_bytes (36000 * hour) rows in
    record {
      count = count;
      rows = rows;
      rest = more;
      few = few;
      fewer = fewer;
      packable = packable;
      parts = k ∙ ap (λ (xs : List ℕ). head ++ xs) (j ∙ ap (λ (xs : List ℕ). text ++ xs) i)
          ∙ sym (append_assoc head text (written ++ more)) ∙ sym (append_assoc (head ++ text) written more);
    }

-- a row fails, as its cause says
by-row : (signal : List ℕ) (window : Span) (hour : ℕ) (bytes : List ℕ) (e : PackError) (b : Begins signal window hour bytes)
    → RowFails (hour_end hour) (last_tenth (36000 * hour) b.rows) b.rows b.rest e → HasCause signal window hour bytes e
by-row signal window hour bytes e b (inl p) = rw p.0 (in_row b p.1)
by-row signal window hour bytes e b (inr p) = rw p.0 (b, refl, p.1)

pub end-extra : (rows : List Row) (b : ℕ) (rest : List ℕ) → at_end (rows, b ∷ rest) ≡ Err Extra
end-extra rows b rest = let t : (length (b ∷ rest) == 0) ≡ false = grind (arith, nat_tests) in rw t refl

end-fails : (signal : List ℕ) (window : Span) (hour : ℕ) (bytes : List ℕ) (rows : List Row) (rest : List ℕ) (e : PackError)
    → ArePackable hour rows → bytes ≡ packed signal window hour rows ++ rest → at_end (rows, rest) ≡ Err e → HasCause signal window hour bytes e
end-fails signal window hour bytes rows [] e packable k h = absurd (not_failed (Ok rows) rows e refl h)
end-fails signal window hour bytes rows (b ∷ rest) e packable k h =
    rw (failed (at_end (rows, b ∷ rest)) Extra e (end-extra rows b rest) h) (rows, b, rest, packable, k)

whole : (signal : List ℕ) (window : Span) (hour : ℕ) (bytes body : List ℕ) (count : ℕ) (rest : List ℕ) (rows : List Row) (more : List ℕ)
    → bytes ≡ head_bytes signal window hour ++ body → body ≡ to_be_bytes w32 count ++ rest → rest ≡ rows_bytes (36000 * hour) rows ++ more
    → length rows ≡ count → bytes ≡ packed signal window hour rows ++ more
whole signal window hour bytes body count rest rows more k j i counted =
    let head : List ℕ = head_bytes signal window hour in
    let text : List ℕ = to_be_bytes w32 count in
    let written : List ℕ = rows_bytes (36000 * hour) rows in
    let number : text ≡ to_be_bytes w32 (length rows) = ap (to_be_bytes w32) (sym counted) in
    let inside : body ≡ body_bytes hour rows ++ more =
    j ∙ ap (λ (xs : List ℕ). text ++ xs) i ∙ sym (append_assoc text written more) ∙ ap (λ (xs : List ℕ). (xs ++ written) ++ more) number in
    k ∙ ap (λ (xs : List ℕ). head ++ xs) inside ∙ sym (append_assoc head (body_bytes hour rows) more)
    ∙ ap (λ (xs : List ℕ). xs ++ more) (sym (packed-parts signal window hour rows))

body-fails : (signal : List ℕ) (window : Span) (hour : ℕ) (bytes body : List ℕ) (e : PackError) → hour < 744 → bytes ≡ head_bytes signal window hour ++ body → AreBytes body
    → hour_rows hour body ≡ Err e → HasCause signal window hour bytes e
unfolding hour_rows
body-fails signal window hour bytes body e in_range k fits h =
    elim (bind_err (count_at body) (λ count. rows_at count.0 (hour_end hour) (36000 * hour) [] count.1 >>= at_end) e h) [
      | inl p ↦ count-fails signal window hour bytes body e k fits p
      | inr p ↦
          let c = count-takes body p.0.0 p.0.1 fits p.1 in
          elim (bind_err (rows_at p.0.0 (hour_end hour) (36000 * hour) [] p.0.1) at_end e p.2) [
            | inl q ↦
                let r = rows-fail p.0.0 (hour_end hour) (36000 * hour) [] p.0.1 e c.takes.rest_fits q in
                by-row signal window hour bytes e
                (begun signal window hour bytes body p.0.0 p.0.1 r.more r.rest k c.takes.parts r.takes.parts c.few r.fewer (record {
                  of_hour = record { in_range = in_range; few = omega (arith, r.fewer, c.few); rise = r.rise };
                  events = r.events;
                  no_repeat = r.new;
                })) r.here
            | inr q ↦
                let r = rows-take p.0.0 (hour_end hour) (36000 * hour) [] p.0.1 q.0.0 q.0.1 c.takes.rest_fits q.1 in
                let all : at_end (r.more, q.0.1) ≡ Err e = ap (λ (xs : List Row). at_end (xs, q.0.1)) (sym r.all) ∙ q.2 in
                end-fails signal window hour bytes r.more q.0.1 e (record {
                  of_hour = record { in_range = in_range; few = omega (arith, r.count, c.few); rise = r.rise };
                  events = r.events;
                  no_repeat = r.new;
                }) (whole signal window hour bytes body p.0.0 p.0.1 r.more q.0.1 k c.takes.parts r.takes.parts r.count) all
          ]
    ]

pub reading-fails : (signal : List ℕ) (window : Span) (hour : ℕ) (bytes : List ℕ) (e : PackError) → hour < 744 → AreBytes bytes
    → reading signal window hour bytes ≡ Err e → HasCause signal window hour bytes e
unfolding reading
reading-fails signal window hour bytes e in_range fits h =
    elim (bind_err (after_head signal window hour bytes) (hour_rows hour) e h) [
      | inl p ↦ head-fails signal window hour bytes e fits p
      | inr p ↦
          let t = head-takes signal window hour bytes p.0 fits p.1 in
          body-fails signal window hour bytes p.0 e in_range t.parts t.rest_fits p.2
    ]

-- less than four bytes are no count
pub if-short : (bytes : List ℕ) → length bytes < 4 → count_at bytes ≡ Err Short
unfolding count_at
if-short bytes h = let t : nat_lt (length bytes) 4 ≡ true = lt-ltb _ _ h in rw t refl
