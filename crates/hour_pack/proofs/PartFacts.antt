-- What stands in front of the rows.
use Rattle.std.proofs.Common.{◌≡◌, ◌≤◌, ◌<◌, ◌^◌, ℕ, zero, suc, Bool, true, false, List, [], ◌∷◌, ◌++◌, length, take, drop, Result, Ok, Err, refl, sym, ap, ◌∙◌, arith, inl, inr, nat_lt, nat_eq, if◌then◌else◌, append_assoc}
use Rattle.std.specs.List.{starts_with}
use Rattle.std.specs.Int.{w32, from_be_bytes, to_be_bytes}
use Rattle.std.proofs.lemmas.Bool.{le-ltb, ltb-false}
use Rattle.std.proofs.lemmas.Bool.Decides.{Decides-eqb}
use Rattle.std.proofs.lemmas.List.{take_at, drop_at, take-append-drop, length-append, length-take}
use Rattle.std.proofs.lemmas.Nat.{be_bytes_4, from_be_bytes-to_be_bytes_4}
use Rattle.std.proofs.lemmas.Slice.Eq.{starts_is}
use Rattle.sig_base.specs.Window.{Span}
use Rattle.hour_pack.specs.declared.pack_error.PackError.{PackError}
use Rattle.hour_pack.specs.declared.pack_error.PackError.TheVariants.{NotPacked, Short, WrongSignal, WrongHour, TooManyRows}
use Rattle.hour_pack.specs.Grammar.{AreBytes, mark, signal_part, hour_part, head_bytes}
use Rattle.hour_pack.specs.Reading.{◌>>=◌, after_mark, after_part, after_head, count_at, few_rows}
use Rattle.hour_pack.proofs.Bytes.{chosen, bind_is, bind_ok, ok_is, bytes-drop, bytes-at, Takes, takes-then}
use Rattle.hour_pack.proofs.NumberFacts.{not_count}

-- ---- the mark and a part

pub starts : (bytes part : List ℕ) → starts_with nat_eq bytes part ≡ true → bytes ≡ part ++ drop (length part) bytes
starts bytes part e = (starts_is Decides-eqb bytes part (starts_with nat_eq bytes part) refl).0 e

pub starts-again : (part rest : List ℕ) → starts_with nat_eq (part ++ rest) part ≡ true
starts-again part rest = (starts_is Decides-eqb (part ++ rest) part (starts_with nat_eq (part ++ rest) part) refl).1 rest refl

not_ok : (e : PackError) (x : List ℕ) → Err e ≡ Ok x → ⊥
not_ok e x h = cc

pub mark-takes : (bytes rest : List ℕ) → AreBytes bytes → after_mark bytes ≡ Ok rest → Takes bytes mark rest
mark-takes bytes rest fits e =
    elim (chosen (starts_with nat_eq bytes mark) (Ok (drop 4 bytes)) (Err NotPacked) (Ok rest) e) [
      | inl p ↦
          let same : drop 4 bytes ≡ rest = ok_is (drop 4 bytes) rest p.1 in
          rw (← same) (record { parts = starts bytes mark p.0; rest_fits = bytes-drop 4 bytes fits })
      | inr p ↦ absurd (not_ok NotPacked rest p.1)
    ]

pub mark-again : (rest : List ℕ) → after_mark (mark ++ rest) ≡ Ok rest
mark-again rest = refl

pub part-takes : (wrong : PackError) (part bytes rest : List ℕ) → AreBytes bytes → after_part wrong part bytes ≡ Ok rest → Takes bytes part rest
part-takes wrong part bytes rest fits e =
    elim (chosen (starts_with nat_eq bytes part) (Ok (drop (length part) bytes)) (if starts_with nat_eq part bytes then Err Short else Err wrong) (Ok rest) e) [
      | inl p ↦
          let same : drop (length part) bytes ≡ rest = ok_is (drop (length part) bytes) rest p.1 in
          rw (← same) (record { parts = starts bytes part p.0; rest_fits = bytes-drop (length part) bytes fits })
      | inr p ↦ elim (chosen (starts_with nat_eq part bytes) (Err Short) (Err wrong) (Ok rest) p.1) [
        | inl q ↦ absurd (not_ok Short rest q.1)
        | inr q ↦ absurd (not_ok wrong rest q.1)
      ]
    ]

pub part-again : (wrong : PackError) (part rest : List ℕ) → after_part wrong part (part ++ rest) ≡ Ok rest
part-again wrong part rest =
    let t : starts_with nat_eq (part ++ rest) part ≡ true = starts-again part rest in
    rw t (ap (λ (xs : List ℕ). Ok xs) (drop_at part rest (length part) refl))

-- ---- the head

pub head-takes : (signal : List ℕ) (window : Span) (hour : ℕ) (bytes rest : List ℕ) → AreBytes bytes → after_head signal window hour bytes ≡ Ok rest
    → Takes bytes (head_bytes signal window hour) rest
unfolding after_head
head-takes signal window hour bytes rest fits e =
    let a = bind_ok (after_mark bytes) (λ body. after_part WrongSignal (length signal ∷ []) body >>= λ body. after_part WrongSignal signal body >>= λ body. after_part WrongHour (hour_part window hour) body) rest e in
    let b = bind_ok (after_part WrongSignal (length signal ∷ []) a.0) (λ body. after_part WrongSignal signal body >>= λ body. after_part WrongHour (hour_part window hour) body) rest a.2 in
    let c = bind_ok (after_part WrongSignal signal b.0) (λ body. after_part WrongHour (hour_part window hour) body) rest b.2 in
    let ta = mark-takes bytes a.0 fits a.1 in
    let tb = part-takes WrongSignal (length signal ∷ []) a.0 b.0 ta.rest_fits b.1 in
    let tc = part-takes WrongSignal signal b.0 c.0 tb.rest_fits c.1 in
    let td = part-takes WrongHour (hour_part window hour) c.0 rest tc.rest_fits c.2 in
    let signals : Takes a.0 (signal_part signal) c.0 = takes-then a.0 (length signal ∷ []) b.0 signal c.0 tb tc in
    takes-then bytes (mark ++ signal_part signal) c.0 (hour_part window hour) rest (takes-then bytes mark a.0 (signal_part signal) c.0 ta signals) td

pub head-again : (signal : List ℕ) (window : Span) (hour : ℕ) (rest : List ℕ) → after_head signal window hour (head_bytes signal window hour ++ rest) ≡ Ok rest
unfolding after_head
head-again signal window hour rest =
    let hour_on : List ℕ = hour_part window hour ++ rest in
    let signal_on : List ℕ = signal ++ hour_on in
    let length_on : List ℕ = (length signal ∷ []) ++ signal_on in
    let regrouped : head_bytes signal window hour ++ rest ≡ mark ++ length_on = simp append_assoc in
    ap (after_head signal window hour) regrouped
    ∙ bind_is (after_mark (mark ++ length_on)) length_on
    (λ body. after_part WrongSignal (length signal ∷ []) body >>= λ body. after_part WrongSignal signal body >>= λ body. after_part WrongHour (hour_part window hour) body)
    (mark-again length_on)
    ∙ bind_is (after_part WrongSignal (length signal ∷ []) length_on) signal_on
    (λ body. after_part WrongSignal signal body >>= λ body. after_part WrongHour (hour_part window hour) body)
    (part-again WrongSignal (length signal ∷ []) signal_on)
    ∙ bind_is (after_part WrongSignal signal signal_on) hour_on (λ body. after_part WrongHour (hour_part window hour) body)
    (part-again WrongSignal signal hour_on)
    ∙ part-again WrongHour (hour_part window hour) rest

-- ---- the count

pub record CountTakes (bytes : List ℕ) (count : ℕ) (rest : List ℕ) : Type 0 where
  pub takes : Takes bytes (to_be_bytes w32 count) rest
  pub few : count ≤ 400000

counted : (bytes : List ℕ) (p q : ℕ × List ℕ) → p ≡ q → CountTakes bytes p.0 p.1 → CountTakes bytes q.0 q.1
counted bytes p q e h = rw (← e) h

bytes-take : (n : ℕ) (bytes : List ℕ) → AreBytes bytes → AreBytes (take n bytes)
bytes-take zero bytes h = tt
bytes-take (suc n) [] h = tt
bytes-take (suc n) (b ∷ bs) h = (h.0, bytes-take n bs h.1)

-- four bytes are those of the number that they make
pub four : (bytes : List ℕ) → AreBytes bytes → 4 ≤ length bytes → Takes bytes (to_be_bytes w32 (from_be_bytes w32 (take 4 bytes))) (drop 4 bytes)
four bytes fits long =
    let len : length (take 4 bytes) ≡ 4 = omega (arith, length-take 4 bytes) in
    let back : to_be_bytes w32 (from_be_bytes w32 (take 4 bytes)) ≡ take 4 bytes = be_bytes_4 (take 4 bytes) _ len (bytes-at (take 4 bytes) (bytes-take 4 bytes fits)) refl in
    record { parts = sym (take-append-drop 4 bytes) ∙ ap (λ (front : List ℕ). front ++ drop 4 bytes) (sym back); rest_fits = bytes-drop 4 bytes fits }

pub four-small : (bytes : List ℕ) → AreBytes bytes → from_be_bytes w32 (take 4 bytes) < 2 ^ 32
four-small bytes fits =
    let at = bytes-at (take 4 bytes) (bytes-take 4 bytes fits) in
    omega (arith, at 0, at 1, at 2, at 3)

pub count-takes : (bytes : List ℕ) (count : ℕ) (rest : List ℕ) → AreBytes bytes → count_at bytes ≡ Ok (count, rest) → CountTakes bytes count rest
unfolding count_at
count-takes bytes count rest fits e =
    let found : ℕ × List ℕ = (from_be_bytes w32 (take 4 bytes), drop 4 bytes) in
    elim (chosen (nat_lt (length bytes) 4) (Err Short) (few_rows found) (Ok (count, rest)) e) [
      | inl p ↦ absurd (not_count Short (count, rest) p.1)
      | inr p ↦ elim (chosen (nat_lt 400000 found.0) (Err TooManyRows) (Ok found) (Ok (count, rest)) p.1) [
        | inl q ↦ absurd (not_count TooManyRows (count, rest) q.1)
        | inr q ↦ counted bytes found (count, rest) (ok_is found (count, rest) q.1) (record {
          takes = four bytes fits (ltb-false _ _ p.0);
          few = ltb-false _ _ q.0;
        })
      ]
    ]

pub count-read : (count : ℕ) (rest : List ℕ) → count < 2 ^ 32 → count_at (to_be_bytes w32 count ++ rest) ≡ few_rows (count, rest)
unfolding count_at
count-read count rest small =
    let text : List ℕ = to_be_bytes w32 count in
    let long : nat_lt (length (text ++ rest)) 4 ≡ false = le-ltb _ _ (omega (arith, length-append text rest)) in
    let number : from_be_bytes w32 (take 4 (text ++ rest)) ≡ count =
    ap (λ (xs : List ℕ). from_be_bytes w32 xs) (take_at text rest 4 refl) ∙ from_be_bytes-to_be_bytes_4 count small in
    let left : drop 4 (text ++ rest) ≡ rest = drop_at text rest 4 refl in
    if-not _ _ _ long
    ∙ ap (λ (n : ℕ). few_rows (n, drop 4 (text ++ rest))) number
    ∙ ap (λ (xs : List ℕ). few_rows (count, xs)) left
  where
    if-not : (b : Bool) (x y : Result (ℕ × List ℕ) PackError) → b ≡ false → (if b then x else y) ≡ y
    if-not true x y e = cc
    if-not false x y e = refl

pub count-again : (count : ℕ) (rest : List ℕ) → count ≤ 400000 → count_at (to_be_bytes w32 count ++ rest) ≡ Ok (count, rest)
count-again count rest few =
    let t : nat_lt 400000 count ≡ false = le-ltb 400000 count few in
    count-read count rest (omega arith) ∙ rw t refl
