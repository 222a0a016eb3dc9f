-- What is read is spelled so, and what is spelled so is read.
use Rattle.std.proofs.Common.{◌≡◌, ◌<◌, ◌+◌, ◌*◌, ◌↔◌, ℕ, List, [], ◌++◌, length, Ok, Err, refl, sym, ap, ◌∙◌, arith, inl, inr, append_assoc, append-nil}
use Rattle.std.specs.Prelude.{◌==◌}
use Rattle.std.specs.Int.{w32, to_be_bytes}
use Rattle.std.proofs.lemmas.Bool.{eqb-true}
use Rattle.std.proofs.lemmas.List.{nil_from_length}
use Rattle.sig_base.specs.declared.values.Row.{Row}
use Rattle.sig_base.specs.Window.{Span}
use Rattle.hour_pack.specs.declared.pack_error.PackError.{PackError}
use Rattle.hour_pack.specs.declared.pack_error.PackError.TheVariants.{Extra}
use Rattle.hour_pack.specs.Grammar.{AreBytes, ArePackable, head_bytes, rows_bytes, packed}
use Rattle.hour_pack.specs.Reading.{◌>>=◌, after_head, at_end, count_at, hour_rows, reading, rows_at}
use Rattle.hour_pack.proofs.Bytes.{chosen, bind_ok, ok_is, takes-then}
use Rattle.hour_pack.proofs.PartFacts.{head-takes, head-again, count-takes, count-again}
use Rattle.hour_pack.proofs.RowFacts.{rows-take, rows-again}

not_rows : (e : PackError) (x : List Row) → Err e ≡ Ok x → ⊥
not_rows e x h = cc

-- the bytes of rows with their count
abbrev pub body_bytes : ℕ → List Row → List ℕ
body_bytes hour rows = to_be_bytes w32 (length rows) ++ rows_bytes (36000 * hour) rows

record BodyTakes (hour : ℕ) (bytes : List ℕ) (rows : List Row) : Type 0 where
  pub parts : bytes ≡ body_bytes hour rows
  pub packable : ArePackable hour rows

-- nothing is left behind the rows
body-closed : (hour count : ℕ) (bytes : List ℕ) (more rows : List Row) (rest : List ℕ)
    → bytes ≡ (to_be_bytes w32 count ++ rows_bytes (36000 * hour) more) ++ rest → rest ≡ [] → more ≡ rows → length more ≡ count → ArePackable hour more
    → BodyTakes hour bytes rows
body-closed hour count bytes more rows rest whole nothing all counted h =
    let text : List ℕ = to_be_bytes w32 count ++ rows_bytes (36000 * hour) more in
    let parts : bytes ≡ body_bytes hour more =
    whole ∙ ap (λ (xs : List ℕ). text ++ xs) nothing ∙ append-nil text ∙ ap (λ (n : ℕ). to_be_bytes w32 n ++ rows_bytes (36000 * hour) more) (sym counted) in
    rw (← all) (record { parts = parts; packable = h })

body-takes : (hour : ℕ) (bytes : List ℕ) (rows : List Row) → hour < 744 → AreBytes bytes → hour_rows hour bytes ≡ Ok rows → BodyTakes hour bytes rows
unfolding hour_rows
body-takes hour bytes rows in_range fits e =
    let a = bind_ok (count_at bytes) (λ count. rows_at count.0 (36000 * hour + 36000) (36000 * hour) [] count.1 >>= at_end) rows e in
    let b = bind_ok (rows_at a.0.0 (36000 * hour + 36000) (36000 * hour) [] a.0.1) at_end rows a.2 in
    let c = count-takes bytes a.0.0 a.0.1 fits a.1 in
    let r = rows-take a.0.0 (36000 * hour + 36000) (36000 * hour) [] a.0.1 b.0.0 b.0.1 c.takes.rest_fits b.1 in
    elim (chosen (length b.0.1 == 0) (Ok b.0.0) (Err Extra) (Ok rows) b.2) [
      | inl p ↦
          body-closed hour a.0.0 bytes r.more rows b.0.1
          (takes-then bytes (to_be_bytes w32 a.0.0) a.0.1 (rows_bytes (36000 * hour) r.more) b.0.1 c.takes r.takes).parts
          (nil_from_length b.0.1 (eqb-true _ _ p.0)) (sym r.all ∙ ok_is b.0.0 rows p.1) r.count
          (record {
            of_hour = record { in_range = in_range; few = omega (arith, r.count, c.few); rise = r.rise };
            events = r.events;
            no_repeat = r.new;
          })
      | inr p ↦ absurd (not_rows Extra rows p.1)
    ]

-- what rows leave is read no further
pub body-read : (hour : ℕ) (rows : List Row) (rest : List ℕ) → ArePackable hour rows → hour_rows hour (body_bytes hour rows ++ rest) ≡ at_end (rows, rest)
unfolding hour_rows
body-read hour rows rest h =
    ap (hour_rows hour) (append_assoc (to_be_bytes w32 (length rows)) (rows_bytes (36000 * hour) rows) rest)
    ∙ rw (
      count-again (length rows) (rows_bytes (36000 * hour) rows ++ rest) h.of_hour.few,
      rows-again (36000 * hour + 36000) (36000 * hour) [] rows rest (omega arith) h.of_hour.rise h.events h.no_repeat,
    ) refl

pub packed-parts : (signal : List ℕ) (window : Span) (hour : ℕ) (rows : List Row) → packed signal window hour rows ≡ head_bytes signal window hour ++ body_bytes hour rows
unfolding packed
packed-parts signal window hour rows = append_assoc (head_bytes signal window hour) (to_be_bytes w32 (length rows)) (rows_bytes (36000 * hour) rows)

pub reading-takes : (signal : List ℕ) (window : Span) (hour : ℕ) (bytes : List ℕ) (rows : List Row) → hour < 744 → AreBytes bytes
    → reading signal window hour bytes ≡ Ok rows → ArePackable hour rows × (bytes ≡ packed signal window hour rows)
unfolding reading
reading-takes signal window hour bytes rows in_range fits e =
    let a = bind_ok (after_head signal window hour bytes) (hour_rows hour) rows e in
    let h = head-takes signal window hour bytes a.0 fits a.1 in
    let b = body-takes hour a.0 rows in_range h.rest_fits a.2 in
    (b.packable, h.parts ∙ ap (λ (rest : List ℕ). head_bytes signal window hour ++ rest) b.parts ∙ sym (packed-parts signal window hour rows))

pub reading-read : (signal : List ℕ) (window : Span) (hour : ℕ) (rows : List Row) (rest : List ℕ) → ArePackable hour rows
    → reading signal window hour (packed signal window hour rows ++ rest) ≡ at_end (rows, rest)
unfolding reading
reading-read signal window hour rows rest h =
    let regrouped : packed signal window hour rows ++ rest ≡ head_bytes signal window hour ++ (body_bytes hour rows ++ rest) =
    ap (λ (xs : List ℕ). xs ++ rest) (packed-parts signal window hour rows) ∙ append_assoc (head_bytes signal window hour) (body_bytes hour rows) rest in
    ap (reading signal window hour) regrouped
    ∙ rw (head-again signal window hour (body_bytes hour rows ++ rest)) (body-read hour rows rest h)

pub reading-again : (signal : List ℕ) (window : Span) (hour : ℕ) (rows : List Row) → ArePackable hour rows
    → reading signal window hour (packed signal window hour rows) ≡ Ok rows
reading-again signal window hour rows h =
    ap (reading signal window hour) (sym (append-nil (packed signal window hour rows))) ∙ reading-read signal window hour rows [] h

-- bytes are read as rows exactly where they are the packed hour of these
pub reading-exact : (signal : List ℕ) (window : Span) (hour : ℕ) (bytes : List ℕ) (rows : List Row) → hour < 744 → AreBytes bytes
    → (reading signal window hour bytes ≡ Ok rows) ↔ (ArePackable hour rows × (bytes ≡ packed signal window hour rows))
reading-exact signal window hour bytes rows in_range fits =
    (λ e. reading-takes signal window hour bytes rows in_range fits e, λ h. rw h.1 (reading-again signal window hour rows h.0))
