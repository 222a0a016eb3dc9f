-- No packed hour is a proper beginning of another.
use Rattle.std.proofs.Common.{◌≡◌, ◌≤◌, ◌<◌, ◌+◌, ◌-◌, ◌*◌, ◌^◌, ℕ, List, [], ◌∷◌, ◌++◌, length, refl, sym, ap, ◌∙◌, arith, append_assoc, append-nil}
use Rattle.std.specs.List.{AllByRecursion}
use Rattle.std.specs.Int.{w32, from_be_bytes, to_be_bytes}
use Rattle.std.proofs.lemmas.List.{append_cancel_left}
use Rattle.std.proofs.lemmas.Nat.{from_be_bytes-to_be_bytes_4}
use Rattle.sig_base.specs.declared.values.Row.{Row}
use Rattle.sig_base.specs.HourRows.{RiseIn}
use Rattle.sig_base.specs.Stamp.{stamp_at}
use Rattle.sig_base.specs.Window.{Span}
use Rattle.hour_pack.specs.Grammar.{ArePackable, IsEvent, head_bytes, hour_part, mark, packed, row_bytes, rows_bytes, signal_part}
use Rattle.hour_pack.specs.Number.{number_bytes}
use Rattle.hour_pack.proofs.Bytes.{split-same}
use Rattle.hour_pack.proofs.NumberFacts.{number-apart}
use Rattle.hour_pack.proofs.ReadingFacts.{body_bytes, packed-parts}

hour-length : (window : Span) (hour : ℕ) → length (hour_part window hour) ≡ 13
unfolding hour_part stamp_at
hour-length window hour = refl

signals-apart : (a b x y : List ℕ) → signal_part a ++ x ≡ signal_part b ++ y → x ≡ y
signals-apart a b x y e =
    let lengths : length a ≡ length b = cc in
    let tails : a ++ x ≡ b ++ y = cc in
    (split-same a b x y lengths tails).1

counts-apart : (m n : ℕ) (x y : List ℕ) → m < 2 ^ 32 → n < 2 ^ 32 → to_be_bytes w32 m ++ x ≡ to_be_bytes w32 n ++ y → (m ≡ n) × (x ≡ y)
counts-apart m n x y hm hn e =
    let p = split-same (to_be_bytes w32 m) (to_be_bytes w32 n) x y refl e in
    (sym (from_be_bytes-to_be_bytes_4 m hm) ∙ ap (from_be_bytes w32) p.0 ∙ from_be_bytes-to_be_bytes_4 n hn, p.1)

-- a row's bytes tell where it ends
row-apart : (last other : ℕ) (r s : Row) (x y : List ℕ) → r.at < last + 2 ^ 21 → s.at < other + 2 ^ 21 → IsEvent r → IsEvent s
    → row_bytes last r ++ x ≡ row_bytes other s ++ y → x ≡ y
row-apart last other r s x y hr hs er es e =
    let regrouped : number_bytes (r.at - last) ++ (r.code ∷ (number_bytes r.param ++ x)) ≡ number_bytes (s.at - other) ++ (s.code ∷ (number_bytes s.param ++ y)) =
    sym (append_assoc (number_bytes (r.at - last)) (r.code ∷ number_bytes r.param) x) ∙ e ∙ append_assoc (number_bytes (s.at - other)) (s.code ∷ number_bytes s.param) y in
    let since = number-apart (r.at - last) (s.at - other) (r.code ∷ (number_bytes r.param ++ x)) (s.code ∷ (number_bytes s.param ++ y)) (omega arith) (omega arith) regrouped in
    let behind : number_bytes r.param ++ x ≡ number_bytes s.param ++ y = tails r.code s.code _ _ since.1 in
    (number-apart r.param s.param x y (omega (arith, er.param)) (omega (arith, es.param)) behind).1
  where
    tails : (a b : ℕ) (xs ys : List ℕ) → a ∷ xs ≡ b ∷ ys → xs ≡ ys
    tails a b xs ys e = cc

rows-apart : (last to other end : ℕ) (rows others : List Row) (x y : List ℕ) → length rows ≡ length others → to ≤ last + 2 ^ 21 → end ≤ other + 2 ^ 21
    → RiseIn last to rows → RiseIn other end others → AllByRecursion IsEvent rows → AllByRecursion IsEvent others
    → rows_bytes last rows ++ x ≡ rows_bytes other others ++ y → x ≡ y
rows-apart last to other end [] [] x y l nr ns hr hs er es e = e
rows-apart last to other end [] (s ∷ others) x y l nr ns hr hs er es e = absurd (omega arith)
rows-apart last to other end (r ∷ rows) [] x y l nr ns hr hs er es e = absurd (omega arith)
rows-apart last to other end (r ∷ rows) (s ∷ others) x y l nr ns hr hs er es e =
    let regrouped : row_bytes last r ++ (rows_bytes r.at rows ++ x) ≡ row_bytes other s ++ (rows_bytes s.at others ++ y) =
    sym (append_assoc (row_bytes last r) (rows_bytes r.at rows) x) ∙ e ∙ append_assoc (row_bytes other s) (rows_bytes s.at others) y in
    let behind = row-apart last other r s (rows_bytes r.at rows ++ x) (rows_bytes s.at others ++ y) (omega (arith, hr.1)) (omega (arith, hs.1)) er.0 es.0 regrouped in
    rows-apart r.at to s.at end rows others x y (omega arith) (omega (arith, hr.0)) (omega (arith, hs.0)) hr.2 hs.2 er.1 es.1 behind

bodies-apart : (g h : ℕ) (rows others : List Row) (more : List ℕ) → ArePackable g rows → ArePackable h others → body_bytes g rows ++ more ≡ body_bytes h others → more ≡ []
bodies-apart g h rows others more p q e =
    let regrouped : to_be_bytes w32 (length rows) ++ (rows_bytes (36000 * g) rows ++ more) ≡ to_be_bytes w32 (length others) ++ rows_bytes (36000 * h) others =
    sym (append_assoc (to_be_bytes w32 (length rows)) (rows_bytes (36000 * g) rows) more) ∙ e in
    let counts = counts-apart (length rows) (length others) (rows_bytes (36000 * g) rows ++ more) (rows_bytes (36000 * h) others)
    (omega (arith, p.of_hour.few)) (omega (arith, q.of_hour.few)) regrouped in
    let closed : rows_bytes (36000 * g) rows ++ more ≡ rows_bytes (36000 * h) others ++ [] = counts.1 ∙ sym (append-nil (rows_bytes (36000 * h) others)) in
    rows-apart (36000 * g) (36000 * g + 36000) (36000 * h) (36000 * h + 36000) rows others more [] counts.0 (omega arith) (omega arith)
    p.of_hour.rise q.of_hour.rise p.events q.events closed

heads-apart : (a b : List ℕ) (v w : Span) (g h : ℕ) (x y : List ℕ) → head_bytes a v g ++ x ≡ head_bytes b w h ++ y → x ≡ y
heads-apart a b v w g h x y e =
    let regrouped : mark ++ (signal_part a ++ (hour_part v g ++ x)) ≡ mark ++ (signal_part b ++ (hour_part w h ++ y)) =
    sym (regroup a (hour_part v g) x) ∙ e ∙ regroup b (hour_part w h) y in
    let signals = signals-apart a b (hour_part v g ++ x) (hour_part w h ++ y) (append_cancel_left mark _ _ regrouped) in
    (split-same (hour_part v g) (hour_part w h) x y (hour-length v g ∙ sym (hour-length w h)) signals).1
  where
    regroup : (a p x : List ℕ) → (mark ++ signal_part a ++ p) ++ x ≡ mark ++ (signal_part a ++ (p ++ x))
    regroup a p x = append_assoc (mark ++ signal_part a) p x ∙ append_assoc mark (signal_part a) (p ++ x)

pub none-cut : (a b : List ℕ) (v w : Span) (g h : ℕ) (rows others : List Row) (more : List ℕ) → ArePackable g rows → ArePackable h others
    → packed a v g rows ++ more ≡ packed b w h others → more ≡ []
none-cut a b v w g h rows others more p q e =
    let regrouped : head_bytes a v g ++ (body_bytes g rows ++ more) ≡ head_bytes b w h ++ body_bytes h others =
    sym (append_assoc (head_bytes a v g) (body_bytes g rows) more) ∙ ap (λ (xs : List ℕ). xs ++ more) (sym (packed-parts a v g rows)) ∙ e ∙ packed-parts b w h others in
    bodies-apart g h rows others more p q (heads-apart a b v w g h (body_bytes g rows ++ more) (body_bytes h others) regrouped)
