-- The loops over rows and stretches.
use Rattle.std.proofs.Common.{◌≡◌, ℕ, ◌+◌, ◌<◌, ◌≤◌, List, length, get_or, set, map, ◌++◌, take, drop, false, ap, sym, ◌∙◌}
use Rattle.std.proofs.lemmas.List.{drop_more, drop_all}
use Rattle.std.proofs.lemmas.List.Edits.{map_over_more}
use Rattle.sig_base.specs.declared.values.Row.{Row}
use Rattle.gap_map.specs.declared.stretch.Stretch.{Stretch}
use Rattle.hour_sweep.specs.Passes.{swept_rows}

-- stand where a list has no row or no stretch
abbrev pub no_row : Row
no_row = record { at = 0; code = 0; param = 0 }

abbrev pub no_stretch : Stretch
no_stretch = record { from = 0; to = 0; known = false }

pub rows_more : {S : Type 0} (after : S → Row → S) (rows : List Row) (i : ℕ) (s new all : S) → i < length rows → new ≡ after s (get_or rows i no_row) → swept_rows after (drop i rows) s ≡ all → swept_rows after (drop (i + 1) rows) new ≡ all
rows_more after rows i s new all lt e inv = rw e (sym (ap (λ xs. swept_rows after xs s) (drop_more rows i no_row lt)) ∙ inv)

pub rows_done : {S : Type 0} (after : S → Row → S) (rows : List Row) (i : ℕ) (s all : S) → length rows ≤ i → swept_rows after (drop i rows) s ≡ all → s ≡ all
rows_done after rows i s all le inv = sym (ap (λ xs. swept_rows after xs s) (drop_all i rows le)) ∙ inv

-- one more element is replaced by f of it
pub over_more : {X : Type 0} (f : X → X) (xs ys : List X) (i : ℕ) (x y : X) → i < length xs → ys ≡ map f (take i xs) ++ drop i xs → x ≡ get_or ys i x → y ≡ f x → set ys i y ≡ map f (take (i + 1) xs) ++ drop (i + 1) xs
over_more f xs ys i x y lt inv read e = rw e (map_over_more f xs ys i x lt inv read)
