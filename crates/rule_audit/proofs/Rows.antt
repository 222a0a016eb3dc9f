-- Rows of a tenth and of a channel.
use Rattle.std.proofs.Common.{suc, zero, ◌≡◌, ap, sym, ◌∙◌, ℕ, ◌+◌, ◌<◌, Bool, true, ◌||◌, List, [], ◌∷◌, length, get_or, drop, arith}
use Rattle.std.specs.List.{list_any}
use Rattle.std.proofs.lemmas.List.{drop_more}
use Rattle.board.specs.declared.clause.Term.{Term}
use Rattle.board.specs.Verdicts.{AreWithin}

pub within_at : (n i : ℕ) (d : Term) (terms : List Term) → AreWithin n terms → i < length terms → (get_or terms i d).spec < n
within_at n i d [] w lt = absurd (omega arith)
within_at n zero d (c ∷ cs) (a, w) lt = a
within_at n (suc i) d (c ∷ cs) (a, w) lt = within_at n i d cs w (omega arith)

module _ {X : Type 0} (p : X → Bool) (xs : List X) (i : ℕ) (d : X) where
  any_step : i < length xs → list_any p (drop i xs) ≡ (p (get_or xs i d) || list_any p (drop (i + 1) xs))
  any_step lt = ap (list_any p) (drop_more xs i d lt)

  pub any_found : i < length xs → list_any p (drop i xs) ≡ list_any p xs → p (get_or xs i d) ≡ true → list_any p xs ≡ true
  any_found lt inv is = sym inv ∙ (any_step lt ∙ ap (λ b. b || list_any p (drop (i + 1) xs)) is)
