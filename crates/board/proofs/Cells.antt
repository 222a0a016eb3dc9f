-- The cells of a table of specs.
use Rattle.std.proofs.Common.{◌≡◌, sym, ap, ◌∙◌, subst, inl, inr, ℕ, ◌+◌, ◌<◌, List, get_or, length, replicate, set, arith}
use Rattle.std.proofs.lemmas.Bool.{cases_lt, cases_eq}
use Rattle.std.proofs.lemmas.List.{get_or-replicate, length-replicate, get_or-set_same, get_or-set_other, length-set}
use Rattle.event_codes.specs.declared.channels.Channel.{Channel}
use Rattle.event_codes.specs.Cells.{cell_of}
use Rattle.event_codes.proofs.Numbered.{cell_once}
use Rattle.channel_tables.specs.declared.spec.Spec.{Spec}
use Rattle.board.specs.Logs.{no_spec}
use Rattle.board.specs.SpecPlaces.{AreCells, IsPlaceOf}

pub cells_empty : (specs : List Spec) (n : ℕ) → AreCells specs 0 (replicate n 65535)
cells_empty specs n c lt =
    let within : cell_of c < n = subst (λ (k : ℕ). cell_of c < k) (length-replicate {A = ℕ} n 65535) lt in
    inr (get_or-replicate {A = ℕ} n (cell_of c) 65535 65535 within, λ i none. absurd (omega arith))

pub cells_more : (specs : List Spec) (n : ℕ) (cells : List ℕ) (own : Channel) → cell_of own < length cells → own ≡ (get_or specs n no_spec).channel → AreCells specs n cells → AreCells specs (n + 1) (set cells (cell_of own) n)
cells_more specs n cells own within is each c lt = elim (cases_eq (cell_of c) (cell_of own)) [
  | inl same ↦
      let one : c ≡ own = cell_once c own same in
      let here : get_or (set cells (cell_of own) n) (cell_of c) 65535 ≡ n = ap (λ (k : ℕ). get_or (set cells (cell_of own) n) k 65535) same ∙ get_or-set_same cells (cell_of own) n 65535 within in
      subst (λ (x : ℕ). IsPlaceOf specs (n + 1) c x) (sym here) (inl (omega arith, sym (one ∙ is)))
  | inr other ↦
      let here : get_or (set cells (cell_of own) n) (cell_of c) 65535 ≡ get_or cells (cell_of c) 65535 = get_or-set_other cells (cell_of own) (cell_of c) n 65535 other in
      let low_enough : cell_of c < length cells = subst (λ (k : ℕ). cell_of c < k) (length-set cells (cell_of own) n) lt in
      subst (λ (x : ℕ). IsPlaceOf specs (n + 1) c x) (sym here) (elim (each c low_enough) [
        | inl (low, there) ↦ inl (omega arith, there)
        | inr (none, absent) ↦ inr (
          none,
          λ i low e. elim (cases_lt i n) [
            | inl before ↦ absent i before e
            | inr after ↦
                let last : i ≡ n = omega arith in
                other (ap cell_of (sym e ∙ (ap (λ (k : ℕ). (get_or specs k no_spec).channel) last ∙ sym is)))
          ],
        )
      ])
]
