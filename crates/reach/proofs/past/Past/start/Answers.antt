use Rattle.std.proofs.Common.{arith, ◌≡◌, sym, ◌∙◌, inl, inr, ◌↔◌, ℕ, ◌+◌, ◌<◌, ℤ, pos, negsuc, List, [], ◌∷◌, ◌++◌, length, length-append, get_or}
use Rattle.std.proofs.lemmas.Bool.{cases_eq, cases_lt}
use Rattle.std.proofs.lemmas.List.{get_or_append_left, get_or_past, get_or_push}
use Rattle.span_set.specs.declared.set.Span.{Span}
use Rattle.span_set.specs.Changes.{span}
use Rattle.span_set.specs.Spans.{Member, Within}
use Rattle.reach.specs.Runs.{State}
use Rattle.reach.specs.Past.{Holds}
use Rattle.reach.proofs.past.Past.start.Goals as goal

one_more : (P : ℤ → Type 0) (sets : List (List Span)) (one : List Span) (n : ℕ) → length sets ≡ n → ((s : State) → Holds sets s ↔ ((s.colour < n) × P s.entry)) → ((e : ℤ) → Member one e ↔ P e) → (s : State) → Holds (sets ++ one ∷ []) s ↔ ((s.colour < n + 1) × P s.entry)
one_more P sets one n len h new s = elim (cases_lt s.colour n) [
  | inl lt ↦
      let at : get_or (sets ++ one ∷ []) s.colour [] ≡ get_or sets s.colour [] = get_or_append_left sets (one ∷ []) [] s.colour (omega arith) in
      rw at (λ m. let (a, b) = (h s).0 m in (omega arith, b), λ (a, b). (h s).1 (lt, b))
  | inr ge ↦ elim (cases_eq s.colour n) [
    | inl q ↦
        let at : get_or (sets ++ one ∷ []) s.colour [] ≡ one = get_or_push sets one [] s.colour (len ∙ sym q) in
        rw at (λ m. (omega arith, (new s.entry).0 m), λ (a, b). (new s.entry).1 b)
    | inr ne ↦
        let at : get_or (sets ++ one ∷ []) s.colour [] ≡ [] = get_or_past (sets ++ one ∷ []) s.colour [] (let l = length-append sets (one ∷ []) in omega arith) in
        rw at (λ m. absurd m, λ (a, b). absurd (omega arith))
  ]
]

pub loop-colour-preserved : goal.loop-colour-preserved
loop-colour-preserved c =
    let sets = c.loop-colour.sets.items in
    let one = c.in_ok-set.set in
    let i = c.loop-colour.invariant in
    rw c.in_ok-push.ensures.items (
      (let l = length-append sets (one ∷ []) in let e = i.0 in omega arith),
      one_more (λ e. Within (span (negsuc 36000) (pos 0)) e) sets one c.loop-colour._colour i.0 i.1 c.in_ok-set.ensures,
    )
