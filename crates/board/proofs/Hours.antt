-- What an hour makes of each channel: its moves, and the states at its end.
use Rattle.std.proofs.Common.{◌≡◌, refl, sym, ◌∙◌, inl, inr, ℕ, ◌+◌, ◌<◌, List, [], ◌∷◌, ◌++◌, length, get_or, arith, Option, Some, None}
use Rattle.std.proofs.lemmas.Bool.{cases_eq}
use Rattle.std.proofs.lemmas.Grind.{common_steps}
use Rattle.std.proofs.lemmas.List.{get_or_default}
use Rattle.span_set.specs.declared.set.Span.{Span}
use Rattle.channel_tables.specs.Spec.{rules_of}
use Rattle.channel_path.specs.declared.moves.Move.{Move}
use Rattle.channel_path.specs.Walks.{InOrder}
use Rattle.sig_base.specs.declared.values.Row.{Row}
use Rattle.gap_map.specs.declared.stretch.Stretch.{Stretch}
use Rattle.channel_tables.specs.declared.spec.Spec.{Spec}
use Rattle.board.specs.Logs.{IsHour, first_tenth, end_tenth}
use Rattle.board.proofs.Within.{hour_rows}
use Rattle.board.proofs.Ordering.{own_order}
use Rattle.board.proofs.Tracks.{spec_lettered}
use Rattle.board.specs.Channels.{track}
use Rattle.board.specs.Moves.{own}
use Rattle.board.specs.Courses.{AreCourses}
use Rattle.board.specs.Stops.{IsEarlier, moves_at, rules_at}

pub moves_order : (s : Spec) (rows : List Row) (ss : List Stretch) (h : ℕ) → IsHour h rows ss → InOrder (rules_of s) (first_tenth h) (own (track s) 0 rows ss)
moves_order s rows ss h is = (own_order (track s) (first_tenth h) (end_tenth h) 0 rows ss (spec_lettered s) is.follow (hour_rows h rows ss is)).0

pub course_is : (specs : List Spec) (rows : List Row) (ss : List Stretch) (courses : List (List Move)) (i : ℕ) (spec : Spec) (course : List Move) → AreCourses specs rows ss courses → i < length specs → spec ≡ get_or specs i spec → course ≡ get_or courses i course → (d : Spec) → (spec ≡ get_or specs i d) × (course ≡ moves_at specs rows ss i d)
course_is specs rows ss courses i spec course are lt s c d = (s ∙ get_or_default specs i spec d lt, c ∙ (get_or_default courses i course [] (let l = are.0 in omega arith) ∙ are.1 i d lt))

pub both_none : (a b r : Option ℕ) → IsEarlier a b r → r ≡ None → (a ≡ None) × (b ≡ None)
both_none None b r e h = (refl, sym e ∙ h)
both_none (Some x) None r e h = absurd (cc)
both_none (Some x) (Some y) r e h = absurd (cc)

-- the colours of each channel, with one more
pub colours_more : (specs : List Spec) (n : ℕ) (pasts : List (List (List Span))) (new : List (List Span)) → length pasts ≡ n → ((i : ℕ) (d : Spec) → i < n → length (get_or pasts i []) ≡ (rules_at specs i d).colours) → ((d : Spec) → length new ≡ (rules_at specs n d).colours) → (i : ℕ) (d : Spec) → i < n + 1 → length (get_or (pasts ++ new ∷ []) i []) ≡ (rules_at specs i d).colours
colours_more specs n pasts new l a b i d lt = elim (cases_eq i n) [
  | inl e ↦ let at : get_or (pasts ++ new ∷ []) i [] ≡ new = grind (arith, common_steps) in rw (at, e) (b d)
  | inr ne ↦ let below : i < n = omega arith in let b2 : i < length pasts = omega arith in let at : get_or (pasts ++ new ∷ []) i [] ≡ get_or pasts i [] = grind (arith, common_steps) in rw at (a i d below)
]
