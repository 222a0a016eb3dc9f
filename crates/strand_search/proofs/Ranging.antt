-- One channel's moves over a part, and the letters in their gaps.
use Rattle.std.proofs.Common.{◌≡◌, sym, ◌∙◌, subst, ℕ, ◌≤◌, ◌^◌, ℤ, pos, ◌+ℤ◌, List, [], reverse, arith}
use Rattle.sig_base.specs.declared.values.Row.{Row}
use Rattle.span_set.specs.declared.set.Span.{Span}
use Rattle.channel_tables.specs.declared.spec.Spec.{Spec}
use Rattle.channel_tables.specs.Spec.{rules_of}
use Rattle.gap_map.specs.Stretches.{known_at}
use Rattle.channel_path.specs.declared.moves.Move.{Move}
use Rattle.channel_path.specs.Walks.{EnteredBefore, InOrder}
use Rattle.channel_path.specs.Places.{limit_of}
use Rattle.board.specs.Channels.{track}
use Rattle.board.specs.History.{events_at}
use Rattle.board.proofs.Ordering.{own_order}
use Rattle.board.proofs.Tracks.{spec_lettered}
use Rattle.gap_ways.specs.declared.states.Fill.{Fill}
use Rattle.gap_ways.specs.declared.states.Entered.{Entered}
use Rattle.gap_ways.specs.Ways.{state_of}
use Rattle.channel_ways.specs.Moves.{AddedAlike, AddedMoves}
use Rattle.strand_search.specs.declared.part.Part.{Part}
use Rattle.strand_search.specs.Events.{AddsLetters, AreLettersOf}
use Rattle.strand_search.specs.Parts.{IsPartOf, moves_over}
use Rattle.strand_search.specs.Pieces.{AddsAlike, AddsBack, AddsPiece}
use Rattle.strand_search.proofs.Pieces.{back_piece, on_piece}
use Rattle.strand_search.proofs.Standing.{added_fit, fit_reverse}

pub over_order : (d : Spec) (f t : ℕ) (p : Part) → IsPartOf f t p → InOrder (rules_of d) f (moves_over d p) × (limit_of f (moves_over d p) ≤ t)
over_order d f t p is = own_order (track d) f t 0 p.rows.now p.stretches.items (spec_lettered d) is.follow is.rows_in

module _ (d : Spec) (f t : ℕ) (p : Part) (moves : List Move) (is : IsPartOf f t p) (same : moves ≡ moves_over d p) where
  pub moves_order : (before : List (List Span)) → EnteredBefore before f → (low : ℕ) × EnteredBefore before low × InOrder (rules_of d) low moves
  moves_order before early = (f, early, subst (λ (xs : List Move). InOrder (rules_of d) f xs) (sym same) (over_order d f t p is).0)

  module _ (start letters : List Fill) (none : start ≡ []) where
    here : (s u : Entered) → AddedMoves (rules_of d) moves start letters s u → AddedMoves (rules_of d) (moves_over d p) [] letters s u
    here s u w = subst (λ (xs : List Move). AddedMoves (rules_of d) xs [] letters s u) same (subst (λ (fs : List Fill). AddedMoves (rules_of d) moves fs letters s u) none w)

    pub letters_fit : (s u : Entered) → t ≤ 2 ^ 32 → AddedMoves (rules_of d) moves start letters s u → AreLettersOf (rules_of d) letters
    letters_fit s u le w = let (order, end) = over_order d f t p is in added_fit (rules_of d) f (moves_over d p) letters s u order (omega arith) (here s u w)

    pub back_adds : (listed : List Fill) (old new : List Row) (s u : Entered) → listed ≡ letters → AddedMoves (rules_of d) moves start letters s u → AddsLetters (track d) listed old new → AddsBack (track d) (known_at p.stretches.items) (events_at p.rows.now) f t old new (state_of s) (state_of u)
    back_adds listed old new s u e w adds = back_piece (track d) f t p.rows.now old new p.stretches.items letters s u is (here s u w) (subst (λ (fs : List Fill). AddsLetters (track d) fs old new) e adds)

    pub alike_adds : (limit : ℤ) (listed : List Fill) (old new : List Row) (s u : Entered) → listed ≡ letters → AddedAlike (rules_of d) moves limit start letters u s → AddsLetters (track d) listed old new → AddsAlike (track d) (known_at p.stretches.items) (events_at p.rows.now) f t (limit +ℤ pos 36001) old new (state_of s) (state_of u)
    alike_adds limit listed old new s u e (w, alike, way) adds = (state_of w, alike, back_adds listed old new s w e way adds)

    pub on_adds : (turned listed : List Fill) (old new : List Row) (s u : Entered) → turned ≡ reverse letters → listed ≡ turned → AddedMoves (rules_of d) moves start letters s u → AddsLetters (track d) listed old new → AddsPiece (track d) (known_at p.stretches.items) (events_at p.rows.now) f t old new (state_of s) (state_of u)
    on_adds turned listed old new s u back e w adds = on_piece (track d) f t p.rows.now old new p.stretches.items letters listed s u is (here s u w) (e ∙ back) adds

    pub letters_fit_turned : (turned : List Fill) (s u : Entered) → turned ≡ reverse letters → t ≤ 2 ^ 32 → AddedMoves (rules_of d) moves start letters s u → AreLettersOf (rules_of d) turned
    letters_fit_turned turned s u back le w = subst (λ (fs : List Fill). AreLettersOf (rules_of d) fs) (sym back) (fit_reverse (rules_of d) letters (letters_fit s u le w))
