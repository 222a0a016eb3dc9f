-- Runs over some tenths: from one history of what is known to another, joined, and from states that are alike.
use Rattle.std.proofs.Common.{◌≡◌, refl, sym, ap, ◌∙◌, subst, inl, inr, ℕ, ◌<◌, ◌≤◌, pos, Bool, true, false, if◌then◌else◌, List, [], ◌∷◌, ◌++◌, reverse, arith}
use Rattle.std.proofs.lemmas.Bool.{cases_Bool}
use Rattle.std.proofs.lemmas.List.{reverse-append}
use Rattle.colour_machine.specs.Rules.{IsMachine}
use Rattle.reach.specs.Runs.{State}
use Rattle.sig_base.specs.declared.values.Row.{Row}
use Rattle.gap_map.specs.declared.stretch.Stretch.{Stretch}
use Rattle.gap_map.specs.Stretches.{known_at}
use Rattle.board.specs.History.{Agreeing, Event, Track, events_at}
use Rattle.board.specs.Moves.{RowsIn, own}
use Rattle.board.proofs.Alike.{Alike, agreeing_alike}
use Rattle.board.proofs.Bridge.{agreeing_join, agreeing_same}
use Rattle.signal_log.proofs.Hour.{SameIn}
use Rattle.signal_log.proofs.Stored.{rows_end, rows_join}
use Rattle.gap_ways.specs.declared.states.Fill.{Fill}
use Rattle.gap_ways.specs.declared.states.Entered.{Entered}
use Rattle.gap_ways.specs.Ways.{state_of}
use Rattle.channel_ways.specs.Moves.{AddedMoves, Filled}
use Rattle.strand_search.specs.Fillings.{AreFillRows, AreUnknown}
use Rattle.strand_search.proofs.Agreeing.{fillings_agree, join_early, join_late, unknown_join}
use Rattle.strand_search.specs.Events.{AddsLetters, AreLetters}
use Rattle.strand_search.specs.Parts.{IsPart}
use Rattle.strand_search.specs.Pieces.{AddsBack, AddsPiece, Piece, mixed}
use Rattle.strand_search.proofs.Counting.{IsApart, few_join, part_few}

-- ---- letters as rows
pub letters_join : (k : Track) (xs ys : List Row) → AreLetters k xs → AreLetters k ys → AreLetters k (xs ++ ys)
letters_join k [] ys a b = b
letters_join k (r ∷ xs) ys (e, a) b = (e, letters_join k xs ys a b)

are_letters : (k : Track) (fs : List Fill) (rs : List Row) → AreFillRows k fs rs → AreLetters k rs
are_letters k [] [] a = tt
are_letters k [] (r ∷ rs) a = absurd a
are_letters k (x ∷ fs) [] a = absurd a
are_letters k (x ∷ fs) (r ∷ rs) (e, l, a) = (rw l refl, are_letters k fs rs a)

pub fill_rows_join : (k : Track) (xs ys : List Fill) (ps qs : List Row) → AreFillRows k xs ps → AreFillRows k ys qs → AreFillRows k (xs ++ ys) (ps ++ qs)
fill_rows_join k [] ys [] qs a b = b
fill_rows_join k [] ys (r ∷ ps) qs a b = absurd a
fill_rows_join k (x ∷ xs) ys [] qs a b = absurd a
fill_rows_join k (x ∷ xs) ys (r ∷ ps) qs (e, l, a) b = (e, l, fill_rows_join k xs ys ps qs a b)

fill_rows_reverse : (k : Track) (xs : List Fill) (ps : List Row) → AreFillRows k xs ps → AreFillRows k (reverse xs) (reverse ps)
fill_rows_reverse k [] [] a = tt
fill_rows_reverse k [] (r ∷ ps) a = absurd a
fill_rows_reverse k (x ∷ xs) [] a = absurd a
fill_rows_reverse k (x ∷ xs) (r ∷ ps) (e, l, a) =
    let all = fill_rows_join k (reverse xs) (x ∷ []) (reverse ps) (r ∷ []) (fill_rows_reverse k xs ps a) (e, l, tt) in
    subst (λ (z : List Fill). AreFillRows k z (reverse (r ∷ ps))) (sym (reverse-append (x ∷ []) xs)) (subst (λ (z : List Row). AreFillRows k (reverse xs ++ x ∷ []) z) (sym (reverse-append (r ∷ []) ps)) all)

-- ---- the letters of a part's gaps
piece_of : (k : Track) (f t : ℕ) (rows fills : List Row) (ss : List Stretch) (fs : List Fill) (s u : State) → IsPart f t rows ss → AreFillRows k fs fills → Filled k.rules (own k 0 rows ss) fs s u → Piece k (known_at ss) (events_at rows) f t fills s u
piece_of k f t rows fills ss fs s u p a w =
    let (order, unknown, run) = fillings_agree k f t 0 rows fills ss fs s u p.follow p.rows_in a w in
    record {
      order = order;
      unknown = unknown;
      letters = are_letters k fs fills a;
      few = λ hour x y low high none. part_few k f t 0 x y rows fills ss fs s u p.follow p.alternate p.rows_in a w none;
      run = run;
    }

pub back_piece : (k : Track) (f t : ℕ) (rows old new : List Row) (ss : List Stretch) (letters : List Fill) (s u : Entered) → IsPart f t rows ss → AddedMoves k.rules (own k 0 rows ss) [] letters s u → AddsLetters k letters old new → AddsBack k (known_at ss) (events_at rows) f t old new (state_of s) (state_of u)
back_piece k f t rows old new ss letters s u p (gs, e, w) (qs, q, a) =
    let b : AreFillRows k gs qs = subst (λ (z : List Fill). AreFillRows k z qs) e a in
    (qs, q, piece_of k f t rows (reverse qs) ss (reverse gs) (state_of s) (state_of u) p (fill_rows_reverse k gs qs b) w)

pub on_piece : (k : Track) (f t : ℕ) (rows old new : List Row) (ss : List Stretch) (letters back : List Fill) (s u : Entered) → IsPart f t rows ss → AddedMoves k.rules (own k 0 rows ss) [] letters s u → back ≡ reverse letters → AddsLetters k back old new → AddsPiece k (known_at ss) (events_at rows) f t old new (state_of s) (state_of u)
on_piece k f t rows old new ss letters back s u p (gs, e, w) turned (qs, q, a) =
    let b : AreFillRows k (reverse gs) qs = subst (λ (z : List Fill). AreFillRows k z qs) (turned ∙ ap (λ (z : List Fill). reverse z) e) a in
    (qs, q, piece_of k f t rows qs ss (reverse gs) (state_of s) (state_of u) p b w)

-- ---- what is known, told otherwise
mixed_same : (K known : Bool) (G given rows : List Event) → K ≡ known → (known ≡ true → G ≡ given) → (if K then G else rows) ≡ (if known then given else rows)
mixed_same K true G given rows e h = rw e (h refl)
mixed_same K false G given rows e h = rw e refl

unknown_in : (K known : ℕ → Bool) (f t : ℕ) (xs : List Row) → RowsIn f t xs → ((x : ℕ) → f ≤ x → x < t → K x ≡ known x) → AreUnknown K xs → AreUnknown known xs
unknown_in K known f t [] h same a = tt
unknown_in K known f t (r ∷ xs) h same (e, a) = (sym (same r.at h.0 h.1) ∙ e, let low = h.0 in unknown_in K known r.at t xs h.2 (λ x l1 l2. same x (omega arith) l2) a)

-- no other tenths are known
abbrev pub IsWithin : (ℕ → Bool) → ℕ → ℕ → Type 0
IsWithin K f t = (x : ℕ) → K x ≡ true → (f ≤ x) × (x < t)

pub piece_in : (k : Track) (K known : ℕ → Bool) (G given : ℕ → List Event) (f t : ℕ) (fills : List Row) (a b : State) → IsWithin K f t → SameIn K G known given f t → Piece k K G f t fills a b → Piece k known given f t fills a b
piece_in k K known G given f t fills a b within same p = record {
  order = p.order;
  unknown = unknown_in K known f t fills p.order (λ x l1 l2. (same x l1 l2).0) p.unknown;
  letters = p.letters;
  few = λ hour x y low high none. p.few hour x y low high (λ z l1 l2. elim (cases_Bool (K z)) [
    | inl is ↦ let (l3, l4) = within z is in (same z l3 l4).0 ∙ none z l1 l2
    | inr other ↦ other
  ]);
  run = agreeing_same k (λ x. true) (λ x. true) (mixed K G fills) (mixed known given fills) f t a b (λ x l1 l2. refl) (λ x l1 l2. mixed_same (K x) (known x) (G x) (given x) (events_at fills x) (same x l1 l2).0 (same x l1 l2).1) p.run;
}

-- the same tenths with what is given told otherwise
pub piece_given : (k : Track) (known : ℕ → Bool) (G given : ℕ → List Event) (f t : ℕ) (fills : List Row) (a b : State) → ((x : ℕ) → f ≤ x → x < t → known x ≡ true → G x ≡ given x) → Piece k known G f t fills a b → Piece k known given f t fills a b
piece_given k known G given f t fills a b same p = record {
  order = p.order;
  unknown = p.unknown;
  letters = p.letters;
  few = p.few;
  run = agreeing_same k (λ x. true) (λ x. true) (mixed known G fills) (mixed known given fills) f t a b (λ x l1 l2. refl) (λ x l1 l2. mixed_same (known x) (known x) (G x) (given x) (events_at fills x) refl (same x l1 l2)) p.run;
}

-- ---- one after another
mixed_rows : (known : ℕ → Bool) (given : ℕ → List Event) (xs ys : List Row) (x : ℕ) → events_at xs x ≡ events_at ys x → mixed known given xs x ≡ mixed known given ys x
mixed_rows known given xs ys x e = rw e refl

early_run : (k : Track) (known : ℕ → Bool) (given : ℕ → List Event) (f m t : ℕ) (xs ys : List Row) (a c : State) → RowsIn m t ys → Agreeing k (λ x. true) (mixed known given xs) f m a c → Agreeing k (λ x. true) (mixed known given (xs ++ ys)) f m a c
early_run k known given f m t xs ys a c late run = agreeing_same k (λ x. true) (λ x. true) (mixed known given xs) (mixed known given (xs ++ ys)) f m a c (λ x l1 l2. refl) (λ x l1 l2. mixed_rows known given xs (xs ++ ys) x (sym (join_early f m t x xs ys late l2))) run

late_run : (k : Track) (known : ℕ → Bool) (given : ℕ → List Event) (f m t : ℕ) (xs ys : List Row) (c b : State) → RowsIn f m xs → Agreeing k (λ x. true) (mixed known given ys) m t c b → Agreeing k (λ x. true) (mixed known given (xs ++ ys)) m t c b
late_run k known given f m t xs ys c b early run = agreeing_same k (λ x. true) (λ x. true) (mixed known given ys) (mixed known given (xs ++ ys)) m t c b (λ x l1 l2. refl) (λ x l1 l2. mixed_rows known given ys (xs ++ ys) x (sym (join_late f m x xs ys early l1))) run

pub piece_join : (k : Track) (known : ℕ → Bool) (given : ℕ → List Event) (f m t : ℕ) (xs ys : List Row) (a c b : State) → IsApart known m → Piece k known given f m xs a c → Piece k known given m t ys c b → Piece k known given f t (xs ++ ys) a b
piece_join k known given f m t xs ys a c b apart p q = record {
  order = rows_join f m t xs ys p.order q.order;
  unknown = unknown_join known xs ys p.unknown q.unknown;
  letters = letters_join k xs ys p.letters q.letters;
  few = few_join known f m t xs ys apart p.order q.order p.few q.few;
  run = (agreeing_join k (λ x. true) (mixed known given (xs ++ ys)) f m t a b (rows_end f m xs p.order) (rows_end m t ys q.order)).1 (c, early_run k known given f m t xs ys a c q.order p.run, late_run k known given f m t xs ys c b p.order q.run);
}

-- ---- from a state that is alike
pub piece_alike : (k : Track) (known : ℕ → Bool) (given : ℕ → List Event) (f t : ℕ) (fills : List Row) (a b c : State) → IsMachine k.rules → Alike k.rules (pos f) a c → Piece k known given f t fills a b → (e : State) × Piece k known given f t fills c e × Alike k.rules (pos f) b e
piece_alike k known given f t fills a b c laws alike p =
    let (e, run, still) = agreeing_alike k (λ x. true) (mixed known given fills) f t a c b laws alike p.run in
    (e, record { order = p.order; unknown = p.unknown; letters = p.letters; few = p.few; run = run }, still)
