-- The moves of each channel, as they are added row by row and stretch by stretch.
use Rattle.std.proofs.Common.{◌≡◌, refl, ap, sym, ◌∙◌, subst, inl, inr, ℕ, ◌+◌, ◌<◌, ◌≤◌, true, false, nat_lt, List, [], ◌∷◌, ◌++◌, length, take, drop, set, get_or, get_or-set_same, get_or-set_other, arith, Option, Some, None}
use Rattle.std.proofs.lemmas.Bool.{cases_eq, cases_Bool}
use Rattle.std.proofs.lemmas.List.{take_all, drop_all, append-nil, append_assoc, length-set, drop_more, drop-drop, get_or_default}
use Rattle.channel_path.specs.declared.moves.Move.{Move}
use Rattle.channel_path.specs.declared.moves.Move.TheVariants.{Letter}
use Rattle.sig_base.specs.declared.values.Row.{Row}
use Rattle.gap_map.specs.declared.stretch.Stretch.{Stretch}
use Rattle.channel_tables.specs.declared.spec.Spec.{Spec}
use Rattle.board.specs.History.{Track}
use Rattle.board.proofs.Tracks.{specs_apart}
use Rattle.board.specs.Channels.{AreSpecs, letter_in}
use Rattle.board.specs.Moves.{count_before, letter_moves, own, stretch_moves, with_letter}
use Rattle.board.specs.Courses.{AreAdded}

pub one_added : (specs : List Spec) (courses : List (List Move)) (c p at n l i : ℕ) (r one : List Move) → AreSpecs specs → length courses ≡ length specs → i < length specs → ((d : Spec) → letter_in (get_or specs i d) c p ≡ Some l) → one ≡ get_or courses i r ++ Letter at l n ∷ [] → (d : Spec) → AreAdded courses (set courses i one) (λ j. with_letter (letter_in (get_or specs j d) c p) at n [])
one_added specs courses c p at n l i r one are len lt mine new d = (
  length-set courses i one,
  λ j below. elim (cases_eq j i) [
    | inl e ↦ rw e (
        get_or-set_same courses i one [] (omega arith) ∙ (new ∙ rw (mine d) (ap (λ ms. ms ++ Letter at l n ∷ []) (get_or_default courses i r [] (omega arith))))
        )
    | inr ne ↦ rw (specs_apart specs are i j d d c p l lt (omega arith) (λ x. ne (sym x)) (mine d)) (get_or-set_other courses i j one [] ne ∙ sym (append-nil (get_or courses j [])))
  ],
)

with_rest : (o : Option ℕ) (at n : ℕ) (ms : List Move) → with_letter o at n [] ++ ms ≡ with_letter o at n ms
with_rest None at n ms = refl
with_rest (Some l) at n ms = refl

-- what is still to be added to a list, a row later
pub row_turn : (k : Track) (rows : List Row) (i n : ℕ) (d : Row) (old new all : List Move) → i < length rows → old ++ letter_moves k n (drop i rows) ≡ all → new ≡ old ++ with_letter (k.letter (get_or rows i d).code (get_or rows i d).param) (get_or rows i d).at n [] → new ++ letter_moves k (n + 1) (drop (i + 1) rows) ≡ all
row_turn k rows i n d old new all lt inv e =
    let r = get_or rows i d in
    let w = with_rest (k.letter r.code r.param) r.at n (letter_moves k (n + 1) (drop (i + 1) rows)) in
    let inv2 : old ++ letter_moves k n (r ∷ drop (i + 1) rows) ≡ all = subst (λ (xs : List Row). old ++ letter_moves k n xs ≡ all) (drop_more rows i d lt) inv in
    rw e (append_assoc old (with_letter (k.letter r.code r.param) r.at n []) (letter_moves k (n + 1) (drop (i + 1) rows)) ∙ (ap (λ ms. old ++ ms) w ∙ inv2))

pub count_le : (t : ℕ) (rows : List Row) → count_before t rows ≤ length rows
count_le t [] = omega arith
count_le t (r ∷ rows) = elim (cases_Bool (nat_lt r.at t)) [ inl e ↦ rw e (let k = count_le t rows in omega arith) | inr e ↦ rw e (omega arith) ]

-- what is still to be added, a stretch later
pub stretch_turn : (k : Track) (rows : List Row) (ss : List Stretch) (n j : ℕ) (d : Stretch) (old new all : List Move) → j < length ss → old ++ own k n (drop n rows) (drop j ss) ≡ all → new ≡ old ++ stretch_moves k n (take (count_before (get_or ss j d).to (drop n rows)) (drop n rows)) (get_or ss j d) → new ++ own k (n + count_before (get_or ss j d).to (drop n rows)) (drop (n + count_before (get_or ss j d).to (drop n rows)) rows) (drop (j + 1) ss) ≡ all
stretch_turn k rows ss n j d old new all lt inv e =
    let s = get_or ss j d in
    let c = count_before s.to (drop n rows) in
    let here = stretch_moves k n (take c (drop n rows)) s in
    let inv2 : old ++ own k n (drop n rows) (s ∷ drop (j + 1) ss) ≡ all = subst (λ (xs : List Stretch). old ++ own k n (drop n rows) xs ≡ all) (drop_more ss j d lt) inv in
    let later = drop-drop c n rows in
    rw (e, ← later) (append_assoc old here (own k (n + c) (drop c (drop n rows)) (drop (j + 1) ss)) ∙ inv2)

abbrev pub no_stretch : Stretch
no_stretch = record { from = 0; to = 0; known = false }

pub written_back : (n : ℕ) (new items : List (List Move)) → n ≡ length items → length new ≡ length items → take n (new ++ drop (length new) items) ≡ new
written_back n new items a b = rw (drop_all (length new) items (omega arith), append-nil new) (take_all n new (omega arith))

pub stretch_known : (k : Track) (i : ℕ) (rs qs : List Row) (s : Stretch) → s.known ≡ true → rs ≡ qs → letter_moves k i rs ≡ stretch_moves k i qs s
stretch_known k i rs qs s e same = rw (e, same) refl

-- nothing is left to be added
pub rows_done : (k : Track) (rows : List Row) (i n : ℕ) (old all : List Move) → length rows ≤ i → old ++ letter_moves k n (drop i rows) ≡ all → old ≡ all
rows_done k rows i n old all le e = let none : drop i rows ≡ [] = drop_all i rows le in sym (append-nil old) ∙ (rw none at e)

pub stretches_done : (k : Track) (rows : List Row) (ss : List Stretch) (n j : ℕ) (old all : List Move) → length ss ≤ j → old ++ own k n rows (drop j ss) ≡ all → old ≡ all
stretches_done k rows ss n j old all le e = let none : drop j ss ≡ [] = drop_all j ss le in sym (append-nil old) ∙ (rw none at e)
