-- The nearest candidate of those that were found.
use Rattle.std.proofs.Common.{◌≡◌, refl, ap, sym, ◌∙◌, subst, inl, inr, ℕ, ◌+◌, ◌-◌, ◌<◌, ◌≤◌, List, [], ◌∷◌, ◌++◌, length, length-append, get_or, arith, Bor}
use Rattle.std.proofs.lemmas.Bool.{cases_eq, cases_lt}
use Rattle.std.proofs.lemmas.List.{get_or-append_right, get_or-take, get_or_append_left, get_or_default}
use Rattle.sig_base.specs.declared.values.Row.{Row}
use Rattle.gap_map.specs.Stretches.{known_at}
use Rattle.board.specs.Logs.{no_row}
use Rattle.board.specs.Moves.{count_before}
use Rattle.board.specs.Places.{upto}
use Rattle.board.proofs.Cutting.{upto_known}
use Rattle.rule_audit.proofs.Walking.{sorted}
use Rattle.decisive.specs.declared.judge.Question.{Question}
use Rattle.decisive.specs.declared.judge.Start.{Start}
use Rattle.decisive.specs.declared.judge.Told.{Told}
use Rattle.decisive.specs.declared.search.Aim.{Aim}
use Rattle.decisive.specs.declared.search.Aim.TheVariants.{End, Begin}
use Rattle.decisive.specs.declared.search.Trail.{Trail}
use Rattle.decisive.specs.Breaks.{FitsStart}
use Rattle.decisive.specs.Candidates.{IsOwnRow}
use Rattle.decisive.specs.Cuts.{IsCutAfter, IsCutBefore}
use Rattle.decisive.specs.Laws.{rows_to}
use Rattle.decisive.specs.Tries.{Begins, BeginsGrow, DoesAt, Ends, EndsGrow, IsBeginRow, IsEndRow, IsFirstOf, IsNearest, IsOwnAt, IsSought, IsToldAt, IsTrail, NoBeginRow, NoEndRow, NoneDo, found_at, row_at, row_count, tenth_at}
use Rattle.decisive.proofs.Placing.{count_over, row_after, row_before}

-- ---- what was found

module _ (aim : Aim) (q : Question) (told : Told) where
  pub same_found : (trail : Trail) (k d : ℕ) → d ≡ get_or trail.found.items k d → k < length trail.found.items → d ≡ found_at trail k
  same_found trail k d e lt = e ∙ get_or_default trail.found.items k d 0 lt

  -- what doesn't do at one candidate doesn't at a nearer one
  pub none_nearer : (trail : Trail) (n m : ℕ) → IsSought aim q told → n ≤ row_count aim told → IsTrail aim q told trail n → m < length trail.found.items → (DoesAt aim q told (found_at trail m) → ⊥) → (k : ℕ) → k ≤ m → DoesAt aim q told (found_at trail k) → ⊥
  none_nearer trail n m sought le is lt not_here k small does =
      let in_rows = is.within m lt in
      not_here (sought.grows (found_at trail k) (found_at trail m) (is.order k m small lt) (omega arith) does)

  pub nearest_of : (trail : Trail) (n k : ℕ) → n ≤ row_count aim told → IsTrail aim q told trail n → IsFirstOf aim q told trail k → IsNearest aim q told (found_at trail k)
  nearest_of trail n k le is (lt, does, none) =
      let in_rows = is.within k lt in
      record {
        within = omega arith;
        own = is.own k lt;
        does = does;
        nearest = λ j small own at.
            let (i, l2, same) = is.all j (omega arith) own in
            elim (cases_lt i k) [
              | inl early ↦ none i early (subst (λ (z : ℕ). DoesAt aim q told z) (sym same) at)
              | inr late ↦ let order = is.order k i late l2 in absurd (omega arith)
            ];
      }

  pub none_of : (trail : Trail) (n : ℕ) → IsTrail aim q told trail n → ((k : ℕ) → k < length trail.found.items → DoesAt aim q told (found_at trail k) → ⊥) → NoneDo aim q told n
  none_of trail n is none i lt own does = let (k, l2, same) = is.all i lt own in none k l2 (subst (λ (z : ℕ). DoesAt aim q told z) (sym same) does)

  pub trail_begin : (trail : Trail) → trail.found.items ≡ [] → trail.tried ≡ 0 → IsTrail aim q told trail 0
  trail_begin trail e tried =
      let size : length trail.found.items ≡ 0 = ap (λ (xs : List ℕ). length xs) e in
      record {
        within = λ k lt. absurd (omega arith);
        own = λ k lt. absurd (omega arith);
        all = λ i lt own. absurd (omega arith);
        order = λ j k le lt. absurd (omega arith);
        some = omega arith;
        none = λ k lt. absurd (omega arith);
      }

  pub trail_skip : (trail : Trail) (n : ℕ) → IsTrail aim q told trail n → (IsOwnAt aim q told n → ⊥) → IsTrail aim q told trail (n + 1)
  trail_skip trail n is not_own = record {
    within = λ k lt. let small = is.within k lt in omega arith;
    own = is.own;
    all = λ i lt own. elim (cases_eq i n) [
      | inl same ↦ absurd (not_own (subst (λ (z : ℕ). IsOwnAt aim q told z) same own))
      | inr ne ↦ is.all i (omega arith) own
    ];
    order = is.order;
    some = is.some;
    none = is.none;
  }

  pub trail_push : (trail new : Trail) (n : ℕ) → IsTrail aim q told trail n → IsOwnAt aim q told n → new.found.items ≡ trail.found.items ++ n ∷ [] → new.tried ≡ trail.tried → IsTrail aim q told new (n + 1)
  trail_push trail new n is own e tried =
      let old = trail.found.items in
      let more = length-append old (n ∷ []) in
      let size : length new.found.items ≡ length old + 1 = ap (λ (xs : List ℕ). length xs) e ∙ more in
      let some = is.some in
      let before : (k : ℕ) → k < length old → found_at new k ≡ found_at trail k = λ k lt. ap (λ (xs : List ℕ). get_or xs k 0) e ∙ get_or_append_left old (n ∷ []) 0 k lt in
      let last : found_at new (length old) ≡ n = (let none : length old - length old ≡ 0 = omega arith in ap (λ (xs : List ℕ). get_or xs (length old) 0) e ∙ (get_or-append_right old (n ∷ []) (length old) (length old) 0 refl (omega arith) ∙ ap (λ (z : ℕ). get_or (n ∷ []) z 0) none)) in
      let at : (P : ℕ → Type 0) → ((k : ℕ) → k < length old → P (found_at trail k)) → P n → (k : ℕ) → k < length new.found.items → P (found_at new k) = λ P h p k lt. elim (cases_lt k (length old)) [
        | inl small ↦ subst P (sym (before k small)) (h k small)
        | inr big ↦ let same : length old ≡ k = omega arith in subst (λ (z : ℕ). P (found_at new z)) same (subst P (sym last) p)
      ] in
      record {
        within = at (λ z. z < n + 1) (λ k lt. let small = is.within k lt in omega arith) (omega arith);
        own = at (λ z. IsOwnAt aim q told z) is.own own;
        all = λ i lt here. elim (cases_eq i n) [
          | inl same ↦ (length old, omega arith, last ∙ sym same)
          | inr ne ↦ let (k, l2, same) = is.all i (omega arith) here in (k, omega arith, before k l2 ∙ same)
        ];
        order = λ j k le lt. elim (cases_lt k (length old)) [
          | inl small ↦
              let a = before j (omega arith) in
              let b = before k small in
              let order = is.order j k le small in
              omega arith
          | inr big ↦
              let same : length old ≡ k = omega arith in
              let b : found_at new k ≡ n = ap (λ (z : ℕ). found_at new z) (sym same) ∙ last in
              elim (cases_lt j (length old)) [
                | inl small ↦ let a = before j small in let early = is.within j small in omega arith
                | inr here ↦ let both : j ≡ k = omega arith in let a : found_at new j ≡ found_at new k = ap (λ (z : ℕ). found_at new z) both in omega arith
              ]
        ];
        some = omega arith;
        none = λ k lt does. is.none k (omega arith) (subst (λ (z : ℕ). DoesAt aim q told z) (before k (omega arith)) does);
      }

  pub trail_tried : (trail new : Trail) (n : ℕ) → IsTrail aim q told trail n → ((k : ℕ) → k < length trail.found.items → DoesAt aim q told (found_at trail k) → ⊥) → new.found ≡ trail.found → new.tried ≡ length trail.found.items → IsTrail aim q told new n
  trail_tried trail new n is none e tried = rw e (record {
    within = is.within;
    own = is.own;
    all = is.all;
    order = is.order;
    some = omega arith;
    none = λ k lt. none k (omega arith);
  })

-- ---- rows on from the place, and back from it

module _ (q : Question) (told : Told) (f t : ℕ) (is : IsToldAt q told f t) where
  pub end_row : (start : Bor Start) (i : ℕ) → i < row_count (End start) told → (q.at ≤ tenth_at (End start) told i) × (tenth_at (End start) told i < t)
  end_row start i lt = row_after f t q.at told.place (told.place + i) told.rows.now told.stretches.now is.place (omega arith) (omega arith)

  pub begin_row : (v i : ℕ) → i < told.place → (f ≤ tenth_at (Begin v) told i) × (tenth_at (Begin v) told i ≤ q.at)
  begin_row v i lt = row_before f t q.at told.place (told.place - 1 - i) told.rows.now told.stretches.now is.place (omega arith)

  -- no row is before what is told
  pub row_low : (aim : Aim) (i : ℕ) → i < row_count aim told → f ≤ tenth_at aim told i
  row_low (End start) i lt = let first = is.place.first in let (a, b) = end_row start i lt in omega arith
  row_low (Begin v) i lt = (begin_row v i lt).0

  pub end_sought : (start : Bor Start) → FitsStart start.now q.specs.now f → EndsGrow start.now q told t → IsSought (End start) q told
  end_sought start fits grow = record {
    low = f;
    high = t;
    is_told = is;
    fits = fits;
    grows = λ i j le lt does.
        let (a, b) = end_row start i (omega arith) in
        let (c, d) = end_row start j lt in
        let order = sorted f t (told.place + i) (told.place + j) told.rows.now is.place.rows_in (omega arith) (omega arith) in
        grow (tenth_at (End start) told i) (tenth_at (End start) told j) a order d does;
  }

  pub begin_sought : (v : ℕ) → q.at ≤ v → IsCutAfter t told.stretches.now v → BeginsGrow q told v f → IsSought (Begin v) q told
  begin_sought v late cut grow = record {
    low = f;
    high = t;
    is_told = is;
    fits = (late, cut);
    grows = λ i j le lt does.
        let count = is.place.count in
        let (a, b) = begin_row v i (omega arith) in
        let (c, d) = begin_row v j lt in
        let order = sorted f t (told.place - 1 - j) (told.place - 1 - i) told.rows.now is.place.rows_in (omega arith) (omega arith) in
        grow (tenth_at (Begin v) told i) (tenth_at (Begin v) told j) c order b does;
  }

  -- ---- the row that was found

  abbrev IsOwn : ℕ → Type 0
  IsOwn r = IsOwnRow q.specs.now q.parts.now told.rows.now told.stretches.now r

  pub nearest_end : (start : Bor Start) (i : ℕ) → IsNearest (End start) q told i → IsEndRow start.now q told (tenth_at (End start) told i)
  nearest_end start i near =
      let within = near.within in
      record {
        row = told.place + i;
        low = omega arith;
        within = omega arith;
        own = near.own;
        at = refl;
        ends = near.does;
        first = λ r lo hi own ends.
            let same : r ≡ told.place + (r - told.place) = omega arith in
            near.nearest (r - told.place) (omega arith) (subst IsOwn same own) (subst (λ (z : ℕ). Ends start.now q told (get_or told.rows.now z no_row).at) same ends);
      }

  pub none_end : (start : Bor Start) → NoneDo (End start) q told (row_count (End start) told) → NoEndRow start.now q told
  none_end start none r lo hi own ends =
      let same : r ≡ told.place + (r - told.place) = omega arith in
      none (r - told.place) (omega arith) (subst IsOwn same own) (subst (λ (z : ℕ). Ends start.now q told (get_or told.rows.now z no_row).at) same ends)

  module _ (v : ℕ) (late : q.at ≤ v) (small : v < t) where
    row_upto : (r : ℕ) → r < told.place → get_or (rows_to v told.rows.now) r no_row ≡ get_or told.rows.now r no_row
    row_upto r lt =
        let over = count_over f (q.at + 1) (v + 1) told.place told.rows.now is.place.count is.place.before (omega arith) in
        get_or-take (count_before (v + 1) told.rows.now) told.rows.now r no_row (omega arith)

    known_upto : (r : ℕ) → r < told.place → known_at (upto v told.stretches.now) (get_or told.rows.now r no_row).at ≡ known_at told.stretches.now (get_or told.rows.now r no_row).at
    known_upto r lt =
        let (a, b) = row_before f t q.at told.place r told.rows.now told.stretches.now is.place lt in
        sym (upto_known f t v (get_or told.rows.now r no_row).at told.stretches.now is.place.stretches (omega arith) small a (omega arith))

    abbrev IsOwnUpto : ℕ → Type 0
    IsOwnUpto r = IsOwnRow q.specs.now q.parts.now (rows_to v told.rows.now) (upto v told.stretches.now) r

    own_to : (r : ℕ) → r < told.place → IsOwn r → IsOwnUpto r
    own_to r lt (known, of) = rw (row_upto r lt) (known_upto r lt ∙ known, of)

    own_from : (r : ℕ) → r < told.place → IsOwnUpto r → IsOwn r
    own_from r lt own = let (known, of) = rw (row_upto r lt) at own in (sym (known_upto r lt) ∙ known, of)

    pub nearest_begin : (i : ℕ) → IsNearest (Begin v) q told i → IsBeginRow q told v (tenth_at (Begin v) told i)
    nearest_begin i near =
        let within = near.within in
        let row = told.place - 1 - i in
        record {
          row = row;
          within = omega arith;
          own = own_to row (omega arith) near.own;
          at = ap (λ (z : Row). z.at) (sym (row_upto row (omega arith)));
          begins = near.does;
          last = λ r lo hi own begins.
              let same : r ≡ told.place - 1 - (told.place - 1 - r) = omega arith in
              let here = ap (λ (z : Row). z.at) (row_upto r hi) in
              near.nearest (told.place - 1 - r) (omega arith) (subst IsOwn same (own_from r hi own)) (subst (λ (z : ℕ). Begins q told v (get_or told.rows.now z no_row).at) same (subst (λ (z : ℕ). Begins q told v z) here begins));
        }

    pub none_begin : NoneDo (Begin v) q told told.place → NoBeginRow q told v
    none_begin none r lo hi own begins =
        let same : r ≡ told.place - 1 - (told.place - 1 - r) = omega arith in
        let here = ap (λ (z : Row). z.at) (row_upto r hi) in
        none (told.place - 1 - r) (omega arith) (subst IsOwn same (own_from r hi own)) (subst (λ (z : ℕ). Begins q told v (get_or told.rows.now z no_row).at) same (subst (λ (z : ℕ). Begins q told v z) here begins))

-- ---- what a try asks

pub end_asked : (start : Bor Start) (q : Question) (told : Told) (i : ℕ) (r : Row) → IsSought (End start) q told → i < row_count (End start) told → IsOwnAt (End start) q told i → r ≡ get_or told.rows.now (row_at (End start) told i) no_row → (q.at ≤ r.at) × ((f t : ℕ) × IsToldAt q told f t × FitsStart start.now q.specs.now f × IsCutAfter t told.stretches.now r.at)
end_asked start q told i r sought lt own e =
    let (a, b) = end_row q told sought.low sought.high sought.is_told start i lt in
    rw e (a, (sought.low, sought.high, sought.is_told, sought.fits, (b, inl own.0)))

pub begin_asked : (v : ℕ) (q : Question) (told : Told) (i : ℕ) (r : Row) → IsSought (Begin v) q told → i < row_count (Begin v) told → IsOwnAt (Begin v) q told i → r ≡ get_or told.rows.now (row_at (Begin v) told i) no_row → (r.at ≤ q.at) × (q.at ≤ v) × ((f t : ℕ) × IsToldAt q told f t × IsCutBefore f told.stretches.now r.at × IsCutAfter t told.stretches.now v)
begin_asked v q told i r sought lt own e =
    let (a, b) = begin_row q told sought.low sought.high sought.is_told v i lt in
    rw e (b, sought.fits.0, (sought.low, sought.high, sought.is_told, (a, inl own.0), sought.fits.1))
