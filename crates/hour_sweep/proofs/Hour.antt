-- Laws that hold row by row hold over an hour, whatever stretches cut it.
use Rattle.std.proofs.Common.{◌≡◌, ℕ, ◌<◌, ◌≤◌, Bool, true, false, List, [], ◌∷◌, ◌++◌, ap, sym, subst, ◌∙◌, append_assoc, arith}
use Rattle.std.specs.Prelude.{All}
use Rattle.std.proofs.lemmas.List.{append-nil}
use Rattle.std.proofs.lemmas.List.Elements.{All-append, All-weaker, All-push, All-filter, filter-append}
use Rattle.sig_base.specs.declared.values.Row.{Row}
use Rattle.gap_map.specs.declared.stretch.Stretch.{Stretch}
use Rattle.gap_map.specs.Stretches.{AreStretches}
use Rattle.gap_map.proofs.Cutting.{ends_within}
use Rattle.hour_sweep.specs.Rows.{known_rows}
use Rattle.hour_sweep.specs.Hours.{AreOrdered}
use Rattle.hour_sweep.specs.Passes.{front, back, swept_rows, swept_stretch, swept, AreLaws}
use Rattle.hour_sweep.proofs.Orders.{Knows, split_rows, filter_all, filter_none, filter_ordered, below_end, none_within}

module _ {S : Type 0} (known : ℕ → Bool) (after : S → Row → S) (cleared : S → S) (Keeps : ℕ → List Row → List Row → S → Type 0) (laws : AreLaws known after cleared Keeps) where
  rows_kept : (a t b : ℕ) (before f more : List Row) (s : S) → AreOrdered a t f → Knows known true a t → AreOrdered t b more → All (λ z. z.at ≤ a) before → Keeps a before (f ++ more) s → Keeps t (before ++ f) more (swept_rows after f s)
  rows_kept a t b before [] more s h kn m low i = subst (λ (zs : List Row). Keeps t zs more s) (sym (append-nil before)) (laws.on a t before more s h kn i)
  rows_kept a t b before (x ∷ xs) more s h kn m low i =
      let le = h.0 in
      let at_x = laws.on a x.at before (x ∷ xs ++ more) s le (λ k l u. kn k l (omega arith)) i in
      let low_x = All-weaker (λ (z : Row). z.at ≤ a) (λ z. z.at ≤ x.at) (λ z l. omega arith) before low in
      let past = laws.row before x (xs ++ more) s low_x at_x in
      subst (λ (zs : List Row). Keeps t zs more (swept_rows after xs (after s x))) (append_assoc before (x ∷ []) xs)
      (rows_kept x.at t b (before ++ x ∷ []) xs more (after s x) h.2 (λ k l u. kn k (omega arith) u) m (All-push (λ z. z.at ≤ x.at) before x low_x (omega arith)) past)

  stretch_kept : (v : Bool) (a t b : ℕ) (before f more : List Row) (s : S) → a < t → AreOrdered a t f → Knows known v a t → AreOrdered t b more → All (λ z. z.at < a) before → Keeps a before (known_rows known f ++ more) s → Keeps t (before ++ known_rows known f) more (swept_stretch after cleared v f s)
  stretch_kept true a t b before f more s lt h kn m low i =
      rw (filter_all known a t f h kn) (rows_kept a t b before f more s h kn m (All-weaker (λ z. z.at < a) (λ z. z.at ≤ a) (λ z l. omega arith) before low) (rw (filter_all known a t f h kn) at i))
  stretch_kept false a t b before f more s lt h kn m low i =
      rw (filter_none known a t f h kn, append-nil before) (laws.gap a t before more s lt kn low (rw (filter_none known a t f h kn) at i))

  pub hour_kept : (ss : List Stretch) (a b : ℕ) (before xs : List Row) (s : S) → AreStretches known a b ss → AreOrdered a b xs → All (λ z. z.at < a) before → Keeps a before (known_rows known xs) s → Keeps b (before ++ known_rows known xs) [] (swept after cleared ss xs s)
  hour_kept [] a b before xs s st h low i =
      let none : xs ≡ [] = none_within a b xs (omega arith) h in
      let i' = rw none at i in
      rw (none, append-nil before) (subst (λ (t : ℕ). Keeps t before [] s) st i')
  hour_kept (t ∷ ts) a b before xs s st h low i =
      let f = front t.to xs in
      let g = back t.to xs in
      let kn = st.2 in
      let sp = split_rows a t.to b xs (omega arith) (ends_within known t.to b ts st.3) h in
      let rows : known_rows known f ++ known_rows known g ≡ known_rows known xs = sym (filter-append (λ (x : Row). known x.at) f g) ∙ ap (λ zs. known_rows known zs) sp.joined in
      let here = subst (λ (zs : List Row). Keeps a before zs s) (sym rows) i in
      let past = stretch_kept t.known a t.to b before f (known_rows known g) s st.1 sp.first st.2 (filter_ordered known t.to b t.to g (omega arith) sp.rest) low here in
      let lower = All-weaker (λ (x : Row). x.at < a) (λ x. x.at < t.to) (λ x l. omega arith) before low in
      let below = All-filter (λ (x : Row). known x.at) (λ x. x.at < t.to) f (below_end a t.to f sp.first) in
      subst (λ (zs : List Row). Keeps b zs [] (swept after cleared ts g (swept_stretch after cleared t.known f s))) (append_assoc before (known_rows known f) (known_rows known g) ∙ ap (λ zs. before ++ zs) rows)
      (hour_kept ts t.to b (before ++ known_rows known f) g (swept_stretch after cleared t.known f s) st.3 sp.rest (All-append (λ (x : Row). x.at < t.to) before (known_rows known f) lower below) past)
