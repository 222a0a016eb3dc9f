-- A walk over a window, hour by hour.
use Rattle.std.proofs.Common.{suc, zero, ◌≡◌, refl, sym, ap, ◌∙◌, subst, ◌↔◌, ℕ, ◌+◌, ◌-◌, ◌<◌, true, List, [], ◌++◌, take, drop, take-append-drop, append_assoc, Option, Some, None, arith}
use Rattle.std.specs.Prelude.{is_some}
use Rattle.std.proofs.lemmas.List.{append-nil}
use Rattle.std.proofs.lemmas.List.Elements.{filter-append}
use Rattle.sig_base.specs.declared.values.Row.{Row}
use Rattle.span_set.specs.declared.set.Span.{Span}
use Rattle.reach.specs.Runs.{State}
use Rattle.reach.proofs.Later.{then_iff}
use Rattle.hour_store.specs.Store.{Store}
use Rattle.board.specs.History.{Track}
use Rattle.filling_pair.specs.declared.strands.Fill.{Fill}
use Rattle.filling_pair.specs.declared.step.Stand.{Stand}
use Rattle.filling_pair.specs.Strands.{rows_of}
use Rattle.signal_log.specs.Rows.{hour_rows}
use Rattle.filling_pair.specs.Walking.{In, Remains, Walks, before, is_own, own_hours, own_of, state_of}

module _ (k : Track) where
  -- these rows have been passed, whatever follows
  abbrev pub Over : List Row → Option Stand → List Fill → Option Stand → List Fill → Type 0
  Over rows here fs new rest = (b : ℕ) (more : List Row) (u : State) → Remains k b (rows ++ more) here fs u ↔ Remains k b more new rest u

  pub over_same : (rows rows2 : List Row) (here new : Option Stand) (fs rest : List Fill) → rows ≡ rows2 → Over rows here fs new rest → Over rows2 here fs new rest
  over_same rows rows2 here new fs rest e h = subst (λ (rs : List Row). Over rs here fs new rest) e h

  pub over_join : (xs ys : List Row) (a b c : Option Stand) (fs gs hs : List Fill) → Over xs a fs b gs → Over ys b gs c hs → Over (xs ++ ys) a fs c hs
  over_join xs ys a b c fs gs hs h g m more u =
      subst (λ (rs : List Row). Remains k m rs a fs u ↔ Remains k m more c hs u) (sym (append_assoc xs ys more)) (then_iff (h m (ys ++ more) u) (g m more u))

  -- no row is left
  pub over_all : (rows : List Row) (here new : Option Stand) (fs rest : List Fill) → Over rows here fs new rest → (b : ℕ) (u : State) → Remains k b rows here fs u ↔ Remains k b [] new rest u
  over_all rows here new fs rest h b u = subst (λ (rs : List Row). Remains k b rs here fs u ↔ Remains k b [] new rest u) (append-nil rows) (h b [] u)

  -- nor a fill
  pub last_fills : (b : ℕ) (here new : Option Stand) (fs : List Fill) → ((more : List Row) (u : State) → In here (λ s. Walks k (rows_of (before b fs) ++ more) s u) ↔ In new (λ s. Walks k more s u)) → (u : State) → Remains k b [] here fs u ↔ In new (λ s. u ≡ s)
  last_fills b here new fs h u = subst (λ (rs : List Row). In here (λ s. Walks k rs s u) ↔ In new (λ s. u ≡ s)) (append-nil (rows_of (before b fs))) (h [] u)

  pub all_passed : (rows : List Row) (b : ℕ) (here mid new : Option Stand) (fs rest : List Fill) → Over rows here fs mid rest → ((more : List Row) (u : State) → In mid (λ s. Walks k (rows_of (before b rest) ++ more) s u) ↔ In new (λ s. Walks k more s u)) → (u : State) → Remains k b rows here fs u ↔ In new (λ s. u ≡ s)
  all_passed rows b here mid new fs rest h g u = then_iff (over_all rows here mid fs rest h b u) (last_fills b mid new rest g u)

  pub own_parts : (blanks : List Span) (n : ℕ) (rows : List Row) → own_of k blanks (take n rows) ++ own_of k blanks (drop n rows) ≡ own_of k blanks rows
  own_parts blanks n rows = sym (filter-append (is_own k blanks) (take n rows) (drop n rows)) ∙ ap (own_of k blanks) (take-append-drop n rows)

  module _ (s : Store) where
    pub hours_first : (hour to : ℕ) → hour < to → own_hours k s hour (to - hour) ≡ own_of k s.blanks (hour_rows s hour) ++ own_hours k s (hour + 1) (to - (hour + 1))
    hours_first hour to lt = let e : to - hour ≡ suc (to - (hour + 1)) = omega arith in ap (own_hours k s hour) e

    pub hours_parts : (hour a b : ℕ) → own_hours k s hour (a + b) ≡ own_hours k s hour a ++ own_hours k s (hour + a) b
    hours_parts hour zero b = let e1 : 0 + b ≡ b = omega arith in let e2 : hour ≡ hour + 0 = omega arith in ap (own_hours k s hour) e1 ∙ ap (λ (h : ℕ). own_hours k s h b) e2
    hours_parts hour (suc a) b =
        let e1 : suc a + b ≡ suc (a + b) = omega arith in
        let e2 : hour + 1 + a ≡ hour + suc a = omega arith in
        let own = own_of k s.blanks (hour_rows s hour) in
        ap (own_hours k s hour) e1
        ∙ (ap (λ (rs : List Row). own ++ rs) (hours_parts (hour + 1) a b ∙ ap (λ (h : ℕ). own_hours k s (hour + 1) a ++ own_hours k s h b) e2) ∙ sym (append_assoc own (own_hours k s (hour + 1) a) (own_hours k s (hour + suc a) b)))

    pub hours_around : (hour n : ℕ) → hour < n → own_hours k s 0 (hour - 0) ++ (own_of k s.blanks (hour_rows s hour) ++ own_hours k s (hour + 1) (n - (hour + 1))) ≡ own_hours k s 0 n
    hours_around hour n lt =
        let e : hour - 0 ≡ hour = omega arith in
        let e1 : hour + suc (n - (hour + 1)) ≡ n = omega arith in
        let e2 : 0 + hour ≡ hour = omega arith in
        ap (λ (h : ℕ). own_hours k s 0 h ++ own_hours k s hour (suc (n - (hour + 1)))) e
        ∙ (ap (λ (h : ℕ). own_hours k s 0 hour ++ own_hours k s h (suc (n - (hour + 1)))) (sym e2) ∙ (sym (hours_parts 0 hour (suc (n - (hour + 1)))) ∙ ap (own_hours k s 0) e1))

    -- one hour more
    pub hour_turn : (to hour : ℕ) (all : List Row) (init here new : Option Stand) (fs gs hs : List Fill) → hour < to → ((b : ℕ) (more : List Row) (u : State) → Remains k b (all ++ more) init fs u ↔ Remains k b (own_hours k s hour (to - hour) ++ more) here gs u) → Over (own_of k s.blanks (hour_rows s hour)) here gs new hs → (b : ℕ) (more : List Row) (u : State) → Remains k b (all ++ more) init fs u ↔ Remains k b (own_hours k s (hour + 1) (to - (hour + 1)) ++ more) new hs u
    hour_turn to hour all init here new fs gs hs lt h g b more u =
        let own = own_of k s.blanks (hour_rows s hour) in
        let rest = own_hours k s (hour + 1) (to - (hour + 1)) in
        let e : own_hours k s hour (to - hour) ++ more ≡ own ++ (rest ++ more) = ap (λ (rs : List Row). rs ++ more) (hours_first hour to lt) ∙ append_assoc own rest more in
        then_iff (subst (λ (rs : List Row). Remains k b (all ++ more) init fs u ↔ Remains k b rs here gs u) e (h b more u)) (g b (rest ++ more) u)

-- where a walk ends, there is a state
pub some_end : (o : Option Stand) (P : State → Type 0) → ((u : State) → P u ↔ In o (λ s. u ≡ s)) → (is_some o ≡ true) ↔ ((u : State) × P u)
some_end None P h = ((λ e. absurd (cc)), (λ (u, p). absurd ((h u).0 p)))
some_end (Some s) P h = ((λ e. (state_of s, (h (state_of s)).1 refl)), (λ x. refl))
