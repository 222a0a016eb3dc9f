-- A delay and what is under way of a pedestrian signal.
use Rattle.std.proofs.Common.{◌≡◌, ◌↔◌, ℕ, Bool, false, List, ◌∷◌, ◌++◌, refl, ap, sym, inl, inr}
use Rattle.std.specs.Prelude.{MatchOption}
use Rattle.std.proofs.lemmas.Bool.{cases_Bool}
use Rattle.sig_base.specs.declared.values.Row.{Row}
use Rattle.hour_sweep.specs.Hours.{AreOrdered}
use Rattle.service_cut.proofs.WholeCycles.{front_ordered}
use Rattle.service_cut.proofs.Fitting.{earlier_low}
use Rattle.other_measures.specs.declared.peds.PedPart.{PedPart}
use Rattle.other_measures.specs.Peds.{delay_at, is_call, is_walk, ped_of}
use Rattle.other_measures.specs.Sums.{is_not_begun, is_partial, ran}
use Rattle.delay_laws.specs.Standing.{says}
use Rattle.delay_laws.specs.Delays.{IsDelay, IsPed}
use Rattle.delay_laws.proofs.Standing.{last_row_found, last_row_told}
use Rattle.delay_laws.proofs.Lapses.{not_begun_is, partial_is, ran_is}

module _ (known : ℕ → Bool) (p a b : ℕ) (before : List Row) where
  pub delay_is : (r : Row) (rest : List Row) → AreOrdered a b (before ++ r ∷ rest) → MatchOption (delay_at known p before r rest) (says p 21 r ≡ false) (λ d. IsDelay known p before r d.ped (ran d.wait) (is_not_begun d.wait) (is_partial d.wait))
  unfolding delay_at is_walk is_call
  delay_is r rest w =
      elim (cases_Bool (says p 21 r)) [
        | inl y ↦
            let ordered = front_ordered a b before r rest w in
            rw y
            (record {
              number = refl;
              walk = y;
              ran = λ n. ran_is (says p 21) (says p 45) known r.at before a b ordered n (earlier_low a b before r rest w);
              uncalled = not_begun_is (says p 21) (says p 45) known r.at before a b ordered;
              partial = partial_is (says p 21) (says p 45) known r.at before a b ordered;
            })
        | inr n ↦ rw n refl
      ]

  pub ped_is : (t : ℕ) (part : PedPart) → AreOrdered a b before → (ped_of known t before p ≡ part) ↔ IsPed known t before p part
  unfolding is_walk is_call
  ped_is t part w = (
    λ e. record { number = sym (ap (λ (x : PedPart). x.number) e); walk = last_row_told (says p 21) (says p 45) known t before part.walk a b w (ap (λ (x : PedPart). x.walk) e) },
    λ h. rw (last_row_found (says p 21) (says p 45) known t before part.walk h.walk) (ap (λ n. record { number = n; walk = part.walk }) (sym h.number)),
  )
