-- Two watches in one pass.
use Rattle.std.proofs.Common.{◌≡◌, refl, Bool, true, false, List, [], ◌∷◌}
use Rattle.sig_base.specs.declared.values.Row.{Row}
use Rattle.gap_map.specs.declared.stretch.Stretch.{Stretch}
use Rattle.hour_sweep.specs.Passes.{back, both_after, both_cleared, front, swept, swept_rows, swept_stretch}

rows_both : {S T : Type 0} (f : S → Row → S) (g : T → Row → T) (xs : List Row) (s : S) (t : T) → swept_rows (both_after f g) xs (s, t) ≡ (swept_rows f xs s, swept_rows g xs t)
rows_both f g [] s t = refl
rows_both f g (x ∷ xs) s t = rows_both f g xs (f s x) (g t x)

stretch_both : {S T : Type 0} (f : S → Row → S) (g : T → Row → T) (c : S → S) (d : T → T) (known : Bool) (xs : List Row) (s : S) (t : T)
    → swept_stretch (both_after f g) (both_cleared c d) known xs (s, t) ≡ (swept_stretch f c known xs s, swept_stretch g d known xs t)
stretch_both f g c d true xs s t = rows_both f g xs s t
stretch_both f g c d false xs s t = refl

-- each comes to what a pass of its own gives
pub swept_both : {S T : Type 0} (f : S → Row → S) (g : T → Row → T) (c : S → S) (d : T → T) (ks : List Stretch) (xs : List Row) (s : S) (t : T)
    → swept (both_after f g) (both_cleared c d) ks xs (s, t) ≡ (swept f c ks xs s, swept g d ks xs t)
swept_both f g c d [] xs s t = refl
swept_both f g c d (k ∷ ks) xs s t =
    rw (stretch_both f g c d k.known (front k.to xs) s t)
    (swept_both f g c d ks (back k.to xs) (swept_stretch f c k.known (front k.to xs) s) (swept_stretch g d k.known (front k.to xs) t))
