-- The diagrams of a phase of a store.
use Rattle.std.specs.Prelude.{ℕ, [], ◌∷◌, ◌++◌, decimal, Bool, true, false}
use Rattle.hour_store.specs.Store.{Store, is_known, known_rows}
use Rattle.ring_config.specs.Settings.{Settings}
use Rattle.sig_base.specs.Numbers.{has_phase}
use Rattle.arrival_measures.specs.Points.{diagrams_of}
use Rattle.report_text.specs.declared.refusal.Refusal.TheVariants.{BadLine}
use Rattle.report_text.specs.Line.{line_of, num}
use Rattle.report_text.specs.Approaches.{diagrams_text}
use Rattle.sigaudit.specs.Turns.{Turn, refuses, writes}

-- the turn of a line that asks for the diagrams of phase p, by whether that is configured: its whole cycles with the arrivals in them; a phase that isn't configured makes a bad line
abbrev pub points_turn : Settings → ℕ → ℕ → Store → Bool → Turn
points_turn c n p s true = writes (line_of (decimal n ∷ num " points " p ∷ []) ++ diagrams_text c (diagrams_of (is_known s) c p (known_rows s))) s
points_turn c n p s false = refuses c n BadLine s

-- ---- For contracts alone

-- the turn of a line that asks for the diagrams of phase p
abbrev pub points_of_phase : Settings → ℕ → ℕ → Store → Turn
points_of_phase c n p s = points_turn c n p s (has_phase c.phases p)
