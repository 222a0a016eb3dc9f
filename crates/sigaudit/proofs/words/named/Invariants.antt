use Rattle.std.proofs.Common.{◌≡◌, ◌∷◌, codes, map, take}
use Rattle.std.specs.Prelude.{string_bytes}
use Rattle.sigaudit.proofs.words.named.Given as goal

-- the name, and the words so far
abbrev pub invariant-loop-word : goal.invariant-loop-word
invariant-loop-word l = map (λ w. w.now) l.all.items ≡ codes "sigaudit" ∷ map string_bytes (take l.word-index l.words)
