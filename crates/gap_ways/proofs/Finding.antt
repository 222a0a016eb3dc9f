-- What an answer of a search says, in other words.
use Rattle.std.proofs.Common.{Option, None, Some, MatchOption}

pub match_more : {A : Type 0} (N M : Type 0) (P Q : A → Type 0) (r : Option A) → (N → M) → ((x : A) → P x → Q x) → MatchOption r N P → MatchOption r M Q
match_more N M P Q None f g h = f h
match_more N M P Q (Some x) f g h = g x h
