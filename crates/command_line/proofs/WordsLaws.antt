-- The command, and what its answers say of the words.
use Rattle.std.proofs.Common.{◌≡◌, ◌∙◌, true, false, List, [], ◌∷◌, Option, None, refl, ap, sym, subst, arith, inl, inr, option_map, Bor, codes}
use Rattle.std.specs.Prelude.{if◌then◌else◌}
use Rattle.std.proofs.lemmas.Bool.Decides.{nat_tests}
use Rattle.clap.specs.Walk.{Text, Row, is_empty, first_of, rows_of}
use Rattle.clap.specs.Matches.{found_of, first_value}
use Rattle.clap.specs.declared.parser.matches.ArgMatches.{ArgMatches}
use Rattle.clap.specs.declared.parser.matches.Found.{Found}
use Rattle.clap.proofs.WalkLemmas.{first_value-rows}
use Rattle.clap.specs.Simple.{App, HasMatchesOf}
use Rattle.clap.specs.Simple.{matches_of}
use Rattle.clap.specs.Faults.{fault_of, is_simple_and_free}
use Rattle.clap.specs.Simple.{is_simple}
use Rattle.clap.specs.Kinds.{Kinds, HasKind}
use Rattle.clap.specs.Values.{kind_of}
use Rattle.clap.specs.declared.error.Error.{Error}
use Rattle.clap.specs.declared.error.kind.ErrorKind.TheVariants.{OutOfMemory}
use Rattle.clap.proofs.OnLiterals.{clap_on_literals}
use Rattle.command_line.specs.Words.{sigaudit, faults, rows, request_of, asked_for, asked_given, given_by, Asked, text_of}

pub is_free : is_simple_and_free sigaudit ≡ true
unfolding clap_on_literals
is_free = refl

pub is_plain : is_simple sigaudit ≡ true
unfolding clap_on_literals
is_plain = refl

some_kinds : (kinds : Kinds) (e : Error) → (kind_of e ≡ OutOfMemory → ⊥) → HasKind kinds e → is_empty kinds ≡ false
some_kinds [] e other (inl h) = absurd (other h)
some_kinds [] e other (inr h) = absurd h
some_kinds (k ∷ ks) e other h = grind (arith, nat_tests)

pub none_asked : (words : List Text) (app : App) (e : Error) → app ≡ sigaudit → (kind_of e ≡ OutOfMemory → ⊥) → (is_simple_and_free app ≡ true → HasKind (fault_of app words) e) → request_of words ≡ None
unfolding request_of faults
none_asked words app e same other h =
    let kinds : HasKind (fault_of sigaudit words) e = subst (λ (a : App). HasKind (fault_of a words) e) same (h (rw same is_free)) in
    rw (some_kinds (fault_of sigaudit words) e other kinds) refl

pub is_parsed : (words : List Text) (app : App) (m : ArgMatches) → app ≡ sigaudit → (is_simple_and_free app ≡ true → fault_of app words ≡ []) → HasMatchesOf app words m
    → (faults words ≡ []) × (rows_of (found_of m) ≡ rows words)
unfolding faults rows
is_parsed words app m same none has =
    (subst (λ (a : App). fault_of a words ≡ []) same (none (rw same is_free)), (has (rw same is_plain)).0 ∙ ap (λ (a : App). matches_of a words) same)

-- a value that the matches give
pub given : (r : Option (Bor Text)) (f : Found) (id : Text) → option_map (λ s. s.now) r ≡ first_value f id → text_of r ≡ first_of id (rows_of f)
given r f id e = e ∙ first_value-rows f id

pub given_same : (a b c d e f g h i : Option Text) (found : List Row) → a ≡ first_of (codes "config") found → b ≡ first_of (codes "script") found → c ≡ first_of (codes "rule") found → d ≡ first_of (codes "at") found
    → e ≡ first_of (codes "count") found → f ≡ first_of (codes "signal") found → g ≡ first_of (codes "hour") found → h ≡ first_of (codes "pack") found → i ≡ first_of (codes "demo") found
    → record { config = a; script = b; rule = c; at = d; count = e; signal = f; hour = g; pack = h; demo = i } ≡ given_by found
given_same a b c d e f g h i found p q r s t u v w x = rw (p, q, r, s, t, u, v, w, x) refl

-- the request by what stands in the contracts of the parts
request_is : (words : List Text) → request_of words ≡ (if is_empty (faults words) then asked_given (given_by (rows words)) else None)
unfolding request_of faults rows asked_for asked_given
request_is words = refl

pub some_asked : (o : Option Asked) (found : List Row) (words : List Text) → faults words ≡ [] → found ≡ rows words → o ≡ asked_given (given_by found) → request_of words ≡ o
some_asked o found words none e asked = rw (request_is words, none, ← e) (sym asked)
