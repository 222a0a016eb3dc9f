-- No two colours of one kind have the same name.
use Rattle.std.proofs.Common.{◌≡◌, refl, ℕ, zero, suc, ◌+◌, ◌<◌, ◌≤◌, Bool, true, nat_eq, ◌&&◌, List, [], ◌∷◌, length, slice_get, Some, if◌then◌else◌, arith}
use Rattle.std.proofs.lemmas.Bool.{and_parts, eqb-true}
use Rattle.std.proofs.lemmas.Option.{slice_get_within}
use Rattle.std.specs.Str.{bytes_eq}
use Rattle.event_codes.specs.declared.channels.Kind.{Kind}
use Rattle.event_codes.specs.declared.channels.Kind.TheVariants.{Phase, Ped, Overlap, Detector, PedDetector, PreemptInput, PreemptService, Coordination}
use Rattle.channel_tables.specs.Table.{Table}
use Rattle.channel_tables.specs.Tables.{table_of, HasName}

-- the place of a name among names, by a computation
abbrev place_in : List (List ℕ) → List ℕ → ℕ
place_in [] n = 0
place_in (x ∷ xs) n = if bytes_eq x n then 0 else 1 + place_in xs n

-- the function numbers the names from k on
abbrev numbers : (List ℕ → ℕ) → ℕ → List (List ℕ) → Bool
numbers f k [] = true
numbers f k (x ∷ xs) = nat_eq (f x) k && numbers f (k + 1) xs

numbers_at : (f : List ℕ → ℕ) (k : ℕ) (xs : List (List ℕ)) (c : ℕ) (n : List ℕ) → numbers f k xs ≡ true → slice_get xs c ≡ Some n → f n ≡ k + c
numbers_at f k [] c n h e = absurd (cc)
numbers_at f k (x ∷ xs) zero n h e = let p = and_parts (nat_eq (f x) k) (numbers f (k + 1) xs) h in let same : x ≡ n = cc in let q = eqb-true (f x) k p.0 in let r = rw same at q in omega arith
numbers_at f k (x ∷ xs) (suc c) n h e = let p = and_parts (nat_eq (f x) k) (numbers f (k + 1) xs) h in let r = numbers_at f (k + 1) xs c n p.1 e in omega arith

abbrev are_numbered : Table → Bool
are_numbered t = numbers (place_in t.names) 0 t.names

kind_numbered : (kind : Kind) → are_numbered (table_of kind) ≡ true
kind_numbered Phase = refl
kind_numbered Ped = refl
kind_numbered Overlap = refl
kind_numbered Detector = refl
kind_numbered PedDetector = refl
kind_numbered PreemptInput = refl
kind_numbered PreemptService = refl
kind_numbered Coordination = refl

-- a name belongs to one colour
pub one_name : (kind : Kind) (c d : ℕ) (n : List ℕ) → HasName kind c n → HasName kind d n → c ≡ d
one_name kind c d n h k =
    let t = (table_of kind).names in
    let a = numbers_at (place_in t) 0 t c n (kind_numbered kind) h in
    let b = numbers_at (place_in t) 0 t d n (kind_numbered kind) k in
    omega arith

few_names : (kind : Kind) → length (table_of kind).names ≤ 8
few_names Phase = omega arith
few_names Ped = omega arith
few_names Overlap = omega arith
few_names Detector = omega arith
few_names PedDetector = omega arith
few_names PreemptInput = omega arith
few_names PreemptService = omega arith
few_names Coordination = omega arith

-- no kind has more than eight colours
pub name_below : (kind : Kind) (c : ℕ) (n : List ℕ) → HasName kind c n → c < 8
name_below kind c n h = let w = slice_get_within (table_of kind).names c n h in let f = few_names kind in omega arith
