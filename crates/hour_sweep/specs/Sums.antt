-- Counts, sums, the least and the greatest, and tables of what each number has.
use Rattle.std.specs.Prelude.{ℕ, zero, suc, ◌≡◌, ◌<◌, ◌-◌, ◌^◌, ◌==◌, min, max, Bool, if◌then◌else◌, List, [], ◌∷◌, ◌++◌, Option, Some, None, length, filter, slice_index_or}

-- the number, or the last value of a u64 where it is more
unfoldable pub capped : ℕ → ℕ
capped n = min n (2 ^ 64 - 1)

-- 1 where it is so, else 0
abbrev pub one_if : Bool → ℕ
one_if b = if b then 1 else 0

-- the lesser of two numbers, either of which may be missing
abbrev pub lesser : Option ℕ → Option ℕ → Option ℕ
lesser None y = y
lesser (Some x) None = Some x
lesser (Some x) (Some y) = Some (min x y)

-- the greater of two numbers, either of which may be missing
abbrev pub greater : Option ℕ → Option ℕ → Option ℕ
greater None y = y
greater (Some x) None = Some x
greater (Some x) (Some y) = Some (max x y)

-- the least of the numbers; none where there are none
abbrev pub least : List ℕ → Option ℕ
least [] = None
least (x ∷ xs) = lesser (Some x) (least xs)

-- the greatest of the numbers; none where there are none
abbrev pub greatest : List ℕ → Option ℕ
greatest [] = None
greatest (x ∷ xs) = greater (Some x) (greatest xs)

-- item by item: what stands at one place of both lists is put together, and the rest of the longer one stays
abbrev pub merged : {A : Type 0} → (A → A → A) → List A → List A → List A
merged put [] ys = ys
merged put (x ∷ xs) [] = x ∷ xs
merged put (x ∷ xs) (y ∷ ys) = put x y ∷ merged put xs ys

-- the elements whose number is p
abbrev pub own : {I : Type 0} → (I → ℕ) → ℕ → List I → List I
own number p xs = filter (λ x. number x == p) xs

-- what f gives of each of the numbers below n that are kept, by number
abbrev pub by_number : {A : Type 0} → (ℕ → Bool) → (ℕ → A) → ℕ → List A
by_number has f zero = []
by_number has f (suc n) = if has n then by_number has f n ++ f n ∷ [] else by_number has f n

-- at the place of each number stands what comes of its own among the elements
abbrev pub AreSums : {I S : Type 0} → (I → ℕ) → (ℕ → List I → S) → ℕ → List I → List S → Type 0
AreSums {S = S} number of n xs table = (length table ≡ n) × ((p : ℕ) (d : S) → p < n → slice_index_or table p d ≡ of p (own number p xs))
