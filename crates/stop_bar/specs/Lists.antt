-- What holds at each place of two lists.
use Rattle.std.specs.Prelude.{List}
use Rattle.std.specs.List.{AllZip}

-- For contracts alone: R holds of the elements at each place of two lists, which are equally long.
abbrev pub Each : {A B : Type 0} → (A → B → Type 0) → List A → List B → Type 0
Each R xs ys = AllZip R xs ys
