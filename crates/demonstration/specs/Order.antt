-- The order of rows in a file.
use Rattle.std.specs.Prelude.{◌==◌, ◌&&◌, ◌||◌, nat_lt, if◌then◌else◌, Bool, List, [], ◌∷◌}
use Rattle.sig_base.specs.declared.values.Row.{Row}

-- a row is before another by its tenth, of one tenth by its code, of one code by its parameter
abbrev pub is_before : Row → Row → Bool
is_before a b =
    nat_lt a.at b.at || (a.at == b.at && (nat_lt a.code b.code || (a.code == b.code && nat_lt a.param b.param)))

-- a row put in front of the first that it is before
unfoldable pub placed : Row → List Row → List Row
placed r [] = r ∷ []
placed r (x ∷ xs) = if is_before r x then r ∷ x ∷ xs else x ∷ placed r xs

-- these rows in the order of a file
unfoldable pub ordered : List Row → List Row
ordered [] = []
ordered (r ∷ rs) = placed r (ordered rs)
