-- Rows that were logged twice.
use Rattle.std.specs.Prelude.{◌≡◌, ◌==◌, ◌&&◌, ◌⊎◌, ◌-◌, ℕ, Bool, false, List, [], ◌∷◌, ◌++◌, length, fold, Option, Some, None, if◌then◌else◌, ⊤}
use Rattle.std.specs.Option.{option_or, option_map_or}
use Rattle.sig_base.specs.declared.values.Row.{Row}
use Rattle.event_codes.specs.declared.channels.Group.{Group}
use Rattle.event_codes.specs.declared.channels.Group.TheVariants.{Of, Alone}
use Rattle.event_codes.specs.Channels.{channel_in_table, same_group}

-- the group of a row, among which it can be a repeat: that of its channel, or of its code and parameter where it has none
unfoldable pub group_of_row : Row → Group
group_of_row row = option_map_or Of (channel_in_table row.code row.param) (Alone row.code row.param)

-- the last of these rows that passes a test
abbrev pub last_where : (Row → Bool) → List Row → Option Row
last_where test [] = None
last_where test (r ∷ rs) = option_or (last_where test rs) (if test r then Some r else None)

-- the row is a repeat: of the rows that were kept before it, the last one of its group at its tenth has its code and parameter
abbrev pub is_repeat : List Row → Row → Bool
is_repeat kept row =
    let last = last_where (λ r. (r.at == row.at) && same_group (group_of_row row) (group_of_row r)) kept in
    option_map_or (λ r. (r.code == row.code) && (r.param == row.param)) last false

-- the rows in order, of which each is kept that is no repeat of those kept before it
abbrev pub without_repeats : List Row → List Row
without_repeats rows = fold (λ kept r. if is_repeat kept r then kept else kept ++ r ∷ []) [] rows

-- ---- for contracts alone

-- both rows have one code and one parameter
abbrev pub same_event : Row → Row → Bool
same_event a b = (a.code == b.code) && (a.param == b.param)

-- there is such a row, and it says the same as the other
abbrev pub is_event_of : Row → Option Row → Bool
is_event_of row last = option_map_or (λ r. same_event r row) last false

-- rows that were kept, and of those after them the ones that are no repeats
abbrev pub kept_after : List Row → List Row → List Row
kept_after kept rows = fold (λ kept r. if is_repeat kept r then kept else kept ++ r ∷ []) kept rows

-- how many rows are repeats
abbrev pub repeats_of : List Row → ℕ
repeats_of rows = length rows - length (without_repeats rows)

-- none of these rows, which come after those before, is a repeat
abbrev pub HasNoRepeat : List Row → List Row → Type 0
HasNoRepeat before [] = ⊤
HasNoRepeat before (r ∷ rs) = (is_repeat before r ≡ false) × HasNoRepeat (before ++ r ∷ []) rs

-- the first list is the second one with some of its rows left out
abbrev pub IsPartOf : List Row → List Row → Type 0
IsPartOf part [] = part ≡ []
IsPartOf part (r ∷ rs) = IsPartOf part rs ⊎ ((rest : List Row) × (part ≡ r ∷ rest) × IsPartOf rest rs)
