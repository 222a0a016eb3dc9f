-- What a line of a script says.
use Rattle.std.specs.Prelude.{◌==◌, ◌&&◌, nat_le, ℕ, ℤ, Bool, true, List, [], ◌∷◌, length, codes, if◌then◌else◌, Option, Some, None}
use Rattle.std.specs.List.{list_all}
use Rattle.std.specs.Option.{option_map_or}
use Rattle.std.specs.Str.{bytes_eq}
use Rattle.sig_base.specs.Window.{Span}
use Rattle.row_reader.specs.Number.{number_of}
use Rattle.row_reader.specs.Stamp.{stamp_in}
use Rattle.row_reader.specs.Trim.{trim_front}

-- the bytes up to the first space
unfoldable pub word : List ℕ → List ℕ
word [] = []
word (b ∷ bs) = if b == 32 then [] else b ∷ word bs

-- the bytes from the first space on
unfoldable pub after_word : List ℕ → List ℕ
after_word [] = []
after_word (b ∷ bs) = if b == 32 then b ∷ bs else after_word bs

-- what a line says
pub data Said : Type 0 where
  skip : Said
  bad : Said
  load : ℕ → List ℕ → Said
  replace : ℕ → List ℕ → Said
  withdraw : ℕ → Said
  blank : ℤ → ℤ → Said
  unblank : ℤ → ℤ → Said
  audit : Said
  verdicts : ℕ → Said
  measures : Said
  measures_of : ℕ → Said
  points : ℕ → Said
  offsets : List ℕ → Said

-- a word that is an hour: one to six digits
abbrev pub hour_at : List ℕ → Option ℕ
hour_at text = number_of 1 6 999999 text

-- a word that is the name of a file or of an approach: 1 to 255 bytes
abbrev pub name_at : List ℕ → Option (List ℕ)
name_at text = if nat_le 1 (length text) && nat_le (length text) 255 then Some text else None

-- a line with two values; bad where one of them isn't readable
abbrev pub by_both : {A B : Type 0} → (A → B → Said) → Option A → Option B → Said
by_both make (Some a) (Some b) = make a b
by_both make _ _ = bad

-- nothing is left of a line
abbrev pub is_over : List ℕ → Bool
is_over text = length text == 0

-- what a line says by its words: the first, the second, the third, and what follows them; an hour has one to six digits, a phase one or two
abbrev pub of_words : Span → List ℕ → List ℕ → List ℕ → List ℕ → Said
of_words w verb a b rest =
    if bytes_eq verb (codes "load") then (if is_over rest then by_both load (hour_at a) (name_at b) else bad)
    else (if bytes_eq verb (codes "replace") then (if is_over rest then by_both replace (hour_at a) (name_at b) else bad)
    else (if bytes_eq verb (codes "withdraw") then (if is_over b then option_map_or withdraw (hour_at a) bad else bad)
    else (if bytes_eq verb (codes "blank") then (if is_over rest then by_both blank (stamp_in w a) (stamp_in w b) else bad)
    else (if bytes_eq verb (codes "unblank") then (if is_over rest then by_both unblank (stamp_in w a) (stamp_in w b) else bad)
    else (if bytes_eq verb (codes "audit") then (if is_over a then audit else bad)
    else (if bytes_eq verb (codes "verdicts") then (if is_over b then option_map_or verdicts (hour_at a) bad else bad)
    else (if bytes_eq verb (codes "measures") then (if is_over a then measures else (if is_over b then option_map_or measures_of (hour_at a) bad else bad))
    else (if bytes_eq verb (codes "points") then (if is_over b then option_map_or points (number_of 1 2 99 a) bad else bad)
    else (if bytes_eq verb (codes "offsets") then (if is_over b then option_map_or offsets (name_at a) bad else bad)
    else bad)))))))))

-- what a line says in a window by its words; a stamp may lie outside the window
unfoldable pub worded : Span → List ℕ → Said
worded w line =
    let one = trim_front line in
    let two = trim_front (after_word one) in
    let three = trim_front (after_word two) in
    of_words w (word one) (word two) (word three) (trim_front (after_word three))

-- a line that is passed over: it has no byte but spaces, or a # before any other
abbrev pub is_comment : List ℕ → Bool
is_comment [] = true
is_comment (b ∷ bs) = b == 35

-- what a line says in a window; each of its bytes has to be 0x20 to 0x7E, but in a line that is passed over
unfoldable pub said : Span → List ℕ → Said
said w line =
    if is_comment (trim_front line) then skip else (if list_all (λ b. nat_le 32 b && nat_le b 126) line then worded w line else bad)

-- ---- for contracts alone

-- the bytes without the spaces before them
abbrev pub skip_spaces : List ℕ → List ℕ
skip_spaces text = trim_front text

-- a word that is a phase: one or two digits
abbrev pub phase_at : List ℕ → Option ℕ
phase_at text = number_of 1 2 99 text

-- a line with an hour; bad where that isn't readable
abbrev pub by_hour : (ℕ → Said) → Option ℕ → Said
by_hour make hour = option_map_or make hour bad

-- a line with a name; bad where that isn't readable
abbrev pub by_text : (List ℕ → Said) → Option (List ℕ) → Said
by_text make name = option_map_or make name bad

-- a line with an hour and a name; bad where one of them isn't readable
abbrev pub by_name : (ℕ → List ℕ → Said) → Option ℕ → Option (List ℕ) → Said
by_name make hour name = by_both make hour name

-- a line with two stamps; bad where one of them isn't readable
abbrev pub by_range : (ℤ → ℤ → Said) → Option ℤ → Option ℤ → Said
by_range make from to = by_both make from to

-- what a line that asks for a report says, by its words: the first, the second, and what follows them
abbrev pub report_words : List ℕ → List ℕ → List ℕ → Said
report_words verb a rest =
    if bytes_eq verb (codes "audit") then (if is_over a then audit else bad)
    else (if bytes_eq verb (codes "verdicts") then (if is_over rest then by_hour verdicts (hour_at a) else bad)
    else (if bytes_eq verb (codes "measures") then (if is_over a then measures else (if is_over rest then by_hour measures_of (hour_at a) else bad))
    else (if bytes_eq verb (codes "points") then (if is_over rest then by_hour points (phase_at a) else bad)
    else (if bytes_eq verb (codes "offsets") then (if is_over rest then by_text offsets (name_at a) else bad)
    else bad))))

-- a byte that a line may have: 0x20 to 0x7E
abbrev pub is_printable : ℕ → Bool
is_printable b = nat_le 32 b && nat_le b 126
