-- The text of what keeps and what breaks an undecided line.
use Rattle.std.specs.Prelude.{◌++◌, ◌*◌, ◌<◌, ℕ, List, [], ◌∷◌, All, codes, decimal, flat_map, unsigned_abs, Option, slice_get}
use Rattle.std.specs.Option.{option_map_or}
use Rattle.sig_base.specs.Window.{Span}
use Rattle.sig_base.specs.Stamp.{stamp_at}
use Rattle.event_codes.specs.declared.channels.Channel.{Channel}
use Rattle.channel_tables.specs.declared.spec.Spec.{Spec}
use Rattle.ring_config.specs.Settings.{Settings}
use Rattle.filling_pair.specs.declared.strands.Fill.{Fill}
use Rattle.filling_pair.specs.declared.strands.Strand.{Strand}
use Rattle.filling_pair.specs.declared.strands.Pair.{Pair}
use Rattle.report_text.specs.Line.{line_of, num}
use Rattle.report_text.specs.Rules.{colour_text, kind_text}

-- the lines of a strand: its channel, if that is tracked, with the colour with which it comes into the window, and for how many tenths it has had it; and then the events that fill unknown tenths, in their order
abbrev pub strand_text : Settings → Strand → List ℕ
strand_text c s =
    option_map_or (λ spec. line_of (codes "channel " ∷ kind_text spec.channel.kind ∷ num " " spec.channel.number ∷ codes " from " ∷ colour_text spec.channel.kind s.colour
    ∷ num " " (unsigned_abs s.entry) ∷ [])) (slice_get c.specs s.spec) []
    ++ flat_map (λ f. line_of (codes "fill " ∷ stamp_at c.window f.at ∷ num " code " f.code ∷ num " param " f.param ∷ [])) s.fills

-- the lines of one side of a pair: a word, and the strands after it
abbrev pub side_text : Settings → List ℕ → List Strand → List ℕ
side_text c word ss = line_of (word ∷ []) ++ flat_map (strand_text c) ss

-- the lines of a pair: which rule is undecided when, what keeps it, and what breaks it
abbrev pub pair_text : Settings → ℕ → ℕ → Pair → List ℕ
pair_text c rule at p =
    line_of (num "undecided " rule ∷ codes " " ∷ stamp_at c.window at ∷ []) ++ (side_text c (codes "keeps") p.keeps ++ side_text c (codes "breaks") p.breaks)

-- the texts of the pairs of the rule at the tenth, or the line that says that nothing is undecided there
abbrev pub found_text : Settings → ℕ → ℕ → List Pair → List ℕ
found_text c rule at [] = codes "nothing undecided\n"
found_text c rule at ps = flat_map (pair_text c rule at) ps

-- ---- For contracts alone: parts of these texts as the code writes them, and what they need

-- the line that says that nothing is undecided there
abbrev pub nothing_text : List ℕ
nothing_text = codes "nothing undecided\n"

-- the line of an event that fills an unknown tenth
abbrev pub fill_line : Span → Fill → List ℕ
fill_line w f = line_of (codes "fill " ∷ stamp_at w f.at ∷ codes " code " ∷ decimal f.code ∷ codes " param " ∷ decimal f.param ∷ [])

-- the line of a channel: the colour with which it comes into the window, and for how many tenths it has had it
abbrev pub channel_line : Channel → ℕ → ℕ → List ℕ
channel_line channel colour age =
    line_of (codes "channel " ∷ kind_text channel.kind ∷ codes " " ∷ decimal channel.number ∷ codes " from " ∷ colour_text channel.kind colour ∷ codes " " ∷ decimal age ∷ [])

-- the line of a strand's channel, if it is tracked
abbrev pub start_line : Option Spec → Strand → List ℕ
start_line o s = option_map_or (λ spec. channel_line spec.channel s.colour (unsigned_abs s.entry)) o []

-- the lines of these channels
abbrev pub strands_text : Settings → List Strand → List ℕ
strands_text c ss = flat_map (strand_text c) ss

-- the line that says which rule is undecided when
abbrev pub undecided_line : Span → ℕ → ℕ → List ℕ
undecided_line w rule at = line_of (codes "undecided " ∷ decimal rule ∷ codes " " ∷ stamp_at w at ∷ [])

-- the tenths of these fills are in the window
abbrev pub AreFillsIn : Span → List Fill → Type 0
AreFillsIn w fs = All (λ f. f.at < 36000 * w.hours) fs

-- the tenths of the fills of these strands are in the window
abbrev pub AreStrandsIn : Span → List Strand → Type 0
AreStrandsIn w ss = All (λ s. AreFillsIn w s.fills) ss

-- the tenths of all fills of a pair are in the window
pub record IsPairIn (w : Span) (p : Pair) : Type 0 where
  pub keeps : AreStrandsIn w p.keeps
  pub breaks : AreStrandsIn w p.breaks
