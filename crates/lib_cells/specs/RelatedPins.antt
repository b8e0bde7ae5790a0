-- Related pins of the code, as the definitions of `timing` groups have them (Liberty), given the places of names in
-- place of the cell. This project's own.
use Rattle.std.specs.Prelude.{◌≡◌, ◌+◌, ◌++◌, ℕ, List, [], ◌∷◌, codes, nat_lt, if◌then◌else◌, Option, Some, None}
use Rattle.std.specs.List.{flat_map}
use Rattle.library_model.specs.LibertyArcs as liberty
use Rattle.library_model.specs.LibertyCells.{NamedPin}
use Rattle.library_model.specs.LibertyStatements.{Member, groups, last_value, members}
use Rattle.library_model.specs.LibertyTiming.{Timing, timing_named}
use Rattle.bool_lanes.specs.NamedNumbers.{number_at}
use Rattle.lib_cells.specs.Timings.{timing_seen}
use Rattle.bool_lanes.specs.declared.numbers.Numbers.{Numbers}
use Rattle.lib_cells.specs.declared.cell.related.Related.{Related}
use Rattle.lib_cells.specs.declared.cell.related.TimingSaid.{TimingSaid}

abbrev pub related_seen : Related → liberty.Related
related_seen r = record { from = r.from; to = r.to; timing = timing_seen r.timing; sense = r.sense }

-- what a `timing` group says, given what stands in it
pub record Says (said : TimingSaid) (parts : List Member) : Type 0 where
  pub words : said.words ≡ liberty.words_if (last_value (codes "related_pin") parts)
  pub timing : timing_seen said.timing ≡ timing_named (last_value (codes "timing_type") parts)
  pub sense : said.sense ≡ last_value (codes "timing_sense") parts

-- a place that is one of so many pins
abbrev pub pin_if : Option ℕ → ℕ → Option ℕ
pin_if None pins = None
pin_if (Some place) pins = if nat_lt place pins then Some place else None

abbrev pub related_word : ℕ → Timing → Option (List ℕ) → Option ℕ → List liberty.Related
related_word to timing sense None = []
related_word to timing sense (Some from) = record { from = from; to = to; timing = timing; sense = sense } ∷ []

-- the related pins that words name
abbrev pub related_words : Numbers → ℕ → ℕ → Timing → Option (List ℕ) → List (List ℕ) → List liberty.Related
related_words places pins to timing sense [] = []
related_words places pins to timing sense (word ∷ words) =
    related_word to timing sense (pin_if (number_at places word) pins) ++ related_words places pins to timing sense words

-- the related pins of a `timing` group, given what stands in it
abbrev pub related_parts : Numbers → ℕ → ℕ → List Member → List liberty.Related
related_parts places pins to parts =
    related_words places pins to (timing_named (last_value (codes "timing_type") parts)) (last_value (codes "timing_sense") parts)
    (liberty.words_if (last_value (codes "related_pin") parts))

abbrev pub related_in : Numbers → ℕ → ℕ → Member → List liberty.Related
related_in places pins to timing = related_parts places pins to (members 4 timing.inside)

-- the related pins of a pin that stands at a place
abbrev pub related_to : Numbers → ℕ → ℕ → NamedPin → List liberty.Related
related_to places pins to pin = flat_map (related_in places pins to) (groups (codes "timing") (members 3 pin.group.inside))

-- the related pins of pins, the first of which stands at a place
abbrev pub related_all : Numbers → ℕ → ℕ → List NamedPin → List liberty.Related
related_all places pins place [] = []
related_all places pins place (pin ∷ ps) = related_to places pins place pin ++ related_all places pins (place + 1) ps
