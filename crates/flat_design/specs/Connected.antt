-- What a terminal is connected to, by places. This project's own words.
-- It reads: by order, what stands at the terminal's place; by name, where the terminal is the first of its name, what
-- the link of that name has; else nothing.
use Rattle.std.specs.Prelude.{ℕ, List, [], map, slice_get, Option, Some, None, if◌then◌else◌}
use Rattle.indexmap.specs.IndexMap.{IndexMap}
use Rattle.source_types.specs.declared.netlists.Bit.{Bit}
use Rattle.source_types.specs.declared.netlists.Link.{Link}
use Rattle.source_types.specs.declared.netlists.Links.{Links}
use Rattle.source_types.specs.declared.netlists.Links.TheVariants as links
use Rattle.flat_design.specs.Fitting.{stands_first}
use Rattle.flat_design.specs.Names.{IsTable, place_of}
use denote.Ref.{Bor}

-- a connection that is not there is empty
abbrev pub shown : Option (Bor (List Bit)) → List Bit
shown None = []
shown (Some bits) = bits.now

abbrev pub bits_or_none : Option (List Bit) → List Bit
bits_or_none None = []
bits_or_none (Some bits) = bits

abbrev pub link_bits : Option Link → List Bit
link_bits None = []
link_bits (Some link) = link.bits

abbrev pub link_names : List Link → List (List ℕ)
link_names all = map (λ (link : Link). link.port) all

-- a table has the places of the links of an instance
abbrev pub IsLinkTable : {S : Type 0} → Links → IndexMap (Bor (List ℕ)) ℕ S → Type 0
IsLinkTable (links.Ordered connections) table = Unit {0}
IsLinkTable (links.Named all) table = IsTable table (link_names all)

-- ---- the bits at a place

abbrev pub ordered_at : List (List Bit) → ℕ → List Bit
ordered_at connections at = bits_or_none (slice_get connections at)

abbrev pub bits_found : List Link → Option ℕ → List Bit
bits_found all None = []
bits_found all (Some at) = link_bits (slice_get all at)

abbrev pub named_at : List (List ℕ) → List Link → ℕ → List ℕ → List Bit
named_at names all at name = if stands_first (place_of names name) at then bits_found all (place_of (link_names all) name) else []
