-- Whether connections fit terminals that are given by their widths. This project's own words.
-- It reads: there is a terminal at the place, and the connection is empty or has its width.
use Rattle.std.specs.Prelude.{◌+◌, ◌&&◌, ◌==◌, ℕ, Bool, true, false, List, [], ◌∷◌, map, slice_get, Option, Some, None}
use Rattle.source_types.specs.declared.netlists.Bit.{Bit}
use Rattle.indexmap.specs.IndexMap.{IndexMap, get_by}
use Rattle.std.specs.Str.{bytes_eq}
use Rattle.source_types.specs.declared.netlists.Link.{Link}
use Rattle.flat_model.specs.Connections.{Terminal, fits, link_fits}
use Rattle.flat_design.specs.Names.{place_of}
use denote.Ref.{Bor}

abbrev pub widths_of : List Terminal → List ℕ
widths_of terminals = map (λ (terminal : Terminal). terminal.width) terminals

abbrev pub width_fits : Option ℕ → List Bit → Bool
width_fits None bits = false
width_fits (Some width) bits = fits width bits

abbrev pub fits_at : List ℕ → ℕ → List Bit → Bool
fits_at widths place bits = width_fits (slice_get widths place) bits

abbrev pub place_fits : List ℕ → Option ℕ → List Bit → Bool
place_fits widths None bits = false
place_fits widths (Some place) bits = fits_at widths place bits

-- connections from a place on
abbrev pub fit_from : List ℕ → ℕ → List (List Bit) → Bool
fit_from widths place [] = true
fit_from widths place (bits ∷ rest) = fits_at widths place bits && fit_from widths (place + 1) rest

-- ---- connections by name

-- a place is there, and it is this one
abbrev pub stands_first : Option ℕ → ℕ → Bool
stands_first None at = false
stands_first (Some place) at = place == at

-- from a place on, each is the first of its name among all names, and fits
abbrev pub named_from : List Terminal → List (List ℕ) → ℕ → List Link → Bool
named_from terminals all at [] = true
named_from terminals all at (link ∷ rest) =
    (stands_first (place_of all link.port) at && link_fits terminals link) && named_from terminals all (at + 1) rest

-- the same by a table of the names, a table of the terminals' names, and the terminals' widths
abbrev pub fits_first_by : {S : Type 0} → IndexMap (Bor (List ℕ)) ℕ S → IndexMap (Bor (List ℕ)) ℕ S → List ℕ → ℕ → Link → Bool
fits_first_by names table widths at link =
    stands_first (get_by (λ k. bytes_eq link.port k.now) names) at && place_fits widths (get_by (λ k. bytes_eq link.port k.now) table) link.bits

abbrev pub named_by : {S : Type 0} → IndexMap (Bor (List ℕ)) ℕ S → IndexMap (Bor (List ℕ)) ℕ S → List ℕ → ℕ → List Link → Bool
named_by names table widths at [] = true
named_by names table widths at (link ∷ rest) = fits_first_by names table widths at link && named_by names table widths (at + 1) rest
