-- Connections that fit by places fit terminals by order and by name.
use Rattle.std.proofs.Common.{◌≡◌, ◌+◌, ◌&&◌, ℕ, zero, suc, Bool, false, List, [], ◌∷◌, slice_get, Option, Some, None, refl, ◌∙◌, ap, arith}
use Rattle.std.specs.List.{find}
use Rattle.source_types.specs.declared.netlists.Bit.{Bit}
use Rattle.source_types.specs.declared.netlists.Link.{Link}
use Rattle.flat_model.specs.Connections.{Terminal, fits, link_fits, names_of, ordered_fit}
use Rattle.text_model.specs.Words.{same_text}
use Rattle.flat_design.specs.Fitting.{fit_from, fits_at, place_fits, widths_of}
use Rattle.flat_design.specs.Names.{place_of}
use Rattle.flat_design.proofs.TableFacts.{at_place, first_found}

-- after a terminal, places count on
fit_after : (width : ℕ) (widths : List ℕ) (place : ℕ) (connections : List (List Bit)) → fit_from (width ∷ widths) (suc place) connections ≡ fit_from widths place connections
fit_after width widths place [] = refl
fit_after width widths place (bits ∷ rest) =
    let e : suc place + 1 ≡ suc (place + 1) = omega arith in
    ap (λ (n : ℕ). fits_at widths place bits && fit_from (width ∷ widths) n rest) e
    ∙ ap (λ (b : Bool). fits_at widths place bits && b) (fit_after width widths (place + 1) rest)

-- without a terminal, a connection does not fit
pub fit_ordered : (terminals : List Terminal) (connections : List (List Bit)) → fit_from (widths_of terminals) 0 connections ≡ ordered_fit terminals connections
fit_ordered [] [] = refl
fit_ordered [] (bits ∷ rest) = refl
fit_ordered (terminal ∷ terminals) [] = refl
fit_ordered (terminal ∷ terminals) (bits ∷ rest) =
    let e : 0 + 1 ≡ suc 0 = omega arith in
    ap (λ (n : ℕ). fits terminal.width bits && fit_from (widths_of (terminal ∷ terminals)) n rest) e
    ∙ ap (λ (b : Bool). fits terminal.width bits && b) (fit_after terminal.width (widths_of terminals) 0 rest ∙ fit_ordered terminals rest)

abbrev shown : Option Terminal → List Bit → Bool
shown None bits = false
shown (Some terminal) bits = fits terminal.width bits

fits_shown : (terminals : List Terminal) (place : ℕ) (bits : List Bit) → fits_at (widths_of terminals) place bits ≡ shown (slice_get terminals place) bits
fits_shown [] place bits = refl
fits_shown (terminal ∷ terminals) zero bits = refl
fits_shown (terminal ∷ terminals) (suc place) bits = fits_shown terminals place bits

place_shown : (terminals : List Terminal) (found : Option ℕ) (bits : List Bit) → place_fits (widths_of terminals) found bits ≡ shown (at_place terminals found) bits
place_shown terminals None bits = refl
place_shown terminals (Some place) bits = fits_shown terminals place bits

link_shown : (terminals : List Terminal) (link : Link) (found : Option Terminal) → found ≡ find (λ (terminal : Terminal). same_text terminal.name link.port) terminals
    → shown found link.bits ≡ link_fits terminals link
link_shown terminals link None e = rw (← e, link_fits) refl
link_shown terminals link (Some terminal) e = rw (← e, link_fits) refl

-- a connection by name fits the terminal at the place of its name
pub fit_named : (terminals : List Terminal) (link : Link) → place_fits (widths_of terminals) (place_of (names_of terminals) link.port) link.bits ≡ link_fits terminals link
fit_named terminals link =
    place_shown terminals (place_of (names_of terminals) link.port) link.bits
    ∙ link_shown terminals link (at_place terminals (place_of (names_of terminals) link.port)) (first_found (λ (terminal : Terminal). terminal.name) terminals link.port)
