-- Tables of the terminals of modules and library cells, one after the other and by place.
use Rattle.std.proofs.Common.{◌≡◌, ◌+◌, ◌<◌, ℕ, zero, suc, List, [], ◌∷◌, ◌++◌, map, length, take, get_or, replicate, slice_get, Some, None, refl, sym, ◌∙◌, ap, subst}
use Rattle.std.proofs.lemmas.List.{take_more}
use Rattle.std.proofs.lemmas.Option.{get_or_from_slice_get}
use Rattle.std.proofs.lemmas.Slice.Zip.{all_zipped_more}
use Rattle.std.specs.List.{AllZip}
use Rattle.pin_types.specs.declared.library_cells.LibCell.{LibCell}
use Rattle.pin_types.specs.declared.library_cells.LibPin.{LibPin}
use Rattle.source_types.specs.declared.netlists.Module.{Module}
use Rattle.source_types.specs.declared.netlists.Port.{Port}
use Rattle.flat_model.specs.Connections.{names_of, pins_of, ports_of}
use Rattle.netlist_model.specs.Ranges.{width}
use Rattle.flat_design.specs.declared.elaborate.terminals.Terminals.{Terminals}
use Rattle.flat_design.specs.Fitting.{widths_of}
use Rattle.flat_design.specs.Names.{IsTable}
use Rattle.flat_design.specs.Tables.{IsTerminals}

port_names : (ports : List Port) → names_of (map (λ (port : Port). record { name = port.name; width = width port.range }) ports) ≡ map (λ (port : Port). port.name) ports
port_names [] = refl
port_names (port ∷ ports) = ap (λ (names : List (List ℕ)). port.name ∷ names) (port_names ports)

port_widths : (ports : List Port) → widths_of (map (λ (port : Port). record { name = port.name; width = width port.range }) ports) ≡ map (λ (port : Port). width port.range) ports
port_widths [] = refl
port_widths (port ∷ ports) = ap (λ (ns : List ℕ). width port.range ∷ ns) (port_widths ports)

pin_names : (pins : List LibPin) → names_of (map (λ (pin : LibPin). record { name = pin.name; width = 1 }) pins) ≡ map (λ (pin : LibPin). pin.name) pins
pin_names [] = refl
pin_names (pin ∷ pins) = ap (λ (names : List (List ℕ)). pin.name ∷ names) (pin_names pins)

pin_widths : (pins : List LibPin) → widths_of (map (λ (pin : LibPin). record { name = pin.name; width = 1 }) pins) ≡ replicate (length pins) 1
pin_widths [] = refl
pin_widths (pin ∷ pins) = ap (λ (ns : List ℕ). 1 ∷ ns) (pin_widths pins)

pub ports_found : (m : Module) (ports : List Port) (found : Terminals) → ports ≡ m.ports → IsTable found.places (map (λ (port : Port). port.name) ports)
    → found.widths ≡ map (λ (port : Port). width port.range) ports → IsTerminals (ports_of m) found
ports_found m ports found same places widths = record {
  places = subst (IsTable found.places) (ap (map (λ (port : Port). port.name)) same ∙ sym (port_names m.ports)) places;
  widths = widths ∙ (ap (map (λ (port : Port). width port.range)) same ∙ sym (port_widths m.ports));
}

pub pins_found : (cell : LibCell) (pins : List LibPin) (found : Terminals) → pins ≡ cell.pins → IsTable found.places (map (λ (pin : LibPin). pin.name) pins)
    → found.widths ≡ replicate (length pins) 1 → IsTerminals (pins_of cell) found
pins_found cell pins found same places widths = record {
  places = subst (IsTable found.places) (ap (map (λ (pin : LibPin). pin.name)) same ∙ sym (pin_names cell.pins)) places;
  widths = widths ∙ (ap (λ (xs : List LibPin). replicate (length xs) 1) same ∙ sym (pin_widths cell.pins));
}

-- one more of each of two lists
pub zip_more : {A B : Type 0} (R : A → B → Type 0) (xs : List A) (ys : List B) (i : ℕ) (x : A) (y : B) → i < length xs → x ≡ get_or xs i x
    → AllZip R (take i xs) ys → R x y → AllZip R (take (i + 1) xs) (ys ++ y ∷ [])
zip_more R xs ys i x y within is all one =
    subst (λ zs. AllZip R zs (ys ++ y ∷ [])) (sym (take_more xs i x within ∙ ap (λ z. take i xs ++ z ∷ []) (sym is)))
    (all_zipped_more R (take i xs) ys x y all one)

-- what stands at one place of both
pub zip_at : {A B : Type 0} (R : A → B → Type 0) (xs : List A) (ys : List B) → AllZip R xs ys → (i : ℕ) (x : A) → slice_get xs i ≡ Some x
    → (y : B) × (slice_get ys i ≡ Some y) × R x y
zip_at R [] [] all i x at = let bad : None ≡ Some x = at in cc
zip_at R [] (z ∷ ys) all i x at = absurd all
zip_at R (w ∷ xs) [] all i x at = absurd all
zip_at R (w ∷ xs) (z ∷ ys) all zero x at =
    let e : Some w ≡ Some x = at in
    let one : w ≡ x = cc in
    (z, refl, subst (λ v. R v z) one all.0)
zip_at R (w ∷ xs) (z ∷ ys) all (suc i) x at = zip_at R xs ys all.1 i x at

-- the item that an index finds
pub zip_read : {A B : Type 0} (R : A → B → Type 0) (xs : List A) (ys : List B) (i : ℕ) (x : A) (y : B) → AllZip R xs ys → slice_get xs i ≡ Some x
    → y ≡ get_or ys i y → R x y
zip_read R xs ys i x y all at is =
    let found = zip_at R xs ys all i x at in
    let same : found.0 ≡ y = sym (get_or_from_slice_get ys i found.0 y found.1) ∙ sym is in
    subst (λ z. R x z) same found.2
