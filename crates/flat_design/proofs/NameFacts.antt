-- The names of nets, module by module and bit by bit.
use Rattle.std.proofs.Common.{◌≡◌, ◌+◌, ◌++◌, ◌≤◌, ℕ, List, [], ◌∷◌, map, length, take, slice_get, Option, Some, refl, sym, ◌∙◌, ap, arith}
use Rattle.std.proofs.lemmas.List.{append_assoc, append-nil, length-map, map-append, take_all}
use Rattle.std.proofs.lemmas.Simd.{map-map}
use Rattle.std.specs.List.{flat_map}
use Rattle.source_types.specs.declared.netlists.Range.{Range}
use Rattle.source_types.specs.declared.netlists.Wire.{Wire}
use Rattle.flat_model.specs.FlatNets.{bit_name, net_name, nets_in, wire_nets}
use Rattle.flat_model.specs.Instances.{ModuleInstance}
use Rattle.netlist_model.specs.Ranges.{indices, width}
use Rattle.text_model.proofs.ListFacts.{flat_map_same}
use Rattle.netlist_model.proofs.RangeFacts.{indices_length}
use Rattle.flat_design.specs.Hierarchy.{bit_names, wire_names}
use Rattle.flat_design.proofs.DistinctBits.{net_of}
use Rattle.flat_design.proofs.PlaceFacts.{flat_one, take_one}
use Rattle.flat_design.proofs.RangeFacts.{map_at}

pub map_flat : {A B C : Type 0} (g : B → C) (f : A → List B) (xs : List A) → map g (flat_map f xs) ≡ flat_map (λ x. map g (f x)) xs
map_flat g f [] = refl
map_flat g f (x ∷ xs) = map-append g (f x) (flat_map f xs) ∙ ap (λ ys. map g (f x) ++ ys) (map_flat g f xs)

pub names_in : (scope : ModuleInstance) → map net_name (nets_in scope) ≡ flat_map (wire_names scope.prefix) scope.body.nets
names_in scope =
    map_flat net_name (wire_nets scope) scope.body.nets
    ∙ flat_map_same (λ (wire : Wire). map net_name (wire_nets scope wire)) (wire_names scope.prefix)
    (λ wire. map-map net_name (net_of scope wire) (indices wire.range)) scope.body.nets

-- the names of one more module
pub names_more : (scopes : List ModuleInstance) (n : ℕ) (scope : ModuleInstance) (names : List (List ℕ)) (prefix : List ℕ) (nets : List Wire)
    → slice_get scopes n ≡ Some scope → prefix ≡ scope.prefix → nets ≡ scope.body.nets → names ≡ map net_name (flat_map nets_in (take n scopes))
    → names ++ flat_map (wire_names prefix) nets ≡ map net_name (flat_map nets_in (take (n + 1) scopes))
names_more scopes n scope names prefix nets at same_prefix same_nets so_far =
    ap (λ (xs : List (List ℕ)). xs ++ flat_map (wire_names prefix) nets) so_far
    ∙ (ap (λ (p : List ℕ). map net_name (flat_map nets_in (take n scopes)) ++ flat_map (wire_names p) nets) same_prefix
    ∙ (ap (λ (ws : List Wire). map net_name (flat_map nets_in (take n scopes)) ++ flat_map (wire_names scope.prefix) ws) same_nets
    ∙ (ap (λ (xs : List (List ℕ)). map net_name (flat_map nets_in (take n scopes)) ++ xs) (sym (names_in scope))
    ∙ (sym (map-append net_name (flat_map nets_in (take n scopes)) (nets_in scope))
    ∙ ap (map net_name) (ap (λ ys. flat_map nets_in (take n scopes) ++ ys) (sym (append-nil (nets_in scope))) ∙ sym (flat_one nets_in scopes n scope at))))))

-- the names of one more bit
pub bits_more : (prefix own : List ℕ) (range : Option Range) (place : ℕ) (index : Option ℕ) (name : List ℕ) (start names : List (List ℕ))
    → slice_get (indices range) place ≡ Some index → name ≡ prefix ++ bit_name own index
    → names ≡ start ++ take place (bit_names prefix own range) → names ++ name ∷ [] ≡ start ++ take (place + 1) (bit_names prefix own range)
bits_more prefix own range place index name start names at is so_far =
    ap (λ (xs : List (List ℕ)). xs ++ name ∷ []) so_far
    ∙ (append_assoc start (take place (bit_names prefix own range)) (name ∷ [])
    ∙ ap (λ (xs : List (List ℕ)). start ++ xs)
    (sym (take_one (bit_names prefix own range) place name
    (map_at (λ (i : Option ℕ). prefix ++ bit_name own i) (indices range) place index at ∙ ap (λ (n : List ℕ). Some n) (sym is)))))

-- the names of all bits of a net or a port
pub bits_all : (prefix own : List ℕ) (range : Option Range) (start names : List (List ℕ)) (count : ℕ) → width range ≤ count
    → names ≡ start ++ take count (bit_names prefix own range) → names ≡ start ++ bit_names prefix own range
bits_all prefix own range start names count all so_far =
    let same : length (bit_names prefix own range) ≡ width range =
    length-map (indices range) (λ (i : Option ℕ). prefix ++ bit_name own i) ∙ indices_length range in
    so_far ∙ ap (λ (xs : List (List ℕ)). start ++ xs) (take_all count (bit_names prefix own range) (omega (arith, same, all)))
