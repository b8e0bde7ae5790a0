-- A mode's exceptions, kept commands and clock edges in the words of a merge: each clock is the merged clock that it
-- is. This project's own rule. The merged clocks of a mode's clocks stand as a list of numbers, by place.
-- Lists of clocks, and of objects with clocks among them, are put in order again.
use Rattle.std.specs.Prelude.{◌≡◌, ◌==◌, ◌&&◌, ◌||◌, ℕ, Bool, List, [], ◌∷◌, map, Option, Some, None, slice_get, nat_lt, if◌then◌else◌}
use Rattle.std.specs.Option.{unwrap_or}
use Rattle.timing_types.specs.declared.constraints.Exception.{Exception}
use Rattle.timing_types.specs.declared.constraints.Points.{Points}
use Rattle.timing_types.specs.declared.objects.Kept.{Kept}
use Rattle.timing_types.specs.declared.objects.Object.{Object}
use Rattle.timing_types.specs.declared.objects.Value.{Value}
use Rattle.pin_types.specs.declared.pins.ClockEdge.{ClockEdge}
use Rattle.constraint_model.specs.KeptCommands.{kind_order, number_of}
use Rattle.timing_types.specs.declared.constraints.Points.TheVariants as points
use Rattle.timing_types.specs.declared.objects.Object.TheVariants as object
use Rattle.timing_types.specs.declared.objects.Value.TheVariants as value

-- ---- lists in order

-- an item among items in order, after those that stand before it
abbrev pub put_in_order : {X : Type 0} → (X → X → Bool) → X → List X → List X
put_in_order stands_before x [] = x ∷ []
put_in_order stands_before x (y ∷ ys) =
    if stands_before y x then y ∷ put_in_order stands_before x ys else x ∷ (y ∷ ys)

abbrev pub in_order : {X : Type 0} → (X → X → Bool) → List X → List X
in_order stands_before [] = []
in_order stands_before (x ∷ xs) = put_in_order stands_before x (in_order stands_before xs)

-- ---- clocks and clock edges

-- the merged clock of the clock at a place
abbrev pub merged_clock : List ℕ → ℕ → ℕ
merged_clock numbers clock = unwrap_or (slice_get numbers clock) clock

abbrev pub mapped_clocks : List ℕ → List ℕ → List ℕ
mapped_clocks numbers clocks = in_order nat_lt (map (merged_clock numbers) clocks)

-- an edge of a mode's clock is this edge of a merged clock
pub record IsMappedEdge (numbers : List ℕ) (edge merged : ClockEdge) : Type 0 where
  pub clock : slice_get numbers edge.clock ≡ Some merged.clock
  pub edge_is : edge.edge ≡ merged.edge

-- ---- exceptions

abbrev pub mapped_points : List ℕ → Option Points → Option Points
mapped_points numbers None = None
mapped_points numbers (Some (points.Pins edge pins)) = Some (points.Pins edge pins)
mapped_points numbers (Some (points.Clocks edge clocks)) = Some (points.Clocks edge (mapped_clocks numbers clocks))

abbrev pub mapped_exception : List ℕ → Exception → Exception
mapped_exception numbers exception = record exception {
  from = mapped_points numbers exception.from;
  to = mapped_points numbers exception.to;
}

-- ---- kept commands

abbrev pub mapped_object : List ℕ → Object → Object
mapped_object numbers (object.Clock clock) = object.Clock (merged_clock numbers clock)
mapped_object numbers other = other

abbrev pub object_stands_before : Object → Object → Bool
object_stands_before one other =
    nat_lt (kind_order one) (kind_order other)
    || ((kind_order one == kind_order other) && nat_lt (number_of one) (number_of other))

-- a text stays as it is, whatever it says
abbrev pub mapped_value : List ℕ → Value → Value
mapped_value numbers (value.Text text) = value.Text text
mapped_value numbers (value.Objects objects) =
    value.Objects (in_order object_stands_before (map (mapped_object numbers) objects))

-- a kept command in the words of a merge, apart from its line
abbrev pub mapped_kept : List ℕ → Kept → Kept
mapped_kept numbers kept = record { line = 0; words = map (mapped_value numbers) kept.words }
