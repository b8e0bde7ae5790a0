-- Commands of mode files and what they are answered, worked by hand. A whole check reads this file and refuses what is
-- false.
use Rattle.std.proofs.Common.{◌≡◌, ℕ, pos, List, [], ◌∷◌, Ok, Err, codes, refl}
use Rattle.timing_types.specs.declared.clocks.Clock.{Clock}
use Rattle.timing_types.specs.declared.clocks.Pair.{Pair}
use Rattle.source_types.specs.declared.kinds.SdcKind.TheVariants.{OutOfProfile}
use Rattle.timing_types.specs.declared.objects.Object.TheVariants as object
use Rattle.timing_types.specs.declared.objects.Value.{Value}
use Rattle.timing_types.specs.declared.objects.Value.TheVariants as value
use Rattle.tcl_model.specs.BuiltIns.{no_text}
use Rattle.mode_model.specs.ClockFile.{SoFar, nothing, pairs_apart, virtual_clock}
use Rattle.sdc_base.specs.Number as numbers
use Rattle.sdc_base.specs.Time as times
use Rattle.text_model.specs.Bytes.{after, front}
use Rattle.tcl_model.specs.ListItems.{after_parting, item_piece_at}
use Rattle.tcl_model.specs.ListReading.{list_of}
use Rattle.mode_model.specs.ModeHost.{answer}

-- texts as values
abbrev texts : List (List ℕ) → List Value
texts [] = []
texts (text ∷ others) = value.Text text ∷ texts others

-- a clock of a period of 10 ns on a line
abbrev of_ten : ℕ → List ℕ → Clock
of_ten line name = virtual_clock line name (record { period = pos 10000000; rise = pos 0; fall = pos 5000000 })

-- two clocks, A and B
abbrev two : SoFar
two = record { clocks = of_ten 1 (codes "A") ∷ of_ten 2 (codes "B") ∷ []; groups = [] }

-- `create_clock -period 10 -name A`, in any order of its options
pub a_clock : answer nothing 1 (codes "create_clock") (texts (codes "-period" ∷ codes "10" ∷ codes "-name" ∷ codes "A" ∷ []))
    ≡ Ok (no_text, record { clocks = of_ten 1 (codes "A") ∷ []; groups = [] })
unfolding numbers.read_number numbers.parts_of numbers.nearest times.time_of
a_clock = refl

-- a name that is taken, an option twice, one without its value, a period that is none
taken : answer two 3 (codes "create_clock") (texts (codes "-name" ∷ codes "A" ∷ codes "-period" ∷ codes "10" ∷ [])) ≡ Err OutOfProfile
unfolding numbers.read_number numbers.parts_of numbers.nearest times.time_of
taken = refl

twice : answer nothing 1 (codes "create_clock") (texts (codes "-name" ∷ codes "A" ∷ codes "-name" ∷ codes "B" ∷ [])) ≡ Err OutOfProfile
twice = refl

without : answer nothing 1 (codes "create_clock") (texts (codes "-name" ∷ codes "A" ∷ codes "-period" ∷ [])) ≡ Err OutOfProfile
without = refl

no_period : answer nothing 1 (codes "create_clock") (texts (codes "-name" ∷ codes "A" ∷ codes "-period" ∷ codes "-2.0" ∷ [])) ≡ Err OutOfProfile
unfolding numbers.read_number numbers.parts_of numbers.nearest times.time_of
no_period = refl

-- the unit that is read, another one, and a name that is no command here
nanoseconds : answer two 3 (codes "set_units") (texts (codes "-time" ∷ codes "1ns" ∷ [])) ≡ Ok (no_text, two)
nanoseconds = refl

picoseconds : answer two 3 (codes "set_units") (texts (codes "-time" ∷ codes "1ps" ∷ [])) ≡ Err OutOfProfile
picoseconds = refl

unknown : answer two 3 (codes "create_clok") (texts (codes "-period" ∷ codes "1" ∷ [])) ≡ Err OutOfProfile
unknown = refl

-- `get_clocks {B A B}` gives A and B, and `get_clocks C` nothing
in_order_once : answer two 3 (codes "get_clocks") (texts (codes "B A B" ∷ [])) ≡ Ok (value.Objects (object.Clock 0 ∷ object.Clock 1 ∷ []), two)
unfolding list_of after_parting item_piece_at after front
in_order_once = refl

no_clock : answer two 3 (codes "get_clocks") (texts (codes "C" ∷ [])) ≡ Err OutOfProfile
unfolding list_of after_parting item_piece_at after front
no_clock = refl

-- `set_clock_groups -group [get_clocks B] -asynchronous -group A`
parted : answer two 3 (codes "set_clock_groups")
    (value.Text (codes "-group") ∷ value.Objects (object.Clock 1 ∷ []) ∷ value.Text (codes "-asynchronous") ∷ value.Text (codes "-group") ∷ value.Text (codes "A") ∷ [])
    ≡ Ok (no_text, record two { groups = ((1 ∷ []) ∷ (0 ∷ []) ∷ []) ∷ [] })
unfolding list_of after_parting item_piece_at after front
parted = refl

-- one group alone, one that is empty, and none; without `-asynchronous`
alone : answer two 3 (codes "set_clock_groups") (texts (codes "-asynchronous" ∷ codes "-group" ∷ codes "A" ∷ []))
    ≡ Ok (no_text, record two { groups = ((0 ∷ []) ∷ []) ∷ [] })
unfolding list_of after_parting item_piece_at after front
alone = refl

empty : answer two 3 (codes "set_clock_groups") (texts (codes "-asynchronous" ∷ codes "-group" ∷ codes "A" ∷ codes "-group" ∷ codes "" ∷ []))
    ≡ Ok (no_text, record two { groups = [] ∷ [] })
unfolding list_of after_parting item_piece_at after front
empty = refl

no_group : answer two 3 (codes "set_clock_groups") (texts (codes "-asynchronous" ∷ [])) ≡ Err OutOfProfile
no_group = refl

kindless : answer two 3 (codes "set_clock_groups") (texts (codes "-group" ∷ codes "A" ∷ codes "-group" ∷ codes "B" ∷ [])) ≡ Err OutOfProfile
kindless = refl

-- ---- exclusive pairs

-- a pair of clocks by their places
abbrev pair : ℕ → ℕ → Pair
pair i j = record { first = i; second = j }

-- of four clocks: two groups, three groups, one alone; groups with one clock in common
two_groups : pairs_apart 4 (((2 ∷ []) ∷ (0 ∷ 1 ∷ []) ∷ []) ∷ []) ≡ pair 0 2 ∷ pair 1 2 ∷ []
two_groups = refl

three_groups : pairs_apart 4 (((0 ∷ []) ∷ (1 ∷ []) ∷ (3 ∷ []) ∷ []) ∷ []) ≡ pair 0 1 ∷ pair 0 3 ∷ pair 1 3 ∷ []
three_groups = refl

one_alone : pairs_apart 4 (((1 ∷ 2 ∷ []) ∷ []) ∷ []) ≡ pair 0 1 ∷ pair 0 2 ∷ pair 1 3 ∷ pair 2 3 ∷ []
one_alone = refl

in_common : pairs_apart 4 (((0 ∷ 1 ∷ []) ∷ (1 ∷ []) ∷ []) ∷ []) ≡ pair 0 1 ∷ []
in_common = refl
