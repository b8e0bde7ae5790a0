-- How much a run may hold: modes, clocks, exceptions, through lists of one exception, and inner through lists. This
-- project's own. It reads: a through list is inner where it has a pin that is neither a port nor a launching nor a
-- checked pin. Over a design ports are known by their roles; over a pool a pin that no arc enters, or that none leaves,
-- counts as one. What is beyond a limit is told by the line of the first command that passes it.
use Rattle.std.specs.Prelude.{◌≡◌, ◌+◌, ◌*◌, ◌^◌, ◌≤◌, ◌==◌, ◌&&◌, ◌||◌, ℕ, ℤ, unsigned_abs, Bool, true, false, not, List, [], ◌∷◌, length, Option, Some, None, nat_lt, if◌then◌else◌}
use Rattle.std.specs.List.{All, count_by, flat_map, list_any}
use Rattle.timing_types.specs.declared.class_sets.Pool.{Pool}
use Rattle.timing_types.specs.declared.clocks.Clock.{Clock}
use Rattle.timing_types.specs.declared.constraints.ExCommand.{ExCommand}
use Rattle.timing_types.specs.declared.constraints.ExCommand.TheVariants.{Delay}
use Rattle.timing_types.specs.declared.constraints.Exception.{Exception}
use Rattle.timing_types.specs.declared.constraints.Through.{Through}
use Rattle.timing_types.specs.declared.designs.Design.{Design}
use Rattle.timing_types.specs.declared.designs.Role.{Role}
use Rattle.timing_types.specs.declared.designs.Role.TheVariants.{InPort, OutPort}
use Rattle.timing_types.specs.declared.graphs.Arc.{Arc}
use Rattle.timing_types.specs.declared.graphs.ArcKind.{ArcKind}
use Rattle.timing_types.specs.declared.graphs.ArcKind.TheVariants.{Launch}
use Rattle.timing_types.specs.declared.graphs.Check.{Check}
use Rattle.timing_types.specs.declared.graphs.Graph.{Graph}
use Rattle.timing_types.specs.declared.modes.Mode.{Mode}
use Rattle.pin_types.specs.declared.pins.Pin.{Pin}
use Rattle.design_model.specs.DesignPins.{role_of}

-- ---- pins of a graph

abbrev pub is_launch : ArcKind → Bool
is_launch Launch = true
is_launch _ = false

-- a launch arc leaves the pin, or the pin is checked
abbrev pub is_path_end : Graph → ℕ → Bool
is_path_end graph pin =
    list_any (λ (arc : Arc). (arc.from.pin.0 == pin) && is_launch arc.kind) graph.arcs
    || list_any (λ (check : Check). check.end.0 == pin) graph.checks

-- no arc enters the pin, or none leaves it
abbrev pub is_outer : Graph → ℕ → Bool
is_outer graph pin =
    not (list_any (λ (arc : Arc). arc.to.pin.0 == pin) graph.arcs)
    || not (list_any (λ (arc : Arc). arc.from.pin.0 == pin) graph.arcs)

abbrev pub is_port_role : Option Role → Bool
is_port_role (Some InPort) = true
is_port_role (Some OutPort) = true
is_port_role _ = false

abbrev pub is_port_of : Design → ℕ → Bool
is_port_of design pin = is_port_role (role_of design pin)

-- ---- inner through lists

-- by which pins count as ports
abbrev pub is_inner : (ℕ → Bool) → Graph → Through → Bool
is_inner is_port graph list = list_any (λ (pin : Pin). not (is_port pin.0) && not (is_path_end graph pin.0)) list.pins

abbrev pub inner_lists : (ℕ → Bool) → Graph → List Exception → ℕ
inner_lists is_port graph [] = 0
inner_lists is_port graph (exception ∷ exceptions) =
    count_by (is_inner is_port graph) exception.through + inner_lists is_port graph exceptions

-- ---- limits

pub record AreFewExceptions (is_port : ℕ → Bool) (graph : Graph) (exceptions : List Exception) : Type 0 where
  pub few : length exceptions ≤ 1000000
  pub few_lists : All (λ (exception : Exception). length exception.through ≤ 6) exceptions
  pub few_inner : inner_lists is_port graph exceptions ≤ 2048

-- the exceptions of all modes of a run over a design
abbrev pub AreFewInRun : Design → Graph → List Exception → Type 0
AreFewInRun design graph exceptions = AreFewExceptions (is_port_of design) graph exceptions

-- a pool of at most 16 modes, and its exceptions
pub record IsPoolWithinLimits (pool : Pool) : Type 0 where
  pub modes : length pool.modes ≤ 16
  pub exceptions : AreFewExceptions (is_outer pool.graph) pool.graph pool.exceptions

-- ---- the first command beyond a limit

-- the line of the first item with which the sum of weights passes the most, where the items before have a sum already
abbrev pub line_beyond : {X : Type 0} → (X → ℕ) → (X → ℕ) → ℕ → ℕ → List X → Option ℕ
line_beyond line weight most sum [] = None
line_beyond line weight most sum (x ∷ xs) =
    if nat_lt most (sum + weight x) then Some (line x) else line_beyond line weight most (sum + weight x) xs

abbrev pub clocks_beyond : ℕ → List Clock → Option ℕ
clocks_beyond before clocks = line_beyond (λ (clock : Clock). clock.line) (λ clock. 1) 16384 before clocks

abbrev pub exceptions_beyond : ℕ → List Exception → Option ℕ
exceptions_beyond before exceptions = line_beyond (λ (exception : Exception). exception.line) (λ exception. 1) 1000000 before exceptions

abbrev pub inner_beyond : (ℕ → Bool) → Graph → ℕ → List Exception → Option ℕ
inner_beyond is_port graph before exceptions =
    line_beyond (λ (exception : Exception). exception.line)
    (λ (exception : Exception). count_by (is_inner is_port graph) exception.through) 2048 before exceptions

-- the lesser line where there are two
abbrev pub first_line : Option ℕ → Option ℕ → Option ℕ
first_line None other = other
first_line (Some line) None = Some line
first_line (Some line) (Some other) = Some (if nat_lt line other then line else other)

abbrev pub clocks_of : List Mode → List Clock
clocks_of modes = flat_map (λ (mode : Mode). mode.clocks) modes

abbrev pub exceptions_of : List Mode → List Exception
exceptions_of modes = flat_map (λ (mode : Mode). mode.exceptions) modes

-- the line of a mode with which a run passes a limit, after modes that do not
abbrev pub line_too_many : Design → Graph → List Mode → Mode → Option ℕ
line_too_many design graph before mode =
    first_line (clocks_beyond (length (clocks_of before)) mode.clocks)
    (first_line (exceptions_beyond (length (exceptions_of before)) mode.exceptions)
    (inner_beyond (is_port_of design) graph (inner_lists (is_port_of design) graph (exceptions_of before)) mode.exceptions))

-- ---- merges

-- a delay that a merge does not take, since a printed value could not be read again: one of a magnitude above
-- 5 * 10 ^ 15 femtoseconds; just this much is taken
abbrev pub is_long_delay : ExCommand → ℤ → Bool
is_long_delay Delay value = nat_lt (5 * 10 ^ 15) (unsigned_abs value)
is_long_delay _ value = false

-- the line of the first such delay
abbrev pub line_of_long_delay : List Exception → Option ℕ
line_of_long_delay [] = None
line_of_long_delay (exception ∷ exceptions) =
    if is_long_delay exception.command exception.value then Some exception.line else line_of_long_delay exceptions

-- modes that a merge takes
pub record AreFewInMerge (design : Design) (graph : Graph) (modes : List Mode) : Type 0 where
  pub some : 1 ≤ length modes
  pub few : length modes ≤ 16
  pub few_clocks : length (clocks_of modes) ≤ 16384
  pub exceptions : AreFewInRun design graph (exceptions_of modes)
  pub short : line_of_long_delay (exceptions_of modes) ≡ None
