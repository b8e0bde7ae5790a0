-- The lines that a merged mode has for keys in need: one exception a key. This project's own rule.
-- It reads: a line holds of the key's launch edge, its start, its last node and its capture edge. It is a delay that
-- makes the limit of the key's paths what is required, or a false path where nothing is. Lines stand in the order of
-- keys.
use Rattle.std.specs.Prelude.{◌≡◌, ◌↔◌, ℤ, pos, ◌-ℤ◌, false, List, [], ◌∷◌, Option, Some, None}
use Rattle.std.specs.List.{AllZip, Contains}
use Rattle.timing_types.specs.declared.clocks.Clock.{Clock}
use Rattle.timing_types.specs.declared.constraints.ExCommand.{ExCommand}
use Rattle.timing_types.specs.declared.constraints.ExCommand.TheVariants.{FalsePath, Delay}
use Rattle.timing_types.specs.declared.constraints.Exception.{Exception}
use Rattle.timing_types.specs.declared.constraints.Points.TheVariants as points
use Rattle.timing_types.specs.declared.constraints.Through.{Through}
use Rattle.timing_types.specs.declared.designs.Design.{Design}
use Rattle.timing_types.specs.declared.designs.Role.{Role}
use Rattle.timing_types.specs.declared.designs.Role.TheVariants.{InPort}
use Rattle.pin_types.specs.declared.pins.Node.{Node}
use Rattle.timing_model.specs.AnalysedModes.{AnalysedMode}
use Rattle.timing_model.specs.Analysis.{Analysis}
use Rattle.timing_model.specs.Keys.{Key, KeyBefore}
use Rattle.merge_model.specs.KeyNeed.{IsInNeed, KeyRequirementIs}
use Rattle.timing_model.specs.Limit.{adjustment, clock_at}
use Rattle.design_model.specs.DesignPins.{role_of}
use Rattle.timing_model.specs.TimingPath.{Ends}
use Rattle.constraint_model.specs.ListOrder.{Rises}

-- ---- the exception of a key

abbrev pub through_node : Node → Through
through_node node = record { edge = Some node.edge; pins = node.pin ∷ [] }

-- a register's pin stands for both of its nodes
abbrev pub through_start : Option Role → Node → Through
through_start (Some InPort) node = through_node node
through_start role node = record { edge = None; pins = node.pin ∷ [] }

-- what a line is: a delay of this value, or a false path
abbrev pub line_command : Option ℤ → ExCommand
line_command None = FalsePath
line_command (Some value) = Delay

abbrev pub line_value : Option ℤ → ℤ
line_value None = pos 0
line_value (Some value) = value

abbrev pub key_line : Design → Key → Option ℤ → Exception
key_line design key value = record {
  line = 0;
  command = line_command value;
  side = key.side;
  value = line_value value;
  by_launch = false;
  last = None;
  from = Some (points.Clocks (Some key.launch.edge) (key.launch.clock ∷ []));
  through = through_start (role_of design key.start.pin.0) key.start ∷ through_node key.last ∷ [];
  to = Some (points.Clocks (Some key.capture.edge) (key.capture.clock ∷ []));
}

-- ---- its value

abbrev pub ends_of_key : Key → Ends
ends_of_key key = record { start = key.start; last = key.last; launch = key.launch; capture = key.capture }

-- the relation that gives a path of a key its requirement: the requirement without all that is added to a relation
abbrev pub relation_for : ℤ → Option ℤ → Option ℤ
relation_for added None = None
relation_for added (Some required) = Some (required -ℤ added)

-- an exception is the line of a key in a merged analysis
pub record IsKeyLine (modes : List AnalysedMode) (merged : Analysis) (key : Key) (line : Exception) : Type 0 where
  pub launch : Clock
  pub capture : Clock
  pub requirement : Option ℤ
  pub is_launch : clock_at merged.mode key.launch.clock ≡ Some launch
  pub is_capture : clock_at merged.mode key.capture.clock ≡ Some capture
  pub required : KeyRequirementIs modes merged key requirement
  pub is : line ≡ key_line merged.design key
      (relation_for (adjustment merged.mode launch capture (ends_of_key key) key.side) requirement)

-- ---- all lines

-- one line for each key in need, in the order of keys
pub record AreKeyLines (modes : List AnalysedMode) (merged : Analysis) (lines : List Exception) : Type 0 where
  pub keys : List Key
  pub members : (key : Key) → Contains keys key ↔ IsInNeed modes merged key
  pub order : Rises KeyBefore keys
  pub each : AllZip (IsKeyLine modes merged) keys lines
