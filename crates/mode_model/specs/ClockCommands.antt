-- What the commands of a mode file say by their words (SDC 2.1). Which of them are read here is this project's own:
-- `create_clock` without sources, `set_clock_groups -asynchronous`, `set_units -time 1ns`, and `get_clocks` of names of
-- clocks, their options in any order. Every other option or value is out of profile. It reads: by the clocks so far,
-- what a command's words say, or its fault. Where nothing else is said a list of objects counts as the text of its
-- names.
use Rattle.std.specs.Prelude.{◌==◌, ◌&&◌, ◌++◌, ℕ, Bool, true, false, not, List, [], ◌∷◌, length, map, codes, Option, Some, None, Result, Ok, Err, nat_lt, slice_get, if◌then◌else◌}
use Rattle.std.specs.BTreeSet.{insert_key}
use Rattle.std.specs.List.{list_any}
use Rattle.std.specs.Ordering.{nat_cmp}
use Rattle.std.specs.Option.{is_none, option_and_then, option_map, unwrap_or}
use Rattle.timing_types.specs.declared.clocks.Clock.{Clock}
use Rattle.timing_types.specs.declared.clocks.Wave.{Wave}
use Rattle.source_types.specs.declared.kinds.SdcKind.{SdcKind}
use Rattle.source_types.specs.declared.kinds.SdcKind.TheVariants.{OutOfProfile, TooMany}
use Rattle.timing_types.specs.declared.objects.Object.{Object}
use Rattle.timing_types.specs.declared.objects.Object.TheVariants as object
use Rattle.timing_types.specs.declared.objects.Value.{Value}
use Rattle.timing_types.specs.declared.objects.Value.TheVariants as value
use Rattle.mode_model.specs.ClockFile.{is_name, is_taken, virtual_clock, wave_given}
use Rattle.mode_model.specs.ClockGroups.{group_of, places_in}
use Rattle.tcl_model.specs.ListText.{list_text}
use Rattle.text_model.specs.Words.{same_text}

-- ---- values as texts

-- the name of an object: that of a clock; there are no other objects
abbrev pub object_name : List Clock → Object → List ℕ
object_name clocks (object.Clock place) = unwrap_or (option_map (λ (clock : Clock). clock.name) (slice_get clocks place)) []
object_name clocks _ = []

-- the Tcl list of the names of objects
abbrev pub object_names : List Clock → List Object → List ℕ
object_names clocks objects = list_text (map (object_name clocks) objects)

-- a value as a text
abbrev pub value_text : List Clock → Value → List ℕ
value_text clocks (value.Text text) = text
value_text clocks (value.Objects objects) = object_names clocks objects

abbrev pub value_texts : List Clock → List Value → List (List ℕ)
value_texts clocks values = map (value_text clocks) values

-- ---- create_clock

-- the options of a clock that are given, and the option whose value is the next word
pub record ClockOptions : Type 0 where
  pub name : Option (List ℕ)
  pub period : Option (List ℕ)
  pub waveform : Option (List ℕ)
  pub pending : Option (List ℕ)

abbrev pub no_options : ClockOptions
no_options = record { name = None; period = None; waveform = None; pending = None }

-- one more option with its value, which is given once at most
abbrev pub with_option : ClockOptions → List ℕ → List ℕ → Option ClockOptions
with_option given option value =
    if same_text option (codes "-name") && is_none given.name then Some (record given { name = Some value })
    else (if same_text option (codes "-period") && is_none given.period then Some (record given { period = Some value })
    else (if same_text option (codes "-waveform") && is_none given.waveform then Some (record given { waveform = Some value })
    else None))

-- one more word: the value of the option before it, or else an option
abbrev pub with_value_of : ClockOptions → Option (List ℕ) → List ℕ → Option ClockOptions
with_value_of given None word = Some (record given { pending = Some word })
with_value_of given (Some option) word = with_option (record given { pending = None }) option word

abbrev pub with_clock_word : ClockOptions → List ℕ → Option ClockOptions
with_clock_word given word = with_value_of given given.pending word

-- the options of these words, and those given before
abbrev pub clock_options : ClockOptions → List (List ℕ) → Option ClockOptions
clock_options given [] = if is_none given.pending then Some given else None
clock_options given (word ∷ words) = option_and_then (λ next. clock_options next words) (with_clock_word given word)

-- the most clocks of a file
abbrev pub most_file_clocks : ℕ
most_file_clocks = 16384

-- a clock of a new name, where one more is not too many
abbrev pub new_clock : List Clock → ℕ → List ℕ → Wave → Result Clock SdcKind
new_clock clocks line name wave =
    if is_name name && not (is_taken name clocks)
    then (if nat_lt (length clocks) most_file_clocks then Ok (virtual_clock line name wave) else Err TooMany)
    else Err OutOfProfile

abbrev pub clock_waved : List Clock → ℕ → List ℕ → Option Wave → Result Clock SdcKind
clock_waved clocks line name None = Err OutOfProfile
clock_waved clocks line name (Some wave) = new_clock clocks line name wave

-- the clock of its options: it needs a name and a period
abbrev pub clock_given : List Clock → ℕ → Option (List ℕ) → Option (List ℕ) → Option (List ℕ) → Result Clock SdcKind
clock_given clocks line (Some name) (Some period) waveform = clock_waved clocks line name (wave_given period waveform)
clock_given clocks line _ _ waveform = Err OutOfProfile

abbrev pub clock_by : List Clock → ℕ → Option ClockOptions → Result Clock SdcKind
clock_by clocks line None = Err OutOfProfile
clock_by clocks line (Some given) = clock_given clocks line given.name given.period given.waveform

-- the clock of a command on a line
abbrev pub clock_of : List Clock → ℕ → List Value → Result Clock SdcKind
clock_of clocks line words = clock_by clocks line (clock_options no_options (value_texts clocks words))

-- ---- set_clock_groups

-- whether clocks of different groups are asynchronous, the groups in order, and whether the next word is one more group
pub record GroupOptions : Type 0 where
  pub asynchronous : Bool
  pub groups : List Value
  pub expects : Bool

abbrev pub no_groups : GroupOptions
no_groups = record { asynchronous = false; groups = []; expects = false }

-- one more word: a group after `-group`, or else an option
abbrev pub with_group_word : List Clock → GroupOptions → Value → Option GroupOptions
with_group_word clocks given word =
    if given.expects then Some (record given { groups = given.groups ++ word ∷ []; expects = false })
    else (if same_text (value_text clocks word) (codes "-asynchronous") then Some (record given { asynchronous = true })
    else (if same_text (value_text clocks word) (codes "-group") then Some (record given { expects = true })
    else None))

-- the options of these words, and those given before
abbrev pub group_options : List Clock → GroupOptions → List Value → Option GroupOptions
group_options clocks given [] = if given.expects then None else Some given
group_options clocks given (word ∷ words) = option_and_then (λ next. group_options clocks next words) (with_group_word clocks given word)

-- the groups as places of clocks
abbrev pub groups_placed : List Clock → List Value → Option (List (List ℕ))
groups_placed clocks [] = Some []
groups_placed clocks (group ∷ groups) =
    option_and_then (λ places. option_and_then (λ others. Some (places ∷ others)) (groups_placed clocks groups)) (group_of clocks group)

-- where a group is empty the command has no effect
abbrev pub with_effect : List (List ℕ) → List (List ℕ)
with_effect groups = if list_any (λ group. length group == 0) groups then [] else groups

-- the groups, where `-asynchronous` is given and at least one group
abbrev pub groups_given : List Clock → Bool → List Value → Option (List (List ℕ))
groups_given clocks true (group ∷ groups) = option_map with_effect (groups_placed clocks (group ∷ groups))
groups_given clocks _ _ = None

-- the groups of a command
abbrev pub groups_of : List Clock → List Value → Option (List (List ℕ))
groups_of clocks words = option_and_then (λ given. groups_given clocks given.asynchronous given.groups) (group_options clocks no_groups words)

-- ---- set_units and get_clocks

-- the one unit that is read
abbrev pub is_unit : List (List ℕ) → Bool
is_unit (option ∷ unit ∷ []) = same_text option (codes "-time") && same_text unit (codes "1ns")
is_unit _ = false

-- places put among places that rise, each at its place in the order, where it is not there yet
abbrev pub put_in_order : List ℕ → List ℕ → List ℕ
put_in_order rising [] = rising
put_in_order rising (place ∷ places) = put_in_order (insert_key nat_cmp rising place) places

-- places in order, each once
abbrev pub in_order : List ℕ → List ℕ
in_order places = put_in_order [] places

-- the clocks of these names in order, each once; objects are given back
abbrev pub clocks_named : List Clock → List Value → Option (List Object)
clocks_named clocks (value.Text names ∷ []) = option_map (λ places. map object.Clock (in_order places)) (places_in clocks names)
clocks_named clocks (value.Objects objects ∷ []) = Some objects
clocks_named clocks _ = None
