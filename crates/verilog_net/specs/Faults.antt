-- The reader's faults, as the definitions have them. This project's own.
use Rattle.std.specs.Prelude.{◌≡◌, ◌||◌, ℕ, Bool, true, false, not, List, [], ◌∷◌, map, Option, Some, None, String}
use Rattle.std.specs.List.{filter}
use Rattle.std.specs.Option.{option_map}
use Rattle.indexmap.specs.IndexMap.{IndexMap, get_by_text}
use Rattle.netlist_model.specs.Verilog as spec
use Rattle.netlist_model.specs.VerilogNets.{is_of}
use Rattle.netlist_model.specs.VerilogSyntax as syntax
use Rattle.verilog_net.specs.declared.checking.faults.Wrong.{Wrong}
use Rattle.verilog_net.specs.declared.checking.repeats.Earlier.{Earlier}
use Rattle.verilog_net.specs.Seen.{token_seen}
use Rattle.verilog_net.specs.Syntax.{declared_seen}

-- ---- faults

abbrev pub wrong_seen : Wrong → spec.Wrong
wrong_seen wrong = record { token = token_seen wrong.token; kind = wrong.kind }

abbrev pub wrongs_seen : List Wrong → List spec.Wrong
wrongs_seen wrongs = map wrong_seen wrongs

-- of a fault that is known, if one is, and one more, the earlier one
abbrev pub kept_wrong : Option spec.Wrong → spec.Wrong → spec.Wrong
kept_wrong None wrong = wrong
kept_wrong (Some known) wrong = spec.earlier known (Some wrong)

-- ---- declarations of one name

-- the first of some declarations, and whether there are more
abbrev pub earlier_of : List syntax.Declared → Option (syntax.Declared × Bool)
earlier_of [] = None
earlier_of (d ∷ []) = Some (d, false)
earlier_of (d ∷ e ∷ ds) = Some (d, true)

abbrev pub earlier_seen : Earlier → syntax.Declared × Bool
earlier_seen earlier = (declared_seen earlier.first, earlier.more)

-- what is known after one more declaration
abbrev pub one_later : Option (syntax.Declared × Bool) → syntax.Declared → syntax.Declared × Bool
one_later None d = (d, false)
one_later (Some known) d = (known.0, true)

-- a declaration is a second one after what is known
abbrev pub is_second_of : Option (syntax.Declared × Bool) → syntax.Declared → Bool
is_second_of None d = false
is_second_of (Some known) d = known.1 || not (spec.are_one known.0 d)

-- the map has what is known of the declarations of each name
abbrev pub HasEarlier : {A S : Type 0} → IndexMap (String A) Earlier S → List syntax.Declared → Type 0
HasEarlier known before = (name : List ℕ) → option_map earlier_seen (get_by_text known name) ≡ earlier_of (filter (is_of name) before)
