-- The reader's parts of a module and names of its header, as the definitions have them. This project's own words.
use Rattle.std.specs.Prelude.{◌≡◌, ℕ, List, String}
use Rattle.indexmap.specs.IndexSet.{IndexSet, contains_text}
use Rattle.netlist_model.specs.VerilogKinds as grammar
use Rattle.text_model.specs.Words.{is_among}
use Rattle.verilog_net.specs.declared.syntax.contexts.Part.{Part}
use Rattle.verilog_net.specs.declared.syntax.contexts.Part.TheVariants.{Naming, Header, Statement, Declaring}

abbrev pub part_seen : Part → grammar.Part
part_seen Naming = grammar.naming
part_seen Header = grammar.header
part_seen Statement = grammar.statement
part_seen Declaring = grammar.declaring

-- the set has these names
abbrev pub HasNames : {A S : Type 0} → IndexSet (String A) S → List (List ℕ) → Type 0
HasNames names listed = (name : List ℕ) → contains_text names name ≡ is_among listed name
