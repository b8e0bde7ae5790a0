-- The reader's nets before their names are compared, as the definitions have them. This project's own.
use Rattle.std.specs.Prelude.{◌≡◌, ◌++◌, ◌∷◌, [], ℕ, List, String, map, if◌then◌else◌}
use Rattle.indexmap.specs.IndexSet.{IndexSet}
use Rattle.source_types.specs.declared.netlists.Wire.{Wire}
use Rattle.netlist_model.specs.VerilogNets.{new_wires}
use Rattle.netlist_model.specs.VerilogTokens.{Token}
use Rattle.text_model.specs.Words.{is_among}
use Rattle.verilog_net.specs.declared.meaning.nets.Candidate.{Candidate}
use Rattle.verilog_net.specs.Contexts.{HasNames}

-- the texts of tokens
abbrev pub texts : List Token → List (List ℕ)
texts tokens = map (λ (token : Token). token.text) tokens

abbrev pub candidate_seen : Candidate → Wire
candidate_seen net = record { name = net.name.now; range = net.range; tie = net.tie }

abbrev pub candidates_seen : List Candidate → List Wire
candidates_seen all = map candidate_seen all

-- the names that are taken after one more net
abbrev pub taken_after : List (List ℕ) → Wire → List (List ℕ)
taken_after names net = if is_among names net.name then names else net.name ∷ names

-- a net is added unless its name is taken, and then it is
pub record AddsWire {A S : Type 0} (taken : IndexSet (String A) S) (names : List (List ℕ)) (net : Wire) (old new : List Wire) : Type 0 where
  pub nets : new ≡ old ++ new_wires names (net ∷ [])
  pub names_are : HasNames taken (taken_after names net)
