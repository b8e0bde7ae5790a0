-- What the tokens of a netlist are read as.
use Rattle.std.proofs.Common.{◌≡◌, ◌∙◌, ℕ, List, Option, None, Some, Result, Ok, Err, map, sym, ap, inl}
use Rattle.std.specs.Option.{option_map}
use Rattle.sdc_base.specs.declared.memory.At.{At}
use Rattle.sdc_base.specs.declared.memory.Stop.{Stop}
use Rattle.sdc_base.specs.declared.memory.Stop.TheVariants as stop
use Rattle.sdc_base.specs.Gives.{Gives, Meets}
use Rattle.source_types.specs.declared.fault_kinds.VerilogKind.{VerilogKind}
use Rattle.source_types.specs.declared.netlists.Module.{Module}
use Rattle.netlist_model.specs.Verilog as spec
use Rattle.netlist_model.specs.VerilogNets.{meant_module}
use Rattle.netlist_model.specs.VerilogStatements.{Written, modules_of}
use Rattle.netlist_model.specs.VerilogTokens.{Token}
use Rattle.verilog_net.specs.declared.checking.faults.Wrong.{Wrong}
use Rattle.verilog_net.specs.Faults.{wrong_seen}
use Rattle.verilog_net.specs.Recognition.{AreNetlist}

-- what is meant, by the first fault
abbrev meant_by : List Written → Option spec.Wrong → Result (List Module) (At VerilogKind)
meant_by modules first = elim first [ None ↦ Ok (map meant_module modules) | Some wrong ↦ spec.fault wrong.token.line wrong.kind ]

pub fault_meant : (modules : List Written) (wrong : Wrong) → option_map wrong_seen (Some wrong) ≡ spec.first_wrong (spec.wrongs modules)
    → spec.meant modules ≡ Err (record { line = wrong.token.line; kind = wrong.kind })
fault_meant modules wrong is = ap (meant_by modules) (sym is)

pub modules_meant : (modules : List Written) (found : List Module) → option_map wrong_seen None ≡ spec.first_wrong (spec.wrongs modules) → found ≡ map meant_module modules
    → spec.meant modules ≡ Ok found
modules_meant modules found is same = ap (meant_by modules) (sym is) ∙ ap (λ (ms : List Module). Ok ms) (sym same)

reads : (bytes : List ℕ) (tokens : List Token) (outcome : Result (List Module) (At VerilogKind)) → AreNetlist bytes tokens → spec.meant (modules_of tokens) ≡ outcome → spec.ReadsVerilog bytes outcome
reads bytes tokens outcome netlist is = inl (record {
  tokens = tokens;
  error = None;
  text = netlist.text;
  stand = netlist.stand;
  error_is = netlist.whole;
  is = sym is;
})

-- the modules that the tokens of a netlist mean are those of its bytes
pub netlist_read : (bytes : List ℕ) (tokens : List Token) (result : Result (List Module) (Stop (At VerilogKind))) → AreNetlist bytes tokens → Gives result (spec.meant (modules_of tokens)) → Meets result (spec.ReadsVerilog bytes)
netlist_read bytes tokens (Ok modules) netlist is = reads bytes tokens (Ok modules) netlist is
netlist_read bytes tokens (Err (stop.Refused fault)) netlist is = reads bytes tokens (Err fault) netlist is
netlist_read bytes tokens (Err stop.NoMemory) netlist is = tt
