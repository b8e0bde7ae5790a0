-- The reader's modules, as the definitions have them. This project's own.
use Rattle.std.specs.Prelude.{◌++◌, List, [], ◌∷◌, map, if◌then◌else◌}
use Rattle.std.specs.List.{before_first}
use Rattle.source_types.specs.declared.verilog_tokens.VerilogToken.TheVariants as kind
use Rattle.netlist_model.specs.VerilogStatements.{Written, module_of, statement_of}
use Rattle.netlist_model.specs.VerilogSyntax.{is}
use Rattle.netlist_model.specs.VerilogTokens.{Token}
use Rattle.verilog_net.specs.declared.parsing.written.Written.{Written as Held}
use Rattle.verilog_net.specs.Seen.{token_seen, tokens_seen}
use Rattle.verilog_net.specs.Syntax.{declareds_seen, parts_seen}

abbrev pub written_seen : Held → Written
written_seen m = record {
  name = token_seen m.name;
  header = declareds_seen m.header.items;
  listed = tokens_seen m.listed.items;
  statements = map statement_of (parts_seen m.statements.items);
  inouts = tokens_seen m.inouts.items;
}

-- the modules whose keywords are among tokens, each of the tokens up to the next keyword
abbrev pub modules_from : List Token → List Written
modules_from [] = []
modules_from (token ∷ tokens) =
    (if is kind.Module token then module_of (before_first (is kind.Module) tokens) else []) ++ modules_from tokens
