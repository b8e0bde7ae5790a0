use Rattle.std.proofs.Common.{◌≡◌, ◌++◌, drop, map}
use Rattle.std.specs.List.{filter}
use Rattle.source_types.specs.declared.verilog_tokens.VerilogToken.TheVariants as kind
use Rattle.netlist_model.specs.VerilogSyntax as grammar
use Rattle.netlist_model.specs.VerilogTokens.{Token}
use Rattle.verilog_net.specs.Seen.{tokens_seen}
use Rattle.verilog_net.specs.Syntax.{declareds_seen, role_seen}
use Rattle.verilog_net.proofs.parsing.declarations.add_names.Given as goal

abbrev pub invariant-loop-name : goal.invariant-loop-name
invariant-loop-name l =
    declareds_seen l.found.items ++ map (λ (name : Token). record { name = name; role = role_seen l.role; range = l.range }) (filter (grammar.is kind.Name) (tokens_seen (drop l.name-index l.tokens)))
    ≡ declareds_seen l.fn.found.items ++ map (λ (name : Token). record { name = name; role = role_seen l.role; range = l.range }) (filter (grammar.is kind.Name) (tokens_seen l.tokens))
