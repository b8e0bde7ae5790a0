-- A named connection as the definitions have it. This project's own word.
use Rattle.std.specs.Prelude.{List}
use Rattle.source_types.specs.declared.netlists.Link.{Link}
use Rattle.netlist_model.specs.VerilogNets.{bits_of}
use Rattle.netlist_model.specs.VerilogSyntax.{Declared, Piece}
use Rattle.netlist_model.specs.VerilogTokens.{Token}

abbrev pub link_from : List Declared → Token × List Piece → Link
link_from all connection = record { port = connection.0.text; bits = bits_of all connection.1 }
