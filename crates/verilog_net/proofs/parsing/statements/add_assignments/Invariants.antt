use Rattle.std.proofs.Common.{◌≡◌, ◌++◌, drop, map}
use Rattle.std.specs.List.{flat_map}
use Rattle.netlist_model.specs.VerilogStatements as grammar
use Rattle.verilog_net.specs.Syntax.{parts_seen, pieces_seen}
use Rattle.verilog_net.proofs.parsing.statements.add_assignments.Given as goal

abbrev pub invariant-loop-part : goal.invariant-loop-part
invariant-loop-part l =
    pieces_seen l.pieces.items ++ flat_map (λ (sides : grammar.Sides). sides.left ++ sides.right) (map grammar.sides_of (parts_seen (drop l.part-index l.parts)))
    ≡ pieces_seen l.fn.pieces.items ++ flat_map (λ (sides : grammar.Sides). sides.left ++ sides.right) (map grammar.sides_of (parts_seen l.parts))
