-- What the modules of small netlists have, by example. Each is worked out by hand from the rules of Verilog and from
-- this project's own.
use Rattle.std.proofs.Common.{ℕ, false, true, List, [], ◌∷◌, None, Some, Ok, refl}
use Rattle.std.specs.Prelude.{codes}
use Rattle.pin_types.specs.declared.library_cells.Direction.TheVariants.{Input, Output}
use Rattle.source_types.specs.declared.netlists.Bit.TheVariants as bits
use Rattle.source_types.specs.declared.netlists.Instance.{Instance}
use Rattle.netlist_model.specs.VerilogConstants.{constant_bits}
use Rattle.netlist_model.specs.VerilogTokens.{after_gap, token_at}
use Rattle.netlist_model.specs.VerilogWords.{other_keywords, word_kind}
use Rattle.netlist_model.specs.Verilog.{ReadsText}
use Rattle.netlist_laws.proofs.SmallNetlists.{means, port, net, bus, scalar, bit, link, named, ordered, module_of, assigned}

-- a port's own range holds
declared_ports : ReadsText (codes "module m (input wire a, b, output [1:0] c); wire [2:1] c; wire d; endmodule") (Ok (module_of 1 (port Input (codes "a") ∷ port Input (codes "b") ∷ record { name = codes "c"; direction = Output; range = Some (record { left = 1; right = 0 }) } ∷ []) (net (codes "a") ∷ net (codes "b") ∷ bus (codes "c") 1 0 ∷ net (codes "d") ∷ []) [] [] ∷ []))
unfolding after_gap token_at word_kind other_keywords constant_bits
declared_ports = means refl refl

-- in either order
wire_before_port : ReadsText (codes "module m (a); wire [3:2] a; input [1:0] a; endmodule") (Ok (module_of 1 (record { name = codes "a"; direction = Input; range = Some (record { left = 1; right = 0 }) } ∷ []) (bus (codes "a") 1 0 ∷ []) [] [] ∷ []))
unfolding after_gap token_at word_kind other_keywords constant_bits
wire_before_port = means refl refl

-- empty connections
ordered_connections : ReadsText (codes "module m; X u (a, ), v (,), w (); endmodule") (Ok (module_of 1 [] (net (codes "a") ∷ []) (ordered (codes "X") (codes "u") ((scalar (codes "a") ∷ []) ∷ [] ∷ []) ∷ ordered (codes "X") (codes "v") ([] ∷ [] ∷ []) ∷ ordered (codes "X") (codes "w") [] ∷ []) [] ∷ []))
unfolding after_gap token_at word_kind other_keywords constant_bits
ordered_connections = means refl refl

named_connections : ReadsText (codes "module m; X x (.A(), .B({a, 2'b1x})); endmodule") (Ok (module_of 1 [] (net (codes "a") ∷ []) (named (codes "X") (codes "x") (link (codes "A") [] ∷ link (codes "B") (scalar (codes "a") ∷ bits.Constant (Some true) ∷ bits.Constant None ∷ []) ∷ []) ∷ []) [] ∷ []))
unfolding after_gap token_at word_kind other_keywords constant_bits
named_connections = means refl refl

-- a net stands where it is declared, or else where it is used first
used_before : ReadsText (codes "module m; X u (b, a); supply1 a; endmodule") (Ok (module_of 1 [] (net (codes "b") ∷ record { name = codes "a"; range = None; tie = Some true } ∷ []) (ordered (codes "X") (codes "u") ((scalar (codes "b") ∷ []) ∷ (scalar (codes "a") ∷ []) ∷ []) ∷ []) [] ∷ []))
unfolding after_gap token_at word_kind other_keywords constant_bits
used_before = means refl refl

-- an escaped name that is declared nowhere is a wire, too
escaped_name : ReadsText (codes "module m; X u (\\a+b ); endmodule") (Ok (module_of 1 [] (net (codes "a+b") ∷ []) (ordered (codes "X") (codes "u") ((scalar (codes "a+b") ∷ []) ∷ []) ∷ []) [] ∷ []))
unfolding after_gap token_at word_kind other_keywords constant_bits
escaped_name = means refl refl

-- names of instances are none of nets, and flattening looks at them
one_name_twice : ReadsText (codes "module m; wire u; X u (u), u (u); endmodule") (Ok (module_of 1 [] (net (codes "u") ∷ []) (ordered (codes "X") (codes "u") ((scalar (codes "u") ∷ []) ∷ []) ∷ ordered (codes "X") (codes "u") ((scalar (codes "u") ∷ []) ∷ []) ∷ []) [] ∷ []))
unfolding after_gap token_at word_kind other_keywords constant_bits
one_name_twice = means refl refl

two_assignments : ReadsText (codes "module m; assign a = b, c = d; endmodule") (Ok (module_of 1 [] (net (codes "a") ∷ net (codes "b") ∷ net (codes "c") ∷ net (codes "d") ∷ []) [] (record { left = scalar (codes "a") ∷ []; right = scalar (codes "b") ∷ [] } ∷ record { left = scalar (codes "c") ∷ []; right = scalar (codes "d") ∷ [] } ∷ []) ∷ []))
unfolding after_gap token_at word_kind other_keywords constant_bits
two_assignments = means refl refl

selects : ReadsText (codes "module m; wire [3:0] a; assign a[3:2] = {a[0], a[1]}; endmodule") (assigned (bus (codes "a") 3 0) (bit (codes "a") 3 ∷ bit (codes "a") 2 ∷ []) (bit (codes "a") 0 ∷ bit (codes "a") 1 ∷ []))
unfolding after_gap token_at word_kind other_keywords constant_bits
selects = means refl refl

-- a part is read from left to right as it is written
part_as_written : ReadsText (codes "module m; wire [3:0] a; assign a[0:1] = a[3:2]; endmodule") (assigned (bus (codes "a") 3 0) (bit (codes "a") 0 ∷ bit (codes "a") 1 ∷ []) (bit (codes "a") 3 ∷ bit (codes "a") 2 ∷ []))
unfolding after_gap token_at word_kind other_keywords constant_bits
part_as_written = means refl refl

-- constants
filled : ReadsText (codes "module m; wire [0:3] a; assign a = 4 'b x1; endmodule") (assigned (bus (codes "a") 0 3) (bit (codes "a") 0 ∷ bit (codes "a") 1 ∷ bit (codes "a") 2 ∷ bit (codes "a") 3 ∷ []) (bits.Constant None ∷ bits.Constant None ∷ bits.Constant None ∷ bits.Constant (Some true) ∷ []))
unfolding after_gap token_at word_kind other_keywords constant_bits
filled = means refl refl

filled_with_zero : ReadsText (codes "module m; wire [0:2] a; assign a = 3'b1; endmodule") (assigned (bus (codes "a") 0 2) (bit (codes "a") 0 ∷ bit (codes "a") 1 ∷ bit (codes "a") 2 ∷ []) (bits.Constant (Some false) ∷ bits.Constant (Some false) ∷ bits.Constant (Some true) ∷ []))
unfolding after_gap token_at word_kind other_keywords constant_bits
filled_with_zero = means refl refl

cut : ReadsText (codes "module m; wire [0:1] a; assign a = 2'H0_e; endmodule") (assigned (bus (codes "a") 0 1) (bit (codes "a") 0 ∷ bit (codes "a") 1 ∷ []) (bits.Constant (Some true) ∷ bits.Constant (Some false) ∷ []))
unfolding after_gap token_at word_kind other_keywords constant_bits
cut = means refl refl

decimal : ReadsText (codes "module m; wire [0:2] a; assign a = 3'd1_4; endmodule") (assigned (bus (codes "a") 0 2) (bit (codes "a") 0 ∷ bit (codes "a") 1 ∷ bit (codes "a") 2 ∷ []) (bits.Constant (Some true) ∷ bits.Constant (Some true) ∷ bits.Constant (Some false) ∷ []))
unfolding after_gap token_at word_kind other_keywords constant_bits
decimal = means refl refl

no_source : ReadsText (codes "module m; wire [0:1] a; assign a = 2'd?; endmodule") (assigned (bus (codes "a") 0 1) (bit (codes "a") 0 ∷ bit (codes "a") 1 ∷ []) (bits.Constant None ∷ bits.Constant None ∷ []))
unfolding after_gap token_at word_kind other_keywords constant_bits
no_source = means refl refl

abbrev flip_flop : List ℕ → List ℕ → List ℕ → List ℕ → Instance
flip_flop name d clk q =
    named (codes "DFF") name (link (codes "D") (scalar d ∷ []) ∷ link (codes "CK") (scalar clk ∷ []) ∷ link (codes "Q") (scalar q ∷ []) ∷ [])

two_registers : ReadsText (codes "module top (clk, d, q); input clk, d; output q; wire n1; DFF r1 (.D(d), .CK(clk), .Q(n1)); DFF r2 (.D(n1), .CK(clk), .Q(q)); endmodule") (Ok (record {
  name = codes "top";
  line = 1;
  ports = port Input (codes "clk") ∷ port Input (codes "d") ∷ port Output (codes "q") ∷ [];
  nets = net (codes "clk") ∷ net (codes "d") ∷ net (codes "q") ∷ net (codes "n1") ∷ [];
  instances = flip_flop (codes "r1") (codes "d") (codes "clk") (codes "n1") ∷ flip_flop (codes "r2") (codes "n1") (codes "clk") (codes "q") ∷ [];
  assigns = [];
} ∷ []))
unfolding after_gap token_at word_kind other_keywords constant_bits
two_registers = means refl refl
