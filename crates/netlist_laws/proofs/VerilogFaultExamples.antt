-- The faults of netlists without syntax errors, by example. Each is worked out by hand from this project's own
-- rules.
use Rattle.std.proofs.Common.{refl}
use Rattle.std.specs.Prelude.{codes}
use Rattle.source_types.specs.declared.fault_kinds.VerilogKind.TheVariants.{DoubleName, InoutPort, UnknownNet, WidthMismatch}
use Rattle.netlist_model.specs.VerilogConstants.{constant_bits}
use Rattle.netlist_model.specs.VerilogTokens.{after_gap, token_at}
use Rattle.netlist_model.specs.VerilogWords.{other_keywords, word_kind}
use Rattle.netlist_model.specs.Verilog.{ReadsText, fault}
use Rattle.netlist_laws.proofs.SmallNetlists.{means}

inout_port : ReadsText (codes "module top (p); inout p; endmodule") (fault 1 InoutPort)
unfolding after_gap token_at word_kind other_keywords constant_bits
inout_port = means refl refl

two_wires : ReadsText (codes "module top; wire a; wire a; endmodule") (fault 1 DoubleName)
unfolding after_gap token_at word_kind other_keywords constant_bits
two_wires = means refl refl

unequal_sides : ReadsText (codes "module top; wire [1:0] a; wire b; assign b = a; endmodule") (fault 1 WidthMismatch)
unfolding after_gap token_at word_kind other_keywords constant_bits
unequal_sides = means refl refl

out_of_range : ReadsText (codes "module top; wire [1:0] a; wire b; assign b = a[2]; endmodule") (fault 1 UnknownNet)
unfolding after_gap token_at word_kind other_keywords constant_bits
out_of_range = means refl refl

-- on one line the place decides: `b` is listed and not declared
first_by_line : ReadsText (codes "module m (a, b); inout a; endmodule") (fault 1 UnknownNet)
unfolding after_gap token_at word_kind other_keywords constant_bits
first_by_line = means refl refl

listed_twice : ReadsText (codes "module m (a,\na); input a; endmodule") (fault 2 DoubleName)
unfolding after_gap token_at word_kind other_keywords constant_bits
listed_twice = means refl refl

second_module : ReadsText (codes "module m; endmodule\nmodule m; endmodule") (fault 2 DoubleName)
unfolding after_gap token_at word_kind other_keywords constant_bits
second_module = means refl refl

-- a port and a wire of one width may have one name
other_width : ReadsText (codes "module m (a);\ninput a;\nwire [1:0] a; endmodule") (fault 3 DoubleName)
unfolding after_gap token_at word_kind other_keywords constant_bits
other_width = means refl refl

supply_port : ReadsText (codes "module m (a);\ninput a;\nsupply0 a; endmodule") (fault 3 DoubleName)
unfolding after_gap token_at word_kind other_keywords constant_bits
supply_port = means refl refl

third_declaration : ReadsText (codes "module m (a);\ninput a; wire a;\ntri a; endmodule") (fault 3 DoubleName)
unfolding after_gap token_at word_kind other_keywords constant_bits
third_declaration = means refl refl

only_a_wire : ReadsText (codes "module m (a);\nwire a; endmodule") (fault 1 UnknownNet)
unfolding after_gap token_at word_kind other_keywords constant_bits
only_a_wire = means refl refl

select_of_scalar : ReadsText (codes "module m; wire a;\nX u (a[0]); endmodule") (fault 2 UnknownNet)
unfolding after_gap token_at word_kind other_keywords constant_bits
select_of_scalar = means refl refl

select_of_implicit : ReadsText (codes "module m;\nX u (a), v (a[0]); endmodule") (fault 2 UnknownNet)
unfolding after_gap token_at word_kind other_keywords constant_bits
select_of_implicit = means refl refl

-- an unknown net takes the width's fault from its own assignment alone
unknown_net_alone : ReadsText (codes "module m; wire [1:0] a;\nassign a = b,\n{a, b} = a[2]; endmodule") (fault 2 WidthMismatch)
unfolding after_gap token_at word_kind other_keywords constant_bits
unknown_net_alone = means refl refl

mismatch_at_keyword : ReadsText (codes "module m; wire [1:0] a;\nassign\na = b; endmodule") (fault 2 WidthMismatch)
unfolding after_gap token_at word_kind other_keywords constant_bits
mismatch_at_keyword = means refl refl

both_styles : ReadsText (codes "module m (input wire a, b, output [1:0] c); wire c, d; endmodule") (fault 1 DoubleName)
unfolding after_gap token_at word_kind other_keywords constant_bits
both_styles = means refl refl
