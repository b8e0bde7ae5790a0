-- Where texts of netlists have syntax errors and where they do not, by example. Each is worked out by hand from the
-- grammar of
-- Verilog and from this project's own limits.
use Rattle.std.proofs.Common.{◌++◌, [], ◌∷◌, Ok, inr, refl}
use Rattle.std.specs.Prelude.{codes}
use Rattle.std.specs.Char.{encode_utf8}
use Rattle.std.specs.List.{repeat}
use Rattle.std.specs.Str.{chars, is_utf8}
use Rattle.std.specs.Str.Lossy.{utf8_valid_len}
use Rattle.source_types.specs.declared.fault_kinds.VerilogKind.TheVariants.{NotText, UnknownNet, VerilogForm}
use Rattle.netlist_model.specs.VerilogConstants.{constant_bits}
use Rattle.netlist_model.specs.VerilogTokens.{after_gap, token_at}
use Rattle.netlist_model.specs.VerilogWords.{other_keywords, word_kind}
use Rattle.netlist_model.specs.Verilog.{ReadsText, ReadsVerilog, fault}
use Rattle.text_model.proofs.BrokenTexts.{no_text}
use Rattle.netlist_laws.proofs.SmallNetlists.{means, net, module_of, bare}

no_module : ReadsText (codes "") (Ok [])
unfolding after_gap token_at word_kind other_keywords constant_bits
no_module = means refl refl

comment_alone : ReadsText (codes "// module\n") (Ok [])
unfolding after_gap token_at word_kind other_keywords constant_bits
comment_alone = means refl refl

comment_without_end : ReadsText (codes "module m; endmodule /*\n/") (fault 2 VerilogForm)
unfolding after_gap token_at word_kind other_keywords constant_bits
comment_without_end = means refl refl

attribute_without_end : ReadsText (codes "module m; endmodule (*)\n") (fault 1 VerilogForm)
unfolding after_gap token_at word_kind other_keywords constant_bits
attribute_without_end = means refl refl

-- a text that ends too early has the line of its last byte
cut_text : ReadsText (codes "module top (clk);\ninput clk;\nDFF \\r1") (fault 3 VerilogForm)
unfolding after_gap token_at word_kind other_keywords constant_bits
cut_text = means refl refl

-- the rest of a directive's line hides what opens a comment
hidden_comment : ReadsText (codes "`define X /*\nmodule m; endmodule") (bare 2)
unfolding after_gap token_at word_kind other_keywords constant_bits
hidden_comment = means refl refl

-- an attribute ends at the first `*)`
attribute : ReadsText (codes "(* a = \"*)\nmodule (* b *) m; endmodule") (bare 2)
unfolding after_gap token_at word_kind other_keywords constant_bits
attribute = means refl refl

-- keywords are no names, but escaped ones are
keyword_as_kind : ReadsText (codes "module m;\nand g (a, b, c); endmodule") (fault 2 VerilogForm)
unfolding after_gap token_at word_kind other_keywords constant_bits
keyword_as_kind = means refl refl

escaped_keyword : ReadsText (codes "module m; wire \\and ; endmodule") (Ok (module_of 1 [] (net (codes "and") ∷ []) [] [] ∷ []))
unfolding after_gap token_at word_kind other_keywords constant_bits
escaped_keyword = means refl refl

unlisted_port : ReadsText (codes "module m (a); input a,\nb; endmodule") (fault 2 VerilogForm)
unfolding after_gap token_at word_kind other_keywords constant_bits
unlisted_port = means refl refl

inout_without_list : ReadsText (codes "module m;\ninout a; endmodule") (fault 2 VerilogForm)
unfolding after_gap token_at word_kind other_keywords constant_bits
inout_without_list = means refl refl

large_bound : ReadsText (codes "module m; wire [\n1000000:0] a; endmodule") (fault 2 VerilogForm)
unfolding after_gap token_at word_kind other_keywords constant_bits
large_bound = means refl refl

-- an index is never a syntax error
large_index : ReadsText (codes "module m; wire [1_0:08] a;\nassign a[1000000] = a[9]; endmodule") (fault 2 UnknownNet)
unfolding after_gap token_at word_kind other_keywords constant_bits
large_index = means refl refl

constant_on_left : ReadsText (codes "module m; assign {a,\n1'b0} = b; endmodule") (fault 2 VerilogForm)
unfolding after_gap token_at word_kind other_keywords constant_bits
constant_on_left = means refl refl

empty_concatenation : ReadsText (codes "module m; assign a = {\n}; endmodule") (fault 2 VerilogForm)
unfolding after_gap token_at word_kind other_keywords constant_bits
empty_concatenation = means refl refl

no_size : ReadsText (codes "module m; assign a =\n'b0; endmodule") (fault 2 VerilogForm)
unfolding after_gap token_at word_kind other_keywords constant_bits
no_size = means refl refl

large_size : ReadsText (codes "module m; assign a =\n65'b0; endmodule") (fault 2 VerilogForm)
unfolding after_gap token_at word_kind other_keywords constant_bits
large_size = means refl refl

zero_size : ReadsText (codes "module m; assign a =\n04'b0; endmodule") (fault 2 VerilogForm)
unfolding after_gap token_at word_kind other_keywords constant_bits
zero_size = means refl refl

parted_base : ReadsText (codes "module m; assign a = 1\n's b0; endmodule") (fault 2 VerilogForm)
unfolding after_gap token_at word_kind other_keywords constant_bits
parted_base = means refl refl

-- ---- forms of Verilog that are not read

signed_port : ReadsText (codes "module m (a); input\nsigned a; endmodule") (fault 2 VerilogForm)
unfolding after_gap token_at word_kind other_keywords constant_bits
signed_port = means refl refl

register : ReadsText (codes "module m (output\nreg a); endmodule") (fault 2 VerilogForm)
unfolding after_gap token_at word_kind other_keywords constant_bits
register = means refl refl

-- a header that begins without a direction only lists
late_direction : ReadsText (codes "module m (a,\ninput b); endmodule") (fault 2 VerilogForm)
unfolding after_gap token_at word_kind other_keywords constant_bits
late_direction = means refl refl

array_of_instances : ReadsText (codes "module m; X u\n[1:0] (a); endmodule") (fault 2 VerilogForm)
unfolding after_gap token_at word_kind other_keywords constant_bits
array_of_instances = means refl refl

parameters : ReadsText (codes "module m; X\n#(1) u (a); endmodule") (fault 2 VerilogForm)
unfolding after_gap token_at word_kind other_keywords constant_bits
parameters = means refl refl

instance_without_name : ReadsText (codes "module m; X\n(a); endmodule") (fault 2 VerilogForm)
unfolding after_gap token_at word_kind other_keywords constant_bits
instance_without_name = means refl refl

assigned_where_declared : ReadsText (codes "module m; wire a\n= b; endmodule") (fault 2 VerilogForm)
unfolding after_gap token_at word_kind other_keywords constant_bits
assigned_where_declared = means refl refl

replication : ReadsText (codes "module m; assign a = {2\n{b}}; endmodule") (fault 2 VerilogForm)
unfolding after_gap token_at word_kind other_keywords constant_bits
replication = means refl refl

name_of_port_alone : ReadsText (codes "module m; X u (.A\n); endmodule") (fault 2 VerilogForm)
unfolding after_gap token_at word_kind other_keywords constant_bits
name_of_port_alone = means refl refl

all_ports : ReadsText (codes "module m; X u (.\n*); endmodule") (fault 2 VerilogForm)
unfolding after_gap token_at word_kind other_keywords constant_bits
all_ports = means refl refl

plain_number : ReadsText (codes "module m; assign a = 5\n; endmodule") (fault 2 VerilogForm)
unfolding after_gap token_at word_kind other_keywords constant_bits
plain_number = means refl refl

octal : ReadsText (codes "module m; assign a = 4\n'o7; endmodule") (fault 2 VerilogForm)
unfolding after_gap token_at word_kind other_keywords constant_bits
octal = means refl refl

first_digit : ReadsText (codes "module m; assign a = 2'b\n_1; endmodule") (fault 2 VerilogForm)
unfolding after_gap token_at word_kind other_keywords constant_bits
first_digit = means refl refl

-- ---- bytes between tokens

-- a form feed is no blank
form_feed : ReadsText (codes "module m;\n" ++ 12 ∷ codes "endmodule") (fault 2 VerilogForm)
unfolding after_gap token_at word_kind other_keywords constant_bits
form_feed = means refl refl

-- a directive ends with its line, after a backslash too
one_line : ReadsText (codes "`define X \\\nmodule m; endmodule") (bare 2)
unfolding after_gap token_at word_kind other_keywords constant_bits
one_line = means refl refl

-- ---- braces within braces

-- a hundred braces are read, and the fault is after them
hundred_braces : ReadsText (codes "module m; assign a = " ++ (repeat 100 (codes "{") ++ codes "\nb\n;")) (fault 3 VerilogForm)
unfolding after_gap token_at word_kind other_keywords constant_bits
hundred_braces = means refl refl

one_brace_more : ReadsText (codes "module m; assign a = " ++ (repeat 100 (codes "{") ++ codes "\n{b\n;")) (fault 2 VerilogForm)
unfolding after_gap token_at word_kind other_keywords constant_bits
one_brace_more = means refl refl

-- ---- which fault comes first

-- bytes that are no text, though there is a syntax error on a line before
not_text : ReadsVerilog (codes "endmodule\n" ++ 255 ∷ codes "\n") (fault 2 NotText)
unfolding chars encode_utf8 is_utf8 utf8_valid_len
not_text = inr (no_text (codes "endmodule\n" ++ 255 ∷ codes "\n") refl, refl)

-- a syntax error, though two wires have one name on a line before
error_first : ReadsText (codes "module m; wire a; wire a;\n;") (fault 2 VerilogForm)
unfolding after_gap token_at word_kind other_keywords constant_bits
error_first = means refl refl
