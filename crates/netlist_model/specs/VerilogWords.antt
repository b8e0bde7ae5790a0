-- The keywords of Verilog (IEEE 1364-2005, annex on keywords). A word that is one is no name; the grammar here has ten
-- of them, and every other is a token that no text of it has.
use Rattle.std.specs.Prelude.{ℕ, List, [], ◌∷◌, codes, if◌then◌else◌}
use Rattle.std.specs.List.{list_any}
use Rattle.source_types.specs.declared.verilog_tokens.VerilogToken.{VerilogToken}
use Rattle.source_types.specs.declared.verilog_tokens.VerilogToken.TheVariants as kind
use Rattle.text_model.specs.Words.{same_text}

-- the keywords that the grammar here has not
unfoldable pub other_keywords : List (List ℕ)
other_keywords =
    codes "always" ∷ codes "and" ∷ codes "automatic" ∷ codes "begin" ∷ codes "buf" ∷ codes "bufif0" ∷ codes "bufif1"
    ∷ codes "case" ∷ codes "casex" ∷ codes "casez" ∷ codes "cell" ∷ codes "cmos" ∷ codes "config" ∷ codes "deassign"
    ∷ codes "default" ∷ codes "defparam" ∷ codes "design" ∷ codes "disable" ∷ codes "edge" ∷ codes "else" ∷ codes "end"
    ∷ codes "endcase" ∷ codes "endconfig" ∷ codes "endfunction" ∷ codes "endgenerate" ∷ codes "endprimitive"
    ∷ codes "endspecify" ∷ codes "endtable" ∷ codes "endtask" ∷ codes "event" ∷ codes "for" ∷ codes "force"
    ∷ codes "forever" ∷ codes "fork" ∷ codes "function" ∷ codes "generate" ∷ codes "genvar" ∷ codes "highz0"
    ∷ codes "highz1" ∷ codes "if" ∷ codes "ifnone" ∷ codes "incdir" ∷ codes "include" ∷ codes "initial"
    ∷ codes "instance" ∷ codes "integer" ∷ codes "join" ∷ codes "large" ∷ codes "liblist" ∷ codes "library"
    ∷ codes "localparam" ∷ codes "macromodule" ∷ codes "medium" ∷ codes "nand" ∷ codes "negedge" ∷ codes "nmos"
    ∷ codes "nor" ∷ codes "noshowcancelled" ∷ codes "not" ∷ codes "notif0" ∷ codes "notif1" ∷ codes "or"
    ∷ codes "parameter" ∷ codes "pmos" ∷ codes "posedge" ∷ codes "primitive" ∷ codes "pull0" ∷ codes "pull1"
    ∷ codes "pulldown" ∷ codes "pullup" ∷ codes "pulsestyle_onevent" ∷ codes "pulsestyle_ondetect" ∷ codes "rcmos"
    ∷ codes "real" ∷ codes "realtime" ∷ codes "reg" ∷ codes "release" ∷ codes "repeat" ∷ codes "rnmos" ∷ codes "rpmos"
    ∷ codes "rtran" ∷ codes "rtranif0" ∷ codes "rtranif1" ∷ codes "scalared" ∷ codes "showcancelled" ∷ codes "signed"
    ∷ codes "small" ∷ codes "specify" ∷ codes "specparam" ∷ codes "strong0" ∷ codes "strong1" ∷ codes "table"
    ∷ codes "task" ∷ codes "time" ∷ codes "tran" ∷ codes "tranif0" ∷ codes "tranif1" ∷ codes "tri0" ∷ codes "tri1"
    ∷ codes "triand" ∷ codes "trior" ∷ codes "trireg" ∷ codes "unsigned" ∷ codes "use" ∷ codes "uwire"
    ∷ codes "vectored" ∷ codes "wait" ∷ codes "wand" ∷ codes "weak0" ∷ codes "weak1" ∷ codes "while" ∷ codes "wor"
    ∷ codes "xnor" ∷ codes "xor" ∷ []

-- a word that is none of the grammar's
abbrev pub name_kind : List ℕ → VerilogToken
name_kind word = if list_any (same_text word) other_keywords then kind.Other else kind.Name

-- a word and the kind that it has
unfoldable pub word_kind : List ℕ → VerilogToken
word_kind word =
    if same_text word (codes "module") then kind.Module
    else (if same_text word (codes "endmodule") then kind.EndModule
    else (if same_text word (codes "input") then kind.Input
    else (if same_text word (codes "output") then kind.Output
    else (if same_text word (codes "inout") then kind.Inout
    else (if same_text word (codes "wire") then kind.Wire
    else (if same_text word (codes "tri") then kind.Tri
    else (if same_text word (codes "supply0") then kind.Supply0
    else (if same_text word (codes "supply1") then kind.Supply1
    else (if same_text word (codes "assign") then kind.Assign
    else name_kind word)))))))))
