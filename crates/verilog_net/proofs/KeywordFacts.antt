-- The table of keywords gives each word the kind that the grammar says.
use Rattle.std.proofs.Common.{◌≡◌, ℕ, Bool, true, false, List, [], ◌∷◌, map, refl, ap, if◌then◌else◌}
use Rattle.std.specs.Prelude.{◌||◌, codes}
use Rattle.std.specs.List.{list_any}
use Rattle.source_types.specs.declared.verilog_tokens.VerilogToken.{VerilogToken}
use Rattle.source_types.specs.declared.verilog_tokens.VerilogToken.TheVariants as kind
use Rattle.netlist_model.specs.VerilogWords.{other_keywords, word_kind}
use Rattle.text_model.specs.Words.{same_text}
use Rattle.verilog_net.specs.Keywords.{kind_of}

-- the keywords of the grammar, then those that it has not
abbrev pub table : List (List ℕ × VerilogToken)
table =
    (codes "module", kind.Module) ∷ (codes "endmodule", kind.EndModule) ∷ (codes "input", kind.Input)
    ∷ (codes "output", kind.Output) ∷ (codes "inout", kind.Inout) ∷ (codes "wire", kind.Wire) ∷ (codes "tri", kind.Tri)
    ∷ (codes "supply0", kind.Supply0) ∷ (codes "supply1", kind.Supply1) ∷ (codes "assign", kind.Assign)
    ∷ map (λ word. (word, kind.Other)) other_keywords

one_more : (is_first is_later : Bool) (k : VerilogToken) → k ≡ (if is_later then kind.Other else kind.Name)
    → (if is_first then kind.Other else k) ≡ (if is_first || is_later then kind.Other else kind.Name)
one_more true is_later k is = refl
one_more false is_later k is = is

others : (words : List (List ℕ)) (word : List ℕ) → kind_of (map (λ other. (other, kind.Other)) words) word ≡ (if list_any (same_text word) words then kind.Other else kind.Name)
others [] word = refl
others (other ∷ words) word = one_more (same_text word other) (list_any (same_text word) words) (kind_of (map (λ w. (w, kind.Other)) words) word) (others words word)

pub table_is : (word : List ℕ) → kind_of table word ≡ word_kind word
unfolding word_kind
table_is word = ap (λ (rest : VerilogToken).
    if same_text word (codes "module") then kind.Module
    else (if same_text word (codes "endmodule") then kind.EndModule
    else (if same_text word (codes "input") then kind.Input
    else (if same_text word (codes "output") then kind.Output
    else (if same_text word (codes "inout") then kind.Inout
    else (if same_text word (codes "wire") then kind.Wire
    else (if same_text word (codes "tri") then kind.Tri
    else (if same_text word (codes "supply0") then kind.Supply0
    else (if same_text word (codes "supply1") then kind.Supply1
    else (if same_text word (codes "assign") then kind.Assign
    else rest)))))))))) (others other_keywords word)
