-- Syntax errors of tokens, by the machine's error of their kinds.
use Rattle.std.proofs.Common.{◌≡◌, ℕ, List, Option, None, Some, Result, Err, slice_get, ap, subst, inl, inr}
use Rattle.std.specs.Str.{IsUtf8}
use Rattle.sdc_base.specs.declared.memory.At.{At}
use Rattle.source_types.specs.declared.fault_kinds.VerilogKind.{VerilogKind}
use Rattle.source_types.specs.declared.fault_kinds.VerilogKind.TheVariants.{NotText, VerilogForm}
use Rattle.source_types.specs.declared.verilog_tokens.VerilogSymbol.TheVariants.{Source}
use Rattle.source_types.specs.declared.verilog_tokens.VerilogToken.{VerilogToken}
use Rattle.source_types.specs.declared.netlists.Module.{Module}
use Rattle.text_model.specs.LastLine.{broken_text_line, last_line_of}
use Rattle.netlist_model.specs.Verilog.{ReadsVerilog, fault, line_of, meaning}
use Rattle.netlist_model.specs.VerilogGrammar.{verilog}
use Rattle.netlist_model.specs.VerilogKinds.{kinds_of}
use Rattle.netlist_model.specs.VerilogTokens.{AreTokens, Token}
use Rattle.token_grammar.specs.declared.grammar.SyntaxError.{SyntaxError}
use Rattle.token_grammar.specs.declared.grammar.SyntaxError.TheVariants as broken
use Rattle.token_grammar.specs.Texts.{ErrorIs}
use Rattle.verilog_net.specs.Recognition.{AreNetlist, ErrorIsOn, error_line}

pub error_is_on : (text : List ℕ) (tokens : List Token) (kinds : List VerilogToken) (error : Option SyntaxError) (line : Option ℕ) → kinds ≡ kinds_of tokens → ErrorIs verilog Source kinds error → line ≡ error_line text tokens error → ErrorIsOn text tokens line
error_is_on text tokens kinds error line is error_is line_is = record {
  error = error;
  error_is = subst (λ ks. ErrorIs verilog Source ks error) is error_is;
  is = line_is;
}

-- tokens without a syntax error are a netlist
pub whole : (text : List ℕ) (tokens : List Token) → IsUtf8 text → AreTokens text tokens → ErrorIsOn text tokens None → AreNetlist text tokens
whole text tokens utf8 stand error_is = record { text = utf8; stand = stand; whole = nowhere error_is.error error_is.error_is error_is.is } where
  nowhere : (error : Option SyntaxError) → ErrorIs verilog Source (kinds_of tokens) error → None ≡ error_line text tokens error → ErrorIs verilog Source (kinds_of tokens) None
  nowhere None h e = h
  nowhere (Some (broken.Token place)) h e = cc
  nowhere (Some broken.End) h e = cc

some_is : (a b : ℕ) → ◌≡◌ {A = Option ℕ} (Some a) (Some b) → a ≡ b
some_is a b h = cc

-- tokens with a syntax error on a line are read as this fault
pub form_refused : (text : List ℕ) (tokens : List Token) (line : ℕ) → IsUtf8 text → AreTokens text tokens → ErrorIsOn text tokens (Some line) → ReadsVerilog text (Err (record { line = line; kind = VerilogForm }))
form_refused text tokens line utf8 stand error_is = inl (record {
  tokens = tokens;
  error = error_is.error;
  text = utf8;
  stand = stand;
  error_is = error_is.error_is;
  is = somewhere error_is.error error_is.is;
}) where
  somewhere : (error : Option SyntaxError) → Some line ≡ error_line text tokens error → ◌≡◌ {A = Result (List Module) (At VerilogKind)} (Err (record { line = line; kind = VerilogForm })) (meaning text tokens error)
  somewhere None e = cc
  somewhere (Some (broken.Token place)) e = ap (λ (n : ℕ). fault n VerilogForm) (some_is line (line_of (slice_get tokens place)) e)
  somewhere (Some broken.End) e = ap (λ (n : ℕ). fault n VerilogForm) (some_is line (last_line_of text 1) e)

pub no_text : (bytes : List ℕ) (line : ℕ) → (IsUtf8 bytes → ⊥) → line ≡ broken_text_line bytes → ReadsVerilog bytes (Err (record { line = line; kind = NotText }))
no_text bytes line none is = inr (none, ap (λ (n : ℕ). fault n NotText) is)
