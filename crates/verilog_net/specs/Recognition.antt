-- The first syntax error of a text, by its tokens. This project's own rule for the line.
use Rattle.std.specs.Prelude.{◌≡◌, ℕ, List, Option, Some, None, Result, Ok, Err, Vec, slice_get}
use Rattle.std.specs.Str.{IsUtf8}
use Rattle.sdc_base.specs.declared.memory.At.{At}
use Rattle.sdc_base.specs.declared.memory.Stop.{Stop}
use Rattle.sdc_base.specs.declared.memory.Stop.TheVariants as stop
use Rattle.source_types.specs.declared.fault_kinds.VerilogKind.{VerilogKind}
use Rattle.source_types.specs.declared.verilog_tokens.VerilogSymbol.TheVariants.{Source}
use Rattle.text_model.specs.LastLine.{last_line_of}
use Rattle.netlist_model.specs.Verilog.{ReadsVerilog, line_of}
use Rattle.netlist_model.specs.VerilogGrammar.{verilog}
use Rattle.netlist_model.specs.VerilogKinds.{kinds_of}
use Rattle.netlist_model.specs.VerilogTokens.{AreTokens, Token}
use Rattle.token_grammar.specs.declared.grammar.SyntaxError.{SyntaxError}
use Rattle.token_grammar.specs.declared.grammar.SyntaxError.TheVariants as broken
use Rattle.token_grammar.specs.Texts.{ErrorIs}
use Rattle.verilog_net.specs.declared.lexing.tokens.Token.{Token as CodeToken}
use Rattle.verilog_net.specs.Seen.{tokens_seen}

-- the line of the first syntax error of tokens
abbrev pub error_line : List ℕ → List Token → Option SyntaxError → Option ℕ
error_line text tokens None = None
error_line text tokens (Some (broken.Token place)) = Some (line_of (slice_get tokens place))
error_line text tokens (Some broken.End) = Some (last_line_of text 1)

-- tokens of a text have their first syntax error on a line, or none
pub record ErrorIsOn (text : List ℕ) (tokens : List Token) (line : Option ℕ) : Type 0 where
  pub error : Option SyntaxError
  pub error_is : ErrorIs verilog Source (kinds_of tokens) error
  pub is : line ≡ error_line text tokens error

-- these are the tokens of bytes that are a netlist of the grammar
pub record AreNetlist (bytes : List ℕ) (tokens : List Token) : Type 0 where
  pub text : IsUtf8 bytes
  pub stand : AreTokens bytes tokens
  pub whole : ErrorIs verilog Source (kinds_of tokens) None

-- the tokens of bytes, or the fault that they are read as
abbrev pub Recognises : {A : Type 0} → Result (Vec CodeToken A) (Stop (At VerilogKind)) → List ℕ → Type 0
Recognises (Ok tokens) bytes = AreNetlist bytes (tokens_seen tokens.items)
Recognises (Err (stop.Refused fault)) bytes = ReadsVerilog bytes (Err fault)
Recognises (Err stop.NoMemory) bytes = Unit {0}
