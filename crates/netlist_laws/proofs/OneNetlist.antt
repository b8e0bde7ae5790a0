-- Bytes have one meaning as a netlist: their tokens are one row, which has one first syntax error, and the rest is
-- computed.
use Rattle.std.proofs.Common.{◌≡◌, ◌∙◌, List, ℕ, Result, sym, ap, subst, inl, inr}
use Rattle.token_grammar.proofs.SyntaxErrors.{error_is_one}
use Rattle.token_grammar.specs.Texts.{ErrorIs}
use Rattle.sdc_base.specs.declared.memory.At.{At}
use Rattle.text_model.proofs.RowFacts.{row_once}
use Rattle.source_types.specs.declared.fault_kinds.VerilogKind.{VerilogKind}
use Rattle.source_types.specs.declared.netlists.Module.{Module}
use Rattle.source_types.specs.declared.verilog_tokens.VerilogSymbol.TheVariants.{Source}
use Rattle.netlist_model.specs.Verilog.{ReadsText, ReadsVerilog, meaning}
use Rattle.netlist_model.specs.VerilogGrammar.{verilog}
use Rattle.netlist_model.specs.VerilogKinds.{kinds_of}
use Rattle.netlist_model.specs.VerilogTokens.{AreTokens, Token, first_place, token_at}

tokens_once : (text : List ℕ) (ts us : List Token) → AreTokens text ts → AreTokens text us → ts ≡ us
tokens_once text ts us r s =
    (row_once (λ place front. token_at place ≡ front) (λ p a b x y. sym x ∙ y) ts us (first_place text) tt tt r s).0

text_once : (bytes : List ℕ) (one other : Result (List Module) (At VerilogKind)) → ReadsText bytes one → ReadsText bytes other → one ≡ other
text_once bytes one other r s =
    let tokens : r.tokens ≡ s.tokens = tokens_once bytes r.tokens s.tokens r.stand s.stand in
    let error_is = subst (λ ts. ErrorIs verilog Source (kinds_of ts) r.error) tokens r.error_is in
    let broken : r.error ≡ s.error = error_is_one verilog Source (kinds_of s.tokens) r.error s.error error_is s.error_is in
    r.is ∙ (ap (λ ts. meaning bytes ts r.error) tokens ∙ (ap (meaning bytes s.tokens) broken ∙ sym s.is))

pub netlist_once : (bytes : List ℕ) (one other : Result (List Module) (At VerilogKind)) → ReadsVerilog bytes one → ReadsVerilog bytes other → one ≡ other
netlist_once bytes one other (inl r) (inl s) = text_once bytes one other r s
netlist_once bytes one other (inl r) (inr s) = absurd (s.0 r.text)
netlist_once bytes one other (inr r) (inl s) = absurd (r.0 s.text)
netlist_once bytes one other (inr r) (inr s) = r.1 ∙ sym s.1
