use Rattle.std.proofs.Common.{◌∙◌, ◌-◌, ℕ, List, ap, drop, refl, take}
use Rattle.text_model.specs.Bytes.{line_after}
use Rattle.verilog_net.proofs.TokenFacts.{token_front}
use Rattle.verilog_net.proofs.lexing.tokens.token_at.Goals as goal

pub returns-clause-is : goal.returns-clause-is
returns-clause-is c =
    let lexed = c.token_after-lexed.result in
    token_front c.args.text.now c.args.place (record { at = lexed.next; line = c.line_at.result; base = lexed.base }) c.args.begin c.line_at-line.result
    (record { at = c.args.begin; line = c.line_at-line.result; kind = lexed.kind; text = lexed.text }) lexed c.requires.forward c.requires.within
    (c.line_at-line.ensures ∙ ap (λ (t : List ℕ). line_after (take (c.args.begin - c.args.place.at) (drop c.args.place.at t)) c.args.place.line) c.as_bytes-bytes.ensures.value)
    c.token_after-lexed.ensures refl refl
    (c.line_at.ensures ∙ ap (λ (t : List ℕ). line_after (take (lexed.next - c.args.begin) (drop c.args.begin t)) c.line_at-line.result) c.as_bytes-bytes.ensures.value)
    refl
