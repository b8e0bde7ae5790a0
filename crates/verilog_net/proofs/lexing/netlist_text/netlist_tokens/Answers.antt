use Rattle.std.proofs.Common.{List, ℕ, subst}
use Rattle.verilog_net.proofs.ErrorFacts.{no_text}
use Rattle.verilog_net.proofs.lexing.netlist_text.netlist_tokens.Goals as goal
use Rattle.verilog_net.specs.Recognition.{Recognises}

pub returns-in-Ok : goal.returns-in-Ok
returns-in-Ok c = subst (λ (t : List ℕ). Recognises c.text_tokens.result t) c.in-Ok.ensures.cases.0 c.text_tokens.ensures

pub returns-in-Err : goal.returns-in-Err
returns-in-Err c = no_text c.args.bytes.now c.no_text_line-line.result c.in-Err.ensures.cases.0 c.no_text_line-line.ensures
