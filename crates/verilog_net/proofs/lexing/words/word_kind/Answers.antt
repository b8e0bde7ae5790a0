use Rattle.std.proofs.Common.{◌∙◌}
use Rattle.netlist_model.specs.VerilogWords.{other_keywords}
use Rattle.verilog_net.proofs.KeywordFacts.{table_is}
use Rattle.verilog_net.proofs.lexing.words.word_kind.Goals as goal

pub returns : goal.returns
unfolding other_keywords
returns c = c.kind_in.ensures ∙ table_is c.args.word.now
