-- The reader's kinds of bytes, as the grammar of netlists has them. This project's own.
use Rattle.std.specs.Prelude.{ℕ, Bool}
use Rattle.netlist_model.specs.VerilogConstants.{is_digits_byte, is_number_byte}
use Rattle.netlist_model.specs.VerilogTokens.{is_word_byte}
use Rattle.verilog_net.specs.declared.lexing.runs.Run.{Run}
use Rattle.verilog_net.specs.declared.lexing.runs.Run.TheVariants.{Word, Number, Digits}

-- the test that the bytes of a kind pass
abbrev pub test_of : Run → ℕ → Bool
test_of Word = is_word_byte
test_of Number = is_number_byte
test_of Digits = is_digits_byte
