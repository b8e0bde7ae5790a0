-- The bytes of the lines of a clock. Small words for this crate's private functions.
use Rattle.std.specs.Prelude.{ℕ, ℤ, List}
use Rattle.timing_types.specs.declared.clocks.Form.{Form}
use Rattle.timing_types.specs.declared.clocks.Wave.{Wave}
use Rattle.mode_model.specs.PrintedLine.{line_text, lines_text}
use Rattle.mode_model.specs.PrintedFile.{clock_line, lines_of_form}

abbrev pub clock_text : ℤ → List ℕ → Wave → List ℕ
clock_text unit name wave = line_text (clock_line unit name wave)

abbrev pub form_text : ℤ → List ℕ → Form → List ℕ
form_text unit name form = lines_text (lines_of_form unit name form)
