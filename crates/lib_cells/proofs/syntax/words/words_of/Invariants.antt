use Rattle.std.proofs.Common.{◌≡◌, ◌++◌, drop}
use Rattle.library_model.specs.LibertyCells as liberty
use Rattle.lib_cells.proofs.syntax.words.words_of.Given as goal

abbrev pub invariant-loop-byte : goal.invariant-loop-byte
invariant-loop-byte l = l.words ++ liberty.words_after l.word (drop l.byte-index l.text) ≡ liberty.words_of l.text
