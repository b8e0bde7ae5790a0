-- Printed lines as commands of the grammar: what each word means, and that lines are spelled by their words.
-- It reads: where each word is one of the grammar's as it is spelled, each line is one command, on its own line.
use Rattle.std.specs.Prelude.{◌<◌, ℕ, List, [], ◌∷◌, ◌++◌, length, map, codes}
use Rattle.source_types.specs.declared.commands.Command.{Command}
use Rattle.source_types.specs.declared.commands.Word.{Word}
use Rattle.source_types.specs.declared.commands.Part.TheVariants as part
use Rattle.text_model.specs.Bytes.{line_after}
use Rattle.tcl_model.specs.Commands.{AreCommands, IsFirst, IsWord}
use Rattle.mode_model.specs.PrintedLine.{PrintedWord, bare, braced, bracketed, line_text, lines_text, spelled, words_text}

-- the word that a printed word is read as: its text, or its script
abbrev pub word_of : PrintedWord → Word
word_of (bare text) = record { parts = part.Text text ∷ [] }
word_of (braced text) = record { parts = part.Text text ∷ [] }
word_of (bracketed script) = record { parts = part.Script script ∷ [] }

-- the command that a line is read as, and those of lines in a row, of which the first has this number
abbrev pub command_of : ℕ → List PrintedWord → Command
command_of line words = record { line = line; words = map word_of words }

abbrev pub commands_of : ℕ → List (List PrintedWord) → List Command
commands_of line [] = []
commands_of line (words ∷ lines) = command_of line words ∷ commands_of (line_after (line_text words) line) lines

-- each of these words is a word of the grammar as it is spelled
abbrev pub AreSpelled : List PrintedWord → Type 0
AreSpelled [] = Unit {0}
AreSpelled (word ∷ words) = IsWord (word_of word) (spelled word) × AreSpelled words

-- lines of one or more such words
abbrev pub AreSpelledLines : List (List PrintedWord) → Type 0
AreSpelledLines [] = Unit {0}
AreSpelledLines (words ∷ lines) = (0 < length words) × AreSpelled words × AreSpelledLines lines

-- such a line is the first command of a text that it begins
abbrev pub LineIsFirst : List PrintedWord → Type 0
LineIsFirst words =
    (rest : List ℕ) (line : ℕ) → 0 < length words → AreSpelled words →
    IsFirst (line_text words ++ rest) line (command_of line words) (codes "\n" ++ rest) (line_after (words_text words) line)

-- such lines are the commands of their text
abbrev pub LinesAreCommands : List (List PrintedWord) → Type 0
LinesAreCommands lines = (line : ℕ) → AreSpelledLines lines → AreCommands (commands_of line lines) (lines_text lines) line
