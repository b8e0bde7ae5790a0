-- The words of a command line. This project's own.
-- The first word names the command. After it `--` ends the options, once; before that a word of two or more bytes
-- that begins with `-` is no argument. `-` alone and the empty word are arguments. `merge` has one option. The lines
-- that stand are `edges`, and `merge` over the empty design (`- - -`): every other line is wrong.
use Rattle.std.specs.Prelude.{◌==◌, ◌&&◌, ℕ, Bool, false, List, [], ◌∷◌, length, drop, map, string_bytes, String, Option, Some, None, codes, nat_eq, nat_lt, nat_le, if◌then◌else◌}
use Rattle.std.specs.Global.{Global}
use Rattle.std.specs.List.{starts_with}
use Rattle.std.specs.Option.{option_and_then}
use Rattle.std.specs.Str.{all_ascii_digits}
use Rattle.std.specs.Str.Parse.{digits_value, without_leading_plus}
use Rattle.sdc_model.specs.declared.command_lines.CommandLine.{CommandLine}
use Rattle.sdc_model.specs.declared.command_lines.CommandLine.TheVariants.{Edges, Merge}
use Rattle.text_model.specs.Words.{same_text}

-- the words as lists of bytes
abbrev pub words_of : List (String Global) → List (List ℕ)
words_of words = map (λ word. string_bytes word) words

-- two or more bytes, the first one `-`
abbrev pub is_option : List ℕ → Bool
is_option (first ∷ second ∷ rest) = first == 45
is_option _ = false

-- the most files, or modes, of one run
abbrev pub most_files : ℕ
most_files = 16

-- at least one and not too many
abbrev pub are_some : List (List ℕ) → Bool
are_some files = nat_le 1 (length files) && nat_le (length files) most_files

-- the arguments among words after the first one, where no word is an option
abbrev pub arguments_of : List (List ℕ) → Option (List (List ℕ))
arguments_of [] = Some []
arguments_of (word ∷ words) =
    if same_text word (codes "--") then Some words
    else (if is_option word then None else option_and_then (λ others. Some (word ∷ others)) (arguments_of words))

-- the digits of a budget of classes, from 1 to 10,000,000; and a budget, with an optional `+` before its digits
abbrev pub is_budget_text : List ℕ → Bool
is_budget_text digits =
    nat_lt 0 (length digits) && all_ascii_digits digits && nat_le 1 (digits_value 10 digits) && nat_le (digits_value 10 digits) 10000000

abbrev pub is_budget : List ℕ → Bool
is_budget text = is_budget_text (without_leading_plus text)

-- the arguments after `--tags`: its number, and words without a further option
abbrev pub after_number : List (List ℕ) → Option (List (List ℕ))
after_number [] = None
after_number (number ∷ words) = if is_budget number then arguments_of words else None

-- the arguments after a word that is an option: `--`, `--tags` or `--tags=N`
abbrev pub after_option : List ℕ → List (List ℕ) → Option (List (List ℕ))
after_option word words =
    if same_text word (codes "--") then Some words
    else (if same_text word (codes "--tags") then after_number words
    else (if starts_with nat_eq word (codes "--tags=") && is_budget (drop 7 word) then arguments_of words else None))

-- the arguments among words after `merge`, where the option `--tags` may stand once
abbrev pub merge_arguments : List (List ℕ) → Option (List (List ℕ))
merge_arguments [] = Some []
merge_arguments (word ∷ words) =
    if is_option word then after_option word words
    else option_and_then (λ others. Some (word ∷ others)) (merge_arguments words)

-- `edges` of these arguments: its files
abbrev pub edges_line : List (List ℕ) → Option CommandLine
edges_line files = if are_some files then Some (Edges files) else None

abbrev pub is_dash : List ℕ → Bool
is_dash word = same_text word (codes "-")

-- `merge` of these arguments: no top, library and netlist, the merged file and the modes
abbrev pub merge_line : List (List ℕ) → Option CommandLine
merge_line (top ∷ library ∷ netlist ∷ out ∷ modes) =
    if is_dash top && is_dash library && is_dash netlist && are_some modes then Some (Merge out modes) else None
merge_line _ = None

-- the command line of these words, where they are one
abbrev pub command_line : List (List ℕ) → Option CommandLine
command_line [] = None
command_line (command ∷ words) =
    if same_text command (codes "edges") then option_and_then edges_line (arguments_of words)
    else (if same_text command (codes "merge") then option_and_then merge_line (merge_arguments words)
    else None)
