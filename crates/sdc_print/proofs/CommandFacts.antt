-- Lines of words that the grammar has, each as it is spelled: they are commands of these words.
use Rattle.std.proofs.Common.{◌≡◌, ◌<◌, ◌||◌, ℕ, Bool, false, true, List, [], ◌∷◌, ◌++◌, None, Result, Ok, length, map, refl, sym, ap, ◌∙◌, subst, append_assoc, codes, arith}
use Rattle.std.specs.List.{list_all}
use Rattle.std.proofs.lemmas.Bool.{and_parts}
use Rattle.std.proofs.lemmas.List.{append-nil, length-append}
use Rattle.source_types.specs.declared.commands.Word.{Word}
use Rattle.source_types.specs.declared.kinds.TclKind.{TclKind}
use Rattle.text_model.specs.Bytes.{before, is_end, is_space, line_after}
use Rattle.tcl_model.specs.Commands.{AreCommands, AreWords, CommandFront, IsCommand, IsFirst, IsWordOf, Place, StandsWord, WordFront, ended_command, may_follow, opening}
use Rattle.text_model.specs.Continued.{after_gap, from_command, parting}
use Rattle.text_model.specs.Row.{found, stops}
use Rattle.mode_model.specs.PrintedLine.{PrintedWord, spelled, words_text, line_text, lines_text}
use Rattle.mode_model.specs.PrintedCommands.{AreSpelled, AreSpelledLines, LineIsFirst, LinesAreCommands, word_of, command_of, commands_of}
use Rattle.text_model.proofs.ByteFacts.{gap_nil}
use Rattle.sdc_print.proofs.PlainWords.{before_is}

-- the words after another one, each after a blank
abbrev pub more_text : List PrintedWord → List ℕ
more_text [] = []
more_text (word ∷ words) = 32 ∷ (spelled word ++ more_text words)

words_text_is : (word : PrintedWord) (words : List PrintedWord) → words_text (word ∷ words) ≡ spelled word ++ more_text words
words_text_is word [] = sym (append-nil (spelled word))
words_text_is word (next ∷ words) = ap (λ l. spelled word ++ (32 ∷ l)) (words_text_is next words)

-- what stands after the last word of a command
record Ends (rest : List ℕ) : Type 0 where
  follows : may_follow rest ≡ true
  stands : StandsWord rest (stops (Ok rest))

-- after a word comes a blank or the end
parts_words : (words : List PrintedWord) (rest : List ℕ) → Ends rest → may_follow (more_text words ++ rest) ≡ true
parts_words [] rest e = e.follows
parts_words (word ∷ words) rest e = refl

gap_blank : (text : List ℕ) → after_gap false (32 ∷ text) ≡ after_gap false text
unfolding after_gap
gap_blank text = refl

gap_newline : (rest : List ℕ) → after_gap false (10 ∷ rest) ≡ 10 ∷ rest
unfolding after_gap
gap_newline rest = refl

after_blank : (text : List ℕ) (front : WordFront) → StandsWord text front → StandsWord (32 ∷ text) front
after_blank text front w = subst (λ (t : List ℕ). IsWordOf (opening t) t front) (sym (gap_blank text)) w

line_ends : (rest : List ℕ) → Ends (10 ∷ rest)
line_ends rest = record {
  follows = refl;
  stands = subst (λ (t : List ℕ). IsWordOf (opening t) t (stops (Ok (10 ∷ rest)))) (sym (gap_newline rest)) refl;
}

text_ends : Ends []
text_ends = record { follows = refl; stands = subst (λ (t : List ℕ). IsWordOf (opening t) t (stops (Ok []))) (sym gap_nil) refl }

are_more_words : (words : List PrintedWord) (rest : List ℕ) → AreSpelled words → Ends rest → AreWords (map word_of words) (more_text words ++ rest) (Ok rest)
are_more_words [] rest s e = e.stands
are_more_words (word ∷ words) rest s e =
    let later = more_text words ++ rest in (
      later,
      subst (λ (t : List ℕ). StandsWord t (found (word_of word) later)) (sym (ap (λ (l : List ℕ). 32 ∷ l) (append_assoc (spelled word) (more_text words) rest)))
          (after_blank (spelled word ++ later) (found (word_of word) later) (s.0.stands later (parts_words words rest e))),
      are_more_words words rest s.1 e,
    )

-- a line is its first word, what comes after it, and its end
line_is : (word : PrintedWord) (words : List PrintedWord) (rest : List ℕ) → words_text (word ∷ words) ++ rest ≡ spelled word ++ (more_text words ++ rest)
line_is word words rest = ap (λ (l : List ℕ). l ++ rest) (words_text_is word words) ∙ append_assoc (spelled word) (more_text words) rest

are_words : (word : PrintedWord) (words : List PrintedWord) (rest : List ℕ) → AreSpelled (word ∷ words) → Ends rest → AreWords (map word_of (word ∷ words)) (words_text (word ∷ words) ++ rest) (Ok rest)
are_words word words rest s e =
    let later = more_text words ++ rest in (
      later,
      subst (λ (t : List ℕ). StandsWord t (found (word_of word) later)) (sym (line_is word words rest)) (s.0.stands later (parts_words words rest e)),
      are_more_words words rest s.1 e,
    )

-- what parts commands is passed over
abbrev pub is_parting : ℕ → Bool
is_parting b = is_space b || is_end b

passed : (b : ℕ) (bs : List ℕ) → is_parting b ≡ true → from_command parting (b ∷ bs) ≡ from_command parting bs
unfolding from_command
passed b bs p = rw p refl

none_left : from_command parting [] ≡ []
unfolding from_command
none_left = refl

from_skipped : (skipped text : List ℕ) → list_all is_parting skipped ≡ true → from_command parting (skipped ++ text) ≡ from_command parting text
from_skipped [] text p = refl
from_skipped (b ∷ bs) text p =
    let parts = and_parts (is_parting b) (list_all is_parting bs) p in passed b (bs ++ text) parts.0 ∙ from_skipped bs text parts.1

command_here : (text : List ℕ) (place : Place) (front : CommandFront) (words : List Word) (end : Result (List ℕ) TclKind) → 0 < length text → AreWords words place.text end → front ≡ ended_command place words end → IsCommand text place front
command_here [] place front words end some row e = absurd (omega arith)
command_here (b ∷ bs) place front words end some row e = (words, end, row, e)

-- words after what parts commands, and before their end
first_of : (skipped : List ℕ) (words : List PrintedWord) (rest : List ℕ) (line : ℕ) → list_all is_parting skipped ≡ true → 0 < length words → AreSpelled words → Ends rest
    → IsFirst (skipped ++ (words_text words ++ rest)) line (command_of (line_after skipped line) words) rest (line_after (words_text words) (line_after skipped line))
first_of skipped [] rest line p h s e = absurd (omega arith)
first_of skipped (word ∷ words) rest line p h s e =
    let body : List ℕ = words_text (word ∷ words) ++ rest in
    let later : List ℕ = more_text words ++ rest in
    let begin : ℕ = line_after skipped line in
    let front : CommandFront = found (command_of begin (word ∷ words)) (record { text = rest; line = line_after (words_text (word ∷ words)) begin }) in
    let starts : from_command parting (skipped ++ body) ≡ body =
    from_skipped skipped body p ∙ (ap (from_command parting) (line_is word words rest) ∙ (s.0.first later (parts_words words rest e) ∙ sym (line_is word words rest))) in
    let long : 0 < length body = omega (arith, ap length (line_is word words rest), length-append (spelled word) later, s.0.some) in
    let place : Place = record { text = body; line = begin } in
    let here : IsCommand body place front =
    command_here body place front (map word_of (word ∷ words)) (Ok rest) long (are_words word words rest s e)
    (ap (λ (t : List ℕ). found (command_of begin (word ∷ words)) (record { text = rest; line = line_after t begin })) (sym (before_is (words_text (word ∷ words)) rest))) in
    let lined : IsCommand body (record { text = body; line = line_after (before (skipped ++ body) body) line }) front =
    subst (λ (t : List ℕ). IsCommand body (record { text = body; line = line_after t line }) front) (sym (before_is skipped body)) here in
    subst (λ (t : List ℕ). IsCommand t (record { text = t; line = line_after (before (skipped ++ body) t) line }) front) (sym starts) lined

-- a line after what parts commands, and before other text
is_first : (skipped : List ℕ) (words : List PrintedWord) (rest : List ℕ) (line : ℕ) → list_all is_parting skipped ≡ true → 0 < length words → AreSpelled words → IsFirst (skipped ++ (line_text words ++ rest)) line (command_of (line_after skipped line) words) (10 ∷ rest) (line_after (words_text words) (line_after skipped line))
is_first skipped words rest line p h s =
    let begin : ℕ = line_after skipped line in
    let whole : skipped ++ (line_text words ++ rest) ≡ skipped ++ (words_text words ++ (10 ∷ rest)) = ap (λ (l : List ℕ). skipped ++ l) (append_assoc (words_text words) (codes "\n") rest) in
    subst (λ (t : List ℕ). IsFirst t line (command_of begin words) (10 ∷ rest) (line_after (words_text words) begin)) (sym whole) (first_of skipped words (10 ∷ rest) line p h s (line_ends rest))

pub line_is_first : (words : List PrintedWord) → LineIsFirst words
line_is_first words rest line h s = is_first [] words rest line refl h s

line_after-append : (first second : List ℕ) (line : ℕ) → line_after (first ++ second) line ≡ line_after second (line_after first line)
line_after-append [] second line = refl
line_after-append (b ∷ bs) second line = line_after-append bs second _

nothing_left : (text : List ℕ) (line : ℕ) → list_all is_parting text ≡ true → AreCommands [] text line
nothing_left text line p =
    subst (λ (t : List ℕ). IsCommand t (record { text = t; line = line_after (before text t) line }) (stops None)) (sym (ap (from_command parting) (sym (append-nil text)) ∙ (from_skipped text [] p ∙ none_left))) refl

-- lines after what parts commands
are_commands : (lines : List (List PrintedWord)) (skipped : List ℕ) (line : ℕ) → list_all is_parting skipped ≡ true → AreSpelledLines lines → AreCommands (commands_of (line_after skipped line) lines) (skipped ++ lines_text lines) line
are_commands [] skipped line p s = subst (λ (t : List ℕ). AreCommands [] t line) (sym (append-nil skipped)) (nothing_left skipped line p)
are_commands (words ∷ lines) skipped line p s =
    let begin = line_after skipped line in
    let after = line_after (words_text words) begin in
    let rest = lines_text lines in
    let others = are_commands lines (codes "\n") after refl s.2 in (
      record { text = 10 ∷ rest; line = after },
      is_first skipped words rest line p s.0 s.1,
      subst (λ n. AreCommands (commands_of n lines) (10 ∷ rest) after) (sym (line_after-append (words_text words) (codes "\n") begin)) others,
    )

pub lines_are_commands : (lines : List (List PrintedWord)) → LinesAreCommands lines
lines_are_commands lines line s = are_commands lines [] line refl s

-- words alone are the one command of their text
pub words_are_command : (words : List PrintedWord) (line : ℕ) → 0 < length words → AreSpelled words → AreCommands (command_of line words ∷ []) (words_text words) line
words_are_command words line h s =
    let after : ℕ = line_after (words_text words) line in
    let whole : words_text words ++ [] ≡ words_text words = append-nil (words_text words) in (
      record { text = []; line = after },
      subst (λ (t : List ℕ). IsFirst t line (command_of line words) [] after) whole (first_of [] words [] line refl h s text_ends),
      nothing_left [] after refl,
    )
