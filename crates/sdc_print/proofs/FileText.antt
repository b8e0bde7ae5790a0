-- Printed files are text, and have just the commands of their lines: each word is one of the grammar.
use Rattle.std.proofs.Common.{◌≡◌, ◌<◌, ℕ, Bool, true, List, [], ◌∷◌, ◌++◌, length, refl, codes, arith, lit<}
use Rattle.std.proofs.lemmas.Bool.{and_parts}
use Rattle.std.proofs.lemmas.Bool.Decides.{nat_tests}
use Rattle.std.proofs.lemmas.Str.{IsAscii-append, IsUtf8-from_ascii}
use Rattle.std.proofs.lemmas.Str.Ascii.{IsAscii-cons, IsAscii-nil}
use Rattle.std.specs.List.{list_all}
use Rattle.std.specs.Str.{IsAscii, IsUtf8}
use Rattle.sdc_base.proofs.ReadBackFacts.{list_all-append}
use Rattle.tcl_model.specs.Commands.{IsWord}
use Rattle.mode_model.specs.PrintedCommands.{AreSpelled, AreSpelledLines, word_of}
use Rattle.mode_model.specs.PrintedLine.{PrintedWord, bare, braced, list_word, query_word, spelled, spaced, words_text, line_text, lines_text}
use Rattle.sdc_print.proofs.PlainWords.{all_pass, bare_is_word, braced_is_word, is_braced, is_plain}
use Rattle.sdc_print.proofs.QueryWords.{query_is_word}

plain_ascii : (b : ℕ) → is_plain b ≡ true → b < 128
plain_ascii b p = grind (arith, nat_tests)

braced_ascii : (b : ℕ) → is_braced b ≡ true → b < 128
braced_ascii b p = grind (arith, nat_tests)

ascii_all : (p : ℕ → Bool) → ((b : ℕ) → p b ≡ true → b < 128) → (bs : List ℕ) → list_all p bs ≡ true → IsAscii bs
ascii_all p small [] h = IsAscii-nil
ascii_all p small (b ∷ bs) h =
    let parts = and_parts (p b) (list_all p bs) h in
    IsAscii-cons b bs (small b parts.0) (ascii_all p small bs parts.1)

-- bytes between two others
enclosed_ascii : (opener closer : ℕ) (inner : List ℕ) → opener < 128 → closer < 128 → IsAscii inner → IsAscii (opener ∷ (inner ++ closer ∷ []))
enclosed_ascii opener closer inner o c i =
    IsAscii-cons opener (inner ++ closer ∷ []) o (IsAscii-append inner (closer ∷ []) i (IsAscii-cons closer [] c IsAscii-nil))

-- ---- words of the grammar that are text

-- a word of the grammar as it is spelled, in ASCII
pub record IsFine (word : PrintedWord) : Type 0 where
  pub word_is : IsWord (word_of word) (spelled word)
  pub ascii : IsAscii (spelled word)

abbrev pub AreFine : List PrintedWord → Type 0
AreFine [] = Unit {0}
AreFine (word ∷ words) = IsFine word × AreFine words

-- lines of one or more such words
abbrev pub AreFineLines : List (List PrintedWord) → Type 0
AreFineLines [] = Unit {0}
AreFineLines (words ∷ lines) = (0 < length words) × AreFine words × AreFineLines lines

words_spelled : (words : List PrintedWord) → AreFine words → AreSpelled words
words_spelled [] s = tt
words_spelled (word ∷ words) s = (s.0.word_is, words_spelled words s.1)

pub lines_spelled : (lines : List (List PrintedWord)) → AreFineLines lines → AreSpelledLines lines
lines_spelled [] s = tt
lines_spelled (words ∷ lines) s = (s.0, words_spelled words s.1, lines_spelled lines s.2)

words_ascii : (words : List PrintedWord) → AreFine words → IsAscii (words_text words)
words_ascii [] s = IsAscii-nil
words_ascii (word ∷ []) s = s.0.ascii
words_ascii (word ∷ next ∷ words) s =
    IsAscii-append (spelled word) (32 ∷ words_text (next ∷ words)) s.0.ascii
    (IsAscii-cons 32 (words_text (next ∷ words)) (lit< tt) (words_ascii (next ∷ words) s.1))

lines_ascii : (lines : List (List PrintedWord)) → AreFineLines lines → IsAscii (lines_text lines)
lines_ascii [] s = IsAscii-nil
lines_ascii (words ∷ lines) s =
    IsAscii-append (line_text words) (lines_text lines)
    (IsAscii-append (words_text words) (10 ∷ []) (words_ascii words s.1) (IsAscii-cons 10 [] (lit< tt) IsAscii-nil))
    (lines_ascii lines s.2)

pub lines_are_text : (lines : List (List PrintedWord)) → AreFineLines lines → IsUtf8 (lines_text lines)
lines_are_text lines s = IsUtf8-from_ascii (lines_text lines) (lines_ascii lines s)

pub bare_spelled : (text : List ℕ) → 0 < length text → list_all is_plain text ≡ true → IsFine (bare text)
bare_spelled text some plain = record { word_is = bare_is_word text some plain; ascii = ascii_all is_plain plain_ascii text plain }

pub braced_spelled : (text : List ℕ) → list_all is_braced text ≡ true → IsFine (braced text)
braced_spelled text inner = record {
  word_is = braced_is_word text inner;
  ascii = enclosed_ascii 123 125 text (lit< tt) (lit< tt) (ascii_all is_braced braced_ascii text inner);
}

-- a query for clocks of these names
query_ascii : (names : List (List ℕ)) → list_all is_braced (spaced names) ≡ true → IsAscii (words_text (bare (codes "get_clocks") ∷ list_word names ∷ []))
query_ascii names inner =
    IsAscii-append (codes "get_clocks") (32 ∷ spelled (list_word names)) (ascii_all is_plain plain_ascii (codes "get_clocks") refl)
    (IsAscii-cons 32 (spelled (list_word names)) (lit< tt) (braced_spelled (spaced names) inner).ascii)

pub query_spelled : (names : List (List ℕ)) → list_all is_braced (spaced names) ≡ true → IsFine (query_word (codes "get_clocks") names)
query_spelled names inner = record {
  word_is = query_is_word (spaced names) inner;
  ascii = enclosed_ascii 91 93 (words_text (bare (codes "get_clocks") ∷ list_word names ∷ [])) (lit< tt) (lit< tt) (query_ascii names inner);
}

-- plain texts that are not empty: items of a list
pub record IsItem (text : List ℕ) : Type 0 where
  pub some : 0 < length text
  pub plain : list_all is_plain text ≡ true

abbrev pub AreItems : List (List ℕ) → Type 0
AreItems [] = Unit {0}
AreItems (text ∷ texts) = IsItem text × AreItems texts

plain_braced : (b : ℕ) → is_plain b ≡ true → is_braced b ≡ true
plain_braced b p = rw p refl

pub item_braced : (text : List ℕ) → IsItem text → list_all is_braced text ≡ true
item_braced text item = all_pass is_plain is_braced plain_braced text item.plain

pub items_braced : (texts : List (List ℕ)) → AreItems texts → list_all is_braced (spaced texts) ≡ true
items_braced [] items = refl
items_braced (text ∷ []) items = item_braced text items.0
items_braced (text ∷ next ∷ texts) items =
    list_all-append is_braced text (32 ∷ spaced (next ∷ texts)) (item_braced text items.0) (items_braced (next ∷ texts) items.1)

-- lines of words, one after the other
pub spelled_append : (first second : List (List PrintedWord)) → AreFineLines first → AreFineLines second → AreFineLines (first ++ second)
spelled_append [] second f s = s
spelled_append (words ∷ first) second f s = (f.0, f.1, spelled_append first second f.2 s)
