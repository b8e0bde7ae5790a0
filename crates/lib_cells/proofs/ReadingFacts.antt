-- From the steps of the reader to what the bytes of a library mean.
use Rattle.std.proofs.Common.{◌≡◌, ℕ, Bool, List, Option, Some, None, Result, Ok, Err, refl, sym, ap, subst, ◌∙◌, inl, inr}
use Rattle.std.specs.Prelude.{◌||◌}
use Rattle.std.specs.Str.{IsUtf8}
use Rattle.sdc_base.specs.Gives.{Gives, Meets}
use Rattle.sdc_base.specs.declared.memory.At.{At}
use Rattle.sdc_base.specs.declared.memory.Stop.{Stop}
use Rattle.sdc_base.specs.declared.memory.Stop.TheVariants as stop
use Rattle.source_types.specs.declared.kinds.LibKind.{LibKind}
use Rattle.source_types.specs.declared.kinds.LibKind.TheVariants.{LibForm, NotText}
use Rattle.source_types.specs.declared.libraries.Library.{Library}
use Rattle.text_model.specs.LastLine.{broken_text_line}
use Rattle.library_model.specs.LibertyFaults.{faults_of}
use Rattle.library_model.specs.LibertyGrammar.{IsFormed}
use Rattle.library_model.specs.LibertyStatements.{Statement, statements_of}
use Rattle.library_model.specs.LibertyText.{ReadsLibrary, library_if, read}
use Rattle.library_model.specs.LibertyTokens.{IsLexed, Token, Within, characters, is_in_comment, is_unfinished, plain}
use Rattle.lib_cells.specs.Characters.{AreCharacters, Shows}
use Rattle.lib_cells.specs.declared.scanning.characters.Characters.{Characters}
use Rattle.lib_cells.specs.declared.scanning.lexing.Lexed.{Lexed}
use Rattle.lib_cells.specs.declared.syntax.statements.Statement.{Statement as HeldStatement}
use Rattle.lib_cells.specs.declared.scanning.tokens.Token.{Token as Held}
use Rattle.lib_cells.specs.Lexing.{AreLexed}
use Rattle.lib_cells.specs.Reading.{ReadsText}
use Rattle.lib_cells.specs.Recognition.{HasError, outcome_of}
use Rattle.lib_cells.specs.Seen.{statements_seen, tokens_seen, within_seen}
use Rattle.lib_cells.proofs.TextFacts.{shown_is_text}

-- ---- from characters to tokens

pub lexed_of : (text shown lines : List ℕ) (found : Characters) (lexed : Lexed) (tokens : List Held) (unfinished : Bool) → AreCharacters text found → shown ≡ found.bytes → lines ≡ found.lines → AreLexed shown lines lexed → tokens ≡ lexed.tokens.items → unfinished ≡ (lexed.unfinished || is_in_comment (within_seen found.within)) → IsLexed text (tokens_seen tokens) unfinished
lexed_of text shown lines found lexed tokens unfinished are shown_is lines_are lexes tokens_are whole =
    let shows : Shows shown lines (characters plain 1 text) = record { bytes_are = are.shows.bytes_are ∙ sym shown_is; lines_are = are.shows.lines_are ∙ sym lines_are } in
    let all = lexes.is (characters plain 1 text) shows in
    record {
      stood = all.stood;
      ending = all.ending;
      row = all.row;
      all = ap tokens_seen tokens_are ∙ all.all;
      whole = whole ∙ (ap (λ (b : Bool). b || is_in_comment (within_seen found.within)) all.whole ∙ ap (λ (w : Within). is_unfinished all.ending || is_in_comment w) (sym are.within_is));
    }

-- ---- from tokens to what they mean

formed_of : (text : List ℕ) (tokens : List Token) (unfinished : Bool) (line : Option ℕ) → IsLexed text tokens unfinished → HasError text tokens unfinished line → IsFormed text (outcome_of tokens line)
formed_of text tokens unfinished line lexes error_is = record {
  tokens = tokens;
  unfinished = unfinished;
  place = error_is.place;
  lexed = lexes;
  error_is = error_is.error_is;
  gives = error_is.gives;
}

pub broken : (text : List ℕ) (tokens : List Token) (unfinished : Bool) (found : Option ℕ) (line : ℕ) → IsLexed text tokens unfinished → HasError text tokens unfinished found → found ≡ Some line → ReadsText text (Err (record { line = line; kind = LibForm }))
broken text tokens unfinished found line lexes error_is found_is = record {
  formed = Err line;
  is = formed_of text tokens unfinished (Some line) lexes (subst (λ (l : Option ℕ). HasError text tokens unfinished l) found_is error_is);
  gives = refl;
}

pub gives_read : (tokens : List Token) (made shown : List HeldStatement) (result : Result Library (Stop (At LibKind))) → statements_seen made ≡ statements_of tokens → shown ≡ made → Gives result (library_if (statements_seen shown) (faults_of (statements_seen shown))) → Gives result (read (Ok tokens))
gives_read tokens made shown result are shown_is gives =
    subst (λ (ss : List Statement). Gives result (library_if ss (faults_of ss))) (ap statements_seen shown_is ∙ are) gives

whole : (text : List ℕ) (tokens : List Token) (unfinished : Bool) (outcome : Result Library (At LibKind)) → IsLexed text tokens unfinished → HasError text tokens unfinished None → read (Ok tokens) ≡ outcome → ReadsText text outcome
whole text tokens unfinished outcome lexes error_is gives = record {
  formed = Ok tokens;
  is = formed_of text tokens unfinished None lexes error_is;
  gives = sym gives;
}

whole_of : (text : List ℕ) (tokens : List Token) (unfinished : Bool) (result : Result Library (Stop (At LibKind))) → IsLexed text tokens unfinished → HasError text tokens unfinished None → Gives result (read (Ok tokens)) → Meets result (ReadsText text)
whole_of text tokens unfinished (Ok library) lexes error_is gives = whole text tokens unfinished (Ok library) lexes error_is gives
whole_of text tokens unfinished (Err (stop.Refused fault)) lexes error_is gives = whole text tokens unfinished (Err fault) lexes error_is gives
whole_of text tokens unfinished (Err stop.NoMemory) lexes error_is gives = tt

pub read_whole : (text : List ℕ) (tokens : List Token) (unfinished : Bool) (found : Option ℕ) (result : Result Library (Stop (At LibKind))) → IsLexed text tokens unfinished → HasError text tokens unfinished found → found ≡ None → Gives result (read (Ok tokens)) → Meets result (ReadsText text)
read_whole text tokens unfinished found result lexes error_is found_is gives =
    whole_of text tokens unfinished result lexes (subst (λ (l : Option ℕ). HasError text tokens unfinished l) found_is error_is) gives

-- ---- bytes

means : (bytes : List ℕ) (outcome : Result Library (At LibKind)) → IsUtf8 bytes → ReadsText bytes outcome → ReadsLibrary bytes outcome
means bytes outcome utf8 reads = inl (utf8, (reads.formed, reads.is, reads.gives))

pub read_bytes : (bytes : List ℕ) (result : Result Library (Stop (At LibKind))) → IsUtf8 bytes → Meets result (ReadsText bytes) → Meets result (ReadsLibrary bytes)
read_bytes bytes (Ok library) utf8 meets = means bytes (Ok library) utf8 meets
read_bytes bytes (Err (stop.Refused fault)) utf8 meets = means bytes (Err fault) utf8 meets
read_bytes bytes (Err stop.NoMemory) utf8 meets = tt

abbrev not_text : ℕ → Result Library (At LibKind)
not_text line = Err (record { line = line; kind = NotText })

pub no_text : (bytes : List ℕ) (line : ℕ) → (IsUtf8 bytes → ⊥) → line ≡ broken_text_line bytes → ReadsLibrary bytes (not_text line)
no_text bytes line not_utf8 line_is = inr (not_utf8, ap not_text line_is)

pub shown_text : (text bytes : List ℕ) (found : Characters) → IsUtf8 text → AreCharacters text found → bytes ≡ found.bytes → IsUtf8 bytes
shown_text text bytes found utf8 are bytes_are = subst IsUtf8 (are.shows.bytes_are ∙ sym bytes_are) (shown_is_text text utf8)
