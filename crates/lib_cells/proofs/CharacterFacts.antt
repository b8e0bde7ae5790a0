-- Characters that were read so far, with those of the rest of the text, are all of them.
use Rattle.std.proofs.Common.{◌≡◌, ◌++◌, ℕ, List, [], ◌∷◌, length, refl, sym, ap, subst, ◌∙◌, append_assoc, arith}
use Rattle.std.specs.Prelude.{map}
use Rattle.std.proofs.lemmas.List.{append-nil}
use Rattle.library_model.specs.LibertyTokens.{Character, Within, bytes_of, character, characters, line_past, plain, shown, within_at_end, within_after}
use Rattle.lib_cells.specs.Characters.{AreCharacters, IsAdded, lines_of, on_line}
use Rattle.lib_cells.specs.declared.scanning.characters.Characters.{Characters}
use Rattle.lib_cells.specs.Seen.{within_seen}

-- the characters of a text are those found and those of the rest, which stands in something and begins on a line
pub record CharactersSoFar (text rest : List ℕ) (line : ℕ) (found : Characters) : Type 0 where
  pub bytes_are : bytes_of (characters plain 1 text) ≡ found.bytes ++ bytes_of (characters (within_seen found.within) line rest)
  pub lines_are : lines_of (characters plain 1 text) ≡ found.lines ++ lines_of (characters (within_seen found.within) line rest)
  pub within_is : within_at_end plain text ≡ within_at_end (within_seen found.within) rest

pub bytes_shown : (line : ℕ) (bytes : List ℕ) (cs : List Character) → bytes_of (map (character line) bytes ++ cs) ≡ bytes ++ bytes_of cs
bytes_shown line [] cs = refl
bytes_shown line (b ∷ bs) cs = ap (λ (xs : List ℕ). b ∷ xs) (bytes_shown line bs cs)

lines_shown : (line : ℕ) (bytes : List ℕ) (cs : List Character) → lines_of (map (character line) bytes ++ cs) ≡ on_line line bytes ++ lines_of cs
lines_shown line [] cs = refl
lines_shown line (b ∷ bs) cs = ap (λ (xs : List ℕ). line ∷ xs) (lines_shown line bs cs)

pub so_far_none : (text : List ℕ) (found : Characters) → found.bytes ≡ [] → found.lines ≡ [] → within_seen found.within ≡ plain → CharactersSoFar text text 1 found
so_far_none text found no_bytes no_lines is_plain = record {
  bytes_are = rw (no_bytes, is_plain) refl;
  lines_are = rw (no_lines, is_plain) refl;
  within_is = rw is_plain refl;
}

-- what is after a byte, added to what was found
more_bytes : (before after shown bytes rest : List ℕ) → bytes ≡ before ++ (shown ++ rest) → after ≡ before ++ shown → bytes ≡ after ++ rest
more_bytes before after shown bytes rest is added = is ∙ (sym (append_assoc before shown rest) ∙ ap (λ (xs : List ℕ). xs ++ rest) (sym added))

added_so_far : (text : List ℕ) (b : ℕ) (bs : List ℕ) (line : ℕ) (found next : Characters) → CharactersSoFar text (b ∷ bs) line found → IsAdded found next b bs line → CharactersSoFar text bs (line_past b line) next
added_so_far text b bs line found next so_far added = record {
  bytes_are =
      more_bytes found.bytes next.bytes shown_here (bytes_of (characters plain 1 text)) (bytes_of (characters (within_seen next.within) (line_past b line) bs))
      (so_far.bytes_are ∙ ap (λ (xs : List ℕ). found.bytes ++ xs) (bytes_shown line shown_here (characters next_within (line_past b line) bs) ∙ ap (λ (w : Within). shown_here ++ bytes_of (characters w (line_past b line) bs)) (sym added.within_is)))
      added.bytes_are;
  lines_are =
      more_bytes found.lines next.lines (on_line line shown_here) (lines_of (characters plain 1 text)) (lines_of (characters (within_seen next.within) (line_past b line) bs))
      (so_far.lines_are ∙ ap (λ (xs : List ℕ). found.lines ++ xs) (lines_shown line shown_here (characters next_within (line_past b line) bs) ∙ ap (λ (w : Within). on_line line shown_here ++ lines_of (characters w (line_past b line) bs)) (sym added.within_is)))
      added.lines_are;
  within_is = so_far.within_is ∙ ap (λ (w : Within). within_at_end w bs) (sym added.within_is);
} where
  shown_here : List ℕ
  shown_here = shown (within_seen found.within) b bs

  next_within : Within
  next_within = within_after (within_seen found.within) b bs

pub so_far_more : (text rest : List ℕ) (b : ℕ) (bs : List ℕ) (line next_line : ℕ) (found next : Characters) → CharactersSoFar text rest line found → rest ≡ b ∷ bs → IsAdded found next b bs line → next_line ≡ line_past b line → CharactersSoFar text bs next_line next
so_far_more text rest b bs line next_line found next so_far is added line_is =
    subst (λ (n : ℕ). CharactersSoFar text bs n next) (sym line_is)
    (added_so_far text b bs line found next (subst (λ (r : List ℕ). CharactersSoFar text r line found) is so_far) added)

pub so_far_all : (text rest : List ℕ) (line : ℕ) (found : Characters) → CharactersSoFar text rest line found → length rest ≡ 0 → AreCharacters text found
so_far_all text [] line found so_far none = record {
  shows = record { bytes_are = so_far.bytes_are ∙ append-nil found.bytes; lines_are = so_far.lines_are ∙ append-nil found.lines };
  within_is = so_far.within_is;
}
so_far_all text (b ∷ bs) line found so_far none = absurd (omega (arith, none))
