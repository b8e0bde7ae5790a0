-- Pairs with one first place that stand one after the other, and the bytes of the line of each such run: small words
-- for this crate's functions.
use Rattle.std.specs.Prelude.{ℕ, suc, ◌==◌, List, [], ◌∷◌, map, if◌then◌else◌}
use Rattle.timing_types.specs.declared.clocks.Clock.{Clock}
use Rattle.timing_types.specs.declared.clocks.Pair.{Pair}
use Rattle.mode_model.specs.PrintedLine.{lines_text, spaced}
use Rattle.mode_model.specs.PrintedFile.{group_lines, lines_of_group, names_at}

-- how many pairs from the front on have this first place
unfoldable pub run_length : ℕ → List Pair → ℕ
run_length place [] = 0
run_length place (pair ∷ pairs) = if pair.first == place then suc (run_length place pairs) else 0

-- their second places
abbrev pub seconds : List Pair → List ℕ
seconds pairs = map (λ pair. pair.second) pairs

-- the bytes of the line of a clock and the second ones of such pairs
abbrev pub group_text : List ℕ → List Clock → List Pair → List ℕ
group_text name clocks pairs = lines_text (lines_of_group name (names_at clocks (seconds pairs)))

-- the bytes of the lines of all groups
abbrev pub groups_text : List Clock → List Pair → List ℕ
groups_text clocks pairs = lines_text (group_lines clocks pairs 0 clocks)

-- the names of the second clocks of pairs, in a list
abbrev pub second_names : List Clock → List Pair → List ℕ
second_names clocks pairs = spaced (names_at clocks (seconds pairs))
