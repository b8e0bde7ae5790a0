-- What the lines of groups do: each finds the places of its clocks by their names. And their words.
use Rattle.std.proofs.Common.{◌≡◌, ◌<◌, ◌≤◌, ◌+◌, ℕ, suc, List, [], ◌∷◌, ◌++◌, length, length-append, map, codes, Ok, Some, refl, sym, ◌∙◌, ap, subst, arith, append_assoc, append-nil, lit<, false, nat_eq}
use Rattle.std.proofs.lemmas.Bool.Decides.{nat_tests}
use Rattle.std.specs.Option.{option_map}
use Rattle.source_types.specs.declared.built_ins.CommandName.TheVariants as command
use Rattle.timing_types.specs.declared.clocks.Clock.{Clock}
use Rattle.timing_types.specs.declared.clocks.Pair.{Pair}
use Rattle.source_types.specs.declared.commands.Word.{Word}
use Rattle.timing_types.specs.declared.objects.Value.{Value}
use Rattle.timing_types.specs.declared.objects.Value.TheVariants as value
use Rattle.tcl_model.specs.BuiltIns.{no_text}
use Rattle.mode_model.specs.ClockCommands.{groups_placed, in_order, with_effect}
use Rattle.mode_model.specs.ClockFile.{SoFar}
use Rattle.mode_model.specs.ClockGroups.{clock_places, places_of}
use Rattle.tcl_model.specs.HostCalls.{World}
use Rattle.mode_model.specs.ModeHost.{adds_groups, answer, mode_host}
use Rattle.tcl_model.specs.NamedCommands.{named}
use Rattle.constraint_model.specs.ModeLines.{without_line}
use Rattle.mode_model.specs.PrintedCommands.{word_of}
use Rattle.constraint_model.specs.ExclusivePairs.{ArePairs}
use Rattle.mode_model.specs.PrintedFile.{ArePrintableClocks, clocks_word, exclusive_to, group_line, group_lines, lines_of_group, names_at}
use Rattle.mode_model.specs.PrintedLine.{bare}
use Rattle.tcl_model.specs.ScriptRun.{most_commands, outermost}
use Rattle.tcl_model.specs.Variables.{Variable}
use Rattle.tcl_model.specs.WordValues.{RunsWords}
use Rattle.sdc_print.proofs.ClockLines.{Said, count_same}
use Rattle.sdc_print.proofs.FileText.{AreFineLines, AreItems, IsItem, bare_spelled, items_braced, query_spelled, spelled_append}
use Rattle.sdc_print.proofs.GroupPairs.{exclusive_within, others_rise, said_by, said_from}
use Rattle.sdc_print.proofs.LineRuns.{Goes, RunsLine, call_runs, command_runs, goes_line, goes_none, goes_on, word_runs, world}
use Rattle.sdc_print.proofs.NamePlaces.{NameAt, NamesAt, name_here, names_are_at, no_names, objects_at, one_more_name, places_same, rising_in_order}
use Rattle.sdc_print.proofs.PrintedFacts.{name_item}
use Rattle.sdc_print.proofs.QueryRuns.{query_gives}

-- ---- one line

-- places in order, one at least, that names have among the clocks so far
record AreFound (clocks : List Clock) (places : List ℕ) (names : List (List ℕ)) : Type 0 where
  texts : AreItems names
  found : places_of clocks names ≡ Some places
  within : clock_places (length clocks) (objects_at places) ≡ Some places
  ordered : in_order places ≡ places
  some : 0 < length places

-- the values of the words after the name of the command, and what the command makes of them
abbrev group_values : List ℕ → List ℕ → List Value
group_values first second =
    value.Text (codes "-asynchronous") ∷ value.Text (codes "-group") ∷ value.Objects (objects_at first)
    ∷ value.Text (codes "-group") ∷ value.Objects (objects_at second) ∷ []

abbrev with_group : SoFar → List ℕ → List ℕ → SoFar
with_group start first second = record start { groups = start.groups ++ (first ∷ second ∷ []) ∷ [] }

group_other : named (codes "set_clock_groups") ≡ command.Other
unfolding named
group_other = refl

answer_is : (start : SoFar) (line : ℕ) (first second : List ℕ)
    → answer start line (codes "set_clock_groups") (group_values first second)
    ≡ adds_groups start (option_map with_effect (groups_placed start.clocks (value.Objects (objects_at first) ∷ value.Objects (objects_at second) ∷ [])))
answer_is start line first second = refl

group_answer : (start : SoFar) (line : ℕ) (first second : List ℕ)
    → clock_places (length start.clocks) (objects_at first) ≡ Some first → clock_places (length start.clocks) (objects_at second) ≡ Some second → 0 < length first → 0 < length second
    → answer start line (codes "set_clock_groups") (group_values first second) ≡ Ok (no_text, with_group start first second)
group_answer start line first second f s some more =
    let one : nat_eq (length first) 0 ≡ false = grind (arith, nat_tests) in
    let other : nat_eq (length second) 0 ≡ false = grind (arith, nat_tests) in
    answer_is start line first second ∙ rw (f, s, one, other) refl

group_words_run : (start : SoFar) (line : ℕ) (variables : List Variable) (begun : ℕ) (name : List ℕ) (names : List (List ℕ)) (first second : List ℕ)
    → begun + 2 ≤ most_commands → AreFound start.clocks first (name ∷ []) → AreFound start.clocks second names
    → RunsWords (outermost mode_host line) (map word_of (group_line name names)) (world variables start begun) (Ok (value.Text (codes "set_clock_groups") ∷ group_values first second)) (world variables start (begun + 1 + 1))
unfolding group_line
group_words_run start line variables begun name names first second few f s =
    let begin : World SoFar = world variables start begun in
    let between : World SoFar = world variables start (begun + 1) in
    let end : World SoFar = world variables start (begun + 1 + 1) in
    let one : Word = word_of (clocks_word (name ∷ [])) in
    let other : Word = word_of (clocks_word names) in
    let option : Word = word_of (bare (codes "-group")) in
    let last = word_runs (outermost mode_host line) other [] (value.Objects (objects_at second)) [] between end end
    (query_gives start line variables (begun + 1) names second (omega arith) s.texts s.found s.ordered) (refl, refl) in
    let after = word_runs (outermost mode_host line) option (other ∷ []) (value.Text (codes "-group")) (value.Objects (objects_at second) ∷ []) between between end (refl, refl) last in
    let queried = word_runs (outermost mode_host line) one (option ∷ other ∷ []) (value.Objects (objects_at first)) (value.Text (codes "-group") ∷ value.Objects (objects_at second) ∷ []) begin between end
    (query_gives start line variables begun (name ∷ []) first (omega arith) f.texts f.found f.ordered) after in
    let grouped = word_runs (outermost mode_host line) option (one ∷ option ∷ other ∷ []) (value.Text (codes "-group"))
    (value.Objects (objects_at first) ∷ value.Text (codes "-group") ∷ value.Objects (objects_at second) ∷ []) begin begin end (refl, refl) queried in
    let kind = word_runs (outermost mode_host line) (word_of (bare (codes "-asynchronous"))) (option ∷ one ∷ option ∷ other ∷ []) (value.Text (codes "-asynchronous"))
    (value.Text (codes "-group") ∷ value.Objects (objects_at first) ∷ value.Text (codes "-group") ∷ value.Objects (objects_at second) ∷ []) begin begin end (refl, refl) grouped in
    word_runs (outermost mode_host line) (word_of (bare (codes "set_clock_groups"))) (word_of (bare (codes "-asynchronous")) ∷ option ∷ one ∷ option ∷ other ∷ []) (value.Text (codes "set_clock_groups"))
    (group_values first second) begin begin end (refl, refl) kind

group_runs : (start : SoFar) (line : ℕ) (name : List ℕ) (names : List (List ℕ)) (first second : List ℕ)
    → AreFound start.clocks first (name ∷ []) → AreFound start.clocks second names → RunsLine start line (group_line name names) (with_group start first second)
group_runs start line name names first second f s variables begun few =
    let run = command_runs (outermost mode_host line) line (map word_of (group_line name names)) (value.Text (codes "set_clock_groups") ∷ group_values first second) variables start begun
    (world variables start (begun + 1 + 1 + 1)) no_text (world variables (with_group start first second) (begun + 1 + 1 + 1)) (omega arith)
    (group_words_run start line variables (begun + 1) name names first second (omega arith) f s)
    (call_runs line (outermost mode_host line).left (outermost mode_host line).Opens (codes "set_clock_groups") (group_values first second) variables start (with_group start first second) (begun + 1 + 1 + 1) no_text group_other
    (group_answer start line first second f.within s.within f.some s.some)) in
    (no_text, variables, begun + 1 + 1 + 1, omega arith, run)

-- ---- the lines of groups

-- what names have among all clocks they have among the clocks so far
found_so_far : (all clocks : List Clock) (places : List ℕ) (names : List (List ℕ)) → map without_line clocks ≡ map without_line all → NamesAt all places names → in_order places ≡ places → 0 < length places → AreFound clocks places names
found_so_far all clocks places names e n ordered some = record {
  texts = n.texts;
  found = places_same clocks all names e ∙ n.found;
  within = ap (λ (count : ℕ). clock_places count (objects_at places)) (count_same clocks all e) ∙ n.within;
  ordered = ordered;
  some = some;
}

group_goes : (all : List Clock) (done : List (List (List ℕ))) (start : SoFar) (place : ℕ) (places : List ℕ) (name : List ℕ) (names : List (List ℕ))
    → NameAt all place name → NamesAt all places names → in_order places ≡ places → 0 < length places → Said all done start
    → Goes start (group_line name names ∷ []) (Said all (done ++ ((place ∷ []) ∷ places ∷ []) ∷ []))
group_goes all done start place places name names n ns ordered some said =
    let one : NamesAt all (place ∷ []) (name ∷ []) = one_more_name all place [] name [] n (no_names all) in
    let group : List (List ℕ) = (place ∷ []) ∷ places ∷ [] in
    goes_line start (group_line name names) (Said all (done ++ group ∷ [])) (λ line. (
      with_group start (place ∷ []) places,
      record { clocks = said.clocks; groups = ap (λ (gs : List (List (List ℕ))). gs ++ group ∷ []) said.groups },
      group_runs start line name names (place ∷ []) places (found_so_far all start.clocks (place ∷ []) (name ∷ []) said.clocks one refl (omega arith))
          (found_so_far all start.clocks places names said.clocks ns ordered some),
    ))

line_goes : (all : List Clock) (done : List (List (List ℕ))) (start : SoFar) (place : ℕ) (places : List ℕ) (name : List ℕ)
    → NameAt all place name → NamesAt all places (names_at all places) → in_order places ≡ places → Said all done start
    → Goes start (lines_of_group name (names_at all places)) (Said all (done ++ said_by place places))
line_goes all done start place [] name n ns ordered said = goes_none start (Said all (done ++ [])) (subst (λ (gs : List (List (List ℕ))). Said all gs start) (sym (append-nil done)) said)
line_goes all done start place (other ∷ others) name n ns ordered said = group_goes all done start place (other ∷ others) name (names_at all (other ∷ others)) n ns ordered (omega arith) said

others_here : (all : List Clock) (pairs : List Pair) (place : ℕ) → ArePrintableClocks [] all → ArePairs (length all) pairs → NamesAt all (exclusive_to place pairs) (names_at all (exclusive_to place pairs))
others_here all pairs place whole o = names_are_at all place (exclusive_to place pairs) whole (exclusive_within (length all) place pairs o)

others_in_order : (count place : ℕ) (pairs : List Pair) → ArePairs count pairs → in_order (exclusive_to place pairs) ≡ exclusive_to place pairs
others_in_order count place pairs o = rising_in_order (suc place) count (exclusive_to place pairs) (others_rise count place pairs o)

next_place : (before : List Clock) (clock : Clock) (place : ℕ) → place ≡ length before → suc place ≡ length (before ++ clock ∷ [])
next_place before clock place e = omega (arith, length-append before (clock ∷ []))

-- the lines from a place on
pub group_lines_go : (all before clocks : List Clock) (pairs : List Pair) (place : ℕ) (done : List (List (List ℕ))) (start : SoFar) → ArePrintableClocks [] all → ArePrintableClocks before clocks → ArePairs (length all) pairs
    → all ≡ before ++ clocks → place ≡ length before → Said all done start → Goes start (group_lines all pairs place clocks) (Said all (done ++ said_from pairs place clocks))
group_lines_go all before [] pairs place done start whole a o e l said = goes_none start (Said all (done ++ [])) (subst (λ (gs : List (List (List ℕ))). Said all gs start) (sym (append-nil done)) said)
group_lines_go all before (clock ∷ clocks) pairs place done start whole a o e l said =
    let others = exclusive_to place pairs in
    let here : List (List (List ℕ)) = said_by place others in
    let later : List (List (List ℕ)) = said_from pairs (suc place) clocks in
    goes_on start (lines_of_group clock.name (names_at all others)) (group_lines all pairs (suc place) clocks) (Said all (done ++ here)) (Said all (done ++ (here ++ later)))
    (line_goes all done start place others clock.name (name_here all before clocks clock place a e l) (others_here all pairs place whole o) (others_in_order (length all) place pairs o) said)
    (λ now next. subst (λ (gs : List (List (List ℕ))). Goes now (group_lines all pairs (suc place) clocks) (Said all gs)) (append_assoc done here later)
    (group_lines_go all (before ++ clock ∷ []) clocks pairs (suc place) (done ++ here) now whole a.2 o (e ∙ sym (append_assoc before (clock ∷ []) clocks)) (next_place before clock place l) next))

-- ---- their words

group_line_spelled : (name : List ℕ) (names : List (List ℕ)) → IsItem name → AreItems names → AreFineLines (group_line name names ∷ [])
unfolding group_line
group_line_spelled name names n ns = (
  lit< tt,
  (
    bare_spelled (codes "set_clock_groups") (lit< tt) refl,
    (
      bare_spelled (codes "-asynchronous") (lit< tt) refl,
      (
        bare_spelled (codes "-group") (lit< tt) refl,
        (
          query_spelled (name ∷ []) (items_braced (name ∷ []) (n, tt)),
          (
            bare_spelled (codes "-group") (lit< tt) refl,
            (query_spelled names (items_braced names ns), tt),
          ),
        ),
      ),
    ),
  ),
  tt,
)

line_spelled : (name : List ℕ) (names : List (List ℕ)) → IsItem name → AreItems names → AreFineLines (lines_of_group name names)
line_spelled name [] n ns = tt
line_spelled name (other ∷ others) n ns = group_line_spelled name (other ∷ others) n ns

pub groups_spelled : (all before clocks : List Clock) (pairs : List Pair) (place : ℕ) → ArePrintableClocks [] all → ArePrintableClocks before clocks → ArePairs (length all) pairs → AreFineLines (group_lines all pairs place clocks)
groups_spelled all before [] pairs place whole a o = tt
groups_spelled all before (clock ∷ clocks) pairs place whole a o =
    let names = names_at all (exclusive_to place pairs) in
    spelled_append (lines_of_group clock.name names) (group_lines all pairs (suc place) clocks)
    (line_spelled clock.name names (name_item clock.name a.0.3) (others_here all pairs place whole o).texts)
    (groups_spelled all (before ++ clock ∷ []) clocks pairs (suc place) whole a.2 o)
