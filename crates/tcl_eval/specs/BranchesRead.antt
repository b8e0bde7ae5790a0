-- What the words of an `if` say after those that were read. This project's own: the reader keeps the branches so far,
-- and what comes next; after the last body nothing does.
use Rattle.std.specs.Prelude.{◌≡◌, ◌++◌, ℕ, List, ◌∷◌, Option, Some, None}
use Rattle.std.specs.Option.{option_map}
use Rattle.source_types.specs.declared.built_ins.Branch.{Branch}
use Rattle.source_types.specs.declared.built_ins.Branches.{Branches}
use Rattle.tcl_model.specs.Branches as spec
use Rattle.tcl_eval.specs.declared.commands.branches.Expects.{Expects}
use Rattle.tcl_eval.specs.declared.commands.branches.Expects.TheVariants as expects

-- branches before others
abbrev pub in_front : List Branch → Branches → Branches
in_front read others = record { branches = read ++ others.branches; otherwise = others.otherwise }

-- what words say where something comes next
abbrev pub said_from : Expects → List (List ℕ) → Option Branches
said_from expects.Condition words = spec.branches_from spec.condition_next words
said_from (expects.Then condition) words = spec.branches_from (spec.then_next condition) words
said_from (expects.Body condition) words = spec.branches_from (spec.body_next condition) words
said_from expects.After words = spec.branches_from spec.branch_after words
said_from expects.Last words = spec.branches_from spec.last_body words
said_from (expects.Nothing body) words = spec.ends_with body words

-- what words say after branches that were read
abbrev pub said_after : List Branch → Expects → List (List ℕ) → Option Branches
said_after read next words = option_map (in_front read) (said_from next words)

-- after one more word, the rest says what it says with the word
abbrev pub Steps : List Branch → Expects → List ℕ → Option Expects → List Branch → Type 0
Steps old next word None new = (words : List (List ℕ)) → said_after old next (word ∷ words) ≡ None
Steps old next word (Some then) new = (words : List (List ℕ)) → said_after old next (word ∷ words) ≡ said_after new then words
