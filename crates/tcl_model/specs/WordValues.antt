-- What the words of a command stand for where it is run (Tcl). A variable gives its value, a bracket what its script
-- gives. A word that is exactly one substitution has the value of that one; any other is the text of its parts.
-- It reads: the words from left to right, and in each its parts; the first fault ends it. Scripts are run at the level
-- within, by `Opens`: the number of parentheses of an expression that stand around, and what is opened.
use Rattle.std.specs.Prelude.{◌++◌, ℕ, List, [], ◌∷◌, Ok}
use Rattle.source_types.specs.declared.commands.Part.{Part}
use Rattle.source_types.specs.declared.commands.Part.TheVariants as part
use Rattle.source_types.specs.declared.commands.Word.{Word}
use Rattle.timing_types.specs.declared.objects.Value.{Value}
use Rattle.timing_types.specs.declared.objects.Value.TheVariants as value
use Rattle.tcl_model.specs.ExpressionRun.{RunStep}
use Rattle.tcl_model.specs.HostCalls.{AsText, Host, World}
use Rattle.tcl_model.specs.RunSteps.{Answers, Then, tcl_outcome}
use Rattle.tcl_model.specs.Variables.{variable_value}

-- what opens a level: a bracket, or a body
pub data Opened : Type 0 where
  in_bracket : List ℕ → Opened
  in_body : List ℕ → Opened

-- a level of a run: its host, the line of the outermost command, how many levels are left to be opened, and what is
-- given by what is opened inside so many parentheses
pub record Level (State : Type 0) : Type 1 where
  pub host : Host State
  pub line : ℕ
  pub left : ℕ
  pub Opens : ℕ → Opened → RunStep (World State) Value

-- a part inside so many parentheses
abbrev pub RunsPart : {State : Type 0} → Level State → ℕ → Part → RunStep (World State) Value
RunsPart level inside (part.Text text) before given after = Answers (Ok (value.Text text)) before given after
RunsPart level inside (part.Variable name) before given after =
    Answers (tcl_outcome (variable_value before.variables name)) before given after
RunsPart level inside (part.Script script) before given after = level.Opens inside (in_bracket script) before given after

-- the texts of parts, joined
abbrev pub RunsParts : {State : Type 0} → Level State → ℕ → List Part → RunStep (World State) (List ℕ)
RunsParts level inside [] before given after = Answers (Ok []) before given after
RunsParts level inside (first ∷ parts) before given after =
    Then (AsText level.host (RunsPart level inside first))
    (λ text. Then (RunsParts level inside parts) (λ others. Answers (Ok (text ++ others)))) before given after

-- parts that are one text
abbrev pub RunsJoined : {State : Type 0} → Level State → ℕ → List Part → RunStep (World State) Value
RunsJoined level inside parts = Then (RunsParts level inside parts) (λ text. Answers (Ok (value.Text text)))

-- a word of these parts inside so many parentheses
abbrev pub RunsWord : {State : Type 0} → Level State → ℕ → List Part → RunStep (World State) Value
RunsWord level inside [] = RunsJoined level inside []
RunsWord level inside (only ∷ []) = RunsPart level inside only
RunsWord level inside (first ∷ second ∷ parts) = RunsJoined level inside (first ∷ second ∷ parts)

-- the words of a command
abbrev pub RunsWords : {State : Type 0} → Level State → List Word → RunStep (World State) (List Value)
RunsWords level [] before given after = Answers (Ok []) before given after
RunsWords level (word ∷ words) before given after =
    Then (RunsWord level 0 word.parts)
    (λ first. Then (RunsWords level words) (λ others. Answers (Ok (first ∷ others)))) before given after
