-- What every answer of a host keeps, a run over it keeps: by the steps of a run, from the parts of words up.
use Rattle.std.proofs.Common.{◌≡◌, inl, inr, ℕ, zero, suc, Bool, true, false, List, [], ◌∷◌, map, Option, Some, None, Result, Ok, Err, sym, subst}
use Rattle.sdc_base.specs.declared.memory.At.{At}
use Rattle.source_types.specs.declared.built_ins.Branch.{Branch}
use Rattle.source_types.specs.declared.built_ins.Branches.{Branches}
use Rattle.source_types.specs.declared.built_ins.CommandName.{CommandName}
use Rattle.source_types.specs.declared.built_ins.CommandName.TheVariants as command
use Rattle.source_types.specs.declared.commands.Command.{Command}
use Rattle.source_types.specs.declared.commands.Part.{Part}
use Rattle.source_types.specs.declared.commands.Part.TheVariants as part
use Rattle.source_types.specs.declared.commands.Word.{Word}
use Rattle.source_types.specs.declared.expressions.BinaryOperator.{BinaryOperator}
use Rattle.source_types.specs.declared.expressions.Scalar.{Scalar}
use Rattle.source_types.specs.declared.kinds.Kind.{Kind}
use Rattle.source_types.specs.declared.kinds.TclKind.{TclKind}
use Rattle.timing_types.specs.declared.objects.Value.{Value}
use Rattle.timing_types.specs.declared.objects.Value.TheVariants as value
use Rattle.tcl_model.specs.Branches.{branches_of}
use Rattle.tcl_model.specs.BuiltIns.{HasItems}
use Rattle.text_model.specs.Bytes.{is_index}
use Rattle.tcl_model.specs.Commands.{Place}
use Rattle.tcl_model.specs.ExpressionForm.{Tree, binary, number, parentheses, unary, word}
use Rattle.tcl_model.specs.ExpressionRun.{Evaluates, GoesOn, RunsExpression, RunsRight, RunsTree, RunStep}
use Rattle.tcl_model.specs.ExpressionValue.{decided}
use Rattle.tcl_model.specs.HostCalls.{Answered, AsText, Calls, Host, SetsTo, World, text_in}
use Rattle.tcl_model.specs.NamedCommands.{Chooses, EvaluatesText, Holds, ReadsWord, Repeats, RunsEach, RunsFirst, RunsNamed, RunsOtherwise, RunsValues, Sets, named, spaced}
use Rattle.tcl_model.specs.ScriptRun.{Enters, GoesOnAfter, Runs, RunsBracket, RunsCommand, RunsCommands, RunsOpened, RunsText, RunsWithin, Outcome, most_levels, one_more, outermost}
use Rattle.tcl_model.specs.RunSteps.{Answers, Chosen, Looks, OnWith, Then}
use Rattle.tcl_model.specs.WordValues.{Level, Opened, RunsJoined, RunsPart, RunsParts, RunsWord, RunsWords, in_body, in_bracket}

-- a step keeps a fact about the host
abbrev pub Keeps : {S A : Type 0} → (S → Type 0) → RunStep (World S) A → Type 0
Keeps {S = S} {A = A} K Does = (before : World S) (given : Result A Kind) (after : World S) → Does before given after → K before.host → K after.host

-- every answer of a host does
abbrev pub HostKeeps : {S : Type 0} → (S → Type 0) → Host S → Type 0
HostKeeps {S = S} K host =
    (line : ℕ) (name : List ℕ) (words : List Value) (before : S) (given : Result Value Kind) (after : S)
    → Answered (host.Answers line name words) before given after → K before → K after

-- a level does
record LevelKeeps {S : Type 0} (K : S → Type 0) (level : Level S) : Type 0 where
  host : HostKeeps K level.host
  opens : (inside : ℕ) (opened : Opened) → Keeps K (level.Opens inside opened)

-- ---- steps

stays : {S : Type 0} (K : S → Type 0) (before after : World S) → after ≡ before → K before.host → K after.host
stays {S = S} K before after same k = subst (λ (w : World S). K w.host) (sym same) k

answers_keep : {S A : Type 0} (K : S → Type 0) (outcome : Result A Kind) → Keeps K (Answers outcome)
answers_keep K outcome before given after t k = stays K before after t.1 k

with_keep : {S A B : Type 0} (K : S → Type 0) (Next : A → RunStep (World S) B) → ((a : A) → Keeps K (Next a)) → (outcome : Result A Kind) → Keeps K (OnWith Next outcome)
with_keep K Next n (Ok a) before given after t k = n a before given after t k
with_keep K Next n (Err fault) before given after t k = stays K before after t.1 k

then_keep : {S A B : Type 0} (K : S → Type 0) (First : RunStep (World S) A) (Next : A → RunStep (World S) B) → Keeps K First → ((a : A) → Keeps K (Next a)) → Keeps K (Then First Next)
then_keep K First Next f n before given after t k = with_keep K Next n t.0 t.1 given after t.3 (f before t.0 t.1 t.2 k)

chosen_keep : {S A : Type 0} (K : S → Type 0) (First Other : RunStep (World S) A) → Keeps K First → Keeps K Other → (test : Bool) → Keeps K (Chosen test First Other)
chosen_keep K First Other f o true before given after t k = f before given after t k
chosen_keep K First Other f o false before given after t k = o before given after t k

looks_keep : {S A : Type 0} (K : S → Type 0) (Rule : Result A TclKind → Type 0) → Keeps K (Looks Rule)
looks_keep K Rule before given after t k = stays K before after t.2.1 k

text_keep : {S : Type 0} (K : S → Type 0) (host : Host S) (Gives : RunStep (World S) Value) → Keeps K Gives → Keeps K (AsText host Gives)
text_keep K host Gives g before given after t k = g before t.0 after t.1 k

sets_keep : {S : Type 0} (K : S → Type 0) (name : List ℕ) (new : Value) → Keeps K (SetsTo name new)
sets_keep {S = S} K name new before given after t k = subst (λ (w : World S). K w.host) (sym t.1) k

calls_keep : {S : Type 0} (K : S → Type 0) (host : Host S) (h : HostKeeps K host) (line : ℕ) (name : List ℕ) (words : List Value) → Keeps K (Calls host line name words)
calls_keep K host h line name words before given after t k = h line name words before.host given after.host t.0 k

-- ---- words

part_keep : {S : Type 0} (K : S → Type 0) (level : Level S) → LevelKeeps K level → (inside : ℕ) (one : Part) → Keeps K (RunsPart level inside one)
part_keep K level l inside (part.Text text) before given after t k = stays K before after t.1 k
part_keep K level l inside (part.Variable name) before given after t k = stays K before after t.1 k
part_keep K level l inside (part.Script script) before given after t k = l.opens inside (in_bracket script) before given after t k

parts_keep : {S : Type 0} (K : S → Type 0) (level : Level S) → LevelKeeps K level → (inside : ℕ) (parts : List Part) → Keeps K (RunsParts level inside parts)
parts_keep K level l inside [] before given after t k = stays K before after t.1 k
parts_keep K level l inside (first ∷ parts) before given after t k =
    then_keep K _ _ (text_keep K level.host _ (part_keep K level l inside first))
    (λ text. then_keep K _ _ (parts_keep K level l inside parts) (λ others. answers_keep K _)) before given after t k

joined_keep : {S : Type 0} (K : S → Type 0) (level : Level S) → LevelKeeps K level → (inside : ℕ) (parts : List Part) → Keeps K (RunsJoined level inside parts)
joined_keep K level l inside parts = then_keep K _ _ (parts_keep K level l inside parts) (λ text. answers_keep K _)

word_keep : {S : Type 0} (K : S → Type 0) (level : Level S) → LevelKeeps K level → (inside : ℕ) (parts : List Part) → Keeps K (RunsWord level inside parts)
word_keep K level l inside [] = joined_keep K level l inside []
word_keep K level l inside (only ∷ []) = part_keep K level l inside only
word_keep K level l inside (first ∷ second ∷ parts) = joined_keep K level l inside (first ∷ second ∷ parts)

words_keep : {S : Type 0} (K : S → Type 0) (level : Level S) → LevelKeeps K level → (words : List Word) → Keeps K (RunsWords level words)
words_keep K level l [] before given after t k = stays K before after t.1 k
words_keep K level l (first ∷ words) before given after t k =
    then_keep K _ _ (word_keep K level l 0 first.parts)
    (λ one. then_keep K _ _ (words_keep K level l words) (λ others. answers_keep K _)) before given after t k

-- ---- expressions

right_keep : {S : Type 0} (K : S → Type 0) (Right : RunStep (World S) Scalar) → Keeps K Right → (op : BinaryOperator) (left : Scalar) (outcome : Option (Result Scalar TclKind)) → Keeps K (RunsRight Right op left outcome)
right_keep K Right r op left (Some outcome) before given after t k = stays K before after t.1 k
right_keep K Right r op left None before given after t k = r before t.0 after t.1 k

goes_on_keep : {S : Type 0} (K : S → Type 0) (Right : RunStep (World S) Scalar) → Keeps K Right → (op : BinaryOperator) (left : Result Scalar Kind) → Keeps K (GoesOn Right op left)
goes_on_keep K Right r op (Ok left) before given after t k = right_keep K Right r op left (decided op left) before given after t k
goes_on_keep K Right r op (Err fault) before given after t k = stays K before after t.1 k

tree_keep : {S : Type 0} (K : S → Type 0) (Reads : ℕ → Word → RunStep (World S) (List ℕ)) → ((inside : ℕ) (w : Word) → Keeps K (Reads inside w))
    → (inside : ℕ) (tree : Tree) → Keeps K (Evaluates Reads inside tree)
tree_keep K Reads r inside (number n) before given after t k = stays K before after t.1 k
tree_keep K Reads r inside (word w) before given after t k = r inside w before t.0 after t.1 k
tree_keep K Reads r inside (parentheses tree) before given after t k = tree_keep K Reads r (suc inside) tree before given after t k
tree_keep K Reads r inside (unary op tree) before given after t k = tree_keep K Reads r inside tree before t.0 after t.1 k
tree_keep K Reads r inside (binary op left right) before given after t k =
    goes_on_keep K _ (tree_keep K Reads r inside right) op t.0 t.1 given after t.3 (tree_keep K Reads r inside left before t.0 t.1 t.2 k)

run_tree_keep : {S : Type 0} (K : S → Type 0) (Reads : ℕ → Word → RunStep (World S) (List ℕ)) → ((inside : ℕ) (w : Word) → Keeps K (Reads inside w))
    → (left : ℕ) (tree : Tree) → Keeps K (RunsTree Reads left tree)
run_tree_keep K Reads r left tree before given after (inl t) k = tree_keep K Reads r 0 tree before given after t.1 k
run_tree_keep K Reads r left tree before given after (inr t) k = stays K before after t.2 k

expression_keep : {S : Type 0} (K : S → Type 0) (Reads : ℕ → Word → RunStep (World S) (List ℕ)) → ((inside : ℕ) (w : Word) → Keeps K (Reads inside w))
    → (left : ℕ) (text : List ℕ) → Keeps K (RunsExpression Reads left text)
expression_keep K Reads r left text before given after (inl t) k = run_tree_keep K Reads r left t.0 before given after t.2 k
expression_keep K Reads r left text before given after (inr t) k = stays K before after t.2 k

evaluates_keep : {S : Type 0} (K : S → Type 0) (level : Level S) → LevelKeeps K level → (text : List ℕ) → Keeps K (EvaluatesText level text)
evaluates_keep K level l text =
    expression_keep K (ReadsWord level) (λ inside w. text_keep K level.host _ (word_keep K level l inside w.parts)) level.left text

-- ---- commands that are built in

set_keep : {S : Type 0} (K : S → Type 0) (host : Host S) (words : List Value) → Keeps K (Sets host words)
set_keep K host [] before given after t k = stays K before after t.1 k
set_keep K host (name ∷ []) before given after t k = stays K before after t.1 k
set_keep K host (name ∷ new ∷ []) before given after t k = sets_keep K (text_in host before.host name) new before given after t k
set_keep K host (name ∷ new ∷ third ∷ others) before given after t k = stays K before after t.1 k

each_keep : {S : Type 0} (K : S → Type 0) (level : Level S) → LevelKeeps K level → (name body : List ℕ) (items : List Value) → Keeps K (RunsEach level name body items)
each_keep K level l name body [] before given after t k = stays K before after t.1 k
each_keep K level l name body (item ∷ items) before given after t k =
    then_keep K _ _ (sets_keep K name item)
    (λ new. then_keep K _ _ (l.opens 0 (in_body body)) (λ last. each_keep K level l name body items)) before given after t k

foreach_keep : {S : Type 0} (K : S → Type 0) (level : Level S) → LevelKeeps K level → (words : List Value) → Keeps K (Repeats level words)
foreach_keep K level l [] before given after t k = stays K before after t.1 k
foreach_keep K level l (name ∷ []) before given after t k = stays K before after t.1 k
foreach_keep K level l (name ∷ list ∷ []) before given after t k = stays K before after t.1 k
foreach_keep K level l (name ∷ list ∷ body ∷ []) before given after t k =
    then_keep K _ _ (looks_keep K (HasItems list))
    (each_keep K level l (text_in level.host before.host name) (text_in level.host before.host body)) before given after t k
foreach_keep K level l (name ∷ list ∷ body ∷ fourth ∷ others) before given after t k = stays K before after t.1 k

otherwise_keep : {S : Type 0} (K : S → Type 0) (level : Level S) → LevelKeeps K level → (body : Option (List ℕ)) → Keeps K (RunsOtherwise level body)
otherwise_keep K level l None before given after t k = stays K before after t.1 k
otherwise_keep K level l (Some body) before given after t k = l.opens 0 (in_body body) before given after t k

holds_keep : {S : Type 0} (K : S → Type 0) (level : Level S) → LevelKeeps K level → (condition : List ℕ) → Keeps K (Holds level condition)
holds_keep K level l condition = then_keep K _ _ (evaluates_keep K level l condition) (λ result. answers_keep K _)

first_keep : {S : Type 0} (K : S → Type 0) (level : Level S) → LevelKeeps K level → (branches : List Branch) (otherwise : Option (List ℕ)) → Keeps K (RunsFirst level branches otherwise)
first_keep K level l [] otherwise before given after t k = otherwise_keep K level l otherwise before given after t k
first_keep K level l (branch ∷ branches) otherwise before given after t k =
    then_keep K _ _ (holds_keep K level l branch.condition)
    (chosen_keep K _ _ (l.opens 0 (in_body branch.body)) (first_keep K level l branches otherwise)) before given after t k

if_keep : {S : Type 0} (K : S → Type 0) (level : Level S) → LevelKeeps K level → (said : Option Branches) → Keeps K (Chooses level said)
if_keep K level l None before given after t k = stays K before after t.1 k
if_keep K level l (Some said) before given after t k = first_keep K level l said.branches said.otherwise before given after t k

-- ---- commands

named_keep : {S : Type 0} (K : S → Type 0) (level : Level S) → LevelKeeps K level → (which : CommandName) (name : List ℕ) (words : List Value) → Keeps K (RunsNamed level which name words)
named_keep K level l command.Set name words before given after t k = set_keep K level.host words before given after t k
named_keep K level l command.List name words before given after t k = stays K before after t.1 k
named_keep K level l command.Concat name words before given after t k = stays K before after t.2.1 k
named_keep K level l command.Lindex name words before given after t k = stays K before after t.2.1 k
named_keep K level l command.Llength name words before given after t k = stays K before after t.2.1 k
named_keep K level l command.Expr name words before given after t k =
    then_keep K _ _ (evaluates_keep K level l (spaced (map (text_in level.host before.host) words))) (λ result. answers_keep K _) before given after t k
named_keep K level l command.Foreach name words before given after t k = foreach_keep K level l words before given after t k
named_keep K level l command.If name words before given after t k =
    if_keep K level l (branches_of (map (text_in level.host before.host) words)) before given after t k
named_keep K level l command.Other name words before given after t k = calls_keep K level.host l.host level.line name words before given after t k

values_keep : {S : Type 0} (K : S → Type 0) (level : Level S) → LevelKeeps K level → (words : List Value) → Keeps K (RunsValues level words)
values_keep K level l [] before given after t k = stays K before after t.1 k
values_keep K level l (first ∷ words) before given after t k =
    named_keep K level l (named (text_in level.host before.host first)) (text_in level.host before.host first) words before given after t k

command_keep : {S : Type 0} (K : S → Type 0) (level : Level S) → LevelKeeps K level → (one : Command) → Keeps K (RunsCommand level one)
command_keep K level l one before given after (inl t) k =
    then_keep K _ _ (words_keep K level l one.words) (values_keep K level l) (one_more before) given after t.1 k
command_keep K level l one before given after (inr t) k = stays K before after t.1.1 k

-- ---- texts

after_keep : {S : Type 0} (K : S → Type 0) (Next : Value → World S → Outcome → World S → Type 0)
    → ((last : Value) (before : World S) (told : Outcome) (after : World S) → Next last before told after → K before.host → K after.host)
    → (one : Command) (others : List Command) (outcome : Result Value Kind) (between : World S) (told : Outcome) (after : World S)
    → GoesOnAfter Next one others outcome between told after → K between.host → K after.host
after_keep K Next n one others (Ok last) between told after t k = n last between told after t k
after_keep K Next n one others (Err kind) between told after t k = stays K between after t.2 k

commands_keep : {S : Type 0} (K : S → Type 0) (Does : Command → RunStep (World S) Value) → ((one : Command) → Keeps K (Does one))
    → (commands : List Command) (place : Place) (last : Value) (before : World S) (told : Outcome) (after : World S)
    → RunsCommands Does commands place last before told after → K before.host → K after.host
commands_keep K Does d [] place last before told after t k = stays K before after t.3 k
commands_keep K Does d (one ∷ commands) place last before told after t k =
    after_keep K (RunsCommands Does commands t.0) (λ value. commands_keep K Does d commands t.0 value) one commands t.2.0 t.2.1 told after t.2.3
    (d one before t.2.0 t.2.1 t.2.2 k)

text_run_keep : {S : Type 0} (K : S → Type 0) (Does : Command → RunStep (World S) Value) → ((one : Command) → Keeps K (Does one))
    → (text : List ℕ) (before : World S) (told : Outcome) (after : World S) → RunsText Does text before told after → K before.host → K after.host
text_run_keep K Does d text before told after t k = commands_keep K Does d t.0 (record { text = text; line = 1 }) (value.Text []) before told after t.1 k

-- ---- levels

within_keep : {S : Type 0} (K : S → Type 0) (level : Level S) → LevelKeeps K level → (script : List ℕ) → Keeps K (RunsWithin level script)
within_keep K level l script before given after t k = text_run_keep K (RunsCommand level) (command_keep K level l) script before t.0 after t.1 k

bracket_keep : {S : Type 0} (K : S → Type 0) (level : Level S) → LevelKeeps K level → (script : List ℕ) (index : Bool) → Keeps K (RunsBracket level script index)
bracket_keep K level l script true before given after t k = stays K before after t.1 k
bracket_keep K level l script false before given after t k = within_keep K level l script before given after t k

opened_keep : {S : Type 0} (K : S → Type 0) (level : Level S) → LevelKeeps K level → (opened : Opened) → Keeps K (RunsOpened level opened)
opened_keep K level l (in_bracket script) before given after t k = bracket_keep K level l script (is_index script) before given after t k
opened_keep K level l (in_body script) before given after t k = within_keep K level l script before given after t k

enters_keep : {S : Type 0} (K : S → Type 0) (host : Host S) → HostKeeps K host → (line left inside : ℕ) (opened : Opened) → Keeps K (Enters host line left inside opened)
enters_keep K host h line zero inside opened before given after t k = stays K before after t.1 k
enters_keep K host h line (suc left) zero opened before given after t k =
    opened_keep K (record { host = host; line = line; left = left; Opens = Enters host line left })
    (record { host = h; opens = enters_keep K host h line left }) opened before given after t k
enters_keep K host h line (suc left) (suc inside) opened before given after t k = enters_keep K host h line left inside opened before given after t k

outermost_keep : {S : Type 0} (K : S → Type 0) (host : Host S) → HostKeeps K host → (line : ℕ) → LevelKeeps K (outermost host line)
outermost_keep K host h line = record { host = h; opens = enters_keep K host h line most_levels }

-- ---- scripts

pub runs_keep : {S : Type 0} (K : S → Type 0) (host : Host S) → HostKeeps K host → (script : List ℕ) (before : S) (given : Result Unit (At Kind)) (after : S)
    → Runs host script before given after → K before → K after
runs_keep K host h script before given after t k =
    let kept : K t.1.host = text_run_keep K (λ (one : Command). RunsCommand (outermost host one.line) one)
    (λ one. command_keep K (outermost host one.line) (outermost_keep K host h one.line) one) script (record { variables = []; host = before; begun = 0 }) t.0 t.1 t.2 k in
    subst K (sym t.4) kept
