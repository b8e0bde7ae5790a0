-- Commands that are run by their words and names, items of `foreach`, and conditions of `if`: whatever those after
-- give, all give.
use Rattle.std.proofs.Common.{◌≡◌, ◌+◌, ℕ, Bool, true, false, List, [], ◌∷◌, length, get_or, arith, Option, Result, Ok, Err, refl, sym, ap, subst, ◌∙◌, inl}
use Rattle.sdc_base.specs.Gives.{Gives, Meets}
use Rattle.sdc_base.specs.declared.memory.Stop.{Stop}
use Rattle.sdc_base.specs.declared.memory.Stop.TheVariants as stop
use Rattle.source_types.specs.declared.built_ins.Branch.{Branch}
use Rattle.source_types.specs.declared.built_ins.CommandName.{CommandName}
use Rattle.source_types.specs.declared.commands.Command.{Command}
use Rattle.source_types.specs.declared.expressions.Scalar.{Scalar}
use Rattle.source_types.specs.declared.kinds.Kind.{Kind}
use Rattle.source_types.specs.declared.kinds.TclKind.{TclKind}
use Rattle.timing_types.specs.declared.objects.Value.{Value}
use Rattle.tcl_model.specs.BuiltIns.{HasItems, no_text}
use Rattle.tcl_model.specs.ExpressionValue.{truth_of}
use Rattle.tcl_model.specs.HostCalls.{SetsTo, World, text_in}
use Rattle.tcl_model.specs.NamedCommands.{EvaluatesText, Repeats, RunsEach, RunsFirst, RunsNamed, RunsOtherwise, RunsValues, named}
use Rattle.tcl_model.specs.ScriptRun.{RunsCommand, one_more}
use Rattle.tcl_model.specs.RunSteps.{Looks, Then, tcl_outcome}
use Rattle.tcl_model.specs.Variables.{Variable, with_variable}
use Rattle.tcl_model.specs.WordValues.{Level, RunsWords, in_body}
use Rattle.tcl_eval.specs.declared.running.progress.Progress.{Progress}
use Rattle.tcl_eval.specs.Worlds.{Begins, Does, as_answer, world}
use Rattle.tcl_eval.proofs.RunStepFacts.{answer_ok, looked, then_ok, then_stop}

-- ---- a command

begins_world : {State : Type 0} (old new : Progress) (state : State) → new ≡ record old { begun = old.begun + 1 } → world new state ≡ one_more (world old state)
begins_world old new state e = ap (λ run. world run state) e

-- after its count
begun : {State : Type 0} (level : Level State) (command : Command) (old new : Progress) (state : State) (given : Result Value Kind) (after : World State)
    → Begins old (Ok tt) new → Then (RunsWords level command.words) (RunsValues level) (world new state) given after → RunsCommand level command (world old state) given after
begun level command old new state given after h ran =
    inl (h.0, subst (λ w. Then (RunsWords level command.words) (RunsValues level) w given after) (begins_world old new state h.1) ran)

pub words_refused : {State : Type 0} (level : Level State) (command : Command) (old new : Progress) (state : State) (s : Stop Kind) (after : World State)
    → Begins old (Ok tt) new → Does {A = List Value} (RunsWords level command.words) (world new state) (Err s) after → Does {A = Value} (RunsCommand level command) (world old state) (Err s) after
words_refused level command old new state (stop.Refused kind) after h ran =
    begun level command old new state (Err kind) after h (then_stop (RunsWords level command.words) (RunsValues level) (world new state) after (stop.Refused kind) ran)
words_refused level command old new state stop.NoMemory after h ran = tt

pub no_words : {State : Type 0} (level : Level State) (command : Command) (old new : Progress) (state : State) (values : List Value) (after : World State)
    → Begins old (Ok tt) new → RunsWords level command.words (world new state) (Ok values) after → values ≡ [] → RunsCommand level command (world old state) (Ok no_text) after
no_words level command old new state values after h ran e =
    begun level command old new state (Ok no_text) after h (Ok values, after, ran, subst (λ vs. RunsValues level vs after (Ok no_text) after) (sym e) (refl, refl))

pub name_run : {State : Type 0} (level : Level State) (command : Command) (old new : Progress) (state : State) (values : List Value) (first : Value) (arguments : List Value) (name : List ℕ) (between after : World State) (r : Result Value (Stop Kind))
    → Begins old (Ok tt) new → RunsWords level command.words (world new state) (Ok values) between → values ≡ first ∷ arguments → name ≡ text_in level.host between.host first
    → Does (RunsNamed level (named name) name arguments) between r after → Does (RunsCommand level command) (world old state) r after
name_run level command old new state values first arguments name between after r h ran e is does = by_answer r does where
  values_run : (given : Result Value Kind) → RunsNamed level (named name) name arguments between given after → RunsCommand level command (world old state) given after
  values_run given named_run =
      begun level command old new state given after h
      (Ok values, between, ran, subst (λ vs. RunsValues level vs between given after) (sym e) (subst (λ n. RunsNamed level (named n) n arguments between given after) is named_run))

  by_answer : (r : Result Value (Stop Kind)) → Does (RunsNamed level (named name) name arguments) between r after → Does (RunsCommand level command) (world old state) r after
  by_answer (Ok v) h = values_run (Ok v) h
  by_answer (Err (stop.Refused kind)) h = values_run (Err kind) h
  by_answer (Err stop.NoMemory) h = tt

-- a command whose name is known
pub by_name : {State : Type 0} (level : Level State) (n m : CommandName) (name : List ℕ) (arguments : List Value) (before after : World State) (r : Result Value (Stop Kind))
    → n ≡ m → Does (RunsNamed level m name arguments) before r after → Does (RunsNamed level n name arguments) before r after
by_name level n m name arguments before after r e h = subst (λ k. Does (RunsNamed level k name arguments) before r after) (sym e) h

-- ---- the items of `foreach`

abbrev pub EachOn : {State : Type 0} → Level State → List ℕ → List ℕ → List Value → World State → List Value → World State → Type 0
EachOn {State = S} level name body all start rest now = (given : Result Value Kind) (after : World S)
    → RunsEach level name body rest now given after → RunsEach level name body all start given after

pub no_item_run : {State : Type 0} (level : Level State) (name body : List ℕ) (all : List Value) (start : World State) → EachOn level name body all start all start
no_item_run level name body all start = λ given after h. h

-- the world where a variable is set
sets : {State : Type 0} (old new : Progress) (state : State) (name : List ℕ) (item : Value)
    → new.variables ≡ with_variable old.variables name item → new.begun ≡ old.begun → SetsTo name item (world old state) (Ok item) (world new state)
sets old new state name item e f = (refl, ap (λ x. record { variables = x.0; host = state; begun = x.1 }) (both e f)) where
  both : new.variables ≡ with_variable old.variables name item → new.begun ≡ old.begun → ◌≡◌ {A = List Variable × ℕ} (new.variables, new.begun) (with_variable old.variables name item, old.begun)
  both e f = rw (e, f) refl

pub item_run : {State : Type 0} (level : Level State) (name body : List ℕ) (all : List Value) (start : World State) (rest : List Value) (item : Value) (items : List Value) (old new : Progress) (state : State) (v : Value) (after : World State)
    → EachOn level name body all start rest (world old state) → rest ≡ item ∷ items → new.variables ≡ with_variable old.variables name item → new.begun ≡ old.begun
    → level.Opens 0 (in_body body) (world new state) (Ok v) after → EachOn level name body all start items after
item_run level name body all start rest item items old new state v after on e set same ran = λ given end h.
    on given end (subst (λ xs. RunsEach level name body xs (world old state) given end) (sym e)
    (Ok item, world new state, sets old new state name item set same, (Ok v, after, ran, h)))

pub item_refused : {State : Type 0} (level : Level State) (name body : List ℕ) (all : List Value) (start : World State) (rest : List Value) (item : Value) (items : List Value) (old new : Progress) (state : State) (s : Stop Kind) (after : World State)
    → EachOn level name body all start rest (world old state) → rest ≡ item ∷ items → new.variables ≡ with_variable old.variables name item → new.begun ≡ old.begun
    → Does {A = Value} (level.Opens 0 (in_body body)) (world new state) (Err s) after → Does {A = Value} (RunsEach level name body all) start (Err s) after
item_refused level name body all start rest item items old new state (stop.Refused kind) after on e set same ran =
    on (Err kind) after (subst (λ xs. RunsEach level name body xs (world old state) (Err kind) after) (sym e)
    (Ok item, world new state, sets old new state name item set same, (Err kind, after, ran, (refl, refl))))
item_refused level name body all start rest item items old new state stop.NoMemory after on e set same ran = tt

pub items_run : {State : Type 0} (level : Level State) (name body : List ℕ) (all : List Value) (start : World State) (rest : List Value) (now : World State)
    → EachOn level name body all start rest now → rest ≡ [] → RunsEach level name body all start (Ok no_text) now
items_run level name body all start rest now on e =
    on (Ok no_text) now (subst (λ xs. RunsEach level name body xs now (Ok no_text) now) (sym e) (refl, refl))

-- ---- the conditions of `if`

abbrev pub FirstOn : {State : Type 0} → Level State → List Branch → Option (List ℕ) → World State → List Branch → World State → Type 0
FirstOn {State = S} level all otherwise start rest now = (given : Result Value Kind) (after : World S)
    → RunsFirst level rest otherwise now given after → RunsFirst level all otherwise start given after

pub no_condition_run : {State : Type 0} (level : Level State) (all : List Branch) (otherwise : Option (List ℕ)) (start : World State) → FirstOn level all otherwise start all start
no_condition_run level all otherwise start = λ given after h. h

pub condition_refused : {State : Type 0} (level : Level State) (all : List Branch) (otherwise : Option (List ℕ)) (start : World State) (rest : List Branch) (branch : Branch) (branches : List Branch) (now : World State) (s : Stop Kind) (after : World State)
    → FirstOn level all otherwise start rest now → rest ≡ branch ∷ branches → Does {A = Scalar} (EvaluatesText level branch.condition) now (Err s) after → Does {A = Value} (RunsFirst level all otherwise) start (Err s) after
condition_refused level all otherwise start rest branch branches now (stop.Refused kind) after on e ran =
    on (Err kind) after (subst (λ bs. RunsFirst level bs otherwise now (Err kind) after) (sym e)
    (Err kind, after, (Err kind, after, ran, (refl, refl)), (refl, refl)))
condition_refused level all otherwise start rest branch branches now stop.NoMemory after on e ran = tt

pub no_truth : {State : Type 0} (level : Level State) (all : List Branch) (otherwise : Option (List ℕ)) (start : World State) (rest : List Branch) (branch : Branch) (branches : List Branch) (now : World State) (v : Scalar) (s : Stop Kind) (after : World State)
    → FirstOn level all otherwise start rest now → rest ≡ branch ∷ branches → EvaluatesText level branch.condition now (Ok v) after → Gives {T = Bool} (Err s) (tcl_outcome (truth_of v)) → Does {A = Value} (RunsFirst level all otherwise) start (Err s) after
no_truth level all otherwise start rest branch branches now v (stop.Refused kind) after on e ran is =
    on (Err kind) after (subst (λ bs. RunsFirst level bs otherwise now (Err kind) after) (sym e)
    (Err kind, after, (Ok v, after, ran, (sym is, refl)), (refl, refl)))
no_truth level all otherwise start rest branch branches now v stop.NoMemory after on e ran is = tt

pub does_not_hold : {State : Type 0} (level : Level State) (all : List Branch) (otherwise : Option (List ℕ)) (start : World State) (rest : List Branch) (branch : Branch) (branches : List Branch) (now : World State) (v : Scalar) (holds : Bool) (after : World State)
    → FirstOn level all otherwise start rest now → rest ≡ branch ∷ branches → EvaluatesText level branch.condition now (Ok v) after → tcl_outcome (truth_of v) ≡ Ok holds → holds ≡ false → FirstOn level all otherwise start branches after
does_not_hold level all otherwise start rest branch branches now v holds after on e ran is denied = λ given end h.
    let truth : Ok false ≡ tcl_outcome (truth_of v) = sym (is ∙ ap (λ b. Ok b) denied) in
    on given end (subst (λ bs. RunsFirst level bs otherwise now given end) (sym e)
    (Ok false, after, (Ok v, after, ran, (truth, refl)), h))

pub does_hold : {State : Type 0} (level : Level State) (all : List Branch) (otherwise : Option (List ℕ)) (start : World State) (rest : List Branch) (branch : Branch) (branches : List Branch) (now : World State) (v : Scalar) (holds : Bool) (between after : World State) (r : Result Value (Stop Kind))
    → FirstOn level all otherwise start rest now → rest ≡ branch ∷ branches → EvaluatesText level branch.condition now (Ok v) between → tcl_outcome (truth_of v) ≡ Ok holds → holds ≡ true
    → Does (level.Opens 0 (in_body branch.body)) between r after → Does (RunsFirst level all otherwise) start r after
does_hold {State = S} level all otherwise start rest branch branches now v holds between after r on e ran is yes_holds does = by_answer r does where
  body_run : (given : Result Value Kind) → level.Opens 0 (in_body branch.body) between given after → RunsFirst level all otherwise start given after
  body_run given h =
      let truth : Ok true ≡ tcl_outcome (truth_of v) = sym (is ∙ ap (λ b. Ok b) yes_holds) in
      on given after (subst (λ bs. RunsFirst level bs otherwise now given after) (sym e)
      (Ok true, between, (Ok v, between, ran, (truth, refl)), h))

  by_answer : (r : Result Value (Stop Kind)) → Does (level.Opens 0 (in_body branch.body)) between r after → Does (RunsFirst level all otherwise) start r after
  by_answer (Ok v) h = body_run (Ok v) h
  by_answer (Err (stop.Refused kind)) h = body_run (Err kind) h
  by_answer (Err stop.NoMemory) h = tt

pub none_holds : {State : Type 0} (level : Level State) (all : List Branch) (otherwise : Option (List ℕ)) (start : World State) (rest : List Branch) (now after : World State) (r : Result Value (Stop Kind))
    → FirstOn level all otherwise start rest now → rest ≡ [] → Does (RunsOtherwise level otherwise) now r after → Does (RunsFirst level all otherwise) start r after
none_holds level all otherwise start rest now after r on e does = by_answer r does where
  ended : (given : Result Value Kind) → RunsOtherwise level otherwise now given after → RunsFirst level all otherwise start given after
  ended given h = on given after (subst (λ bs. RunsFirst level bs otherwise now given after) (sym e) h)

  by_answer : (r : Result Value (Stop Kind)) → Does (RunsOtherwise level otherwise) now r after → Does (RunsFirst level all otherwise) start r after
  by_answer (Ok v) h = ended (Ok v) h
  by_answer (Err (stop.Refused kind)) h = ended (Err kind) h
  by_answer (Err stop.NoMemory) h = tt

-- a list of three items
three_items : {A : Type 0} (xs : List A) (first second third : A)
    → length xs ≡ 3 → first ≡ get_or xs 0 first → second ≡ get_or xs 1 second → third ≡ get_or xs 2 third → xs ≡ first ∷ second ∷ third ∷ []
three_items [] first second third n p q r = absurd (omega (arith, n))
three_items (x ∷ []) first second third n p q r = absurd (omega (arith, n))
three_items (x ∷ y ∷ []) first second third n p q r = absurd (omega (arith, n))
three_items (x ∷ y ∷ z ∷ []) first second third n p q r = rw (p, q, r) refl
three_items (x ∷ y ∷ z ∷ w ∷ others) first second third n p q r = absurd (omega (arith, n))

-- `foreach`, by its three words and what was read of them
pub repeats_run : {State : Type 0} (level : Level State) (arguments : List Value) (name list body : Value) (n b : List ℕ) (items : List Value) (answer : Result (List Value) (Stop TclKind)) (w after : World State) (r : Result Value (Stop Kind))
    → length arguments ≡ 3 → name ≡ get_or arguments 0 name → list ≡ get_or arguments 1 list → body ≡ get_or arguments 2 body → Meets answer (HasItems list) → Ok items ≡ as_answer answer
    → n ≡ text_in level.host w.host name → b ≡ text_in level.host w.host body → Does (RunsEach level n b items) w r after → Does (Repeats level arguments) w r after
repeats_run level arguments name list body n b items answer w after r three first second third read is named_by body_is ran =
    let each : Does (RunsEach level (text_in level.host w.host name) (text_in level.host w.host body) items) w r after =
    subst (λ m. Does (RunsEach level m (text_in level.host w.host body) items) w r after) named_by
    (subst (λ m. Does (RunsEach level n m items) w r after) body_is ran) in
    subst (λ xs. Does (Repeats level xs) w r after) (sym (three_items arguments name list body three first second third))
    (then_ok (Looks (HasItems list)) (RunsEach level (text_in level.host w.host name) (text_in level.host w.host body)) items w w after r
    (Ok items, answer_ok answer items (HasItems list) read is, (refl, refl)) each)

pub repeats_unread : {State : Type 0} (level : Level State) (arguments : List Value) (name list body : Value) (answer : Result (List Value) (Stop TclKind)) (w : World State) (s : Stop Kind)
    → length arguments ≡ 3 → name ≡ get_or arguments 0 name → list ≡ get_or arguments 1 list → body ≡ get_or arguments 2 body → Meets answer (HasItems list) → as_answer answer ≡ Err s
    → Does {A = Value} (Repeats level arguments) w (Err s) w
repeats_unread level arguments name list body answer w s three first second third read is =
    subst (λ xs. Does {A = Value} (Repeats level xs) w (Err s) w) (sym (three_items arguments name list body three first second third))
    (then_stop (Looks (HasItems list)) (RunsEach level (text_in level.host w.host name) (text_in level.host w.host body)) w w s
    (subst (λ a. Does (Looks (HasItems list)) w a w) is (looked (HasItems list) w answer read)))
