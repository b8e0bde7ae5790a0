-- Words of a command, and parts of a word, that are run one after the other: whatever those after give, all give.
use Rattle.std.proofs.Common.{◌≡◌, ◌++◌, ◌-◌, ℕ, zero, suc, true, false, List, [], ◌∷◌, length, Result, Ok, Err, refl, sym, subst, arith, append-nil}
use Rattle.sdc_base.specs.Gives.{Gives}
use Rattle.sdc_base.specs.declared.memory.Stop.{Stop}
use Rattle.sdc_base.specs.declared.memory.Stop.TheVariants as stop
use Rattle.source_types.specs.declared.commands.Part.{Part}
use Rattle.source_types.specs.declared.commands.Word.{Word}
use Rattle.source_types.specs.declared.kinds.Kind.{Kind}
use Rattle.timing_types.specs.declared.objects.Value.{Value}
use Rattle.timing_types.specs.declared.objects.Value.TheVariants as value
use Rattle.text_model.specs.Bytes.{is_index}
use Rattle.tcl_model.specs.HostCalls.{Host, World, text_in}
use Rattle.tcl_model.specs.ScriptRun.{Enters, RunsBracket, RunsWithin}
use Rattle.tcl_model.specs.WordValues.{Level, RunsJoined, RunsPart, RunsParts, RunsWord, RunsWords, in_body, in_bracket}
use Rattle.tcl_eval.specs.Worlds.{Does, index_outcome}
use Rattle.tcl_eval.proofs.CommandRuns.{level_at}
use Rattle.tcl_eval.proofs.RunStepFacts.{in_front, in_front_more, others_given}

-- ---- words

abbrev pub WordsOn : {State : Type 0} → Level State → List Word → World State → List Value → List Word → World State → Type 0
WordsOn {State = S} level all start values rest now = (given : Result (List Value) Kind) (after : World S)
    → RunsWords level rest now given after → RunsWords level all start (in_front values given) after

pub word_run : {State : Type 0} (level : Level State) (all : List Word) (start : World State) (values more : List Value) (rest : List Word) (word : Word) (words : List Word) (now : World State) (v : Value) (after : World State)
    → WordsOn level all start values rest now → rest ≡ word ∷ words → RunsWord level 0 word.parts now (Ok v) after → more ≡ values ++ v ∷ [] → WordsOn level all start more words after
word_run level all start values more rest word words now v after on e ran pushed = λ given end h.
    let with_word : RunsWords level (word ∷ words) now (in_front (v ∷ []) given) end = (Ok v, after, ran, others_given (RunsWords level words) (v ∷ []) after given end h) in
    let found = on (in_front (v ∷ []) given) end (subst (λ ws. RunsWords level ws now (in_front (v ∷ []) given) end) (sym e) with_word) in
    subst (λ vs. RunsWords level all start (in_front vs given) end) (sym pushed)
    (subst (λ r. RunsWords level all start r end) (in_front_more values (v ∷ []) given) found)

pub word_refused : {State : Type 0} (level : Level State) (all : List Word) (start : World State) (values : List Value) (rest : List Word) (word : Word) (words : List Word) (now : World State) (s : Stop Kind) (after : World State)
    → WordsOn level all start values rest now → rest ≡ word ∷ words → Does {A = Value} (RunsWord level 0 word.parts) now (Err s) after → Does {A = List Value} (RunsWords level all) start (Err s) after
word_refused level all start values rest word words now (stop.Refused kind) after on e ran =
    on (Err kind) after (subst (λ ws. RunsWords level ws now (Err kind) after) (sym e) (Err kind, after, ran, (refl, refl)))
word_refused level all start values rest word words now stop.NoMemory after on e ran = tt

pub words_run : {State : Type 0} (level : Level State) (all : List Word) (start : World State) (values : List Value) (rest : List Word) (now : World State)
    → WordsOn level all start values rest now → rest ≡ [] → RunsWords level all start (Ok values) now
words_run level all start values rest now on e =
    let found = on (Ok []) now (subst (λ ws. RunsWords level ws now (Ok []) now) (sym e) (refl, refl)) in
    subst (λ vs. RunsWords level all start (Ok vs) now) (append-nil values) found

-- ---- parts

abbrev pub PartsOn : {State : Type 0} → Level State → ℕ → List Part → World State → List ℕ → List Part → World State → Type 0
PartsOn {State = S} level inside all start text rest now = (given : Result (List ℕ) Kind) (after : World S)
    → RunsParts level inside rest now given after → RunsParts level inside all start (in_front text given) after

pub part_run : {State : Type 0} (level : Level State) (inside : ℕ) (all : List Part) (start : World State) (text more : List ℕ) (rest : List Part) (first : Part) (parts : List Part) (now : World State) (v : Value) (after : World State)
    → PartsOn level inside all start text rest now → rest ≡ first ∷ parts → RunsPart level inside first now (Ok v) after → more ≡ text ++ text_in level.host after.host v → PartsOn level inside all start more parts after
part_run level inside all start text more rest first parts now v after on e ran pushed = λ given end h.
    let bytes : List ℕ = text_in level.host after.host v in
    let with_part : RunsParts level inside (first ∷ parts) now (in_front (text_in level.host after.host v) given) end =
    (Ok (text_in level.host after.host v), after, (Ok v, ran, refl), others_given (RunsParts level inside parts) (text_in level.host after.host v) after given end h) in
    let found = on (in_front (text_in level.host after.host v) given) end (subst (λ ps. RunsParts level inside ps now (in_front (text_in level.host after.host v) given) end) (sym e) with_part) in
    subst (λ t. RunsParts level inside all start (in_front t given) end) (sym pushed)
    (subst (λ r. RunsParts level inside all start r end) (in_front_more text (text_in level.host after.host v) given) found)

-- a word that is not one part alone is joined
joined_word : {State : Type 0} (level : Level State) (inside : ℕ) (parts : List Part) (before : World State) (given : Result Value Kind) (after : World State)
    → (length parts ≡ 1 → ⊥) → RunsJoined level inside parts before given after → RunsWord level inside parts before given after
joined_word level inside [] before given after other h = h
joined_word level inside (only ∷ []) before given after other h = absurd (other refl)
joined_word level inside (first ∷ second ∷ parts) before given after other h = h

pub part_refused : {State : Type 0} (level : Level State) (inside : ℕ) (all : List Part) (start : World State) (text : List ℕ) (rest : List Part) (first : Part) (parts : List Part) (now : World State) (s : Stop Kind) (after : World State)
    → (length all ≡ 1 → ⊥) → PartsOn level inside all start text rest now → rest ≡ first ∷ parts → Does {A = Value} (RunsPart level inside first) now (Err s) after → Does {A = Value} (RunsWord level inside all) start (Err s) after
part_refused level inside all start text rest first parts now (stop.Refused kind) after other on e ran =
    let found : RunsParts level inside all start (Err kind) after =
    on (Err kind) after (subst (λ ps. RunsParts level inside ps now (Err kind) after) (sym e) (Err kind, after, (Err kind, ran, refl), (refl, refl))) in
    joined_word level inside all start (Err kind) after other (Err kind, after, found, (refl, refl))
part_refused level inside all start text rest first parts now stop.NoMemory after other on e ran = tt

pub parts_run : {State : Type 0} (level : Level State) (inside : ℕ) (all : List Part) (start : World State) (text : List ℕ) (rest : List Part) (now : World State)
    → (length all ≡ 1 → ⊥) → PartsOn level inside all start text rest now → rest ≡ [] → RunsWord level inside all start (Ok (value.Text text)) now
parts_run level inside all start text rest now other on e =
    let found : RunsParts level inside all start (Ok text) now =
    subst (λ t. RunsParts level inside all start (Ok t) now) (append-nil text)
    (on (Ok []) now (subst (λ ps. RunsParts level inside ps now (Ok []) now) (sym e) (refl, refl))) in
    joined_word level inside all start (Ok (value.Text text)) now other (Ok text, now, found, (refl, refl))

-- ---- brackets

index_given : {State : Type 0} (host : Host State) (line left inside : ℕ) (script : List ℕ) (w : World State) (given : Result Value Kind)
    → is_index script ≡ true → given ≡ index_outcome left inside script → Enters host line left inside (in_bracket script) w given w
index_given host line zero inside script w given index e = (e, refl)
index_given host line (suc left) zero script w given index e =
    subst (λ i. RunsBracket (level_at host line left) script i w given w) (sym index) (e, refl)
index_given host line (suc left) (suc inside) script w given index e = index_given host line left inside script w given index e

bracket_given : {State : Type 0} (host : Host State) (line left inside later : ℕ) (script : List ℕ) (before : World State) (given : Result Value Kind) (after : World State)
    → is_index script ≡ false → later ≡ left - inside → Enters host line later 0 (in_body script) before given after → Enters host line left inside (in_bracket script) before given after
bracket_given host line zero inside later script before given after other e h =
    let none : later ≡ 0 = omega (arith, e) in
    subst (λ n. Enters host line n 0 (in_body script) before given after) none h
bracket_given host line (suc left) zero later script before given after other e h =
    let same : later ≡ suc left = omega (arith, e) in
    let within : RunsWithin (level_at host line left) script before given after = subst (λ n. Enters host line n 0 (in_body script) before given after) same h in
    subst (λ i. RunsBracket (level_at host line left) script i before given after) (sym other) within
bracket_given host line (suc left) (suc inside) later script before given after other e h =
    let less : later ≡ left - inside = omega (arith, e) in
    bracket_given host line left inside later script before given after other less h

-- an index that is inside so many parentheses
pub index_run : {State : Type 0} (host : Host State) (line left inside : ℕ) (script : List ℕ) (w : World State) (r : Result Value (Stop Kind))
    → is_index script ≡ true → Gives r (index_outcome left inside script) → Does (Enters host line left inside (in_bracket script)) w r w
index_run host line left inside script w (Ok v) index h = index_given host line left inside script w (Ok v) index (sym h)
index_run host line left inside script w (Err (stop.Refused kind)) index h = index_given host line left inside script w (Err kind) index (sym h)
index_run host line left inside script w (Err stop.NoMemory) index h = tt

-- any other script is run where its parentheses end
pub bracket_run : {State : Type 0} (host : Host State) (line left inside later : ℕ) (script : List ℕ) (before after : World State) (r : Result Value (Stop Kind))
    → is_index script ≡ false → later ≡ left - inside → Does (Enters host line later 0 (in_body script)) before r after → Does (Enters host line left inside (in_bracket script)) before r after
bracket_run host line left inside later script before after (Ok v) other e h = bracket_given host line left inside later script before (Ok v) after other e h
bracket_run host line left inside later script before after (Err (stop.Refused kind)) other e h = bracket_given host line left inside later script before (Err kind) after other e h
bracket_run host line left inside later script before after (Err stop.NoMemory) other e h = tt
