-- Words of a command and commands of a text, one after the other.
use Rattle.std.proofs.Common.{◌≡◌, ◌<◌, ◌≤◌, ◌-◌, ◌==◌, ◌++◌, ◌||◌, ◌&&◌, inl, inr, ◌⊎◌, ℕ, Bool, true, false, List, [], ◌∷◌, Option, Some, None, Result, Ok, Err, drop, take, length, refl, sym, ap, subst, ◌∙◌, arith, append_assoc}
use Rattle.std.proofs.Math.Bool.{and-false}
use Rattle.std.proofs.lemmas.Bool.{cases_Bool, both_ways, or_parts, not-true}
use Rattle.std.proofs.lemmas.List.{length-drop, append-nil}
use Rattle.std.specs.Str.{IsCharBoundary, IsUtf8}
use Rattle.sdc_base.specs.Gives.{Meets}
use Rattle.sdc_base.specs.declared.memory.At.{At}
use Rattle.sdc_base.specs.declared.memory.Stop.{Stop}
use Rattle.sdc_base.specs.declared.memory.Stop.TheVariants.{NoMemory, Refused}
use Rattle.source_types.specs.declared.commands.Command.{Command}
use Rattle.source_types.specs.declared.commands.Next.{Next}
use Rattle.source_types.specs.declared.commands.Word.{Word}
use Rattle.source_types.specs.declared.kinds.TclKind.{TclKind}
use Rattle.text_model.specs.Bytes.{before, begins_with, is_end, is_space, line_after}
use Rattle.tcl_model.specs.Commands.{AreWords, CommandFront, FirstFrom, IsCommand, IsWordOf, Place, Splits, StandsCommand, StandsWord, WordFront, command_end, ended_command, opening}
use Rattle.text_model.specs.Continued.{Between, after_gap, comment, continues, from_command, parting, taken}
use Rattle.text_model.specs.Row.{Row, found, stops}
use Rattle.tcl_words.specs.declared.reader.Words.{Words}
use Rattle.tcl_words.specs.declared.spelled.Spelled.{Spelled}
use Rattle.tcl_words.specs.Reads.{WordAt, WordFrom, WordsFrom, WordsTo, starts}
use Rattle.tcl_words.specs.Spans.{LeadsTo, ends_command}
use Rattle.tcl_words.proofs.PieceFacts.{before_between}
use Rattle.tcl_words.proofs.RunFacts.{drop_all}

-- ---- where words and commands begin

word_starts : (b : ℕ) (bs : List ℕ) → is_space b ≡ false → is_end b ≡ false → (b == 92 && continues bs) ≡ false → starts (b ∷ bs) ≡ true
word_starts b bs p s r = rw (p, s, r) refl

first_starts : (b : ℕ) (bs : List ℕ) → (is_space b || is_end b) ≡ false → (b == 92 && continues bs) ≡ false → starts (b ∷ bs) ≡ true
first_starts b bs p r = rw (p, r) refl

gap_starts : (c : Bool) (xs : List ℕ) → (ends_command (after_gap c xs) ≡ true) ⊎ (starts (after_gap c xs) ≡ true)
unfolding after_gap
gap_starts c [] = inl refl
gap_starts c (b ∷ bs) = elim (cases_Bool (is_space b)) [
  | inl p ↦ rw p (gap_starts c bs)
  | inr p ↦ elim (cases_Bool (b == 10 && c)) [
    | inl q ↦ rw (p, q) (gap_starts false bs)
    | inr q ↦ elim (cases_Bool (b == 92 && continues bs)) [
      | inl r ↦ rw (p, q, r) (gap_starts true bs)
      | inr r ↦ elim (cases_Bool (is_end b)) [
        | inl s ↦ rw (p, q, r) (inl s)
        | inr s ↦ rw (p, q, r) (inr (word_starts b bs p s r))
      ]
    ]
  ]
]

command_starts : (state : Between) (xs : List ℕ) → (from_command state xs ≡ []) ⊎ (starts (from_command state xs) ≡ true)
unfolding from_command
command_starts parting [] = inl refl
command_starts comment [] = inl refl
command_starts taken [] = inl refl
command_starts parting (b ∷ bs) = elim (cases_Bool (is_space b || is_end b)) [
  | inl p ↦ rw p (command_starts parting bs)
  | inr p ↦ elim (cases_Bool (b == 35)) [
    | inl q ↦ rw (p, q) (command_starts comment bs)
    | inr q ↦ elim (cases_Bool (b == 92 && continues bs)) [
      | inl r ↦ rw (p, q, r) (command_starts parting bs)
      | inr r ↦ rw (p, q, r) (inr (first_starts b bs p r))
    ]
  ]
]
command_starts comment (b ∷ bs) = elim (cases_Bool (b == 10)) [
  | inl p ↦ rw p (command_starts parting bs)
  | inr p ↦ elim (cases_Bool (b == 92)) [
    | inl q ↦ rw (p, q) (command_starts taken bs)
    | inr q ↦ rw (p, q) (command_starts comment bs)
  ]
]
command_starts taken (b ∷ bs) = elim (cases_Bool (b == 13 && begins_with 10 bs)) [
  | inl p ↦ rw p (command_starts taken bs)
  | inr p ↦ rw p (command_starts comment bs)
]

starts_ends : (xs : List ℕ) → starts xs ≡ true → ends_command xs ≡ true → ⊥
starts_ends [] s e = both_ways false refl s
starts_ends (b ∷ bs) s e =
    let none = or_parts (is_space b || is_end b) (b == 92 && continues bs) (not-true (is_space b || is_end b || (b == 92 && continues bs)) s) in
    both_ways (is_end b) (or_parts (is_space b) (is_end b) none.0).1 e

gap_stays : (xs : List ℕ) → starts xs ≡ true → after_gap false xs ≡ xs
unfolding after_gap
gap_stays [] s = refl
gap_stays (b ∷ bs) s =
    let none = or_parts (is_space b || is_end b) (b == 92 && continues bs) (not-true (is_space b || is_end b || (b == 92 && continues bs)) s) in
    rw ((or_parts (is_space b) (is_end b) none.0).0, and-false (b == 10), none.1) refl

pub starts_long : (text : List ℕ) (at : ℕ) → starts (drop at text) ≡ true → at < length text
starts_long text at s = longer (drop at text) refl s where
  longer : (rest : List ℕ) → drop at text ≡ rest → starts rest ≡ true → at < length text
  longer [] e s = absurd (both_ways false refl s)
  longer (b ∷ bs) e s = omega (arith, ap length e, length-drop at text)

-- a word begins after a gap that no end follows
pub begins_word : (text : List ℕ) (at begin : ℕ) → LeadsTo text at begin (after_gap false (drop at text)) → ends_command (drop begin text) ≡ false → starts (drop begin text) ≡ true
begins_word text at begin leads e =
    subst (λ (t : List ℕ). (ends_command t ≡ true) ⊎ (starts t ≡ true) → starts (drop begin text) ≡ true) (sym leads.is)
    (λ c. one c) (gap_starts false (drop at text)) where
      one : (ends_command (drop begin text) ≡ true) ⊎ (starts (drop begin text) ≡ true) → starts (drop begin text) ≡ true
      one (inl ends) = absurd (both_ways (ends_command (drop begin text)) e ends)
      one (inr s) = s

-- a command begins after what parts commands, where the text does not end
pub begins_command : (text : List ℕ) (from begin : ℕ) → LeadsTo text from begin (from_command parting (drop from text)) → (begin ≡ length text → ⊥) → starts (drop begin text) ≡ true
begins_command text from begin leads other = one (command_starts parting (drop from text)) where
  one : (from_command parting (drop from text) ≡ []) ⊎ (starts (from_command parting (drop from text)) ≡ true) → starts (drop begin text) ≡ true
  one (inl none) = absurd (other (omega (arith, ap length (sym leads.is ∙ none), length-drop begin text, leads.within)))
  one (inr s) = subst (λ (t : List ℕ). starts t ≡ true) leads.is s

-- ---- words

-- words were read up to a place; with those that stand from there on they are all
pub record WordsSoFar (text : List ℕ) (from at : ℕ) (words : List Word) : Type 0 where
  pub row : (more : List Word) (end : Result (List ℕ) TclKind) → AreWords more (drop at text) end → AreWords (words ++ more) (drop from text) end
  pub within : at ≤ length text
  pub forward : from ≤ at
  pub further : (at ≡ from) ⊎ (from < at)
  pub boundary : IsCharBoundary text at

pub words_none : (text : List ℕ) (from : ℕ) (words : List Word) → words ≡ [] → from ≤ length text → IsCharBoundary text from → WordsSoFar text from from words
words_none text from words e within boundary = record {
  row = λ more end r. subst (λ (ws : List Word). AreWords (ws ++ more) (drop from text) end) (sym e) r;
  within = within;
  forward = omega arith;
  further = inl refl;
  boundary = boundary;
}

stands_after : (text : List ℕ) (at begin : ℕ) (front : WordFront) → LeadsTo text at begin (after_gap false (drop at text)) → IsWordOf (opening (drop begin text)) (drop begin text) front → StandsWord (drop at text) front
stands_after text at begin front leads w = subst (λ (t : List ℕ). IsWordOf (opening t) t front) (sym leads.is) w

pub words_more : (text : List ℕ) (from at begin : ℕ) (words next : List Word) (spelled : Spelled) → WordsSoFar text from at words → LeadsTo text at begin (after_gap false (drop at text)) → WordAt text begin spelled → next ≡ words ++ spelled.word ∷ [] → WordsSoFar text from spelled.end next
words_more text from at begin words next spelled so_far leads w e = record {
  row = λ more end r.
      subst (λ (ws : List Word). AreWords ws (drop from text) end) (sym (append_assoc words (spelled.word ∷ []) more) ∙ ap (λ (ws : List Word). ws ++ more) (sym e))
      (so_far.row (spelled.word ∷ more) end (drop spelled.end text, stands_after text at begin (found spelled.word (drop spelled.end text)) leads w.stands, r));
  within = w.within;
  forward = omega (arith, so_far.forward, leads.forward, w.forward);
  further = inr (omega (arith, so_far.forward, leads.forward, w.forward));
  boundary = w.boundary;
}

opening_end : (xs : List ℕ) → ends_command xs ≡ true → opening xs ≡ command_end
opening_end [] e = refl
opening_end (b ∷ bs) e = rw e refl

pub words_end : (text : List ℕ) (from at begin : ℕ) (words : List Word) → IsUtf8 text → starts (drop from text) ≡ true → WordsSoFar text from at words → LeadsTo text at begin (after_gap false (drop at text)) → ends_command (drop begin text) ≡ true → WordsTo text from (record { words = words; end = begin })
words_end text from at begin words utf8 s so_far leads ends = record {
  row =
      subst (λ (ws : List Word). AreWords ws (drop from text) (Ok (drop begin text))) (append-nil words)
      (so_far.row [] (Ok (drop begin text)) (stands_after text at begin (stops (Ok (drop begin text))) leads
      (subst (λ o. IsWordOf o (drop begin text) (stops (Ok (drop begin text)))) (sym (opening_end (drop begin text) ends)) refl)));
  within = leads.within;
  forward = longer so_far.further;
  boundary = leads.keeps utf8 so_far.boundary;
} where
  longer : (at ≡ from) ⊎ (from < at) → from < begin
  longer (inr less) = omega (arith, less, leads.forward)
  longer (inl same) =
      let here : after_gap false (drop from text) ≡ drop begin text = subst (λ (i : ℕ). after_gap false (drop i text) ≡ drop begin text) same leads.is in
      absurd (starts_ends (drop from text) s (subst (λ (t : List ℕ). ends_command t ≡ true) (sym here ∙ gap_stays (drop from text) s) ends))

pub words_error : (text : List ℕ) (from at begin : ℕ) (words : List Word) (kind : TclKind) → WordsSoFar text from at words → LeadsTo text at begin (after_gap false (drop at text)) → WordFrom text begin (Err kind) → WordsFrom text from (Err kind)
words_error text from at begin words kind so_far leads w =
    (words, subst (λ (ws : List Word). AreWords ws (drop from text) (Err kind)) (append-nil words) (so_far.row [] (Err kind) (stands_after text at begin (stops (Err kind)) leads w)))

pub words_stop : (text : List ℕ) (from at begin : ℕ) (words : List Word) (stop : Stop TclKind) → WordsSoFar text from at words → LeadsTo text at begin (after_gap false (drop at text)) → Meets {T = Spelled} (Err stop) (WordFrom text begin) → Meets {T = Words} (Err stop) (WordsFrom text from)
words_stop text from at begin words (Refused kind) so_far leads m = words_error text from at begin words kind so_far leads m
words_stop text from at begin words NoMemory so_far leads m = tt

-- ---- the first command

-- the place where a command of this text begins
abbrev pub place_at : List ℕ → ℕ → List ℕ → Place
place_at whole line text = record { text = text; line = line_after (before whole text) line }

command_after : (text : List ℕ) (from begin line : ℕ) (front : CommandFront) → LeadsTo text from begin (from_command parting (drop from text)) → IsCommand (drop begin text) (place_at (drop from text) line (drop begin text)) front → StandsCommand (record { text = drop from text; line = line }) front
command_after text from begin line front leads c = subst (λ (t : List ℕ). IsCommand t (place_at (drop from text) line t) front) (sym leads.is) c

pub first_none : (text : List ℕ) (from begin line : ℕ) → LeadsTo text from begin (from_command parting (drop from text)) → begin ≡ length text → FirstFrom text from line (Ok None)
first_none text from begin line leads e =
    command_after text from begin line (stops None) leads
    (subst (λ (t : List ℕ). IsCommand t (place_at (drop from text) line t) (stops None)) (sym (drop_all text begin e)) refl)

command_of : (text : List ℕ) (place : Place) (front : CommandFront) (words : List Word) (end : Result (List ℕ) TclKind) → starts text ≡ true → AreWords words place.text end → front ≡ ended_command place words end → IsCommand text place front
command_of [] place front words end s row e = absurd (both_ways false refl s)
command_of (b ∷ bs) place front words end s row e = (words, end, row, e)

pub first_found : (text : List ℕ) (from begin line line_here line_past : ℕ) (read : Words) → LeadsTo text from begin (from_command parting (drop from text)) → starts (drop begin text) ≡ true → line_here ≡ line_after (take (begin - from) (drop from text)) line → WordsTo text begin read → line_past ≡ line_after (take (read.end - begin) (drop begin text)) line_here → FirstFrom text from line (Ok (Some (record { command = record { line = line_here; words = read.words }; end = read.end; line = line_past })))
first_found text from begin line line_here line_past read leads s here w after =
    let first : line_here ≡ line_after (before (drop from text) (drop begin text)) line = here ∙ ap (λ (t : List ℕ). line_after t line) (sym (before_between text from begin leads.forward leads.within)) in
    let last : line_past ≡ line_after (before (drop begin text) (drop read.end text)) line_here = after ∙ ap (λ (t : List ℕ). line_after t line_here) (sym (before_between text begin read.end (omega (arith, w.forward)) w.within)) in
    let place : Place = place_at (drop from text) line (drop begin text) in
    let front : CommandFront = found (record { line = line_here; words = read.words }) (record { text = drop read.end text; line = line_past }) in (
      command_after text from begin line front leads
          (command_of (drop begin text) place front read.words (Ok (drop read.end text)) s w.row
          (ap (λ (n : ℕ). found (record { line = line_here; words = read.words }) (record { text = drop read.end text; line = n })) last
          ∙ ap (λ (n : ℕ). found (record { line = n; words = read.words }) (record { text = drop read.end text; line = line_after (before (drop begin text) (drop read.end text)) n })) first)),
      omega (arith, leads.forward, w.forward),
      w.within,
    )

pub first_error : (text : List ℕ) (from begin line line_here : ℕ) (kind : TclKind) → LeadsTo text from begin (from_command parting (drop from text)) → starts (drop begin text) ≡ true → line_here ≡ line_after (take (begin - from) (drop from text)) line → WordsFrom text begin (Err kind) → FirstFrom text from line (Err (record { line = line_here; kind = kind }))
first_error text from begin line line_here kind leads s here w =
    let first : line_here ≡ line_after (before (drop from text) (drop begin text)) line = here ∙ ap (λ (t : List ℕ). line_after t line) (sym (before_between text from begin leads.forward leads.within)) in
    let place : Place = place_at (drop from text) line (drop begin text) in
    command_after text from begin line (stops (Some (record { line = line_here; kind = kind }))) leads
    (command_of (drop begin text) place (stops (Some (record { line = line_here; kind = kind }))) w.0 (Err kind) s w.1
    (ap (λ (n : ℕ). stops (Some (record { line = n; kind = kind }))) first))

-- ---- commands

-- commands were read up to a place and a line; with those that stand from there on they are all
pub record CommandsSoFar (text : List ℕ) (at line : ℕ) (commands : List Command) : Type 0 where
  pub row : (more : List Command) (end : Option (At TclKind)) → Row StandsCommand more (record { text = drop at text; line = line }) end → Row StandsCommand (commands ++ more) (record { text = text; line = 1 }) end
  pub within : at ≤ length text
  pub boundary : IsCharBoundary text at

pub commands_none : (text : List ℕ) (commands : List Command) → commands ≡ [] → IsCharBoundary text 0 → CommandsSoFar text 0 1 commands
commands_none text commands e boundary = record {
  row = λ more end r. subst (λ (cs : List Command). Row StandsCommand (cs ++ more) (record { text = text; line = 1 }) end) (sym e) r;
  within = omega arith;
  boundary = boundary;
}

pub commands_more : (text : List ℕ) (at line : ℕ) (commands following : List Command) (next : Next) → CommandsSoFar text at line commands → FirstFrom text at line (Ok (Some next)) → IsCharBoundary text next.end → following ≡ commands ++ next.command ∷ [] → CommandsSoFar text next.end next.line following
commands_more text at line commands following next so_far first boundary e = record {
  row = λ more end r.
      subst (λ (cs : List Command). Row StandsCommand cs (record { text = text; line = 1 }) end) (sym (append_assoc commands (next.command ∷ []) more) ∙ ap (λ (cs : List Command). cs ++ more) (sym e))
      (so_far.row (next.command ∷ more) end (record { text = drop next.end text; line = next.line }, first.0, r));
  within = first.2;
  boundary = boundary;
}

pub commands_all : (text : List ℕ) (at line : ℕ) (commands : List Command) → CommandsSoFar text at line commands → FirstFrom text at line (Ok None) → Splits text (Ok commands)
commands_all text at line commands so_far none =
    subst (λ (cs : List Command). Row StandsCommand cs (record { text = text; line = 1 }) None) (append-nil commands) (so_far.row [] None none)

pub commands_error : (text : List ℕ) (at line : ℕ) (commands : List Command) (fault : At TclKind) → CommandsSoFar text at line commands → FirstFrom text at line (Err fault) → Splits text (Err fault)
commands_error text at line commands fault so_far first =
    (commands, subst (λ (cs : List Command). Row StandsCommand cs (record { text = text; line = 1 }) (Some fault)) (append-nil commands) (so_far.row [] (Some fault) first))

pub commands_stop : (text : List ℕ) (at line : ℕ) (commands : List Command) (stop : Stop (At TclKind)) → CommandsSoFar text at line commands → Meets {T = Option Next} (Err stop) (FirstFrom text at line) → Meets {T = List Command} (Err stop) (Splits text)
commands_stop text at line commands (Refused fault) so_far m = commands_error text at line commands fault so_far m
commands_stop text at line commands NoMemory so_far m = tt
