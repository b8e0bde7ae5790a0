-- Names that stand after the same name, name by name.
use Rattle.std.proofs.Common.{◌≡◌, ◌∙◌, ◌≤◌, ◌++◌, ◌∷◌, ℕ, Bool, true, false, cond, List, [], Option, None, Some, String, append_assoc, drop, length, refl, sym, ap}
use Rattle.std.specs.Prelude.{if◌then◌else◌}
use Rattle.std.proofs.lemmas.List.{append-nil, drop_all}
use Rattle.std.proofs.lemmas.List.Elements.{filter-append}
use Rattle.std.proofs.lemmas.Map.Text.{hash_map_updates_text}
use Rattle.std.proofs.lemmas.Slice.Eq.{bytes_eq-Decides}
use Rattle.indexmap.specs.IndexMap.{IndexMap, UpdatesBy, get_by_text}
use Rattle.indexmap.specs.IndexSet.{IndexSet}
use Rattle.std.specs.List.{filter}
use Rattle.std.specs.Option.{option_map}
use Rattle.std.specs.Str.{bytes_eq}
use Rattle.std.specs.String.{string_bytes, string_eq}
use Rattle.netlist_model.specs.Verilog as spec
use Rattle.netlist_model.specs.VerilogNets.{is_of}
use Rattle.netlist_model.specs.VerilogSyntax as syntax
use Rattle.text_model.specs.Words.{is_among, same_text}
use Rattle.pin_types.specs.declared.library_cells.Direction.TheVariants.{Input}
use Rattle.verilog_net.proofs.KindFacts.{no_token}
use Rattle.verilog_net.specs.declared.parsing.declarations.Declared.{Declared}
use Rattle.verilog_net.specs.declared.parsing.declarations.Role.TheVariants.{Port}
use Rattle.verilog_net.specs.declared.checking.repeats.Earlier.{Earlier}
use Rattle.verilog_net.specs.declared.lexing.tokens.Token.{Token}
use Rattle.verilog_net.specs.Contexts.{HasNames}
use Rattle.verilog_net.specs.Faults.{HasEarlier, earlier_of, earlier_seen, is_second_of, one_later}
use Rattle.verilog_net.specs.Seen.{token_seen, tokens_seen}
use Rattle.verilog_net.specs.Syntax.{declared_seen, declareds_seen}

-- ---- names

-- the names that were found so far, with those among the rest, are all
pub record RepeatedSoFar {A S : Type 0} (before : IndexSet (String A) S) (found rest all : List Token) : Type 0 where
  pub listed : List (List ℕ)
  pub has : HasNames before listed
  pub same : tokens_seen found ++ spec.repeated listed (tokens_seen rest) ≡ spec.repeated [] (tokens_seen all)

pub none_repeated : {A S : Type 0} (before : IndexSet (String A) S) (found all : List Token) → HasNames before [] → found ≡ [] → RepeatedSoFar before found all all
none_repeated before found all has none = record {
  listed = [];
  has = has;
  same = ap (λ (ts : List Token). tokens_seen ts ++ spec.repeated [] (tokens_seen all)) none;
}

pub one_repeated : {A S : Type 0} (before after : IndexSet (String A) S) (found more rest others all : List Token) (name : Token) → RepeatedSoFar before found rest all → rest ≡ name ∷ others
    → ((listed : List (List ℕ)) → HasNames before listed → tokens_seen more ≡ tokens_seen found ++ (if is_among listed name.text.now then token_seen name ∷ [] else []))
    → ((listed : List (List ℕ)) → HasNames before listed → HasNames after (name.text.now ∷ listed)) → RepeatedSoFar after more others all
one_repeated before after found more rest others all name so_far here found_is names_are = record {
  listed = name.text.now ∷ so_far.listed;
  has = names_are so_far.listed so_far.has;
  same =
      ap (λ ts. ts ++ spec.repeated (name.text.now ∷ so_far.listed) (tokens_seen others)) (found_is so_far.listed so_far.has)
      ∙ (append_assoc (tokens_seen found) (if is_among so_far.listed name.text.now then token_seen name ∷ [] else []) (spec.repeated (name.text.now ∷ so_far.listed) (tokens_seen others))
      ∙ (ap (λ (ts : List Token). tokens_seen found ++ spec.repeated so_far.listed (tokens_seen ts)) (sym here) ∙ so_far.same));
}

pub all_repeated : {A S : Type 0} (before : IndexSet (String A) S) (found all : List Token) (i : ℕ) → RepeatedSoFar before found (drop i all) all → length all ≤ i → tokens_seen found ≡ spec.repeated [] (tokens_seen all)
all_repeated before found all i so_far end =
    sym (append-nil (tokens_seen found)) ∙ (ap (λ (ts : List Token). tokens_seen found ++ spec.repeated so_far.listed (tokens_seen ts)) (sym (drop_all i all end)) ∙ so_far.same)

-- ---- declarations

second_is : (before : List syntax.Declared) (d : syntax.Declared) → spec.is_second before d ≡ is_second_of (earlier_of before) d
second_is [] d = refl
second_is (a ∷ []) d = refl
second_is (a ∷ b ∷ ds) d = refl

pub second_known : {A S : Type 0} (known : IndexMap (String A) Earlier S) (before : List syntax.Declared) (found : Option Earlier) (d : Declared) (b : Bool) → HasEarlier known before → found ≡ get_by_text known d.name.text.now
    → b ≡ is_second_of (option_map earlier_seen found) (declared_seen d) → b ≡ spec.is_second (filter (is_of d.name.text.now) before) (declared_seen d)
second_known known before found d b has found_is is =
    is
    ∙ (ap (λ (o : Option Earlier). is_second_of (option_map earlier_seen o) (declared_seen d)) found_is
    ∙ (ap (λ (o : Option (syntax.Declared × Bool)). is_second_of o (declared_seen d)) (has d.name.text.now)
    ∙ sym (second_is (filter (is_of d.name.text.now) before) (declared_seen d))))

later_is : (before : List syntax.Declared) (d : syntax.Declared) → earlier_of (before ++ d ∷ []) ≡ Some (one_later (earlier_of before) d)
later_is [] d = refl
later_is (a ∷ []) d = refl
later_is (a ∷ b ∷ ds) d = refl

changed : (kept : Earlier) (found : Option Earlier) (t : Bool) → option_map earlier_seen (cond t (Some kept) found) ≡ cond t (Some (earlier_seen kept)) (option_map earlier_seen found)
changed kept found true = refl
changed kept found false = refl

-- the declarations of a name, one more among them
among_step : (before : List syntax.Declared) (name : List ℕ) (d : syntax.Declared) (known : Option (syntax.Declared × Bool)) (t : Bool) → (t ≡ true → known ≡ earlier_of (filter (is_of name) before))
    → cond t (Some (one_later known d)) (earlier_of (filter (is_of name) before)) ≡ earlier_of (filter (is_of name) before ++ cond t (d ∷ []) [])
among_step before name d known true h = ap (λ (k : Option (syntax.Declared × Bool)). Some (one_later k d)) (h refl) ∙ sym (later_is (filter (is_of name) before) d)
among_step before name d known false h = ap earlier_of (sym (append-nil (filter (is_of name) before)))

filter_one : (name : List ℕ) (d : syntax.Declared) (t : Bool) → cond t (d ∷ filter (is_of name) []) (filter (is_of name) []) ≡ cond t (d ∷ []) []
filter_one name d true = refl
filter_one name d false = refl

pub known_added : {A S : Type 0} (old new : IndexMap (String A) Earlier S) (key : List ℕ) (later : Earlier) (d : Declared) (known : Option Earlier) (before : List syntax.Declared) → key ≡ d.name.text.now → known ≡ get_by_text old d.name.text.now
    → earlier_seen later ≡ one_later (option_map earlier_seen known) (declared_seen d) → UpdatesBy string_eq (λ k. bytes_eq key (string_bytes k)) old new (Some later)
    → HasEarlier old before → HasEarlier new (before ++ declared_seen d ∷ [])
known_added old new key later d known before key_is known_is later_seen updates has name =
    let here : same_text d.name.text.now name ≡ true → option_map earlier_seen known ≡ earlier_of (filter (is_of name) before) =
    λ same. ap (option_map earlier_seen) known_is ∙ (ap (λ (n : List ℕ). option_map earlier_seen (get_by_text old n)) ((bytes_eq-Decides d.name.text.now name).0 same) ∙ has name) in
    ap (option_map earlier_seen) (hash_map_updates_text key old new (Some later) updates name)
    ∙ (changed later (get_by_text old name) (bytes_eq key name)
    ∙ (ap (λ (k : List ℕ). cond (same_text k name) (Some (earlier_seen later)) (option_map earlier_seen (get_by_text old name))) key_is
    ∙ (ap (λ (e : syntax.Declared × Bool). cond (same_text d.name.text.now name) (Some e) (option_map earlier_seen (get_by_text old name))) later_seen
    ∙ (ap (λ (o : Option (syntax.Declared × Bool)). cond (same_text d.name.text.now name) (Some (one_later (option_map earlier_seen known) (declared_seen d))) o) (has name)
    ∙ (among_step before name (declared_seen d) (option_map earlier_seen known) (same_text d.name.text.now name) here
    ∙ (ap (λ (ds : List syntax.Declared). earlier_of (filter (is_of name) before ++ ds)) (sym (filter_one name (declared_seen d) (same_text d.name.text.now name)))
    ∙ ap earlier_of (sym (filter-append (is_of name) before (declared_seen d ∷ [])))))))))

-- the declaration that stands where there is none
abbrev pub no_declared : Declared
no_declared = record { name = no_token; role = Port Input; range = None }

-- the names that were found so far, with those among the rest, are all
pub record SecondsSoFar {A S : Type 0} (known : IndexMap (String A) Earlier S) (found : List Token) (rest all : List Declared) : Type 0 where
  pub before : List syntax.Declared
  pub has : HasEarlier known before
  pub same : tokens_seen found ++ spec.seconds before (declareds_seen rest) ≡ spec.seconds [] (declareds_seen all)

pub no_seconds : {A S : Type 0} (known : IndexMap (String A) Earlier S) (found : List Token) (all : List Declared) → HasEarlier known [] → found ≡ [] → SecondsSoFar known found all all
no_seconds known found all has none = record {
  before = [];
  has = has;
  same = ap (λ (ts : List Token). tokens_seen ts ++ spec.seconds [] (declareds_seen all)) none;
}

pub one_second : {A S : Type 0} (known after : IndexMap (String A) Earlier S) (found more : List Token) (rest others all : List Declared) (d : Declared) → SecondsSoFar known found rest all → rest ≡ d ∷ others
    → ((before : List syntax.Declared) → HasEarlier known before → tokens_seen more ≡ tokens_seen found ++ (if spec.is_second (filter (is_of d.name.text.now) before) (declared_seen d) then token_seen d.name ∷ [] else []))
    → ((before : List syntax.Declared) → HasEarlier known before → HasEarlier after (before ++ declared_seen d ∷ [])) → SecondsSoFar after more others all
one_second known after found more rest others all d so_far here found_is known_are = record {
  before = so_far.before ++ declared_seen d ∷ [];
  has = known_are so_far.before so_far.has;
  same =
      ap (λ ts. ts ++ spec.seconds (so_far.before ++ declared_seen d ∷ []) (declareds_seen others)) (found_is so_far.before so_far.has)
      ∙ (append_assoc (tokens_seen found) (if spec.is_second (filter (is_of d.name.text.now) so_far.before) (declared_seen d) then token_seen d.name ∷ [] else []) (spec.seconds (so_far.before ++ declared_seen d ∷ []) (declareds_seen others))
      ∙ (ap (λ (ds : List Declared). tokens_seen found ++ spec.seconds so_far.before (declareds_seen ds)) (sym here) ∙ so_far.same));
}

pub all_seconds : {A S : Type 0} (known : IndexMap (String A) Earlier S) (found : List Token) (all : List Declared) (i : ℕ) → SecondsSoFar known found (drop i all) all → length all ≤ i → tokens_seen found ≡ spec.seconds [] (declareds_seen all)
all_seconds known found all i so_far end =
    sym (append-nil (tokens_seen found)) ∙ (ap (λ (ds : List Declared). tokens_seen found ++ spec.seconds so_far.before (declareds_seen ds)) (sym (drop_all i all end)) ∙ so_far.same)
