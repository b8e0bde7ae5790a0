-- Ports and nets, name by name.
use Rattle.std.proofs.Common.{◌≡◌, ◌∙◌, ◌≤◌, ◌++◌, ◌∷◌, ℕ, false, List, [], Option, None, Some, String, append_assoc, drop, length, refl, sym, ap}
use Rattle.std.specs.Prelude.{◌||◌, if◌then◌else◌}
use Rattle.std.proofs.Math.Bool.{or-false}
use Rattle.std.proofs.lemmas.List.{append-nil, drop_all}
use Rattle.indexmap.specs.IndexSet.{IndexSet}
use Rattle.std.specs.List.{cons_option, filter_map}
use Rattle.std.specs.Option.{option_to_list}
use Rattle.sdc_base.proofs.CaseFacts.{by_bool, or_turned}
use Rattle.source_types.specs.declared.netlists.Wire.{Wire}
use Rattle.netlist_model.specs.VerilogNets as spec
use Rattle.netlist_model.specs.VerilogSyntax as syntax
use Rattle.text_model.specs.Words.{is_among, same_text}
use Rattle.verilog_net.specs.declared.meaning.nets.Candidate.{Candidate}
use Rattle.verilog_net.specs.declared.lexing.tokens.Token.{Token}
use Rattle.verilog_net.specs.Contexts.{HasNames}
use Rattle.verilog_net.specs.Seen.{tokens_seen}
use Rattle.verilog_net.specs.Wires.{AddsWire, candidate_seen, candidates_seen, taken_after, texts}

pub texts_append : (xs ys : List Token) → texts (tokens_seen (xs ++ ys)) ≡ texts (tokens_seen xs) ++ texts (tokens_seen ys)
texts_append [] ys = refl
texts_append (x ∷ xs) ys = ap (λ ns. x.text.now ∷ ns) (texts_append xs ys)

option_front : {X : Type 0} (o : Option X) (rest : List X) → cons_option o rest ≡ option_to_list o ++ rest
option_front None rest = refl
option_front (Some x) rest = refl

pub port_more : (all : List syntax.Declared) (name : List ℕ) (names : List (List ℕ)) → filter_map (spec.port_of all) (name ∷ names) ≡ option_to_list (spec.port_of all name) ++ filter_map (spec.port_of all) names
port_more all name names = option_front (spec.port_of all name) (filter_map (spec.port_of all) names)

pub used_more : (all : List syntax.Declared) (piece : syntax.Piece) (pieces : List syntax.Piece) → filter_map (spec.used_wire all) (piece ∷ pieces) ≡ option_to_list (spec.used_wire all piece) ++ filter_map (spec.used_wire all) pieces
used_more all piece pieces = option_front (spec.used_wire all piece) (filter_map (spec.used_wire all) pieces)

-- ---- a set of names

pub record NamesSoFar {A S : Type 0} (set : IndexSet (String A) S) (rest all : List Token) : Type 0 where
  pub listed : List (List ℕ)
  pub has : HasNames set listed
  pub same : (name : List ℕ) → (is_among listed name || is_among (texts (tokens_seen rest)) name) ≡ is_among (texts (tokens_seen all)) name

pub no_names : {A S : Type 0} (set : IndexSet (String A) S) (all : List Token) → HasNames set [] → NamesSoFar set all all
no_names set all has = record { listed = []; has = has; same = λ name. refl }

pub one_name : {A S : Type 0} (set after : IndexSet (String A) S) (rest later all : List Token) (token : Token) → NamesSoFar set rest all → rest ≡ token ∷ later
    → ((listed : List (List ℕ)) → HasNames set listed → HasNames after (token.text.now ∷ listed)) → NamesSoFar after later all
one_name set after rest later all token so_far here names_are = record {
  listed = token.text.now ∷ so_far.listed;
  has = names_are so_far.listed so_far.has;
  same = λ name.
      or_turned (same_text token.text.now name) (is_among so_far.listed name) (is_among (texts (tokens_seen later)) name)
      ∙ (ap (λ (ts : List Token). is_among so_far.listed name || is_among (texts (tokens_seen ts)) name) (sym here) ∙ so_far.same name);
}

pub all_names : {A S : Type 0} (set : IndexSet (String A) S) (all : List Token) (i : ℕ) → NamesSoFar set (drop i all) all → length all ≤ i → HasNames set (texts (tokens_seen all))
all_names set all i so_far end name =
    so_far.has name
    ∙ (sym (or-false (is_among so_far.listed name))
    ∙ (ap (λ (ts : List Token). is_among so_far.listed name || is_among (texts (tokens_seen ts)) name) (sym (drop_all i all end)) ∙ so_far.same name))

-- ---- nets whose names are new

wires_parted : (names : List (List ℕ)) (w : Wire) (ws : List Wire) → spec.new_wires names (w ∷ ws) ≡ spec.new_wires names (w ∷ []) ++ spec.new_wires (taken_after names w) ws
wires_parted names w ws =
    by_bool (λ t. (if t then spec.new_wires names ws else w ∷ spec.new_wires (w.name ∷ names) ws) ≡ (if t then spec.new_wires names [] else w ∷ spec.new_wires (w.name ∷ names) []) ++ spec.new_wires (if t then names else w.name ∷ names) ws)
    (is_among names w.name) (λ e. refl) (λ e. refl)

-- the net that stands where there is none
abbrev pub no_candidate : Candidate
no_candidate = record { name = record { ref_ptr = (0, 0); now = [] }; range = None; tie = None }

pub record NewSoFar {A S : Type 0} (taken : IndexSet (String A) S) (names : List (List ℕ)) (start nets : List Wire) (rest all : List Candidate) : Type 0 where
  pub listed : List (List ℕ)
  pub has : HasNames taken listed
  pub same : nets ++ spec.new_wires listed (candidates_seen rest) ≡ start ++ spec.new_wires names (candidates_seen all)

pub one_added : {A S : Type 0} (taken after : IndexSet (String A) S) (names : List (List ℕ)) (start nets more : List Wire) (rest later all : List Candidate) (net : Candidate) → NewSoFar taken names start nets rest all → rest ≡ net ∷ later
    → ((listed : List (List ℕ)) → HasNames taken listed → AddsWire after listed (candidate_seen net) nets more) → NewSoFar after names start more later all
one_added taken after names start nets more rest later all net so_far here adds =
    let added = adds so_far.listed so_far.has in
    record {
      listed = taken_after so_far.listed (candidate_seen net);
      has = added.names_are;
      same =
          ap (λ ws. ws ++ spec.new_wires (taken_after so_far.listed (candidate_seen net)) (candidates_seen later)) added.nets
          ∙ (append_assoc nets (spec.new_wires so_far.listed (candidate_seen net ∷ [])) (spec.new_wires (taken_after so_far.listed (candidate_seen net)) (candidates_seen later))
          ∙ (ap (λ ws. nets ++ ws) (sym (wires_parted so_far.listed (candidate_seen net) (candidates_seen later)))
          ∙ (ap (λ (cs : List Candidate). nets ++ spec.new_wires so_far.listed (candidates_seen cs)) (sym here) ∙ so_far.same)));
    }

pub all_added : {A S : Type 0} (taken : IndexSet (String A) S) (names : List (List ℕ)) (start nets : List Wire) (all : List Candidate) (i : ℕ) → NewSoFar taken names start nets (drop i all) all → length all ≤ i → nets ≡ start ++ spec.new_wires names (candidates_seen all)
all_added taken names start nets all i so_far end =
    sym (append-nil nets) ∙ (ap (λ (cs : List Candidate). nets ++ spec.new_wires so_far.listed (candidates_seen cs)) (sym (drop_all i all end)) ∙ so_far.same)
