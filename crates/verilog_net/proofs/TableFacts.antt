-- Declarations that are found by their names.
use Rattle.std.proofs.Common.{◌≡◌, ◌∙◌, ◌+◌, ◌<◌, ◌≤◌, ◌++◌, ◌∷◌, ℕ, Bool, true, false, cond, List, [], Option, None, Some, String, drop, get_or, length, not, refl, sym, ap}
use Rattle.std.specs.Prelude.{◌||◌, ◌&&◌, if◌then◌else◌}
use Rattle.std.proofs.lemmas.List.{drop_all, drop_more}
use Rattle.std.proofs.lemmas.Map.Text.{hash_map_updates_text}
use Rattle.std.proofs.lemmas.Slice.Eq.{bytes_eq-Decides}
use Rattle.indexmap.specs.IndexMap.{IndexMap, UpdatesBy, get_by_text}
use Rattle.std.specs.List.{find, list_any}
use Rattle.std.specs.Option.{is_some, option_map, option_or}
use Rattle.std.specs.Str.{bytes_eq}
use Rattle.std.specs.String.{string_bytes, string_eq}
use Rattle.sdc_base.proofs.CaseFacts.{by_bool}
use Rattle.netlist_model.specs.VerilogNets.{declaration_of, is_of, is_port, is_port_of}
use Rattle.netlist_model.specs.VerilogSyntax as grammar
use Rattle.text_model.specs.Words.{same_text}
use Rattle.verilog_net.specs.declared.parsing.declarations.Declared.{Declared}
use Rattle.verilog_net.specs.Names.{better, entry_seen, ports_only, with_entries, with_entry}
use Rattle.verilog_net.specs.Syntax.{declared_seen, declareds_seen}

-- ---- one more declaration

pub changed : (kept : Declared) (found : Option Declared) (t : Bool) → option_map declared_seen (cond t (Some kept) found) ≡ cond t (Some (declared_seen kept)) (option_map declared_seen found)
changed kept found true = refl
changed kept found false = refl

same_known : (d : grammar.Declared) (known found : Option grammar.Declared) (t : Bool) → (t ≡ true → known ≡ found) → cond t (Some (better known d)) found ≡ cond t (Some (better found d)) found
same_known d known found true h = ap (λ (k : Option grammar.Declared). Some (better k d)) (h refl)
same_known d known found false h = refl

pub entry_added : {A S : Type 0} (old new : IndexMap (String A) Declared S) (key name : List ℕ) (kept d : Declared) (known : Option Declared) → key ≡ d.name.text.now → known ≡ get_by_text old d.name.text.now
    → declared_seen kept ≡ better (option_map declared_seen known) (declared_seen d) → UpdatesBy string_eq (λ k. bytes_eq key (string_bytes k)) old new (Some kept)
    → entry_seen new name ≡ with_entry (declared_seen d) name (entry_seen old name)
entry_added old new key name kept d known key_is known_is kept_is updates =
    let here : same_text d.name.text.now name ≡ true → option_map declared_seen known ≡ entry_seen old name =
    λ same. ap (option_map declared_seen) known_is ∙ ap (entry_seen old) ((bytes_eq-Decides d.name.text.now name).0 same) in
    ap (option_map declared_seen) (hash_map_updates_text key old new (Some kept) updates name)
    ∙ (changed kept (get_by_text old name) (bytes_eq key name)
    ∙ (ap (λ (k : List ℕ). cond (same_text k name) (Some (declared_seen kept)) (entry_seen old name)) key_is
    ∙ (ap (λ (s : grammar.Declared). cond (same_text d.name.text.now name) (Some s) (entry_seen old name)) kept_is
    ∙ same_known (declared_seen d) (option_map declared_seen known) (entry_seen old name) (same_text d.name.text.now name) here)))

-- ---- all declarations

-- the one that gives the range, where one is known already
abbrev pub known_or : Option grammar.Declared → Option grammar.Declared → Option grammar.Declared → Option grammar.Declared
known_or None port first = option_or port first
known_or (Some known) port first = if is_port known then Some known else option_or port (Some known)

known_step : (d : grammar.Declared) (known port first : Option grammar.Declared) (t : Bool)
    → known_or (cond t (Some (better known d)) known) port first ≡ known_or known (cond (is_port d && t) (Some d) port) (cond t (Some d) first)
known_step d None port first true = by_bool (λ p. (if p then Some d else option_or port (Some d)) ≡ option_or (cond (p && true) (Some d) port) (Some d)) (is_port d) (λ e. refl) (λ e. refl)
known_step d None port first false = by_bool (λ p. option_or port first ≡ option_or (cond (p && false) (Some d) port) first) (is_port d) (λ e. refl) (λ e. refl)
known_step d (Some known) port first true =
    by_bool (λ p. (if is_port (if p && not (is_port known) then d else known) then Some (if p && not (is_port known) then d else known) else option_or port (Some (if p && not (is_port known) then d else known)))
    ≡ (if is_port known then Some known else option_or (cond (p && true) (Some d) port) (Some known))) (is_port d)
    (λ is_one. by_bool (λ q. (if is_port (if true && not q then d else known) then Some (if true && not q then d else known) else option_or port (Some (if true && not q then d else known)))
    ≡ (if q then Some known else option_or (cond (true && true) (Some d) port) (Some known))) (is_port known) (λ e. rw e refl) (λ e. rw is_one refl))
    (λ is_none. refl)
known_step d (Some known) port first false = by_bool (λ p. (if is_port known then Some known else option_or port (Some known)) ≡ (if is_port known then Some known else option_or (cond (p && false) (Some d) port) (Some known))) (is_port d) (λ e. refl) (λ e. refl)

entries_known : (ds : List grammar.Declared) (name : List ℕ) (known : Option grammar.Declared) → with_entries ds name known ≡ known_or known (find (is_port_of name) ds) (find (is_of name) ds)
entries_known [] name None = refl
entries_known [] name (Some known) = by_bool (λ p. Some known ≡ (if p then Some known else Some known)) (is_port known) (λ e. refl) (λ e. refl)
entries_known (d ∷ ds) name known =
    entries_known ds name (with_entry d name known)
    ∙ known_step d known (find (is_port_of name) ds) (find (is_of name) ds) (is_of name d)

pub entries_are : (ds : List grammar.Declared) (name : List ℕ) → with_entries ds name None ≡ declaration_of ds name
entries_are ds name = entries_known ds name None

-- what is known so far, with the declarations that are left, is what is known of all
abbrev pub EntriesSoFar : {A S : Type 0} → IndexMap (String A) Declared S → IndexMap (String A) Declared S → List Declared → List Declared → Type 0
EntriesSoFar start now rest all = (name : List ℕ) → with_entries (declareds_seen rest) name (entry_seen now name) ≡ with_entries (declareds_seen all) name (entry_seen start name)

pub one_entry : {A S : Type 0} (start now after : IndexMap (String A) Declared S) (all : List Declared) (i : ℕ) (d : Declared) → i < length all → EntriesSoFar start now (drop i all) all
    → ((name : List ℕ) → entry_seen after name ≡ with_entry (declared_seen (get_or all i d)) name (entry_seen now name)) → EntriesSoFar start after (drop (i + 1) all) all
one_entry start now after all i d inside so_far step name =
    ap (with_entries (declareds_seen (drop (i + 1) all)) name) (step name)
    ∙ (ap (λ (ds : List Declared). with_entries (declareds_seen ds) name (entry_seen now name)) (sym (drop_more all i d inside)) ∙ so_far name)

pub all_entries : {A S : Type 0} (start now : IndexMap (String A) Declared S) (all : List Declared) (i : ℕ) → length all ≤ i → EntriesSoFar start now (drop i all) all
    → (name : List ℕ) → entry_seen now name ≡ with_entries (declareds_seen all) name (entry_seen start name)
all_entries start now all i end so_far name =
    ap (λ (ds : List Declared). with_entries (declareds_seen ds) name (entry_seen now name)) (sym (drop_all i all end)) ∙ so_far name

-- a table that began with nothing
pub entries_tied : {A S : Type 0} (start now : IndexMap (String A) Declared S) (all : List Declared) → ((name : List ℕ) → get_by_text start name ≡ None)
    → ((name : List ℕ) → entry_seen now name ≡ with_entries (declareds_seen all) name (entry_seen start name)) → (name : List ℕ) → entry_seen now name ≡ declaration_of (declareds_seen all) name
entries_tied start now all none is name =
    is name ∙ (ap (λ (o : Option Declared). with_entries (declareds_seen all) name (option_map declared_seen o)) (none name) ∙ entries_are (declareds_seen all) name)

-- ---- ports

some_is : (a b : grammar.Declared) → ◌≡◌ {A = Option grammar.Declared} (Some a) (Some b) → a ≡ b
some_is a b h = cc

port_step : (x f : grammar.Declared) (rest : Option grammar.Declared) (p q : Bool) → p ≡ is_port x → (rest ≡ Some f → is_port f ≡ true) → cond (p && q) (Some x) rest ≡ Some f → is_port f ≡ true
port_step x f rest true true e more h = sym (e ∙ ap is_port (some_is x f h))
port_step x f rest true false e more h = more h
port_step x f rest false q e more h = more h

port_is : (ds : List grammar.Declared) (name : List ℕ) (f : grammar.Declared) → find (is_port_of name) ds ≡ Some f → is_port f ≡ true
port_is [] name f h = cc
port_is (d ∷ ds) name f h = port_step d f (find (is_port_of name) ds) (is_port d) (is_of name d) refl (port_is ds name f) h

other_step : (x d : grammar.Declared) (port first : Option grammar.Declared) (p q : Bool) → p ≡ is_port x → (port ≡ None → first ≡ Some d → is_port d ≡ false)
    → cond (p && q) (Some x) port ≡ None → cond q (Some x) first ≡ Some d → is_port d ≡ false
other_step x d port first true true e more h g = cc
other_step x d port first false true e more h g = sym (e ∙ ap is_port (some_is x d g))
other_step x d port first true false e more h g = more h g
other_step x d port first false false e more h g = more h g

no_port : (ds : List grammar.Declared) (name : List ℕ) (d : grammar.Declared) → find (is_port_of name) ds ≡ None → find (is_of name) ds ≡ Some d → is_port d ≡ false
no_port [] name d h g = cc
no_port (x ∷ ds) name d h g = other_step x d (find (is_port_of name) ds) (find (is_of name) ds) (is_port x) (is_of name x) refl (no_port ds name d) h g

ports_case : (ds : List grammar.Declared) (name : List ℕ) (port first : Option grammar.Declared) → find (is_port_of name) ds ≡ port → find (is_of name) ds ≡ first → port ≡ ports_only (option_or port first)
ports_case ds name (Some f) first e g = rw (port_is ds name f e) refl
ports_case ds name None None e g = refl
ports_case ds name None (Some d) e g = rw (no_port ds name d e g) refl

-- the declaration of a name as a port is the one that gives its range, if that is one of a port
pub ports_are : (ds : List grammar.Declared) (name : List ℕ) → find (is_port_of name) ds ≡ ports_only (declaration_of ds name)
ports_are ds name = ports_case ds name (find (is_port_of name) ds) (find (is_of name) ds) refl refl

any_step : (x : grammar.Declared) (rest : Option grammar.Declared) (any : Bool) → any ≡ is_some rest → (t : Bool) → (t || any) ≡ is_some (cond t (Some x) rest)
any_step x rest any e true = refl
any_step x rest any e false = e

pub any_port : (ds : List grammar.Declared) (name : List ℕ) → list_any (is_port_of name) ds ≡ is_some (find (is_port_of name) ds)
any_port [] name = refl
any_port (x ∷ ds) name = any_step x (find (is_port_of name) ds) (list_any (is_port_of name) ds) (any_port ds name) (is_port_of name x)

pub port_declared : (ds : List grammar.Declared) (name : List ℕ) (o : Option Declared) → option_map declared_seen o ≡ find (is_port_of name) ds → is_some o ≡ list_any (is_port_of name) ds
port_declared ds name o is = some_seen o ∙ (ap is_some is ∙ sym (any_port ds name)) where
  some_seen : (o : Option Declared) → is_some o ≡ is_some (option_map declared_seen o)
  some_seen None = refl
  some_seen (Some d) = refl
