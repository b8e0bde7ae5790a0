-- Names of a netlist without faults are each the name of one thing: of one module, and in a module of one net.
use Rattle.std.proofs.lemmas.Bool.{both_ways, or_cases, or_from, or_left, or_parts, or_right}
use Rattle.text_model.proofs.SameTexts.{text_same}
use Rattle.sdc_base.proofs.CaseFacts.{by_bool}
use Rattle.text_model.proofs.EachItem.{both_nothing, unless}
use Rattle.netlist_model.specs.Ranges.{width}
use Rattle.netlist_model.specs.Verilog.{is_second, is_wire, repeated, seconds}
use Rattle.netlist_model.specs.VerilogNets.{direction_of, is_of, is_port, is_port_of, new_wires, port_of}
use Rattle.netlist_model.specs.VerilogSyntax.{Declared, port, Role, tied, wire}
use Rattle.netlist_model.specs.VerilogTokens.{Token}
use Rattle.text_model.specs.Names.{AreDistinct}
use Rattle.text_model.specs.Words.{is_among, same_text}
use Rattle.pin_types.specs.declared.library_cells.Direction.{Direction}
use Rattle.source_types.specs.declared.netlists.Port.{Port}
use Rattle.source_types.specs.declared.netlists.Wire.{Wire}
use Rattle.std.proofs.Common.{◌++◌, ◌||◌, ◌∷◌, ◌≡◌, [], ap, Bool, false, inl, inr, List, map, None, Option, refl, slice_get, Some, subst, suc, sym, true, zero, ℕ}
use Rattle.std.proofs.lemmas.List.Folds.{list_any-append}
use Rattle.std.specs.List.{cons_option, filter_map, find, list_any}
use Rattle.std.specs.Prelude.{◌&&◌, ◌==◌, filter, if◌then◌else◌, not}
use Rattle.token_grammar.proofs.Derivations.{by_option}

-- ---- names none of which stands after the same one

abbrev pub Fresh : List (List ℕ) → List (List ℕ) → Type 0
Fresh before [] = Unit {0}
Fresh before (name ∷ names) = (is_among before name ≡ false) × Fresh (name ∷ before) names

among_not : (before names : List (List ℕ)) → Fresh before names → (i : ℕ) (name : List ℕ) → slice_get names i ≡ Some name → is_among before name ≡ false
among_not before [] f i name e = cc
among_not before (n ∷ names) f zero name e = let same : n ≡ name = cc in subst (λ (m : List ℕ). is_among before m ≡ false) same f.0
among_not before (n ∷ names) f (suc i) name e = (or_parts (same_text n name) (is_among before name) (among_not (n ∷ before) names f.1 i name e)).1

apart_later : (before names : List (List ℕ)) (first name : List ℕ) (i : ℕ) → Fresh (first ∷ before) names → slice_get names i ≡ Some name → first ≡ name → ⊥
apart_later before names first name i f e same =
    let no = (or_parts (same_text first name) (is_among before name) (among_not (first ∷ before) names f i name e)).0 in
    both_ways (same_text first name) no (subst (λ (m : List ℕ). same_text first m ≡ true) same (text_same first))

pub distinct : (before names : List (List ℕ)) → Fresh before names → AreDistinct names
distinct before [] f i j name e g = cc
distinct before (n ∷ names) f zero zero name e g = refl
distinct before (n ∷ names) f zero (suc j) name e g = absurd (apart_later before names n name j f.1 g cc)
distinct before (n ∷ names) f (suc i) zero name e g = absurd (apart_later before names n name i f.1 e cc)
distinct before (n ∷ names) f (suc i) (suc j) name e g = ap suc (distinct (n ∷ before) names f.1 i j name e g)

-- names that are among fewer
abbrev Fewer : List (List ℕ) → List (List ℕ) → Type 0
Fewer small big = (name : List ℕ) → is_among big name ≡ false → is_among small name ≡ false

fewer_both : (small big : List (List ℕ)) (first : List ℕ) → Fewer small big → Fewer (first ∷ small) (first ∷ big)
fewer_both small big first fewer name h =
    let parts = or_parts (same_text first name) (is_among big name) h in
    or_from (same_text first name) (is_among small name) parts.0 (fewer name parts.1)

weaker : (small big names : List (List ℕ)) → Fewer small big → Fresh big names → Fresh small names
weaker small big [] fewer f = tt
weaker small big (n ∷ names) fewer f = (fewer n f.0, weaker (n ∷ small) (n ∷ big) names (fewer_both small big n fewer) f.1)

without : (before names : List (List ℕ)) (first : List ℕ) → Fresh (first ∷ before) names → Fresh before names
without before names first f = weaker before (first ∷ before) names (λ name h. (or_parts (same_text first name) (is_among before name) h).1) f

-- ---- names in a row, after names

abbrev piled : List (List ℕ) → List (List ℕ) → List (List ℕ)
piled before [] = before
piled before (name ∷ names) = piled (name ∷ before) names

fresh_append : (before first second : List (List ℕ)) → Fresh before first → Fresh (piled before first) second → Fresh before (first ++ second)
fresh_append before [] second f g = g
fresh_append before (n ∷ first) second f g = (f.0, fresh_append (n ∷ before) first second f.1 g)

piled_among : (before names : List (List ℕ)) (name : List ℕ) → is_among before name ≡ false → is_among names name ≡ false → is_among (piled before names) name ≡ false
piled_among before [] name h k = h
piled_among before (n ∷ names) name h k =
    let parts = or_parts (same_text n name) (is_among names name) k in
    piled_among (n ∷ before) names name (or_from (same_text n name) (is_among before name) parts.0 h) parts.1

-- ---- tokens of a list, and new wires

pub tokens_fresh : (before : List (List ℕ)) (tokens : List Token) → repeated before tokens ≡ [] → Fresh before (map (λ (token : Token). token.text) tokens)
tokens_fresh before [] h = tt
tokens_fresh before (token ∷ tokens) h =
    let parts = both_nothing (if is_among before token.text then token ∷ [] else []) (repeated (token.text ∷ before) tokens) h in
    (unless (is_among before token.text) token parts.0, tokens_fresh (token.text ∷ before) tokens parts.1)

abbrev pub wire_names : List Wire → List (List ℕ)
wire_names ws = map (λ (w : Wire). w.name) ws

wires_fresh : (names : List (List ℕ)) (ws : List Wire) → Fresh names (wire_names (new_wires names ws))
wires_fresh names [] = tt
wires_fresh names (w ∷ ws) =
    by_bool (λ b. Fresh names (wire_names (if b then new_wires names ws else w ∷ new_wires (w.name ∷ names) ws))) (is_among names w.name)
    (λ among. wires_fresh names ws)
    (λ apart. (apart, wires_fresh (w.name ∷ names) ws))

-- ---- ports

-- declarations that are ports
abbrev pub ArePorts : List Declared → Type 0
ArePorts [] = Unit {0}
ArePorts (d ∷ ds) = (is_port d ≡ true) × ArePorts ds

pub ports_append : (xs ys : List Declared) → ArePorts xs → ArePorts ys → ArePorts (xs ++ ys)
ports_append [] ys h k = k
ports_append (x ∷ xs) ys h k = (h.0, ports_append xs ys h.1 k)

ports_filter : (test : Declared → Bool) (xs : List Declared) → ArePorts xs → ArePorts (filter test xs)
ports_filter test [] h = tt
ports_filter test (x ∷ xs) h =
    by_bool (λ b. ArePorts (if b then x ∷ filter test xs else filter test xs)) (test x)
    (λ passes. (h.0, ports_filter test xs h.1))
    (λ fails. ports_filter test xs h.1)

no_wire : (role : Role) → elim role [ port direction ↦ true | wire ↦ false | tied value ↦ false ] ≡ true → elim role [ port direction ↦ false | wire ↦ true | tied value ↦ false ] ≡ false
no_wire (port direction) h = refl
no_wire wire h = cc
no_wire (tied value) h = refl

not_one : (a b c d e : Bool) → c ≡ false → b ≡ false → not (((a && b) || (c && d)) && e) ≡ true
not_one true false false d e h k = refl
not_one false false false d e h k = refl
not_one a true c d e h k = cc
not_one a b true d e h k = cc

-- a port after a port of its name is a second one
port_second : (same : List Declared) (d : Declared) → ArePorts same → is_port d ≡ true → (same ≡ [] → ⊥) → is_second same d ≡ true
port_second [] d ports own some = absurd (some refl)
port_second (a ∷ []) d ports own some =
    not_one (is_port a) (is_wire d) (is_wire a) (is_port d) (width a.range == width d.range) (no_wire a.role ports.0) (no_wire d.role own)
port_second (a ∷ b ∷ more) d ports own some = refl

any_filter : (test : Declared → Bool) (xs : List Declared) → list_any test xs ≡ true → filter test xs ≡ [] → ⊥
any_filter test [] h k = cc
any_filter test (x ∷ xs) h k =
    some (test x) (any_filter test xs) h k where
      some : (b : Bool) → (list_any test xs ≡ true → filter test xs ≡ [] → ⊥) → (b || list_any test xs) ≡ true → (if b then x ∷ filter test xs else filter test xs) ≡ [] → ⊥
      some true rest h k = cc
      some false rest h k = rest h k

-- names that some declarations have
abbrev Known : List (List ℕ) → List Declared → Type 0
Known names before = (name : List ℕ) → is_among names name ≡ true → list_any (is_of name) before ≡ true

known_more : (names : List (List ℕ)) (before : List Declared) (d : Declared) → Known names before → Known (d.name.text ∷ names) (before ++ d ∷ [])
known_more names before d known name h =
    rw (list_any-append (is_of name) before (d ∷ []))
    (elim (or_cases (same_text d.name.text name) (is_among names name) h) [
      | inl same ↦ or_right (list_any (is_of name) before) (same_text d.name.text name || false) (or_left (same_text d.name.text name) false same)
      | inr among ↦ or_left (list_any (is_of name) before) (same_text d.name.text name || false) (known name among)
    ])

pub header_fresh : (names : List (List ℕ)) (before header more : List Declared) → Known names before → ArePorts before → ArePorts header → seconds before (header ++ more) ≡ [] → Fresh names (map (λ (d : Declared). d.name.text) header)
header_fresh names before [] more known ports own h = tt
header_fresh names before (d ∷ header) more known ports own h =
    let parts = both_nothing (if is_second (filter (is_of d.name.text) before) d then d.name ∷ [] else []) (seconds (before ++ d ∷ []) (header ++ more)) h in
    let first : is_second (filter (is_of d.name.text) before) d ≡ false = unless (is_second (filter (is_of d.name.text) before) d) d.name parts.0 in (
      apart names before d known ports own.0 first,
      header_fresh (d.name.text ∷ names) (before ++ d ∷ []) header more (known_more names before d known) (ports_append before (d ∷ []) ports (own.0, tt)) own.1 parts.1,
    ) where
      apart : (names : List (List ℕ)) (before : List Declared) (d : Declared) → Known names before → ArePorts before → is_port d ≡ true → is_second (filter (is_of d.name.text) before) d ≡ false → is_among names d.name.text ≡ false
      apart names before d known ports own first =
          by_bool (λ b. is_among names d.name.text ≡ false) (is_among names d.name.text)
          (λ among. absurd (both_ways (is_second (filter (is_of d.name.text) before) d) first (port_second (filter (is_of d.name.text) before) d (ports_filter (is_of d.name.text) before ports) own (any_filter (is_of d.name.text) before (known d.name.text among)))))
          (λ apart. apart)

pub none_known : Known [] []
none_known name h = cc

-- ---- the names of all nets

abbrev pub names_of : List Port → List (List ℕ)
names_of ports = map (λ (p : Port). p.name) ports

port_name : (all : List Declared) (name : List ℕ) (p : Port) → port_of all name ≡ Some p → p.name ≡ name
port_name all name p h = has (find (is_port_of name) all) h where
  has : (o : Option Declared) → (elim o [ None ↦ None | Some d ↦ elim (direction_of d.role) [ None ↦ None | Some direction ↦ Some (record { name = name; direction = direction; range = d.range }) ] ]) ≡ Some p → p.name ≡ name
  has None h = cc
  has (Some d) h = given (direction_of d.role) h where
    given : (o : Option Direction) → (elim o [ None ↦ None | Some direction ↦ Some (record { name = name; direction = direction; range = d.range }) ]) ≡ Some p → p.name ≡ name
    given None h = cc
    given (Some direction) h = cc

ports_fresh : (all : List Declared) (before names : List (List ℕ)) → Fresh before names → Fresh before (names_of (filter_map (port_of all) names))
ports_fresh all before [] f = tt
ports_fresh all before (n ∷ names) f =
    by_option (λ o. Fresh before (names_of (cons_option o (filter_map (port_of all) names)))) (port_of all n)
    (λ p is. put before p n (filter_map (port_of all) names) (port_name all n p is) f.0 (ports_fresh all (n ∷ before) names f.1))
    (λ is. without before (names_of (filter_map (port_of all) names)) n (ports_fresh all (n ∷ before) names f.1)) where
      put : (before : List (List ℕ)) (p : Port) (n : List ℕ) (rest : List Port) → p.name ≡ n → is_among before n ≡ false → Fresh (n ∷ before) (names_of rest) → Fresh before (names_of (p ∷ rest))
      put before p n rest same apart f = (subst (λ (m : List ℕ). is_among before m ≡ false) (sym same) apart, subst (λ (m : List ℕ). Fresh (m ∷ before) (names_of rest)) (sym same) f)

port_among : (all : List Declared) (names : List (List ℕ)) (name : List ℕ) → is_among names name ≡ false → is_among (names_of (filter_map (port_of all) names)) name ≡ false
port_among all [] name h = refl
port_among all (n ∷ names) name h =
    let parts = or_parts (same_text n name) (is_among names name) h in
    by_option (λ o. is_among (names_of (cons_option o (filter_map (port_of all) names))) name ≡ false) (port_of all n)
    (λ p is. let same : same_text p.name name ≡ false = subst (λ (m : List ℕ). same_text m name ≡ false) (sym (port_name all n p is)) parts.0 in
    or_from (same_text p.name name) (is_among (names_of (filter_map (port_of all) names)) name) same (port_among all names name parts.1))
    (λ is. port_among all names name parts.1)

pub nets_fresh : (all : List Declared) (names : List (List ℕ)) (ws : List Wire) → Fresh [] names → Fresh [] (names_of (filter_map (port_of all) names) ++ wire_names (new_wires names ws))
nets_fresh all names ws f =
    fresh_append [] (names_of (filter_map (port_of all) names)) (wire_names (new_wires names ws)) (ports_fresh all [] names f)
    (weaker (piled [] (names_of (filter_map (port_of all) names))) names (wire_names (new_wires names ws))
    (λ name h. piled_among [] (names_of (filter_map (port_of all) names)) name refl (port_among all names name h))
    (wires_fresh names ws))
