-- Each name of a module without faults has a net of the range that its declarations give.
use Rattle.std.proofs.lemmas.Bool.{and_parts, or_cases}
use Rattle.std.proofs.lemmas.Option.{none-some}
use Rattle.text_model.proofs.SameTexts.{same_is}
use Rattle.sdc_base.proofs.CaseFacts.{by_bool}
use Rattle.netlist_laws.proofs.FaultlessModules.{Faultless, port_declared}
use Rattle.text_model.proofs.Members.{among_in, find_in, find_some, In, in_among, in_either, in_flat, in_left, in_map, in_right}
use Rattle.netlist_laws.proofs.NetBits.{Declares, HasNet, HasNets}
use Rattle.netlist_laws.proofs.NetTexts.{IsFromText}
use Rattle.netlist_model.specs.Verilog.{earlier}
use Rattle.netlist_model.specs.VerilogNets.{declaration_of, declared_wire, direction_of, is_of, is_port, is_port_of, nets_of, new_wires, pieces_in, port_names, port_of, ports_of, range_named, used_wire, wires_in}
use Rattle.netlist_model.specs.VerilogStatements.{assigns, declarations, declared_by, declares, places, Statement, Written}
use Rattle.netlist_model.specs.VerilogSyntax.{bit, constant, Declared, is, part, Piece, port, Role, tied, whole, wire}
use Rattle.netlist_model.specs.VerilogTokens.{Token}
use Rattle.netlist_model.specs.WellFormedNetlist.{net_of_port}
use Rattle.text_model.specs.Words.{is_among, same_text}
use Rattle.pin_types.specs.declared.library_cells.Direction.{Direction}
use Rattle.source_types.specs.declared.netlists.Port.{Port}
use Rattle.source_types.specs.declared.netlists.Range.{Range}
use Rattle.source_types.specs.declared.netlists.Wire.{Wire}
use Rattle.std.proofs.Common.{◌++◌, ◌∙◌, ◌∷◌, ◌≡◌, [], ap, false, inl, inr, List, map, None, Option, refl, Some, subst, sym, true, ℕ}
use Rattle.std.specs.List.{cons_option, filter_map, find, flat_map}
use Rattle.std.specs.Option.{option_or}
use Rattle.std.specs.Prelude.{◌⊎◌, if◌then◌else◌}
use Rattle.token_grammar.proofs.Derivations.{by_option}

-- ---- ports and their nets

role_port : (role : Role) → elim role [ port direction ↦ true | wire ↦ false | tied value ↦ false ] ≡ true → (d : Direction) × (direction_of role ≡ Some d)
role_port (port direction) h = (direction, refl)
role_port wire h = cc
role_port (tied value) h = cc

port_from : (name : List ℕ) (o : Option Declared) (d : Declared) (direction : Direction) → o ≡ Some d → direction_of d.role ≡ Some direction
    → ◌≡◌ {A = Option Port} (elim o [ None ↦ None | Some d ↦ elim (direction_of d.role) [ None ↦ None | Some direction ↦ Some (record { name = name; direction = direction; range = d.range }) ] ]) (Some (record { name = name; direction = direction; range = d.range }))
port_from name o d direction e g = rw e (rw g refl)

range_from : (o p : Option Declared) (d : Declared) → o ≡ Some d → d.range ≡ (elim (option_or o p) [ None ↦ None | Some d ↦ d.range ])
range_from o p d e = rw e refl

port_kept : (all : List Declared) (names : List (List ℕ)) (name : List ℕ) (q : Port) → In name names → port_of all name ≡ Some q → In q (filter_map (port_of all) names)
port_kept all [] name q at is = absurd at
port_kept all (n ∷ names) name q (inl e) is =
    subst (λ o. In q (cons_option o (filter_map (port_of all) names))) (sym (ap (port_of all) (sym e) ∙ is)) (inl refl)
port_kept all (n ∷ names) name q (inr at) is =
    by_option (λ o. In q (cons_option o (filter_map (port_of all) names))) (port_of all n) (λ x _. inr (port_kept all names name q at is)) (λ _. port_kept all names name q at is)

port_net : (m : Written) → IsFromText m → Faultless m → (name : List ℕ) → is_among (port_names m) name ≡ true → HasNet (declarations m) (map net_of_port (ports_of m)) name
port_net m f ok name h =
    let found = find_some (is_port_of name) (declarations m) (port_declared m f ok name h) in
    let at = find_in (is_port_of name) (declarations m) found.0 found.1 in
    let direction = role_port found.0.role (and_parts (is_port found.0) (is_of name found.0) at.1).0 in
    let is = port_from name (find (is_port_of name) (declarations m)) found.0 direction.0 found.1 direction.1 in (
      net_of_port (record { name = name; direction = direction.0; range = found.0.range }),
      in_map net_of_port (record { name = name; direction = direction.0; range = found.0.range }) (ports_of m) (port_kept (declarations m) (port_names m) name (record { name = name; direction = direction.0; range = found.0.range }) (among_in (port_names m) name h) is),
      refl,
      range_from (find (is_port_of name) (declarations m)) (find (is_of name) (declarations m)) found.0 found.1,
    )

-- ---- wires

abbrev Ranged : List Declared → List Wire → Type 0
Ranged all [] = Unit {0}
Ranged all (w ∷ ws) = (w.range ≡ range_named all w.name) × Ranged all ws

ranged_append : (all : List Declared) (xs ys : List Wire) → Ranged all xs → Ranged all ys → Ranged all (xs ++ ys)
ranged_append all [] ys h k = k
ranged_append all (x ∷ xs) ys h k = (h.0, ranged_append all xs ys h.1 k)

declared_ranged : (all ds : List Declared) → Ranged all (map (declared_wire all) ds)
declared_ranged all [] = tt
declared_ranged all (d ∷ ds) = (refl, declared_ranged all ds)

no_range : (o : Option Declared) → o ≡ None → ◌≡◌ {A = Option Range} None (elim o [ None ↦ None | Some d ↦ d.range ])
no_range o e = rw e refl

used_ranged : (all : List Declared) (ps : List Piece) → Ranged all (filter_map (used_wire all) ps)
used_ranged all [] = tt
used_ranged all (whole name ∷ ps) =
    by_option (λ o. declaration_of all name.text ≡ o → Ranged all (cons_option (elim o [ None ↦ Some (record { name = name.text; range = None; tie = None }) | Some d ↦ None ]) (filter_map (used_wire all) ps))) (declaration_of all name.text)
    (λ d _ _. used_ranged all ps)
    (λ _ none. (no_range (declaration_of all name.text) none, used_ranged all ps)) refl
used_ranged all (bit name i ∷ ps) = used_ranged all ps
used_ranged all (part name left right ∷ ps) = used_ranged all ps
used_ranged all (constant values ∷ ps) = used_ranged all ps

statement_ranged : (all : List Declared) (s : Statement) → Ranged all (wires_in all s)
statement_ranged all (declares ds) = declared_ranged all ds
statement_ranged all (assigns a) = used_ranged all (pieces_in (assigns a))
statement_ranged all (places ps) = used_ranged all (pieces_in (places ps))

all_ranged : (all : List Declared) (ss : List Statement) → Ranged all (flat_map (wires_in all) ss)
all_ranged all [] = tt
all_ranged all (s ∷ ss) = ranged_append all (wires_in all s) (flat_map (wires_in all) ss) (statement_ranged all s) (all_ranged all ss)

new_has : (all : List Declared) (names : List (List ℕ)) (ws : List Wire) → Ranged all ws → (w : Wire) → In w ws → (is_among names w.name ≡ true) ⊎ HasNet all (new_wires names ws) w.name
new_has all names [] ranged w at = absurd at
new_has all names (v ∷ ws) ranged w at =
    by_bool (λ b. (is_among names w.name ≡ true) ⊎ HasNet all (if b then new_wires names ws else v ∷ new_wires (v.name ∷ names) ws) w.name) (is_among names v.name)
    (λ among. elim at [ inl e ↦ inl (subst (λ (u : Wire). is_among names u.name ≡ true) (sym e) among) | inr later ↦ new_has all names ws ranged.1 w later ])
    (λ apart. elim at [
      | inl e ↦ inr (v, inl refl, ap (λ (u : Wire). u.name) (sym e), ranged.0 ∙ ap (λ (u : Wire). range_named all u.name) (sym e))
      | inr later ↦ after (new_has all (v.name ∷ names) ws ranged.1 w later)
    ]) where
      after : (is_among (v.name ∷ names) w.name ≡ true) ⊎ HasNet all (new_wires (v.name ∷ names) ws) w.name → (is_among names w.name ≡ true) ⊎ HasNet all (v ∷ new_wires (v.name ∷ names) ws) w.name
      after (inl among) = elim (or_cases (same_text v.name w.name) (is_among names w.name) among) [
        | inl same ↦ inr (v, inl refl, same_is v.name w.name same, ranged.0 ∙ ap (range_named all) (same_is v.name w.name same))
        | inr earlier ↦ inl earlier
      ]
      after (inr net) = inr (net.0, inr net.1, net.2, net.3)

has_left : (all : List Declared) (xs ys : List Wire) (name : List ℕ) → HasNet all xs name → HasNet all (xs ++ ys) name
has_left all xs ys name net = (net.0, in_left net.0 xs ys net.1, net.2, net.3)

has_right : (all : List Declared) (xs ys : List Wire) (name : List ℕ) → HasNet all ys name → HasNet all (xs ++ ys) name
has_right all xs ys name net = (net.0, in_right net.0 xs ys net.1, net.2, net.3)

wire_net : (m : Written) → IsFromText m → Faultless m → (w : Wire) → In w (flat_map (wires_in (declarations m)) m.statements) → HasNet (declarations m) (nets_of m) w.name
wire_net m f ok w at =
    elim (new_has (declarations m) (port_names m) (flat_map (wires_in (declarations m)) m.statements) (all_ranged (declarations m) m.statements) w at) [
      | inl among ↦ has_left (declarations m) (map net_of_port (ports_of m)) (new_wires (port_names m) (flat_map (wires_in (declarations m)) m.statements)) w.name (port_net m f ok w.name among)
      | inr net ↦ has_right (declarations m) (map net_of_port (ports_of m)) (new_wires (port_names m) (flat_map (wires_in (declarations m)) m.statements)) w.name net
    ]

declared_in : (all : List Declared) (s : Statement) (d : Declared) → In d (declared_by s) → In (declared_wire all d) (wires_in all s)
declared_in all (declares ds) d at = in_map (declared_wire all) d ds at
declared_in all (assigns a) d at = absurd at
declared_in all (places ps) d at = absurd at

statement_of_declared : (ss : List Statement) (d : Declared) → In d (flat_map declared_by ss) → (s : Statement) × In s ss × In d (declared_by s)
statement_of_declared [] d h = absurd h
statement_of_declared (s ∷ ss) d h =
    elim (in_either d (declared_by s) (flat_map declared_by ss) h) [
      | inl now ↦ (s, inl refl, now)
      | inr later ↦ let more = statement_of_declared ss d later in (more.0, inr more.1, more.2)
    ]

declaration_net : (m : Written) → IsFromText m → Faultless m → (d : Declared) → In d (declarations m) → HasNet (declarations m) (nets_of m) d.name.text
declaration_net m f ok d at =
    elim (in_either d m.header (flat_map declared_by m.statements) at) [
      | inl now ↦
          has_left (declarations m) (map net_of_port (ports_of m)) (new_wires (port_names m) (flat_map (wires_in (declarations m)) m.statements)) d.name.text
          (port_net m f ok d.name.text (in_among (port_names m) d.name.text (in_left d.name.text (map (λ (c : Declared). c.name.text) m.header) (map (λ (t : Token). t.text) m.listed) (in_map (λ (c : Declared). c.name.text) d m.header now))))
      | inr later ↦
          let s = statement_of_declared m.statements d later in
          wire_net m f ok (declared_wire (declarations m) d) (in_flat (wires_in (declarations m)) m.statements s.0 (declared_wire (declarations m) d) s.1 (declared_in (declarations m) s.0 d s.2))
    ]

or_in : (all : List Declared) (name : List ℕ) (d : Declared) → option_or (find (is_port_of name) all) (find (is_of name) all) ≡ Some d → In d all × (is_of name d ≡ true)
or_in all name d h =
    by_option (λ o. find (is_port_of name) all ≡ o → option_or o (find (is_of name) all) ≡ Some d → In d all × (is_of name d ≡ true)) (find (is_port_of name) all)
    (λ c _ e same. let at = find_in (is_port_of name) all d (e ∙ same) in (at.0, (and_parts (is_port d) (is_of name d) at.1).1))
    (λ _ e same. find_in (is_of name) all d same) refl h

named_net : (m : Written) → IsFromText m → Faultless m → (name : List ℕ) (d : Declared) → declaration_of (declarations m) name ≡ Some d → HasNet (declarations m) (nets_of m) name
named_net m f ok name d is =
    let at = or_in (declarations m) name d is in
    subst (λ (n : List ℕ). HasNet (declarations m) (nets_of m) n) (same_is d.name.text name at.1) (declaration_net m f ok d at.0)

pub declares_nets : (m : Written) → IsFromText m → Faultless m → Declares (declarations m) (nets_of m)
declares_nets m f ok name range is =
    by_option (λ o. declaration_of (declarations m) name ≡ o → (elim o [ None ↦ None | Some d ↦ d.range ]) ≡ Some range → HasNet (declarations m) (nets_of m) name) (declaration_of (declarations m) name)
    (λ d _ e _. named_net m f ok name d e)
    (λ _ e none. absurd (none-some range none)) refl is

used_in : (all : List Declared) (ps : List Piece) (name : Token) → In (whole name) ps → declaration_of all name.text ≡ None → In (record { name = name.text; range = None; tie = None }) (filter_map (used_wire all) ps)
used_in all [] name at none = absurd at
used_in all (p ∷ ps) name (inl e) none =
    subst (λ (q : Piece). In (record { name = name.text; range = None; tie = None }) (cons_option (used_wire all q) (filter_map (used_wire all) ps))) e (here (declaration_of all name.text) none) where
      here : (o : Option Declared) → o ≡ None → In (record { name = name.text; range = None; tie = None }) (cons_option (elim o [ None ↦ Some (record { name = name.text; range = None; tie = None }) | Some d ↦ None ]) (filter_map (used_wire all) ps))
      here o e = rw e (inl refl)
used_in all (p ∷ ps) name (inr at) none =
    by_option (λ o. In (record { name = name.text; range = None; tie = None }) (cons_option o (filter_map (used_wire all) ps))) (used_wire all p) (λ x _. inr (used_in all ps name at none)) (λ _. used_in all ps name at none)

used_by : (all : List Declared) (s : Statement) (name : Token) → In (whole name) (pieces_in s) → declaration_of all name.text ≡ None → In (record { name = name.text; range = None; tie = None }) (wires_in all s)
used_by all (declares ds) name at none = absurd at
used_by all (assigns a) name at none = used_in all (pieces_in (assigns a)) name at none
used_by all (places ps) name at none = used_in all (pieces_in (places ps)) name at none

pub has_nets : (m : Written) → IsFromText m → Faultless m → (s : Statement) (p : Piece) → In s m.statements → In p (pieces_in s) → HasNets (declarations m) (nets_of m) p
has_nets m f ok s (whole name) at used =
    by_option (λ o. declaration_of (declarations m) name.text ≡ o → HasNet (declarations m) (nets_of m) name.text) (declaration_of (declarations m) name.text)
    (λ d _ e. named_net m f ok name.text d e)
    (λ _ none. wire_net m f ok (record { name = name.text; range = None; tie = None }) (in_flat (wires_in (declarations m)) m.statements s (record { name = name.text; range = None; tie = None }) at (used_by (declarations m) s name used none))) refl
has_nets m f ok s (bit name i) at used = tt
has_nets m f ok s (part name left right) at used = tt
has_nets m f ok s (constant values) at used = tt
