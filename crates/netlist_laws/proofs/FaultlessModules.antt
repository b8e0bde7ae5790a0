-- A module without faults, and the names of its ports.
use Rattle.std.proofs.lemmas.Bool.{and_from}
use Rattle.text_model.proofs.SameTexts.{text_same}
use Rattle.sdc_base.proofs.CaseFacts.{by_bool}
use Rattle.text_model.proofs.EachItem.{both_nothing}
use Rattle.text_model.proofs.Members.{among_in, any_in, from_map, In, in_either, in_left, no_map}
use Rattle.netlist_laws.proofs.NetDeclarations.{header_ports, no_header}
use Rattle.netlist_laws.proofs.NetNames.{ArePorts, Fresh, header_fresh, none_known, tokens_fresh}
use Rattle.netlist_laws.proofs.NetTexts.{IsFromText}
use Rattle.netlist_model.specs.Verilog.{module_wrongs, repeated, seconds, undeclared, uneven, unknown_in, wrong_at}
use Rattle.netlist_model.specs.VerilogNets.{is_of, is_port, is_port_of, pieces_in, port_names}
use Rattle.netlist_model.specs.VerilogStatements.{declarations, declared_by, Written}
use Rattle.netlist_model.specs.VerilogSyntax.{Declared, is, is_direction}
use Rattle.netlist_model.specs.VerilogTokens.{Token}
use Rattle.text_model.specs.Words.{is_among, same_text}
use Rattle.source_types.specs.declared.fault_kinds.VerilogKind.TheVariants.{DoubleName, InoutPort, UnknownNet, WidthMismatch}
use Rattle.source_types.specs.declared.verilog_tokens.VerilogToken.TheVariants as kind
use Rattle.std.proofs.Common.{◌++◌, ◌∙◌, ◌∷◌, ◌≡◌, [], ap, Bool, false, inl, inr, List, map, refl, subst, sym, true, ℕ}
use Rattle.std.proofs.lemmas.List.{append-nil}
use Rattle.std.specs.List.{flat_map, list_any}
use Rattle.std.specs.Prelude.{filter, if◌then◌else◌, not}

-- ---- a module without faults

pub record Faultless (m : Written) : Type 0 where
  pub inouts : m.inouts ≡ []
  pub listed : repeated [] m.listed ≡ []
  pub declared : seconds [] (declarations m) ≡ []
  pub even : flat_map (uneven (declarations m)) m.statements ≡ []
  pub ports : undeclared (declarations m) m.listed ≡ []
  pub known : flat_map (unknown_in (declarations m)) (flat_map pieces_in m.statements) ≡ []

pub faultless : (m : Written) → module_wrongs m ≡ [] → Faultless m
faultless m h =
    let inouts = map (wrong_at InoutPort) m.inouts in
    let doubles = map (wrong_at DoubleName) (repeated [] m.listed ++ seconds [] (declarations m)) in
    let widths = map (wrong_at WidthMismatch) (flat_map (uneven (declarations m)) m.statements) in
    let unknown = map (wrong_at UnknownNet) (undeclared (declarations m) m.listed ++ flat_map (unknown_in (declarations m)) (flat_map pieces_in m.statements)) in
    let c = both_nothing (inouts ++ doubles ++ widths) unknown h in
    let b = both_nothing (inouts ++ doubles) widths c.0 in
    let a = both_nothing inouts doubles b.0 in
    let names = both_nothing (repeated [] m.listed) (seconds [] (declarations m)) (no_map (wrong_at DoubleName) (repeated [] m.listed ++ seconds [] (declarations m)) a.1) in
    let nets = both_nothing (undeclared (declarations m) m.listed) (flat_map (unknown_in (declarations m)) (flat_map pieces_in m.statements)) (no_map (wrong_at UnknownNet) (undeclared (declarations m) m.listed ++ flat_map (unknown_in (declarations m)) (flat_map pieces_in m.statements)) c.1) in
    record {
      inouts = no_map (wrong_at InoutPort) m.inouts a.0;
      listed = names.0;
      declared = names.1;
      even = no_map (wrong_at WidthMismatch) (flat_map (uneven (declarations m)) m.statements) b.1;
      ports = nets.0;
      known = nets.1;
    }

-- ---- the names of its ports

own_ports : (m : Written) → IsFromText m → ArePorts m.header
own_ports m f = subst ArePorts (sym f.header) (header_ports f.header_tokens)

pub ports_named : (m : Written) → IsFromText m → Faultless m → Fresh [] (port_names m)
ports_named m f ok =
    by_bool (λ b. list_any is_direction f.header_tokens ≡ b → Fresh [] (port_names m)) (list_any is_direction f.header_tokens)
    (λ some _. with_header some)
    (λ none _. with_list none) refl where
      names : Fresh [] (map (λ (d : Declared). d.name.text) m.header)
      names = header_fresh [] [] m.header (flat_map declared_by m.statements) none_known tt (own_ports m f) ok.declared

      lists_none : list_any is_direction f.header_tokens ≡ true → m.listed ≡ []
      lists_none some = f.listed ∙ ap (λ b. if b then [] else filter (is kind.Name) f.header_tokens) some

      with_header : list_any is_direction f.header_tokens ≡ true → Fresh [] (port_names m)
      with_header some =
          subst (λ (ts : List Token). Fresh [] (map (λ (d : Declared). d.name.text) m.header ++ map (λ (t : Token). t.text) ts)) (sym (lists_none some))
          (subst (λ (ns : List (List ℕ)). Fresh [] ns) (sym (append-nil (map (λ (d : Declared). d.name.text) m.header))) names)

      with_list : list_any is_direction f.header_tokens ≡ false → Fresh [] (port_names m)
      with_list none =
          subst (λ (ds : List Declared). Fresh [] (map (λ (d : Declared). d.name.text) ds ++ map (λ (t : Token). t.text) m.listed)) (sym (f.header ∙ no_header f.header_tokens none))
          (tokens_fresh [] m.listed ok.listed)

port_in : (ds : List Declared) (d : Declared) → ArePorts ds → In d ds → is_port d ≡ true
port_in [] d h at = absurd at
port_in (c ∷ ds) d h (inl e) = subst (λ (x : Declared). is_port x ≡ true) (sym e) h.0
port_in (c ∷ ds) d h (inr at) = port_in ds d h.1 at

none_kept : (test : Token → Bool) (ts : List Token) (t : Token) → filter (λ x. not (test x)) ts ≡ [] → In t ts → test t ≡ true
none_kept test [] t h at = absurd at
none_kept test (x ∷ ts) t h at = cut (test x) refl (none_kept test ts t) h at where
  cut : (b : Bool) → test x ≡ b → (filter (λ y. not (test y)) ts ≡ [] → In t ts → test t ≡ true) → (if not b then x ∷ filter (λ y. not (test y)) ts else filter (λ y. not (test y)) ts) ≡ [] → In t (x ∷ ts) → test t ≡ true
  cut true e rest h (inl same) = subst (λ (y : Token). test y ≡ true) (sym same) e
  cut true e rest h (inr at) = rest h at
  cut false e rest h at = cc

-- each name of a port is declared as one
pub port_declared : (m : Written) → IsFromText m → Faultless m → (name : List ℕ) → is_among (port_names m) name ≡ true → list_any (is_port_of name) (declarations m) ≡ true
port_declared m f ok name h =
    elim (in_either name (map (λ (d : Declared). d.name.text) m.header) (map (λ (t : Token). t.text) m.listed) (among_in (port_names m) name h)) [
      | inl at ↦
          let d = from_map (λ (d : Declared). d.name.text) name m.header at in
          any_in (is_port_of name) (declarations m) d.0 (in_left d.0 m.header (flat_map declared_by m.statements) d.1)
          (and_from (is_port d.0) (is_of name d.0) (port_in m.header d.0 (own_ports m f) d.1) (subst (λ (n : List ℕ). same_text d.0.name.text n ≡ true) d.2 (text_same d.0.name.text)))
      | inr at ↦
          let t = from_map (λ (t : Token). t.text) name m.listed at in
          subst (λ (n : List ℕ). list_any (is_port_of n) (declarations m) ≡ true) t.2
          (none_kept (λ token. list_any (is_port_of token.text) (declarations m)) m.listed t.0 ok.ports t.1)
    ]
