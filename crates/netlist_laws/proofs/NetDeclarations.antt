-- What is declared in a text of a module: headers declare ports, and an `inout` is declared after its keyword.
use Rattle.sdc_base.proofs.CaseFacts.{by_bool}
use Rattle.text_model.proofs.Members.{In, in_either}
use Rattle.netlist_laws.proofs.NetNames.{ArePorts, ports_append}
use Rattle.netlist_model.specs.VerilogKinds.{same_kind}
use Rattle.netlist_model.specs.VerilogStatements.{declared_by, statement_at, statement_of}
use Rattle.netlist_model.specs.VerilogSyntax.{Declared, declared_as, header_declares, is, is_bound, is_direction, port, range_of, Role, role_of, statement_declares}
use Rattle.netlist_model.specs.VerilogTokens.{Token}
use Rattle.pin_types.specs.declared.library_cells.Direction.TheVariants.{Input, Other, Output}
use Rattle.pin_types.specs.declared.library_cells.Direction.{Direction}
use Rattle.source_types.specs.declared.netlists.Range.{Range}
use Rattle.source_types.specs.declared.verilog_tokens.VerilogToken.TheVariants as kind
use Rattle.source_types.specs.declared.verilog_tokens.VerilogToken.{VerilogToken}
use Rattle.std.proofs.Common.{◌++◌, ◌||◌, ◌∙◌, ◌∷◌, ◌≡◌, [], ap, Bool, false, inl, inr, List, map, None, Option, refl, Some, subst, sym, true}
use Rattle.std.specs.List.{before_first, list_any}
use Rattle.std.specs.Prelude.{filter, if◌then◌else◌}
use Rattle.token_grammar.proofs.Derivations.{by_option}

-- ---- directions

direction_role : (k : VerilogToken) → (same_kind kind.Input k || same_kind kind.Output k || same_kind kind.Inout k) ≡ true → (d : Direction) × (role_of k ≡ Some (port d))
direction_role kind.Input h = (Input, refl)
direction_role kind.Output h = (Output, refl)
direction_role kind.Inout h = (Other, refl)
direction_role k h = cc

inout_role : (k : VerilogToken) → role_of k ≡ Some (port Other) → same_kind kind.Inout k ≡ true
inout_role kind.Inout h = refl
inout_role k h = cc

-- ---- what is declared after a keyword

as_ports : (direction : Direction) (range : Option Range) (names : List Token) → ArePorts (map (λ (name : Token). record { name = name; role = port direction; range = range }) names)
as_ports direction range [] = tt
as_ports direction range (n ∷ names) = (refl, as_ports direction range names)

direction_ports : (token : Token) (tokens : List Token) → is_direction token ≡ true → ArePorts (statement_declares (token ∷ tokens))
direction_ports token tokens h =
    let role = direction_role token.kind h in
    subst (λ (o : Option Role). ArePorts (elim o [ None ↦ [] | Some role ↦ declared_as role tokens ])) (sym role.1)
    (as_ports role.0 (range_of (filter is_bound tokens)) (filter (is kind.Name) tokens))

pub header_ports : (tokens : List Token) → ArePorts (header_declares tokens)
header_ports [] = tt
header_ports (token ∷ tokens) =
    ports_append (if is_direction token then statement_declares (token ∷ before_first is_direction tokens) else []) (header_declares tokens)
    (by_bool (λ b. ArePorts (if b then statement_declares (token ∷ before_first is_direction tokens) else [])) (is_direction token)
    (λ is. direction_ports token (before_first is_direction tokens) is)
    (λ no. tt))
    (header_ports tokens)

-- a header without directions declares nothing
pub no_header : (tokens : List Token) → list_any is_direction tokens ≡ false → header_declares tokens ≡ []
no_header [] h = refl
no_header (token ∷ tokens) h = none (is_direction token) (no_header tokens) h where
  none : (b : Bool) → (list_any is_direction tokens ≡ false → header_declares tokens ≡ []) → (b || list_any is_direction tokens) ≡ false → (if b then statement_declares (token ∷ before_first is_direction tokens) else []) ++ header_declares tokens ≡ []
  none true rest h = cc
  none false rest h = rest h

-- all that is declared after a keyword has its role
role_in : (role : Role) (range : Option Range) (names : List Token) (d : Declared) → In d (map (λ (name : Token). record { name = name; role = role; range = range }) names) → d.role ≡ role
role_in role range [] d h = absurd h
role_in role range (n ∷ names) d (inl e) = ap (λ (c : Declared). c.role) e
role_in role range (n ∷ names) d (inr h) = role_in role range names d h

declared_inout : (token : Token) (tokens : List Token) (d : Declared) → In d (statement_declares (token ∷ tokens)) → d.role ≡ port Other → is kind.Inout token ≡ true
declared_inout token tokens d h e =
    by_option (λ o. role_of token.kind ≡ o → In d (elim o [ None ↦ [] | Some role ↦ declared_as role tokens ]) → is kind.Inout token ≡ true) (role_of token.kind)
    (λ role same known at. inout_role token.kind (known ∙ ap (λ (r : Role). Some r) (sym (role_in role (range_of (filter is_bound tokens)) (filter (is kind.Name) tokens) d at) ∙ e)))
    (λ none known at. absurd at)
    refl h

pub header_inout : (tokens : List Token) (d : Declared) → In d (header_declares tokens) → d.role ≡ port Other → (t : Token) × In t tokens × (is kind.Inout t ≡ true)
header_inout [] d h e = absurd h
header_inout (token ∷ tokens) d h e =
    elim (in_either d (if is_direction token then statement_declares (token ∷ before_first is_direction tokens) else []) (header_declares tokens) h) [
      | inl now ↦ (token, inl refl, first (is_direction token) now)
      | inr later ↦ let more = header_inout tokens d later e in (more.0, inr more.1, more.2)
    ] where
      first : (b : Bool) → In d (if b then statement_declares (token ∷ before_first is_direction tokens) else []) → is kind.Inout token ≡ true
      first true at = declared_inout token (before_first is_direction tokens) d at e
      first false at = absurd at

-- ---- statements

declares_at : (k : VerilogToken) (token : Token) (tokens : List Token) (d : Declared) → In d (declared_by (statement_at k token tokens)) → In d (statement_declares (token ∷ tokens))
declares_at kind.Assign token tokens d h = absurd h
declares_at kind.Name token tokens d h = absurd h
declares_at k token tokens d h = h

pub statement_inout : (tokens : List Token) (d : Declared) → In d (declared_by (statement_of tokens)) → d.role ≡ port Other → (t : Token) × In t tokens × (is kind.Inout t ≡ true)
statement_inout [] d h e = absurd h
statement_inout (token ∷ tokens) d h e = (token, inl refl, declared_inout token tokens d (declares_at token.kind token tokens d h) e)
