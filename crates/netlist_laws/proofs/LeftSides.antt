-- The left sides of assignments, as they are written, have nets alone.
use Rattle.sdc_base.proofs.CaseFacts.{by_bool}
use Rattle.netlist_laws.proofs.NetBits.{names_net}
use Rattle.netlist_model.specs.VerilogConstants.{number_of}
use Rattle.netlist_model.specs.VerilogStatements.{assigns, declares, places, Sides, sides_of, Statement, statement_at, statement_of}
use Rattle.netlist_model.specs.VerilogSyntax.{bit, is, net_piece, net_pieces, part, parts_of, Piece, selected, whole}
use Rattle.netlist_model.specs.VerilogTokens.{Token}
use Rattle.source_types.specs.declared.verilog_tokens.VerilogToken.TheVariants as kind
use Rattle.source_types.specs.declared.verilog_tokens.VerilogToken.{VerilogToken}
use Rattle.std.proofs.Common.{◌++◌, ◌∷◌, ◌≡◌, [], List, map, refl, true, ℕ}
use Rattle.std.specs.List.{before_first}
use Rattle.std.specs.Prelude.{if◌then◌else◌}

abbrev pub AllNet : List Piece → Type 0
AllNet [] = Unit {0}
AllNet (p ∷ ps) = (names_net p ≡ true) × AllNet ps

selected_net : (name : Token) (left : ℕ) (tokens : List Token) → names_net (selected name left tokens) ≡ true
selected_net name left [] = refl
selected_net name left (mark ∷ []) = refl
selected_net name left (mark ∷ right ∷ tokens) = by_bool (λ b. names_net (if b then part name left (number_of right.text) else bit name left) ≡ true) (is kind.Colon mark) (λ is. refl) (λ is. refl)

piece_net : (name : Token) (tokens : List Token) → names_net (net_piece name tokens) ≡ true
piece_net name [] = refl
piece_net name (mark ∷ []) = refl
piece_net name (mark ∷ left ∷ tokens) =
    by_bool (λ b. names_net (if b then selected name (number_of left.text) tokens else whole name) ≡ true) (is kind.OpenBracket mark) (λ is. selected_net name (number_of left.text) tokens) (λ is. refl)

pieces_net : (tokens : List Token) → AllNet (net_pieces tokens)
pieces_net [] = tt
pieces_net (token ∷ tokens) =
    by_bool (λ b. AllNet ((if b then net_piece token tokens ∷ [] else []) ++ net_pieces tokens)) (is kind.Name token)
    (λ name. (piece_net token tokens, pieces_net tokens))
    (λ other. pieces_net tokens)

-- left sides have nets alone
abbrev pub LeftNets : List Sides → Type 0
LeftNets [] = Unit {0}
LeftNets (s ∷ ss) = AllNet s.left × LeftNets ss

abbrev pub AssignsNets : Statement → Type 0
AssignsNets (assigns a) = LeftNets a.all
AssignsNets (declares ds) = Unit {0}
AssignsNets (places ps) = Unit {0}

lefts : (parts : List (List Token)) → LeftNets (map sides_of parts)
lefts [] = tt
lefts (p ∷ parts) = (pieces_net (before_first (is kind.Equals) p), lefts parts)

assigns_nets_at : (k : VerilogToken) (token : Token) (tokens : List Token) → AssignsNets (statement_at k token tokens)
assigns_nets_at kind.Assign token tokens = lefts (parts_of tokens)
assigns_nets_at kind.Name token tokens = tt
assigns_nets_at k token tokens = tt

assigns_nets : (tokens : List Token) → AssignsNets (statement_of tokens)
assigns_nets [] = tt
assigns_nets (token ∷ tokens) = assigns_nets_at token.kind token tokens

abbrev pub AllAssignNets : List Statement → Type 0
AllAssignNets [] = Unit {0}
AllAssignNets (s ∷ ss) = AssignsNets s × AllAssignNets ss

pub all_assign_nets : (parts : List (List Token)) → AllAssignNets (map statement_of parts)
all_assign_nets [] = tt
all_assign_nets (p ∷ parts) = (assigns_nets p, all_assign_nets parts)
