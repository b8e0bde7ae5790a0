-- What is connected and assigned in a module without faults are bits of its nets.
use Rattle.std.proofs.lemmas.Bool.{eqb-true, or_parts}
use Rattle.text_model.proofs.EachItem.{both_nothing, unless}
use Rattle.netlist_laws.proofs.FaultlessModules.{Faultless}
use Rattle.netlist_laws.proofs.LeftSides.{AllAssignNets, AllNet, AssignsNets, LeftNets}
use Rattle.text_model.proofs.Members.{In, in_flat, in_left, in_right, no_flat}
use Rattle.netlist_laws.proofs.NetBits.{Declares, driven_bits, HasNets, piece_ok}
use Rattle.netlist_laws.proofs.NetTexts.{IsFromText}
use Rattle.netlist_laws.proofs.NetsOfModules.{has_nets}
use Rattle.netlist_model.specs.Verilog.{is_empty, is_uneven, uneven, unknown_in}
use Rattle.netlist_model.specs.VerilogNets.{assign_from, assigns_in, bits_of, connected, instance_from, instances_in, links_of, nets_of, piece_bits, pieces_in}
use Rattle.netlist_model.specs.VerilogStatements.{assigns, Connections, declarations, declares, named, ordered, Placed, places, Sides, Statement, Written}
use Rattle.netlist_model.specs.VerilogSyntax.{Declared, Piece}
use Rattle.netlist_model.specs.VerilogTokens.{Token}
use Rattle.netlist_model.specs.WellFormedNetlist.{IsAssignOf, IsBitOf, IsDriven, linked}
use Rattle.source_types.specs.declared.netlists.Bit.{Bit}
use Rattle.source_types.specs.declared.netlists.Instance.{Instance}
use Rattle.source_types.specs.declared.netlists.Link.{Link}
use Rattle.std.proofs.Common.{◌++◌, ◌∷◌, ◌≡◌, [], Bool, false, inl, inr, length, List, map, refl, true}
use Rattle.std.proofs.lemmas.List.Elements.{All-append, All-cons, All-nil}
use Rattle.std.specs.List.{All, flat_map, list_any}
use Rattle.std.specs.Prelude.{◌&&◌, ◌==◌, not}

-- ---- bits of instances and assignments

-- pieces of a statement have known nets
abbrev Fine : Written → List Piece → Type 0
Fine m ps = (p : Piece) → In p ps → (unknown_in (declarations m) p ≡ []) × HasNets (declarations m) (nets_of m) p

pub fine_statement : (m : Written) → IsFromText m → Faultless m → (s : Statement) → In s m.statements → Fine m (pieces_in s)
fine_statement m f ok s at p used =
    (no_flat (unknown_in (declarations m)) (flat_map pieces_in m.statements) p ok.known (in_flat pieces_in m.statements s p at used), has_nets m f ok s p at used)

bits_fine : (m : Written) → Declares (declarations m) (nets_of m) → (ps : List Piece) → Fine m ps → All (IsBitOf (nets_of m)) (bits_of (declarations m) ps)
bits_fine m known [] fine = All-nil (IsBitOf (nets_of m))
bits_fine m known (p ∷ ps) fine =
    let first = fine p (inl refl) in
    All-append (IsBitOf (nets_of m)) (piece_bits (declarations m) p) (bits_of (declarations m) ps)
    (piece_ok (declarations m) (nets_of m) p known first.0 first.1)
    (bits_fine m known ps (λ q at. fine q (inr at)))

driven_fine : (m : Written) → Declares (declarations m) (nets_of m) → (ps : List Piece) → AllNet ps → Fine m ps → All (IsDriven (nets_of m)) (bits_of (declarations m) ps)
driven_fine m known [] nets fine = All-nil (IsDriven (nets_of m))
driven_fine m known (p ∷ ps) nets fine =
    let first = fine p (inl refl) in
    All-append (IsDriven (nets_of m)) (piece_bits (declarations m) p) (bits_of (declarations m) ps)
    (driven_bits (declarations m) (nets_of m) p known first.0 first.1 nets.0)
    (driven_fine m known ps nets.1 (λ q at. fine q (inr at)))

ordered_fine : (m : Written) → Declares (declarations m) (nets_of m) → (cs : List (List Piece)) → Fine m (flat_map (λ (ps : List Piece). ps) cs) → All (IsBitOf (nets_of m)) (flat_map (λ (c : List Bit). c) (map (bits_of (declarations m)) cs))
ordered_fine m known [] fine = All-nil (IsBitOf (nets_of m))
ordered_fine m known (c ∷ cs) fine =
    All-append (IsBitOf (nets_of m)) (bits_of (declarations m) c) (flat_map (λ (b : List Bit). b) (map (bits_of (declarations m)) cs))
    (bits_fine m known c (λ p at. fine p (in_left p c (flat_map (λ (ps : List Piece). ps) cs) at)))
    (ordered_fine m known cs (λ p at. fine p (in_right p c (flat_map (λ (ps : List Piece). ps) cs) at)))

named_fine : (m : Written) → Declares (declarations m) (nets_of m) → (cs : List (Token × List Piece)) → Fine m (flat_map (λ (c : Token × List Piece). c.1) cs)
    → All (IsBitOf (nets_of m)) (flat_map (λ (l : Link). l.bits) (map (λ (c : Token × List Piece). record { port = c.0.text; bits = bits_of (declarations m) c.1 }) cs))
named_fine m known [] fine = All-nil (IsBitOf (nets_of m))
named_fine m known (c ∷ cs) fine =
    All-append (IsBitOf (nets_of m)) (bits_of (declarations m) c.1) (flat_map (λ (l : Link). l.bits) (map (λ (d : Token × List Piece). record { port = d.0.text; bits = bits_of (declarations m) d.1 }) cs))
    (bits_fine m known c.1 (λ p at. fine p (in_left p c.1 (flat_map (λ (d : Token × List Piece). d.1) cs) at)))
    (named_fine m known cs (λ p at. fine p (in_right p c.1 (flat_map (λ (d : Token × List Piece). d.1) cs) at)))

links_fine : (m : Written) → Declares (declarations m) (nets_of m) → (c : Connections) → Fine m (connected c) → All (IsBitOf (nets_of m)) (linked (links_of (declarations m) c))
links_fine m known (ordered cs) fine = ordered_fine m known cs fine
links_fine m known (named cs) fine = named_fine m known cs fine

abbrev InstanceFine : Written → Instance → Type 0
InstanceFine m instance = All (IsBitOf (nets_of m)) (linked instance.links)

placed_fine : (m : Written) → Declares (declarations m) (nets_of m) → (ps : List Placed) → Fine m (flat_map (λ (p : Placed). connected p.connections) ps) → All (InstanceFine m) (map (instance_from (declarations m)) ps)
placed_fine m known [] fine = All-nil (InstanceFine m)
placed_fine m known (p ∷ ps) fine =
    All-cons (InstanceFine m) (instance_from (declarations m) p) (map (instance_from (declarations m)) ps)
    (links_fine m known p.connections (λ q at. fine q (in_left q (connected p.connections) (flat_map (λ (r : Placed). connected r.connections) ps) at)))
    (placed_fine m known ps (λ q at. fine q (in_right q (connected p.connections) (flat_map (λ (r : Placed). connected r.connections) ps) at)))

instances_of_statement : (m : Written) → Declares (declarations m) (nets_of m) → (s : Statement) → Fine m (pieces_in s) → All (InstanceFine m) (instances_in (declarations m) s)
instances_of_statement m ds (declares d) fine = All-nil (InstanceFine m)
instances_of_statement m ds (assigns a) fine = All-nil (InstanceFine m)
instances_of_statement m ds (places ps) fine = placed_fine m ds ps fine

pub instances_fine : (m : Written) → Declares (declarations m) (nets_of m) → (ss : List Statement) → ((s : Statement) → In s ss → Fine m (pieces_in s)) → All (InstanceFine m) (flat_map (instances_in (declarations m)) ss)
instances_fine m known [] fine = All-nil (InstanceFine m)
instances_fine m known (s ∷ ss) fine =
    All-append (InstanceFine m) (instances_in (declarations m) s) (flat_map (instances_in (declarations m)) ss)
    (instances_of_statement m known s (fine s (inl refl)))
    (instances_fine m known ss (λ t at. fine t (inr at)))

-- ---- assignments

empty_of : (ts : List Token) → ts ≡ [] → is_empty ts ≡ true
empty_of ts e = rw e refl

same_width : (a b : Bool) → (a && not b) ≡ false → a ≡ true → b ≡ true
same_width true true h e = refl
same_width true false h e = cc
same_width false b h e = cc

unknown_none : (all : List Declared) (ps : List Piece) → ((p : Piece) → In p ps → unknown_in all p ≡ []) → flat_map (unknown_in all) ps ≡ []
unknown_none all [] known = refl
unknown_none all (p ∷ ps) known = rw (known p (inl refl)) (unknown_none all ps (λ q at. known q (inr at)))

side_fine : (m : Written) → Declares (declarations m) (nets_of m) → (s : Sides) → AllNet s.left → is_uneven (declarations m) s ≡ false → Fine m (s.left ++ s.right) → IsAssignOf (nets_of m) (assign_from (declarations m) s)
side_fine m known s nets even fine =
    let none = empty_of (flat_map (unknown_in (declarations m)) (s.left ++ s.right)) (unknown_none (declarations m) (s.left ++ s.right) (λ p at. (fine p at).0)) in (
      eqb-true (length (bits_of (declarations m) s.left)) (length (bits_of (declarations m) s.right))
          (same_width (is_empty (flat_map (unknown_in (declarations m)) (s.left ++ s.right))) (length (bits_of (declarations m) s.left) == length (bits_of (declarations m) s.right)) even none),
      driven_fine m known s.left nets (λ p at. fine p (in_left p s.left s.right at)),
      bits_fine m known s.right (λ p at. fine p (in_right p s.left s.right at)),
    )

sides_fine : (m : Written) → Declares (declarations m) (nets_of m) → (ss : List Sides) → LeftNets ss → list_any (is_uneven (declarations m)) ss ≡ false → Fine m (flat_map (λ (s : Sides). s.left ++ s.right) ss) → All (IsAssignOf (nets_of m)) (map (assign_from (declarations m)) ss)
sides_fine m known [] nets even fine = All-nil (IsAssignOf (nets_of m))
sides_fine m known (s ∷ ss) nets even fine =
    let parts = or_parts (is_uneven (declarations m) s) (list_any (is_uneven (declarations m)) ss) even in
    All-cons (IsAssignOf (nets_of m)) (assign_from (declarations m) s) (map (assign_from (declarations m)) ss)
    (side_fine m known s nets.0 parts.0 (λ p at. fine p (in_left p (s.left ++ s.right) (flat_map (λ (t : Sides). t.left ++ t.right) ss) at)))
    (sides_fine m known ss nets.1 parts.1 (λ p at. fine p (in_right p (s.left ++ s.right) (flat_map (λ (t : Sides). t.left ++ t.right) ss) at)))

assigns_of_statement : (m : Written) → Declares (declarations m) (nets_of m) → (s : Statement) → AssignsNets s → uneven (declarations m) s ≡ [] → Fine m (pieces_in s) → All (IsAssignOf (nets_of m)) (assigns_in (declarations m) s)
assigns_of_statement m ds (declares d) nets even fine = All-nil (IsAssignOf (nets_of m))
assigns_of_statement m ds (assigns a) nets even fine = sides_fine m ds a.all nets (unless (list_any (is_uneven (declarations m)) a.all) a.keyword even) fine
assigns_of_statement m ds (places ps) nets even fine = All-nil (IsAssignOf (nets_of m))

pub assigns_fine : (m : Written) → Declares (declarations m) (nets_of m) → (ss : List Statement) → AllAssignNets ss → flat_map (uneven (declarations m)) ss ≡ [] → ((s : Statement) → In s ss → Fine m (pieces_in s)) → All (IsAssignOf (nets_of m)) (flat_map (assigns_in (declarations m)) ss)
assigns_fine m known [] nets even fine = All-nil (IsAssignOf (nets_of m))
assigns_fine m known (s ∷ ss) nets even fine =
    let parts = both_nothing (uneven (declarations m) s) (flat_map (uneven (declarations m)) ss) even in
    All-append (IsAssignOf (nets_of m)) (assigns_in (declarations m) s) (flat_map (assigns_in (declarations m)) ss)
    (assigns_of_statement m known s nets.0 parts.0 (fine s (inl refl)))
    (assigns_fine m known ss nets.1 parts.1 (λ t at. fine t (inr at)))
